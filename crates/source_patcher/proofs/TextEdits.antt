-- A text in which bytes between places become others: the last edit can be made first.
use Rattle.std.proofs.Common.{◌≡◌, ℕ, ◌+◌, ◌-◌, ◌≤◌, List, [], ◌∷◌, ◌++◌, length, take, drop, sym, ap, ◌∙◌, arith, append_assoc}
use Rattle.std.proofs.lemmas.List.{take-append-drop, take-append-le, length-take-le, drop-drop, drop_at, take-take}
use Rattle.std.proofs.Math.Seq.{take-add}

-- the bytes from `start` to `end` become the text
pub record TextEdit : Type 0 where
  pub start : ℕ
  pub end : ℕ
  pub text : List ℕ

-- the bytes from the offset `at` on, with the edits made in turn
abbrev pub with_edits : ℕ → List TextEdit → List ℕ → List ℕ
with_edits at [] bytes = bytes
with_edits at (e ∷ es) bytes = take (e.start - at) bytes ++ e.text ++ with_edits e.end es (drop (e.end - at) bytes)

-- one edit of a whole text
abbrev pub with_one : TextEdit → List ℕ → List ℕ
with_one e bytes = take e.start bytes ++ e.text ++ drop e.end bytes

-- the first edit begins at this offset or behind it, and ends within the text
abbrev pub BeginsFrom : ℕ → ℕ → List TextEdit → Type 0
BeginsFrom k size [] = k ≤ size
BeginsFrom k size (e ∷ es) = (k ≤ e.start) × (e.start ≤ e.end) × (e.end ≤ size)

-- up to a place before the edits all bytes stay
pub edits_behind : (n : ℕ) (es : List TextEdit) (bytes : List ℕ) → BeginsFrom n (length bytes) es → with_edits 0 es bytes ≡ take n bytes ++ with_edits n es (drop n bytes)
edits_behind n [] bytes within = sym (take-append-drop n bytes)
edits_behind n (e ∷ es) bytes within =
    let z : e.start - 0 ≡ e.start = omega arith in
    let y : e.end - 0 ≡ e.end = omega arith in
    let s : e.start ≡ n + (e.start - n) = omega (arith, within.0) in
    let t : n + (e.end - n) ≡ e.end = omega (arith, within.0, within.1) in
    let front : take e.start bytes ≡ take n bytes ++ take (e.start - n) (drop n bytes) = ap (λ k. take k bytes) s ∙ take-add n (e.start - n) bytes in
    let back : drop (e.end - n) (drop n bytes) ≡ drop e.end bytes = drop-drop (e.end - n) n bytes ∙ ap (λ k. drop k bytes) t in
    let W : List ℕ → List ℕ = λ rest. with_edits e.end es rest in
    ap (λ k. take k bytes ++ e.text ++ W (drop (e.end - 0) bytes)) z
    ∙ ap (λ k. take e.start bytes ++ e.text ++ W (drop k bytes)) y
    ∙ ap (λ xs. xs ++ e.text ++ W (drop e.end bytes)) front
    ∙ ap (λ xs. xs ++ W (drop e.end bytes)) (append_assoc (take n bytes) (take (e.start - n) (drop n bytes)) e.text)
    ∙ append_assoc (take n bytes) (take (e.start - n) (drop n bytes) ++ e.text) (W (drop e.end bytes))
    ∙ ap (λ xs. take n bytes ++ (take (e.start - n) (drop n bytes) ++ e.text ++ W xs)) (sym back)

-- the first edit is made on the text in which the others are made
pub first_last : (e : TextEdit) (es : List TextEdit) (bytes : List ℕ) → e.start ≤ e.end → BeginsFrom e.end (length bytes) es → e.end ≤ length bytes
    → with_edits 0 (e ∷ es) bytes ≡ with_one e (with_edits 0 es bytes)
first_last e es bytes order behind within =
    let z : e.start - 0 ≡ e.start = omega arith in
    let y : e.end - 0 ≡ e.end = omega arith in
    let W = with_edits e.end es (drop e.end bytes) in
    let front = take e.end bytes in
    let size : length front ≡ e.end = length-take-le e.end bytes within in
    let whole : with_edits 0 es bytes ≡ front ++ W = edits_behind e.end es bytes behind in
    let kept : take e.start (front ++ W) ≡ take e.start bytes =
    take-append-le e.start front W (omega (arith, size, order)) ∙ take-take e.start e.end bytes order in
    ap (λ k. take k bytes ++ e.text ++ with_edits e.end es (drop (e.end - 0) bytes)) z
    ∙ ap (λ k. take e.start bytes ++ e.text ++ with_edits e.end es (drop k bytes)) y
    ∙ ap (λ xs. xs ++ e.text ++ W) (sym kept)
    ∙ ap (λ xs. take e.start (front ++ W) ++ e.text ++ xs) (sym (drop_at front W e.end size))
    ∙ ap (with_one e) (sym whole)
