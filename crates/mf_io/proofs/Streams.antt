-- One call after another.
use Rattle.std.proofs.Common.{◌≡◌, ℕ, ◌+◌, ◌-◌, Option, None, Some, List, ◌++◌, length, take, drop, sym, ap, ◌∙◌, append_assoc, subst}
use Rattle.std.proofs.Math.Seq.{take-add}
use Rattle.std.proofs.lemmas.List.{take_rest, take-append-drop, take_at, drop-drop}
use Rattle.mf_io.specs.Bytes.{Gives, Takes}

-- what two reads gave, in one
pub Gives-then : (a b c : Option (List ℕ)) (xs ys : List ℕ) → Gives a b xs → Gives b c ys → Gives a c (xs ++ ys)
Gives-then None None None xs ys first second = tt
Gives-then None None (Some c) xs ys first second = absurd second
Gives-then None (Some b) c xs ys first second = absurd first
Gives-then (Some a) None c xs ys first second = absurd first
Gives-then (Some a) (Some b) None xs ys first second = absurd second
Gives-then (Some a) (Some b) (Some c) xs ys first second = first ∙ ap (λ zs. xs ++ zs) second ∙ sym (append_assoc xs ys c)

-- what two writes took, in one
pub Takes-then : (a b c : Option (List ℕ)) (xs ys : List ℕ) → Takes a b xs → Takes b c ys → Takes a c (xs ++ ys)
Takes-then None None None xs ys first second = tt
Takes-then None None (Some c) xs ys first second = absurd second
Takes-then None (Some b) c xs ys first second = absurd first
Takes-then (Some a) None c xs ys first second = absurd first
Takes-then (Some a) (Some b) None xs ys first second = absurd second
Takes-then (Some a) (Some b) (Some c) xs ys first second = second ∙ ap (λ zs. zs ++ ys) first ∙ append_assoc a xs ys

-- the front of the piece, and then the front of the rest
front_then : (piece : List ℕ) (n k : ℕ) → take n piece ++ take k (take (length piece - n) (drop n piece)) ≡ take (n + k) piece
front_then piece n k = ap (λ rest. take n piece ++ take k rest) (take_rest piece n) ∙ sym (take-add n k piece)

pub Takes-more : (a b c : Option (List ℕ)) (piece : List ℕ) (n k : ℕ) → Takes a b (take n piece)
    → Takes b c (take k (take (length piece - n) (drop n piece))) → Takes a c (take (n + k) piece)
Takes-more a b c piece n k first second =
    let P : List ℕ → Type 0 = λ taken. Takes a c taken in
    subst P (front_then piece n k) (Takes-then a b c _ _ first second)

-- bytes are given from the front of a room: what was left is these, and then what is left
pub gives_front : (bytes room copied : List ℕ) (given count : ℕ)
    → copied ≡ take count (take (length bytes - given) (drop given bytes))
    → length copied ≡ count
    → drop given bytes ≡ take count (copied ++ drop count room) ++ drop (given + count) bytes
gives_front bytes room copied given count is_front fits =
    let rest : List ℕ = drop given bytes in
    let front : copied ≡ take count rest = is_front ∙ ap (λ xs. take count xs) (take_rest bytes given) in
    let whole : rest ≡ copied ++ drop count rest = sym (take-append-drop count rest) ∙ ap (λ xs. xs ++ drop count rest) (sym front) in
    whole ∙ ap (λ xs. xs ++ drop count rest) (sym (take_at copied (drop count room) count fits))
    ∙ ap (λ xs. take count (copied ++ drop count room) ++ xs) (drop-drop count given bytes)
