-- The contexts of one call more, and how many there are.
use Rattle.std.proofs.Common.{◌≡◌, ℕ, suc, ◌+◌, ◌<◌, List, [], ◌∷◌, ◌++◌, length, get_or, drop, Option, Some, ap, sym, ◌∙◌, arith, append_assoc, length-append}
use Rattle.std.proofs.lemmas.List.{drop_more}
use Rattle.c_tree.specs.declared.control.UserCall.{UserCall}
use Rattle.call_contexts.specs.declared.context.Ctx.{Ctx}
use Rattle.call_contexts.specs.Calls.{calls_of}
use Rattle.call_contexts.specs.Contexts.{context, visit_calls, visit}

-- a context of its own in front of those of its calls
pub visit_opens : (rows : List (List UserCall)) (list now : List Ctx) (depth below me f : ℕ) (home : Option (ℕ × ℕ)) (calls : List UserCall) → depth ≡ suc below → me ≡ length list → calls ≡ calls_of rows f → now ≡ list ++ context f home ∷ [] →
    now ++ visit_calls (visit rows below) me (length now) calls ≡ list ++ visit rows depth (length list) f home
visit_opens rows list now depth below me f home calls is here theirs grown =
    let long : length (list ++ context f home ∷ []) ≡ length list + 1 = length-append list (context f home ∷ []) in
    ap (λ (cs : List UserCall). now ++ visit_calls (visit rows below) me (length now) cs) theirs
    ∙ ap (λ (n : ℕ). now ++ visit_calls (visit rows below) n (length now) (calls_of rows f)) here
    ∙ ap (λ (xs : List Ctx). xs ++ visit_calls (visit rows below) (length list) (length xs) (calls_of rows f)) grown
    ∙ ap (λ (n : ℕ). (list ++ context f home ∷ []) ++ visit_calls (visit rows below) (length list) n (calls_of rows f)) long
    ∙ append_assoc list (context f home ∷ []) (visit_calls (visit rows below) (length list) (length list + 1) (calls_of rows f))
    ∙ ap (λ (n : ℕ). list ++ visit rows n (length list) f home) (sym is)

-- what is part of a longer list is no longer than that
pub shorter : {A : Type 0} (xs ys zs us : List A) → xs ++ ys ≡ zs ++ us → length xs + length ys ≡ length zs + length us
shorter xs ys zs us e = sym (length-append xs ys) ∙ ap (λ l. length l) e ∙ length-append zs us

-- where the contexts of one call pass the limit, so do those of all
pub passes_limit : (below : ℕ → ℕ → Option (ℕ × ℕ) → List Ctx) (k i : ℕ) (calls : List UserCall) (old list all : List Ctx) → i < length calls →
    old ++ all ≡ list ++ visit_calls below k (length list) (drop i calls) →
    1024 < length list + length (below (length list) (get_or calls i (record { number = 0; caller = 0; callee = 0; at = 0 })).callee (Some (k, (get_or calls i (record { number = 0; caller = 0; callee = 0; at = 0 })).number))) →
    1024 < length old + length all
passes_limit below k i calls old list all within kept over =
    let c = get_or calls i (record { number = 0; caller = 0; callee = 0; at = 0 }) in
    let first = below (length list) c.callee (Some (k, c.number)) in
    let rest = visit_calls below k (length list + length first) (drop (i + 1) calls) in
    let same : length old + length all ≡ length list + length (first ++ rest) =
    shorter old all list (first ++ rest) (kept ∙ ap (λ cs. list ++ visit_calls below k (length list) cs) (drop_more calls i (record { number = 0; caller = 0; callee = 0; at = 0 }) within)) in
    let both : length (first ++ rest) ≡ length first + length rest = length-append first rest in
    omega arith
