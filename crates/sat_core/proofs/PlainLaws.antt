-- The plain search: what bits of the first variables lead to.
use Rattle.std.proofs.Common.{◌≡◌, ℕ, zero, suc, ◌+◌, ◌<◌, ◌≤◌, Bool, true, false, not, List, [], ◌∷◌, ◌++◌, length, get_or, slice_get, take, Some, refl, sym, ap, ◌∙◌, subst, inl, inr, arith}
use Rattle.std.specs.List.{Contains, All}
use Rattle.std.proofs.lemmas.List.Elements.{All-contains, All-weaker, All-contains_itself, Contains-push, Contains-append_left, Contains-append_right}
use Rattle.std.proofs.lemmas.List.{take_more, length-take-le}
use Rattle.sat_log.specs.declared.problem.Lit.{Lit}
use Rattle.sat_log.specs.declared.problem.Clauses.{Clauses}
use Rattle.sat_log.specs.Clauses.{opposite, MakesTrue, AreBelow}
use Rattle.sat_log.specs.Refutation.{Falls, Clashes}
use Rattle.sat_log.proofs.ClashLaws.{opposite-opposite, clashes_split}
use Rattle.sat_log.proofs.LogLaws.{false_or_true}
use Rattle.sat_core.specs.Bits.{IsFalse, HasFalse, against, against_from, IsLast, IsModel, Keeps}
use Rattle.sat_core.proofs.ListLaws.{Contains-take_cases}

-- the clauses one by one

pub none_more : (bits : List Bool) (list : List (List Lit)) (i : ℕ) (d : List Lit) → i < length list → ((c : List Lit) → Contains (take i list) c → IsFalse bits c → ⊥) → (IsFalse bits (get_or list i d) → ⊥)
    → (c : List Lit) → Contains (take (i + 1) list) c → IsFalse bits c → ⊥
none_more bits list i d below none here c at h = elim (Contains-take_cases list i d c below at) [
  | inl j ↦ none c j h
  | inr e ↦ here (subst (IsFalse bits) (sym e) h)
]

-- the clause against bits

against_from-push : (n : ℕ) (bits : List Bool) (b : Bool) → against_from n (bits ++ b ∷ []) ≡ against_from n bits ++ record { var = n + length bits; yes = not b } ∷ []
against_from-push n [] b = let e : n ≡ n + 0 = omega arith in ap (λ (k : ℕ). let l : Lit = record { var = k; yes = not b } in l ∷ []) e
against_from-push n (x ∷ bits) b =
    let e : suc n + length bits ≡ n + suc (length bits) = omega arith in
    let x' : Lit = record { var = n; yes = not x } in
    ap (λ (ls : List Lit). x' ∷ ls) (against_from-push (suc n) bits b ∙ ap (λ (k : ℕ). let l : Lit = record { var = k; yes = not b } in against_from (suc n) bits ++ l ∷ []) e)

pub against-push : (bits : List Bool) (b : Bool) → against (bits ++ b ∷ []) ≡ against bits ++ record { var = length bits; yes = not b } ∷ []
against-push bits b =
    let e : 0 + length bits ≡ length bits = omega arith in
    against_from-push 0 bits b ∙ ap (λ (k : ℕ). let l : Lit = record { var = k; yes = not b } in against bits ++ l ∷ []) e

-- the loop that makes it
pub against-take : (bits : List Bool) (i : ℕ) (d : Bool) → i < length bits → against (take (i + 1) bits) ≡ against (take i bits) ++ record { var = i; yes = not (get_or bits i d) } ∷ []
against-take bits i d below =
    let e : length (take i bits) ≡ i = length-take-le i bits (omega arith) in
    ap against (take_more bits i d below) ∙ against-push (take i bits) (get_or bits i d)
    ∙ ap (λ (k : ℕ). let l : Lit = record { var = k; yes = not (get_or bits i d) } in against (take i bits) ++ l ∷ []) e

against_from-below : (n : ℕ) (bits : List Bool) → All (λ (l : Lit). l.var < n + length bits) (against_from n bits)
against_from-below n bits = All-weaker (λ (l : Lit). Contains (against_from n bits) l) (λ (l : Lit). l.var < n + length bits) (λ l i. below n bits l i) (against_from n bits) (All-contains_itself (against_from n bits))
  where
    below : (n : ℕ) (bits : List Bool) (l : Lit) → Contains (against_from n bits) l → l.var < n + length bits
    below n [] l i = absurd (omega (arith, i.1))
    below n (b ∷ bits) l (zero, h, e) = let s : n ≡ l.var = ap (λ (m : Lit). m.var) e in omega arith
    below n (b ∷ bits) l (suc k, h, e) = let r : l.var < suc n + length bits = below (suc n) bits l (k, omega arith, e) in omega arith

pub against-below : (vars : ℕ) (bits : List Bool) → length bits ≤ vars → All (λ (l : Lit). l.var < vars) (against bits)
against-below vars bits room = All-weaker (λ (l : Lit). l.var < 0 + length bits) (λ (l : Lit). l.var < vars) (λ l h. omega arith) (against bits) (against_from-below 0 bits)

against_from-has : (n : ℕ) (bits : List Bool) (k : ℕ) (b : Bool) → slice_get bits k ≡ Some b → Contains (against_from n bits) (record { var = n + k; yes = not b })
against_from-has n [] k b h = absurd (cc)
against_from-has n (x ∷ bits) zero b h =
    let s : x ≡ b = cc in
    let e : n ≡ n + 0 = omega arith in
    (0, omega arith, λ i. record { var = e i; yes = not (s i) })
against_from-has n (x ∷ bits) (suc k) b h =
    let e : suc n + k ≡ n + suc k = omega arith in
    let r : Contains (against_from (suc n) bits) (record { var = n + suc k; yes = not b }) =
    subst (λ (m : ℕ). let l : Lit = record { var = m; yes = not b } in Contains (against_from (suc n) bits) l) e (against_from-has (suc n) bits k b h) in
    (suc r.0, omega (arith, r.1), r.2)

-- a literal that the bits make false is in the clause against them
against-has : (bits : List Bool) (l : Lit) → MakesTrue bits (opposite l) → Contains (against bits) l
against-has bits l h =
    let e : 0 + l.var ≡ l.var = omega arith in
    let at : Contains (against bits) (record { var = 0 + l.var; yes = not (not l.yes) }) = against_from-has 0 bits l.var (not l.yes) h in
    subst (Contains (against bits)) (opposite-opposite l) (subst (λ (m : ℕ). let o : Lit = record { var = m; yes = not (not l.yes) } in Contains (against bits) o) e at)

-- the two ends of a branch, and its inside

pub leaf_clashes : (clauses more : List (List Lit)) (bits : List Bool) → HasFalse bits clauses → Clashes (clauses ++ more) (against bits)
leaf_clashes clauses more bits (c, known, all) =
    Clashes.emptied c (Contains-append_left clauses more c known)
    (λ o i. Falls.assumed o (against-has bits o (All-contains (λ (l : Lit). MakesTrue bits (opposite l)) c o all i)))

pub model_of : (clauses : Clauses) (bits : List Bool) → AreBelow clauses.vars clauses.list → length bits ≡ clauses.vars → (HasFalse bits clauses.list → ⊥) → IsModel clauses bits
model_of clauses bits below all none = record {
  all = all;
  satisfies = λ c i. elim (false_or_true bits c (λ o j. let b : o.var < clauses.vars = below c i o j in omega arith)) [
    | inl h ↦ absurd (none (c, i, All-weaker (Contains c) (λ (l : Lit). MakesTrue bits (opposite l)) h c (All-contains_itself c)))
    | inr s ↦ s
  ];
}

not_both : (b : Bool) → Some b ≡ Some (not b) → ⊥
not_both true e = cc
not_both false e = cc

-- bits that satisfy all clauses make none of them false
pub model_not_false : (clauses : Clauses) (bits : List Bool) → IsModel clauses bits → HasFalse bits clauses.list → ⊥
model_not_false clauses bits m h =
    let s = m.satisfies h.0 h.1 in
    not_both s.0.yes (sym s.2 ∙ All-contains (λ (l : Lit). MakesTrue bits (opposite l)) h.0 s.0 h.2 s.1)

pub branch_clashes : (clauses log : List (List Lit)) (bits : List Bool) → Contains log (against (bits ++ false ∷ [])) → Contains log (against (bits ++ true ∷ [])) → Clashes (clauses ++ log) (against bits)
branch_clashes clauses log bits below above =
    clashes_split (against bits) (record { var = length bits; yes = true }) (record { var = length bits; yes = false }) refl
    (Contains-append_right clauses log _ (subst (Contains log) (against-push bits false) below))
    (Contains-append_right clauses log _ (subst (Contains log) (against-push bits true) above))

pub keeps_along : (a b c : List (List Lit)) → Keeps a b → Keeps b c → Keeps a c
keeps_along a b c h k = record { each = λ d i. k.each d (h.each d i) }

pub keeps_more : (old new : List (List Lit)) (c : List Lit) → new ≡ old ++ c ∷ [] → Keeps old new
keeps_more old new c e = record { each = λ d i. subst (λ (list : List (List Lit)). Contains list d) (sym e) (Contains-append_left old (c ∷ []) d i) }

pub last_has : (list : List (List Lit)) (c : List Lit) → IsLast list c → Contains list c
last_has list c (before, e) = subst (λ (l : List (List Lit)). Contains l c) (sym e) (Contains-push before c)
