-- Laws of logs: how one grows, and that clauses with a log are satisfied by no bits.
use Rattle.std.proofs.Common.{◌≡◌, ◌↔◌, ℕ, zero, suc, ◌+◌, ◌<◌, ◌≤◌, Bool, true, false, not, List, [], ◌∷◌, ◌++◌, length, replicate, slice_get, get_or, take, drop, Some, refl, sym, ap, ◌∙◌, subst, ◌⊎◌, inl, inr, arith, append_assoc, length-append}
use Rattle.std.specs.List.{Contains}
use Rattle.std.proofs.Math.Seq.{append_snoc, drop-cons}
use Rattle.std.proofs.lemmas.List.{append-nil, take-append-drop, length-replicate, take_more, take_all}
use Rattle.std.proofs.lemmas.List.Elements.{Contains-push, Contains-push_cases, Contains-append_right}
use Rattle.std.proofs.lemmas.Option.{slice_get-get_or}
use Rattle.sat_log.specs.declared.problem.Lit.{Lit}
use Rattle.sat_log.specs.declared.problem.Clauses.{Clauses}
use Rattle.sat_log.specs.declared.problem.Log.{Log}
use Rattle.sat_log.specs.Clauses.{opposite, MakesTrue, Satisfies, SatisfiesClause, AreBelow}
use Rattle.sat_log.specs.Refutation.{Clashes, Follows, IsLog}
use Rattle.sat_log.proofs.ClashLaws.{clash_implies, clashes_along, clashes_more}

-- the places of a list with one more element
split : {X : Type 0} (list : List X) (c : X) (before : List X) (d : X) (after : List X) → list ++ c ∷ [] ≡ before ++ d ∷ after
    → ((list ≡ before) × (c ≡ d)) ⊎ ((rest : List X) × (list ≡ before ++ d ∷ rest))
split [] c [] d after e = inl (refl, cc)
split [] c (x ∷ before) d after e = absurd (short before d after (cc))
  where
    short : {X : Type 0} (before : List X) (d : X) (after : List X) → [] ≡ before ++ d ∷ after → ⊥
    short [] d after e = cc
    short (x ∷ before) d after e = cc
split (y ∷ list) c [] d after e = inr (list, ap (λ z. z ∷ list) (cc))
split (y ∷ list) c (x ∷ before) d after e =
    let head : y ≡ x = cc in
    let tail : list ++ c ∷ [] ≡ before ++ d ∷ after = cc in
    elim (split list c before d after tail) [
      | inl h ↦ (let same : list ≡ before = h.0 in inl (cc, h.1))
      | inr h ↦ (let same : list ≡ before ++ d ∷ h.0 = h.1 in inr (h.0, cc))
    ]

pub follows_none : (clauses : List (List Lit)) → Follows clauses []
follows_none clauses [] c after e = absurd (cc)
follows_none clauses (x ∷ before) c after e = absurd (cc)

-- a clause that clashes over the clauses and the list may be put at its end
pub follows_more : (clauses list : List (List Lit)) (c : List Lit) → Follows clauses list → Clashes (clauses ++ list) c → Follows clauses (list ++ c ∷ [])
follows_more clauses list c known clash before d after e = elim (split list c before d after e) [
  | inl h ↦ subst (Clashes (clauses ++ before)) h.1 (subst (λ b. Clashes (clauses ++ b) c) h.0 clash)
  | inr h ↦ known before d h.0 h.1
]

-- over clauses that clash everything follows
pub follows_rest : (clauses before after : List (List Lit)) → Follows clauses before → Clashes (clauses ++ before) [] → Follows clauses (before ++ after)
follows_rest clauses before [] known clash = subst (Follows clauses) (sym (append-nil before)) known
follows_rest clauses before (c ∷ after) known clash =
    let here : Clashes (clauses ++ before) c = clashes_along (λ d i. i) (λ o i. absurd (omega (arith, i.1))) clash in
    let more : Clashes (clauses ++ (before ++ c ∷ [])) [] = subst (λ d. Clashes d []) (append_assoc clauses before (c ∷ [])) (clashes_more (c ∷ []) clash) in
    subst (Follows clauses) (append_snoc before c after) (follows_rest clauses (before ++ c ∷ []) after (follows_more clauses before c known here) more)

pub follows_all : (clauses list : List (List Lit)) (k : ℕ) → Follows clauses (take k list) → Clashes (clauses ++ take k list) [] → Follows clauses list
follows_all clauses list k known clash = subst (Follows clauses) (take-append-drop k list) (follows_rest clauses (take k list) (drop k list) known clash)

pub follows_next : (clauses list : List (List Lit)) (k : ℕ) (d : List Lit) → k < length list → Follows clauses (take k list) → Clashes (clauses ++ take k list) (get_or list k d) → Follows clauses (take (k + 1) list)
follows_next clauses list k d below known clash = subst (Follows clauses) (sym (take_more list k d below)) (follows_more clauses (take k list) (get_or list k d) known clash)

pub follows_whole : (clauses list : List (List Lit)) (k : ℕ) → length list ≤ k → Follows clauses (take k list) → Follows clauses list
follows_whole clauses list k long known = subst (Follows clauses) (take_all k list long) known

-- the clause at a place clashes over those before it
pub follows_at : (clauses list : List (List Lit)) (k : ℕ) (d : List Lit) → k < length list → Follows clauses list → Clashes (clauses ++ take k list) (get_or list k d)
follows_at clauses list k d below known =
    known (take k list) (get_or list k d) (drop (suc k) list) (sym (take-append-drop k list) ∙ ap (λ xs. take k list ++ xs) (drop-cons list k d below))

-- all literals of the clause are false, or one is true
pub false_or_true : (bits : List Bool) (c : List Lit) → ((o : Lit) → Contains c o → o.var < length bits) → ((o : Lit) → Contains c o → MakesTrue bits (opposite o)) ⊎ SatisfiesClause bits c
false_or_true bits [] below = inl (λ o i. absurd (omega (arith, i.1)))
false_or_true bits (l ∷ c) below = by_first bits l c (bit_cases bits l (below l (0, omega arith, refl))) (false_or_true bits c (λ o i. below o (later l c o i)))
  where
    later : (l : Lit) (c : List Lit) (o : Lit) → Contains c o → Contains (l ∷ c) o
    later l c o i = (suc i.0, omega (arith, i.1), i.2)

    bit_of : (b y : Bool) → (b ≡ not y) ⊎ (b ≡ y)
    bit_of true true = inr refl
    bit_of true false = inl refl
    bit_of false true = inl refl
    bit_of false false = inr refl

    bit_cases : (bits : List Bool) (l : Lit) → l.var < length bits → MakesTrue bits (opposite l) ⊎ MakesTrue bits l
    bit_cases bits l h =
        let at : slice_get bits l.var ≡ Some (get_or bits l.var false) = slice_get-get_or bits l.var false h in
        elim (bit_of (get_or bits l.var false) l.yes) [
          | inl e ↦ inl (at ∙ ap Some e)
          | inr e ↦ inr (at ∙ ap Some e)
        ]

    first_or_later : (c : List Lit) (l o : Lit) → Contains (l ∷ c) o → (l ≡ o) ⊎ Contains c o
    first_or_later c l o (zero, h, e) = inl e
    first_or_later c l o (suc k, h, e) = inr (k, omega arith, e)

    by_first : (bits : List Bool) (l : Lit) (c : List Lit) → MakesTrue bits (opposite l) ⊎ MakesTrue bits l → ((o : Lit) → Contains c o → MakesTrue bits (opposite o)) ⊎ SatisfiesClause bits c
        → ((o : Lit) → Contains (l ∷ c) o → MakesTrue bits (opposite o)) ⊎ SatisfiesClause bits (l ∷ c)
    by_first bits l c (inr h) rest = inr (l, (0, omega arith, refl), h)
    by_first bits l c (inl h) (inr s) = inr (s.0, later l c s.0 s.1, s.2)
    by_first bits l c (inl h) (inl all) = inl (λ o i. elim (first_or_later c l o i) [ inl e ↦ subst (λ m. MakesTrue bits (opposite m)) e h | inr j ↦ all o j ])

-- bits for all its variables that satisfy the clauses satisfy a clause that clashes over them
pub clash_satisfies : {clauses : List (List Lit)} {c : List Lit} (bits : List Bool) → ((o : Lit) → Contains c o → o.var < length bits) → Satisfies bits clauses → Clashes clauses c → SatisfiesClause bits c
clash_satisfies {clauses} {c} bits below sat clash = elim (false_or_true bits c below) [
  | inl all ↦ absurd (clash_implies bits sat all clash)
  | inr s ↦ s
]

satisfies_push : (bits : List Bool) (clauses : List (List Lit)) (c : List Lit) → Satisfies bits clauses → SatisfiesClause bits c → Satisfies bits (clauses ++ c ∷ [])
satisfies_push bits clauses c sat s d i = elim (Contains-push_cases clauses c d i) [ inl j ↦ sat d j | inr e ↦ subst (SatisfiesClause bits) e s ]

-- bits for all variables that satisfy the clauses satisfy what follows from them
pub follows_satisfied : (clauses : List (List Lit)) (bits : List Bool) (list : List (List Lit)) → AreBelow (length bits) list → Follows clauses list → Satisfies bits clauses → Satisfies bits (clauses ++ list)
follows_satisfied clauses bits list below known sat = from [] list refl (subst (Satisfies bits) (sym (append-nil clauses)) sat)
  where
    from : (before after : List (List Lit)) → list ≡ before ++ after → Satisfies bits (clauses ++ before) → Satisfies bits (clauses ++ list)
    from before [] e s = subst (λ b. Satisfies bits (clauses ++ b)) (sym (e ∙ append-nil before)) s
    from before (c ∷ after) e s =
        let here : Contains list c = subst (λ (xs : List (List Lit)). Contains xs c) (sym e) (Contains-append_right before (c ∷ after) c (0, omega arith, refl)) in
        from (before ++ c ∷ []) after (e ∙ sym (append_snoc before c after))
        (subst (Satisfies bits) (append_assoc clauses before (c ∷ [])) (satisfies_push bits (clauses ++ before) c s (clash_satisfies bits (below c here) s (known before c after e))))

slice_get-append : {X : Type 0} (xs ys : List X) (i : ℕ) (x : X) → slice_get xs i ≡ Some x → slice_get (xs ++ ys) i ≡ Some x
slice_get-append [] ys i x h = absurd (cc)
slice_get-append (y ∷ xs) ys zero x h = h
slice_get-append (y ∷ xs) ys (suc i) x h = slice_get-append xs ys i x h

-- bits of more variables
satisfies_wider : (clauses : List (List Lit)) (bits more : List Bool) → Satisfies bits clauses → Satisfies (bits ++ more) clauses
satisfies_wider clauses bits more sat c i = let s : SatisfiesClause bits c = sat c i in (s.0, s.1, slice_get-append bits more s.0.var s.0.yes s.2)

-- no bits satisfy clauses that a log refutes
pub log_refutes : {clauses : Clauses} {log : Log} → IsLog clauses log → (bits : List Bool) → Satisfies bits clauses.list → ⊥
log_refutes {clauses} {log} h bits sat =
    let wide : List Bool = bits ++ replicate clauses.vars false in
    let enough : clauses.vars ≤ length wide = (let e : length wide ≡ length bits + length (replicate clauses.vars false) = length-append bits (replicate clauses.vars false) in let n : length (replicate clauses.vars false) ≡ clauses.vars = length-replicate clauses.vars false in omega arith) in
    let below : AreBelow (length wide) log.list = (λ c i l j. let small : l.var < clauses.vars = h.below c i l j in omega arith) in
    let all : Satisfies wide (clauses.list ++ log.list) = follows_satisfied clauses.list wide log.list below h.follows (satisfies_wider clauses.list bits (replicate clauses.vars false) sat) in
    let last : Contains log.list [] = subst (λ (xs : List (List Lit)). Contains xs []) (sym h.ends.1) (Contains-push h.ends.0 []) in
    let s : SatisfiesClause wide [] = all [] (Contains-append_right clauses.list log.list [] last) in
    omega (arith, s.1.1)

-- what a check of the parts says of the log
pub log_exact : (clauses : Clauses) (log : Log) (given list : List (List Lit)) (b : Bool) → given ≡ clauses.list → list ≡ log.list → AreBelow clauses.vars list → (before : List (List Lit)) × (list ≡ before ++ [] ∷ []) → (b ≡ true ↔ Follows given list) → (b ≡ true ↔ IsLog clauses log)
log_exact clauses log given list b same_given same_list below ends exact = (
  λ h.
      record {
        below = subst (AreBelow clauses.vars) same_list below;
        follows = subst (Follows clauses.list) same_list (subst (λ g. Follows g list) same_given (exact.0 h));
        ends = (ends.0, sym same_list ∙ ends.1);
      },
  λ h. exact.1 (subst (λ g. Follows g list) (sym same_given) (subst (Follows clauses.list) (sym same_list) h.follows)),
)

pub no_log_of_wide : (clauses : Clauses) (log : Log) (list : List (List Lit)) → list ≡ log.list → ¬ AreBelow clauses.vars list → ¬ IsLog clauses log
no_log_of_wide clauses log list same not_so h = not_so (subst (AreBelow clauses.vars) (sym same) h.below)
