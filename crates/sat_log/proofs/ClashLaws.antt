-- Laws of unit propagation: more clauses make more literals fall, and no bits satisfy clauses and make a
-- list of literals false that clashes.
use Rattle.std.proofs.Common.{◌≡◌, ◌≢◌, Bool, true, false, not, List, [], ◌∷◌, ◌++◌, Some, refl, sym, ap, ◌∙◌, subst, ◌⊎◌, inl, inr}
use Rattle.std.specs.List.{Contains}
use Rattle.std.proofs.lemmas.Bool.{cases_eq}
use Rattle.std.proofs.lemmas.List.Elements.{Contains-push, Contains-push_cases, Contains-append_left}
use Rattle.sat_log.specs.declared.problem.Lit.{Lit}
use Rattle.sat_log.specs.Clauses.{opposite, MakesTrue, Satisfies, SatisfiesClause}
use Rattle.sat_log.specs.Refutation.{Falls, Clashes}

not-not : (b : Bool) → not (not b) ≡ b
not-not true = refl
not-not false = refl

pub opposite-opposite : (l : Lit) → opposite (opposite l) ≡ l
opposite-opposite l = ap (λ (b : Bool). let m : Lit = record { var = l.var; yes = b } in m) (not-not l.yes)

pub opposite-back : (l m : Lit) → m ≡ opposite l → opposite m ≡ l
opposite-back l m e = ap opposite e ∙ opposite-opposite l

same_bit : (a b : Bool) → (a ≡ b) ⊎ (a ≢ b)
same_bit true true = inl refl
same_bit true false = inr (λ e. cc)
same_bit false true = inr (λ e. cc)
same_bit false false = inl refl

same_lit : (a b : Lit) → (a.var ≡ b.var) ⊎ (a.var ≢ b.var) → (a.yes ≡ b.yes) ⊎ (a.yes ≢ b.yes) → (a ≡ b) ⊎ (a ≢ b)
same_lit a b (inl p) (inl q) = inl (λ i. record { var = p i; yes = q i })
same_lit a b (inr p) q = inr (λ e. p (ap (λ (l : Lit). l.var) e))
same_lit a b p (inr q) = inr (λ e. q (ap (λ (l : Lit). l.yes) e))

pub lit_same_or_other : (a b : Lit) → (a ≡ b) ⊎ (a ≢ b)
lit_same_or_other a b = same_lit a b (cases_eq a.var b.var) (same_bit a.yes b.yes)

-- a clause of which all literals fall but perhaps one, which falls too
all_fall : {clauses : List (List Lit)} {aim : List Lit} (c : List Lit) (p : Lit) → ((o : Lit) → Contains c o → o ≢ p → Falls clauses aim o) → Falls clauses aim p → (o : Lit) → Contains c o → Falls clauses aim o
all_fall {clauses} {aim} c p others at o in' = decided (lit_same_or_other o p)
  where
    decided : (o ≡ p) ⊎ (o ≢ p) → Falls clauses aim o
    decided (inl e) = subst (Falls clauses aim) (sym e) at
    decided (inr n) = others o in' n

-- a literal and its opposite that both fall are a contradiction
pub clashes_both : {clauses : List (List Lit)} {aim : List Lit} {l m : Lit} → m ≡ opposite l → Falls clauses aim l → Falls clauses aim m → Clashes clauses aim
clashes_both {clauses} {aim} e (Falls.assumed l a) (Falls.assumed m b) = Clashes.opposed l a (subst (Contains aim) e b)
clashes_both {clauses} {aim} e (Falls.unit c p known in' others) m =
    Clashes.emptied c known (all_fall c p others (subst (Falls clauses aim) (e ∙ opposite-opposite p) m))
clashes_both {clauses} {aim} e (Falls.assumed l a) (Falls.unit c p known in' others) =
    let same : l ≡ p = sym (opposite-back l (opposite p) e) ∙ opposite-opposite p in
    Clashes.emptied c known (all_fall c p others (subst (Falls clauses aim) same (Falls.assumed l a)))

-- what falls over some clauses falls over any that have them, where the literals assumed fall
pub falls_along : {cs ds : List (List Lit)} {aim goal : List Lit} {l : Lit} → ((c : List Lit) → Contains cs c → Contains ds c) → ((o : Lit) → Contains aim o → Falls ds goal o) → Falls cs aim l → Falls ds goal l
falls_along within assumed (Falls.assumed l a) = assumed l a
falls_along within assumed (Falls.unit c p known in' others) = Falls.unit c p (within c known) in' (λ o i n. falls_along within assumed (others o i n))

pub clashes_along : {cs ds : List (List Lit)} {aim goal : List Lit} → ((c : List Lit) → Contains cs c → Contains ds c) → ((o : Lit) → Contains aim o → Falls ds goal o) → Clashes cs aim → Clashes ds goal
clashes_along within assumed (Clashes.emptied c known all) = Clashes.emptied c (within c known) (λ o i. falls_along within assumed (all o i))
clashes_along within assumed (Clashes.opposed l a b) = clashes_both refl (assumed l a) (assumed (opposite l) b)

pub falls_more : {cs : List (List Lit)} {aim : List Lit} {l : Lit} (more : List (List Lit)) → Falls cs aim l → Falls (cs ++ more) aim l
falls_more {cs} more h = falls_along (λ c i. Contains-append_left cs more c i) (λ o i. Falls.assumed o i) h

pub clashes_more : {cs : List (List Lit)} {aim : List Lit} (more : List (List Lit)) → Clashes cs aim → Clashes (cs ++ more) aim
clashes_more {cs} more h = clashes_along (λ c i. Contains-append_left cs more c i) (λ o i. Falls.assumed o i) h

-- resolution: of two clauses, one with a literal and one with its opposite, all other literals are in d
pub clashes_resolved : {clauses : List (List Lit)} (a : Lit) (c e d : List Lit) → Contains clauses c → Contains clauses e → Contains c a
    → ((o : Lit) → Contains c o → o ≢ a → Contains d o) → ((o : Lit) → Contains e o → o ≢ opposite a → Contains d o) → Clashes clauses d
clashes_resolved a c e d has_c has_e in' rest_c rest_e =
    Clashes.emptied e has_e (all_fall e (opposite a) (λ o i n. Falls.assumed o (rest_e o i n)) (Falls.unit c a has_c in' (λ o i n. Falls.assumed o (rest_c o i n))))

-- two clauses that differ in the sign of their last literal
pub clashes_split : {clauses : List (List Lit)} (d : List Lit) (a b : Lit) → b ≡ opposite a → Contains clauses (d ++ a ∷ []) → Contains clauses (d ++ b ∷ []) → Clashes clauses d
clashes_split d a b e has_a has_b =
    clashes_resolved a (d ++ a ∷ []) (d ++ b ∷ []) d has_a has_b (Contains-push d a) (kept a) (λ o i n. kept b o i (λ s. n (s ∙ e)))
  where
    kept : (x o : Lit) → Contains (d ++ x ∷ []) o → o ≢ x → Contains d o
    kept x o i n = elim (Contains-push_cases d x o i) [ inl j ↦ j | inr s ↦ absurd (n (sym s)) ]

Some-same : {X : Type 0} {x y : X} → Some x ≡ Some y → x ≡ y
Some-same h = cc

turned_bit : (b : Bool) → b ≡ not b → ⊥
turned_bit true h = cc
turned_bit false h = cc

-- no literal and its opposite are both true
pub true_apart : (bits : List Bool) (l : Lit) → MakesTrue bits l → MakesTrue bits (opposite l) → ⊥
true_apart bits l h k = turned_bit l.yes (Some-same (sym h ∙ k))

-- bits that satisfy the clauses and make the literals of aim false make each false that falls
pub falls_false : {clauses : List (List Lit)} {aim : List Lit} {l : Lit} (bits : List Bool) → Satisfies bits clauses → ((o : Lit) → Contains aim o → MakesTrue bits (opposite o)) → Falls clauses aim l → MakesTrue bits (opposite l)
falls_false bits sat assumed (Falls.assumed l a) = assumed l a
falls_false bits sat assumed (Falls.unit c p known in' others) = found (λ o i n. falls_false bits sat assumed (others o i n)) (sat c known)
  where
    found : ((o : Lit) → Contains c o → o ≢ p → MakesTrue bits (opposite o)) → SatisfiesClause bits c → MakesTrue bits (opposite (opposite p))
    found false' h = elim (lit_same_or_other h.0 p) [
      | inl e ↦ subst (MakesTrue bits) (e ∙ sym (opposite-opposite p)) h.2
      | inr n ↦ absurd (true_apart bits h.0 h.2 (false' h.0 h.1 n))
    ]

-- no bits satisfy the clauses and make each literal of an aim false that clashes
pub clash_implies : {clauses : List (List Lit)} {aim : List Lit} (bits : List Bool) → Satisfies bits clauses → ((o : Lit) → Contains aim o → MakesTrue bits (opposite o)) → Clashes clauses aim → ⊥
clash_implies bits sat assumed (Clashes.emptied c known all) =
    let h : SatisfiesClause bits c = sat c known in true_apart bits h.0 h.2 (falls_false bits sat assumed (all h.0 h.1))
clash_implies bits sat assumed (Clashes.opposed l a b) = true_apart bits (opposite l) (assumed l a) (assumed (opposite l) b)
