-- Puts that ascend: the order of puts, and a binary search among them.
use Rattle.std.proofs.Common.{◌≡◌, ⊎_elim, ℕ, zero, suc, ◌<◌, ◌≤◌, ◌==◌, ◌&&◌, ◌||◌, Bool, true, false, eqb, ltb, List, [], ◌∷◌, length, get_or, slice_get, Option, Some, None, refl, sym, subst, ◌∙◌, arith}
use Rattle.std.proofs.lemmas.Bool.{and_parts, and_from, cases_eq, or_cases, or_left, or_right, eqb-true, eq-eqb, ltb-true, lt-ltb, false≢true}
use Rattle.std.proofs.lemmas.List.{get_or_default}
use Rattle.std.specs.List.{Contains}
use Rattle.std.specs.List.Sorted.{IsPartitionPoint, IsPartitionedBy}
use Rattle.c_tree.specs.Fill.{ascends, precedes, precedes_in_gap}
use Rattle.c_tree.specs.Typing.{has}
use Rattle.c_tree.specs.declared.choice.Put.{Put}
use Rattle.ts_domain.specs.Chosen.{has_put, is_put}
use Rattle.ts_domain.proofs.ChosenLaws.{put_found, put_same}

less_on : (x y z : ℕ) → ltb x y ≡ true → ltb y z ≡ true → ltb x z ≡ true
less_on x y z a b = let l : x < y = ltb-true x y a in let m : y < z = ltb-true y z b in lt-ltb x z (omega arith)

-- a first part decides, and where it is equal a second one
lexical : (x y z : ℕ) (r s t : Bool) → (r ≡ true → s ≡ true → t ≡ true) → (ltb x y || (x == y && r)) ≡ true → (ltb y z || (y == z && s)) ≡ true → (ltb x z || (x == z && t)) ≡ true
lexical x y z r s t on a b =
    ⊎_elim
    (λ l. ⊎_elim
    (λ m. or_left (ltb x z) (x == z && t) (less_on x y z l m))
    (λ m. let both = and_parts (eqb y z) s m in or_left (ltb x z) (x == z && t) (subst (λ n. ltb x n ≡ true) (eqb-true y z both.0) l))
    (or_cases (ltb y z) (y == z && s) b))
    (λ l.
    let one = and_parts (eqb x y) r l in
    let same : x ≡ y = eqb-true x y one.0 in
    ⊎_elim
    (λ m. or_left (ltb x z) (x == z && t) (subst (λ n. ltb n z ≡ true) (sym same) m))
    (λ m. let both = and_parts (eqb y z) s m in or_right (ltb x z) (x == z && t) (and_from (eqb x z) t (eq-eqb x z (same ∙ eqb-true y z both.0)) (on one.1 both.1)))
    (or_cases (ltb y z) (y == z && s) b))
    (or_cases (ltb x y) (x == y && r) a)

never : (x : ℕ) (r : Bool) → (r ≡ true → ⊥) → (ltb x x || (x == x && r)) ≡ true → ⊥
never x r none h =
    ⊎_elim
    (λ l. let less : x < x = ltb-true x x l in absurd (omega arith))
    (λ m. none (and_parts (eqb x x) r m).1)
    (or_cases (ltb x x) (x == x && r) h)

in_gap_on : (f g h : Option ℕ) (x y z : ℕ) → precedes_in_gap f g x y ≡ true → precedes_in_gap g h y z ≡ true → precedes_in_gap f h x z ≡ true
in_gap_on None None None x y z a b = less_on x y z a b
in_gap_on None None (Some h) x y z a b = absurd (false≢true b)
in_gap_on None (Some g) h x y z a b = absurd (false≢true a)
in_gap_on (Some f) g None x y z a b = refl
in_gap_on (Some f) None (Some h) x y z a b = absurd (false≢true b)
in_gap_on (Some f) (Some g) (Some h) x y z a b = lexical x y z (ltb f g) (ltb g h) (ltb f h) (less_on f g h) a b

in_gap_never : (f : Option ℕ) (x : ℕ) → precedes_in_gap f f x x ≡ true → ⊥
in_gap_never None x h = let less : x < x = ltb-true x x h in absurd (omega arith)
in_gap_never (Some f) x h = never x (ltb f f) (λ l. let less : f < f = ltb-true f f l in absurd (omega arith)) h

pub precedes_on : (p q r : Put) → precedes p q ≡ true → precedes q r ≡ true → precedes p r ≡ true
precedes_on p q r a b =
    lexical p.gap q.gap r.gap (precedes_in_gap p.field q.field p.var q.var) (precedes_in_gap q.field r.field q.var r.var) (precedes_in_gap p.field r.field p.var r.var)
    (in_gap_on p.field q.field r.field p.var q.var r.var) a b

pub precedes_never : (p : Put) → precedes p p ≡ true → ⊥
precedes_never p h = never p.gap (precedes_in_gap p.field p.field p.var p.var) (in_gap_never p.field p.var) h

-- the first precedes each behind it
pub precedes_rest : (p q : Put) (ps : List Put) → ascends (p ∷ ps) ≡ true → Contains ps q → precedes p q ≡ true
precedes_rest p q [] up (k, l, e) = absurd (omega (arith, l))
precedes_rest p q (r ∷ rs) up (zero, l, e) = subst (λ z. precedes p z ≡ true) e (and_parts (precedes p r) (ascends (r ∷ rs)) up).0
precedes_rest p q (r ∷ rs) up (suc k, l, e) =
    let both = and_parts (precedes p r) (ascends (r ∷ rs)) up in
    precedes_on p r q both.0 (precedes_rest r q rs both.1 (k, omega (arith, l), e))

pub ascends_rest : (p : Put) (ps : List Put) → ascends (p ∷ ps) ≡ true → ascends ps ≡ true
ascends_rest p [] up = refl
ascends_rest p (q ∷ ps) up = (and_parts (precedes p q) (ascends (q ∷ ps)) up).1

-- a binary search

precedes_later : (ps : List Put) → ascends ps ≡ true → (i j : ℕ) (d : Put) → i < j → j < length ps → precedes (get_or ps i d) (get_or ps j d) ≡ true
precedes_later [] up i j d less within = absurd (omega arith)
precedes_later (p ∷ ps) up i zero d less within = absurd (omega arith)
precedes_later (p ∷ ps) up zero (suc j) d less within =
    let inside : j < length ps = omega arith in
    precedes_rest p (get_or ps j d) ps up (j, inside, get_or_default ps j (get_or ps j d) d inside)
precedes_later (p ∷ ps) up (suc i) (suc j) d less within = precedes_later ps (ascends_rest p ps up) i j d (omega arith) (omega arith)

-- those that precede a put come first
pub parted : (ps : List Put) (q : Put) → ascends ps ≡ true → IsPartitionedBy (λ p. precedes p q) ps
parted ps q up i j d le within h =
    ⊎_elim
    (λ same. subst (λ k. precedes (get_or ps k d) q ≡ true) (sym same) h)
    (λ other. precedes_on (get_or ps i d) (get_or ps j d) q (precedes_later ps up i j d (omega (arith, other)) within) h)
    (cases_eq i j)

or_neither : (a b : Bool) → (a ≡ true → ⊥) → b ≡ (a || b)
or_neither true b none = absurd (none refl)
or_neither false b none = refl

or_first : (a b : Bool) → (b ≡ true → ⊥) → a ≡ (a || b)
or_first true b none = refl
or_first false true none = absurd (none refl)
or_first false false none = refl

found_at : (ps : List Put) (q : Put) (i : ℕ) → ascends ps ≡ true → ((k : ℕ) (d : Put) → k < i → k < length ps → precedes (get_or ps k d) q ≡ true)
    → ((k : ℕ) (d : Put) → i ≤ k → k < length ps → precedes (get_or ps k d) q ≡ false) → has (is_put q) (slice_get ps i) ≡ has_put ps q
found_at [] q i up low high = refl
found_at (p ∷ ps) q zero up low high =
    or_first (is_put q p) (has_put ps q)
    (λ e. false≢true (sym (high 0 p (omega arith) (omega arith)) ∙ precedes_rest p q ps up (put_found ps q e)))
found_at (p ∷ ps) q (suc i) up low high =
    found_at ps q i (ascends_rest p ps up) (λ k d l m. low (suc k) d (omega arith) (omega arith)) (λ k d l m. high (suc k) d (omega arith) (omega arith))
    ∙ or_neither (is_put q p) (has_put ps q) (λ e. precedes_never q (subst (λ z. precedes z q ≡ true) (sym (put_same q p e)) (low 0 p (omega arith) (omega arith))))

-- the first that doesn't precede a put is that put, if one is
pub found : (ps : List Put) (q : Put) (i : ℕ) → ascends ps ≡ true → i ≤ length ps → IsPartitionPoint (λ p. precedes p q ≡ true) (λ p. precedes p q ≡ false) ps i → has (is_put q) (slice_get ps i) ≡ has_put ps q
found ps q i up within point = found_at ps q i up (λ k d l m. point.0 k d (omega arith) l) (λ k d l m. point.1 k d l m)
