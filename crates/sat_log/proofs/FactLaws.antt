-- Laws of known bits: what is noted follows, and where clauses are at rest nothing more falls.
use Rattle.std.proofs.Common.{◌≡◌, ◌≢◌, ℕ, zero, suc, ◌+◌, ◌<◌, Bool, true, false, not, List, [], ◌∷◌, ◌++◌, length, slice_get, get_or, take, drop, replicate, append_assoc, set, Option, None, Some, refl, sym, ap, ◌∙◌, subst, ◌⊎◌, inl, inr, arith}
use Rattle.std.specs.List.{Contains, HoldsAt}
use Rattle.std.proofs.lemmas.List.Elements.{Contains-append_left, Contains-append_right, Contains-append_cases}
use Rattle.sat_log.specs.declared.problem.Lit.{Lit}
use Rattle.sat_log.specs.declared.facts.Facts.{Facts}
use Rattle.sat_log.specs.declared.claim.Claim.{Claim}
use Rattle.sat_log.specs.declared.look.Look.{Look}
use Rattle.sat_log.specs.declared.look.Look.TheVariants.{Clash, Rests, Unit}
use Rattle.sat_log.specs.Clauses.{opposite, AreBelow}
use Rattle.sat_log.specs.Refutation.{Falls, Clashes}
use Rattle.sat_log.specs.Propagation.{Settled, IsKnown, IsOut, base_of, Sound, IsAtRest, Says, SaysAll, open_count, Grows, HasRoom, IsAimed}
use Rattle.sat_log.proofs.ClashLaws.{opposite-opposite, lit_same_or_other, falls_along, falls_more, clashes_both}
use Rattle.std.proofs.lemmas.List.{take-append-drop, take_more, length-replicate}
use Rattle.std.proofs.lemmas.Option.{slice_get-get_or, slice_get_within, get_or_from_slice_get}

-- no bit is known at the place
abbrev IsFree : List (Option Bool) → ℕ → Type 0
IsFree bits i = (b : Bool) → slice_get bits i ≡ Some (Some b) → ⊥

set_known : (bits : List (Option Bool)) (i : ℕ) (v : Bool) → i < length bits → slice_get (set bits i (Some v)) i ≡ Some (Some v)
set_known [] i v h = absurd (omega arith)
set_known (x ∷ bits) zero v h = refl
set_known (x ∷ bits) (suc i) v h = set_known bits i v (omega arith)

fewer_open : (bits : List (Option Bool)) (i : ℕ) (v : Bool) → i < length bits → IsFree bits i → open_count (set bits i (Some v)) < open_count bits
fewer_open [] i v h free = absurd (omega arith)
fewer_open (None ∷ bits) zero v h free = omega arith
fewer_open (Some b ∷ bits) zero v h free = absurd (free b refl)
fewer_open (None ∷ bits) (suc i) v h free = let n : open_count (set bits i (Some v)) < open_count bits = fewer_open bits i v (omega arith) free in omega arith
fewer_open (Some b ∷ bits) (suc i) v h free = fewer_open bits i v (omega arith) free

bit_or_not : (b y : Bool) → (b ≡ y) ⊎ (b ≡ not y)
bit_or_not true true = inl refl
bit_or_not true false = inr refl
bit_or_not false true = inr refl
bit_or_not false false = inl refl

open_free : (bits : List (Option Bool)) (l : Lit) → ¬ IsKnown bits l → ¬ IsOut bits l → IsFree bits l.var
open_free bits l not_true not_false b h = elim (bit_or_not b l.yes) [
  | inl e ↦ not_true (h ∙ ap (λ c. Some (Some c)) e)
  | inr e ↦ not_false (h ∙ ap (λ c. Some (Some c)) e)
]

-- a false literal falls, and the opposite of a true one
pub known_falls : (claim : Claim) (facts : Facts) (l : Lit) → Sound claim facts → IsKnown facts.bits.items l → Falls (base_of claim) claim.aim.now (opposite l)
known_falls claim facts l sound h = elim (sound.follows l h) [
  | inl f ↦ falls_along (λ c i. i) (λ o i. absurd (omega (arith, i.1))) f
  | inr p ↦ p.1
]

pub out_falls : (claim : Claim) (facts : Facts) (l : Lit) → Sound claim facts → IsOut facts.bits.items l → Falls (base_of claim) claim.aim.now l
out_falls claim facts l sound h = subst (Falls (base_of claim) claim.aim.now) (opposite-opposite l) (known_falls claim facts (opposite l) sound h)

pub grows_more : (old mid new : Facts) → Grows old mid → Grows mid new → Grows old new
grows_more old mid new g h = record { places = h.places ∙ g.places; known = λ l k. h.known l (g.known l k) }

pub room_grown : (claim : Claim) (old new : Facts) → HasRoom claim old → Grows old new → HasRoom claim new
room_grown claim old new room g = record { aim = λ l i. subst (λ n. l.var < n) (sym g.places) (room.aim l i); base = λ c i l j. subst (λ n. l.var < n) (sym g.places) (room.base c i l j) }

pub aimed_grown : (claim : Claim) (old new : Facts) → IsAimed claim old → Grows old new → IsAimed claim new
aimed_grown claim old new aimed g = record { out = λ l i. g.known (opposite l) (aimed.out l i) }

pub learnt_known : (old new : Facts) (l : Lit) → l.var < length old.bits.items → new.bits.items ≡ set old.bits.items l.var (Some l.yes) → IsKnown new.bits.items l
learnt_known old new l below bits = ap (λ bs. slice_get bs l.var) bits ∙ set_known old.bits.items l.var l.yes below

pub learnt_fewer : (old new : Facts) (l : Lit) → l.var < length old.bits.items → ¬ IsKnown old.bits.items l → ¬ IsOut old.bits.items l → new.bits.items ≡ set old.bits.items l.var (Some l.yes) → open_count new.bits.items < open_count old.bits.items
learnt_fewer old new l below not_true not_false bits =
    let e : open_count new.bits.items ≡ open_count (set old.bits.items l.var (Some l.yes)) = ap open_count bits in
    let n : open_count (set old.bits.items l.var (Some l.yes)) < open_count old.bits.items = fewer_open old.bits.items l.var l.yes below (open_free old.bits.items l not_true not_false) in
    omega arith

-- an aim's literal that is true
pub true_aim_clashes : (claim : Claim) (facts : Facts) (l : Lit) → Sound claim facts → Contains claim.aim.now l → IsKnown facts.bits.items l → Clashes (base_of claim) claim.aim.now
true_aim_clashes claim facts l sound in' h = clashes_both refl (Falls.assumed l in') (known_falls claim facts l sound h)

-- a clause of false literals
pub look_clash : (claim : Claim) (facts : Facts) (c : List Lit) → Sound claim facts → Contains (base_of claim) c → Says facts.bits.items c Clash → Clashes (base_of claim) claim.aim.now
look_clash claim facts c sound in' out = Clashes.emptied c in' (λ o i. out_falls claim facts o sound (out o i))

-- a clause of false literals and one more
pub look_unit : (claim : Claim) (facts : Facts) (c : List Lit) (l : Lit) → Sound claim facts → Contains (base_of claim) c → Contains c l → ((o : Lit) → Contains c o → o ≢ l → IsOut facts.bits.items o) → Falls (base_of claim) claim.aim.now (opposite l)
look_unit claim facts c l sound in' has out = Falls.unit c l in' has (λ o i n. out_falls claim facts o sound (out o i n))

turned : (b : Bool) → b ≡ not b → ⊥
turned true h = cc
turned false h = cc

Some-same : {X : Type 0} {x y : X} → Some x ≡ Some y → x ≡ y
Some-same h = cc

-- no literal is true and false
pub known_apart : (bits : List (Option Bool)) (l : Lit) → IsKnown bits l → IsOut bits l → ⊥
known_apart bits l h k = turned l.yes (Some-same (Some-same (sym h ∙ k)))

-- where all clauses are at rest, what falls is false
pub rest_out : (bits : List (Option Bool)) (clauses : List (List Lit)) {aim : List Lit} {l : Lit} → ((c : List Lit) → Contains clauses c → IsAtRest bits c) → ((o : Lit) → Contains aim o → IsOut bits o) → Falls clauses aim l → IsOut bits l
rest_out bits clauses rest aimed (Falls.assumed l i) = aimed l i
rest_out bits clauses rest aimed (Falls.unit c p known in' others) = closed (λ o i n. rest_out bits clauses rest aimed (others o i n)) (rest c known)
  where
    closed : ((o : Lit) → Contains c o → o ≢ p → IsOut bits o) → IsAtRest bits c → IsOut bits (opposite p)
    closed out (inl t) = elim (lit_same_or_other t.0 p) [
      | inl e ↦ subst (IsKnown bits) (e ∙ sym (opposite-opposite p)) t.2
      | inr n ↦ absurd (known_apart bits t.0 t.2 (out t.0 t.1 n))
    ]
    closed out (inr t) = elim (lit_same_or_other t.0 p) [
      | inl e ↦ absurd (t.6 (out t.1 t.3 (λ f. t.4 (e ∙ sym f))))
      | inr n ↦ absurd (t.5 (out t.0 t.2 n))
    ]

pub rest_no_clash : (bits : List (Option Bool)) (clauses : List (List Lit)) {aim : List Lit} → ((c : List Lit) → Contains clauses c → IsAtRest bits c) → ((o : Lit) → Contains aim o → IsOut bits o) → Clashes clauses aim → ⊥
rest_no_clash bits clauses rest aimed (Clashes.emptied c known all) = never (λ o i. rest_out bits clauses rest aimed (all o i)) (rest c known)
  where
    never : ((o : Lit) → Contains c o → IsOut bits o) → IsAtRest bits c → ⊥
    never out (inl t) = known_apart bits t.0 t.2 (out t.0 t.1)
    never out (inr t) = t.5 (out t.0 t.2)
rest_no_clash bits clauses rest aimed (Clashes.opposed l i j) = known_apart bits (opposite l) (aimed l i) (aimed (opposite l) j)

-- what holds of the element at a place
pub holds_at : {X : Type 0} (P : X → Type 0) (xs : List X) (i : ℕ) (d : X) → i < length xs → P (get_or xs i d) → HoldsAt P xs i
holds_at P xs i d below h = λ e. subst P (Some-same (sym (slice_get-get_or xs i d below) ∙ slice_get-get_or xs i e below)) h

-- a look at clauses after others that are at rest
pub says_later : (bits : List (Option Bool)) (xs ys : List (List Lit)) (found : Look) → SaysAll bits xs Rests → SaysAll bits ys found → SaysAll bits (xs ++ ys) found
says_later bits xs ys Clash rest (c, i, says) = (c, Contains-append_right xs ys c i, says)
says_later bits xs ys Rests rest more = λ c i. elim (Contains-append_cases xs ys c i) [ inl j ↦ rest c j | inr j ↦ more c j ]
says_later bits xs ys (Unit l) rest (c, i, says) = (c, Contains-append_right xs ys c i, says)

pub got_contains : {X : Type 0} (xs : List X) (k : ℕ) (x : X) → Some x ≡ slice_get xs k → Contains xs x
got_contains xs k x h = (k, slice_get_within xs k x (sym h), get_or_from_slice_get xs k x x (sym h))

-- the literals besides one
pub besides_out : (bits : List (Option Bool)) (c : List Lit) (other : Lit) → ((o : Lit) → Contains c o → (Some other ≡ Some o) ⊎ IsOut bits o) → (o : Lit) → Contains c o → o ≢ other → IsOut bits o
besides_out bits c other h o i n = elim (h o i) [ inl e ↦ absurd (n (sym (Some-same e))) | inr k ↦ k ]

pub all_out : (bits : List (Option Bool)) (c : List Lit) (other : Lit) → ((o : Lit) → Contains c o → (Some other ≡ Some o) ⊎ IsOut bits o) → IsOut bits other → Says bits c Clash
all_out bits c other h k o i = elim (h o i) [ inl e ↦ subst (IsOut bits) (Some-same e) k | inr j ↦ j ]

pub none_out : (bits : List (Option Bool)) (c : List Lit) → ((o : Lit) → Contains c o → (None ≡ Some o) ⊎ IsOut bits o) → Says bits c Clash
none_out bits c h o i = elim (h o i) [ inl e ↦ absurd (cc) | inr j ↦ j ]

pub has_room : (claim : Claim) (facts : Facts) (list : List (List Lit)) (at n : ℕ) → length facts.bits.items ≡ n → AreBelow n claim.given.now → AreBelow n list → claim.earlier.now ≡ take at list → Contains list claim.aim.now → HasRoom claim facts
has_room claim facts list at n places given below earlier aim =
    let fits : AreBelow n (base_of claim) = (λ c i. elim (Contains-append_cases claim.given.now claim.earlier.now c i) [ inl j ↦ given c j | inr j ↦ below c (within c (subst (λ (xs : List (List Lit)). Contains xs c) earlier j)) ]) in
    record { aim = λ l i. subst (λ m. l.var < m) (sym places) (below claim.aim.now aim l i); base = subst (λ m. AreBelow m (base_of claim)) (sym places) fits }
  where
    within : (c : List Lit) → Contains (take at list) c → Contains list c
    within c i = subst (λ (xs : List (List Lit)). Contains xs c) (take-append-drop at list) (Contains-append_left (take at list) (drop at list) c i)

-- what is known stays so with a clause more
pub settled_next : (given list : List (List Lit)) (facts : Facts) (at : ℕ) (d : List Lit) → at < length list → Settled (given ++ take at list) facts → Settled (given ++ take (at + 1) list) facts
settled_next given list facts at d below s =
    let more : (given ++ take at list) ++ get_or list at d ∷ [] ≡ given ++ take (at + 1) list = append_assoc given (take at list) (get_or list at d ∷ []) ∙ ap (λ xs. given ++ xs) (sym (take_more list at d below)) in
    record { follows = λ l h. subst (λ xs. Falls xs [] (opposite l)) more (falls_more (get_or list at d ∷ []) (s.follows l h)) }

none_known : (n i : ℕ) (b : Bool) → slice_get (replicate n None) i ≡ Some (Some b) → ⊥
none_known zero i b h = cc
none_known (suc n) zero b h = cc
none_known (suc n) (suc i) b h = none_known n i b h

pub none_settled : (clauses : List (List Lit)) (facts : Facts) (n : ℕ) → facts.bits.items ≡ replicate n None → Settled clauses facts
none_settled clauses facts n e = record { follows = λ l h. absurd (none_known n l.var l.yes (ap (λ bs. slice_get bs l.var) (sym e) ∙ h)) }

pub none_places : (facts : Facts) (n : ℕ) → facts.bits.items ≡ replicate n None → length facts.bits.items ≡ n
none_places facts n e = ap length e ∙ length-replicate n None
