-- A state that several parts change in turn.
use Rattle.std.specs.Prelude.{List, [], ◌∷◌, map, Option, None, Some}

abbrev pub before_rest : {S A : Type 0} → S × A → (S → S × List A) → S × List A
before_rest r rest = let s = rest r.0 in (s.0, r.1 ∷ s.1)

abbrev pub in_turn : {S A : Type 0} → List (S → S × A) → S → S × List A
in_turn [] s = (s, [])
in_turn (f ∷ fs) s = before_rest (f s) (in_turn fs)

-- each part in turn, with what it becomes
abbrev pub each : {S A B : Type 0} → (A → S → S × B) → List A → S → S × List B
each f xs = in_turn (map f xs)

-- a part that may be absent
abbrev pub optional : {S A B : Type 0} → (A → S → S × B) → Option A → S → S × Option B
optional f None s = (s, None)
optional f (Some x) s = let r = f x s in (r.0, Some r.1)
