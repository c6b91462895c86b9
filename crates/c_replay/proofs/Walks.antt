-- The walk of a step, one place further.
use Rattle.std.proofs.Common.{◌≡◌, ℕ, ◌+◌, Bool, false, List, [], None, Result, Ok, Err, refl, ap, sym, ◌∙◌, add-one}
use Rattle.std.specs.Prelude.{OnErr}
use Rattle.c_tree.specs.declared.program.Gap.{Gap}
use Rattle.c_tree.specs.declared.program.Program.{Program}
use Rattle.c_meaning.specs.declared.machine.Frame.{Frame}
use Rattle.c_meaning.specs.declared.machine.Object.{Object}
use Rattle.c_meaning.specs.declared.machine.Ending.{Ending}
use Rattle.c_meaning.specs.declared.machine.Ending.TheVariants.{Running, Returned, Fault}
use Rattle.c_meaning.specs.declared.machine.Machine.{Machine}
use Rattle.c_meaning.specs.Machine.{Store, store_of}
use Rattle.c_meaning.specs.Place.{Spot, AtGap}
use Rattle.c_meaning.specs.Effects.{is_over, all_freed}
use Rattle.c_meaning.specs.Step.{State, acts, at_spot, here, onward, unless_over, walked, with}
use Rattle.c_replay.specs.Changes.{moved, on_store, revived, taken_back}

-- control of the innermost call at a path
abbrev pub standing : List ℕ → Machine → State Store
standing path m = with (moved path m.rest) (store_of m)

-- one place, and then at most that many more
abbrev pub further : Program → ℕ → Spot → State Store → State Store
further p left spot s = at_spot p (acts p) (walked p (acts p) left) spot s.frames s.store

walked_by : (p : Program) (left : ℕ) (s : State Store) (spot : Spot) → here p s.frames ≡ spot → walked p (acts p) (left + 1) s ≡ further p left spot s
walked_by p left s spot is = ap (λ (n : ℕ). walked p (acts p) n s) (add-one left) ∙ ap (λ (q : Spot). further p left q s) is

at_gap : (p : Program) (left : ℕ) (path : List ℕ) (m n : Machine) (g : Gap) (over : Bool) → here p (moved path m.rest) ≡ AtGap g → n ≡ on_store (all_freed g.frees) m → is_over n.ending ≡ over →
    walked p (acts p) (left + 1) (standing path m) ≡ unless_over (walked p (acts p) left) p (moved path n.rest) (store_of n) over
at_gap p left path m n g over is freed ends =
    walked_by p left (standing path m) (AtGap g) is
    ∙ ap (λ (k : Machine). unless_over (walked p (acts p) left) p (moved path k.rest) (store_of k) (is_over k.ending)) (sym freed)
    ∙ ap (unless_over (walked p (acts p) left) p (moved path n.rest) (store_of n)) ends

pub walk_passes : (p : Program) (left : ℕ) (path next : List ℕ) (m n : Machine) (g : Gap) → here p (moved path m.rest) ≡ AtGap g → n ≡ on_store (all_freed g.frees) m → is_over n.ending ≡ false →
    moved next n.rest ≡ onward p None (moved path n.rest) → walked p (acts p) (left + 1) (standing path m) ≡ walked p (acts p) left (standing next n)
walk_passes p left path next m n g is freed goes_on behind =
    at_gap p left path m n g false is freed goes_on
    ∙ ap (λ (fs : List Frame). walked p (acts p) left (with fs (store_of n))) (sym behind)

pub on_err_from : {T E P : Type 0} (r : Result T E) → P → OnErr r P
on_err_from (Ok x) p = tt
on_err_from (Err e) p = p

running : (e : Ending) → is_over e ≡ false → e ≡ Running
running Running goes_on = refl
running (Returned n) goes_on = cc
running (Fault kind at by_free) goes_on = cc

-- a step for which memory is wanting, taken back
pub taken_back_whole : (m w : Machine) (fs : List ℕ) (os : List Object) → is_over m.ending ≡ false → os ≡ revived fs w.objects →
    taken_back fs Running w ≡ taken_back [] Running (record m { steps = m.steps + 1 }) → record w { objects = os; steps = m.steps; ending = Running } ≡ m
taken_back_whole m w fs os goes_on is back =
    ap (λ (xs : List Object). record w { objects = xs; steps = m.steps; ending = Running }) is
    ∙ ap (λ (k : Machine). record k { steps = m.steps }) back
    ∙ ap (λ (e : Ending). record m { ending = e }) (sym (running m.ending goes_on))
