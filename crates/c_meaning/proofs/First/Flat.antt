-- A step over the flat body of main: a gap and the one action of the item behind it.
use Rattle.std.proofs.Common.{◌≡◌, ℕ, suc, ◌+◌, Bool, List, [], ◌∷◌, slice_get, Option, None, Result, refl, ap, arith}
use Rattle.c_tree.specs.declared.program.Program.{Program}
use Rattle.c_tree.specs.declared.program.Free.{Free}
use Rattle.c_meaning.specs.declared.value.Value.{Value}
use Rattle.c_meaning.specs.declared.machine.Object.{Object}
use Rattle.c_meaning.specs.declared.machine.Stop.{Stop}
use Rattle.c_meaning.specs.declared.machine.Frame.{Frame}
use Rattle.c_meaning.specs.declared.machine.Ending.TheVariants.{Running}
use Rattle.c_meaning.specs.declared.machine.Machine.{Machine}
use Rattle.c_meaning.specs.Machine.{Store, machine_of}
use Rattle.c_meaning.specs.Parts.{Instruction}
use Rattle.c_meaning.specs.Place.{AtGap, AtAction, spot_in_fun, next_in_fun}
use Rattle.c_meaning.specs.Effects.{Effect, all_freed, unless_stopped, attempt, passing}
use Rattle.c_meaning.specs.Step.{acts, gone_on, target_in, seen, step}

-- control in main
abbrev pub frame_at : List ℕ → Frame
frame_at path = record { fun = 0; path = path; target = None }

abbrev pub going : List Value → List Object → List ℕ → List Bool → List ℕ → ℕ → Store
going slots objects input fails output steps = record {
  slots = slots;
  objects = objects;
  input = input;
  fails = fails;
  output = output;
  steps = steps;
  ending = Running;
}

abbrev pub running : List ℕ → List Value → List Object → List ℕ → List Bool → List ℕ → ℕ → Machine
running path slots objects input fails output steps = machine_of (frame_at path ∷ []) (going slots objects input fails output steps)

-- item i of main, with the frees of the gap before it and its one action
pub record Stands (p : Program) (i : ℕ) (frees : List Free) (a : Instruction) : Type 0 where
  pub number : ℕ
  pub gap : spot_in_fun p 0 (slice_get p.funs 0) (i ∷ []) ≡ AtGap (record { number = number; frees = frees })
  pub entered : next_in_fun p 0 (slice_get p.funs 0) None (i ∷ []) ≡ i ∷ 0 ∷ []
  pub action : spot_in_fun p 0 (slice_get p.funs 0) (i ∷ 0 ∷ []) ≡ AtAction a

-- control behind item i goes to the next gap
abbrev pub GoesOn : Program → ℕ → Type 0
GoesOn p i = next_in_fun p 0 (slice_get p.funs 0) None (i ∷ 0 ∷ []) ≡ (i + 1) ∷ []

-- the machine behind the action of item i
abbrev pub behind : Program → ℕ → Option ℕ → Store → Result (Effect Store) Stop → Machine
behind p i target s r = seen (gone_on p (acts p) target (frame_at (i ∷ 0 ∷ []) ∷ []) (unless_stopped s r))

pub passes_on : (p : Program) (i : ℕ) (s t : Store) → GoesOn p i → behind p i None s (passing t) ≡ machine_of (frame_at ((i + 1) ∷ []) ∷ []) t
passes_on p i s t onward = ap (λ (path : List ℕ). machine_of (frame_at path ∷ []) t) onward

pub opens : (p : Program) (g i : ℕ) (frees : List Free) (a : Instruction) (slots : List Value) (objects after : List Object) (input : List ℕ) (fails : List Bool) (output : List ℕ) (steps : ℕ) →
    p.gaps ≡ g + 1 → Stands p i frees a →
    all_freed frees (going slots objects input fails output (steps + 1)) ≡ going slots after input fails output (steps + 1) →
    step p (running (i ∷ []) slots objects input fails output steps)
    ≡ behind p i (target_in a) (going slots after input fails output (steps + 1)) (attempt p a (going slots after input fails output (steps + 1)))
opens p g i frees a slots objects after input fails output steps count stands frees_done =
    let two : p.gaps + 1 ≡ suc (suc g) = omega arith in
    rw (two, stands.gap, frees_done, stands.entered, stands.action) refl
