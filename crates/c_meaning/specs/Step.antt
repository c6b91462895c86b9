-- One step of the machine: the frees of all gaps before the next action, in order, and then that action.
-- Control is written over any store and its effects, so that it can't depend on them.
use Rattle.std.specs.Prelude.{ℕ, zero, suc, ◌+◌, Bool, true, false, List, [], ◌∷◌, slice_get, Option, None}
use Rattle.c_tree.specs.declared.program.Free.{Free}
use Rattle.c_tree.specs.declared.program.Program.{Program}
use Rattle.c_meaning.specs.declared.value.Value.{Value}
use Rattle.c_meaning.specs.declared.machine.Frame.{Frame}
use Rattle.c_meaning.specs.declared.machine.Machine.{Machine}
use Rattle.c_meaning.specs.Machine.{Store, store_of, machine_of}
use Rattle.c_meaning.specs.Parts.{Instruction, Invoke}
use Rattle.c_meaning.specs.Place.{Spot, AtGap, AtAction, Nowhere, spot_in_fun, next_in_fun}
use Rattle.c_meaning.specs.Effects.{Effect, Passes, Calls, Returns, Stays, is_over, all_freed, effect, back, ended}

-- what control asks of a store
pub record Acts (M : Type 0) : Type 0 where
  -- a step begins
  pub begun : M → M
  -- the frees of a gap
  pub freed : List Free → M → M
  -- whether the run has ended
  pub over : M → Bool
  pub effect : Instruction → M → Effect M
  -- a return from a function to its caller, into the target
  pub back : (callee : ℕ) (target : Option ℕ) → Option Value → M → M
  -- a return of main
  pub ended : Option Value → M → M

-- the frames stand innermost first
pub record State (M : Type 0) : Type 0 where
  pub frames : List Frame
  pub store : M

-- frames with a store
abbrev pub with : {M : Type 0} → List Frame → M → State M
with frames store = record { frames = frames; store = store }

-- where control stands
abbrev pub here : Program → List Frame → Spot
here p [] = Nowhere
here p (f ∷ fs) = spot_in_fun p f.fun (slice_get p.funs f.fun) f.path

-- control goes on behind the place where it stands, behind a test by what it says
abbrev pub onward : Program → Option Bool → List Frame → List Frame
onward p said [] = []
onward p said (f ∷ fs) = record f { path = next_in_fun p f.fun (slice_get p.funs f.fun) said f.path } ∷ fs

-- the variable that a call gives its result to
abbrev pub target_in : Instruction → Option ℕ
target_in (Invoke number callee arguments target) = target
target_in _ = None

-- the frame of a call: control stands at the first gap of the callee
abbrev pub frame_of : ℕ → Option ℕ → Frame
frame_of callee target = record { fun = callee; path = 0 ∷ []; target = target }

-- behind a return: a return of main ends the run, others go on in the caller
abbrev pub gone_back : {M : Type 0} → Acts M → List Frame → Option Value → M → State M
gone_back s [] v m = with [] m
gone_back s (f ∷ []) v m = with [] (s.ended v m)
gone_back s (f ∷ g ∷ fs) v m = with (g ∷ fs) (s.back f.fun f.target v m)

-- control behind an instruction
abbrev pub gone_on : {M : Type 0} → Program → Acts M → Option ℕ → List Frame → Effect M → State M
gone_on p s target fs (Passes said m) = with (onward p said fs) m
gone_on p s target fs (Calls callee m) = with (frame_of callee target ∷ onward p None fs) m
gone_on p s target fs (Returns v m) = gone_back s fs v m
gone_on p s target fs (Stays m) = with fs m

-- behind the frees of a gap
abbrev pub unless_over : {M : Type 0} → (State M → State M) → Program → List Frame → M → Bool → State M
unless_over then_go p fs m true = with fs m
unless_over then_go p fs m false = then_go (with (onward p None fs) m)

-- what happens at a place: the frees of a gap, and `then_go` at the place behind it; or an action
abbrev pub at_spot : {M : Type 0} → Program → Acts M → (State M → State M) → Spot → List Frame → M → State M
at_spot p s then_go (AtGap g) fs m = unless_over then_go p fs (s.freed g.frees m) (s.over (s.freed g.frees m))
at_spot p s then_go (AtAction a) fs m = gone_on p s (target_in a) fs (s.effect a m)
at_spot p s then_go Nowhere fs m = with fs m

-- the gaps before the next action, at most n places with it, and that action
abbrev pub walked : {M : Type 0} → Program → Acts M → ℕ → State M → State M
walked p s zero m = m
walked p s (suc n) m = at_spot p s (walked p s n) (here p m.frames) m.frames m.store

-- the walk of a step, unless the run has ended
abbrev pub unless_ended : {M : Type 0} → Program → Acts M → State M → Bool → State M
unless_ended p s m true = m
unless_ended p s m false = walked p s (p.gaps + 1) (with m.frames (s.begun m.store))

-- a step passes no gap twice; an ended run stays as it is
abbrev pub stepped : {M : Type 0} → Program → Acts M → State M → State M
stepped p s m = unless_ended p s m (s.over m.store)

-- the acts of a machine's store
abbrev pub counted : Store → Store
counted s = record s { steps = s.steps + 1 }

abbrev pub acts : Program → Acts Store
acts p = record {
  begun = counted;
  freed = all_freed;
  over = λ s. is_over s.ending;
  effect = effect p;
  back = back p;
  ended = ended;
}

-- a machine as frames and store
abbrev pub state_of : Machine → State Store
state_of m = with m.rest (store_of m)

-- frames and store as a machine
abbrev pub seen : State Store → Machine
seen s = machine_of s.frames s.store

-- one step of a machine
abbrev pub step : Program → Machine → Machine
step p m = seen (stepped p (acts p) (state_of m))
