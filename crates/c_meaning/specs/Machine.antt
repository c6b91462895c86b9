-- The machine at the start of a run (C99 5.1.2.2.1, 6.7.8p10), its store, and the writes to that.
use Rattle.std.specs.Prelude.{ℕ, zero, suc, Bool, true, ℤ, List, [], ◌∷◌, map, slice_set, None}
use Rattle.c_tree.specs.declared.program.Ty.{Ty}
use Rattle.c_tree.specs.declared.program.Ty.TheVariants as ty
use Rattle.c_tree.specs.declared.program.Home.{Home}
use Rattle.c_tree.specs.declared.program.Home.TheVariants as home
use Rattle.c_tree.specs.declared.program.Program.{Program}
use Rattle.c_meaning.specs.declared.value.Value.{Value}
use Rattle.c_meaning.specs.declared.value.Value.TheVariants.{Undef, Int, Null}
use Rattle.c_meaning.specs.declared.machine.Object.{Object}
use Rattle.c_meaning.specs.declared.machine.Location.{Location}
use Rattle.c_meaning.specs.declared.machine.Location.TheVariants.{Slot, Cell}
use Rattle.c_meaning.specs.declared.machine.Stop.{Stop}
use Rattle.c_meaning.specs.declared.machine.Stop.TheVariants.{Faulted, Excluded}
use Rattle.c_meaning.specs.declared.machine.Frame.{Frame}
use Rattle.c_meaning.specs.declared.machine.Ending.{Ending}
use Rattle.c_meaning.specs.declared.machine.Ending.TheVariants.{Running, Fault}
use Rattle.c_meaning.specs.declared.machine.Machine.{Machine}

-- a global of pointer type has the null pointer as its constant
abbrev pub constant_of : Ty → ℤ → Value
constant_of ty.Int n = Int n
constant_of ty.IntPtr n = Null
constant_of (ty.StructPtr s) n = Null

-- globals have their constants, all else is indeterminate
abbrev pub start_value : Ty → Home → Value
start_value t (home.Global n) = constant_of t n
start_value t (home.Param f) = Undef
start_value t (home.Local f) = Undef
start_value t (home.Result f) = Undef

-- control stands before the first item of main, or before its last gap
abbrev pub start : Program → List ℕ → List Bool → Machine
start p input fails = record {
  slots = map (λ v. start_value v.ty v.home) p.vars;
  objects = [];
  rest = record { fun = p.main; path = 0 ∷ []; target = None } ∷ [];
  input = input;
  fails = fails;
  output = [];
  steps = 0;
  ending = Running;
}

-- all of a machine but its frames: what frees and instructions read and write
pub record Store : Type 0 where
  pub slots : List Value
  pub objects : List Object
  pub input : List ℕ
  pub fails : List Bool
  pub output : List ℕ
  pub steps : ℕ
  pub ending : Ending

-- a machine without its frames
abbrev pub store_of : Machine → Store
store_of m = record { slots = m.slots; objects = m.objects; input = m.input; fails = m.fails; output = m.output; steps = m.steps; ending = m.ending }

-- frames and a store together
abbrev pub machine_of : List Frame → Store → Machine
machine_of frames s = record { slots = s.slots; objects = s.objects; rest = frames; input = s.input; fails = s.fails; output = s.output; steps = s.steps; ending = s.ending }

-- a list with its element at a place changed
abbrev pub altered : {A : Type 0} → (A → A) → ℕ → List A → List A
altered f i [] = []
altered f zero (x ∷ xs) = f x ∷ xs
altered f (suc i) (x ∷ xs) = x ∷ altered f i xs

-- an object with another content of a cell
abbrev pub with_cell : ℕ → Value → Object → Object
with_cell k v o = record o { cells = slice_set o.cells k v }

-- a value written to a location
abbrev pub stored : Location → Value → Store → Store
stored (Slot x) v s = record s { slots = slice_set s.slots x v }
stored (Cell o k) v s = record s { objects = altered (with_cell k v) o s.objects }

-- an object that is freed
abbrev pub marked_freed : Object → Object
marked_freed o = record o { freed = true }

-- the object's lifetime ends (6.2.4, 7.20.3.2)
abbrev pub deallocated : ℕ → Store → Store
deallocated o s = record s { objects = altered marked_freed o s.objects }

-- a fault ends the run; what the types exclude does nothing
abbrev pub stopped : Stop → Bool → Store → Store
stopped (Faulted kind offset) by_free s = record s { ending = Fault kind offset by_free }
stopped Excluded by_free s = s
