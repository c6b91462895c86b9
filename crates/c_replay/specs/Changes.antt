-- Changes of a machine's store, and frees that are taken back.
use Rattle.std.specs.Prelude.{ℕ, ℤ, Bool, true, false, List, [], ◌∷◌, length, Option, Result, Ok, Err}
use Rattle.c_tree.specs.declared.expr.Expr.{Expr}
use Rattle.c_meaning.specs.declared.value.Value.TheVariants.{Ptr}
use Rattle.c_meaning.specs.declared.machine.Object.{Object}
use Rattle.c_meaning.specs.declared.machine.Location.{Location}
use Rattle.c_meaning.specs.declared.machine.Frame.{Frame}
use Rattle.c_meaning.specs.declared.machine.Ending.{Ending}
use Rattle.c_meaning.specs.declared.machine.Stop.{Stop}
use Rattle.c_meaning.specs.declared.machine.Machine.{Machine}
use Rattle.c_meaning.specs.Machine.{Store, store_of, machine_of, altered}
use Rattle.c_meaning.specs.Eval.{◌>>=◌, eval, eval_all, int_of}
use Rattle.c_meaning.specs.Effects.{Effect, answered, born, converted, ints_of, passing, printed}

-- a machine with its store changed
abbrev pub on_store : (Store → Store) → Machine → Machine
on_store f m = machine_of m.rest (f (store_of m))

-- a new object, and its pointer where there is a place for it
abbrev pub grown : Option Location → ℕ → Store → Store
grown l n s = answered l (Ptr (length s.objects)) (born n s)

-- an object that is not freed
abbrev pub unmarked : Object → Object
unmarked o = record o { freed = false }

-- the frees of these objects taken back, the latest first
abbrev pub revived : List ℕ → List Object → List Object
revived [] os = os
revived (o ∷ fs) os = revived fs (altered unmarked o os)

-- a machine with these frees taken back, and with that ending
abbrev pub taken_back : List ℕ → Ending → Machine → Machine
taken_back fs e m = record m { objects = revived fs m.objects; ending = e }

-- an action behind which control goes straight on, or why it could not be done
abbrev pub passed : Result (Unit {0}) Stop → Store → Result (Effect Store) Stop
passed (Ok done) s = passing s
passed (Err e) s = Err e

-- the value of an expression as a number
abbrev pub number_in : Store → Expr → Result ℤ Stop
number_in s e = eval s.slots s.objects e >>= int_of

-- what a printf writes
abbrev pub text_in : Store → List ℕ → List Expr → Result (List ℕ) Stop
text_in s text arguments = eval_all s.slots s.objects arguments >>= ints_of >>= printed text

-- the rest of a text, behind a percent sign or not
abbrev pub goes_on : Bool → List ℕ → List ℤ → Result (List ℕ) Stop
goes_on true text ns = converted text ns
goes_on false text ns = printed text ns

-- control of the innermost call at another place
abbrev pub moved : List ℕ → List Frame → List Frame
moved path [] = []
moved path (f ∷ fs) = record f { path = path } ∷ fs
