-- The walk through a text, the program that it makes, and the answer (C99 6.9).
use Rattle.std.specs.Prelude.{◌≡◌, ℕ, ◌<◌, List, [], ◌∷◌, ◌++◌, length, map, slice_get, Option, None, Some, Result, Ok, Err}
use Rattle.std.specs.List.{fold}
use Rattle.c_tree.specs.declared.program.FieldDef.{FieldDef}
use Rattle.c_tree.specs.declared.program.Program.{Program}
use Rattle.c_tree.specs.declared.program.StructDef.{StructDef}
use Rattle.c_tree.specs.declared.tree.Head.{Head}
use Rattle.c_tree.specs.declared.tree.Top.{Top}
use Rattle.c_tree.specs.declared.tree.Top.TheVariants as top
use Rattle.c_tree.specs.declared.tree.Tree.{Tree}
use Rattle.c_tree.specs.declared.tree.Word.{Word}
use Rattle.c_tree.specs.declared.control.UserCall.{UserCall}
use Rattle.c_types.specs.declared.faults.Fault.{Fault}
use Rattle.c_types.specs.declared.refusal.TypeRefusal.{TypeRefusal}
use Rattle.c_types.specs.declared.refusal.TypeRefusal.TheVariants as refusal
use Rattle.c_types.specs.declared.scope.StructRow.{StructRow}
use Rattle.c_types.specs.declared.scope.Walk.{Walk}
use Rattle.c_types.specs.declared.scope.Written.{Written}
use Rattle.c_types.specs.Calls.{main_name}
use Rattle.c_tree.specs.Cycles.{IsCyclic, ClosesCycle}
use Rattle.c_types.specs.Faults.{IsLeast, refusal_of}
use Rattle.c_types.specs.Functions.{walked_fun, walked_proto}
use Rattle.c_types.specs.Scopes.{or_int}
use Rattle.c_types.specs.Structs.{walked_struct, walked_globals}
use Rattle.c_types.specs.Tables.{found, place_of}
use Rattle.c_tree.specs.UserCalls.{user_calls}

-- the functions that a file defines, each once, in the order of their definitions

abbrev pub with_definition : List (List ℕ × ℕ) → Word → Option ℕ → List (List ℕ × ℕ)
with_definition rows n None = rows ++ (n.text, n.at) ∷ []
with_definition rows n (Some at) = rows

abbrev pub definition_named : List (List ℕ × ℕ) → Option Word → List (List ℕ × ℕ)
definition_named rows None = rows
definition_named rows (Some n) = with_definition rows n (found rows n.text)

abbrev pub with_top : List (List ℕ × ℕ) → Top → List (List ℕ × ℕ)
with_top rows (top.Fun h body) = definition_named rows h.result.name
with_top rows (top.Proto h) = rows
with_top rows (top.Globals ds) = rows
with_top rows (top.Struct tag body alias) = rows

abbrev pub definitions : List Top → List (List ℕ × ℕ)
definitions tops = fold with_top [] tops

-- before the first declaration
abbrev pub start : List (List ℕ × ℕ) → Walk
start rows = record {
  scope = record { names = []; tags = []; structs = [] };
  definitions = rows;
  signatures = [];
  vars = [];
  funs = [];
  gaps = 0;
  calls = 0;
  faults = [];
}

abbrev pub walked_top : Walk → Top → Walk
walked_top w (top.Struct tag body alias) = walked_struct tag body alias w
walked_top w (top.Globals ds) = walked_globals w ds
walked_top w (top.Proto h) = walked_proto h w
walked_top w (top.Fun h body) = walked_fun h body w

abbrev pub walked_from : Walk → List Top → Walk
walked_from w tops = fold walked_top w tops

-- the way through a whole file
abbrev pub walked : Tree → Walk
walked t = walked_from (start (definitions t.tops)) t.tops

-- the rules that a file breaks
abbrev pub faults : Tree → List Fault
faults t = (walked t).faults

-- the program of a file, with the number of main

abbrev pub field_def : List ℕ × Written → FieldDef
field_def row = record { name = row.0; ty = or_int row.1 }

abbrev pub struct_def : StructRow → StructDef
struct_def row = record { fields = map field_def row.fields; body = row.body }

abbrev pub made_program : Walk → ℕ → Program
made_program w main =
    record { structs = map struct_def w.scope.structs; vars = w.vars; funs = w.funs; main = main; gaps = w.gaps; calls = w.calls }

-- which function is main
abbrev pub main_of : Tree → Option ℕ
main_of t = place_of (definitions t.tops) main_name

-- The program of a file that breaks no rule.
pub record IsProgram (t : Tree) (p : Program) : Type 0 where
  pub clean : faults t ≡ []
  pub main : main_of t ≡ Some p.main
  pub made : p ≡ made_program (walked t) p.main

-- The call of a program with which its functions first form a cycle is at that offset.
pub record ClosesCycleAt (p : Program) (at : ℕ) : Type 0 where
  pub place : ℕ
  pub call : UserCall
  pub closes : ClosesCycle (user_calls p) place
  pub is : slice_get (user_calls p) place ≡ Some call
  pub offset : call.at ≡ at

-- a program whose functions may call each other in a cycle
abbrev pub IsSettled : Program → Result Program TypeRefusal → Type 0
IsSettled p (Ok q) = (q ≡ p) × (IsCyclic (user_calls p) → ⊥)
IsSettled p (Err (refusal.Recursion at)) = ClosesCycleAt p at
IsSettled p (Err refusal.Memory) = Unit {0}
IsSettled p (Err _) = ⊥

-- the first broken rule of a file is refused so
pub record IsRefused (t : Tree) (r : TypeRefusal) : Type 0 where
  pub first : Fault
  pub least : IsLeast (faults t) first
  pub answer : r ≡ refusal_of first

-- The answer: the program where no rule is broken; else the first broken rule in the text, then the want of main, then
-- the first call that closes a cycle.
abbrev pub IsAnswer : Tree → Result Program TypeRefusal → Type 0
IsAnswer t (Ok p) = IsProgram t p × (IsCyclic (user_calls p) → ⊥)
IsAnswer t (Err (refusal.Unknown at)) = IsRefused t (refusal.Unknown at)
IsAnswer t (Err (refusal.Twice at)) = IsRefused t (refusal.Twice at)
IsAnswer t (Err (refusal.Hidden at)) = IsRefused t (refusal.Hidden at)
IsAnswer t (Err (refusal.Wrong r at)) = IsRefused t (refusal.Wrong r at)
IsAnswer t (Err (refusal.NoValue at)) = IsRefused t (refusal.NoValue at)
IsAnswer t (Err (refusal.Jump at)) = IsRefused t (refusal.Jump at)
IsAnswer t (Err refusal.NoMain) = (faults t ≡ []) × (main_of t ≡ None)
IsAnswer t (Err (refusal.Recursion at)) = (p : Program) × IsProgram t p × ClosesCycleAt p at
IsAnswer t (Err refusal.Memory) = Unit {0}
