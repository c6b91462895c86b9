-- The program of a text is well formed.
use Rattle.std.specs.Prelude.{Result, Ok, Err, IfOk}
use Rattle.c_tree.specs.Cycles.{IsCyclic}
use Rattle.c_tree.specs.UserCalls.{user_calls}
use Rattle.c_tree.specs.WellFormed.{IsWellFormed}
use Rattle.c_tree.specs.declared.program.Program.{Program}
use Rattle.c_tree.specs.declared.tree.Tree.{Tree}
use Rattle.c_types.specs.Offsets.{FitsText}
use Rattle.c_types.specs.Program.{IsProgram, IsAnswer}
use Rattle.c_types.specs.declared.refusal.TypeRefusal.{TypeRefusal}
use Rattle.c_types.proofs.NumberingTops.{program_gaps, program_calls}
use Rattle.c_types.proofs.ProgramDeclared.{program_declared}
use Rattle.c_types.proofs.ProgramRules.{program_main, program_structs, program_results, program_jumps, program_values}
use Rattle.c_types.proofs.ProgramVariables.{program_variables}
use Rattle.c_types.proofs.TypedPrograms.{program_typed, program_frees}

-- the program of a tree that fits a text is well formed, if no function calls itself
pub program_fits : (t : Tree) (p : Program) → IsProgram t p → (IsCyclic (user_calls p) → ⊥) → FitsText t → IsWellFormed p
program_fits t p is acyclic fits = record {
  main = program_main t p is;
  structs = program_structs t p is;
  variables = program_variables t p is fits;
  results = program_results t p is;
  declared = program_declared t p is;
  gaps = program_gaps t p is;
  calls = program_calls t p is;
  typed = program_typed t p is fits;
  jumps = program_jumps t p is;
  values = program_values t p is;
  no_recursion = acyclic;
  frees = program_frees t p is fits;
}

-- and so is the one that is answered
pub answer_fits : (t : Tree) (r : Result Program TypeRefusal) → IsAnswer t r → FitsText t → IfOk r IsWellFormed
answer_fits t (Ok p) answer fits = program_fits t p answer.0 answer.1 fits
answer_fits t (Err e) answer fits = tt
