-- The calls of each function, in the order of the text.
use Rattle.std.specs.Prelude.{ℕ, ◌+◌, List, [], ◌∷◌, slice_get, unwrap_or}
use Rattle.c_tree.specs.UserCalls.{calls_in}
use Rattle.c_tree.specs.declared.control.UserCall.{UserCall}
use Rattle.c_tree.specs.declared.program.FunDef.{FunDef}
use Rattle.c_tree.specs.declared.program.Program.{Program}

-- those of functions in turn, the first of which has the number f
abbrev pub rows_from : ℕ → List FunDef → List (List UserCall)
rows_from f [] = []
rows_from f (d ∷ ds) = calls_in f d.body ∷ rows_from (f + 1) ds

-- the calls of each function, by its number
abbrev pub calls_by_function : Program → List (List UserCall)
calls_by_function p = rows_from 0 p.funs

-- the calls of function f; none where there is no such function
abbrev pub calls_of : List (List UserCall) → ℕ → List UserCall
calls_of rows f = unwrap_or (slice_get rows f) []
