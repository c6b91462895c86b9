-- What an instruction does, where control of the innermost call stands at a path.
use Rattle.std.specs.Prelude.{ℕ, List, Bool, Result}
use Rattle.c_tree.specs.declared.expr.Expr.{Expr}
use Rattle.c_tree.specs.declared.program.Program.{Program}
use Rattle.c_meaning.specs.declared.machine.Machine.{Machine}
use Rattle.c_meaning.specs.declared.machine.Stop.{Stop}
use Rattle.c_meaning.specs.Machine.{Store, store_of}
use Rattle.c_meaning.specs.Eval.{◌>>=◌, eval, truth}
use Rattle.c_meaning.specs.Parts.{Instruction}
use Rattle.c_meaning.specs.Effects.{effect}
use Rattle.c_meaning.specs.Step.{acts, gone_on, seen, target_in}
use Rattle.c_replay.specs.Changes.{moved}

abbrev pub acted : Program → List ℕ → Instruction → Machine → Machine
acted p path a m = seen (gone_on p (acts p) (target_in a) (moved path m.rest) (effect p a (store_of m)))

-- what a test says
abbrev pub says_in : Store → Expr → Result Bool Stop
says_in s e = eval s.slots s.objects e >>= truth
