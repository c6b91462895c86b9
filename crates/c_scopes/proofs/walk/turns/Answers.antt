use Rattle.std.proofs.Common.{[], ap, ◌∙◌}
use Rattle.std.proofs.lemmas.Result.{IfOk-weaker}
use Rattle.c_scopes.specs.Turns.{rows_from, scope_of}
use Rattle.c_scopes.proofs.ScopeNumbers.{row_numbers}
use Rattle.c_scopes.proofs.TurnRows.{turns_numbered, turns_rows}
use Rattle.c_scopes.proofs.walk.turns.Goals as goal

pub returns-clause-rows : goal.returns-clause-rows
returns-clause-rows c =
    IfOk-weaker c.all_turns.result _ _ (λ ts e. ap (rows_from (scope_of [] [])) e ∙ turns_rows c.args.hidden.now c.args.program.now) c.all_turns.ensures

pub returns-clause-numbered : goal.returns-clause-numbered
returns-clause-numbered c w =
    IfOk-weaker c.all_turns.result _ _ (λ ts e. ap (λ us. row_numbers (rows_from (scope_of [] []) us)) e ∙ turns_numbered c.args.hidden.now c.args.program.now w) c.all_turns.ensures
