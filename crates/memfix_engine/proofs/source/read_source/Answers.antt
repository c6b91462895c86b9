-- What refuses a text excludes that it reads as a program, and a text's program is well formed.
use Rattle.std.proofs.Common.{rules, IfErr}
use Rattle.c_lexer.specs.Outcome.{AreTokens}
use Rattle.source_patcher.specs.Reads.{HasProgram}
use Rattle.memfix_engine.specs.Refusal.{RefusesSource}
use Rattle.memfix_engine.proofs.ReadsLemmas.{only_refused}
use Rattle.source_patcher.proofs.TextFits.{text_well_formed}
use Rattle.memfix_engine.proofs.source.read_source.Goals as goal

pub returns-in_err-tokens-clause-only : goal.returns-in_err-tokens-clause-only
returns-in_err-tokens-clause-only c =
    let refused : IfErr c.from_residual.result (RefusesSource c.args.bytes.now) = search rules in
    only_refused c.args.bytes.now c.from_residual.result refused

pub returns-in_err-program-clause-only : goal.returns-in_err-program-clause-only
returns-in_err-program-clause-only c =
    let refused : IfErr c.from_residual-in_err-program.result (RefusesSource c.args.bytes.now) = search rules in
    only_refused c.args.bytes.now c.from_residual-in_err-program.result refused

pub returns-clause-well_formed : goal.returns-clause-well_formed
returns-clause-well_formed c =
    let tokens = c.in_ok-tokens.tokens in
    let program = c.in_ok-program.program in
    let are : AreTokens c.args.bytes.now tokens = search rules in
    let has : HasProgram tokens program = search rules in
    text_well_formed c.args.bytes.now tokens program are has
