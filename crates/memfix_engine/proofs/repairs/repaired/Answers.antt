-- The text of a chosen cover that is safe repairs the text, and what refuses a choice refuses the program.
use Rattle.std.proofs.Common.{sym, subst}
use Rattle.source_patcher.specs.ReadsBack.{ReadsBack}
use Rattle.memfix_engine.specs.Repair.{Repairs}
use Rattle.memfix_engine.proofs.Repaired.{choice_refused, cover_has_gaps, cover_in_scope, memory_refused, repaired}
use Rattle.memfix_engine.proofs.repairs.repaired.Goals as goal

pub returns-in_err-choice-clause-refused : goal.returns-in_err-choice-clause-refused
returns-in_err-choice-clause-refused c =
    choice_refused c.args.program.now c.from_residual-in_err-choice.result c.in_err-choice.field-0.0 c.from_residual-in_err-choice.ensures.1 c.in_err-choice.ensures.refused

pub returns-in_err-certify-clause-refused : goal.returns-in_err-certify-clause-refused
returns-in_err-certify-clause-refused c = memory_refused c.args.program.now c.from_residual-in_err-certify.result c.from_residual-in_err-certify.ensures.1

pub returns-clause-repairs : goal.returns-clause-repairs
returns-clause-repairs c =
    let p = c.args.program.now in
    let a = c.in_ok-analysis.analysis in
    let s = c.in_ok-choice.choice in
    let well = c.requires.well_formed in
    let is = c.in_ok-analysis.ensures.analysis in
    let cover = c.in_ok-choice.ensures.chosen.cover in
    let back : ReadsBack c.in_ok-text.text p s = c.in_ok-text.ensures.reads c.requires.read (cover_in_scope p a s well is cover) (cover_has_gaps p a s well is cover) in
    subst (Repairs c.args.bytes.now) (sym c.into_vec.ensures)
    (repaired c.args.bytes.now c.in_ok-text.text p a s c.requires.read well is c.in_ok-choice.ensures.chosen c.in_ok-certify.ensures.safe c.in_ok-text.ensures.text back)
