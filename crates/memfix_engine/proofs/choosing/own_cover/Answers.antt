-- Own frees that are no cover leave none that are.
use Rattle.std.proofs.Common.{rules}
use Rattle.memfix_engine.specs.OwnFrees.{AreOwn}
use Rattle.memfix_engine.proofs.ChoosingLaws.{own_no_cover}
use Rattle.memfix_engine.proofs.choosing.own_cover.Goals as goal

pub returns-else-is_cover : goal.returns-else-is_cover
returns-else-is_cover c =
    let own : AreOwn c.args.program.now c.in-Some.own = search rules in
    own_no_cover c.args.program.now c.args.problem.now c.in-Some.own c.is_cover.result c.requires.well_formed own c.is_cover.ensures.covers c.if-is_cover.false
