-- Own frees that are a cover are chosen, and where there are none what the solver finds; an object that stands alone has offsets.
use Rattle.std.proofs.Common.{rules, None}
use Rattle.c_tree.specs.declared.choice.Choice.{Choice}
use Rattle.cover_problem.specs.Alone.{LeastAlone}
use Rattle.cover_problem.specs.Problem.{IsCoverOf}
use Rattle.memfix_engine.specs.Covers.{IsFoundCover, IsOwnCover}
use Rattle.memfix_engine.specs.OwnFrees.{AreOwn}
use Rattle.memfix_engine.proofs.ChoosingLaws.{exit_offset_there, found_is_chosen, is_alone, is_uncovered, own_is_chosen, puts_ascend, site_offset_there}
use Rattle.memfix_engine.proofs.choosing.choose.Goals as goal

pub returns-in-Some-clause-chosen : goal.returns-in-Some-clause-chosen
returns-in-Some-clause-chosen c =
    let own : IsOwnCover c.args.program.now c.args.analysis.now.problem c.in-Some.own = search rules in
    own_is_chosen c.args.program.now c.args.analysis.now.problem c.in-Some.own c.requires.well_formed own

pub offsets-site-requires-clause-site : goal.offsets-site-requires-clause-site
offsets-site-requires-clause-site c =
    site_offset_there c.args.program.now c.args.analysis.now c.in-Some-alone.place c.requires.analysis c.in-Some-alone.ensures

pub offsets-site-requires-clause-exit : goal.offsets-site-requires-clause-exit
offsets-site-requires-clause-exit c =
    exit_offset_there c.args.program.now c.args.analysis.now c.in-Some-alone.place c.requires.analysis c.in-Some-alone.ensures

pub returns-in-Some-alone-clause-refused : goal.returns-in-Some-alone-clause-refused
returns-in-Some-alone-clause-refused c =
    is_alone c.args.program.now c.args.analysis.now c.in-Some-alone.place c.offsets-site.result c.requires.analysis c.in-Some-alone.ensures c.offsets-site.ensures

pub solved-requires-clause-ascending : goal.solved-requires-clause-ascending
solved-requires-clause-ascending c = puts_ascend c.args.program.now c.args.analysis.now c.requires.analysis

pub returns-in-Some-2-clause-chosen : goal.returns-in-Some-2-clause-chosen
returns-in-Some-2-clause-chosen c =
    let none : (t : Choice) → AreOwn c.args.program.now t → IsCoverOf c.args.analysis.now.problem t → ⊥ = search rules in
    let found : IsFoundCover c.args.analysis.now.problem c.in-Some-2.choice = search rules in
    found_is_chosen c.args.program.now c.args.analysis.now.problem c.in-Some-2.choice none found

pub returns-clause-refused : goal.returns-clause-refused
returns-clause-refused c =
    let lone : LeastAlone c.args.analysis.now.problem None = search rules in
    let none : (s : Choice) → IsCoverOf c.args.analysis.now.problem s → ⊥ = search rules in
    is_uncovered c.args.program.now c.args.analysis.now c.requires.analysis lone none
