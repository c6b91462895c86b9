-- The test decides.
use Rattle.std.proofs.lemmas.Bool.Decides.{Decides-at}
use Rattle.c_tree.specs.AlikeTest.{alike_program}
use Rattle.c_tree.proofs.AlikeProgram.{program_decides}
use Rattle.c_tree.proofs.alike.same_skeleton.Goals as goal

pub returns : goal.returns
returns c = Decides-at c.programs_alike.result (alike_program c.args.a.now c.args.b.now) c.programs_alike.ensures (program_decides c.args.a.now c.args.b.now)
