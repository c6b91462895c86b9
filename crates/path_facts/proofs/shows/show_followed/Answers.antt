use Rattle.std.proofs.Common.{rules, ◌<◌, length}
use Rattle.path_facts.proofs.ShowLaws.{full_shown}
use Rattle.path_facts.proofs.shows.show_followed.Goals as goal

pub returns-then-variable-len : goal.returns-then-variable-len
returns-then-variable-len c =
    let low : c.args.variable < length c.args.names.now.vars = search rules in
    full_shown c.args.names.now c.args.variable c.args.set.now c.show.new.set low c.show.ensures
