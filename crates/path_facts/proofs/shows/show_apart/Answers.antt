use Rattle.std.proofs.Common.{rules, ◌≢◌, ◌<◌, length, ap, ◌∙◌}
use Rattle.mf_set.specs.Numbers.{with_number}
use Rattle.ts_domain.specs.declared.fact.Fact.{Fact}
use Rattle.ts_domain.specs.Facts.{number_of}
use Rattle.path_facts.proofs.ShowLaws.{apart_shown}
use Rattle.path_facts.proofs.shows.show_apart.Goals as goal

pub returns-then-x-y : goal.returns-then-x-y
returns-then-x-y c =
    let n = c.args.names.now in
    let s = c.args.set.now in
    let x_low : c.args.x < length n.vars = search rules in
    let y_low : c.args.y < length n.vars = search rules in
    let others : c.args.x ≢ c.args.y = search rules in
    apart_shown n c.args.x c.args.y s c.show.new.set x_low y_low others (c.show.ensures ∙ ap (λ (f : Fact). record s { items = with_number s.items (number_of n f) }) c.apart_pair.ensures)
