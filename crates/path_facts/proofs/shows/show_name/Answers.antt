use Rattle.std.proofs.Common.{rules, ◌-◌, ◌<◌, ◌≤◌, length, ap, ◌∙◌, arith}
use Rattle.mf_set.specs.Numbers.{with_number}
use Rattle.ts_domain.specs.declared.fact.Fact.TheVariants.{Filled}
use Rattle.ts_domain.specs.Facts.{number_of}
use Rattle.path_facts.proofs.ShowLaws.{filled_shown, ready_shown}
use Rattle.path_facts.proofs.shows.show_name.Goals as goal

pub returns-then-name-vars : goal.returns-then-name-vars
returns-then-name-vars c =
    let low : c.args.name < length c.args.names.now.vars = search rules in
    ready_shown c.args.names.now c.args.name c.args.set.now c.show.new.set low c.show.ensures

pub returns-then-name-vars-2 : goal.returns-then-name-vars-2
returns-then-name-vars-2 c =
    let n = c.args.names.now in
    let s = c.args.set.now in
    let past : length n.vars ≤ c.args.name = omega (arith, c.if-name-vars.false, c.len-vars.ensures) in
    let below : c.args.name - length n.vars < length n.fields = omega (arith, c.if-name-vars-2.true, c.len-vars.ensures, c.len.ensures) in
    filled_shown n c.args.name s c.show-then-name-vars-2.new.set past below
    (c.show-then-name-vars-2.ensures ∙ ap (λ k. record s { items = with_number s.items (number_of n (Filled (c.args.name - k))) }) c.len-vars.ensures)
