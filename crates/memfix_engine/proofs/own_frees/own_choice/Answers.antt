-- The answers, from what is found.
use Rattle.std.proofs.Common.{rules, ◌≡◌, List, map, Some}
use Rattle.c_tree.specs.declared.choice.Put.{Put}
use Rattle.memfix_engine.specs.OwnPuts.{own_puts}
use Rattle.memfix_engine.proofs.OwnChoice.{chosen, none_found}
use Rattle.memfix_engine.proofs.own_frees.own_choice.Goals as goal

pub returns-in-None : goal.returns-in-None
returns-in-None c = λ well.
    let none : (puts : List Put) → own_puts c.args.program.now ≡ map Some puts → ⊥ = search rules in
    none_found c.args.program.now well none

pub returns : goal.returns
returns c = λ well.
    let found : own_puts c.args.program.now ≡ map Some c.in-Some.puts = search rules in
    chosen c.args.program.now c.in-Some.puts c.in_order.result well found c.in_order.ensures
