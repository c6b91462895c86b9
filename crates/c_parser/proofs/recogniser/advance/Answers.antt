-- Each symbol that leaves the stack is replaced by its row, or is nothing, or stops the tokens.
use Rattle.std.proofs.Common.{rules, ◌≡◌, Some, None, [], ◌∷◌, ◌++◌, reverse, true, false, ◌∙◌}
use Rattle.c_parser.specs.Recogniser.{takes, may_end}
use Rattle.c_parser.proofs.Stacks.{advance_on, advance_stops, advance_row, advance_empty}
use Rattle.c_parser.proofs.recogniser.advance.Goals as goal

pub returns-in-Some-2 : goal.returns-in-Some-2
returns-in-Some-2 c =
    let is : c.loop-symbol.stack ≡ c.pop.new.self ++ c.in-Some.symbol ∷ [] = search rules in
    let row : takes c.in-Some.symbol c.args.term ≡ Some c.in-Some-2.row = search rules in
    let put : c.put.new.stack ≡ c.pop.new.self ++ reverse c.in-Some-2.row = search rules in
    c.loop-symbol.invariant ∙ advance_row c.loop-symbol.stack c.pop.new.self c.put.new.stack c.in-Some-2.row c.in-Some.symbol c.args.term is row put

pub returns-then-not-may_end : goal.returns-then-not-may_end
returns-then-not-may_end c =
    let is : c.loop-symbol.stack ≡ c.pop.new.self ++ c.in-Some.symbol ∷ [] = search rules in
    let none : takes c.in-Some.symbol c.args.term ≡ None = search rules in
    let stays : may_end c.in-Some.symbol ≡ false = search rules in
    c.loop-symbol.invariant ∙ advance_stops c.loop-symbol.stack c.pop.new.self c.in-Some.symbol c.args.term is none stays

pub loop-symbol-preserved : goal.loop-symbol-preserved
loop-symbol-preserved c =
    let is : c.loop-symbol.stack ≡ c.pop.new.self ++ c.in-Some.symbol ∷ [] = search rules in
    let none : takes c.in-Some.symbol c.args.term ≡ None = search rules in
    let ends : may_end c.in-Some.symbol ≡ true = search rules in
    c.loop-symbol.invariant ∙ advance_on c.loop-symbol.stack c.pop.new.self c.in-Some.symbol c.args.term is none ends

pub returns : goal.returns
returns c =
    let is : c.loop-symbol.stack ≡ [] = search rules in
    c.loop-symbol.invariant ∙ advance_empty c.loop-symbol.stack c.args.term is
