-- A turn reads a declaration.
use Rattle.std.proofs.Common.{rules, ◌≡◌, ◌-◌, ◌∷◌, ◌++◌, length, [], Some}
use Rattle.c_parser.specs.ReadFile.{read_top, read_file}
use Rattle.c_parser.proofs.FileLoops.{file_on, file_fails, file_end, file_stops}
use Rattle.c_parser.proofs.file.read_file.Goals as goal

pub returns-then-is_empty : goal.returns-then-is_empty
returns-then-is_empty c =
    let n = length c.args.tokens.now in
    let none : length c.loop-turn.left.now ≡ 0 = search rules in
    file_end n (n - c.loop-turn._turn) c.loop-turn.tops c.loop-turn.left.now (read_file n n [] c.args.tokens.now) none c.loop-turn.invariant

pub returns-in_err-top : goal.returns-in_err-top
returns-in_err-top c =
    let n = length c.args.tokens.now in
    let more : c.loop-turn.left.now ≡ [] → ⊥ = search rules in
    file_fails n n c.loop-turn._turn c.loop-turn.tops c.loop-turn.left.now (read_file n n [] c.args.tokens.now) (λ r. (r.0, r.1.now)) (λ tops. tops)
    c.read_top.result c.from_residual.result c.in_err-top.field-0.0 c.loop-turn-test.true more c.loop-turn.invariant c.in_err-top.was (search rules) c.read_top.ensures

pub loop-turn-preserved : goal.loop-turn-preserved
loop-turn-preserved c =
    let n = length c.args.tokens.now in
    let more : c.loop-turn.left.now ≡ [] → ⊥ = search rules in
    let one : read_top n c.loop-turn.left.now ≡ Some (c.in_ok-top.top, c.in_ok-top.rest.now) = search rules in
    let pushed : c.push.new.self ≡ c.loop-turn.tops ++ c.in_ok-top.top ∷ [] = search rules in
    rw pushed (file_on n n c.loop-turn._turn c.loop-turn.tops c.loop-turn.left.now c.in_ok-top.rest.now c.in_ok-top.top (read_file n n [] c.args.tokens.now) c.loop-turn-test.true more c.loop-turn.invariant one)

pub returns-then-is_empty-2 : goal.returns-then-is_empty-2
returns-then-is_empty-2 c =
    let n = length c.args.tokens.now in
    let none : length c.loop-turn.left.now ≡ 0 = search rules in
    file_end n (n - c.loop-turn._turn) c.loop-turn.tops c.loop-turn.left.now (read_file n n [] c.args.tokens.now) none c.loop-turn.invariant

pub returns-else-is_empty-2 : goal.returns-else-is_empty-2
returns-else-is_empty-2 c =
    let n = length c.args.tokens.now in
    let more : c.loop-turn.left.now ≡ [] → ⊥ = search rules in
    file_stops n n c.loop-turn._turn c.loop-turn.tops c.loop-turn.left.now (read_file n n [] c.args.tokens.now) c.loop-turn-test.false more c.loop-turn.invariant
