-- The puts of all variables, marked, are the bits of the choice.
use Rattle.std.proofs.Common.{rules, ◌≡◌, true, map, replicate}
use Rattle.ts_domain.specs.Chosen.{has_put}
use Rattle.cover_clauses.specs.Clauses.{variables}
use Rattle.memfix_engine.proofs.HintLaws.{bits_are}
use Rattle.memfix_engine.proofs.choosing.bits_of.Goals as goal

pub returns : goal.returns
returns c =
    let q = c.args.problem.now in
    let s = c.args.choice.now in
    let set : c.as_slice.result.now ≡ replicate (variables q) true = search rules in
    let marks : c.in_ok-bits.bits.items ≡ map (has_put s.puts) c.in_ok-usable.usable.puts = search rules in
    bits_are q s c.in_ok-usable.usable c.as_slice.result.now c.in_ok-bits.bits.items set c.in_ok-usable.ensures.choice marks
