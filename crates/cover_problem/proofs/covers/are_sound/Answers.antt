use Rattle.std.proofs.Common.{rules, ◌≡◌, ◌<◌, length, true, sym, ◌∙◌}
use Rattle.cover_problem.specs.Covering.{are_sound, is_sound}
use Rattle.cover_problem.proofs.CoverLaws.{all_more}
use Rattle.cover_problem.proofs.covers.are_sound.Goals as goal

pub loop-place-preserved : goal.loop-place-preserved
loop-place-preserved c =
    let q = c.args.problem.now in
    let s = c.args.choice.now in
    let i = c.loop-place.place in
    let inside : i < length q.names.puts = search rules in
    let yes : is_sound q s i ≡ true = sym c.is_sound.ensures ∙ c.if-not-is_sound.false in
    all_more (is_sound q s) i (length q.names.puts) (are_sound q s) inside yes c.loop-place.invariant
