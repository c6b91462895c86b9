use Rattle.std.proofs.Common.{rules, of_calls, sym}
use Rattle.std.proofs.lemmas.Fn.{always_returns_same}
use Rattle.cfg_lower.specs.Ranks.{path_cmp}
use Rattle.cfg_lower.proofs.Ranked.{rising, found_rank, no_rank}
use Rattle.cfg_lower.proofs.ranks.rank.Goals as goal

pub returns-in-Ok : goal.returns-in-Ok
returns-in-Ok c =
    let q = c.args.path.now in
    let held = c.in-Ok.ensures.position (λ r. path_cmp r q) (always_returns_same _ _ _ (λ a r f k. search (rules, of_calls))) in
    sym (found_rank q c.args.paths.now c.in-Ok.at c.requires c.in-Ok.ensures.bound held)

pub returns-in-Err : goal.returns-in-Err
returns-in-Err c =
    let q = c.args.path.now in
    let sides = c.in-Err.ensures.position (λ r. path_cmp r q) (always_returns_same _ _ _ (λ a r f k. search (rules, of_calls))) in
    sym (no_rank q c.args.paths.now _ (sides (rising q c.args.paths.now c.requires)))
