use Rattle.std.proofs.Common.{rules, ◌≡◌, [], ◌∷◌, ◌++◌, map, None}
use Rattle.std.proofs.lemmas.Result.{on_ok_weaker}
use Rattle.c_meaning.specs.Parts.{One, condition_of, started}
use Rattle.c_meaning.specs.Place.{tests_of}
use Rattle.cfg_lower.specs.Listing.{below_all, parts_below}
use Rattle.cfg_lower.specs.Meant.{expr_of}
use Rattle.cfg_lower.proofs.Listings.{head_done}
use Rattle.cfg_lower.proofs.listing.add_head.Goals as goal

pub returns : goal.returns
returns c =
    let prefix = c.args.prefix.now in
    let first : c.add_starts.new.list ≡ c.args.list.now ++ parts_below None c.as_slice.result.now 0 (map (λ s. One (started s)) c.args.head.now.start) = search rules in
    let second : c.add_condition.new.list ≡ c.add_starts.new.list ++ below_all c.as_slice-3.result.now (tests_of (expr_of c.condition.result)) = search rules in
    let way0 : c.as_slice.result.now ≡ prefix ++ 0 ∷ [] = search rules in
    let way1 : c.as_slice-3.result.now ≡ prefix ++ 1 ∷ [] = search rules in
    let way2 : c.as_slice-4.result.now ≡ prefix ++ 2 ∷ [] = search rules in
    let test : expr_of c.condition.result ≡ condition_of c.args.head.now.test = search rules in
    on_ok_weaker c.add_step.result
    (λ e. head_done c.args.list.now c.add_starts.new.list c.add_condition.new.list c.add_step.new.list prefix c.as_slice.result.now c.as_slice-3.result.now c.as_slice-4.result.now c.args.head.now (expr_of c.condition.result) first second e way0 way1 way2 test)
    c.add_step.ensures
