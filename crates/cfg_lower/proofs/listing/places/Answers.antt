use Rattle.std.proofs.Common.{rules, ◌≡◌, [], ◌∷◌, ◌++◌, ap, ◌∙◌}
use Rattle.c_meaning.specs.Place.{brace_of, places_of}
use Rattle.cfg_lower.specs.Listing.{below_all}
use Rattle.cfg_lower.proofs.Listings.{below_nothing}
use Rattle.cfg_lower.proofs.listing.places.Goals as goal

pub returns : goal.returns
returns c =
    let block : c.add_block.new.list ≡ below_all [] (places_of c.args.slot c.args.def.now.body) = search rules in
    let all : c.push.new.self ≡ c.add_block.new.list ++ (brace_of c.args.def.now.body ∷ []) ∷ [] = search rules in
    all ∙ ap (λ ps. ps ++ (brace_of c.args.def.now.body ∷ []) ∷ []) (block ∙ below_nothing (places_of c.args.slot c.args.def.now.body))
