use Rattle.std.proofs.Common.{rules, ◌≡◌, ◌∷◌, [], ◌++◌, flat_map}
use Rattle.std.specs.Prelude.{OnOk}
use Rattle.std.proofs.lemmas.Result.{on_ok_weaker}
use Rattle.c_scopes.specs.Turns.{block_turns, var_turns}
use Rattle.c_scopes.specs.declared.walk.Turn.TheVariants.{Open, Close}
use Rattle.c_scopes.proofs.TurnLaws.{joined, scoped_done}
use Rattle.c_scopes.proofs.walk.function.Goals as goal

pub returns : goal.returns
returns c =
    let hidden = c.args.hidden.now in
    let d = c.args.fun.now in
    let opened : c.push.new.self ≡ c.args.turns.now ++ Open ∷ [] = search rules in
    let params : c.see_all.new.turns ≡ c.push.new.self ++ flat_map (var_turns hidden) d.params = search rules in
    let body : c.block.new.turns ≡ c.see_all.new.turns ++ block_turns hidden d.body = search rules in
    let last : OnOk c.push-2.result (c.push-2.new.self ≡ c.block.new.turns ++ Close ∷ []) = search rules in
    on_ok_weaker c.push-2.result
    (scoped_done c.args.turns.now c.push.new.self c.block.new.turns c.push-2.new.self (flat_map (var_turns hidden) d.params ++ block_turns hidden d.body) opened
    (joined c.push.new.self c.see_all.new.turns c.block.new.turns (flat_map (var_turns hidden) d.params) (block_turns hidden d.body) params body))
    last
