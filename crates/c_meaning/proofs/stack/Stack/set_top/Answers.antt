use Rattle.std.proofs.Common.{◌≡◌, ◌-◌, ◌<◌, ◌∙◌, List, slice_set, length, ap, arith}
use Rattle.std.specs.Prelude.{reverse}
use Rattle.std.proofs.lemmas.List.{length-reverse}
use Rattle.c_meaning.proofs.StackLists.{last_set}
use Rattle.c_meaning.proofs.stack.Stack.set_top.Goals as goal

pub returns : goal.returns
returns g c =
    let some : 0 < length c.args.self.now = c.requires in
    let count : c.len-last.result ≡ length c.self.inside.items.items = c.len-last.ensures ∙ c.self.inside.items.ok.0 in
    let long = length-reverse c.self.inside.items.items in
    let seen : length (reverse c.self.inside.items.items) ≡ length c.args.self.now = ap (λ (vs : List g.row.T.Denot). length vs) c.self.view_is in
    last_set c.self.inside.items.items (c.len-last.result - 1) c.args.item (omega arith)
    ∙ ap (λ (vs : List g.row.T.Denot). slice_set vs 0 c.args.item) c.self.view_is
