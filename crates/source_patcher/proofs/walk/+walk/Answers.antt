-- A block, a piece and an `if`, by what is changed in their parts.
use Rattle.std.proofs.Common.{List, ◌++◌, flat_map, option_map, ap, sym, ◌∙◌, append_assoc}
use Rattle.std.proofs.lemmas.Result.{on_ok_weaker}
use Rattle.c_tree.specs.Numbers.{from_last}
use Rattle.c_tree.specs.declared.program.Block.{out-Block}
use Rattle.c_tree.specs.declared.program.Piece.{out-Piece}
use Rattle.source_patcher.specs.declared.change.Change.{Change}
use Rattle.source_patcher.specs.declared.change.Writing.TheVariants as writing
use Rattle.source_patcher.specs.Changes.{Part, arm_changes, block_changes, brace, item_changes, last_place}
use Rattle.source_patcher.specs.Gaps.{gap_changes}
use Rattle.source_patcher.proofs.ChangeLaws.{block_opens, braces_of, four, if_opens, piece_opens, pieces_changes}
use Rattle.source_patcher.proofs.walk.+walk.Goals as goal

pub push_block-returns : goal.push_block-returns
push_block-returns t c =
    let b = out-Block c.args.block.now in
    let ts = c.args.tokens.now in
    let puts = c.args.puts.now in
    let old = c.args.out.now in
    let braces = braces_of puts c.args.block.now in
    let at = last_place b.braced b.end in
    on_ok_weaker c.push_brace-2.result
    (λ e. four old (brace braces b.start writing.Open) (pieces_changes ts puts b.items) (gap_changes ts puts at b.last_gap) (brace braces b.end writing.Close)
    c.push_brace.new.out c.push_pieces.new.out c.push_gap.new.out c.push_brace-2.new.out
    (c.in_ok-push_brace.ensures ∙ ap (λ w. old ++ brace w b.start writing.Open) c.gets_braces-braces.ensures)
    c.in_ok-push_pieces.ensures
    (c.in_ok-push_gap.ensures ∙ ap (λ n. c.push_pieces.new.out ++ gap_changes ts puts n b.last_gap) c.last_place.ensures)
    (e ∙ ap (λ w. c.push_gap.new.out ++ brace w b.end writing.Close) c.gets_braces-braces.ensures)
    ∙ ap (λ (cs : List Change). old ++ cs) (sym (block_opens ts puts c.args.block.now)))
    c.push_brace-2.ensures

pub push_piece-returns : goal.push_piece-returns
push_piece-returns t c =
    let p = out-Piece c.args.piece.now in
    let ts = c.args.tokens.now in
    let puts = c.args.puts.now in
    let old = c.args.out.now in
    on_ok_weaker c.push_item.result
    (λ e. e ∙ ap (λ (cs : List Change). cs ++ item_changes ts puts p.item) c.in_ok-push_gap.ensures
    ∙ append_assoc old (gap_changes ts puts p.start p.gap) (item_changes ts puts p.item)
    ∙ ap (λ (q : Part). old ++ q.changes) (sym (piece_opens ts puts c.args.piece.now)))
    c.push_item.ensures

pub push_item-returns-in_ok-push_arms-in-If : goal.push_item-returns-in_ok-push_arms-in-If
push_item-returns-in_ok-push_arms-in-If t c =
    let here = c.in-If in
    let ts = c.args.tokens.now in
    let puts = c.args.puts.now in
    let old = c.args.out.now in
    let front = flat_map (arm_changes ts puts) here.arms in
    let back = from_last (option_map (block_changes ts puts) here.last) in
    on_ok_weaker c.push_last.result
    (λ e. e ∙ ap (λ (cs : List Change). cs ++ back) c.in_ok-push_arms-in-If.ensures
    ∙ append_assoc old front back
    ∙ ap (λ (cs : List Change). old ++ cs) (sym (if_opens ts puts here.arms here.last))
    ∙ ap (λ i. old ++ item_changes ts puts i) (sym here.is))
    c.push_last.ensures
