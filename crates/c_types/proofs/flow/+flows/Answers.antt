use Rattle.std.proofs.Common.{map, take, sym, ap, ◌∙◌, take_all}
use Rattle.c_tree.specs.Flow.{followed, piece_flow_of, sequence}
use Rattle.c_types.proofs.FlowLaws.{sequence_more, flow_opens}
use Rattle.c_types.proofs.flow.+flows.Goals as goal

pub flow_of-loop-piece-preserved : goal.flow_of-loop-piece-preserved
flow_of-loop-piece-preserved t c =
    c.followed-flow.ensures
    ∙ ap (λ x. followed x c.piece_flow.result) c.loop-piece.invariant
    ∙ ap (followed (sequence (map piece_flow_of (take c.loop-piece.piece-index c.as_slice-pieces.result.now)))) (c.piece_flow.ensures ∙ ap piece_flow_of c.piece-item.is)
    ∙ sym (sequence_more piece_flow_of c.as_slice-pieces.result.now c.loop-piece.piece-index c.piece-item.result c.loop-piece-test.true)

pub flow_of-returns : goal.flow_of-returns
flow_of-returns t c =
    c.loop-piece.invariant
    ∙ ap (λ xs. sequence (map piece_flow_of xs)) (take_all c.loop-piece.piece-index c.as_slice-pieces.result.now c.loop-piece-test.false ∙ c.as_slice-pieces.ensures)
    ∙ sym (flow_opens c.args.block.now)
