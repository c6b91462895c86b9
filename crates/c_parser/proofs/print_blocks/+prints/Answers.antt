-- Each part, and each item that has blocks, by what is printed of its parts.
use Rattle.std.proofs.Common.{◌≡◌, List, [], ◌∷◌, ◌++◌, map, codes, ap, sym, ◌∙◌}
use Rattle.c_lexer.specs.declared.token.Kind.{Kind}
use Rattle.c_tree.specs.declared.tree.Arm.{Arm}
use Rattle.c_tree.specs.declared.tree.Block.{out-Block}
use Rattle.c_tree.specs.declared.tree.Piece.{Piece}
use Rattle.c_parser.specs.Printed.{mark, each, printed_gap, printed_piece, printed_arms, printed_else, printed_arm, printed_block, printed_item}
use Rattle.c_parser.proofs.OpenedBlocks.{print_while, print_for}
use Rattle.c_parser.proofs.PrintBlocks.{opened_block, opened_piece, opened_arm, print_lone, print_both, joined, behind, behind_two}
use Rattle.c_parser.proofs.print_blocks.+prints.Goals as goal

pub print_block-returns : goal.print_block-returns
print_block-returns t c =
    let b = out-Block c.args.block.now in
    behind_two c.mark-2.result c.args.out.now c.print_pieces.new.out c.print.new.out c.mark-2.new.self _ _ _ _
    (joined c.args.out.now c.mark.new.self c.print_pieces.new.out _ _ c.in_ok-mark.ensures c.in_ok-print_pieces.ensures) c.in_ok-print.ensures
    (opened_block c.args.block.now
    ∙ ap (λ (pieces : List Piece). mark (codes "{") ∷ (each printed_piece pieces ++ (printed_gap b.last_gap ++ mark (codes "}") ∷ []))) (sym c.as_slice.ensures))
    c.mark-2.ensures

pub print_piece-returns : goal.print_piece-returns
print_piece-returns t c = behind c.print_item.result _ _ _ _ _ _ c.in_ok-print.ensures (opened_piece c.args.piece.now) c.print_item.ensures

pub print_arm-returns : goal.print_arm-returns
print_arm-returns t c = behind c.print_block.result _ _ _ _ _ _ c.in_ok-print_test.ensures (opened_arm c.args.arm.now) c.print_block.ensures

pub print_item-returns-in_ok-print_test-in-While : goal.print_item-returns-in_ok-print_test-in-While
print_item-returns-in_ok-print_test-in-While t c =
    behind_two c.print_block-in-While.result c.args.out.now c.key-in-While.new.self c.print_test.new.out c.print_block-in-While.new.out _ _ _ _
    c.in_ok-key-in-While.ensures c.in_ok-print_test-in-While.ensures (ap printed_item c.in-While.is ∙ print_while c.in-While.test c.in-While.body) c.print_block-in-While.ensures

pub print_item-returns-in_ok-print-in-For : goal.print_item-returns-in_ok-print-in-For
print_item-returns-in_ok-print-in-For t c =
    behind_two c.print_block-in-For.result c.args.out.now c.key-in-For.new.self c.print.new.out c.print_block-in-For.new.out _ _ _ _
    c.in_ok-key-in-For.ensures c.in_ok-print-in-For.ensures (ap printed_item c.in-For.is ∙ print_for c.in-For.head c.in-For.body) c.print_block-in-For.ensures

pub print_item-returns-in-None : goal.print_item-returns-in-None
print_item-returns-in-None t c =
    let prints : printed_item c.args.item.now ≡ printed_arms (map printed_arm c.as_slice.result.now) =
    ap printed_item c.in-If.is ∙ print_lone c.in-If.arms c.in-If.otherwise c.in-None.is ∙ ap (λ (arms : List Arm). printed_arms (map printed_arm arms)) (sym c.as_slice.ensures) in
    c.in_ok-print_arms-in-If.ensures ∙ ap (λ (ks : List Kind). c.args.out.now ++ ks) (sym prints)

pub print_item-returns-in_ok-key-in-Some : goal.print_item-returns-in_ok-key-in-Some
print_item-returns-in_ok-key-in-Some t c =
    let prints : printed_item c.args.item.now ≡ printed_arms (map printed_arm c.as_slice.result.now) ++ printed_else (printed_block c.in-Some.block) =
    ap printed_item c.in-If.is ∙ print_both c.in-If.arms c.in-Some.block c.in-If.otherwise c.in-Some.is
    ∙ ap (λ (arms : List Arm). printed_arms (map printed_arm arms) ++ printed_else (printed_block c.in-Some.block)) (sym c.as_slice.ensures) in
    behind_two c.print_block-in-Some.result c.args.out.now c.print_arms.new.out c.key.new.self c.print_block-in-Some.new.out _ _ _ _
    c.in_ok-print_arms-in-If.ensures c.in_ok-key-in-Some.ensures prints c.print_block-in-Some.ensures
