-- What is printed of a block, a piece, an arm and an `if`, by their parts, and lists that are written one behind another.
use Rattle.std.proofs.Common.{◌≡◌, List, [], ◌∷◌, ◌++◌, map, codes, Option, Some, None, Result, Ok, Err, OnOk, ap, sym, ◌∙◌, append_assoc, append-nil}
use Rattle.c_lexer.specs.declared.token.Kind.{Kind}
use Rattle.c_tree.specs.declared.tree.Arm.{Arm, out-Arm, roll-out-Arm}
use Rattle.c_tree.specs.declared.tree.Block.{Block, out-Block, roll-out-Block}
use Rattle.c_tree.specs.declared.tree.Item.TheVariants as item
use Rattle.c_tree.specs.declared.tree.Piece.{Piece, out-Piece, roll-out-Piece}
use Rattle.c_parser.specs.Printed.{key, mark, each, printed_gap, printed_test, printed_arms, printed_item, printed_arm, printed_block, printed_piece}
use Rattle.c_parser.proofs.OpenedBlocks.{print_if, print_arm, print_piece, print_block}

pub opened_block : (b : Block) → printed_block b ≡ mark (codes "{") ∷ (each printed_piece (out-Block b).items ++ (printed_gap (out-Block b).last_gap ++ mark (codes "}") ∷ []))
opened_block b = ap printed_block (sym (roll-out-Block b)) ∙ print_block (out-Block b).items (out-Block b).last_gap.frees (out-Block b).braced (out-Block b).start (out-Block b).end

pub opened_piece : (p : Piece) → printed_piece p ≡ printed_gap (out-Piece p).gap ++ printed_item (out-Piece p).item
opened_piece p = ap printed_piece (sym (roll-out-Piece p)) ∙ print_piece (out-Piece p).gap.frees (out-Piece p).item (out-Piece p).start (out-Piece p).end

pub opened_arm : (a : Arm) → printed_arm a ≡ printed_test (out-Arm a).test ++ printed_block (out-Arm a).body
opened_arm a = ap printed_arm (sym (roll-out-Arm a)) ∙ print_arm (out-Arm a).test (out-Arm a).body

pub print_lone : (arms : List Arm) (last : Option Block) → last ≡ None → printed_item (item.If arms last) ≡ printed_arms (map printed_arm arms)
print_lone arms None none = print_if arms None ∙ append-nil (printed_arms (map printed_arm arms))
print_lone arms (Some b) none = absurd (cc)

pub print_both : (arms : List Arm) (otherwise : Block) (last : Option Block) → last ≡ Some otherwise
    → printed_item (item.If arms last) ≡ printed_arms (map printed_arm arms) ++ key (codes "else") ∷ printed_block otherwise
print_both arms otherwise last is = ap (λ (o : Option Block). printed_item (item.If arms o)) is ∙ print_if arms (Some otherwise)

-- what is written behind what is written
pub joined : (before middle after ks ls : List Kind) → middle ≡ before ++ ks → after ≡ middle ++ ls → after ≡ before ++ (ks ++ ls)
joined before middle after ks ls p q = q ∙ ap (λ (xs : List Kind). xs ++ ls) p ∙ append_assoc before ks ls

pub behind : {R E : Type 0} (r : Result R E) (before middle after ks ls all : List Kind) → middle ≡ before ++ ks → all ≡ ks ++ ls → OnOk r (after ≡ middle ++ ls) → OnOk r (after ≡ before ++ all)
behind (Ok v) before middle after ks ls all p is q = joined before middle after ks ls p q ∙ ap (λ (xs : List Kind). before ++ xs) (sym is)
behind (Err e) before middle after ks ls all p is q = q

pub behind_two : {R E : Type 0} (r : Result R E) (before one two after ks ls ms all : List Kind) → one ≡ before ++ ks → two ≡ one ++ ls → all ≡ ks ++ (ls ++ ms)
    → OnOk r (after ≡ two ++ ms) → OnOk r (after ≡ before ++ all)
behind_two r before one two after ks ls ms all p q is =
    behind r before two after (ks ++ ls) ms all (joined before one two ks ls p q) (is ∙ sym (append_assoc ks ls ms))
