-- The loops of the readers of lists: one turn of each, and what the turns read together.
use Rattle.std.specs.Prelude.{ℕ, zero, suc, true, if◌then◌else◌, List, [], ◌∷◌, ◌++◌, drop, length, Some, None}
use Rattle.c_lexer.specs.declared.token.Token.{Token}
use Rattle.c_tree.specs.declared.tree.Arm.{Arm}
use Rattle.c_tree.specs.declared.tree.Block.{Block}
use Rattle.c_tree.specs.declared.tree.Free.{Free}
use Rattle.c_tree.specs.declared.tree.Item.{Item}
use Rattle.c_tree.specs.declared.tree.Item.TheVariants as item
use Rattle.c_tree.specs.declared.tree.Piece.{Piece}
use Rattle.c_parser.specs.declared.term.Term.{Term}
use Rattle.c_parser.specs.declared.term.Term.TheVariants as term
use Rattle.c_parser.specs.declared.turn.Turn.{Turn}
use Rattle.c_parser.specs.declared.turn.Turn.TheVariants.{More, Done}
use Rattle.c_parser.specs.Term.{term_of, next, same}
use Rattle.c_parser.specs.Blocks.{piece, block}
use Rattle.c_parser.specs.ReadExpressions.{Read, mapped, chained}
use Rattle.c_parser.specs.ReadBlocks.{read_free, read_gap, read_body, read_arm}

-- behind a turn: the turns that are left, or none more
abbrev pub behind : {S R : Type 0} → (S → Read R) → Turn S R → Read R
behind on (More s) ts = on s ts
behind on (Done r) ts = Some (r, ts)

-- so many turns at most, from what is read so far
unfoldable pub looped : {S R : Type 0} → (S → Read (Turn S R)) → ℕ → S → Read R
looped step zero s ts = None
looped step (suc n) s ts = chained (step s ts) (behind (looped step n))

-- gaps

abbrev pub gap_turn_at : ℕ → List Free → Term → Token → Read (Turn (List Free) (List Free))
gap_turn_at depth front term.Semicolon t ts = Some (More front, ts)
gap_turn_at depth front term.Free t ts = mapped (λ f. More (front ++ f ∷ [])) (read_free depth (t ∷ ts))
gap_turn_at depth front _ t ts = Some (Done front, t ∷ ts)

abbrev pub gap_turn : ℕ → List Free → Read (Turn (List Free) (List Free))
gap_turn depth front [] = None
gap_turn depth front (t ∷ ts) = gap_turn_at depth front (term_of t) t ts

-- pieces

abbrev pub piece_turn_at : Read (Item × ℕ) → ℕ → List Piece → List Free → Read (Turn (List Piece) (Block × ℕ))
piece_turn_at within begun front frees [] = None
piece_turn_at within begun front frees (t ∷ ts) =
    if same term.CloseBrace (term_of t) then Some (Done (block front frees true begun t.end, t.end), ts)
    else mapped (λ i. More (front ++ piece frees i.0 t.start i.1 ∷ [])) (within (t ∷ ts))

abbrev pub piece_turn : ℕ → Read (Item × ℕ) → ℕ → List Piece → Read (Turn (List Piece) (Block × ℕ))
piece_turn depth within begun front ts = chained (read_gap depth (length ts) [] ts) (λ frees us. piece_turn_at within begun front frees us)

-- arms, each with the end of its body

abbrev pub else_turn_at : ℕ → Read (Item × ℕ) → List Arm → Term → Read (Turn (List Arm × ℕ) (Item × ℕ))
else_turn_at depth within front term.If ts = mapped (λ a. More (front ++ a.0 ∷ [], a.1)) (read_arm depth within (drop 1 ts))
else_turn_at depth within front _ ts = mapped (λ b. Done (item.If front (Some b.0), b.1)) (read_body depth within ts)

abbrev pub else_turn : ℕ → Read (Item × ℕ) → List Arm × ℕ → Read (Turn (List Arm × ℕ) (Item × ℕ))
else_turn depth within arms [] = Some (Done (item.If arms.0 None, arms.1), [])
else_turn depth within arms (t ∷ ts) =
    if same term.Else (term_of t) then else_turn_at depth within arms.0 (next ts) ts
    else Some (Done (item.If arms.0 None, arms.1), t ∷ ts)
