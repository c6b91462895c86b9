-- The places of a block and of its parts, each below the way that leads there.
use Rattle.std.specs.Prelude.{ℕ, ◌+◌, Option, None, List, [], ◌∷◌, ◌++◌, map}
use Rattle.c_tree.specs.declared.expr.Expr.{Expr, Expr-F, fold-Expr}
use Rattle.c_tree.specs.declared.expr.Expr.TheOpen.{Unary, Binary}
use Rattle.c_tree.specs.declared.expr.Sign.TheVariants as sign
use Rattle.c_tree.specs.declared.expr.Oper.TheVariants as oper
use Rattle.c_tree.specs.declared.program.Block.{Block}
use Rattle.c_tree.specs.declared.program.Piece.{Piece, out-Piece}
use Rattle.c_tree.specs.declared.program.Item.{out-Item}
use Rattle.c_tree.specs.declared.program.ForHead.{ForHead}
use Rattle.c_meaning.specs.Parts.{Instruction, Part, One, Row, Condition, Within, condition_of, last_row, parts, started}
use Rattle.c_meaning.specs.Place.{arm_test, arm_body, instruction_places, numbered, places_of, tests_of}

-- paths behind the way to where they begin
abbrev pub below_all : List ℕ → List (List ℕ) → List (List ℕ)
below_all prefix = map (λ q. prefix ++ q)

-- the ways down to the tests of a condition, each behind the way to where it begins
abbrev pub tests_behind_layer : Expr-F (List ℕ → List (List ℕ)) → List ℕ → List (List ℕ)
tests_behind_layer (Unary sign.Not e offset) prefix = e (prefix ++ 0 ∷ [])
tests_behind_layer (Binary oper.And a b offset) prefix = a (prefix ++ 0 ∷ []) ++ b (prefix ++ 1 ∷ [])
tests_behind_layer (Binary oper.Or a b offset) prefix = a (prefix ++ 0 ∷ []) ++ b (prefix ++ 1 ∷ [])
tests_behind_layer _ prefix = prefix ∷ []

abbrev pub tests_behind : Expr → List ℕ → List (List ℕ)
tests_behind = fold-Expr (List ℕ → List (List ℕ)) tests_behind_layer

-- the places of a part
abbrev pub part_places : Option ℕ → Part Block → List (List ℕ)
part_places slot (One a) = instruction_places a
part_places slot (Row row) = numbered 0 (map instruction_places row)
part_places slot (Condition e) = tests_of e
part_places slot (Within b) = places_of slot b

-- those of parts in turn, the first of which is part k
abbrev pub parts_below : Option ℕ → List ℕ → ℕ → List (Part Block) → List (List ℕ)
parts_below slot prefix k [] = []
parts_below slot prefix k (part ∷ rest) = below_all (prefix ++ k ∷ []) (part_places slot part) ++ parts_below slot prefix (k + 1) rest

-- an action each
abbrev pub ones : List (Option Instruction) → List (Part Block)
ones row = map (λ a. One a) row

-- a gap, and the places of the item behind it
abbrev pub piece_below : Option ℕ → List ℕ → Piece → List (List ℕ)
piece_below slot prefix p = prefix ∷ parts_below slot prefix 0 (parts arm_test arm_body slot (out-Item (out-Piece p).item))

-- those of pieces in turn, the first of which is piece i
abbrev pub pieces_below : Option ℕ → List ℕ → ℕ → List Piece → List (List ℕ)
pieces_below slot prefix i [] = []
pieces_below slot prefix i (p ∷ ps) = piece_below slot (prefix ++ i ∷ []) p ++ pieces_below slot prefix (i + 1) ps

-- the places of the parts of a `for` before its body
abbrev pub head_below : List ℕ → ForHead → List (List ℕ)
head_below prefix head =
    parts_below None (prefix ++ 0 ∷ []) 0 (map (λ s. One (started s)) head.start)
    ++ (below_all (prefix ++ 1 ∷ []) (tests_of (condition_of head.test)) ++ parts_below None (prefix ++ 2 ∷ []) 0 (ones (last_row head.step)))
