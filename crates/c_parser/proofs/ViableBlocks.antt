-- Behind each row of the recogniser for statements and blocks stands what its symbol stands for.
use Rattle.std.proofs.Common.{◌≡◌, ℕ, false, List, [], ◌∷◌, refl, ap, ◌∙◌}
use Rattle.c_lexer.specs.declared.token.Token.{Token}
use Rattle.c_tree.specs.declared.tree.Base.{Base}
use Rattle.c_tree.specs.declared.tree.Block.{Block}
use Rattle.c_tree.specs.declared.tree.Declr.{Declr}
use Rattle.c_tree.specs.declared.tree.Free.{Free}
use Rattle.c_tree.specs.declared.tree.Piece.{Piece}
use Rattle.c_tree.specs.declared.tree.Expr.{Expr}
use Rattle.c_tree.specs.declared.tree.Simple.{Simple}
use Rattle.c_parser.specs.declared.symbol.Part.TheVariants.{Whole, Target}
use Rattle.c_parser.specs.declared.symbol.Symbol.TheVariants as symbol
use Rattle.c_parser.specs.declared.term.Term.{Term}
use Rattle.c_parser.specs.declared.term.Term.TheVariants as term
use Rattle.c_parser.specs.Term.{same, sees, term_of}
use Rattle.c_parser.specs.Expressions.{IsPrim}
use Rattle.c_parser.specs.Declarators.{IsBase, IsStars}
use Rattle.c_parser.specs.Statements.{IsDecl, IsSimple}
use Rattle.c_parser.specs.Blocks.{IsBlock, IsBody, IsElse, IsForHead, IsForStart, IsForStep, IsForTest, IsFree, IsGap, IsItem, IsPieces, IsTest}
use Rattle.c_parser.specs.Recogniser.{after, begun, called, for_begun, for_start, for_step, for_test, operand, otherwise, piece, pieces, returned, right, simple}
use Rattle.c_parser.proofs.ViableSymbols.{ABegun, ABody, ABranch, ACall, AForBegun, AForStart, AForStep, AForTest, APiece, ARight, ASimple, AToken, AnAfter, AnElse, AnExpr, AnItem, AnOpened, AnOperand, OfAfterLocal, OfLocal, OfOtherwise, OfReturned, OfRow, OfStack, PartedRow, SomeDeclrs, SomePieces, part_row}
use Rattle.c_parser.proofs.ViableExpressions.{after_sound, name_of, operand_sound, whole_expr}
use Rattle.c_parser.proofs.ViableStatements.{AnArg, called_sound, cast_call, expr_arg, group_simple, prim_simple, right_sound, simple_sound, user_call}

-- declarations and assignments up to and with `;`, as items and as first parts of a `for`

pub data ABeginning : List Token → List Token → Type 0 where
  declare : {ds : List Declr} {t : Token} {ts us : List Token} → IsDecl ds ts (t ∷ us) → term_of t ≡ term.Semicolon → ABeginning ts us
  assign : {s : Simple} {t : Token} {ts us : List Token} → IsSimple s ts (t ∷ us) → term_of t ≡ term.Semicolon → ABeginning ts us

beginning_item : {ts us : List Token} → ABeginning ts us → AnItem ts us
beginning_item (ABeginning.declare d end) = AnItem.item (IsItem.declare d end)
beginning_item (ABeginning.assign d end) = AnItem.item (IsItem.assign d end)

beginning_start : {ts us : List Token} → ABeginning ts us → AForStart ts us
beginning_start (ABeginning.declare d end) = AForStart.start (IsForStart.declare d end)
beginning_start (ABeginning.assign d end) = AForStart.start (IsForStart.assign d end)

declrs_beginning : {b : Base} {f : Token} {ts us vs : List Token} → IsBase b (f ∷ ts) us → SomeDeclrs b f us vs → ABeginning (f ∷ ts) vs
declrs_beginning base (SomeDeclrs.declrs d end) = ABeginning.declare (IsDecl.decl base d) end

locals_beginning : {b : Base} {f : Token} {ts us vs : List Token} → IsBase b (f ∷ ts) us → OfLocal us vs → ABeginning (f ∷ ts) vs
locals_beginning {b = b} {f = f} base d = declrs_beginning base (d b f)

simple_beginning : {s : Token} {ts us : List Token} → ASimple ts (s ∷ us) → term_of s ≡ term.Semicolon → ABeginning ts us
simple_beginning (ASimple.simple d) end = ABeginning.assign d end

begun_beginning : {n : Token} {ts us : List Token} → term_of n ≡ term.Name → AForBegun ts us → ABeginning (n ∷ ts) us
begun_beginning {n = n} name (AForBegun.declare d) = locals_beginning (IsBase.alias (name_of n name).1) d
begun_beginning {n = n} name (AForBegun.assign d end) = simple_beginning (prim_simple (IsPrim.variable (name_of n name).1) d) end

simple_parted : (x : Term) (t : Token) {ts us : List Token} → term_of t ≡ x → PartedRow (simple x) (symbol.Want term.Semicolon ∷ []) ts us → ABeginning (t ∷ ts) us
simple_parted x t is (PartedRow.parted d (OfStack.then (AToken.token end) OfStack.done)) = simple_beginning (simple_sound x t is d) end

-- behind a name

bare_local : (n : Token) {ts us : List Token} → term_of n ≡ term.Name → OfAfterLocal ts us → OfLocal (n ∷ ts) us
bare_local n {ts = ts} name d = λ b f. let named = name_of n name in d b f n 0 named.0 (n ∷ ts) IsStars.none named.1

starred_local : (s n : Token) {ts us : List Token} → term_of s ≡ term.Star → term_of n ≡ term.Name → OfAfterLocal ts us → OfLocal (s ∷ n ∷ ts) us
starred_local s n {ts = ts} star name d = λ b f. let named = name_of n name in d b f n 1 named.0 (s ∷ n ∷ ts) (IsStars.star star) named.1

after_parted : (x : Term) (t : Token) {ts us : List Token} → term_of t ≡ x → PartedRow (after Target x) (symbol.Want term.Semicolon ∷ []) ts us → AForBegun (t ∷ ts) us
after_parted x t is (PartedRow.parted d (OfStack.then (AToken.token end) OfStack.done)) = AForBegun.assign (after_sound Target x t is d) end

pub for_begun_sound : (x : Term) (t : Token) → term_of t ≡ x → {ts us : List Token} → OfRow (for_begun x) ts us → AForBegun (t ∷ ts) us
for_begun_sound term.Name t is (OfStack.then d OfStack.done) = AForBegun.declare (bare_local t is d)
for_begun_sound term.Star t is (OfStack.then (AToken.token {t = n} name) (OfStack.then d OfStack.done)) = AForBegun.declare (starred_local t n is name d)
for_begun_sound x t is d = after_parted x t is (part_row (after Target x) (symbol.Want term.Semicolon ∷ []) d)

pub begun_sound : (x : Term) (t : Token) → term_of t ≡ x → {ts us : List Token} → OfRow (begun x) ts us → ABegun (t ∷ ts) us
begun_sound term.Open t is (OfStack.then d (OfStack.then (AToken.token end) OfStack.done)) = ABegun.call is d end
begun_sound x t is d = ABegun.other (for_begun_sound x t is d)

-- the parts of a `for`

group_start : {o c s : Token} {ts us vs : List Token} → term_of o ≡ term.Open → AnOperand Whole ts (c ∷ us) → term_of c ≡ term.Close → AnAfter Target us (s ∷ vs)
    → term_of s ≡ term.Semicolon → AForStart (o ∷ ts) vs
group_start is d close q end = beginning_start (simple_beginning (group_simple is (whole_expr d) close q) end)

pub for_start_sound : (x : Term) (t : Token) → term_of t ≡ x → {ts us : List Token} → OfRow (for_start x) ts us → AForStart (t ∷ ts) us
for_start_sound term.Semicolon t is OfStack.done = AForStart.start (IsForStart.none is)
for_start_sound term.Int t is (OfStack.then d OfStack.done) = beginning_start (locals_beginning (IsBase.int is) d)
for_start_sound term.Struct t is (OfStack.then (AToken.token {t = n} name) (OfStack.then d OfStack.done)) =
    beginning_start (locals_beginning (IsBase.tag is (name_of n name).1) d)
for_start_sound term.Name t is (OfStack.then d OfStack.done) = beginning_start (begun_beginning is d)
for_start_sound term.Open t is (OfStack.then d (OfStack.then (AToken.token close) (OfStack.then q (OfStack.then (AToken.token end) OfStack.done)))) =
    group_start is d close q end
for_start_sound x t is d = beginning_start (simple_parted x t is (part_row (simple x) (symbol.Want term.Semicolon ∷ []) d))

expr_test : {t : Token} {ts us : List Token} → AnExpr ts (t ∷ us) → term_of t ≡ term.Semicolon → AForTest ts us
expr_test (AnExpr.expr d) end = AForTest.test (IsForTest.test d end)

test_parted : (x : Term) (t : Token) {ts us : List Token} → term_of t ≡ x → PartedRow (operand Whole x) (symbol.Want term.Semicolon ∷ []) ts us → AForTest (t ∷ ts) us
test_parted x t is (PartedRow.parted d (OfStack.then (AToken.token end) OfStack.done)) = expr_test (whole_expr (operand_sound Whole x t is d)) end

pub for_test_sound : (x : Term) (t : Token) → term_of t ≡ x → {ts us : List Token} → OfRow (for_test x) ts us → AForTest (t ∷ ts) us
for_test_sound term.Semicolon t is OfStack.done = AForTest.test (IsForTest.none is)
for_test_sound x t is d = test_parted x t is (part_row (operand Whole x) (symbol.Want term.Semicolon ∷ []) d)

simple_step : {t : Token} {ts us : List Token} → ASimple ts (t ∷ us) → term_of t ≡ term.Close → AForStep ts us
simple_step (ASimple.simple d) end = AForStep.step (IsForStep.step d end)

step_parted : (x : Term) (t : Token) {ts us : List Token} → term_of t ≡ x → PartedRow (simple x) (symbol.Want term.Close ∷ []) ts us → AForStep (t ∷ ts) us
step_parted x t is (PartedRow.parted d (OfStack.then (AToken.token end) OfStack.done)) = simple_step (simple_sound x t is d) end

pub for_step_sound : (x : Term) (t : Token) → term_of t ≡ x → {ts us : List Token} → OfRow (for_step x) ts us → AForStep (t ∷ ts) us
for_step_sound term.Close t is OfStack.done = AForStep.step (IsForStep.none is)
for_step_sound term.Name t is (OfStack.then d (OfStack.then (AToken.token end) OfStack.done)) = simple_step (prim_simple (IsPrim.variable (name_of t is).1) d) end
for_step_sound term.Open t is (OfStack.then d (OfStack.then (AToken.token close) (OfStack.then q (OfStack.then (AToken.token end) OfStack.done)))) =
    simple_step (group_simple is (whole_expr d) close q) end
for_step_sound x t is d = step_parted x t is (part_row (simple x) (symbol.Want term.Close ∷ []) d)

-- items

-- what stands behind `return`

return_item : {r s : Token} {ts us : List Token} → term_of r ≡ term.Return → ARight ts (s ∷ us) → term_of s ≡ term.Semicolon → AnItem (r ∷ ts) us
return_item is (ARight.right d) end = AnItem.item (IsItem.return_value is d end)

return_parted : (x : Term) (t : Token) {ts us : List Token} → term_of t ≡ x → PartedRow (right x) (symbol.Want term.Semicolon ∷ []) ts us → OfReturned (t ∷ ts) us
return_parted x t is (PartedRow.parted d (OfStack.then (AToken.token end) OfStack.done)) = λ r returns. return_item returns (right_sound x t is d) end

pub returned_sound : (x : Term) (t : Token) → term_of t ≡ x → {ts us : List Token} → OfRow (returned x) ts us → OfReturned (t ∷ ts) us
returned_sound term.Semicolon t is OfStack.done = λ r returns. AnItem.item (IsItem.return returns is)
returned_sound x t is d = return_parted x t is (part_row (right x) (symbol.Want term.Semicolon ∷ []) d)

call_item : {s : Token} {ts us : List Token} → ACall ts (s ∷ us) → term_of s ≡ term.Semicolon → AnItem ts us
call_item (ACall.call d) end = AnItem.item (IsItem.call d end)

called_parted : (x : Term) (t : Token) {ts us : List Token} → term_of t ≡ x → PartedRow (called x) (symbol.Want term.Semicolon ∷ []) ts us → AnItem (t ∷ ts) us
called_parted x t is (PartedRow.parted d (OfStack.then (AToken.token end) OfStack.done)) = call_item (called_sound x t is d) end

begun_item : {n : Token} {ts us : List Token} → term_of n ≡ term.Name → ABegun ts us → AnItem (n ∷ ts) us
begun_item name (ABegun.call opens d end) = call_item (user_call name opens d) end
begun_item name (ABegun.other d) = beginning_item (begun_beginning name d)

opened_item : {o s : Token} {ts us : List Token} → term_of o ≡ term.Open → AnOpened Target ts (s ∷ us) → term_of s ≡ term.Semicolon → AnItem (o ∷ ts) us
opened_item is (AnOpened.cast b d) end = call_item (cast_call is b d) end
opened_item is (AnOpened.group d close q) end = beginning_item (simple_beginning (group_simple is d close q) end)

-- "(" expr ")"
pub data ATest : List Token → List Token → Type 0 where
  test : {e : Expr} {ts us : List Token} → IsTest e ts us → ATest ts us

operand_test : {o c : Token} {ts us : List Token} → term_of o ≡ term.Open → AnExpr ts (c ∷ us) → term_of c ≡ term.Close → ATest (o ∷ ts) us
operand_test is (AnExpr.expr d) close = ATest.test (IsTest.test is d close)

-- a body is a piece

branch_item : {t : Token} {ts us : List Token} → term_of t ≡ term.If → ABranch ts us → AnItem (t ∷ ts) us
branch_item is (ABranch.branch d b rest) = AnItem.item (IsItem.branch is d b rest)

item_body : {t : Token} {ts us : List Token} → same term.OpenBrace (term_of t) ≡ false → AnItem (t ∷ ts) us → ABody (t ∷ ts) us
item_body other (AnItem.item d) = ABody.body (IsBody.unbraced other d)

if_no_brace : (t : Token) → term_of t ≡ term.If → same term.OpenBrace (term_of t) ≡ false
unfolding same
if_no_brace t is = rw is

pub piece_body : {ts us : List Token} → APiece ts us → ABody ts us
piece_body (APiece.branch {t = t} is d) = item_body (if_no_brace t is) (branch_item is d)
piece_body (APiece.other plain d) = d

branch_else : {e : Expr} {b : Block} {end : ℕ} {ts us vs ws : List Token} → IsTest e ts us → IsBody b end us vs → AnElse end vs ws → ABranch ts ws
branch_else d b (AnElse.arms rest) = ABranch.branch d b rest

branch_row : {ts us vs ws : List Token} → ATest ts us → ABody us vs → OfOtherwise vs ws → ABranch ts ws
branch_row (ATest.test d) (ABody.body {end = end} b) rest = branch_else d b (rest end)

while_row : {t : Token} {ts us vs : List Token} → term_of t ≡ term.While → ATest ts us → ABody us vs → AnItem (t ∷ ts) vs
while_row is (ATest.test d) (ABody.body b) = AnItem.item (IsItem.while is d b)

for_row : {t o : Token} {ts us vs ws xs : List Token} → term_of t ≡ term.For → term_of o ≡ term.Open → AForStart ts us → AForTest us vs → AForStep vs ws
    → ABody ws xs → AnItem (t ∷ o ∷ ts) xs
for_row is opens (AForStart.start d) (AForTest.test q) (AForStep.step r) (ABody.body b) = AnItem.item (IsItem.for is (IsForHead.head opens d q r) b)

free_row : {t o c s : Token} {ts us : List Token} → term_of t ≡ term.Free → term_of o ≡ term.Open → AnArg ts (c ∷ s ∷ us) → term_of c ≡ term.Close
    → term_of s ≡ term.Semicolon → ABody (t ∷ o ∷ ts) us
free_row is opens (AnArg.arg d) close end = ABody.body (IsBody.free (IsFree.free is opens d close end))

block_row : {t : Token} {ts us : List Token} → term_of t ≡ term.OpenBrace → SomePieces ts us → ABody (t ∷ ts) us
block_row is (SomePieces.pieces d) = ABody.body (IsBody.braced (IsBlock.braces is d))

item_piece : (x : Term) (t : Token) → term_of t ≡ x → same term.OpenBrace x ≡ false → same term.If x ≡ false → {ts us : List Token} → AnItem (t ∷ ts) us
    → APiece (t ∷ ts) us
item_piece x t is no_brace no_if d = APiece.other (ap (same term.If) is ∙ no_if) (item_body (ap (same term.OpenBrace) is ∙ no_brace) d)

body_piece : (x : Term) (t : Token) → term_of t ≡ x → same term.If x ≡ false → {ts us : List Token} → ABody (t ∷ ts) us → APiece (t ∷ ts) us
body_piece x t is no_if d = APiece.other (ap (same term.If) is ∙ no_if) d

pub piece_sound : (x : Term) (t : Token) → term_of t ≡ x → {ts us : List Token} → OfRow (piece x) ts us → APiece (t ∷ ts) us
unfolding same
piece_sound term.Semicolon t is OfStack.done = body_piece term.Semicolon t is refl (ABody.body (IsBody.empty is))
piece_sound term.Free t is (OfStack.then (AToken.token opens) (OfStack.then d (OfStack.then (AToken.token close) (OfStack.then (AToken.token end) OfStack.done)))) =
    body_piece term.Free t is refl (free_row is opens (expr_arg (whole_expr d)) close end)
piece_sound term.OpenBrace t is (OfStack.then d OfStack.done) = body_piece term.OpenBrace t is refl (block_row is d)
piece_sound term.If t is (OfStack.then (AToken.token opens) (OfStack.then d (OfStack.then (AToken.token close) (OfStack.then b (OfStack.then rest OfStack.done))))) =
    APiece.branch is (branch_row (operand_test opens (whole_expr d) close) (piece_body b) rest)
piece_sound term.While t is (OfStack.then (AToken.token opens) (OfStack.then d (OfStack.then (AToken.token close) (OfStack.then b OfStack.done)))) =
    item_piece term.While t is refl refl (while_row is (operand_test opens (whole_expr d) close) (piece_body b))
piece_sound term.For t is (OfStack.then (AToken.token opens) (OfStack.then d (OfStack.then q (OfStack.then r (OfStack.then b OfStack.done))))) =
    item_piece term.For t is refl refl (for_row is opens d q r (piece_body b))
piece_sound term.Break t is (OfStack.then (AToken.token end) OfStack.done) = item_piece term.Break t is refl refl (AnItem.item (IsItem.break is end))
piece_sound term.Continue t is (OfStack.then (AToken.token end) OfStack.done) = item_piece term.Continue t is refl refl (AnItem.item (IsItem.continue is end))
piece_sound term.Return t is (OfStack.then d OfStack.done) = item_piece term.Return t is refl refl (d t is)
piece_sound term.Int t is (OfStack.then d OfStack.done) = item_piece term.Int t is refl refl (beginning_item (locals_beginning (IsBase.int is) d))
piece_sound term.Struct t is (OfStack.then (AToken.token {t = n} name) (OfStack.then d OfStack.done)) =
    item_piece term.Struct t is refl refl (beginning_item (locals_beginning (IsBase.tag is (name_of n name).1) d))
piece_sound term.Name t is (OfStack.then d OfStack.done) = item_piece term.Name t is refl refl (begun_item is d)
piece_sound term.Open t is (OfStack.then d (OfStack.then (AToken.token end) OfStack.done)) = item_piece term.Open t is refl refl (opened_item is d end)
piece_sound term.Getchar t is d = item_piece term.Getchar t is refl refl (called_parted term.Getchar t is (part_row (called term.Getchar) (symbol.Want term.Semicolon ∷ []) d))
piece_sound term.Putchar t is d = item_piece term.Putchar t is refl refl (called_parted term.Putchar t is (part_row (called term.Putchar) (symbol.Want term.Semicolon ∷ []) d))
piece_sound term.Printf t is d = item_piece term.Printf t is refl refl (called_parted term.Printf t is (part_row (called term.Printf) (symbol.Want term.Semicolon ∷ []) d))
piece_sound term.Malloc t is d = item_piece term.Malloc t is refl refl (called_parted term.Malloc t is (part_row (called term.Malloc) (symbol.Want term.Semicolon ∷ []) d))
piece_sound x t is d = item_piece x t is refl refl (beginning_item (simple_parted x t is (part_row (simple x) (symbol.Want term.Semicolon ∷ []) d)))

-- blocks

free_pieces : {f : Free} {pieces : List Piece} {frees : List Free} {end : ℕ} {ts us vs : List Token} → IsFree f ts us → IsPieces pieces frees end us vs → SomePieces ts vs
free_pieces d (IsPieces.last g close) = SomePieces.pieces (IsPieces.last (IsGap.free d g) close)
free_pieces d (IsPieces.more g i q) = SomePieces.pieces (IsPieces.more (IsGap.free d g) i q)

empty_pieces : {t : Token} {pieces : List Piece} {frees : List Free} {end : ℕ} {ts us : List Token} → term_of t ≡ term.Semicolon → IsPieces pieces frees end ts us
    → SomePieces (t ∷ ts) us
empty_pieces is (IsPieces.last g close) = SomePieces.pieces (IsPieces.last (IsGap.empty is g) close)
empty_pieces is (IsPieces.more g i q) = SomePieces.pieces (IsPieces.more (IsGap.empty is g) i q)

body_pieces : {b : Block} {end end' : ℕ} {pieces : List Piece} {frees : List Free} {ts us vs : List Token} → IsBody b end ts us → IsPieces pieces frees end' us vs
    → SomePieces ts vs
body_pieces (IsBody.braced (IsBlock.braces is d)) q = SomePieces.pieces (IsPieces.more IsGap.done (IsItem.nest (IsBlock.braces is d)) q)
body_pieces (IsBody.unbraced other d) q = SomePieces.pieces (IsPieces.more IsGap.done d q)
body_pieces (IsBody.free d) q = free_pieces d q
body_pieces (IsBody.empty is) q = empty_pieces is q

more_pieces : {ts us vs : List Token} → ABody ts us → SomePieces us vs → SomePieces ts vs
more_pieces (ABody.body d) (SomePieces.pieces q) = body_pieces d q

pieces_parted : (x : Term) (t : Token) {ts us : List Token} → term_of t ≡ x → PartedRow (piece x) (symbol.Pieces ∷ []) ts us → SomePieces (t ∷ ts) us
pieces_parted x t is (PartedRow.parted d (OfStack.then q OfStack.done)) = more_pieces (piece_body (piece_sound x t is d)) q

pub pieces_sound : (x : Term) (t : Token) → term_of t ≡ x → {ts us : List Token} → OfRow (pieces x) ts us → SomePieces (t ∷ ts) us
pieces_sound term.CloseBrace t is OfStack.done = SomePieces.pieces (IsPieces.last IsGap.done is)
pieces_sound x t is d = pieces_parted x t is (part_row (piece x) (symbol.Pieces ∷ []) d)

-- `else` goes on with the arms before `if`

else_branch : {t i : Token} {ts us : List Token} → term_of t ≡ term.Else → term_of i ≡ term.If → ABranch ts us → OfOtherwise (t ∷ i ∷ ts) us
else_branch is if_is (ABranch.branch d b rest) = λ before. AnElse.arms (IsElse.else_if is if_is d b rest)

else_body : {t : Token} {ts us : List Token} → term_of t ≡ term.Else → sees term.If ts ≡ false → ABody ts us → OfOtherwise (t ∷ ts) us
else_body is plain (ABody.body d) = λ before. AnElse.arms (IsElse.otherwise is plain d)

else_piece : {t : Token} {ts us : List Token} → term_of t ≡ term.Else → APiece ts us → OfOtherwise (t ∷ ts) us
else_piece is (APiece.branch if_is d) = else_branch is if_is d
else_piece is (APiece.other plain d) = else_body is plain d

pub otherwise_sound : (x : Term) (t : Token) → term_of t ≡ x → {ts us : List Token} → OfRow (otherwise x) ts us → OfOtherwise (t ∷ ts) us
otherwise_sound term.Else t is (OfStack.then d OfStack.done) = else_piece is d
otherwise_sound _ t is d = absurd d
