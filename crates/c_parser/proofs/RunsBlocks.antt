-- The recogniser goes over each statement and block.
use Rattle.std.proofs.Common.{◌≡◌, ℕ, true, false, List, ◌∷◌, Option, refl, ap, ◌∙◌}
use Rattle.c_lexer.specs.declared.token.Token.{Token}
use Rattle.c_tree.specs.declared.tree.Arm.{Arm}
use Rattle.c_tree.specs.declared.tree.Block.{Block}
use Rattle.c_tree.specs.declared.tree.Expr.{Expr}
use Rattle.c_tree.specs.declared.tree.ForHead.{ForHead}
use Rattle.c_tree.specs.declared.tree.Free.{Free}
use Rattle.c_tree.specs.declared.tree.Item.{Item}
use Rattle.c_tree.specs.declared.tree.Piece.{Piece}
use Rattle.c_tree.specs.declared.tree.Simple.{Simple}
use Rattle.c_tree.specs.declared.tree.Start.{Start}
use Rattle.c_parser.specs.Blocks.{IsFree, IsGap, IsTest, IsForStart, IsForTest, IsForStep, IsForHead, IsItem, IsElse, IsBody, IsBlock, IsPieces}
use Rattle.c_parser.specs.Recogniser.{advance, may_end, stop, takes}
use Rattle.c_parser.specs.Term.{next, same, term_of}
use Rattle.c_parser.specs.declared.symbol.Part.TheVariants.{Whole}
use Rattle.c_parser.specs.declared.symbol.Symbol.{Symbol}
use Rattle.c_parser.specs.declared.symbol.Symbol.TheVariants as symbol
use Rattle.c_parser.specs.declared.term.Term.{Term}
use Rattle.c_parser.specs.declared.term.Term.TheVariants as term
use Rattle.c_parser.proofs.CompleteExpressions.{begins_operand, closes, level_begins}
use Rattle.c_parser.proofs.CompleteBlocks.{begins_goes, item_begins, plain_not_semicolon, right_first}
use Rattle.c_parser.proofs.RunsExpressions.{stops_alike, wanted_taken, level_runs, arg_runs}
use Rattle.c_parser.proofs.RunsStatements.{whole_ended, call_item_runs, decl_runs, decl_start_runs, right_runs, simple_runs, start_runs, step_runs}

-- frees and gaps

free_runs : {f : Free} {ts us : List Token} → IsFree f ts us → (stack : List Symbol) → stop ts (symbol.Piece ∷ stack) ≡ stop us stack
unfolding advance takes may_end same
free_runs (IsFree.free is opens d close semicolon) stack =
    rw (is, opens) (arg_runs d (symbol.Want term.Close ∷ symbol.Want term.Semicolon ∷ stack) ∙ rw (close, semicolon))

-- what ends no block begins a piece of it
pieces_go_on : (x : Term) → same term.CloseBrace x ≡ false → (stack : List Symbol) → advance (symbol.Pieces ∷ stack) x ≡ advance (symbol.Piece ∷ symbol.Pieces ∷ stack) x
unfolding advance takes may_end same
pieces_go_on term.CloseBrace apart stack = absurd (cc)
pieces_go_on _ apart stack = refl

free_goes_on : {f : Free} {ts us : List Token} → IsFree f ts us → (stack : List Symbol) → stop ts (symbol.Pieces ∷ stack) ≡ stop ts (symbol.Piece ∷ symbol.Pieces ∷ stack)
unfolding advance takes
free_goes_on (IsFree.free is opens d close semicolon) stack = rw is

gap_runs : {frees : List Free} {ts us : List Token} → IsGap frees ts us → (stack : List Symbol) → stop ts (symbol.Pieces ∷ stack) ≡ stop us (symbol.Pieces ∷ stack)
unfolding advance takes
gap_runs IsGap.done stack = refl
gap_runs (IsGap.empty is d) stack = rw is (gap_runs d stack)
gap_runs (IsGap.free d q) stack = free_goes_on d stack ∙ free_runs d (symbol.Pieces ∷ stack) ∙ gap_runs q stack

-- heads of statements

test_runs : {e : Expr} {ts us : List Token} → IsTest e ts us → (stack : List Symbol)
    → stop ts (symbol.Want term.Open ∷ symbol.Operand Whole ∷ symbol.Want term.Close ∷ stack) ≡ stop us stack
unfolding advance takes may_end same
test_runs (IsTest.test opens d close) stack = rw opens (level_runs d (symbol.Want term.Close ∷ stack) ∙ rw close)

for_start_runs : {starts : List Start} {ts us : List Token} → IsForStart starts ts us → (stack : List Symbol) → stop ts (symbol.ForStart ∷ stack) ≡ stop us stack
unfolding advance takes
for_start_runs (IsForStart.none is) stack = rw is
for_start_runs (IsForStart.declare d semicolon) stack = decl_start_runs d semicolon stack
for_start_runs (IsForStart.assign d semicolon) stack = start_runs d semicolon stack

test_goes_on : (x : Term) → begins_operand x ≡ true → (stack : List Symbol)
    → advance (symbol.ForTest ∷ stack) x ≡ advance (symbol.Operand Whole ∷ symbol.Want term.Semicolon ∷ stack) x
unfolding advance takes may_end
test_goes_on term.Semicolon is stack = absurd (cc)
test_goes_on _ is stack = refl

for_test_runs : {test : Option Expr} {ts us : List Token} → IsForTest test ts us → (stack : List Symbol) → stop ts (symbol.ForTest ∷ stack) ≡ stop us stack
unfolding advance takes
for_test_runs (IsForTest.none is) stack = rw is
for_test_runs {ts = ts} (IsForTest.test {t = t} {us = us} d semicolon) stack =
    stops_alike ts (symbol.ForTest ∷ stack) (symbol.Operand Whole ∷ symbol.Want term.Semicolon ∷ stack) (test_goes_on (next ts) (level_begins d) stack)
    ∙ level_runs d (symbol.Want term.Semicolon ∷ stack) ∙ whole_ended t us (ap closes semicolon) (symbol.Want term.Semicolon ∷ stack)
    ∙ wanted_taken t us stack term.Semicolon semicolon

for_step_runs : {step : Option Simple} {ts us : List Token} → IsForStep step ts us → (stack : List Symbol) → stop ts (symbol.ForStep ∷ stack) ≡ stop us stack
unfolding advance takes
for_step_runs (IsForStep.none is) stack = rw is
for_step_runs (IsForStep.step d close) stack = step_runs d close stack

for_head_runs : {h : ForHead} {ts us : List Token} → IsForHead h ts us → (stack : List Symbol)
    → stop ts (symbol.Want term.Open ∷ symbol.ForStart ∷ symbol.ForTest ∷ symbol.ForStep ∷ stack) ≡ stop us stack
for_head_runs (IsForHead.head {o = o} {ts = ts} opens d q r) stack =
    wanted_taken o ts (symbol.ForStart ∷ symbol.ForTest ∷ symbol.ForStep ∷ stack) term.Open opens
    ∙ for_start_runs d (symbol.ForTest ∷ symbol.ForStep ∷ stack) ∙ for_test_runs q (symbol.ForStep ∷ stack) ∙ for_step_runs r stack

-- items and blocks

otherwise_ends : (x : Term) → same term.Else x ≡ false → (stack : List Symbol) → advance (symbol.Otherwise ∷ stack) x ≡ advance stack x
unfolding advance takes may_end same
otherwise_ends term.Else apart stack = absurd (cc)
otherwise_ends _ apart stack = refl

returned_goes_on : (x : Term) → same term.Semicolon x ≡ false → (stack : List Symbol)
    → advance (symbol.Returned ∷ stack) x ≡ advance (symbol.Right ∷ symbol.Want term.Semicolon ∷ stack) x
unfolding advance takes may_end same
returned_goes_on term.Semicolon apart stack = absurd (cc)
returned_goes_on _ apart stack = refl

mutual
  unfolding advance takes same

  pub item_runs : {i : Item} {end : ℕ} {ts us : List Token} → IsItem i end ts us → (stack : List Symbol) → stop ts (symbol.Piece ∷ stack) ≡ stop us stack
  item_runs (IsItem.declare d semicolon) stack = decl_runs d semicolon stack
  item_runs (IsItem.assign d semicolon) stack = simple_runs d semicolon stack
  item_runs (IsItem.call d semicolon) stack = call_item_runs d semicolon stack
  item_runs (IsItem.nest d) stack = block_runs d stack
  item_runs (IsItem.branch is d q r) stack =
      rw is (test_runs d (symbol.Piece ∷ symbol.Otherwise ∷ stack) ∙ body_runs q (symbol.Otherwise ∷ stack) ∙ else_runs r stack)
  item_runs (IsItem.while is d q) stack = rw is (test_runs d (symbol.Piece ∷ stack) ∙ body_runs q stack)
  item_runs (IsItem.for is d q) stack = rw is (for_head_runs d (symbol.Piece ∷ stack) ∙ body_runs q stack)
  item_runs (IsItem.break is semicolon) stack = rw (is, semicolon)
  item_runs (IsItem.continue is semicolon) stack = rw (is, semicolon)
  item_runs (IsItem.return is semicolon) stack = rw (is, semicolon)
  item_runs (IsItem.return_value {s = s} {ts = ts} {us = us} is d semicolon) stack =
      rw is (
      stops_alike ts (symbol.Returned ∷ stack) (symbol.Right ∷ symbol.Want term.Semicolon ∷ stack) (returned_goes_on (next ts) (plain_not_semicolon (next ts) (right_first d)) stack)
      ∙ right_runs d (ap closes semicolon) (symbol.Want term.Semicolon ∷ stack) ∙ wanted_taken s us stack term.Semicolon semicolon
      )

  else_runs : {arms : List Arm} {last : Option Block} {before end : ℕ} {ts us : List Token} → IsElse arms last before end ts us → (stack : List Symbol)
      → stop ts (symbol.Otherwise ∷ stack) ≡ stop us stack
  else_runs (IsElse.none {ts = ts} apart) stack = stops_alike ts (symbol.Otherwise ∷ stack) stack (otherwise_ends (next ts) apart stack)
  else_runs (IsElse.else_if is branch d q r) stack =
      rw (is, branch) (test_runs d (symbol.Piece ∷ symbol.Otherwise ∷ stack) ∙ body_runs q (symbol.Otherwise ∷ stack) ∙ else_runs r stack)
  else_runs (IsElse.otherwise is apart d) stack = rw is (body_runs d stack)

  pub body_runs : {b : Block} {end : ℕ} {ts us : List Token} → IsBody b end ts us → (stack : List Symbol) → stop ts (symbol.Piece ∷ stack) ≡ stop us stack
  body_runs (IsBody.braced d) stack = block_runs d stack
  body_runs (IsBody.unbraced apart d) stack = item_runs d stack
  body_runs (IsBody.free d) stack = free_runs d stack
  body_runs (IsBody.empty is) stack = rw is

  block_runs : {b : Block} {end : ℕ} {ts us : List Token} → IsBlock b end ts us → (stack : List Symbol) → stop ts (symbol.Piece ∷ stack) ≡ stop us stack
  block_runs (IsBlock.braces is d) stack = rw is (pieces_runs d stack)

  pub pieces_runs : {pieces : List Piece} {frees : List Free} {end : ℕ} {ts us : List Token} → IsPieces pieces frees end ts us → (stack : List Symbol)
      → stop ts (symbol.Pieces ∷ stack) ≡ stop us stack
  pieces_runs (IsPieces.last d is) stack = gap_runs d stack ∙ rw is
  pieces_runs (IsPieces.more {t = t} {us = us} g d q) stack =
      gap_runs g stack ∙ stops_alike (t ∷ us) (symbol.Pieces ∷ stack) (symbol.Piece ∷ symbol.Pieces ∷ stack) (pieces_go_on (term_of t) (begins_goes (term_of t) (item_begins d)) stack)
      ∙ item_runs d (symbol.Pieces ∷ stack) ∙ pieces_runs q stack
