-- Each derivation of a statement or a block is what is read.
use Rattle.std.proofs.Common.{◌≡◌, ℕ, zero, suc, ◌<◌, ◌≤◌, Bool, true, false, List, [], ◌∷◌, ◌++◌, map, Option, Some, None, length, refl, ap, ◌∙◌, append_assoc, append-nil, arith}
use Rattle.c_lexer.specs.declared.token.Token.{Token}
use Rattle.c_tree.specs.declared.expr.Op.{Op}
use Rattle.c_tree.specs.declared.tree.Arm.{Arm}
use Rattle.c_tree.specs.declared.tree.Block.{Block}
use Rattle.c_tree.specs.declared.tree.Call.{Call}
use Rattle.c_tree.specs.declared.tree.Declr.{Declr}
use Rattle.c_tree.specs.declared.tree.Expr.{Expr}
use Rattle.c_tree.specs.declared.tree.ForHead.{ForHead}
use Rattle.c_tree.specs.declared.tree.Free.{Free}
use Rattle.c_tree.specs.declared.tree.Item.{Item}
use Rattle.c_tree.specs.declared.tree.Item.TheVariants as item
use Rattle.c_tree.specs.declared.tree.Piece.{Piece}
use Rattle.c_tree.specs.declared.tree.Right.{Right}
use Rattle.c_tree.specs.declared.tree.Simple.{Simple}
use Rattle.c_tree.specs.declared.tree.Start.{Start}
use Rattle.c_tree.specs.declared.tree.Start.TheVariants as start
use Rattle.c_parser.specs.Expressions.{IsArg}
use Rattle.c_parser.specs.Statements.{IsCall, IsRight, IsPlace, IsSimple, IsDecl, step_of}
use Rattle.c_parser.specs.Blocks.{IsFree, IsGap, IsTest, IsForStart, IsForTest, IsForStep, IsForHead, IsItem, IsElse, IsBody, IsBlock, IsPieces, piece, arm, block}
use Rattle.c_parser.specs.ReadExpressions.{Read, mapped, read_expr}
use Rattle.c_parser.specs.ReadStatements.{is_call, is_decl, begins_decl, read_decl, read_right, read_simple}
use Rattle.c_parser.specs.ReadBlocks.{ended, body_of, read_free, read_gap, read_gap_at, read_test, read_for_start, read_for_test, read_for_step, read_for_head, read_pieces, read_block, read_body, read_body_at, read_arm, read_else, read_else_at, read_branch, read_while, read_for, read_return, read_plain_item, read_item, read_item_at}
use Rattle.c_parser.specs.Term.{next, same, sees, term_of}
use Rattle.c_parser.specs.declared.term.Term.{Term}
use Rattle.c_parser.specs.declared.term.Term.TheVariants as term
use Rattle.c_parser.proofs.Terms.{same_self}
use Rattle.c_parser.proofs.Shorter.{free_shorter, gap_shorter, test_shorter, for_start_shorter, for_test_shorter, for_head_shorter, item_shorter, body_shorter, pieces_shorter}
use Rattle.c_parser.proofs.CompleteExpressions.{Ends, closes, closed, begins_operand, level_begins, post_begins, want_is, arg_complete, level_complete}
use Rattle.c_parser.proofs.CompleteStatements.{closes_not_open, call_begins, call_begins_no_decl, call_complete, decl_begins, decl_complete, right_complete, simple_begins, simple_complete}

-- what begins a declaration, a call, an assignment or a right side
abbrev pub plain : Term → Bool
plain term.Int = true
plain term.Struct = true
plain term.Getchar = true
plain term.Putchar = true
plain term.Printf = true
plain term.Malloc = true
plain term.PlusPlus = true
plain term.MinusMinus = true
plain term.Number = true
plain term.Null = true
plain term.Eof = true
plain term.Name = true
plain term.Open = true
plain term.Minus = true
plain term.Not = true
plain term.Star = true
plain _ = false

operand_plain : (x : Term) → begins_operand x ≡ true → plain x ≡ true
operand_plain term.Number is = refl
operand_plain term.Null is = refl
operand_plain term.Eof is = refl
operand_plain term.Name is = refl
operand_plain term.Open is = refl
operand_plain term.Minus is = refl
operand_plain term.Not is = refl
operand_plain term.Star is = refl
operand_plain _ is = absurd (cc)

step_plain : (x : Term) (o : Op) → step_of x ≡ Some o → plain x ≡ true
step_plain term.PlusPlus o is = refl
step_plain term.MinusMinus o is = refl
step_plain _ o is = absurd (cc)

decl_plain : (x y : Term) → is_decl x y ≡ true → plain x ≡ true
decl_plain term.Int y is = refl
decl_plain term.Struct y is = refl
decl_plain term.Name y is = refl
decl_plain _ y is = absurd (cc)

call_plain : (x y z w : Term) → is_call x y z w ≡ true → plain x ≡ true
call_plain term.Getchar y z w is = refl
call_plain term.Putchar y z w is = refl
call_plain term.Printf y z w is = refl
call_plain term.Malloc y z w is = refl
call_plain term.Name y z w is = refl
call_plain term.Open y z w is = refl
call_plain _ y z w is = absurd (cc)

decl_first : {ds : List Declr} {ts us : List Token} → IsDecl ds ts us → plain (next ts) ≡ true
decl_first {ts = ts} d = decl_plain (next ts) _ (decl_begins d)

call_first : {c : Call} {ts us : List Token} → IsCall c ts us → plain (next ts) ≡ true
call_first {ts = ts} d = call_plain (next ts) _ _ _ (call_begins d)

place_first : {e : Expr} {ts us : List Token} → IsPlace e ts us → plain (next ts) ≡ true
place_first {ts = ts} (IsPlace.post d) = operand_plain (next ts) (post_begins d)
place_first (IsPlace.deref is d) = rw is

simple_first : {s : Simple} {ts us : List Token} → IsSimple s ts us → plain (next ts) ≡ true
simple_first (IsSimple.put d put r) = place_first d
simple_first (IsSimple.change d change a) = place_first d
simple_first {ts = ts} (IsSimple.step_behind d step) = operand_plain (next ts) (post_begins d)
simple_first {ts = ts} (IsSimple.step_before {o = o} step d) = step_plain (next ts) o step

pub right_first : {r : Right} {ts us : List Token} → IsRight r ts us → plain (next ts) ≡ true
right_first (IsRight.plain (IsArg.argument {t = t} d)) = operand_plain (term_of t) (level_begins d)
right_first (IsRight.called d) = call_first d

pub plain_not_semicolon : (x : Term) → plain x ≡ true → same term.Semicolon x ≡ false
unfolding same
plain_not_semicolon term.Semicolon is = absurd (cc)
plain_not_semicolon _ is = refl

plain_not_close : (x : Term) → plain x ≡ true → same term.Close x ≡ false
unfolding same
plain_not_close term.Close is = absurd (cc)
plain_not_close _ is = refl

-- what stands behind a right side

semicolon_ends : (t : Token) (us : List Token) → term_of t ≡ term.Semicolon → Ends 6 (t ∷ us)
semicolon_ends t us is = closed 6 t us term.Semicolon is refl

close_ends : (t : Token) (us : List Token) → term_of t ≡ term.Close → Ends 6 (t ∷ us)
close_ends t us is = closed 6 t us term.Close is refl

ended_is : {A : Type 0} {x : A} {r : Option (A × List Token)} (t : Token) (us : List Token) → r ≡ Some (x, t ∷ us) → term_of t ≡ term.Semicolon → ended r ≡ Some ((x, t.end), us)
ended_is t us read is = rw (read, want_is term.Semicolon t us is)

-- frees and gaps

pub free_complete : {f : Free} {ts us : List Token} → IsFree f ts us → (depth : ℕ) → length ts ≤ depth → read_free depth ts ≡ Some (f, us)
unfolding read_free
free_complete (IsFree.free {t = t} {o = o} {c = c} {s = s} {ts = ts} {us = us} is opens d close semicolon) depth enough =
    rw (
      want_is term.Free t (o ∷ ts) is,
      want_is term.Open o ts opens,
      arg_complete d depth (omega (arith, enough)) (close_ends c (s ∷ us) close),
      want_is term.Close c (s ∷ us) close,
      want_is term.Semicolon s us semicolon,
    )

-- a token that ends a gap
abbrev ends_gap : Term → Bool
ends_gap term.Semicolon = false
ends_gap term.Free = false
ends_gap _ = true

gap_stops : (depth : ℕ) (on : List Free → Read (List Free)) (front : List Free) (x : Term) (t : Token) (ts : List Token) → ends_gap x ≡ true
    → read_gap_at depth on front x t ts ≡ Some (front, t ∷ ts)
gap_stops depth on front term.Semicolon t ts ends = absurd (cc)
gap_stops depth on front term.Free t ts ends = absurd (cc)
gap_stops depth on front _ t ts ends = refl

gap_done : (depth n : ℕ) (front : List Free) (t : Token) (ts : List Token) → ends_gap (term_of t) ≡ true
    → read_gap depth (suc n) front (t ∷ ts) ≡ Some (front ++ [], t ∷ ts)
unfolding read_gap
gap_done depth n front t ts ends = rw (append-nil front) (gap_stops depth (read_gap depth n) front (term_of t) t ts ends)

gap_empty : (depth n : ℕ) (front : List Free) (t : Token) (ts : List Token) → term_of t ≡ term.Semicolon
    → read_gap depth (suc n) front (t ∷ ts) ≡ read_gap depth n front ts
unfolding read_gap
gap_empty depth n front t ts is = rw is

gap_free : {f : Free} {us vs : List Token} (depth n : ℕ) (front others : List Free) (ts : List Token) → IsFree f ts us → length ts ≤ depth
    → read_gap depth n (front ++ f ∷ []) us ≡ Some ((front ++ f ∷ []) ++ others, vs) → read_gap depth (suc n) front ts ≡ Some (front ++ f ∷ others, vs)
unfolding read_gap
gap_free {f = f} {vs = vs} depth n front others ts (IsFree.free is opens d close semicolon) enough behind =
    rw (is, free_complete (IsFree.free is opens d close semicolon) depth enough) (behind ∙ ap (λ l. Some (l, vs)) (append_assoc front (f ∷ []) others))

gap_complete : {frees : List Free} {t : Token} {ts us : List Token} → IsGap frees ts (t ∷ us) → (depth n : ℕ) → length ts ≤ depth → length ts ≤ n
    → ends_gap (term_of t) ≡ true → (front : List Free) → read_gap depth n front ts ≡ Some (front ++ frees, t ∷ us)
gap_complete d depth zero enough more ends front = absurd (omega (arith, more, gap_shorter d))
gap_complete {t = t} {us = us} IsGap.done depth (suc n) enough more ends front = gap_done depth n front t us ends
gap_complete (IsGap.empty {t = s} {ts = ts} is d) depth (suc n) enough more ends front =
    gap_empty depth n front s ts is ∙ gap_complete d depth n (omega (arith, enough)) (omega (arith, more)) ends front
gap_complete (IsGap.free {f = f} {ts = ts} d q) depth (suc n) enough more ends front =
    gap_free depth n front _ ts d enough (gap_complete q depth n (omega (arith, enough, free_shorter d)) (omega (arith, more, free_shorter d)) ends (front ++ f ∷ []))

-- heads of statements

pub test_complete : {e : Expr} {ts us : List Token} → IsTest e ts us → (depth : ℕ) → length ts ≤ depth → read_test depth ts ≡ Some (e, us)
unfolding read_test
test_complete (IsTest.test {o = o} {c = c} {ts = ts} {us = us} opens d close) depth enough =
    rw (want_is term.Open o ts opens, level_complete d depth (omega (arith, enough)) (close_ends c us close), want_is term.Close c us close)

for_start_assigns : (depth : ℕ) (ts : List Token) → plain (next ts) ≡ true → begins_decl ts ≡ false
    → read_for_start depth ts ≡ mapped (λ p. start.Assign p.0 ∷ []) (ended (read_simple depth ts))
unfolding read_for_start
for_start_assigns depth [] first apart = absurd (cc)
for_start_assigns depth (t ∷ ts) first apart = rw (plain_not_semicolon (term_of t) first, apart)

for_start_declares : (depth : ℕ) (ts : List Token) → plain (next ts) ≡ true → begins_decl ts ≡ true
    → read_for_start depth ts ≡ mapped (λ p. map start.Declare p.0) (ended (read_decl depth ts))
unfolding read_for_start
for_start_declares depth [] first is = absurd (cc)
for_start_declares depth (t ∷ ts) first is = rw (plain_not_semicolon (term_of t) first, is)

for_start_complete : {starts : List Start} {ts us : List Token} → IsForStart starts ts us → (depth : ℕ) → length ts ≤ depth → read_for_start depth ts ≡ Some (starts, us)
unfolding read_for_start
for_start_complete (IsForStart.none is) depth enough = rw (is, same_self term.Semicolon)
for_start_complete {ts = ts} (IsForStart.declare {t = t} {us = us} d semicolon) depth enough =
    for_start_declares depth ts (decl_first d) (decl_begins d) ∙ ap (mapped (λ p. map start.Declare p.0)) (ended_is t us (decl_complete d depth enough semicolon) semicolon)
for_start_complete {ts = ts} (IsForStart.assign {t = t} {us = us} d semicolon) depth enough =
    for_start_assigns depth ts (simple_first d) (simple_begins d).0
    ∙ ap (mapped (λ p. start.Assign p.0 ∷ [])) (ended_is t us (simple_complete d depth enough (semicolon_ends t us semicolon) (closes_not_open (term_of t) (ap closes semicolon))) semicolon)

for_test_reads : (depth : ℕ) (ts : List Token) → begins_operand (next ts) ≡ true → read_for_test depth ts ≡ mapped (λ p. Some p.0) (ended (read_expr depth ts))
unfolding read_for_test
for_test_reads depth [] first = absurd (cc)
for_test_reads depth (t ∷ ts) first = rw (plain_not_semicolon (term_of t) (operand_plain (term_of t) first))

for_test_complete : {test : Option Expr} {ts us : List Token} → IsForTest test ts us → (depth : ℕ) → length ts ≤ depth → read_for_test depth ts ≡ Some (test, us)
unfolding read_for_test
for_test_complete (IsForTest.none is) depth enough = rw (is, same_self term.Semicolon)
for_test_complete {ts = ts} (IsForTest.test {t = t} {us = us} d semicolon) depth enough =
    for_test_reads depth ts (level_begins d) ∙ ap (mapped (λ p. Some p.0)) (ended_is t us (level_complete d depth enough (semicolon_ends t us semicolon)) semicolon)

for_step_reads : {s : Simple} {us : List Token} (depth : ℕ) (ts : List Token) (t : Token) → plain (next ts) ≡ true → read_simple depth ts ≡ Some (s, t ∷ us) → term_of t ≡ term.Close
    → read_for_step depth ts ≡ Some (Some s, us)
unfolding read_for_step
for_step_reads depth [] t first read close = absurd (cc)
for_step_reads {us = us} depth (s ∷ ts) t first read close = rw (plain_not_close (term_of s) first, read, want_is term.Close t us close)

for_step_complete : {step : Option Simple} {ts us : List Token} → IsForStep step ts us → (depth : ℕ) → length ts ≤ depth → read_for_step depth ts ≡ Some (step, us)
unfolding read_for_step
for_step_complete (IsForStep.none is) depth enough = rw (is, same_self term.Close)
for_step_complete {ts = ts} (IsForStep.step {t = t} {us = us} d close) depth enough =
    for_step_reads depth ts t (simple_first d) (simple_complete d depth enough (close_ends t us close) (closes_not_open (term_of t) (ap closes close))) close

for_head_complete : {h : ForHead} {ts us : List Token} → IsForHead h ts us → (depth : ℕ) → length ts ≤ depth → read_for_head depth ts ≡ Some (h, us)
unfolding read_for_head
for_head_complete (IsForHead.head {o = o} {ts = ts} opens s t p) depth enough =
    rw (
      want_is term.Open o ts opens,
      for_start_complete s depth (omega (arith, enough)),
      for_test_complete t depth (omega (arith, enough, for_start_shorter s)),
      for_step_complete p depth (omega (arith, enough, for_start_shorter s, for_test_shorter t)),
    )

-- what begins an item: it ends a gap, and a block goes on

abbrev pub begins_item : Term → Bool
begins_item term.Semicolon = false
begins_item term.Free = false
begins_item term.CloseBrace = false
begins_item _ = true

plain_begins : (x : Term) → plain x ≡ true → begins_item x ≡ true
plain_begins term.Semicolon is = absurd (cc)
plain_begins term.Free is = absurd (cc)
plain_begins term.CloseBrace is = absurd (cc)
plain_begins _ is = refl

begins_ends : (x : Term) → begins_item x ≡ true → ends_gap x ≡ true
begins_ends term.Semicolon is = absurd (cc)
begins_ends term.Free is = absurd (cc)
begins_ends _ is = refl

pub begins_goes : (x : Term) → begins_item x ≡ true → same term.CloseBrace x ≡ false
unfolding same
begins_goes term.CloseBrace is = absurd (cc)
begins_goes _ is = refl

pub item_begins : {i : Item} {end : ℕ} {ts us : List Token} → IsItem i end ts us → begins_item (next ts) ≡ true
item_begins {ts = ts} (IsItem.declare d semicolon) = plain_begins (next ts) (decl_first d)
item_begins {ts = ts} (IsItem.assign d semicolon) = plain_begins (next ts) (simple_first d)
item_begins {ts = ts} (IsItem.call d semicolon) = plain_begins (next ts) (call_first d)
item_begins (IsItem.nest (IsBlock.braces is d)) = rw is
item_begins (IsItem.branch is d q r) = rw is
item_begins (IsItem.while is d q) = rw is
item_begins (IsItem.for is d q) = rw is
item_begins (IsItem.break is semicolon) = rw is
item_begins (IsItem.continue is semicolon) = rw is
item_begins (IsItem.return is semicolon) = rw is
item_begins (IsItem.return_value is d semicolon) = rw is

-- one production, from what its parts are read as

braces_read : {b : Block} {end : ℕ} {us : List Token} (depth : ℕ) (within : Read (Item × ℕ)) (t : Token) (ts : List Token) → term_of t ≡ term.OpenBrace
    → read_pieces depth within t.start (length ts) [] ts ≡ Some ((b, end), us) → read_block depth within (t ∷ ts) ≡ Some ((b, end), us)
unfolding read_block
braces_read depth within t ts is behind = rw (want_is term.OpenBrace t ts is) behind

last_read : {frees : List Free} {us : List Token} (depth : ℕ) (within : Read (Item × ℕ)) (begun n : ℕ) (front : List Piece) (ts : List Token) (t : Token)
    → read_gap depth (length ts) [] ts ≡ Some (frees, t ∷ us) → term_of t ≡ term.CloseBrace
    → read_pieces depth within begun (suc n) front ts ≡ Some ((block (front ++ []) frees true begun t.end, t.end), us)
unfolding read_pieces
last_read depth within begun n front ts t gap is = rw (append-nil front, gap, is, same_self term.CloseBrace)

more_read : {gap_frees : List Free} {i : Item} {b end : ℕ} {us vs ws : List Token} (depth : ℕ) (within : Read (Item × ℕ)) (begun n : ℕ) (front others : List Piece) (frees : List Free) (ts : List Token) (t : Token)
    → read_gap depth (length ts) [] ts ≡ Some (gap_frees, t ∷ us) → begins_item (term_of t) ≡ true → within (t ∷ us) ≡ Some ((i, b), vs)
    → read_pieces depth within begun n (front ++ piece gap_frees i t.start b ∷ []) vs ≡ Some ((block ((front ++ piece gap_frees i t.start b ∷ []) ++ others) frees true begun end, end), ws)
    → read_pieces depth within begun (suc n) front ts ≡ Some ((block (front ++ piece gap_frees i t.start b ∷ others) frees true begun end, end), ws)
unfolding read_pieces
more_read {gap_frees = gap_frees} {i = i} {b = b} {end = end} {ws = ws} depth within begun n front others frees ts t gap begins read behind =
    rw (gap, begins_goes (term_of t) begins, read)
    (behind ∙ ap (λ l. Some ((block l frees true begun end, end), ws)) (append_assoc front (piece gap_frees i t.start b ∷ []) others))

body_of_item : (depth : ℕ) (within : Read (Item × ℕ)) (x : Term) (t : Token) (ts : List Token) → same term.OpenBrace x ≡ false → begins_item x ≡ true
    → read_body_at depth within x t ts ≡ mapped (body_of t) (within (t ∷ ts))
unfolding same
body_of_item depth within term.OpenBrace t ts brace begins = absurd (cc)
body_of_item depth within term.Free t ts brace begins = absurd (cc)
body_of_item depth within term.Semicolon t ts brace begins = absurd (cc)
body_of_item depth within _ t ts brace begins = refl

unbraced_read : {i : Item} {end : ℕ} {us : List Token} (depth : ℕ) (within : Read (Item × ℕ)) (t : Token) (ts : List Token) → same term.OpenBrace (term_of t) ≡ false
    → begins_item (term_of t) ≡ true → within (t ∷ ts) ≡ Some ((i, end), us)
    → read_body depth within (t ∷ ts) ≡ Some ((block (piece [] i t.start end ∷ []) [] false t.start end, end), us)
unfolding read_body
unbraced_read depth within t ts brace begins read = rw (body_of_item depth within (term_of t) t ts brace begins, read)

braced_read : (depth : ℕ) (within : Read (Item × ℕ)) (t : Token) (ts : List Token) → term_of t ≡ term.OpenBrace → read_body depth within (t ∷ ts) ≡ read_block depth within (t ∷ ts)
unfolding read_body
braced_read depth within t ts is = rw is

free_read : {f : Free} {ts us : List Token} → IsFree f ts us → (depth : ℕ) (within : Read (Item × ℕ)) → length ts ≤ depth
    → read_body depth within ts ≡ Some ((block [] (f ∷ []) false f.start f.end, f.end), us)
unfolding read_body
free_read (IsFree.free is opens d close semicolon) depth within enough = rw (is, free_complete (IsFree.free is opens d close semicolon) depth enough)

empty_read : (depth : ℕ) (within : Read (Item × ℕ)) (t : Token) (ts : List Token) → term_of t ≡ term.Semicolon
    → read_body depth within (t ∷ ts) ≡ Some ((block [] [] false t.start t.end, t.end), ts)
unfolding read_body
empty_read depth within t ts is = rw is

arm_read : {e : Expr} {b : Block} {end : ℕ} {us vs : List Token} (depth : ℕ) (within : Read (Item × ℕ)) (ts : List Token) → read_test depth ts ≡ Some (e, us)
    → read_body depth within us ≡ Some ((b, end), vs) → read_arm depth within ts ≡ Some ((arm e b, end), vs)
unfolding read_arm
arm_read depth within ts test body = rw (test, body)

no_else_read : (depth : ℕ) (within : Read (Item × ℕ)) (n : ℕ) (front : List Arm) (end : ℕ) (ts : List Token) → sees term.Else ts ≡ false
    → read_else depth within (suc n) front end ts ≡ Some ((item.If (front ++ []) None, end), ts)
unfolding read_else
no_else_read depth within n front end [] apart = rw (append-nil front)
no_else_read depth within n front end (t ∷ ts) apart = rw (append-nil front, apart)

else_if_read : {a : Arm} {between end : ℕ} {us vs : List Token} (depth : ℕ) (within : Read (Item × ℕ)) (n : ℕ) (front others : List Arm) (last : Option Block) (before : ℕ) (t i : Token) (ts : List Token)
    → term_of t ≡ term.Else → term_of i ≡ term.If → read_arm depth within ts ≡ Some ((a, between), us)
    → read_else depth within n (front ++ a ∷ []) between us ≡ Some ((item.If ((front ++ a ∷ []) ++ others) last, end), vs)
    → read_else depth within (suc n) front before (t ∷ i ∷ ts) ≡ Some ((item.If (front ++ a ∷ others) last, end), vs)
unfolding read_else
else_if_read {a = a} {end = end} {vs = vs} depth within n front others last before t i ts is if read behind =
    rw (is, same_self term.Else, if, read) (behind ∙ ap (λ l. Some ((item.If l last, end), vs)) (append_assoc front (a ∷ []) others))

otherwise_at : (depth : ℕ) (within : Read (Item × ℕ)) (on : List Arm → ℕ → Read (Item × ℕ)) (front : List Arm) (x : Term) (ts : List Token) → same term.If x ≡ false
    → read_else_at depth within on front x ts ≡ mapped (λ b. (item.If front (Some b.0), b.1)) (read_body depth within ts)
unfolding same
otherwise_at depth within on front term.If ts apart = absurd (cc)
otherwise_at depth within on front _ ts apart = refl

otherwise_read : {b : Block} {end : ℕ} {us : List Token} (depth : ℕ) (within : Read (Item × ℕ)) (n : ℕ) (front : List Arm) (before : ℕ) (t : Token) (ts : List Token) → term_of t ≡ term.Else
    → sees term.If ts ≡ false → read_body depth within ts ≡ Some ((b, end), us)
    → read_else depth within (suc n) front before (t ∷ ts) ≡ Some ((item.If (front ++ []) (Some b), end), us)
unfolding read_else
otherwise_read depth within n front before t ts is apart read =
    rw (append-nil front, is, same_self term.Else, otherwise_at depth within (read_else depth within n) front (next ts) ts apart, read)

-- items

plain_at : (depth : ℕ) (within : Read (Item × ℕ)) (x : Term) (t : Token) (ts : List Token) → plain x ≡ true → read_item_at depth within x t ts ≡ read_plain_item depth (t ∷ ts)
plain_at depth within term.OpenBrace t ts is = absurd (cc)
plain_at depth within term.If t ts is = absurd (cc)
plain_at depth within term.While t ts is = absurd (cc)
plain_at depth within term.For t ts is = absurd (cc)
plain_at depth within term.Break t ts is = absurd (cc)
plain_at depth within term.Continue t ts is = absurd (cc)
plain_at depth within term.Return t ts is = absurd (cc)
plain_at depth within _ t ts is = refl

plain_read : (depth : ℕ) (ts : List Token) → plain (next ts) ≡ true → read_item (suc depth) ts ≡ read_plain_item (suc depth) ts
unfolding read_item
plain_read depth [] is = absurd (cc)
plain_read depth (t ∷ ts) is = plain_at (suc depth) (read_item depth) (term_of t) t ts is

declare_read : {ds : List Declr} {t : Token} {ts us : List Token} → IsDecl ds ts (t ∷ us) → term_of t ≡ term.Semicolon → (depth : ℕ) → length ts ≤ depth
    → read_plain_item depth ts ≡ Some ((item.Declare ds, t.end), us)
unfolding read_plain_item
declare_read {t = t} {us = us} d semicolon depth enough = rw (decl_begins d, decl_complete d depth enough semicolon, want_is term.Semicolon t us semicolon)

call_read : {c : Call} {t : Token} {ts us : List Token} → IsCall c ts (t ∷ us) → term_of t ≡ term.Semicolon → (depth : ℕ) → length ts ≤ depth
    → read_plain_item depth ts ≡ Some ((item.Do c, t.end), us)
unfolding read_plain_item
call_read {t = t} {us = us} d semicolon depth enough = rw (call_begins_no_decl d, call_begins d, call_complete d depth enough, want_is term.Semicolon t us semicolon)

assign_read : {s : Simple} {t : Token} {ts us : List Token} → IsSimple s ts (t ∷ us) → term_of t ≡ term.Semicolon → (depth : ℕ) → length ts ≤ depth
    → read_plain_item depth ts ≡ Some ((item.Assign s, t.end), us)
unfolding read_plain_item
assign_read {t = t} {us = us} d semicolon depth enough =
    rw ((simple_begins d).0, (simple_begins d).1, simple_complete d depth enough (semicolon_ends t us semicolon) (closes_not_open (term_of t) (ap closes semicolon)), want_is term.Semicolon t us semicolon)

nest_read : {b : Block} {end : ℕ} {us : List Token} (depth : ℕ) (t : Token) (ts : List Token) → term_of t ≡ term.OpenBrace
    → read_block (suc depth) (read_item depth) (t ∷ ts) ≡ Some ((b, end), us) → read_item (suc depth) (t ∷ ts) ≡ Some ((item.Nest b, end), us)
unfolding read_item
nest_read depth t ts is read = rw (is, read)

branch_read : {a : Arm} {between end : ℕ} {us vs : List Token} (depth : ℕ) (arms : List Arm) (last : Option Block) (t : Token) (ts : List Token) → term_of t ≡ term.If
    → read_arm (suc depth) (read_item depth) ts ≡ Some ((a, between), us)
    → read_else (suc depth) (read_item depth) (length ts) (a ∷ []) between us ≡ Some ((item.If (a ∷ arms) last, end), vs)
    → read_item (suc depth) (t ∷ ts) ≡ Some ((item.If (a ∷ arms) last, end), vs)
unfolding read_item read_branch
branch_read depth arms last t ts is first behind = rw (is, first) behind

while_read : {e : Expr} {b : Block} {end : ℕ} {us vs : List Token} (depth : ℕ) (t : Token) (ts : List Token) → term_of t ≡ term.While → read_test (suc depth) ts ≡ Some (e, us)
    → read_body (suc depth) (read_item depth) us ≡ Some ((b, end), vs) → read_item (suc depth) (t ∷ ts) ≡ Some ((item.While e b, end), vs)
unfolding read_item read_while
while_read depth t ts is test body = rw (is, test, body)

for_read : {h : ForHead} {b : Block} {end : ℕ} {us vs : List Token} (depth : ℕ) (t : Token) (ts : List Token) → term_of t ≡ term.For → read_for_head (suc depth) ts ≡ Some (h, us)
    → read_body (suc depth) (read_item depth) us ≡ Some ((b, end), vs) → read_item (suc depth) (t ∷ ts) ≡ Some ((item.For h b, end), vs)
unfolding read_item read_for
for_read depth t ts is head body = rw (is, head, body)

break_read : (depth : ℕ) (t s : Token) (ts : List Token) → term_of t ≡ term.Break → term_of s ≡ term.Semicolon
    → read_item (suc depth) (t ∷ s ∷ ts) ≡ Some ((item.Break, s.end), ts)
unfolding read_item
break_read depth t s ts is semicolon = rw (is, want_is term.Semicolon s ts semicolon)

continue_read : (depth : ℕ) (t s : Token) (ts : List Token) → term_of t ≡ term.Continue → term_of s ≡ term.Semicolon
    → read_item (suc depth) (t ∷ s ∷ ts) ≡ Some ((item.Continue, s.end), ts)
unfolding read_item
continue_read depth t s ts is semicolon = rw (is, want_is term.Semicolon s ts semicolon)

return_read : (depth : ℕ) (t s : Token) (ts : List Token) → term_of t ≡ term.Return → term_of s ≡ term.Semicolon
    → read_item (suc depth) (t ∷ s ∷ ts) ≡ Some ((item.Return None t.start, s.end), ts)
unfolding read_item read_return
return_read depth t s ts is semicolon = rw (is, semicolon, same_self term.Semicolon)

value_read : {r : Right} {us : List Token} (depth : ℕ) (t s : Token) (ts : List Token) → plain (next ts) ≡ true → read_right depth ts ≡ Some (r, s ∷ us) → term_of s ≡ term.Semicolon
    → read_return depth t ts ≡ Some ((item.Return (Some r) t.start, s.end), us)
unfolding read_return
value_read depth t s [] first read semicolon = absurd (cc)
value_read {us = us} depth t s (u ∷ ts) first read semicolon = rw (plain_not_semicolon (term_of u) first, read, want_is term.Semicolon s us semicolon)

return_value_read : (depth : ℕ) (t : Token) (ts : List Token) → term_of t ≡ term.Return → read_item (suc depth) (t ∷ ts) ≡ read_return (suc depth) t ts
unfolding read_item
return_value_read depth t ts is = rw is

-- The depth is at least the number of tokens, both that for expressions and that for the items within.

mutual
  pub item_complete : {i : Item} {end : ℕ} {ts us : List Token} → IsItem i end ts us → (depth : ℕ) → length ts ≤ depth → read_item depth ts ≡ Some ((i, end), us)
  item_complete d zero enough = absurd (omega (arith, enough, item_shorter d))
  item_complete {ts = ts} (IsItem.declare d semicolon) (suc depth) enough = plain_read depth ts (decl_first d) ∙ declare_read d semicolon (suc depth) enough
  item_complete {ts = ts} (IsItem.assign d semicolon) (suc depth) enough = plain_read depth ts (simple_first d) ∙ assign_read d semicolon (suc depth) enough
  item_complete {ts = ts} (IsItem.call d semicolon) (suc depth) enough = plain_read depth ts (call_first d) ∙ call_read d semicolon (suc depth) enough
  item_complete (IsItem.nest (IsBlock.braces {t = t} {ts = ts} is d)) (suc depth) enough =
      nest_read depth t ts is (braces_read (suc depth) (read_item depth) t ts is
      (pieces_complete d (suc depth) depth t.start (length ts) (omega (arith, enough)) (omega (arith, enough)) (omega arith) []))
  item_complete (IsItem.branch {t = t} {e = e} {b = b} {arms = arms} {last = last} {ts = ts} is d q r) (suc depth) enough =
      branch_read depth arms last t ts is
      (arm_read (suc depth) (read_item depth) ts (test_complete d (suc depth) (omega (arith, enough)))
      (body_complete q (suc depth) depth (omega (arith, enough, test_shorter d)) (omega (arith, enough, test_shorter d))))
      (else_complete r (suc depth) depth (length ts) (omega (arith, enough, test_shorter d, body_shorter q)) (omega (arith, enough, test_shorter d, body_shorter q))
      (omega (arith, test_shorter d, body_shorter q)) (arm e b ∷ []))
  item_complete (IsItem.while {t = t} {ts = ts} is d q) (suc depth) enough =
      while_read depth t ts is (test_complete d (suc depth) (omega (arith, enough)))
      (body_complete q (suc depth) depth (omega (arith, enough, test_shorter d)) (omega (arith, enough, test_shorter d)))
  item_complete (IsItem.for {t = t} {ts = ts} is d q) (suc depth) enough =
      for_read depth t ts is (for_head_complete d (suc depth) (omega (arith, enough)))
      (body_complete q (suc depth) depth (omega (arith, enough, for_head_shorter d)) (omega (arith, enough, for_head_shorter d)))
  item_complete (IsItem.break {t = t} {s = s} {ts = ts} is semicolon) (suc depth) enough = break_read depth t s ts is semicolon
  item_complete (IsItem.continue {t = t} {s = s} {ts = ts} is semicolon) (suc depth) enough = continue_read depth t s ts is semicolon
  item_complete (IsItem.return {t = t} {s = s} {ts = ts} is semicolon) (suc depth) enough = return_read depth t s ts is semicolon
  item_complete (IsItem.return_value {t = t} {s = s} {ts = ts} {us = us} is d semicolon) (suc depth) enough =
      return_value_read depth t ts is
      ∙ value_read (suc depth) t s ts (right_first d) (right_complete d (suc depth) (omega (arith, enough)) (semicolon_ends s us semicolon) (closes_not_open (term_of s) (ap closes semicolon))) semicolon

  else_complete : {arms : List Arm} {last : Option Block} {before end : ℕ} {ts us : List Token} → IsElse arms last before end ts us → (depth within n : ℕ)
      → length ts ≤ depth → length ts ≤ within → length ts < n → (front : List Arm)
      → read_else depth (read_item within) n front before ts ≡ Some ((item.If (front ++ arms) last, end), us)
  else_complete d depth within zero enough deep more front = absurd (omega (arith, more))
  else_complete (IsElse.none {end = end} {ts = ts} apart) depth within (suc n) enough deep more front = no_else_read depth (read_item within) n front end ts apart
  else_complete (IsElse.else_if {t = t} {i = i} {e = e} {b = b} {arms = arms} {last = last} {before = before} {ts = ts} is if d q r) depth within (suc n) enough deep more front =
      else_if_read depth (read_item within) n front arms last before t i ts is if
      (arm_read depth (read_item within) ts (test_complete d depth (omega (arith, enough)))
      (body_complete q depth within (omega (arith, enough, test_shorter d)) (omega (arith, deep, test_shorter d))))
      (else_complete r depth within n (omega (arith, enough, test_shorter d, body_shorter q)) (omega (arith, deep, test_shorter d, body_shorter q))
      (omega (arith, more, test_shorter d, body_shorter q)) (front ++ arm e b ∷ []))
  else_complete (IsElse.otherwise {t = t} {before = before} {ts = ts} is apart d) depth within (suc n) enough deep more front =
      otherwise_read depth (read_item within) n front before t ts is apart (body_complete d depth within (omega (arith, enough)) (omega (arith, deep)))

  body_complete : {b : Block} {end : ℕ} {ts us : List Token} → IsBody b end ts us → (depth within : ℕ) → length ts ≤ depth → length ts ≤ within
      → read_body depth (read_item within) ts ≡ Some ((b, end), us)
  body_complete (IsBody.braced (IsBlock.braces {t = t} {ts = ts} is d)) depth within enough deep =
      braced_read depth (read_item within) t ts is ∙ braces_read depth (read_item within) t ts is
      (pieces_complete d depth within t.start (length ts) (omega (arith, enough)) (omega (arith, deep)) (omega arith) [])
  body_complete (IsBody.unbraced {t = t} {ts = ts} brace d) depth within enough deep =
      unbraced_read depth (read_item within) t ts brace (item_begins d) (item_complete d within deep)
  body_complete (IsBody.free d) depth within enough deep = free_read d depth (read_item within) enough
  body_complete (IsBody.empty {t = t} {ts = ts} is) depth within enough deep = empty_read depth (read_item within) t ts is

  pieces_complete : {pieces : List Piece} {frees : List Free} {end : ℕ} {ts us : List Token} → IsPieces pieces frees end ts us → (depth within begun n : ℕ)
      → length ts ≤ depth → length ts ≤ within → length ts ≤ n → (front : List Piece)
      → read_pieces depth (read_item within) begun n front ts ≡ Some ((block (front ++ pieces) frees true begun end, end), us)
  pieces_complete d depth within begun zero enough deep more front = absurd (omega (arith, more, pieces_shorter d))
  pieces_complete (IsPieces.last {t = t} {ts = ts} g is) depth within begun (suc n) enough deep more front =
      last_read depth (read_item within) begun n front ts t (gap_complete g depth (length ts) enough (omega arith) (ap ends_gap is) []) is
  pieces_complete (IsPieces.more {t = t} {gap_frees = gap_frees} {frees = frees} {i = i} {others = others} {end = end} {ts = ts} g d q) depth within begun (suc n) enough deep more front =
      more_read depth (read_item within) begun n front others frees ts t
      (gap_complete g depth (length ts) enough (omega arith) (begins_ends (term_of t) (item_begins d)) [])
      (item_begins d) (item_complete d within (omega (arith, deep, gap_shorter g)))
      (pieces_complete q depth within begun n (omega (arith, enough, gap_shorter g, item_shorter d)) (omega (arith, deep, gap_shorter g, item_shorter d))
      (omega (arith, more, gap_shorter g, item_shorter d)) (front ++ piece gap_frees i t.start end ∷ []))

pub block_complete : {b : Block} {end : ℕ} {ts us : List Token} → IsBlock b end ts us → (depth : ℕ) → length ts ≤ depth → read_block depth (read_item depth) ts ≡ Some ((b, end), us)
block_complete (IsBlock.braces {t = t} {ts = ts} is d) depth enough =
    braces_read depth (read_item depth) t ts is (pieces_complete d depth depth t.start (length ts) (omega (arith, enough)) (omega (arith, enough)) (omega arith) [])
