-- What is printed of a statement or a block is read as one alike it in which each body has braces.
use Rattle.std.proofs.Common.{◌≡◌, ℕ, true, false, List, [], ◌∷◌, ◌++◌, map, codes, Option, Some, None, option_map, refl, ap, sym, subst, ◌∙◌}
use Rattle.c_lexer.specs.declared.token.Token.{Token}
use Rattle.c_lexer.specs.declared.token.Kind.{Kind}
use Rattle.c_tree.specs.declared.expr.Op.{Op}
use Rattle.c_tree.specs.declared.tree.Arg.{Arg}
use Rattle.c_tree.specs.declared.tree.Base.{Base}
use Rattle.c_tree.specs.declared.tree.Block.{Block}
use Rattle.c_tree.specs.declared.tree.Call.{Call}
use Rattle.c_tree.specs.declared.tree.Declr.{Declr}
use Rattle.c_tree.specs.declared.tree.Expr.{Expr}
use Rattle.c_tree.specs.declared.tree.ForHead.{ForHead}
use Rattle.c_tree.specs.declared.tree.Free.{Free}
use Rattle.c_tree.specs.declared.tree.Item.{Item}
use Rattle.c_tree.specs.declared.tree.Piece.{Piece}
use Rattle.c_tree.specs.declared.tree.Simple.{Simple}
use Rattle.c_tree.specs.declared.tree.Start.{Start}
use Rattle.c_tree.specs.declared.tree.Start.TheVariants as start
use Rattle.c_parser.specs.declared.term.Term.{Term}
use Rattle.c_parser.specs.declared.term.Term.TheVariants as term
use Rattle.c_parser.specs.Term.{term_of, same, sees}
use Rattle.c_parser.specs.Expressions.{IsArg}
use Rattle.c_parser.specs.Declarators.{IsBase, IsCast}
use Rattle.c_parser.specs.Statements.{IsCall, IsPlace, IsSimple, IsDecl, step_of}
use Rattle.c_parser.specs.Blocks.{IsFree, IsGap, IsTest, IsForStart, IsForTest, IsForStep, IsForHead, IsItem, IsBlock, IsPieces, block}
use Rattle.c_parser.specs.Alike.{moved_arg, moved_declr, moved_simple, moved_start, moved_for_head, moved_free}
use Rattle.c_parser.specs.Printed.{key, mark, each, maybe, ended, printed_base, printed_expr, printed_arg, printed_simple, printed_declr, next_declr, printed_decl, next_start, printed_starts, printed_free, printed_test, printed_for_head}
use Rattle.c_parser.proofs.Terms.{name_term}
use Rattle.c_parser.proofs.CompleteExpressions.{begins_operand, post_begins}
use Rattle.c_parser.proofs.Spelled.{Spells, split, spelled}
use Rattle.c_parser.proofs.PrintedExpressions.{Again, bare, expr_again}
use Rattle.c_parser.proofs.PrintedStatements.{Like, Back, none_at, arg_again, simple_again, decl_again}

-- frees, tests and what stands before the body of a `for`

free_on : (f : Free) {t o : Token} {ts us vs ws : List Token} → t.kind ≡ key (codes "free") → o.kind ≡ mark (codes "(") → Like IsArg (moved_arg none_at) f.expr ts us
    → Spells (mark (codes ")") ∷ []) us vs → Spells (mark (codes ";") ∷ []) vs ws → Like IsFree (moved_free none_at) f (t ∷ o ∷ ts) ws
free_on f {t} {o} is opens l (Spells.more {t = c} close Spells.done) (Spells.more {t = s} end Spells.done) = record {
  other = record { expr = l.other; start = t.start; end = s.end };
  alike = ap (λ (a : Arg). record { expr = a; start = 0; end = 0 }) l.alike;
  is = IsFree.free (spelled t term.Free is refl) (spelled o term.Open opens refl) l.is (spelled c term.Close close refl) (spelled s term.Semicolon end refl);
}

pub free_again : (f : Free) → Back IsFree (moved_free none_at) printed_free f
free_again f _ _ (Spells.more is (Spells.more {ts = ts} opens d)) =
    let out = split (printed_arg f.expr ++ mark (codes ")") ∷ []) (mark (codes ";") ∷ []) d in
    let s = split (printed_arg f.expr) (mark (codes ")") ∷ []) out.front in
    free_on f is opens (arg_again f.expr ts s.middle s.front) s.back out.back

gap_on : (f : Free) (frees : List Free) {ts us vs : List Token} → Like IsFree (moved_free none_at) f ts us → Like IsGap (map (moved_free none_at)) frees us vs
    → Like IsGap (map (moved_free none_at)) (f ∷ frees) ts vs
gap_on f frees l rest = record {
  other = l.other ∷ rest.other;
  alike = ap (λ (x : Free). x ∷ map (moved_free none_at) rest.other) l.alike ∙ ap (λ (xs : List Free). moved_free none_at f ∷ xs) rest.alike;
  is = IsGap.free l.is rest.is;
}

pub gap_again : (frees : List Free) {ts us : List Token} → Spells (each printed_free frees) ts us → Like IsGap (map (moved_free none_at)) frees ts us
gap_again [] Spells.done = record { other = []; alike = refl; is = IsGap.done }
gap_again (f ∷ frees) {ts} d =
    let s = split (printed_free f) (each printed_free frees) d in
    gap_on f frees (free_again f ts s.middle s.front) (gap_again frees s.back)

test_on : (e : Expr) {o : Token} {ts us vs : List Token} → o.kind ≡ mark (codes "(") → Again 7 e ts us → Spells (mark (codes ")") ∷ []) us vs → Like IsTest bare e (o ∷ ts) vs
test_on e {o} opens a (Spells.more {t = c} close Spells.done) = record { other = a.other; alike = a.alike; is = IsTest.test (spelled o term.Open opens refl) a.is (spelled c term.Close close refl) }

pub test_again : (e : Expr) → Back IsTest bare printed_test e
test_again e _ _ (Spells.more {ts = ts} opens d) =
    let s = split (printed_expr 7 e) (mark (codes ")") ∷ []) d in
    test_on e opens (expr_again e 7 ts s.middle s.front) s.back

next_declares : (ds : List Declr) → each next_start (map start.Declare ds) ≡ each next_declr ds
next_declares [] = refl
next_declares (d ∷ ds) = ap (λ (ks : List Kind). next_declr d ++ ks) (next_declares ds)

pub starts_declare : (ds : List Declr) → printed_starts (map start.Declare ds) ≡ printed_decl ds
starts_declare [] = refl
starts_declare (d ∷ ds) = ap (λ (ks : List Kind). printed_base d.spec.base ++ (printed_declr d ++ ks)) (next_declares ds)

map_declare : (ds : List Declr) → map (moved_start none_at) (map start.Declare ds) ≡ map start.Declare (map (moved_declr none_at) ds)
map_declare [] = refl
map_declare (d ∷ ds) = ap (λ (xs : List Start). start.Declare (moved_declr none_at d) ∷ xs) (map_declare ds)

start_declared : (ds : List Declr) {ts us vs : List Token} → Like IsDecl (map (moved_declr none_at)) ds ts us → Spells (mark (codes ";") ∷ []) us vs
    → Like IsForStart (map (moved_start none_at)) (map start.Declare ds) ts vs
start_declared ds l (Spells.more {t = t} is Spells.done) = record {
  other = map start.Declare l.other;
  alike = map_declare l.other ∙ ap (λ (xs : List Declr). map start.Declare xs) l.alike ∙ sym (map_declare ds);
  is = IsForStart.declare l.is (spelled t term.Semicolon is refl);
}

start_assigned : (s : Simple) {ts us vs : List Token} → Like IsSimple (moved_simple none_at) s ts us → Spells (mark (codes ";") ∷ []) us vs
    → Like IsForStart (map (moved_start none_at)) (start.Assign s ∷ []) ts vs
start_assigned s l (Spells.more {t = t} is Spells.done) = record {
  other = start.Assign l.other ∷ [];
  alike = ap (λ (x : Simple). start.Assign x ∷ []) l.alike;
  is = IsForStart.assign l.is (spelled t term.Semicolon is refl);
}

start_none : {ts us vs : List Token} → Spells [] ts us → Spells (mark (codes ";") ∷ []) us vs → Like IsForStart (map (moved_start none_at)) [] ts vs
start_none Spells.done (Spells.more {t = t} is Spells.done) = record { other = []; alike = refl; is = IsForStart.none (spelled t term.Semicolon is refl) }

start_assigns : {s : Simple} {xs ys : List Token} → IsSimple s xs ys → {ts us vs : List Token} → Like IsSimple (moved_simple none_at) s ts us → Spells [] us vs → Like IsSimple (moved_simple none_at) s ts vs
start_assigns p l Spells.done = l

for_start_again : {starts : List Start} {xs ys : List Token} → IsForStart starts xs ys → {ts us vs : List Token} → Spells (printed_starts starts) ts us → Spells (mark (codes ";") ∷ []) us vs
    → Like IsForStart (map (moved_start none_at)) starts ts vs
for_start_again (IsForStart.none is) d end = start_none d end
for_start_again (IsForStart.declare {declrs = ds} p is) {ts} {us} d end =
    start_declared ds (decl_again p ts us (subst (λ (ks : List Kind). Spells ks ts us) (starts_declare ds) d)) end
for_start_again (IsForStart.assign {s = s} p is) {ts} d end =
    let a = split (printed_simple s) [] d in
    start_assigned s (start_assigns p (simple_again p ts a.middle a.front) a.back) end

test_tested : (e : Expr) {ts us vs : List Token} → Again 7 e ts us → Spells (mark (codes ";") ∷ []) us vs → Like IsForTest (option_map bare) (Some e) ts vs
test_tested e a (Spells.more {t = t} is Spells.done) = record { other = Some a.other; alike = ap (λ (x : Expr). Some x) a.alike; is = IsForTest.test a.is (spelled t term.Semicolon is refl) }

test_none : {ts us vs : List Token} → Spells [] ts us → Spells (mark (codes ";") ∷ []) us vs → Like IsForTest (option_map bare) None ts vs
test_none Spells.done (Spells.more {t = t} is Spells.done) = record { other = None; alike = refl; is = IsForTest.none (spelled t term.Semicolon is refl) }

for_test_again : (test : Option Expr) {ts us vs : List Token} → Spells (maybe (printed_expr 7) test) ts us → Spells (mark (codes ";") ∷ []) us vs → Like IsForTest (option_map bare) test ts vs
for_test_again None d end = test_none d end
for_test_again (Some e) {ts} {us} d end = test_tested e (expr_again e 7 ts us d) end

step_stepped : (s : Simple) {ts us vs : List Token} → Like IsSimple (moved_simple none_at) s ts us → Spells (mark (codes ")") ∷ []) us vs → Like IsForStep (option_map (moved_simple none_at)) (Some s) ts vs
step_stepped s l (Spells.more {t = t} is Spells.done) = record { other = Some l.other; alike = ap (λ (x : Simple). Some x) l.alike; is = IsForStep.step l.is (spelled t term.Close is refl) }

step_none : {ts us vs : List Token} → Spells [] ts us → Spells (mark (codes ")") ∷ []) us vs → Like IsForStep (option_map (moved_simple none_at)) None ts vs
step_none Spells.done (Spells.more {t = t} is Spells.done) = record { other = None; alike = refl; is = IsForStep.none (spelled t term.Close is refl) }

for_step_again : {step : Option Simple} {xs ys : List Token} → IsForStep step xs ys → {ts us vs : List Token} → Spells (maybe printed_simple step) ts us → Spells (mark (codes ")") ∷ []) us vs
    → Like IsForStep (option_map (moved_simple none_at)) step ts vs
for_step_again (IsForStep.none is) d end = step_none d end
for_step_again (IsForStep.step {s = s} p is) {ts} {us} d end = step_stepped s (simple_again p ts us d) end

head_on : (starts : List Start) (test : Option Expr) (step : Option Simple) {o : Token} {ts us vs ws : List Token} → o.kind ≡ mark (codes "(") → Like IsForStart (map (moved_start none_at)) starts ts us
    → Like IsForTest (option_map bare) test us vs → Like IsForStep (option_map (moved_simple none_at)) step vs ws
    → Like IsForHead (moved_for_head none_at) (record { start = starts; test = test; step = step }) (o ∷ ts) ws
head_on starts test step {o} opens a b c = record {
  other = record { start = a.other; test = b.other; step = c.other };
  alike =
      ap (λ (xs : List Start). record { start = xs; test = option_map bare b.other; step = option_map (moved_simple none_at) c.other }) a.alike
      ∙ ap (λ (x : Option Expr). record { start = map (moved_start none_at) starts; test = x; step = option_map (moved_simple none_at) c.other }) b.alike
      ∙ ap (λ (x : Option Simple). record { start = map (moved_start none_at) starts; test = option_map bare test; step = x }) c.alike;
  is = IsForHead.head (spelled o term.Open opens refl) a.is b.is c.is;
}

for_head_within : {starts : List Start} (test : Option Expr) {step : Option Simple} {xs ys zs ws : List Token} → IsForStart starts xs ys → IsForStep step zs ws
    → Back IsForHead (moved_for_head none_at) printed_for_head (record { start = starts; test = test; step = step })
for_head_within {starts} test {step} p q _ _ (Spells.more opens d) =
    let out = split (ended (printed_starts starts) ++ (ended (maybe (printed_expr 7) test) ++ maybe printed_simple step)) (mark (codes ")") ∷ []) d in
    let a = split (ended (printed_starts starts)) (ended (maybe (printed_expr 7) test) ++ maybe printed_simple step) out.front in
    let b = split (ended (maybe (printed_expr 7) test)) (maybe printed_simple step) a.back in
    let x = split (printed_starts starts) (mark (codes ";") ∷ []) a.front in
    let y = split (maybe (printed_expr 7) test) (mark (codes ";") ∷ []) b.front in
    head_on starts test step opens (for_start_again p x.front x.back) (for_test_again test y.front y.back) (for_step_again q b.back out.back)

pub for_head_again : {h : ForHead} {xs ys : List Token} → IsForHead h xs ys → Back IsForHead (moved_for_head none_at) printed_for_head h
for_head_again (IsForHead.head {test = test} is p q r) = for_head_within test p r

-- no item begins with `else`

operand_not_else : (x : Term) → begins_operand x ≡ true → same term.Else x ≡ false
unfolding same
operand_not_else term.Else is = absurd (cc)
operand_not_else _ is = refl

base_not_else : {b : Base} {ts us : List Token} → IsBase b ts us → sees term.Else ts ≡ false
unfolding same
base_not_else (IsBase.int {t = t} is) = ap (same term.Else) is
base_not_else (IsBase.tag {t = t} is name) = ap (same term.Else) is
base_not_else (IsBase.alias {t = t} name) = ap (same term.Else) (name_term t _ name)

decl_not_else : {ds : List Declr} {ts us : List Token} → IsDecl ds ts us → sees term.Else ts ≡ false
decl_not_else (IsDecl.decl p q) = base_not_else p

call_not_else : {c : Call} {ts us : List Token} → IsCall c ts us → sees term.Else ts ≡ false
unfolding same
call_not_else (IsCall.user {n = n} name opens p) = ap (same term.Else) (name_term n _ name)
call_not_else (IsCall.getchar is opens close) = ap (same term.Else) is
call_not_else (IsCall.putchar is opens p close) = ap (same term.Else) is
call_not_else (IsCall.printf is opens said p) = ap (same term.Else) is
call_not_else (IsCall.malloc IsCast.none is opens p close) = ap (same term.Else) is
call_not_else (IsCall.malloc (IsCast.cast bracket q star end) is opens p close) = ap (same term.Else) bracket

step_token : (x : Term) (o : Op) → step_of x ≡ Some o → same term.Else x ≡ false
unfolding same
step_token term.PlusPlus o is = refl
step_token term.MinusMinus o is = refl
step_token _ o is = absurd (cc)

place_not_else : {e : Expr} {ts us : List Token} → IsPlace e ts us → sees term.Else ts ≡ false
unfolding same
place_not_else {ts = ts} (IsPlace.post d) = operand_not_else _ (post_begins d)
place_not_else (IsPlace.deref is d) = ap (same term.Else) is

simple_not_else : {s : Simple} {ts us : List Token} → IsSimple s ts us → sees term.Else ts ≡ false
simple_not_else (IsSimple.put d is q) = place_not_else d
simple_not_else (IsSimple.change d is q) = place_not_else d
simple_not_else (IsSimple.step_behind d is) = operand_not_else _ (post_begins d)
simple_not_else (IsSimple.step_before {o = o} {t = t} is d) = step_token (term_of t) o is

item_not_else : {i : Item} {end : ℕ} {ts us : List Token} → IsItem i end ts us → sees term.Else ts ≡ false
unfolding same
item_not_else (IsItem.declare d is) = decl_not_else d
item_not_else (IsItem.assign d is) = simple_not_else d
item_not_else (IsItem.call d is) = call_not_else d
item_not_else (IsItem.nest (IsBlock.braces is d)) = ap (same term.Else) is
item_not_else (IsItem.branch is d q r) = ap (same term.Else) is
item_not_else (IsItem.while is d q) = ap (same term.Else) is
item_not_else (IsItem.for is d q) = ap (same term.Else) is
item_not_else (IsItem.break is semicolon) = ap (same term.Else) is
item_not_else (IsItem.continue is semicolon) = ap (same term.Else) is
item_not_else (IsItem.return is semicolon) = ap (same term.Else) is
item_not_else (IsItem.return_value is d semicolon) = ap (same term.Else) is

gap_not_else : {frees : List Free} {ts us : List Token} → IsGap frees ts us → sees term.Else us ≡ false → sees term.Else ts ≡ false
unfolding same
gap_not_else IsGap.done not = not
gap_not_else (IsGap.empty is d) not = ap (same term.Else) is
gap_not_else (IsGap.free (IsFree.free is opens p close end) d) not = ap (same term.Else) is

brace_not_else : (t : Token) (ts : List Token) → term_of t ≡ term.CloseBrace → sees term.Else (t ∷ ts) ≡ false
unfolding same
brace_not_else t ts is = ap (same term.Else) is

pub pieces_not_else : {pieces : List Piece} {frees : List Free} {end : ℕ} {ts us : List Token} → IsPieces pieces frees end ts us → sees term.Else ts ≡ false
pieces_not_else (IsPieces.last {t = t} {us = us} d is) = gap_not_else d (brace_not_else t us is)
pieces_not_else (IsPieces.more d p q) = gap_not_else d (item_not_else p)

pub block_not_if : {b : Block} {end : ℕ} {ts us : List Token} → IsBlock b end ts us → sees term.If ts ≡ false
unfolding same
block_not_if (IsBlock.braces is d) = ap (same term.If) is
