-- What is printed of a block opens the fewest parentheses.
use Rattle.std.proofs.Common.{◌≡◌, ℕ, ◌+◌, ◌≤◌, Bool, true, false, List, [], ◌∷◌, ◌++◌, map, codes, Option, Some, None, option_map, refl, ap, ◌∙◌, arith}
use Rattle.c_lexer.specs.declared.token.Token.{Token}
use Rattle.c_lexer.specs.declared.token.Kind.{Kind}
use Rattle.c_tree.specs.declared.tree.Arg.{Arg}
use Rattle.c_tree.specs.declared.tree.Arm.{Arm}
use Rattle.c_tree.specs.declared.tree.Block.{Block}
use Rattle.c_tree.specs.declared.tree.Call.{Call}
use Rattle.c_tree.specs.declared.tree.Declr.{Declr}
use Rattle.c_tree.specs.declared.tree.Expr.{Expr}
use Rattle.c_tree.specs.declared.tree.ForHead.{ForHead}
use Rattle.c_tree.specs.declared.tree.Free.{Free}
use Rattle.c_tree.specs.declared.tree.Item.{Item}
use Rattle.c_tree.specs.declared.tree.Item.TheVariants as item
use Rattle.c_tree.specs.declared.tree.Piece.{Piece}
use Rattle.c_tree.specs.declared.tree.Right.{Right}
use Rattle.c_tree.specs.declared.tree.Simple.{Simple}
use Rattle.c_tree.specs.declared.tree.Start.{Start}
use Rattle.c_parser.specs.Term.{same}
use Rattle.c_parser.specs.Blocks.{IsFree, IsGap, IsTest, IsForStart, IsForTest, IsForStep, IsForHead, IsItem, IsElse, IsBody, IsBlock, IsPieces, piece, arm, block}
use Rattle.c_parser.specs.Printed.{key, mark, each, maybe, within, ended, printed_expr, printed_arg, printed_call, printed_right, printed_simple, printed_decl, printed_starts, printed_free, printed_test, printed_for_head, printed_other_arm, printed_arms, printed_else, printed_item, printed_arm, printed_block, printed_piece}
use Rattle.c_parser.proofs.Spelled.{opens, opens_both, opens_within, tally, tally_behind, tally_open}
use Rattle.c_parser.proofs.FewestExpressions.{level_fewest, arg_fewest}
use Rattle.c_parser.proofs.FewestStatements.{call_fewest, right_fewest, simple_fewest, decl_fewest}
use Rattle.c_parser.proofs.PrintedBlocks.{starts_declare}
use Rattle.c_parser.proofs.OpenedBlocks.{print_declare, print_assign, print_call, print_nest, print_if, print_while, print_for, print_break, print_continue, print_return, print_arm, print_piece, print_block}

pub opens_ended : (ks : List Kind) → opens (ended ks) ≡ opens ks
unfolding same
opens_ended ks = let both = opens_both ks (mark (codes ";") ∷ []) in omega (arith, both)

opens_free : (a : Arg) → opens (key (codes "free") ∷ within (printed_arg a)) ≡ 1 + opens (printed_arg a)
unfolding same
opens_free a = opens_within (printed_arg a)

free_fewest : {f : Free} {ts us : List Token} → IsFree f ts us → opens (printed_free f) + tally us ≤ tally ts
free_fewest (IsFree.free {t = t} {o = o} {c = c} {s = s} {a = a} {ts = ts} {us = us} is opening p close end) =
    let all = opens_ended (key (codes "free") ∷ within (printed_arg a)) in
    let one = opens_free a in
    let here = arg_fewest p in
    let bracket = tally_open o ts opening in
    let first = tally_behind t (o ∷ ts) in
    let last = tally_behind s us in
    let shut = tally_behind c (s ∷ us) in
    omega (arith, all, one, here, bracket, first, last, shut)

gap_fewest : {frees : List Free} {ts us : List Token} → IsGap frees ts us → opens (each printed_free frees) + tally us ≤ tally ts
gap_fewest IsGap.done = omega arith
gap_fewest (IsGap.empty {t = t} {ts = ts} is d) = let rest = gap_fewest d in let token = tally_behind t ts in omega (arith, rest, token)
gap_fewest (IsGap.free {f = f} {frees = frees} p d) =
    let both = opens_both (printed_free f) (each printed_free frees) in
    let here = free_fewest p in
    let rest = gap_fewest d in
    omega (arith, both, here, rest)

test_fewest : {e : Expr} {ts us : List Token} → IsTest e ts us → opens (printed_test e) + tally us ≤ tally ts
test_fewest (IsTest.test {o = o} {c = c} {e = e} {ts = ts} {us = us} is p close) =
    let one = opens_within (printed_expr 7 e) in
    let here = level_fewest p in
    let bracket = tally_open o ts is in
    let shut = tally_behind c us in
    omega (arith, one, here, bracket, shut)

for_start_fewest : {starts : List Start} {ts us : List Token} → IsForStart starts ts us → opens (printed_starts starts) + tally us ≤ tally ts
for_start_fewest (IsForStart.none {t = t} {ts = ts} is) = let token = tally_behind t ts in omega (arith, token)
for_start_fewest (IsForStart.declare {declrs = ds} {t = t} {us = us} p is) =
    let same = ap opens (starts_declare ds) in
    let here = decl_fewest p in
    let token = tally_behind t us in
    omega (arith, same, here, token)
for_start_fewest (IsForStart.assign {s = s} {t = t} {us = us} p is) =
    let both = opens_both (printed_simple s) [] in
    let here = simple_fewest p in
    let token = tally_behind t us in
    omega (arith, both, here, token)

for_test_fewest : {test : Option Expr} {ts us : List Token} → IsForTest test ts us → opens (maybe (printed_expr 7) test) + tally us ≤ tally ts
for_test_fewest (IsForTest.none {t = t} {ts = ts} is) = let token = tally_behind t ts in omega (arith, token)
for_test_fewest (IsForTest.test {t = t} {us = us} p is) = let here = level_fewest p in let token = tally_behind t us in omega (arith, here, token)

for_step_fewest : {step : Option Simple} {ts us : List Token} → IsForStep step ts us → opens (maybe printed_simple step) + tally us ≤ tally ts
for_step_fewest (IsForStep.none {t = t} {ts = ts} is) = let token = tally_behind t ts in omega (arith, token)
for_step_fewest (IsForStep.step {t = t} {us = us} p is) = let here = simple_fewest p in let token = tally_behind t us in omega (arith, here, token)

for_head_fewest : {h : ForHead} {ts us : List Token} → IsForHead h ts us → opens (printed_for_head h) + tally us ≤ tally ts
for_head_fewest (IsForHead.head {o = o} {starts = starts} {test = test} {step = step} {ts = ts} is p q r) =
    let one = opens_within (ended (printed_starts starts) ++ (ended (maybe (printed_expr 7) test) ++ maybe printed_simple step)) in
    let both = opens_both (ended (printed_starts starts)) (ended (maybe (printed_expr 7) test) ++ maybe printed_simple step) in
    let rest = opens_both (ended (maybe (printed_expr 7) test)) (maybe printed_simple step) in
    let first = opens_ended (printed_starts starts) in
    let second = opens_ended (maybe (printed_expr 7) test) in
    let a = for_start_fewest p in
    let b = for_test_fewest q in
    let c = for_step_fewest r in
    let bracket = tally_open o ts is in
    omega (arith, one, both, rest, first, second, a, b, c, bracket)

-- how many each item opens

opens_declare : (ds : List Declr) → opens (printed_item (item.Declare ds)) ≡ opens (printed_decl ds)
opens_declare ds = ap opens (print_declare ds) ∙ opens_ended (printed_decl ds)

opens_assign : (s : Simple) → opens (printed_item (item.Assign s)) ≡ opens (printed_simple s)
opens_assign s = ap opens (print_assign s) ∙ opens_ended (printed_simple s)

opens_call : (c : Call) → opens (printed_item (item.Do c)) ≡ opens (printed_call c)
opens_call c = ap opens (print_call c) ∙ opens_ended (printed_call c)

opens_arm : (e : Expr) (b : Block) → opens (printed_arm (arm e b)) ≡ opens (printed_test e) + opens (printed_block b)
opens_arm e b = ap opens (print_arm e b) ∙ opens_both (printed_test e) (printed_block b)

opens_first : (ks : List Kind) → opens (key (codes "if") ∷ ks) ≡ opens ks
unfolding same
opens_first ks = refl

opens_other : (ks ls : List Kind) → opens (printed_other_arm ks ++ ls) ≡ opens ks + opens ls
unfolding same
opens_other ks ls = opens_both ks ls

opens_else : (ks : List Kind) → opens (printed_else ks) ≡ opens ks
unfolding same
opens_else ks = refl

abbrev arms_open : List Arm → Option Block → ℕ
arms_open arms last = opens (each printed_other_arm (map printed_arm arms)) + opens (maybe printed_else (option_map printed_block last))

opens_if : (e : Expr) (b : Block) (arms : List Arm) (last : Option Block)
    → opens (printed_item (item.If (arm e b ∷ arms) last)) ≡ (opens (printed_test e) + opens (printed_block b)) + arms_open arms last
opens_if e b arms last =
    let all = ap opens (print_if (arm e b ∷ arms) last) in
    let both = opens_both (printed_arms (map printed_arm (arm e b ∷ arms))) (maybe printed_else (option_map printed_block last)) in
    let first = opens_first (printed_arm (arm e b) ++ each printed_other_arm (map printed_arm arms)) in
    let rest = opens_both (printed_arm (arm e b)) (each printed_other_arm (map printed_arm arms)) in
    let one = opens_arm e b in
    omega (arith, all, both, first, rest, one)

opens_while : (e : Expr) (b : Block) → opens (printed_item (item.While e b)) ≡ opens (printed_test e) + opens (printed_block b)
unfolding same
opens_while e b = ap opens (print_while e b) ∙ opens_both (printed_test e) (printed_block b)

opens_for : (h : ForHead) (b : Block) → opens (printed_item (item.For h b)) ≡ opens (printed_for_head h) + opens (printed_block b)
unfolding same
opens_for h b = ap opens (print_for h b) ∙ opens_both (printed_for_head h) (printed_block b)

opens_break : opens (printed_item item.Break) ≡ 0
unfolding same
opens_break = ap opens print_break

opens_continue : opens (printed_item item.Continue) ≡ 0
unfolding same
opens_continue = ap opens print_continue

opens_return : (r : Option Right) (at : ℕ) → opens (printed_item (item.Return r at)) ≡ opens (maybe printed_right r)
unfolding same
opens_return r at = ap opens (print_return r at) ∙ opens_ended (key (codes "return") ∷ maybe printed_right r)

opens_piece : (frees : List Free) (i : Item) (start end : ℕ) → opens (printed_piece (piece frees i start end)) ≡ opens (each printed_free frees) + opens (printed_item i)
opens_piece frees i start end = ap opens (print_piece frees i start end) ∙ opens_both (each printed_free frees) (printed_item i)

opens_brace : (ks : List Kind) → opens (mark (codes "{") ∷ ks) ≡ opens ks
unfolding same
opens_brace ks = refl

pub opens_shut : (ks : List Kind) → opens (ks ++ mark (codes "}") ∷ []) ≡ opens ks
unfolding same
opens_shut ks = let both = opens_both ks (mark (codes "}") ∷ []) in omega (arith, both)

opens_block : (pieces : List Piece) (frees : List Free) (braced : Bool) (start end : ℕ)
    → opens (printed_block (block pieces frees braced start end)) ≡ opens (each printed_piece pieces) + opens (each printed_free frees)
opens_block pieces frees braced start end =
    let all = ap opens (print_block pieces frees braced start end) in
    let brace = opens_brace (each printed_piece pieces ++ (each printed_free frees ++ mark (codes "}") ∷ [])) in
    let both = opens_both (each printed_piece pieces) (each printed_free frees ++ mark (codes "}") ∷ []) in
    let shut = opens_shut (each printed_free frees) in
    omega (arith, all, brace, both, shut)

mutual
  item_fewest : {i : Item} {end : ℕ} {ts us : List Token} → IsItem i end ts us → opens (printed_item i) + tally us ≤ tally ts
  item_fewest (IsItem.declare {declrs = ds} {t = t} {us = us} p is) =
      let all = opens_declare ds in let here = decl_fewest p in let token = tally_behind t us in omega (arith, all, here, token)
  item_fewest (IsItem.assign {s = s} {t = t} {us = us} p is) =
      let all = opens_assign s in let here = simple_fewest p in let token = tally_behind t us in omega (arith, all, here, token)
  item_fewest (IsItem.call {c = c} {t = t} {us = us} p is) =
      let all = opens_call c in let here = call_fewest p in let token = tally_behind t us in omega (arith, all, here, token)
  item_fewest (IsItem.nest {b = b} p) = let all = ap opens (print_nest b) in let here = block_fewest p in omega (arith, all, here)
  item_fewest (IsItem.branch {t = t} {e = e} {b = b} {arms = arms} {last = last} {ts = ts} is q p r) =
      let all = opens_if e b arms last in
      let test = test_fewest q in
      let here = body_fewest p in
      let rest = else_fewest r in
      let token = tally_behind t ts in
      omega (arith, all, test, here, rest, token)
  item_fewest (IsItem.while {t = t} {e = e} {b = b} {ts = ts} is q p) =
      let all = opens_while e b in
      let test = test_fewest q in
      let here = body_fewest p in
      let token = tally_behind t ts in
      omega (arith, all, test, here, token)
  item_fewest (IsItem.for {t = t} {h = h} {b = b} {ts = ts} is q p) =
      let all = opens_for h b in
      let front = for_head_fewest q in
      let here = body_fewest p in
      let token = tally_behind t ts in
      omega (arith, all, front, here, token)
  item_fewest (IsItem.break {t = t} {s = s} {ts = ts} is end) =
      let none = opens_break in let last = tally_behind s ts in let token = tally_behind t (s ∷ ts) in omega (arith, none, last, token)
  item_fewest (IsItem.continue {t = t} {s = s} {ts = ts} is end) =
      let none = opens_continue in let last = tally_behind s ts in let token = tally_behind t (s ∷ ts) in omega (arith, none, last, token)
  item_fewest (IsItem.return {t = t} {s = s} {ts = ts} is end) =
      let none = opens_return None t.start in let last = tally_behind s ts in let token = tally_behind t (s ∷ ts) in omega (arith, none, last, token)
  item_fewest (IsItem.return_value {t = t} {s = s} {r = r} {ts = ts} {us = us} is p end) =
      let all = opens_return (Some r) t.start in
      let here = right_fewest p in
      let last = tally_behind s us in
      let token = tally_behind t ts in
      omega (arith, all, here, last, token)

  else_fewest : {arms : List Arm} {last : Option Block} {before end : ℕ} {ts us : List Token} → IsElse arms last before end ts us → arms_open arms last + tally us ≤ tally ts
  else_fewest (IsElse.none not) = omega arith
  else_fewest (IsElse.else_if {t = t} {i = i} {e = e} {b = b} {arms = arms} {last = last} {ts = ts} is also q p r) =
      let both = opens_other (printed_arm (arm e b)) (each printed_other_arm (map printed_arm arms)) in
      let one = opens_arm e b in
      let test = test_fewest q in
      let here = body_fewest p in
      let rest = else_fewest r in
      let second = tally_behind i ts in
      let token = tally_behind t (i ∷ ts) in
      omega (arith, both, one, test, here, rest, second, token)
  else_fewest (IsElse.otherwise {t = t} {b = b} {ts = ts} is not p) =
      let one = opens_else (printed_block b) in
      let here = body_fewest p in
      let token = tally_behind t ts in
      omega (arith, one, here, token)

  body_fewest : {b : Block} {end : ℕ} {ts us : List Token} → IsBody b end ts us → opens (printed_block b) + tally us ≤ tally ts
  body_fewest (IsBody.braced p) = block_fewest p
  body_fewest (IsBody.unbraced {t = t} {i = i} {end = end} not p) =
      let all = opens_block (piece [] i t.start end ∷ []) [] false t.start end in
      let both = opens_both (printed_piece (piece [] i t.start end)) [] in
      let one = opens_piece [] i t.start end in
      let here = item_fewest p in
      omega (arith, all, both, one, here)
  body_fewest (IsBody.free {f = f} p) =
      let all = opens_block [] (f ∷ []) false f.start f.end in
      let both = opens_both (printed_free f) [] in
      let here = free_fewest p in
      omega (arith, all, both, here)
  body_fewest (IsBody.empty {t = t} {ts = ts} is) =
      let all = opens_block [] [] false t.start t.end in
      let token = tally_behind t ts in
      omega (arith, all, token)

  pub block_fewest : {b : Block} {end : ℕ} {ts us : List Token} → IsBlock b end ts us → opens (printed_block b) + tally us ≤ tally ts
  block_fewest (IsBlock.braces {t = t} {pieces = pieces} {frees = frees} {end = end} {ts = ts} is p) =
      let all = opens_block pieces frees true t.start end in
      let here = pieces_fewest p in
      let token = tally_behind t ts in
      omega (arith, all, here, token)

  pieces_fewest : {pieces : List Piece} {frees : List Free} {end : ℕ} {ts us : List Token} → IsPieces pieces frees end ts us
      → (opens (each printed_piece pieces) + opens (each printed_free frees)) + tally us ≤ tally ts
  pieces_fewest (IsPieces.last {t = t} {us = us} g is) = let here = gap_fewest g in let token = tally_behind t us in omega (arith, here, token)
  pieces_fewest (IsPieces.more {t = t} {gap_frees = gap_frees} {i = i} {others = others} {end = end} g p r) =
      let both = opens_both (printed_piece (piece gap_frees i t.start end)) (each printed_piece others) in
      let one = opens_piece gap_frees i t.start end in
      let front = gap_fewest g in
      let here = item_fewest p in
      let rest = pieces_fewest r in
      omega (arith, both, one, front, here, rest)
