-- A text's tree has what the types of its program ask of its offsets and its constants.
use Rattle.std.proofs.Common.{◌≡◌, ℕ, ◌<◌, ◌≤◌, ◌^◌, Bool, true, false, nat_lt, ◌&&◌, ℤ, pos, negsuc, List, [], ◌∷◌, ◌++◌, map, length, Option, Some, None, option_map, refl, ap, sym, ◌∙◌, arith}
use Rattle.std.specs.List.{list_all}
use Rattle.std.proofs.lemmas.Bool.{ltb-false}
use Rattle.c_lexer.specs.declared.token.Tokens.{Tokens}
use Rattle.c_lexer.specs.Outcome.{AreTokens}
use Rattle.c_lexer.proofs.Order.{answered_ascend}
use Rattle.c_tree.specs.Typing.{fits, if_any}
use Rattle.c_tree.specs.WellFormed.{IsWellFormed}
use Rattle.c_tree.specs.declared.program.Program.{Program}
use Rattle.c_tree.specs.declared.tree.Arg.{Arg}
use Rattle.c_tree.specs.declared.tree.Arm.{Arm, Arm-F, roll-Arm, fold-Arm, fold-roll-Arm}
use Rattle.c_tree.specs.declared.tree.Block.{Block, Block-F, roll-Block, fold-roll-Block}
use Rattle.c_tree.specs.declared.tree.Call.{Call}
use Rattle.c_tree.specs.declared.tree.Call.TheVariants as call
use Rattle.c_tree.specs.declared.tree.Declr.{Declr}
use Rattle.c_tree.specs.declared.tree.Expr.{Expr, Expr-F, roll-Expr, map-Expr, fold-roll-Expr}
use Rattle.c_tree.specs.declared.tree.Expr.TheVariants as expr
use Rattle.c_tree.specs.declared.tree.Expr.TheOpen.{Const, Null, Var, Field, Deref, Index, Unary, Binary}
use Rattle.c_tree.specs.declared.tree.ForHead.{ForHead}
use Rattle.c_tree.specs.declared.tree.Free.{Free}
use Rattle.c_tree.specs.declared.tree.GlobalDecl.{GlobalDecl}
use Rattle.c_tree.specs.declared.tree.Item.{Item, Item-F, roll-Item, fold-Item, fold-roll-Item, map-Item}
use Rattle.c_tree.specs.declared.tree.Item.TheVariants as item
use Rattle.c_tree.specs.declared.tree.Item.TheOpen.{Declare, Assign, Do, Nest, If, While, For, Break, Continue, Return}
use Rattle.c_tree.specs.declared.tree.Piece.{Piece, Piece-F, roll-Piece, fold-Piece, fold-roll-Piece}
use Rattle.c_tree.specs.declared.tree.Right.{Right}
use Rattle.c_tree.specs.declared.tree.Right.TheVariants as right
use Rattle.c_tree.specs.declared.tree.Simple.{Simple}
use Rattle.c_tree.specs.declared.tree.Size.{Size}
use Rattle.c_tree.specs.declared.tree.Start.{Start}
use Rattle.c_tree.specs.declared.tree.Start.TheVariants as start
use Rattle.c_tree.specs.declared.tree.Top.{Top}
use Rattle.c_tree.specs.declared.tree.Top.TheVariants as top
use Rattle.c_tree.specs.declared.tree.Tree.{Tree}
use Rattle.c_parser.specs.Blocks.{gap, piece, arm}
use Rattle.c_parser.specs.Grammar.{Generates}
use Rattle.c_parser.specs.Offsets.{AllHave, AnyHas, ExprHas, ArgHas, SizeHas, CallHas, RightHas, SimpleHas, DeclrHas, FreeHas, StartHas, ForHeadHas, ItemHas, ArmsHave, BlockHas, PiecesHave, GlobalHas, TopHas, InOrder}
use Rattle.c_parser.proofs.NumbersFit.{FitsInt, answered_fit}
use Rattle.c_parser.proofs.OffsetOrder.{tops_in_order}
use Rattle.c_types.proofs.ProgramFits.{program_fits}
use Rattle.source_patcher.specs.Reads.{HasProgram}
use Rattle.c_types.specs.Offsets.{layer_stands, expr_stands, arg_stands, size_stands, call_stands, right_stands, declr_stands, simple_stands, start_stands, head_stands, free_stands, gap_stands, item_stands, arm_stands, layers_stand, piece_stands, block_stands, global_stands, top_stands, bodies_of, is_behind_all, StandsFrom, FitsText}

both : (a b : Bool) → a ≡ true → b ≡ true → (a && b) ≡ true
both true b p q = q
both false b p q = p

all_three : (a b c : Bool) → a ≡ true → b ≡ true → c ≡ true → (a && b && c) ≡ true
all_three true true c p q r = r
all_three true false c p q r = q
all_three false b c p q r = p

all_stand : {A : Type 0} (Has : A → Type 0) (test : A → Bool) → ((x : A) → Has x → test x ≡ true) → (xs : List A) → AllHave Has xs → list_all test xs ≡ true
all_stand Has test is [] h = refl
all_stand Has test is (x ∷ xs) h = both (test x) (list_all test xs) (is x h.0) (all_stand Has test is xs h.1)

any_stands : {A : Type 0} (Has : A → Type 0) (test : A → Bool) → ((x : A) → Has x → test x ≡ true) → (o : Option A) → AnyHas Has o → if_any test o ≡ true
any_stands Has test is None h = refl
any_stands Has test is (Some x) h = is x h

less_by : (b : Bool) (m n : ℕ) → nat_lt m n ≡ b → m < n → b ≡ true
less_by true m n is less = refl
less_by false m n is less = absurd (let least = ltb-false m n is in omega (arith, least, less))

is_less : (m n : ℕ) → m < n → nat_lt m n ≡ true
is_less m n less = less_by (nat_lt m n) m n refl less

fits_int : (n : ℤ) → FitsInt n → fits n ≡ true
fits_int (pos n) h = is_less n (2 ^ 31) (omega (arith, h))
fits_int (negsuc n) h = is_less n (2 ^ 31) (omega (arith, h))

module _ (behind : ℕ → Bool) (P : ℕ → Type 0) (told : (at : ℕ) → P at → behind at ≡ true) where
  expr_opened : (x : Expr-F Expr) → expr_stands behind (roll-Expr x) ≡ layer_stands behind (map-Expr Expr Bool (expr_stands behind) x)
  expr_opened = fold-roll-Expr Bool (layer_stands behind)

  expr_from : (e : Expr) → ExprHas P FitsInt e → expr_stands behind e ≡ true
  expr_from _ (ExprHas.const {n = n} {at = at} q p) = ap (expr_stands behind) (sym (expr.rolls-Const n at)) ∙ expr_opened (Const n at) ∙ fits_int n q
  expr_from _ (ExprHas.null {at = at} p) = ap (expr_stands behind) (sym (expr.rolls-Null at)) ∙ expr_opened (Null at)
  expr_from _ (ExprHas.var {w = w} p) = ap (expr_stands behind) (sym (expr.rolls-Var w)) ∙ expr_opened (Var w)
  expr_from _ (ExprHas.field {e = e} {w = w} {at = at} h q p) =
      ap (expr_stands behind) (sym (expr.rolls-Field e w at)) ∙ expr_opened (Field e w at) ∙ both (behind at) (expr_stands behind e) (told at p) (expr_from e h)
  expr_from _ (ExprHas.deref {e = e} {at = at} h p) = ap (expr_stands behind) (sym (expr.rolls-Deref e at)) ∙ expr_opened (Deref e at) ∙ expr_from e h
  expr_from _ (ExprHas.index {e = e} {i = i} {at = at} h k p) =
      ap (expr_stands behind) (sym (expr.rolls-Index e i at)) ∙ expr_opened (Index e i at) ∙ both (expr_stands behind e) (expr_stands behind i) (expr_from e h) (expr_from i k)
  expr_from _ (ExprHas.unary {s = s} {e = e} {at = at} h p) = ap (expr_stands behind) (sym (expr.rolls-Unary s e at)) ∙ expr_opened (Unary s e at) ∙ expr_from e h
  expr_from _ (ExprHas.binary {o = o} {a = a} {b = b} {at = at} h k p) =
      ap (expr_stands behind) (sym (expr.rolls-Binary o a b at)) ∙ expr_opened (Binary o a b at) ∙ both (expr_stands behind a) (expr_stands behind b) (expr_from a h) (expr_from b k)

  arg_from : (a : Arg) → ArgHas P FitsInt a → arg_stands behind a ≡ true
  arg_from a h = expr_from a.expr h.1

  args_from : (args : List Arg) → AllHave (ArgHas P FitsInt) args → list_all (arg_stands behind) args ≡ true
  args_from = all_stand (ArgHas P FitsInt) (arg_stands behind) arg_from

  size_from : (s : Size) → SizeHas P FitsInt s → size_stands behind s ≡ true
  size_from s h = any_stands (ExprHas P FitsInt) (λ e. expr_stands behind e) expr_from s.count h.2

  call_from : (c : Call) → CallHas P FitsInt c → call_stands behind c ≡ true
  call_from (call.User n args close) h = args_from args h.1
  call_from (call.Malloc cast size at) h = both (behind at) (size_stands behind size) (told at h.0) (size_from size h.2)
  call_from (call.Getchar at) h = refl
  call_from (call.Putchar x at) h = arg_from x h.1
  call_from (call.Printf text text_at args at close) h = args_from args h.2

  right_from : (r : Right) → RightHas P FitsInt r → right_stands behind r ≡ true
  right_from (right.Plain a) h = arg_from a h
  right_from (right.Call c) h = call_from c h

  declr_from : (d : Declr) → DeclrHas P FitsInt d → declr_stands behind d ≡ true
  declr_from d h = any_stands (RightHas P FitsInt) (right_stands behind) right_from d.right h.2

  simple_from : (s : Simple) → SimpleHas P FitsInt s → simple_stands behind s ≡ true
  simple_from s h = both (arg_stands behind s.place) (right_stands behind s.right) (arg_from s.place h.0) (right_from s.right h.2)

  start_from : (s : Start) → StartHas P FitsInt s → start_stands behind s ≡ true
  start_from (start.Declare d) h = declr_from d h
  start_from (start.Assign s) h = simple_from s h

  head_from : (x : ForHead) → ForHeadHas P FitsInt x → head_stands behind x ≡ true
  head_from x h =
      all_three (list_all (start_stands behind) x.start) (if_any (expr_stands behind) x.test) (if_any (simple_stands behind) x.step)
      (all_stand (StartHas P FitsInt) (start_stands behind) start_from x.start h.0)
      (any_stands (ExprHas P FitsInt) (expr_stands behind) expr_from x.test h.1)
      (any_stands (SimpleHas P FitsInt) (simple_stands behind) simple_from x.step h.2)

  free_from : (f : Free) → FreeHas P FitsInt f → free_stands behind f ≡ true
  free_from f h = arg_from f.expr h.1

  gap_from : (frees : List Free) → AllHave (FreeHas P FitsInt) frees → gap_stands behind (gap frees) ≡ true
  gap_from = all_stand (FreeHas P FitsInt) (free_stands behind) free_from

  -- blocks

  abbrev item_all : Item → Bool
  item_all = fold-Item Bool Bool Bool Bool (item_stands behind) (arm_stands behind) (layers_stand behind) (piece_stands behind)

  abbrev arm_all : Arm → Bool
  arm_all = fold-Arm Bool Bool Bool Bool (item_stands behind) (arm_stands behind) (layers_stand behind) (piece_stands behind)

  abbrev piece_all : Piece → Bool
  piece_all = fold-Piece Bool Bool Bool Bool (item_stands behind) (arm_stands behind) (layers_stand behind) (piece_stands behind)

  abbrev item_parts : Item-F Item Arm Block Piece → Item-F Bool Bool Bool Bool
  item_parts = map-Item Item Arm Block Piece Bool Bool Bool Bool item_all arm_all (block_stands behind) piece_all

  item_opened : (x : Item-F Item Arm Block Piece) → item_all (roll-Item x) ≡ item_stands behind (item_parts x)
  item_opened = fold-roll-Item Bool Bool Bool Bool (item_stands behind) (arm_stands behind) (layers_stand behind) (piece_stands behind)

  arm_opened : (x : Arm-F Item Arm Block Piece) → arm_all (roll-Arm x) ≡ (expr_stands behind x.test && block_stands behind x.body)
  arm_opened = fold-roll-Arm Bool Bool Bool Bool (item_stands behind) (arm_stands behind) (layers_stand behind) (piece_stands behind)

  block_opened : (x : Block-F Item Arm Block Piece) → block_stands behind (roll-Block x) ≡ (list_all (λ p. p) (map piece_all x.items) && gap_stands behind x.last_gap)
  block_opened = fold-roll-Block Bool Bool Bool Bool (item_stands behind) (arm_stands behind) (layers_stand behind) (piece_stands behind)

  piece_opened : (x : Piece-F Item Arm Block Piece) → piece_all (roll-Piece x) ≡ (gap_stands behind x.gap && item_all x.item)
  piece_opened = fold-roll-Piece Bool Bool Bool Bool (item_stands behind) (arm_stands behind) (layers_stand behind) (piece_stands behind)

  abbrev arms_stand : List Arm → Option Block → Bool
  arms_stand arms last = list_all (λ b. b) (map arm_all arms) && if_any (λ b. b) (option_map (block_stands behind) last)

  if_parts : (arms : List Arm) (last : Option Block) → item_stands behind (item_parts (If arms last)) ≡ arms_stand arms last
  if_parts arms None = refl
  if_parts arms (Some b) = refl

  more_first : (a b c : Bool) → a ≡ true → (b && c) ≡ true → ((a && b) && c) ≡ true
  more_first true b c p q = q
  more_first false b c p q = p

  mutual
    item_from : (i : Item) → ItemHas P FitsInt i → item_all i ≡ true
    item_from _ (ItemHas.declare {ds = ds} h) =
        ap item_all (sym (item.rolls-Declare ds)) ∙ item_opened (Declare ds) ∙ all_stand (DeclrHas P FitsInt) (declr_stands behind) declr_from ds h
    item_from _ (ItemHas.assign {s = s} h) = ap item_all (sym (item.rolls-Assign s)) ∙ item_opened (Assign s) ∙ simple_from s h
    item_from _ (ItemHas.does {c = c} h) = ap item_all (sym (item.rolls-Do c)) ∙ item_opened (Do c) ∙ call_from c h
    item_from _ (ItemHas.nest {b = b} h) = ap item_all (sym (item.rolls-Nest b)) ∙ item_opened (Nest b) ∙ block_from b h
    item_from _ (ItemHas.branch {arms = arms} {last = last} h) = ap item_all (sym (item.rolls-If arms last)) ∙ item_opened (If arms last) ∙ if_parts arms last ∙ arms_from arms last h
    item_from _ (ItemHas.while {e = e} {b = b} h k) =
        ap item_all (sym (item.rolls-While e b)) ∙ item_opened (While e b) ∙ both (expr_stands behind e) (block_stands behind b) (expr_from e h) (block_from b k)
    item_from _ (ItemHas.for {h = x} {b = b} h k) =
        ap item_all (sym (item.rolls-For x b)) ∙ item_opened (For x b) ∙ both (head_stands behind x) (block_stands behind b) (head_from x h) (block_from b k)
    item_from _ ItemHas.break = ap item_all (sym item.rolls-Break) ∙ item_opened Break
    item_from _ ItemHas.continue = ap item_all (sym item.rolls-Continue) ∙ item_opened Continue
    item_from _ (ItemHas.return {r = r} {at = at} h p) =
        ap item_all (sym (item.rolls-Return r at)) ∙ item_opened (Return r at) ∙ any_stands (RightHas P FitsInt) (right_stands behind) right_from r h

    arms_from : (arms : List Arm) (last : Option Block) → ArmsHave P FitsInt arms last → arms_stand arms last ≡ true
    arms_from _ _ ArmsHave.no_arm = refl
    arms_from _ _ (ArmsHave.otherwise {b = b} h) = block_from b h
    arms_from _ _ (ArmsHave.more_arms {e = e} {b = b} {arms = arms} {last = last} h k others) =
        more_first (arm_all (arm e b)) (list_all (λ b. b) (map arm_all arms)) (if_any (λ b. b) (option_map (block_stands behind) last))
        (arm_opened (record { test = e; body = b }) ∙ both (expr_stands behind e) (block_stands behind b) (expr_from e h) (block_from b k)) (arms_from arms last others)

    block_from : (b : Block) → BlockHas P FitsInt b → block_stands behind b ≡ true
    block_from _ (BlockHas.parts {pieces = pieces} frees braced begin end h k p) =
        block_opened (record { items = pieces; last_gap = gap frees; braced = braced; start = begin; end = end })
        ∙ both (list_all (λ p. p) (map piece_all pieces)) (gap_stands behind (gap frees)) (pieces_from pieces h) (gap_from frees k)

    pieces_from : (pieces : List Piece) → PiecesHave P FitsInt pieces → list_all (λ p. p) (map piece_all pieces) ≡ true
    pieces_from _ PiecesHave.no_piece = refl
    pieces_from _ (PiecesHave.more_pieces frees {i = i} begin end {pieces = pieces} h k p others) =
        both (piece_all (piece frees i begin end)) (list_all (λ p. p) (map piece_all pieces))
        (piece_opened (record { gap = gap frees; item = i; start = begin; end = end }) ∙ both (gap_stands behind (gap frees)) (item_all i) (gap_from frees h) (item_from i k)) (pieces_from pieces others)

  global_from : (g : GlobalDecl) → GlobalHas P FitsInt g → global_stands behind g ≡ true
  global_from g h = any_stands (ExprHas P FitsInt) (expr_stands behind) expr_from g.value h.2

  top_from : (x : Top) → TopHas P FitsInt x → top_stands behind x ≡ true
  top_from (top.Struct tag body alias) h = refl
  top_from (top.Globals ds) h = all_stand (GlobalHas P FitsInt) (global_stands behind) global_from ds h
  top_from (top.Proto x) h = refl
  top_from (top.Fun x body) h = block_from body h.1

-- the bodies so far stand before an offset

abbrev AllBelow : ℕ → List ℕ → Type 0
AllBelow from [] = Unit {0}
AllBelow from (b ∷ bodies) = (b < from) × AllBelow from bodies

below_all : (from at : ℕ) (bodies : List ℕ) → AllBelow from bodies → from ≤ at → is_behind_all bodies at ≡ true
below_all from at [] below on = refl
below_all from at (b ∷ bodies) below on = both (nat_lt b at) (is_behind_all bodies at) (is_less b at (let less = below.0 in omega (arith, less, on))) (below_all from at bodies below.1 on)

below_both : (from to : ℕ) (bodies more : List ℕ) → from ≤ to → AllBelow from bodies → AllBelow to more → AllBelow to (bodies ++ more)
below_both from to [] more on below also = also
below_both from to (b ∷ bodies) more on below also = ((let less = below.0 in omega (arith, less, on)), below_both from to bodies more on below.1 also)

bodies_below : (from to : ℕ) (x : Top) → TopHas (λ at. (from ≤ at) × (at < to)) FitsInt x → AllBelow to (bodies_of x)
bodies_below from to (top.Struct tag (Some body) alias) h = (h.1.0.1, tt)
bodies_below from to (top.Struct tag None alias) h = tt
bodies_below from to (top.Globals ds) h = tt
bodies_below from to (top.Proto x) h = tt
bodies_below from to (top.Fun x body) h = tt

stands_from : (from : ℕ) (tops : List Top) → InOrder FitsInt from tops → (bodies : List ℕ) → AllBelow from bodies → StandsFrom bodies tops
stands_from _ _ InOrder.ended bodies below = tt
stands_from _ _ (InOrder.more {from = from} {to = to} {x = x} {others = others} on h rest) bodies below = (
  top_from (is_behind_all bodies) (λ at. (from ≤ at) × (at < to)) (λ at within. below_all from at bodies below within.0) x h,
  stands_from to others rest (bodies ++ bodies_of x) (below_both from to bodies (bodies_of x) on below (bodies_below from to x h)),
)

pub text_fits : (bytes : List ℕ) (tokens : Tokens) (tree : Tree) → AreTokens bytes tokens → Generates tree tokens → FitsText tree
text_fits bytes tokens tree are generates =
    stands_from 0 tree.tops
    (tops_in_order FitsInt (omega arith) (omega arith) generates.file 0 (length bytes) (answered_ascend bytes tokens are) (answered_fit bytes tokens are)) [] tt

-- so a text's program is well formed
pub text_well_formed : (bytes : List ℕ) (tokens : Tokens) (p : Program) → AreTokens bytes tokens → HasProgram tokens p → IsWellFormed p
text_well_formed bytes tokens p are has = program_fits has.tree p has.program has.acyclic (text_fits bytes tokens has.tree are has.generates)
