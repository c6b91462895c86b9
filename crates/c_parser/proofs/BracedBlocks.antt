-- What is printed of a block is read as one alike it in which each body has braces.
use Rattle.std.proofs.Common.{◌≡◌, ℕ, Bool, true, false, List, [], ◌∷◌, ◌++◌, map, codes, Option, Some, None, option_map, refl, ap, sym, subst, ◌∙◌, append_assoc, arith}
use Rattle.c_lexer.specs.declared.token.Token.{Token}
use Rattle.c_lexer.specs.declared.token.Kind.{Kind}
use Rattle.c_tree.specs.declared.tree.Arm.{Arm}
use Rattle.c_tree.specs.declared.tree.Block.{Block}
use Rattle.c_tree.specs.declared.tree.Call.{Call}
use Rattle.c_tree.specs.declared.tree.Declr.{Declr}
use Rattle.c_tree.specs.declared.tree.Expr.{Expr}
use Rattle.c_tree.specs.declared.tree.ForHead.{ForHead}
use Rattle.c_tree.specs.declared.tree.Free.{Free}
use Rattle.c_tree.specs.declared.tree.Item.{Item}
use Rattle.c_tree.specs.declared.tree.Item.TheVariants as item
use Rattle.c_tree.specs.declared.tree.Piece.{Piece}
use Rattle.c_tree.specs.declared.tree.Right.{Right}
use Rattle.c_tree.specs.declared.tree.Simple.{Simple}
use Rattle.c_parser.specs.declared.term.Term.TheVariants as term
use Rattle.c_parser.specs.Term.{same, sees}
use Rattle.c_parser.specs.Statements.{IsCall, IsRight, IsSimple, IsDecl}
use Rattle.c_parser.specs.Blocks.{IsGap, IsTest, IsForHead, IsItem, IsElse, IsBody, IsBlock, IsPieces, piece, arm, block}
use Rattle.c_parser.specs.Alike.{moved_call, moved_right, moved_declr, moved_simple, moved_for_head, moved_free, moved_block}
use Rattle.c_parser.specs.Printed.{key, mark, each, maybe, ended, printed_call, printed_right, printed_simple, printed_decl, printed_free, printed_test, printed_for_head, printed_other_arm, printed_arms, printed_else, printed_item, printed_arm, printed_block, printed_piece}
use Rattle.c_parser.proofs.Shorter.{item_shorter}
use Rattle.c_parser.proofs.Spelled.{Spells, split, spelled}
use Rattle.c_parser.proofs.PrintedExpressions.{bare}
use Rattle.c_parser.proofs.PrintedStatements.{Like, none_at, call_again, right_again, simple_again, decl_again}
use Rattle.c_parser.proofs.MovedParts.{same_at, all_stay, expr_stays, call_stays, right_stays, declr_stays, simple_stays, for_head_stays, free_stays}
use Rattle.c_parser.proofs.PrintedBlocks.{gap_again, test_again, for_head_again, pieces_not_else, block_not_if}
use Rattle.c_parser.proofs.OpenedBlocks.{item_moved, arm_moved, piece_moved, declare_moved, assign_moved, call_moved, nest_moved, if_moved, while_moved, for_moved, break_moved, continue_moved, return_moved, arm_of_moved, piece_of_moved, block_of_moved, print_declare, print_assign, print_call, print_nest, print_if, print_while, print_for, print_break, print_continue, print_return, print_arm, print_piece, print_block}

-- these tokens are of something alike x in which each body has braces
pub record Braced {X : Type 0} (Is : X → List Token → List Token → Type 0) (unplaced braced : X → X) (x : X) (ts us : List Token) : Type 0 where
  pub other : X
  pub alike : unplaced other ≡ unplaced x
  pub braces : braced other ≡ other
  pub is : Is other ts us

abbrev pub no_braces : Bool → Bool
no_braces b = false

abbrev pub all_braces : Bool → Bool
all_braces b = true

abbrev pub bare_block : Block → Block
bare_block = moved_block none_at no_braces

abbrev pub braced_block : Block → Block
braced_block = moved_block same_at all_braces

abbrev bare_item : Item → Item
bare_item = item_moved none_at no_braces

abbrev braced_item : Item → Item
braced_item = item_moved same_at all_braces

abbrev IsItemAt : Item → List Token → List Token → Type 0
IsItemAt i ts us = (end : ℕ) × IsItem i end ts us

abbrev pub IsBlockAt : Block → List Token → List Token → Type 0
IsBlockAt b ts us = (end : ℕ) × IsBlock b end ts us

abbrev ItemIs : Item → List Token → List Token → Type 0
ItemIs = Braced IsItemAt bare_item braced_item

abbrev pub BlockIs : Block → List Token → List Token → Type 0
BlockIs = Braced IsBlockAt bare_block braced_block

abbrev ItemBack : Item → Type 0
ItemBack i = (ts us : List Token) → sees term.Else us ≡ false → Spells (printed_item i) ts us → ItemIs i ts us

abbrev pub BlockBack : Block → Type 0
BlockBack b = (ts us : List Token) → Spells (printed_block b) ts us → BlockIs b ts us

-- the pieces of a block, and the arms behind the first, in the same way

record Pieces (pieces : List Piece) (frees : List Free) (ts us : List Token) : Type 0 where
  others : List Piece
  other_frees : List Free
  end : ℕ
  alike : map (piece_moved none_at no_braces) others ≡ map (piece_moved none_at no_braces) pieces
  alike_frees : map (moved_free none_at) other_frees ≡ map (moved_free none_at) frees
  braces : map (piece_moved same_at all_braces) others ≡ others
  is : IsPieces others other_frees end ts us

abbrev printed_pieces : List Piece → List Free → List Kind
printed_pieces pieces frees = each printed_piece pieces ++ (each printed_free frees ++ mark (codes "}") ∷ [])

abbrev PiecesBack : List Piece → List Free → Type 0
PiecesBack pieces frees = (ts us : List Token) → Spells (printed_pieces pieces frees) ts us → Pieces pieces frees ts us

record Arms (arms : List Arm) (last : Option Block) (before : ℕ) (ts us : List Token) : Type 0 where
  others : List Arm
  final : Option Block
  end : ℕ
  alike : map (arm_moved none_at no_braces) others ≡ map (arm_moved none_at no_braces) arms
  alike_last : option_map bare_block final ≡ option_map bare_block last
  braces : map (arm_moved same_at all_braces) others ≡ others
  braces_last : option_map braced_block final ≡ final
  is : IsElse others final before end ts us

abbrev ArmsBack : List Arm → Option Block → Type 0
ArmsBack arms last = (before : ℕ) (ts us vs : List Token) → sees term.Else vs ≡ false → Spells (each printed_other_arm (map printed_arm arms)) ts us
    → Spells (maybe printed_else (option_map printed_block last)) us vs → Arms arms last before ts vs

-- pieces

last_piece : (frees : List Free) {ts us vs : List Token} → Like IsGap (map (moved_free none_at)) frees ts us → Spells (mark (codes "}") ∷ []) us vs → Pieces [] frees ts vs
last_piece frees l (Spells.more {t = t} is Spells.done) =
    record { others = []; other_frees = l.other; end = t.end; alike = refl; alike_frees = l.alike; braces = refl; is = IsPieces.last l.is (spelled t term.CloseBrace is refl) }

pieces_last : (frees : List Free) → PiecesBack [] frees
pieces_last frees ts us d =
    let s = split (each printed_free frees) (mark (codes "}") ∷ []) d in
    last_piece frees (gap_again frees s.front) s.back

more_pieces : (gap_frees : List Free) (i : Item) (start end : ℕ) (others : List Piece) (frees : List Free) {ts vs ws : List Token} (us : List Token)
    → Like IsGap (map (moved_free none_at)) gap_frees ts us → ItemIs i us vs → Pieces others frees vs ws → Pieces (piece gap_frees i start end ∷ others) frees ts ws
more_pieces gap_frees i start end others frees [] l x rest = absurd (let less = item_shorter x.is.1 in omega (arith, less))
more_pieces gap_frees i start end others frees (t ∷ us) l x rest = record {
  others = piece l.other x.other t.start x.is.0 ∷ rest.others;
  other_frees = rest.other_frees;
  end = rest.end;
  alike =
      ap (λ (p : Piece). p ∷ map (piece_moved none_at no_braces) rest.others) (piece_of_moved none_at no_braces l.other x.other t.start x.is.0)
      ∙ ap (λ (fs : List Free). piece fs (bare_item x.other) 0 0 ∷ map (piece_moved none_at no_braces) rest.others) l.alike
      ∙ ap (λ (j : Item). piece (map (moved_free none_at) gap_frees) j 0 0 ∷ map (piece_moved none_at no_braces) rest.others) x.alike
      ∙ ap (λ (p : Piece). p ∷ map (piece_moved none_at no_braces) rest.others) (sym (piece_of_moved none_at no_braces gap_frees i start end))
      ∙ ap (λ (ps : List Piece). piece_moved none_at no_braces (piece gap_frees i start end) ∷ ps) rest.alike;
  alike_frees = rest.alike_frees;
  braces =
      ap (λ (p : Piece). p ∷ map (piece_moved same_at all_braces) rest.others) (piece_of_moved same_at all_braces l.other x.other t.start x.is.0)
      ∙ ap (λ (fs : List Free). piece fs (braced_item x.other) t.start x.is.0 ∷ map (piece_moved same_at all_braces) rest.others) (all_stay (moved_free same_at) free_stays l.other)
      ∙ ap (λ (j : Item). piece l.other j t.start x.is.0 ∷ map (piece_moved same_at all_braces) rest.others) x.braces
      ∙ ap (λ (ps : List Piece). piece l.other x.other t.start x.is.0 ∷ ps) rest.braces;
  is = IsPieces.more l.is x.is.1 rest.is;
}

pieces_more : (gap_frees : List Free) (i : Item) (start end : ℕ) (others : List Piece) (frees : List Free) → ItemBack i → PiecesBack others frees → PiecesBack (piece gap_frees i start end ∷ others) frees
pieces_more gap_frees i start end others frees item_back pieces_back ts us d =
    let assoc = append_assoc (printed_piece (piece gap_frees i start end)) (each printed_piece others) (each printed_free frees ++ mark (codes "}") ∷ []) in
    let out = split (printed_piece (piece gap_frees i start end)) (printed_pieces others frees) (subst (λ (ks : List Kind). Spells ks ts us) assoc d) in
    let s = split (each printed_free gap_frees) (printed_item i) (subst (λ (ks : List Kind). Spells ks ts out.middle) (print_piece gap_frees i start end) out.front) in
    let rest = pieces_back out.middle us out.back in
    more_pieces gap_frees i start end others frees s.middle (gap_again gap_frees s.front) (item_back s.middle out.middle (pieces_not_else rest.is) s.back) rest

block_on : (pieces : List Piece) (frees : List Free) (braced : Bool) (start end : ℕ) → PiecesBack pieces frees → {ts us : List Token} → Spells (mark (codes "{") ∷ printed_pieces pieces frees) ts us
    → BlockIs (block pieces frees braced start end) ts us
block_on pieces frees braced start end back {us = us} (Spells.more {t = t} {ts = ts} is d) =
    let p = back ts us d in
    record {
      other = block p.others p.other_frees true t.start p.end;
      alike =
          block_of_moved none_at no_braces p.others p.other_frees true t.start p.end
          ∙ ap (λ (ps : List Piece). block ps (map (moved_free none_at) p.other_frees) false 0 0) p.alike
          ∙ ap (λ (fs : List Free). block (map (piece_moved none_at no_braces) pieces) fs false 0 0) p.alike_frees
          ∙ sym (block_of_moved none_at no_braces pieces frees braced start end);
      braces =
          block_of_moved same_at all_braces p.others p.other_frees true t.start p.end
          ∙ ap (λ (ps : List Piece). block ps (map (moved_free same_at) p.other_frees) true t.start p.end) p.braces
          ∙ ap (λ (fs : List Free). block p.others fs true t.start p.end) (all_stay (moved_free same_at) free_stays p.other_frees);
      is = (p.end, IsBlock.braces (spelled t term.OpenBrace is refl) p.is);
    }

pieces_block : (pieces : List Piece) (frees : List Free) (braced : Bool) (start end : ℕ) → PiecesBack pieces frees → BlockBack (block pieces frees braced start end)
pieces_block pieces frees braced start end back ts us d =
    block_on pieces frees braced start end back (subst (λ (ks : List Kind). Spells ks ts us) (print_block pieces frees braced start end) d)

-- the arms behind the first

no_else : (before : ℕ) {ts us vs : List Token} → sees term.Else vs ≡ false → Spells [] ts us → Spells [] us vs → Arms [] None before ts vs
no_else before not Spells.done Spells.done = record { others = []; final = None; end = before; alike = refl; alike_last = refl; braces = refl; braces_last = refl; is = IsElse.none not }

otherwise_on : (b : Block) (before : ℕ) {t : Token} {ts us : List Token} → t.kind ≡ key (codes "else") → BlockIs b ts us → Arms [] (Some b) before (t ∷ ts) us
otherwise_on b before {t} is x = record {
  others = [];
  final = Some x.other;
  end = x.is.0;
  alike = refl;
  alike_last = ap (λ (c : Block). Some c) x.alike;
  braces = refl;
  braces_last = ap (λ (c : Block). Some c) x.braces;
  is = IsElse.otherwise (spelled t term.Else is refl) (block_not_if x.is.1) (IsBody.braced x.is.1);
}

otherwise_behind : (b : Block) (before : ℕ) → BlockBack b → {ts us vs : List Token} → Spells [] ts us → Spells (printed_else (printed_block b)) us vs → Arms [] (Some b) before ts vs
otherwise_behind b before back {vs = vs} Spells.done (Spells.more {ts = ts} is d) = otherwise_on b before is (back ts vs d)

arm_alike : (e other : Expr) (b c : Block) → bare other ≡ bare e → bare_block c ≡ bare_block b → arm_moved none_at no_braces (arm other c) ≡ arm_moved none_at no_braces (arm e b)
arm_alike e other b c same like =
    arm_of_moved none_at no_braces other c ∙ ap (λ (x : Expr). arm x (bare_block c)) same ∙ ap (λ (x : Block). arm (bare e) x) like ∙ sym (arm_of_moved none_at no_braces e b)

arm_braced : (e : Expr) (b : Block) → braced_block b ≡ b → arm_moved same_at all_braces (arm e b) ≡ arm e b
arm_braced e b is = arm_of_moved same_at all_braces e b ∙ ap (λ (x : Expr). arm x (braced_block b)) (expr_stays e) ∙ ap (λ (x : Block). arm e x) is

-- a tested block
record ArmIs (e : Expr) (b : Block) (ts us : List Token) : Type 0 where
  middle : List Token
  test : Like IsTest bare e ts middle
  body : BlockIs b middle us

arm_on : (e : Expr) (b : Block) → BlockBack b → {ts us : List Token} → Spells (printed_arm (arm e b)) ts us → ArmIs e b ts us
arm_on e b back {ts} {us} d =
    let s = split (printed_test e) (printed_block b) (subst (λ (ks : List Kind). Spells ks ts us) (print_arm e b) d) in
    record { middle = s.middle; test = test_again e ts s.middle s.front; body = back s.middle us s.back }

else_on : (e : Expr) (b : Block) (arms : List Arm) (last : Option Block) (before : ℕ) {t i : Token} {ts vs ws : List Token} → t.kind ≡ key (codes "else") → i.kind ≡ key (codes "if")
    → (a : ArmIs e b ts vs) → Arms arms last a.body.is.0 vs ws → Arms (arm e b ∷ arms) last before (t ∷ i ∷ ts) ws
else_on e b arms last before {t} {i} is also a rest = record {
  others = arm a.test.other a.body.other ∷ rest.others;
  final = rest.final;
  end = rest.end;
  alike =
      ap (λ (x : Arm). x ∷ map (arm_moved none_at no_braces) rest.others) (arm_alike e a.test.other b a.body.other a.test.alike a.body.alike)
      ∙ ap (λ (xs : List Arm). arm_moved none_at no_braces (arm e b) ∷ xs) rest.alike;
  alike_last = rest.alike_last;
  braces =
      ap (λ (x : Arm). x ∷ map (arm_moved same_at all_braces) rest.others) (arm_braced a.test.other a.body.other a.body.braces)
      ∙ ap (λ (xs : List Arm). arm a.test.other a.body.other ∷ xs) rest.braces;
  braces_last = rest.braces_last;
  is = IsElse.else_if (spelled t term.Else is refl) (spelled i term.If also refl) a.test.is (IsBody.braced a.body.is.1) rest.is;
}

else_behind : (e : Expr) (b : Block) (arms : List Arm) (last : Option Block) (before : ℕ) → BlockBack b → ArmsBack arms last → {ts us vs : List Token} → sees term.Else vs ≡ false
    → Spells (each printed_other_arm (map printed_arm (arm e b ∷ arms))) ts us → Spells (maybe printed_else (option_map printed_block last)) us vs → Arms (arm e b ∷ arms) last before ts vs
else_behind e b arms last before back arms_back {us = us} {vs = vs} not (Spells.more is (Spells.more also d)) q =
    let s = split (printed_arm (arm e b)) (each printed_other_arm (map printed_arm arms)) d in
    let a = arm_on e b back s.front in
    else_on e b arms last before is also a (arms_back a.body.is.0 s.middle us vs not s.back q)

-- items, each from what its parts are read as

declare_on : (ds : List Declr) {ts us vs : List Token} → Like IsDecl (map (moved_declr none_at)) ds ts us → Spells (mark (codes ";") ∷ []) us vs → ItemIs (item.Declare ds) ts vs
declare_on ds l (Spells.more {t = t} is Spells.done) = record {
  other = item.Declare l.other;
  alike = declare_moved none_at no_braces l.other ∙ ap (λ (xs : List Declr). item.Declare xs) l.alike ∙ sym (declare_moved none_at no_braces ds);
  braces = declare_moved same_at all_braces l.other ∙ ap (λ (xs : List Declr). item.Declare xs) (all_stay (moved_declr same_at) declr_stays l.other);
  is = (t.end, IsItem.declare l.is (spelled t term.Semicolon is refl));
}

assign_on : (s : Simple) {ts us vs : List Token} → Like IsSimple (moved_simple none_at) s ts us → Spells (mark (codes ";") ∷ []) us vs → ItemIs (item.Assign s) ts vs
assign_on s l (Spells.more {t = t} is Spells.done) = record {
  other = item.Assign l.other;
  alike = assign_moved none_at no_braces l.other ∙ ap (λ (x : Simple). item.Assign x) l.alike ∙ sym (assign_moved none_at no_braces s);
  braces = assign_moved same_at all_braces l.other ∙ ap (λ (x : Simple). item.Assign x) (simple_stays l.other);
  is = (t.end, IsItem.assign l.is (spelled t term.Semicolon is refl));
}

call_on : (c : Call) {ts us vs : List Token} → Like IsCall (moved_call none_at) c ts us → Spells (mark (codes ";") ∷ []) us vs → ItemIs (item.Do c) ts vs
call_on c l (Spells.more {t = t} is Spells.done) = record {
  other = item.Do l.other;
  alike = call_moved none_at no_braces l.other ∙ ap (λ (x : Call). item.Do x) l.alike ∙ sym (call_moved none_at no_braces c);
  braces = call_moved same_at all_braces l.other ∙ ap (λ (x : Call). item.Do x) (call_stays l.other);
  is = (t.end, IsItem.call l.is (spelled t term.Semicolon is refl));
}

nest_on : (b : Block) {ts us : List Token} → BlockIs b ts us → ItemIs (item.Nest b) ts us
nest_on b x = record {
  other = item.Nest x.other;
  alike = nest_moved none_at no_braces x.other ∙ ap (λ (c : Block). item.Nest c) x.alike ∙ sym (nest_moved none_at no_braces b);
  braces = nest_moved same_at all_braces x.other ∙ ap (λ (c : Block). item.Nest c) x.braces;
  is = (x.is.0, IsItem.nest x.is.1);
}

branch_on : (e : Expr) (b : Block) (arms : List Arm) (last : Option Block) {t : Token} {ts us vs : List Token} → t.kind ≡ key (codes "if") → (a : ArmIs e b ts us) → Arms arms last a.body.is.0 us vs
    → ItemIs (item.If (arm e b ∷ arms) last) (t ∷ ts) vs
branch_on e b arms last {t} is a rest = record {
  other = item.If (arm a.test.other a.body.other ∷ rest.others) rest.final;
  alike =
      if_moved none_at no_braces (arm a.test.other a.body.other ∷ rest.others) rest.final
      ∙ ap (λ (x : Arm). item.If (x ∷ map (arm_moved none_at no_braces) rest.others) (option_map bare_block rest.final)) (arm_alike e a.test.other b a.body.other a.test.alike a.body.alike)
      ∙ ap (λ (xs : List Arm). item.If (arm_moved none_at no_braces (arm e b) ∷ xs) (option_map bare_block rest.final)) rest.alike
      ∙ ap (λ (x : Option Block). item.If (map (arm_moved none_at no_braces) (arm e b ∷ arms)) x) rest.alike_last
      ∙ sym (if_moved none_at no_braces (arm e b ∷ arms) last);
  braces =
      if_moved same_at all_braces (arm a.test.other a.body.other ∷ rest.others) rest.final
      ∙ ap (λ (x : Arm). item.If (x ∷ map (arm_moved same_at all_braces) rest.others) (option_map braced_block rest.final)) (arm_braced a.test.other a.body.other a.body.braces)
      ∙ ap (λ (xs : List Arm). item.If (arm a.test.other a.body.other ∷ xs) (option_map braced_block rest.final)) rest.braces
      ∙ ap (λ (x : Option Block). item.If (arm a.test.other a.body.other ∷ rest.others) x) rest.braces_last;
  is = (rest.end, IsItem.branch (spelled t term.If is refl) a.test.is (IsBody.braced a.body.is.1) rest.is);
}

branch_behind : (e : Expr) (b : Block) (arms : List Arm) (last : Option Block) → BlockBack b → ArmsBack arms last → {ts us vs : List Token} → sees term.Else vs ≡ false
    → Spells (printed_arms (map printed_arm (arm e b ∷ arms))) ts us → Spells (maybe printed_else (option_map printed_block last)) us vs → ItemIs (item.If (arm e b ∷ arms) last) ts vs
branch_behind e b arms last back arms_back {us = us} {vs = vs} not (Spells.more is d) q =
    let s = split (printed_arm (arm e b)) (each printed_other_arm (map printed_arm arms)) d in
    let a = arm_on e b back s.front in
    branch_on e b arms last is a (arms_back a.body.is.0 s.middle us vs not s.back q)

while_on : (e : Expr) (b : Block) {t : Token} {ts us vs : List Token} → t.kind ≡ key (codes "while") → Like IsTest bare e ts us → BlockIs b us vs → ItemIs (item.While e b) (t ∷ ts) vs
while_on e b {t} is l x = record {
  other = item.While l.other x.other;
  alike = while_moved none_at no_braces l.other x.other ∙ ap (λ (y : Expr). item.While y (bare_block x.other)) l.alike ∙ ap (λ (y : Block). item.While (bare e) y) x.alike ∙ sym (while_moved none_at no_braces e b);
  braces = while_moved same_at all_braces l.other x.other ∙ ap (λ (y : Expr). item.While y (braced_block x.other)) (expr_stays l.other) ∙ ap (λ (y : Block). item.While l.other y) x.braces;
  is = (x.is.0, IsItem.while (spelled t term.While is refl) l.is (IsBody.braced x.is.1));
}

while_behind : (e : Expr) (b : Block) → BlockBack b → {ts us : List Token} → Spells (key (codes "while") ∷ (printed_test e ++ printed_block b)) ts us → ItemIs (item.While e b) ts us
while_behind e b back {us = us} (Spells.more {ts = ts} is d) =
    let s = split (printed_test e) (printed_block b) d in
    while_on e b is (test_again e ts s.middle s.front) (back s.middle us s.back)

for_on : (h : ForHead) (b : Block) {t : Token} {ts us vs : List Token} → t.kind ≡ key (codes "for") → Like IsForHead (moved_for_head none_at) h ts us → BlockIs b us vs → ItemIs (item.For h b) (t ∷ ts) vs
for_on h b {t} is l x = record {
  other = item.For l.other x.other;
  alike =
      for_moved none_at no_braces l.other x.other ∙ ap (λ (y : ForHead). item.For y (bare_block x.other)) l.alike ∙ ap (λ (y : Block). item.For (moved_for_head none_at h) y) x.alike
      ∙ sym (for_moved none_at no_braces h b);
  braces = for_moved same_at all_braces l.other x.other ∙ ap (λ (y : ForHead). item.For y (braced_block x.other)) (for_head_stays l.other) ∙ ap (λ (y : Block). item.For l.other y) x.braces;
  is = (x.is.0, IsItem.for (spelled t term.For is refl) l.is (IsBody.braced x.is.1));
}

for_behind : {h : ForHead} (b : Block) {xs ys : List Token} → IsForHead h xs ys → BlockBack b → {ts us : List Token} → Spells (key (codes "for") ∷ (printed_for_head h ++ printed_block b)) ts us
    → ItemIs (item.For h b) ts us
for_behind {h} b p back {us = us} (Spells.more {ts = ts} is d) =
    let s = split (printed_for_head h) (printed_block b) d in
    for_on h b is (for_head_again p ts s.middle s.front) (back s.middle us s.back)

break_on : {ts us : List Token} → Spells (ended (key (codes "break") ∷ [])) ts us → ItemIs item.Break ts us
break_on (Spells.more {t = t} is (Spells.more {t = s} end Spells.done)) = record {
  other = item.Break;
  alike = refl;
  braces = break_moved same_at all_braces;
  is = (s.end, IsItem.break (spelled t term.Break is refl) (spelled s term.Semicolon end refl));
}

continue_on : {ts us : List Token} → Spells (ended (key (codes "continue") ∷ [])) ts us → ItemIs item.Continue ts us
continue_on (Spells.more {t = t} is (Spells.more {t = s} end Spells.done)) = record {
  other = item.Continue;
  alike = refl;
  braces = continue_moved same_at all_braces;
  is = (s.end, IsItem.continue (spelled t term.Continue is refl) (spelled s term.Semicolon end refl));
}

return_on : (at : ℕ) {ts us : List Token} → Spells (ended (key (codes "return") ∷ [])) ts us → ItemIs (item.Return None at) ts us
return_on at (Spells.more {t = t} is (Spells.more {t = s} end Spells.done)) = record {
  other = item.Return None t.start;
  alike = return_moved none_at no_braces None t.start ∙ sym (return_moved none_at no_braces None at);
  braces = return_moved same_at all_braces None t.start;
  is = (s.end, IsItem.return (spelled t term.Return is refl) (spelled s term.Semicolon end refl));
}

value_on : (r : Right) (at : ℕ) {t : Token} {ts us vs : List Token} → t.kind ≡ key (codes "return") → Like IsRight (moved_right none_at) r ts us → Spells (mark (codes ";") ∷ []) us vs
    → ItemIs (item.Return (Some r) at) (t ∷ ts) vs
value_on r at {t} is l (Spells.more {t = s} end Spells.done) = record {
  other = item.Return (Some l.other) t.start;
  alike = return_moved none_at no_braces (Some l.other) t.start ∙ ap (λ (x : Right). item.Return (Some x) 0) l.alike ∙ sym (return_moved none_at no_braces (Some r) at);
  braces = return_moved same_at all_braces (Some l.other) t.start ∙ ap (λ (x : Right). item.Return (Some x) t.start) (right_stays l.other);
  is = (s.end, IsItem.return_value (spelled t term.Return is refl) l.is (spelled s term.Semicolon end refl));
}

value_behind : {r : Right} (at : ℕ) {xs ys : List Token} → IsRight r xs ys → {ts us : List Token} → Spells (ended (key (codes "return") ∷ printed_right r)) ts us → ItemIs (item.Return (Some r) at) ts us
value_behind {r} at p (Spells.more {ts = ts} is d) =
    let s = split (printed_right r) (mark (codes ";") ∷ []) d in
    value_on r at is (right_again p ts s.middle s.front) s.back

shown : (i : Item) {ks : List Kind} → printed_item i ≡ ks → {ts us : List Token} → Spells (printed_item i) ts us → Spells ks ts us
shown i is {ts} {us} d = subst (λ (ls : List Kind). Spells ls ts us) is d

-- What is printed of each derived item and block is read as one alike it.

mutual
  item_again : {i : Item} {end : ℕ} {xs ys : List Token} → IsItem i end xs ys → ItemBack i
  item_again (IsItem.declare {declrs = ds} p is) ts us not d =
      let s = split (printed_decl ds) (mark (codes ";") ∷ []) (shown (item.Declare ds) (print_declare ds) d) in
      declare_on ds (decl_again p ts s.middle s.front) s.back
  item_again (IsItem.assign {s = a} p is) ts us not d =
      let s = split (printed_simple a) (mark (codes ";") ∷ []) (shown (item.Assign a) (print_assign a) d) in
      assign_on a (simple_again p ts s.middle s.front) s.back
  item_again (IsItem.call {c = c} p is) ts us not d =
      let s = split (printed_call c) (mark (codes ";") ∷ []) (shown (item.Do c) (print_call c) d) in
      call_on c (call_again p ts s.middle s.front) s.back
  item_again (IsItem.nest {b = b} p) ts us not d = nest_on b (block_again p ts us (shown (item.Nest b) (print_nest b) d))
  item_again (IsItem.branch {e = e} {b = b} {arms = arms} {last = last} is q p r) ts us not d =
      let s = split (printed_arms (map printed_arm (arm e b ∷ arms))) (maybe printed_else (option_map printed_block last)) (shown (item.If (arm e b ∷ arms) last) (print_if (arm e b ∷ arms) last) d) in
      branch_behind e b arms last (body_again p) (else_again r) not s.front s.back
  item_again (IsItem.while {e = e} {b = b} is q p) ts us not d = while_behind e b (body_again p) (shown (item.While e b) (print_while e b) d)
  item_again (IsItem.for {h = h} {b = b} is q p) ts us not d = for_behind b q (body_again p) (shown (item.For h b) (print_for h b) d)
  item_again (IsItem.break is end) ts us not d = break_on (shown item.Break print_break d)
  item_again (IsItem.continue is end) ts us not d = continue_on (shown item.Continue print_continue d)
  item_again (IsItem.return {t = t} is end) ts us not d = return_on t.start (shown (item.Return None t.start) (print_return None t.start) d)
  item_again (IsItem.return_value {t = t} {r = r} is p end) ts us not d = value_behind t.start p (shown (item.Return (Some r) t.start) (print_return (Some r) t.start) d)

  else_again : {arms : List Arm} {last : Option Block} {before end : ℕ} {xs ys : List Token} → IsElse arms last before end xs ys → ArmsBack arms last
  else_again (IsElse.none not) before ts us vs free d q = no_else before free d q
  else_again (IsElse.else_if {e = e} {b = b} {arms = arms} {last = last} is also t p r) before ts us vs free d q = else_behind e b arms last before (body_again p) (else_again r) free d q
  else_again (IsElse.otherwise {b = b} is not p) before ts us vs free d q = otherwise_behind b before (body_again p) d q

  body_again : {b : Block} {end : ℕ} {xs ys : List Token} → IsBody b end xs ys → BlockBack b
  body_again (IsBody.braced p) = block_again p
  body_again (IsBody.unbraced {t = t} {i = i} {end = end} not p) =
      pieces_block (piece [] i t.start end ∷ []) [] false t.start end (pieces_more [] i t.start end [] [] (item_again p) (pieces_last []))
  body_again (IsBody.free {f = f} p) = pieces_block [] (f ∷ []) false f.start f.end (pieces_last (f ∷ []))
  body_again (IsBody.empty {t = t} is) = pieces_block [] [] false t.start t.end (pieces_last [])

  pub block_again : {b : Block} {end : ℕ} {xs ys : List Token} → IsBlock b end xs ys → BlockBack b
  block_again (IsBlock.braces {t = t} {pieces = pieces} {frees = frees} {end = end} is p) = pieces_block pieces frees true t.start end (pieces_again p)

  pieces_again : {pieces : List Piece} {frees : List Free} {end : ℕ} {xs ys : List Token} → IsPieces pieces frees end xs ys → PiecesBack pieces frees
  pieces_again (IsPieces.last {frees = frees} g is) = pieces_last frees
  pieces_again (IsPieces.more {t = t} {gap_frees = gap_frees} {frees = frees} {i = i} {others = others} {end = end} g p r) =
      pieces_more gap_frees i t.start end others frees (item_again p) (pieces_again r)
