-- The variables that are declared in a block have names that are spelled as names, since these are among the text's tokens.
use Rattle.std.proofs.Common.{◌≡◌, ℕ, ◌+◌, Bool, true, false, List, [], ◌∷◌, ◌++◌, length, map, Option, Some, None, refl, sym, subst, ◌∙◌}
use Rattle.c_lexer.specs.declared.token.Kind.TheVariants as kind
use Rattle.c_lexer.specs.declared.token.Token.{Token}
use Rattle.c_lexer.proofs.Lexemes.{Spelling}
use Rattle.c_tree.specs.declared.choice.Put.{Put}
use Rattle.c_tree.specs.declared.program.Home.{Home}
use Rattle.c_tree.specs.declared.program.Home.TheVariants as home
use Rattle.c_tree.specs.declared.program.Item.{Item as MadeItem}
use Rattle.c_tree.specs.declared.program.Item.TheVariants as made
use Rattle.c_tree.specs.declared.program.Block.{Block as MadeBlock}
use Rattle.c_tree.specs.declared.program.Arm.{Arm as MadeArm}
use Rattle.c_tree.specs.declared.program.Piece.{Piece as MadePiece}
use Rattle.c_tree.specs.declared.program.Program.{Program}
use Rattle.c_tree.specs.declared.program.VarDef.{VarDef}
use Rattle.c_tree.specs.declared.tree.Arm.{Arm}
use Rattle.c_tree.specs.declared.tree.Base.{Base}
use Rattle.c_tree.specs.declared.tree.Block.{Block}
use Rattle.c_tree.specs.declared.tree.Call.{Call}
use Rattle.c_tree.specs.declared.tree.Call.TheVariants as call
use Rattle.c_tree.specs.declared.tree.Declr.{Declr}
use Rattle.c_tree.specs.declared.tree.Expr.{Expr}
use Rattle.c_tree.specs.declared.tree.ForHead.{ForHead}
use Rattle.c_tree.specs.declared.tree.Free.{Free}
use Rattle.c_tree.specs.declared.tree.Item.{Item}
use Rattle.c_tree.specs.declared.tree.Item.TheVariants as item
use Rattle.c_tree.specs.declared.tree.Item.TheOpen.{Declare, Assign, Do, Nest, While, For, Break, Continue, Return}
use Rattle.c_tree.specs.declared.tree.Piece.{Piece}
use Rattle.c_tree.specs.declared.tree.Right.{Right}
use Rattle.c_tree.specs.declared.tree.Right.TheVariants as right
use Rattle.c_tree.specs.declared.tree.Simple.{Simple}
use Rattle.c_tree.specs.declared.tree.Spec.{Spec}
use Rattle.c_tree.specs.declared.tree.Start.{Start}
use Rattle.c_tree.specs.declared.tree.Start.TheVariants as start
use Rattle.c_tree.specs.declared.tree.Word.{Word}
use Rattle.c_parser.specs.Blocks.{IsBlock, IsBody, IsElse, IsForHead, IsForStart, IsItem, IsPieces, arm, block, gap, piece}
use Rattle.c_parser.specs.Offsets.{AllHave, AnyHas}
use Rattle.c_parser.specs.Statements.{IsDecl, IsDeclr, IsDeclrs}
use Rattle.c_parser.proofs.Rests.{Rest, base_rest, body_rest, declr_rest, for_head_rest, gap_rest, item_rest, rest_next, stars_rest, test_rest}
use Rattle.c_types.specs.declared.faults.Rule.TheVariants as rule
use Rattle.c_types.specs.declared.judged.Called.{Called}
use Rattle.c_types.specs.declared.judged.Judged.{Judged}
use Rattle.c_types.specs.declared.judged.Judged.TheVariants.{Typed, Broken}
use Rattle.c_types.specs.declared.scope.Entry.{Entry}
use Rattle.c_types.specs.declared.scope.Nesting.{Nesting}
use Rattle.c_types.specs.declared.scope.Returned.{Returned}
use Rattle.c_types.specs.declared.scope.Walk.{Walk}
use Rattle.c_types.specs.declared.scope.Written.{Written}
use Rattle.c_types.specs.Blocks.{in_loop, walked_arm, walked_block, walked_free, walked_head, walked_item, walked_start, walked_test, within}
use Rattle.c_types.specs.Calls.{counted, user_call, walked_call}
use Rattle.c_types.specs.Fits.{unless}
use Rattle.c_types.specs.InTurn.{each, optional}
use Rattle.c_types.specs.Scopes.{closed, declared, named_if, noted, spec_type, text_or_none, type_faults, var_of, variable_meaning, with_scope, with_var}
use Rattle.c_types.specs.Statements.{walked_declr, walked_do, walked_initial, walked_return, walked_right, walked_simple}
use Rattle.c_types.proofs.Growing.{any_grows, declared_grows, do_grows, gap_grows, initial_grows, note_grows, return_grows, simple_grows, test_grows}
use Rattle.c_types.proofs.NumberingCalls.{second_empty}
use Rattle.c_types.proofs.Standing.{Grows, grows_both}
use Rattle.c_types.proofs.TypedParts.{declared_vars}
use Rattle.source_patcher.specs.Refilled.{behind_gap}
use Rattle.source_patcher.proofs.Named.{AreNamed, named_at}
use Rattle.source_patcher.proofs.RefilledWalk.{arm_opens, arms_walk, behind_piece, block_opens, if_opens, item_opens, piece_opens, pieces_walk}

-- names among tokens

pub named_rest : {ts us : List Token} → Rest ts us → AreNamed ts → AreNamed us
named_rest Rest.here all = all
named_rest (Rest.behind p) all = named_rest p all.1

pub word_spelled : {ts us : List Token} (n : Token) (text : List ℕ) → Rest ts (n ∷ us) → n.kind ≡ kind.Name text → AreNamed ts → Spelling text
word_spelled {us = us} n text rest is all = named_at rest n us refl all text is

-- a name in a declaration, where there is one
abbrev pub SpecSpelled : Spec → Type 0
SpecSpelled d = AnyHas (λ (w : Word). Spelling w.text) d.name

pub all_both : {A : Type 0} (P : A → Type 0) (xs ys : List A) → AllHave P xs → AllHave P ys → AllHave P (xs ++ ys)
all_both P [] ys h k = k
all_both P (x ∷ xs) ys h k = (h.0, all_both P xs ys h.1 k)

-- variables

-- the slots of results are nameless
abbrev pub IsSpelled : Home → List ℕ → Type 0
IsSpelled (home.Global n) x = Spelling x
IsSpelled (home.Param f) x = Spelling x
IsSpelled (home.Local f) x = Spelling x
IsSpelled (home.Result f) x = Unit {0}

abbrev pub VarSpelled : VarDef → Type 0
VarSpelled v = IsSpelled v.home v.name

abbrev pub VarsSpelled : Walk → Type 0
VarsSpelled w = w.faults ≡ [] → AllHave VarSpelled w.vars

home_spelled : (h : Home) (x : List ℕ) → Spelling x → IsSpelled h x
home_spelled (home.Global n) x is = is
home_spelled (home.Param f) x is = is
home_spelled (home.Local f) x is = is
home_spelled (home.Result f) x is = tt

pub vars_kept : (h : Home) (w u : Walk) → Grows h w u → u.vars ≡ w.vars → VarsSpelled w → VarsSpelled u
vars_kept h w u g same all clean = subst (AllHave VarSpelled) (sym same) (all (g.clean clean))

-- a declaration without a name is a fault
name_or_fault : (d : Spec) (e : Entry) (c : Walk) (h : Home) (o : Option Word) → AnyHas (λ (w : Word). Spelling w.text) o → (named_if d e c o).faults ≡ [] → IsSpelled h (text_or_none o)
name_or_fault d e c h None is clean =
    let more = second_empty c.faults _ clean in
    absurd cc
name_or_fault d e c h (Some n) is clean = home_spelled h n.text is

pub declared_spelled : (d : Spec) (h : Home) (depth : ℕ) (w : Walk) → SpecSpelled d → VarsSpelled w → VarsSpelled (declared d h depth w).0
declared_spelled d h depth w is all clean =
    let r = spec_type d w.scope in
    let c = noted (type_faults r.1) (with_var (var_of d r.1 h) (with_scope w r.0)) in
    let e : Entry = record { meaning = variable_meaning (length w.vars) r.1; depth = depth } in
    let v = var_of d (declared d h depth w).1 h in
    subst (AllHave VarSpelled) (sym (declared_vars d h depth w))
    (all_both VarSpelled w.vars (v ∷ []) (all ((declared_grows d h depth w).clean clean)) (name_or_fault d e c h d.name is clean, tt))

-- what declares no variables

counted_vars : (j : Judged Called) (w : Walk) → (counted j w).vars ≡ w.vars
counted_vars (Typed c) w = refl
counted_vars (Broken fs) w = refl

call_vars : (c : Call) (w : Walk) → (walked_call c w).0.vars ≡ w.vars
call_vars (call.User n args close) w = counted_vars (user_call w n args close) w
call_vars (call.Malloc cast size at) w = refl
call_vars (call.Getchar at) w = refl
call_vars (call.Putchar a at) w = refl
call_vars (call.Printf text text_at args at close) w = refl

right_vars : (r : Right) (w : Walk) → (walked_right r w).0.vars ≡ w.vars
right_vars (right.Plain a) w = refl
right_vars (right.Call c) w = call_vars c w

simple_vars : (s : Simple) (w : Walk) → (walked_simple s w).0.vars ≡ w.vars
simple_vars s w = right_vars s.right w

initial_vars : (t : Written) (at : ℕ) (o : Option Right) (w : Walk) → (walked_initial t at o w).0.vars ≡ w.vars
initial_vars t at None w = refl
initial_vars t at (Some r) w = right_vars r w

return_vars : (t : Returned) (at : ℕ) (o : Option Right) (w : Walk) → (walked_return t at o w).0.vars ≡ w.vars
return_vars t at None w = refl
return_vars t at (Some r) w = right_vars r w

frees_vars : (fs : List Free) (w : Walk) → (each walked_free fs w).0.vars ≡ w.vars
frees_vars [] w = refl
frees_vars (f ∷ fs) w = frees_vars fs (walked_free f w).0

test_vars : (o : Option Expr) (w : Walk) → (optional walked_test o w).0.vars ≡ w.vars
test_vars None w = refl
test_vars (Some e) w = refl

step_vars : (o : Option Simple) (w : Walk) → (optional walked_simple o w).0.vars ≡ w.vars
step_vars None w = refl
step_vars (Some s) w = simple_vars s w

-- declarations

declr_word : {b : Base} {f : Token} {d : Declr} {ts us : List Token} → IsDeclr b f d ts us → AreNamed ts → SpecSpelled d.spec
declr_word (IsDeclr.bare {n = n} {text = text} stars is) all = word_spelled n text (stars_rest stars) is all
declr_word (IsDeclr.given {n = n} {text = text} stars is put r) all = word_spelled n text (stars_rest stars) is all

abbrev DeclrSpelled : Declr → Type 0
DeclrSpelled d = SpecSpelled d.spec

declrs_words : {b : Base} {f : Token} {ds : List Declr} {ts us : List Token} → IsDeclrs b f ds ts us → AreNamed ts → AllHave DeclrSpelled ds
declrs_words (IsDeclrs.last d) all = (declr_word d all, tt)
declrs_words (IsDeclrs.more d is q) all = (declr_word d all, declrs_words q (named_rest (rest_next (declr_rest d)) all))

decl_words : {ds : List Declr} {ts us : List Token} → IsDecl ds ts us → AreNamed ts → AllHave DeclrSpelled ds
decl_words (IsDecl.decl b q) all = declrs_words q (named_rest (base_rest b) all)

abbrev StartSpelled : Start → Type 0
StartSpelled (start.Declare d) = DeclrSpelled d
StartSpelled (start.Assign s) = Unit {0}

all_starts : (ds : List Declr) → AllHave DeclrSpelled ds → AllHave StartSpelled (map start.Declare ds)
all_starts [] all = tt
all_starts (d ∷ ds) all = (all.0, all_starts ds all.1)

starts_words : {ss : List Start} {ts us : List Token} → IsForStart ss ts us → AreNamed ts → AllHave StartSpelled ss
starts_words (IsForStart.none is) all = tt
starts_words (IsForStart.declare {declrs = ds} d is) all = all_starts ds (decl_words d all)
starts_words (IsForStart.assign d is) all = (tt, tt)

head_words : {h : ForHead} {ts us : List Token} → IsForHead h ts us → AreNamed ts → AllHave StartSpelled h.start
head_words (IsForHead.head is s t p) all = starts_words s all.1

declr_spelled : (n : Nesting) (d : Declr) (w : Walk) → DeclrSpelled d → VarsSpelled w → VarsSpelled (walked_declr n d w).0
declr_spelled n d w is all =
    let h = home.Local n.function in
    let v = declared d.spec h n.depth w in
    vars_kept h v.0 (walked_declr n d w).0 (initial_grows h v.1 d.at d.right v.0) (initial_vars v.1 d.at d.right v.0) (declared_spelled d.spec h n.depth w is all)

declrs_spelled : (n : Nesting) (ds : List Declr) (w : Walk) → AllHave DeclrSpelled ds → VarsSpelled w → VarsSpelled (each (walked_declr n) ds w).0
declrs_spelled n [] w is all = all
declrs_spelled n (d ∷ ds) w is all = declrs_spelled n ds (walked_declr n d w).0 is.1 (declr_spelled n d w is.0 all)

start_spelled : (n : Nesting) (s : Start) (w : Walk) → StartSpelled s → VarsSpelled w → VarsSpelled (walked_start n s w).0
start_spelled n (start.Declare d) w is all = declr_spelled n d w is all
start_spelled n (start.Assign s) w is all = let h = home.Local n.function in vars_kept h w (walked_simple s w).0 (simple_grows h s w) (simple_vars s w) all

starts_spelled : (n : Nesting) (ss : List Start) (w : Walk) → AllHave StartSpelled ss → VarsSpelled w → VarsSpelled (each (walked_start n) ss w).0
starts_spelled n [] w is all = all
starts_spelled n (s ∷ ss) w is all = starts_spelled n ss (walked_start n s w).0 is.1 (start_spelled n s w is.0 all)

head_spelled : (n : Nesting) (x : ForHead) (w : Walk) → AllHave StartSpelled x.start → VarsSpelled w → VarsSpelled (walked_head n x w).0
head_spelled n x w is all =
    let h = home.Local n.function in
    let r = each (walked_start n) x.start w in
    let t = optional walked_test x.test r.0 in
    let s = optional walked_simple x.step t.0 in
    vars_kept h r.0 s.0 (grows_both h r.0 t.0 s.0 (any_grows h walked_test (test_grows h) x.test r.0) (any_grows h walked_simple (simple_grows h) x.step t.0))
    (step_vars x.step t.0 ∙ test_vars x.test r.0) (starts_spelled n x.start w is all)

test_spelled : (n : Nesting) (e : Expr) (w : Walk) → VarsSpelled w → VarsSpelled (walked_test e w).0
test_spelled n e w all = let h = home.Local n.function in vars_kept h w (walked_test e w).0 (test_grows h e w) refl all

gap_spelled : (n : Nesting) (frees : List Free) (w : Walk) → VarsSpelled w → VarsSpelled (behind_gap frees w)
gap_spelled n frees w all = let h = home.Local n.function in vars_kept h w (behind_gap frees w) (gap_grows h (gap frees) w) (frees_vars frees (record w { gaps = w.gaps + 1 })) all

-- blocks

module _ (p : Program) (puts : List Put) where
  opened : (i : Item) (at : ℕ) (n : Nesting) (w : Walk) (r : Walk × MadeItem) → walked_item i at n w ≡ r → VarsSpelled r.0 → VarsSpelled (walked_item i at n w).0
  opened i at n w r is all = subst (λ (q : Walk × MadeItem). VarsSpelled q.0) (sym is) all

  arm_spelled : (e : Expr) (b : Block) (n : Nesting) (w : Walk) → VarsSpelled (walked_block b (within n) (walked_test e w).0).0 → VarsSpelled (walked_arm (arm e b) n w).0
  arm_spelled e b n w all = subst (λ (q : Walk × MadeArm). VarsSpelled q.0) (sym (arm_opens p puts e b n w)) all

  pieces_more : (frees : List Free) (i : Item) (start end : ℕ) (ps : List Piece) (last : List Free) (n : Nesting) (w : Walk)
      → VarsSpelled (pieces_walk p puts ps last n (walked_item i start n (behind_gap frees w)).0).0 → VarsSpelled (pieces_walk p puts (piece frees i start end ∷ ps) last n w).0
  pieces_more frees i start end ps last n w all = subst (λ (q : Walk × MadePiece). VarsSpelled (behind_piece p puts ps last n q).0) (sym (piece_opens p puts frees i start end n w)) all

  block_of : (ps : List Piece) (frees : List Free) (braced : Bool) (start end : ℕ) (n : Nesting) (w : Walk) → VarsSpelled (pieces_walk p puts ps frees n w).0 → VarsSpelled (walked_block (block ps frees braced start end) n w).0
  block_of ps frees braced start end n w all = subst (λ (q : Walk × MadeBlock). VarsSpelled q.0) (sym (block_opens p puts ps frees braced start end n w)) all

  mutual
    item_spelled : {i : Item} {end : ℕ} {ts us : List Token} → IsItem i end ts us → AreNamed ts → (at : ℕ) (n : Nesting) (w : Walk) → VarsSpelled w → VarsSpelled (walked_item i at n w).0
    item_spelled (IsItem.declare {declrs = ds} d is) named at n w all =
        let r = each (walked_declr n) ds w in
        opened (item.Declare ds) at n w (r.0, made.Declare r.1) (item_opens p puts (Declare ds) (item.Declare ds) (item.rolls-Declare ds) at n w) (declrs_spelled n ds w (decl_words d named) all)
    item_spelled (IsItem.assign {s = s} d is) named at n w all =
        let h = home.Local n.function in
        let r = walked_simple s w in
        opened (item.Assign s) at n w (r.0, made.Assign r.1) (item_opens p puts (Assign s) (item.Assign s) (item.rolls-Assign s) at n w) (vars_kept h w r.0 (simple_grows h s w) (simple_vars s w) all)
    item_spelled (IsItem.call {c = c} d is) named at n w all =
        let h = home.Local n.function in
        opened (item.Do c) at n w (walked_do c w) (item_opens p puts (Do c) (item.Do c) (item.rolls-Do c) at n w) (vars_kept h w (walked_do c w).0 (do_grows h c w) (call_vars c w) all)
    item_spelled (IsItem.nest {b = b} d) named at n w all =
        let u = walked_block b (within n) w in
        opened (item.Nest b) at n w (closed (length w.scope.names) u.0, made.Nest u.1) (item_opens p puts (Nest b) (item.Nest b) (item.rolls-Nest b) at n w) (block_spelled d named (within n) w all)
    item_spelled (IsItem.branch {e = e} {b = b} {arms = arms} {last = last} is d q r) named at n w all =
        let u = arms_walk p puts (arm e b ∷ arms) last n w in
        let behind = named_rest (test_rest d) named.1 in
        opened (item.If (arm e b ∷ arms) last) at n w (u.0, made.If u.1.0 u.1.1) (if_opens p puts (arm e b ∷ arms) last at n w)
        (else_spelled r (named_rest (body_rest q) behind) n (walked_arm (arm e b) n w).0 (arm_spelled e b n w (body_spelled q behind (within n) (walked_test e w).0 (test_spelled n e w all))))
    item_spelled (IsItem.while {e = e} {b = b} is d q) named at n w all =
        let t = walked_test e w in
        let u = walked_block b (in_loop n) t.0 in
        opened (item.While e b) at n w (closed (length t.0.scope.names) u.0, made.While t.1 u.1) (item_opens p puts (While e b) (item.While e b) (item.rolls-While e b) at n w)
        (body_spelled q (named_rest (test_rest d) named.1) (in_loop n) t.0 (test_spelled n e w all))
    item_spelled (IsItem.for {h = h} {b = b} is d q) named at n w all =
        let t = walked_head (within n) h w in
        let u = walked_block b (in_loop (within n)) t.0 in
        opened (item.For h b) at n w (closed (length w.scope.names) (closed (length t.0.scope.names) u.0), made.For t.1 u.1) (item_opens p puts (For h b) (item.For h b) (item.rolls-For h b) at n w)
        (body_spelled q (named_rest (for_head_rest d) named.1) (in_loop (within n)) t.0 (head_spelled (within n) h w (head_words d named.1) all))
    item_spelled (IsItem.break is_t is_s) named at n w all =
        let h = home.Local n.function in
        let u = noted (unless n.in_loop rule.Jump at) w in
        opened item.Break at n w (u, made.Break) (item_opens p puts Break item.Break item.rolls-Break at n w) (vars_kept h w u (note_grows h (unless n.in_loop rule.Jump at) w) refl all)
    item_spelled (IsItem.continue is_t is_s) named at n w all =
        let h = home.Local n.function in
        let u = noted (unless n.in_loop rule.Jump at) w in
        opened item.Continue at n w (u, made.Continue) (item_opens p puts Continue item.Continue item.rolls-Continue at n w) (vars_kept h w u (note_grows h (unless n.in_loop rule.Jump at) w) refl all)
    item_spelled (IsItem.return {t = t} is_t is_s) named at n w all =
        let h = home.Local n.function in
        let r = walked_return n.returns t.start None w in
        opened (item.Return None t.start) at n w r (item_opens p puts (Return None t.start) (item.Return None t.start) (item.rolls-Return None t.start) at n w)
        (vars_kept h w r.0 (return_grows h n.returns t.start None w) (return_vars n.returns t.start None w) all)
    item_spelled (IsItem.return_value {t = t} {r = x} is_t d is_s) named at n w all =
        let h = home.Local n.function in
        let r = walked_return n.returns t.start (Some x) w in
        opened (item.Return (Some x) t.start) at n w r (item_opens p puts (Return (Some x) t.start) (item.Return (Some x) t.start) (item.rolls-Return (Some x) t.start) at n w)
        (vars_kept h w r.0 (return_grows h n.returns t.start (Some x) w) (return_vars n.returns t.start (Some x) w) all)

    else_spelled : {arms : List Arm} {last : Option Block} {before end : ℕ} {ts us : List Token} → IsElse arms last before end ts us → AreNamed ts → (n : Nesting) (w : Walk) → VarsSpelled w → VarsSpelled (arms_walk p puts arms last n w).0
    else_spelled (IsElse.none is) named n w all = all
    else_spelled (IsElse.else_if {e = e} {b = b} is_t is_i d q r) named n w all =
        let behind = named_rest (test_rest d) named.1.1 in
        else_spelled r (named_rest (body_rest q) behind) n (walked_arm (arm e b) n w).0 (arm_spelled e b n w (body_spelled q behind (within n) (walked_test e w).0 (test_spelled n e w all)))
    else_spelled (IsElse.otherwise is_t no_if d) named n w all = body_spelled d named.1 (within n) w all

    body_spelled : {b : Block} {end : ℕ} {ts us : List Token} → IsBody b end ts us → AreNamed ts → (n : Nesting) (w : Walk) → VarsSpelled w → VarsSpelled (walked_block b n w).0
    body_spelled (IsBody.braced d) named n w all = block_spelled d named n w all
    body_spelled (IsBody.unbraced {t = t} {i = i} {end = end} is d) named n w all =
        block_of (piece [] i t.start end ∷ []) [] false t.start end n w
        (pieces_more [] i t.start end [] [] n w (gap_spelled n [] (walked_item i t.start n (behind_gap [] w)).0 (item_spelled d named t.start n (behind_gap [] w) (gap_spelled n [] w all))))
    body_spelled (IsBody.free {f = f} d) named n w all = block_of [] (f ∷ []) false f.start f.end n w (gap_spelled n (f ∷ []) w all)
    body_spelled (IsBody.empty {t = t} is) named n w all = block_of [] [] false t.start t.end n w (gap_spelled n [] w all)

    pub block_spelled : {b : Block} {end : ℕ} {ts us : List Token} → IsBlock b end ts us → AreNamed ts → (n : Nesting) (w : Walk) → VarsSpelled w → VarsSpelled (walked_block b n w).0
    block_spelled (IsBlock.braces {t = t} {pieces = ps} {frees = frees} {end = end} is d) named n w all = block_of ps frees true t.start end n w (pieces_spelled d named.1 n w all)

    pieces_spelled : {ps : List Piece} {frees : List Free} {end : ℕ} {ts us : List Token} → IsPieces ps frees end ts us → AreNamed ts → (n : Nesting) (w : Walk) → VarsSpelled w → VarsSpelled (pieces_walk p puts ps frees n w).0
    pieces_spelled (IsPieces.last {frees = frees} d is) named n w all = gap_spelled n frees w all
    pieces_spelled (IsPieces.more {t = t} {gap_frees = frees} {frees = last} {i = i} {others = ps} {end = end} g d q) named n w all =
        let at_item = named_rest (gap_rest g) named in
        let v = behind_gap frees w in
        pieces_more frees i t.start end ps last n w
        (pieces_spelled q (named_rest (item_rest d) at_item) n (walked_item i t.start n v).0 (item_spelled d at_item t.start n v (gap_spelled n frees w all)))
