-- What all tokens of a text have, by where they begin and by the numbers among them, all offsets and constants of a tree have
-- that generates it.
use Rattle.std.proofs.Common.{◌≡◌, ℕ, ℤ, pos, negsuc, true, false, List, [], ◌∷◌, ◌++◌, map, Option, subst}
use Rattle.c_lexer.specs.declared.token.Token.{Token}
use Rattle.c_lexer.specs.declared.token.Kind.TheVariants as kind
use Rattle.c_tree.specs.declared.tree.Arg.{Arg}
use Rattle.c_tree.specs.declared.tree.Arm.{Arm}
use Rattle.c_tree.specs.declared.tree.Base.{Base}
use Rattle.c_tree.specs.declared.tree.Block.{Block}
use Rattle.c_tree.specs.declared.tree.Body.{Body}
use Rattle.c_tree.specs.declared.tree.Call.{Call}
use Rattle.c_tree.specs.declared.tree.Declr.{Declr}
use Rattle.c_tree.specs.declared.tree.Expr.{Expr}
use Rattle.c_tree.specs.declared.tree.ForHead.{ForHead}
use Rattle.c_tree.specs.declared.tree.Free.{Free}
use Rattle.c_tree.specs.declared.tree.GlobalDecl.{GlobalDecl}
use Rattle.c_tree.specs.declared.tree.Head.{Head}
use Rattle.c_tree.specs.declared.tree.Item.{Item}
use Rattle.c_tree.specs.declared.tree.Piece.{Piece}
use Rattle.c_tree.specs.declared.tree.Right.{Right}
use Rattle.c_tree.specs.declared.tree.Simple.{Simple}
use Rattle.c_tree.specs.declared.tree.Size.{Size}
use Rattle.c_tree.specs.declared.tree.Spec.{Spec}
use Rattle.c_tree.specs.declared.tree.Start.{Start}
use Rattle.c_tree.specs.declared.tree.Start.TheVariants as start
use Rattle.c_tree.specs.declared.tree.Top.{Top}
use Rattle.c_tree.specs.declared.tree.Unit.{Unit as Counted}
use Rattle.c_tree.specs.declared.tree.Word.{Word}
use Rattle.c_parser.specs.Expressions.{IsLevel, IsTail, IsUnary, IsPost, IsPosts, IsPrim, IsArg}
use Rattle.c_parser.specs.Declarators.{IsBase, IsOptionalName, IsCast, IsUnit, IsSize}
use Rattle.c_parser.specs.Statements.{IsMoreArgs, IsArgs, IsCall, IsRight, IsPlace, IsSimple, IsDeclr, IsDeclrs, IsDecl, one_at}
use Rattle.c_parser.specs.Blocks.{IsFree, IsGap, IsTest, IsForStart, IsForTest, IsForStep, IsForHead, IsItem, IsElse, IsBody, IsBlock, IsPieces}
use Rattle.c_parser.specs.Grammar.{IsFieldNames, IsFields, IsStructBody, IsConst, IsGlobal, IsGlobals, IsParam, IsMoreParams, IsParams, IsHead, IsTop, IsFile}
use Rattle.c_parser.specs.Offsets.{AllHave, AnyHas, WordHas, BaseHas, SpecHas, ExprHas, ArgHas, UnitHas, SizeHas, CallHas, RightHas, SimpleHas, DeclrHas, FreeHas, StartHas, ForHeadHas, ItemHas, ArmsHave, BlockHas, PiecesHave, BodyHas, GlobalHas, HeadHas, TopHas, TokensHave, NumberHas}
use Rattle.c_parser.proofs.Rests.{Rest, rest_next, level_rest, post_rest, prim_rest, arg_rest, base_rest, stars_rest, optional_name_rest, cast_rest, unit_rest, place_rest, declr_rest, free_rest, gap_rest, test_rest, for_start_rest, for_test_rest, for_head_rest, item_rest, body_rest, global_rest, field_names_rest, param_rest, head_rest, struct_body_rest, top_rest}

module _ (P : ℕ → Type 0) (Q : ℤ → Type 0) where
  abbrev Have : List Token → Type 0
  Have ts = TokensHave P Q ts

  -- what is left has it too
  pub have_on : {ts us : List Token} → Rest ts us → Have ts → Have us
  have_on Rest.here h = h
  have_on (Rest.behind p) h = have_on p h.2

  number_has : (t : Token) (n : ℤ) → t.kind ≡ kind.Number n → NumberHas Q t.kind → Q n
  number_has t n is h = subst (NumberHas Q) is h

  all_both : {A : Type 0} (Has : A → Type 0) (xs ys : List A) → AllHave Has xs → AllHave Has ys → AllHave Has (xs ++ ys)
  all_both Has [] ys h k = k
  all_both Has (x ∷ xs) ys h k = (h.0, all_both Has xs ys h.1 k)

  module _ (eof : Q (negsuc 0)) (one : Q (pos 1)) where
    mutual
      level_has : {k : ℕ} {e : Expr} {ts us : List Token} → IsLevel k e ts us → Have ts → ExprHas P Q e
      level_has (IsLevel.operand d) h = unary_has d h
      level_has (IsLevel.level d q) h = tail_has q (level_has d h) (have_on (level_rest d) h)

      tail_has : {k : ℕ} {a e : Expr} {ts us : List Token} → IsTail k a e ts us → ExprHas P Q a → Have ts → ExprHas P Q e
      tail_has IsTail.done before h = before
      tail_has (IsTail.more _ d q) before h = tail_has q (ExprHas.binary before (level_has d h.2) h.0) (have_on (level_rest d) h.2)

      unary_has : {e : Expr} {ts us : List Token} → IsUnary e ts us → Have ts → ExprHas P Q e
      unary_has (IsUnary.plain d) h = post_has d h
      unary_has (IsUnary.minus _ d) h = ExprHas.unary (unary_has d h.2) h.0
      unary_has (IsUnary.not _ d) h = ExprHas.unary (unary_has d h.2) h.0
      unary_has (IsUnary.deref _ d) h = ExprHas.deref (unary_has d h.2) h.0

      post_has : {e : Expr} {ts us : List Token} → IsPost e ts us → Have ts → ExprHas P Q e
      post_has (IsPost.post d q) h = posts_has q (prim_has d h) (have_on (prim_rest d) h)

      posts_has : {a e : Expr} {ts us : List Token} → IsPosts a e ts us → ExprHas P Q a → Have ts → ExprHas P Q e
      posts_has IsPosts.end before h = before
      posts_has (IsPosts.field _ _ d) before h = posts_has d (ExprHas.field before h.2.0 h.0) h.2.2
      posts_has (IsPosts.index _ d _ q) before h = posts_has q (ExprHas.index before (level_has d h.2) h.0) (have_on (rest_next (level_rest d)) h.2)

      prim_has : {e : Expr} {ts us : List Token} → IsPrim e ts us → Have ts → ExprHas P Q e
      prim_has (IsPrim.number {t = t} {value = n} is) h = ExprHas.const (number_has t n is h.1) h.0
      prim_has (IsPrim.null _) h = ExprHas.null h.0
      prim_has (IsPrim.eof _) h = ExprHas.const eof h.0
      prim_has (IsPrim.variable _) h = ExprHas.var h.0
      prim_has (IsPrim.group _ d _) h = level_has d h.2

    arg_has : {a : Arg} {ts us : List Token} → IsArg a ts us → Have ts → ArgHas P Q a
    arg_has (IsArg.argument d) h = (h.0, level_has d h)

    -- types

    base_has : {b : Base} {ts us : List Token} → IsBase b ts us → Have ts → BaseHas P b
    base_has (IsBase.int _) h = tt
    base_has (IsBase.tag _ _) h = h.2.0
    base_has (IsBase.alias _) h = h.0

    optional_name_has : {w : Option Word} {ts us : List Token} → IsOptionalName w ts us → Have ts → AnyHas (WordHas P) w
    optional_name_has IsOptionalName.none h = tt
    optional_name_has (IsOptionalName.named _) h = h.0

    cast_has : {c : Option Spec} {ts us : List Token} → IsCast c ts us → Have ts → AnyHas (SpecHas P) c
    cast_has IsCast.none h = tt
    cast_has (IsCast.cast _ d _ _) h = (h.2.0, base_has d h.2, tt)

    unit_has : {u : Counted} {at : ℕ} {ts us : List Token} → IsUnit u at ts us → Have ts → P at × UnitHas P u
    unit_has (IsUnit.of_type _ _ d _) h = (h.0, (h.2.2.0, base_has d h.2.2, tt))
    unit_has (IsUnit.of_star_within _ _ _ _ _) h = (h.0, h.2.2.2.0)
    unit_has (IsUnit.of_star _ _ _) h = (h.0, h.2.2.0)

    size_has : {z : Size} {ts us : List Token} → IsSize z ts us → Have ts → SizeHas P Q z
    size_has (IsSize.one d) h = let u = unit_has d h in (u.0, u.1, tt)
    size_has (IsSize.count_before d _ q) h = let u = unit_has q (have_on (rest_next (level_rest d)) h) in (u.0, u.1, level_has d h)
    size_has (IsSize.count_behind d _ q) h = let u = unit_has d h in (u.0, u.1, unary_has q (have_on (rest_next (unit_rest d)) h))

    -- calls, assignments and declarations

    more_args_has : {args : List Arg} {at : ℕ} {ts us : List Token} → IsMoreArgs args at ts us → Have ts → AllHave (ArgHas P Q) args × P at
    more_args_has (IsMoreArgs.close _) h = (tt, h.0)
    more_args_has (IsMoreArgs.comma _ d q) h = let others = more_args_has q (have_on (arg_rest d) h.2) in ((arg_has d h.2, others.0), others.1)

    args_has : {args : List Arg} {at : ℕ} {ts us : List Token} → IsArgs args at ts us → Have ts → AllHave (ArgHas P Q) args × P at
    args_has (IsArgs.none _) h = (tt, h.0)
    args_has (IsArgs.some d q) h = let others = more_args_has q (have_on (arg_rest d) h) in ((arg_has d h, others.0), others.1)

    call_has : {c : Call} {ts us : List Token} → IsCall c ts us → Have ts → CallHas P Q c
    call_has (IsCall.user _ _ d) h = let args = args_has d h.2.2 in (h.0, args.0, args.1)
    call_has (IsCall.getchar _ _ _) h = h.0
    call_has (IsCall.putchar _ _ d _) h = (h.0, arg_has d h.2.2)
    call_has (IsCall.printf _ _ _ d) h = let args = more_args_has d h.2.2.2 in (h.0, h.2.2.0, args.0, args.1)
    call_has (IsCall.malloc d _ _ q _) h = let on = have_on (cast_rest d) h in (on.0, cast_has d h, size_has q on.2.2)

    right_has : {r : Right} {ts us : List Token} → IsRight r ts us → Have ts → RightHas P Q r
    right_has (IsRight.plain d) h = arg_has d h
    right_has (IsRight.called d) h = call_has d h

    place_has : {e : Expr} {ts us : List Token} → IsPlace e ts us → Have ts → ExprHas P Q e
    place_has (IsPlace.post d) h = post_has d h
    place_has (IsPlace.deref _ d) h = ExprHas.deref (unary_has d h.2) h.0

    one_has : (t : Token) → P t.start → RightHas P Q (one_at t)
    one_has t at = (at, ExprHas.const one at)

    simple_has : {s : Simple} {ts us : List Token} → IsSimple s ts us → Have ts → SimpleHas P Q s
    simple_has (IsSimple.put d _ q) h = let on = have_on (place_rest d) h in ((h.0, place_has d h), on.0, right_has q on.2)
    simple_has (IsSimple.change d _ q) h = let on = have_on (place_rest d) h in ((h.0, place_has d h), on.0, arg_has q on.2)
    simple_has (IsSimple.step_behind {t = t} d _) h = let on = have_on (post_rest d) h in ((h.0, post_has d h), on.0, one_has t on.0)
    simple_has (IsSimple.step_before {t = t} _ d) h = ((h.2.0, unary_has d h.2), h.0, one_has t h.0)

    declr_has : {b : Base} {f : Token} {d : Declr} {ts us : List Token} → IsDeclr b f d ts us → P f.start → BaseHas P b → Have ts → DeclrHas P Q d
    declr_has (IsDeclr.bare d _) at base h = let on = have_on (stars_rest d) h in ((at, base, on.0), on.0, tt)
    declr_has (IsDeclr.given d _ _ q) at base h = let on = have_on (stars_rest d) h in ((at, base, on.0), on.2.0, right_has q on.2.2)

    declrs_has : {b : Base} {f : Token} {ds : List Declr} {ts us : List Token} → IsDeclrs b f ds ts us → P f.start → BaseHas P b → Have ts → AllHave (DeclrHas P Q) ds
    declrs_has (IsDeclrs.last d) at base h = (declr_has d at base h, tt)
    declrs_has (IsDeclrs.more d _ q) at base h = (declr_has d at base h, declrs_has q at base (have_on (rest_next (declr_rest d)) h))

    decl_has : {ds : List Declr} {ts us : List Token} → IsDecl ds ts us → Have ts → AllHave (DeclrHas P Q) ds
    decl_has (IsDecl.decl d q) h = declrs_has q h.0 (base_has d h) (have_on (base_rest d) h)

    -- blocks

    free_has : {f : Free} {ts us : List Token} → IsFree f ts us → Have ts → FreeHas P Q f
    free_has (IsFree.free _ _ d _ _) h = (h.0, arg_has d h.2.2)

    gap_has : {frees : List Free} {ts us : List Token} → IsGap frees ts us → Have ts → AllHave (FreeHas P Q) frees
    gap_has IsGap.done h = tt
    gap_has (IsGap.empty _ d) h = gap_has d h.2
    gap_has (IsGap.free d q) h = (free_has d h, gap_has q (have_on (free_rest d) h))

    test_has : {e : Expr} {ts us : List Token} → IsTest e ts us → Have ts → ExprHas P Q e
    test_has (IsTest.test _ d _) h = level_has d h.2

    declared_starts : (ds : List Declr) → AllHave (DeclrHas P Q) ds → AllHave (StartHas P Q) (map start.Declare ds)
    declared_starts [] h = tt
    declared_starts (d ∷ ds) h = (h.0, declared_starts ds h.1)

    for_start_has : {starts : List Start} {ts us : List Token} → IsForStart starts ts us → Have ts → AllHave (StartHas P Q) starts
    for_start_has (IsForStart.none _) h = tt
    for_start_has (IsForStart.declare {declrs = ds} d _) h = declared_starts ds (decl_has d h)
    for_start_has (IsForStart.assign d _) h = (simple_has d h, tt)

    for_test_has : {test : Option Expr} {ts us : List Token} → IsForTest test ts us → Have ts → AnyHas (ExprHas P Q) test
    for_test_has (IsForTest.none _) h = tt
    for_test_has (IsForTest.test d _) h = level_has d h

    for_step_has : {step : Option Simple} {ts us : List Token} → IsForStep step ts us → Have ts → AnyHas (SimpleHas P Q) step
    for_step_has (IsForStep.none _) h = tt
    for_step_has (IsForStep.step d _) h = simple_has d h

    for_head_has : {x : ForHead} {ts us : List Token} → IsForHead x ts us → Have ts → ForHeadHas P Q x
    for_head_has (IsForHead.head _ d q r) h =
        let on = have_on (for_start_rest d) h.2 in
        (for_start_has d h.2, for_test_has q on, for_step_has r (have_on (for_test_rest q) on))

    mutual
      item_has : {i : Item} {end : ℕ} {ts us : List Token} → IsItem i end ts us → Have ts → ItemHas P Q i
      item_has (IsItem.declare d _) h = ItemHas.declare (decl_has d h)
      item_has (IsItem.assign d _) h = ItemHas.assign (simple_has d h)
      item_has (IsItem.call d _) h = ItemHas.does (call_has d h)
      item_has (IsItem.nest d) h = ItemHas.nest (block_has d h)
      item_has (IsItem.branch _ d q r) h =
          let on = have_on (test_rest d) h.2 in
          ItemHas.branch (ArmsHave.more_arms (test_has d h.2) (body_has q on) (else_has r (have_on (body_rest q) on)))
      item_has (IsItem.while _ d q) h = ItemHas.while (test_has d h.2) (body_has q (have_on (test_rest d) h.2))
      item_has (IsItem.for _ d q) h = ItemHas.for (for_head_has d h.2) (body_has q (have_on (for_head_rest d) h.2))
      item_has (IsItem.break _ _) h = ItemHas.break
      item_has (IsItem.continue _ _) h = ItemHas.continue
      item_has (IsItem.return _ _) h = ItemHas.return tt h.0
      item_has (IsItem.return_value _ d _) h = ItemHas.return (right_has d h.2) h.0

      else_has : {arms : List Arm} {last : Option Block} {before end : ℕ} {ts us : List Token} → IsElse arms last before end ts us → Have ts → ArmsHave P Q arms last
      else_has (IsElse.none _) h = ArmsHave.no_arm
      else_has (IsElse.else_if _ _ d q r) h =
          let on = have_on (test_rest d) h.2.2 in
          ArmsHave.more_arms (test_has d h.2.2) (body_has q on) (else_has r (have_on (body_rest q) on))
      else_has (IsElse.otherwise _ _ d) h = ArmsHave.otherwise (body_has d h.2)

      body_has : {b : Block} {end : ℕ} {ts us : List Token} → IsBody b end ts us → Have ts → BlockHas P Q b
      body_has (IsBody.braced d) h = block_has d h
      body_has (IsBody.unbraced {t = t} {end = end} _ d) h =
          BlockHas.parts [] false t.start end (PiecesHave.more_pieces [] t.start end tt (item_has d h) h.0 PiecesHave.no_piece) tt h.0
      body_has (IsBody.free {f = f} d) h = let x = free_has d h in BlockHas.parts (f ∷ []) false f.start f.end PiecesHave.no_piece (x, tt) x.0
      body_has (IsBody.empty {t = t} _) h = BlockHas.parts [] false t.start t.end PiecesHave.no_piece tt h.0

      block_has : {b : Block} {end : ℕ} {ts us : List Token} → IsBlock b end ts us → Have ts → BlockHas P Q b
      block_has (IsBlock.braces {t = t} {frees = frees} {end = end} _ d) h = let parts = pieces_has d h.2 in BlockHas.parts frees true t.start end parts.0 parts.1 h.0

      pieces_has : {pieces : List Piece} {frees : List Free} {end : ℕ} {ts us : List Token} → IsPieces pieces frees end ts us → Have ts → PiecesHave P Q pieces × AllHave (FreeHas P Q) frees
      pieces_has (IsPieces.last d _) h = (PiecesHave.no_piece, gap_has d h)
      pieces_has (IsPieces.more {t = t} {gap_frees = frees} {end = end} d q r) h =
          let on = have_on (gap_rest d) h in
          let others = pieces_has r (have_on (item_rest q) on) in
          (PiecesHave.more_pieces frees t.start end (gap_has d h) (item_has q on) on.0 others.0, others.1)

    -- external declarations

    field_names_has : {b : Base} {f : Token} {fields : List Spec} {ts us : List Token} → IsFieldNames b f fields ts us → P f.start → BaseHas P b → Have ts → AllHave (SpecHas P) fields
    field_names_has (IsFieldNames.last d _ _) at base h = let on = have_on (stars_rest d) h in ((at, base, on.0), tt)
    field_names_has (IsFieldNames.more d _ _ q) at base h = let on = have_on (stars_rest d) h in ((at, base, on.0), field_names_has q at base on.2.2)

    fields_has : {fields : List Spec} {ts us : List Token} → IsFields fields ts us → Have ts → AllHave (SpecHas P) fields
    fields_has (IsFields.last d q _) h = field_names_has q h.0 (base_has d h) (have_on (base_rest d) h)
    fields_has (IsFields.more {fields = fields} {others = others} d q r) h =
        let on = have_on (base_rest d) h in
        all_both (SpecHas P) fields others (field_names_has q h.0 (base_has d h) on) (fields_has r (have_on (field_names_rest q) on))

    struct_body_has : {b : Body} {ts us : List Token} → IsStructBody b ts us → Have ts → BodyHas P b
    struct_body_has (IsStructBody.body _ d) h = (h.0, fields_has d h.2)

    const_has : {e : Expr} {ts us : List Token} → IsConst e ts us → Have ts → ExprHas P Q e
    const_has (IsConst.number {t = t} {value = n} is) h = ExprHas.const (number_has t n is h.1) h.0
    const_has (IsConst.minus {t = t} {value = n} _ is) h = ExprHas.unary (ExprHas.const (number_has t n is h.2.1) h.2.0) h.0
    const_has (IsConst.null _) h = ExprHas.null h.0
    const_has (IsConst.eof _) h = ExprHas.const eof h.0

    global_has : {b : Base} {f : Token} {g : GlobalDecl} {ts us : List Token} → IsGlobal b f g ts us → P f.start → BaseHas P b → Have ts → GlobalHas P Q g
    global_has (IsGlobal.bare d _) at base h = let on = have_on (stars_rest d) h in ((at, base, on.0), on.0, tt)
    global_has (IsGlobal.given d _ _ q) at base h = let on = have_on (stars_rest d) h in ((at, base, on.0), on.2.0, const_has q on.2.2)

    globals_has : {b : Base} {f : Token} {gs : List GlobalDecl} {ts us : List Token} → IsGlobals b f gs ts us → P f.start → BaseHas P b → Have ts → AllHave (GlobalHas P Q) gs
    globals_has (IsGlobals.last d _) at base h = (global_has d at base h, tt)
    globals_has (IsGlobals.more d _ q) at base h = (global_has d at base h, globals_has q at base (have_on (rest_next (global_rest d)) h))

    param_has : {p : Spec} {ts us : List Token} → IsParam p ts us → Have ts → SpecHas P p
    param_has (IsParam.param d q r) h = (h.0, base_has d h, optional_name_has r (have_on (stars_rest q) (have_on (base_rest d) h)))

    more_params_has : {ps : List Spec} {ts us : List Token} → IsMoreParams ps ts us → Have ts → AllHave (SpecHas P) ps
    more_params_has (IsMoreParams.close _) h = tt
    more_params_has (IsMoreParams.comma _ d q) h = (param_has d h.2, more_params_has q (have_on (param_rest d) h.2))

    params_has : {ps : List Spec} {ts us : List Token} → IsParams ps ts us → Have ts → AllHave (SpecHas P) ps
    params_has (IsParams.nothing _) h = tt
    params_has (IsParams.void _ _) h = tt
    params_has (IsParams.some d q) h = (param_has d h, more_params_has q (have_on (param_rest d) h))

    head_has : {x : Head} {ts us : List Token} → IsHead x ts us → Have ts → HeadHas P x
    head_has (IsHead.void _ _ _ d) h = ((h.0, tt, h.2.0), params_has d h.2.2.2)
    head_has (IsHead.value d q _ _ r) h =
        let on = have_on (stars_rest q) (have_on (base_rest d) h) in
        ((h.0, base_has d h, on.0), params_has r on.2.2)

    pub top_has : {x : Top} {ts us : List Token} → IsTop x ts us → Have ts → TopHas P Q x
    top_has (IsTop.alias _ _ _ _ _) h = (h.2.2.0, tt, h.2.2.2.0)
    top_has (IsTop.alias_of_body _ _ d q _ _) h =
        let named = have_on (optional_name_rest d) h.2.2 in
        (optional_name_has d h.2.2, struct_body_has q named, (have_on (struct_body_rest q) named).0)
    top_has (IsTop.tag _ _ _) h = (h.2.0, tt, tt)
    top_has (IsTop.tag_of_body _ _ d _) h = (h.2.0, struct_body_has d h.2.2, tt)
    top_has (IsTop.globals d q) h = globals_has q h.0 (base_has d h) (have_on (base_rest d) h)
    top_has (IsTop.prototype d _) h = head_has d h
    top_has (IsTop.function d q) h = (head_has d h, block_has q (have_on (head_rest d) h))

    pub file_has : {tops : List Top} {ts : List Token} → IsFile tops ts → Have ts → AllHave (TopHas P Q) tops
    file_has IsFile.done h = tt
    file_has (IsFile.more d q) h = (top_has d h, file_has q (have_on (top_rest d) h))
