-- The tree of an edited text: the tree of the text with the frees of each gap in which they change written anew. Whether a
-- body has braces is left open, and so are offsets but those of the braces that end functions. Each part is walked as
-- names and types are, since that numbers the gaps and says whether the old frees are those of the choice.
use Rattle.std.specs.Prelude.{◌≡◌, ℕ, Bool, true, false, List, [], ◌∷◌, length, map, Option, Some, None}
use Rattle.c_lexer.specs.declared.token.Token.{Token}
use Rattle.c_lexer.specs.declared.token.Kind.{Kind}
use Rattle.c_tree.specs.declared.choice.Put.{Put}
use Rattle.c_tree.specs.declared.program.Program.{Program}
use Rattle.c_tree.specs.declared.tree.Arm.{Arm}
use Rattle.c_tree.specs.declared.tree.Block.{Block}
use Rattle.c_tree.specs.declared.tree.Call.{Call}
use Rattle.c_tree.specs.declared.tree.Declr.{Declr}
use Rattle.c_tree.specs.declared.tree.Expr.{Expr}
use Rattle.c_tree.specs.declared.tree.Expr.TheVariants as expr
use Rattle.c_tree.specs.declared.tree.ForHead.{ForHead}
use Rattle.c_tree.specs.declared.tree.Free.{Free}
use Rattle.c_tree.specs.declared.tree.Body.{Body}
use Rattle.c_tree.specs.declared.tree.GlobalDecl.{GlobalDecl}
use Rattle.c_tree.specs.declared.tree.Head.{Head}
use Rattle.c_tree.specs.declared.tree.Item.{Item}
use Rattle.c_tree.specs.declared.tree.Item.TheVariants as item
use Rattle.c_tree.specs.declared.tree.Piece.{Piece}
use Rattle.c_tree.specs.declared.tree.Right.{Right}
use Rattle.c_tree.specs.declared.tree.Simple.{Simple}
use Rattle.c_tree.specs.declared.tree.Top.{Top}
use Rattle.c_tree.specs.declared.tree.Top.TheVariants as top
use Rattle.c_tree.specs.declared.tree.Word.{Word}
use Rattle.c_tree.specs.Fill.{puts_at}
use Rattle.c_parser.specs.Blocks.{gap, piece, arm, block}
use Rattle.c_types.specs.declared.scope.Nesting.{Nesting}
use Rattle.c_types.specs.declared.scope.Walk.{Walk}
use Rattle.c_types.specs.Blocks.{in_loop, walked_arm, walked_gap, walked_head, walked_item, walked_test, within}
use Rattle.c_types.specs.Functions.{body_nesting, brace_of, walked_heading, walked_param}
use Rattle.c_types.specs.InTurn.{each}
use Rattle.c_types.specs.Program.{walked_top}
use Rattle.source_patcher.specs.Edit.{field_name, variable_name}
use Rattle.source_patcher.specs.Gaps.{are_put}

-- a written token; where it stands is left open
abbrev pub new_token : Kind → Token
new_token k = record { kind = k; start = 0; end = 0 }

-- a written name
abbrev pub freed_expr : Program → ℕ → Option ℕ → Expr
freed_expr p x None = expr.Var (record { text = variable_name p x; at = 0 })
freed_expr p x (Some f) = expr.Field (expr.Var (record { text = variable_name p x; at = 0 })) (record { text = field_name p x f; at = 0 }) 0

-- a written free
abbrev pub written_free : Program → Put → Free
written_free p q = record { expr = record { expr = freed_expr p q.var q.field; at = 0 }; start = 0; end = 0 }

-- the old frees of a gap are those of the choice
abbrev pub stays : List Put → List Free → Walk → Bool
stays puts frees w = are_put (walked_gap (gap frees) w).1.frees (puts_at puts w.gaps)

-- behind a gap
abbrev pub behind_gap : List Free → Walk → Walk
behind_gap frees w = (walked_gap (gap frees) w).0

-- the frees of a gap in the edited text, by whether they stay
abbrev pub refilled_by : Program → Bool → List Free → List Put → List Free
refilled_by p true frees new = frees
refilled_by p false frees new = map (written_free p) new

abbrev pub refilled : Program → List Put → List Free → Walk → List Free
refilled p puts frees w = refilled_by p (stays puts frees w) frees (puts_at puts w.gaps)

module _ (p : Program) (puts : List Put) where
  mutual
    -- an item where it is nested, behind a walk
    pub data IsRefilledItem : Nesting → Walk → Item → Item → Type 0 where
      declare : {n : Nesting} {w : Walk} (ds : List Declr) → IsRefilledItem n w (item.Declare ds) (item.Declare ds)
      assign : {n : Nesting} {w : Walk} (s : Simple) → IsRefilledItem n w (item.Assign s) (item.Assign s)
      call : {n : Nesting} {w : Walk} (c : Call) → IsRefilledItem n w (item.Do c) (item.Do c)
      nest : {n : Nesting} {w : Walk} {b c : Block} → IsRefilledBlock (within n) w b c → IsRefilledItem n w (item.Nest b) (item.Nest c)
      branch : {n : Nesting} {w : Walk} {arms others : List Arm} {last final : Option Block} → IsRefilledArms n w arms last others final → IsRefilledItem n w (item.If arms last) (item.If others final)
      while : {n : Nesting} {w : Walk} (e : Expr) {b c : Block} → IsRefilledBlock (in_loop n) (walked_test e w).0 b c → IsRefilledItem n w (item.While e b) (item.While e c)
      for : {n : Nesting} {w : Walk} (h : ForHead) {b c : Block} → IsRefilledBlock (in_loop (within n)) (walked_head (within n) h w).0 b c → IsRefilledItem n w (item.For h b) (item.For h c)
      break : {n : Nesting} {w : Walk} → IsRefilledItem n w item.Break item.Break
      continue : {n : Nesting} {w : Walk} → IsRefilledItem n w item.Continue item.Continue
      return : {n : Nesting} {w : Walk} (r : Option Right) (at : ℕ) → IsRefilledItem n w (item.Return r at) (item.Return r at)

    pub data IsRefilledArms : Nesting → Walk → List Arm → Option Block → List Arm → Option Block → Type 0 where
      none : {n : Nesting} {w : Walk} → IsRefilledArms n w [] None [] None
      otherwise : {n : Nesting} {w : Walk} {b c : Block} → IsRefilledBlock (within n) w b c → IsRefilledArms n w [] (Some b) [] (Some c)
      next : {n : Nesting} {w : Walk} (e : Expr) {b c : Block} {arms others : List Arm} {last final : Option Block} →
          IsRefilledBlock (within n) (walked_test e w).0 b c → IsRefilledArms n (walked_arm (arm e b) n w).0 arms last others final
          → IsRefilledArms n w (arm e b ∷ arms) last (arm e c ∷ others) final

    pub data IsRefilledBlock : Nesting → Walk → Block → Block → Type 0 where
      pieces : {n : Nesting} {w : Walk} {ps qs : List Piece} {fs gs : List Free} (braced braced' : Bool) (start end start' end' : ℕ) →
          IsRefilledPieces n w ps fs qs gs → IsRefilledBlock n w (block ps fs braced start end) (block qs gs braced' start' end')

    pub data IsRefilledPieces : Nesting → Walk → List Piece → List Free → List Piece → List Free → Type 0 where
      last : {n : Nesting} {w : Walk} {frees : List Free} → IsRefilledPieces n w [] frees [] (refilled p puts frees w)
      more : {n : Nesting} {w : Walk} {fs gs : List Free} {i j : Item} {ps qs : List Piece} (frees : List Free) (start end start' end' : ℕ) →
          IsRefilledItem n (behind_gap frees w) i j → IsRefilledPieces n (walked_item i start n (behind_gap frees w)).0 ps fs qs gs
          → IsRefilledPieces n w (piece frees i start end ∷ ps) fs (piece (refilled p puts frees w) j start' end' ∷ qs) gs

  -- a declaration of the file behind a walk
  pub data IsRefilledTop : Walk → Top → Top → Type 0 where
    struct : {w : Walk} (tag : Option Word) (body : Option Body) (alias : Option Word) → IsRefilledTop w (top.Struct tag body alias) (top.Struct tag body alias)
    globals : {w : Walk} (ds : List GlobalDecl) → IsRefilledTop w (top.Globals ds) (top.Globals ds)
    prototype : {w : Walk} (h : Head) → IsRefilledTop w (top.Proto h) (top.Proto h)
    function : {w : Walk} (h : Head) {b c : Block} → brace_of c ≡ brace_of b
        → IsRefilledBlock (body_nesting (length w.funs) (walked_heading h true w).1) (each (walked_param (length w.funs)) h.params (walked_heading h true w).0).0 b c
        → IsRefilledTop w (top.Fun h b) (top.Fun h c)

  pub data IsRefilledFile : Walk → List Top → List Top → Type 0 where
    done : {w : Walk} → IsRefilledFile w [] []
    more : {w : Walk} {x y : Top} {xs ys : List Top} → IsRefilledTop w x y → IsRefilledFile (walked_top w x) xs ys → IsRefilledFile w (x ∷ xs) (y ∷ ys)
