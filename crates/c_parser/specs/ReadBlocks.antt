-- How statements and blocks are read, each with the end of its last token.
use Rattle.std.specs.Prelude.{ℕ, zero, suc, true, false, if◌then◌else◌, List, [], ◌∷◌, ◌++◌, map, length, drop, Option, Some, None}
use Rattle.c_lexer.specs.declared.token.Token.{Token}
use Rattle.c_tree.specs.declared.tree.Arm.{Arm}
use Rattle.c_tree.specs.declared.tree.Block.{Block}
use Rattle.c_tree.specs.declared.tree.Expr.{Expr}
use Rattle.c_tree.specs.declared.tree.ForHead.{ForHead}
use Rattle.c_tree.specs.declared.tree.Free.{Free}
use Rattle.c_tree.specs.declared.tree.Item.{Item}
use Rattle.c_tree.specs.declared.tree.Item.TheVariants as item
use Rattle.c_tree.specs.declared.tree.Piece.{Piece}
use Rattle.c_tree.specs.declared.tree.Simple.{Simple}
use Rattle.c_tree.specs.declared.tree.Start.{Start}
use Rattle.c_tree.specs.declared.tree.Start.TheVariants as start
use Rattle.c_parser.specs.declared.term.Term.{Term}
use Rattle.c_parser.specs.declared.term.Term.TheVariants as term
use Rattle.c_parser.specs.Term.{term_of, next, same}
use Rattle.c_parser.specs.Blocks.{piece, arm, block}
use Rattle.c_parser.specs.ReadExpressions.{Read, mapped, chained, read_want, read_expr, read_arg}
use Rattle.c_parser.specs.ReadStatements.{read_call, begins_call, read_right, read_simple, read_decl, begins_decl}

-- frees and gaps

unfoldable pub read_free : ℕ → Read Free
read_free depth ts =
    chained (read_want term.Free ts) (λ t us. chained (read_want term.Open us) (λ o vs. chained (read_arg depth vs) (λ a ws.
    chained (read_want term.Close ws) (λ c xs. mapped (λ s. record { expr = a; start = t.start; end = s.end }) (read_want term.Semicolon xs)))))

abbrev pub read_gap_at : ℕ → (List Free → Read (List Free)) → List Free → Term → Token → Read (List Free)
read_gap_at depth on front term.Semicolon t ts = on front ts
read_gap_at depth on front term.Free t ts = chained (read_free depth (t ∷ ts)) (λ f us. on (front ++ f ∷ []) us)
read_gap_at depth on front _ t ts = Some (front, t ∷ ts)

unfoldable pub read_gap : ℕ → ℕ → List Free → Read (List Free)
read_gap depth zero front ts = None
read_gap depth (suc n) front [] = None
read_gap depth (suc n) front (t ∷ ts) = read_gap_at depth (read_gap depth n) front (term_of t) t ts

-- heads of statements

unfoldable pub read_test : ℕ → Read Expr
read_test depth ts = chained (read_want term.Open ts) (λ o us. chained (read_expr depth us) (λ e vs. mapped (λ c. e) (read_want term.Close vs)))

-- what is read, with a `;` behind it
abbrev pub ended : {A : Type 0} → Option (A × List Token) → Option ((A × ℕ) × List Token)
ended r = chained r (λ x us. mapped (λ s. (x, s.end)) (read_want term.Semicolon us))

abbrev pub starts_of : Read (List Start × ℕ) → Read (List Start)
starts_of read ts = mapped (λ p. p.0) (read ts)

unfoldable pub read_for_start : ℕ → Read (List Start)
read_for_start depth [] = None
read_for_start depth (t ∷ ts) =
    if same term.Semicolon (term_of t) then Some ([], ts)
    else (if begins_decl (t ∷ ts) then mapped (λ p. map start.Declare p.0) (ended (read_decl depth (t ∷ ts)))
    else mapped (λ p. start.Assign p.0 ∷ []) (ended (read_simple depth (t ∷ ts))))

unfoldable pub read_for_test : ℕ → Read (Option Expr)
read_for_test depth [] = None
read_for_test depth (t ∷ ts) =
    if same term.Semicolon (term_of t) then Some (None, ts) else mapped (λ p. Some p.0) (ended (read_expr depth (t ∷ ts)))

unfoldable pub read_for_step : ℕ → Read (Option Simple)
read_for_step depth [] = None
read_for_step depth (t ∷ ts) =
    if same term.Close (term_of t) then Some (None, ts)
    else chained (read_simple depth (t ∷ ts)) (λ s us. mapped (λ c. Some s) (read_want term.Close us))

unfoldable pub read_for_head : ℕ → Read ForHead
read_for_head depth ts =
    chained (read_want term.Open ts) (λ o us. chained (read_for_start depth us) (λ starts vs. chained (read_for_test depth vs) (λ test ws.
    mapped (λ step. record { start = starts; test = test; step = step }) (read_for_step depth ws))))

-- blocks and bodies; the reader within is that of the items in them

abbrev pub read_pieces_at : Read (Item × ℕ) → (List Piece → Read (Block × ℕ)) → ℕ → List Piece → List Free → Read (Block × ℕ)
read_pieces_at within on begun front frees [] = None
read_pieces_at within on begun front frees (t ∷ ts) =
    if same term.CloseBrace (term_of t) then Some ((block front frees true begun t.end, t.end), ts)
    else chained (within (t ∷ ts)) (λ i us. on (front ++ piece frees i.0 t.start i.1 ∷ []) us)

-- {piece} "}", of a block that began at a place
unfoldable pub read_pieces : ℕ → Read (Item × ℕ) → ℕ → ℕ → List Piece → Read (Block × ℕ)
read_pieces depth within begun zero front ts = None
read_pieces depth within begun (suc n) front ts =
    chained (read_gap depth (length ts) [] ts) (λ frees us. read_pieces_at within (read_pieces depth within begun n) begun front frees us)

unfoldable pub read_block : ℕ → Read (Item × ℕ) → Read (Block × ℕ)
read_block depth within ts = chained (read_want term.OpenBrace ts) (λ t us. read_pieces depth within t.start (length us) [] us)

-- a body that isn't a block
abbrev pub body_of : Token → Item × ℕ → Block × ℕ
body_of t i = (block (piece [] i.0 t.start i.1 ∷ []) [] false t.start i.1, i.1)

abbrev pub read_body_at : ℕ → Read (Item × ℕ) → Term → Token → Read (Block × ℕ)
read_body_at depth within term.OpenBrace t ts = read_block depth within (t ∷ ts)
read_body_at depth within term.Free t ts = mapped (λ f. (block [] (f ∷ []) false f.start f.end, f.end)) (read_free depth (t ∷ ts))
read_body_at depth within term.Semicolon t ts = Some ((block [] [] false t.start t.end, t.end), ts)
read_body_at depth within _ t ts = mapped (body_of t) (within (t ∷ ts))

unfoldable pub read_body : ℕ → Read (Item × ℕ) → Read (Block × ℕ)
read_body depth within [] = None
read_body depth within (t ∷ ts) = read_body_at depth within (term_of t) t ts

-- "(" expr ")" body
unfoldable pub read_arm : ℕ → Read (Item × ℕ) → Read (Arm × ℕ)
read_arm depth within ts = chained (read_test depth ts) (λ e us. mapped (λ b. (arm e b.0, b.1)) (read_body depth within us))

-- the arms so far, and the end of the last one; then those behind them
abbrev pub read_else_at : ℕ → Read (Item × ℕ) → (List Arm → ℕ → Read (Item × ℕ)) → List Arm → Term → Read (Item × ℕ)
read_else_at depth within on front term.If ts = chained (read_arm depth within (drop 1 ts)) (λ a us. on (front ++ a.0 ∷ []) a.1 us)
read_else_at depth within on front _ ts = mapped (λ b. (item.If front (Some b.0), b.1)) (read_body depth within ts)

unfoldable pub read_else : ℕ → Read (Item × ℕ) → ℕ → List Arm → ℕ → Read (Item × ℕ)
read_else depth within zero front end ts = None
read_else depth within (suc n) front end [] = Some ((item.If front None, end), [])
read_else depth within (suc n) front end (t ∷ ts) =
    if same term.Else (term_of t) then read_else_at depth within (read_else depth within n) front (next ts) ts
    else Some ((item.If front None, end), t ∷ ts)

-- items

unfoldable pub read_branch : ℕ → Read (Item × ℕ) → Read (Item × ℕ)
read_branch depth within ts = chained (read_arm depth within ts) (λ a us. read_else depth within (length ts) (a.0 ∷ []) a.1 us)

unfoldable pub read_while : ℕ → Read (Item × ℕ) → Read (Item × ℕ)
read_while depth within ts = chained (read_test depth ts) (λ e us. mapped (λ b. (item.While e b.0, b.1)) (read_body depth within us))

unfoldable pub read_for : ℕ → Read (Item × ℕ) → Read (Item × ℕ)
read_for depth within ts = chained (read_for_head depth ts) (λ h us. mapped (λ b. (item.For h b.0, b.1)) (read_body depth within us))

unfoldable pub read_return : ℕ → Token → Read (Item × ℕ)
read_return depth t [] = None
read_return depth t (s ∷ ts) =
    if same term.Semicolon (term_of s) then Some ((item.Return None t.start, s.end), ts)
    else mapped (λ p. (item.Return (Some p.0) t.start, p.1)) (ended (read_right depth (s ∷ ts)))

-- a declaration, a call or an assignment
unfoldable pub read_plain_item : ℕ → Read (Item × ℕ)
read_plain_item depth ts =
    if begins_decl ts then mapped (λ p. (item.Declare p.0, p.1)) (ended (read_decl depth ts))
    else (if begins_call ts then mapped (λ p. (item.Do p.0, p.1)) (ended (read_call depth ts))
    else mapped (λ p. (item.Assign p.0, p.1)) (ended (read_simple depth ts)))

abbrev pub read_item_at : ℕ → Read (Item × ℕ) → Term → Token → Read (Item × ℕ)
read_item_at depth within term.OpenBrace t ts = mapped (λ b. (item.Nest b.0, b.1)) (read_block depth within (t ∷ ts))
read_item_at depth within term.If t ts = read_branch depth within ts
read_item_at depth within term.While t ts = read_while depth within ts
read_item_at depth within term.For t ts = read_for depth within ts
read_item_at depth within term.Break t ts = mapped (λ s. (item.Break, s.end)) (read_want term.Semicolon ts)
read_item_at depth within term.Continue t ts = mapped (λ s. (item.Continue, s.end)) (read_want term.Semicolon ts)
read_item_at depth within term.Return t ts = read_return depth t ts
read_item_at depth within _ t ts = read_plain_item depth (t ∷ ts)

-- an item, with the reader of those in its bodies
abbrev pub read_item_by : ℕ → Read (Item × ℕ) → Read (Item × ℕ)
read_item_by depth within [] = None
read_item_by depth within (t ∷ ts) = read_item_at depth within (term_of t) t ts

unfoldable pub read_item : ℕ → Read (Item × ℕ)
read_item zero ts = None
read_item (suc depth) ts = read_item_by (suc depth) (read_item depth) ts
