-- The edited text is of the tree that is refilled. The edits of each part are those along its derivation, put before the edits
-- that follow; the tokens that they make are those of the refilled part, before the rest in the edited text.
use Rattle.std.proofs.Common.{◌≡◌, ℕ, ◌-◌, Bool, true, false, ◌||◌, List, [], ◌∷◌, map, Option, Some, None, codes, refl, sym, subst, ap, ◌∙◌}
use Rattle.c_lexer.specs.declared.token.Token.{Token}
use Rattle.c_lexer.specs.declared.token.Kind.{Kind}
use Rattle.c_lexer.specs.declared.token.Kind.TheVariants.{Punct}
use Rattle.c_lexer.proofs.Order.{Ascends}
use Rattle.c_tree.specs.declared.choice.Put.{Put}
use Rattle.c_tree.specs.declared.program.Program.{Program}
use Rattle.c_tree.specs.declared.tree.Arm.{Arm}
use Rattle.c_tree.specs.declared.tree.Block.{Block, Block-F, out-roll-Block}
use Rattle.c_tree.specs.declared.tree.Free.{Free}
use Rattle.c_tree.specs.declared.tree.Item.{Item}
use Rattle.c_tree.specs.declared.tree.Item.TheVariants as item
use Rattle.c_tree.specs.declared.tree.Piece.{Piece}
use Rattle.c_tree.specs.Fill.{puts_at}
use Rattle.c_parser.specs.declared.term.Term.TheVariants as term
use Rattle.c_parser.specs.Term.{term_of, same, sees}
use Rattle.c_parser.specs.Blocks.{IsFree, IsGap, IsItem, IsElse, IsBody, IsBlock, IsPieces, arm, block, gap, piece}
use Rattle.c_parser.proofs.Exchanges.{SameFront, KeepsElse, decl_exchanged, simple_exchanged, call_exchanged, right_exchanged, test_exchanged, for_head_exchanged}
use Rattle.c_parser.proofs.Rests.{Rest, rest_more, gap_rest, item_rest, test_rest, for_head_rest, body_rest}
use Rattle.c_types.specs.declared.scope.Nesting.{Nesting}
use Rattle.c_types.specs.declared.scope.Walk.{Walk}
use Rattle.c_types.specs.Blocks.{in_loop, walked_arm, walked_head, walked_item, walked_test, within}
use Rattle.c_types.specs.Functions.{brace_of}
use Rattle.source_patcher.specs.Gaps.{are_put}
use Rattle.source_patcher.specs.Refilled.{IsRefilledItem, IsRefilledArms, IsRefilledBlock, IsRefilledPieces, behind_gap, new_token, refilled_by, stays, written_free}
use Rattle.source_patcher.proofs.Blanked.{free_gone, free_kept, gap_edits_by, gap_image, same_turns}
use Rattle.source_patcher.proofs.Inserts.{Anywhere, AreSpelled, inserts, is_close_brace, is_open_brace, no_else, no_else_close, no_if_open, no_if_semicolon, puts_are, puts_behind, puts_kinds, puts_read, puts_tokens, sees_other, text_before}
use Rattle.source_patcher.proofs.TextEdits.{TextEdit}
use Rattle.source_patcher.proofs.Texts.{adds_close, adds_open, punct_close_brace, punct_open_brace}
use Rattle.source_patcher.proofs.Turns.{Turns, inserted, kinds}

-- a free is written into a gap
abbrev pub writes_by : Bool → List Put → Bool
writes_by true new = false
writes_by false [] = false
writes_by false (q ∷ qs) = true

-- a brace before other edits, or none
abbrev pub brace_edit : Bool → ℕ → List ℕ → List TextEdit → List TextEdit
brace_edit true at text es = inserted at text ∷ es
brace_edit false at text es = es

abbrev pub open_text : List ℕ
open_text = codes " { "

abbrev pub close_text : List ℕ
close_text = codes " } "

abbrev pub open_token : Token
open_token = new_token (Punct punct_open_brace)

abbrev pub close_token : Token
close_token = new_token (Punct punct_close_brace)

brace_at : (ps : List Piece) (frees : List Free) (braced : Bool) (start end : ℕ) → brace_of (block ps frees braced start end) ≡ end - 1
brace_at ps frees braced start end = ap (λ (l : Block-F Item Arm Block Piece). l.end - 1) (out-roll-Block (record { items = ps; last_gap = gap frees; braced = braced; start = start; end = end }))

abbrev pub new_at : List Put → Walk → List Put
new_at puts w = puts_at puts w.gaps

-- ---- edits along a derivation

module _ (all : List Token) (prog : Program) (puts : List Put) where
  abbrev pub gap_edits : ℕ → List Free → Walk → List TextEdit → List TextEdit
  gap_edits at frees w es = gap_edits_by all prog (stays puts frees w) frees (new_at puts w) at es

  abbrev pub gap_writes : List Free → Walk → Bool
  gap_writes frees w = writes_by (stays puts frees w) (new_at puts w)

  unfoldable mutual
    pub item_edits : {i : Item} {end : ℕ} {ts us : List Token} → IsItem i end ts us → Nesting → Walk → List TextEdit → List TextEdit
    item_edits (IsItem.declare d is) n w es = es
    item_edits (IsItem.assign d is) n w es = es
    item_edits (IsItem.call d is) n w es = es
    item_edits (IsItem.nest d) n w es = block_edits d (within n) w es
    item_edits (IsItem.branch {e = e} {b = b} is d q r) n w es = body_edits q (within n) (walked_test e w).0 (else_edits r n (walked_arm (arm e b) n w).0 es)
    item_edits (IsItem.while {e = e} is d q) n w es = body_edits q (in_loop n) (walked_test e w).0 es
    item_edits (IsItem.for {h = h} is d q) n w es = body_edits q (in_loop (within n)) (walked_head (within n) h w).0 es
    item_edits (IsItem.break is_t is_s) n w es = es
    item_edits (IsItem.continue is_t is_s) n w es = es
    item_edits (IsItem.return is_t is_s) n w es = es
    item_edits (IsItem.return_value is_t d is_s) n w es = es

    pub else_edits : {arms : List Arm} {last : Option Block} {before end : ℕ} {ts us : List Token} → IsElse arms last before end ts us → Nesting → Walk → List TextEdit → List TextEdit
    else_edits (IsElse.none is) n w es = es
    else_edits (IsElse.else_if {e = e} {b = b} is_t is_i d q r) n w es = body_edits q (within n) (walked_test e w).0 (else_edits r n (walked_arm (arm e b) n w).0 es)
    else_edits (IsElse.otherwise is_t no_if d) n w es = body_edits d (within n) w es

    pub body_edits : {b : Block} {end : ℕ} {ts us : List Token} → IsBody b end ts us → Nesting → Walk → List TextEdit → List TextEdit
    body_edits (IsBody.braced d) n w es = block_edits d n w es
    body_edits (IsBody.unbraced {t = t} {i = i} {end = end} is d) n w es =
        let v = behind_gap [] w in
        let u = (walked_item i t.start n v).0 in
        let braces = gap_writes [] w || gap_writes [] u in
        brace_edit braces t.start open_text (gap_edits t.start [] w (item_edits d n v (gap_edits end [] u (brace_edit braces end close_text es))))
    body_edits (IsBody.free {f = f} d) n w es =
        let braces = gap_writes (f ∷ []) w in
        brace_edit braces f.start open_text (gap_edits f.end (f ∷ []) w (brace_edit braces f.end close_text es))
    body_edits (IsBody.empty {t = t} is) n w es =
        let braces = gap_writes [] w in
        brace_edit braces t.start open_text (gap_edits t.end [] w (brace_edit braces t.end close_text es))

    pub block_edits : {b : Block} {end : ℕ} {ts us : List Token} → IsBlock b end ts us → Nesting → Walk → List TextEdit → List TextEdit
    block_edits (IsBlock.braces is d) n w es = pieces_edits d n w es

    pub pieces_edits : {ps : List Piece} {frees : List Free} {end : ℕ} {ts us : List Token} → IsPieces ps frees end ts us → Nesting → Walk → List TextEdit → List TextEdit
    pieces_edits (IsPieces.last {t = t} {frees = frees} d is) n w es = gap_edits (t.end - 1) frees w es
    pieces_edits (IsPieces.more {t = t} {gap_frees = gap_frees} {i = i} d q r) n w es =
        gap_edits t.start gap_frees w (item_edits q n (behind_gap gap_frees w) (pieces_edits r n (walked_item i t.start n (behind_gap gap_frees w)).0 es))

-- ---- what they make

module _ (prog : Program) (puts : List Put) where
  -- an item whose first token stays
  pub record ItemImage (n : Nesting) (w : Walk) (i : Item) (t : Token) (ts us' : List Token) (es : List TextEdit) : Type 0 where
    pub item : Item
    pub end : ℕ
    pub list : List Token
    pub is : IsItem item end (t ∷ list) us'
    pub turns : Turns t.end es ts (kinds list)
    pub refilled : IsRefilledItem prog puts n w i item

  abbrev pub ItemImages : Nesting → Walk → Item → List Token → List Token → List TextEdit → Type 0
  ItemImages n w i [] us' es = ⊥
  ItemImages n w i (t ∷ ts) us' es = ItemImage n w i t ts us' es

  -- a block within braces
  pub record BlockImage (n : Nesting) (w : Walk) (b : Block) (t : Token) (ts us' : List Token) (es : List TextEdit) : Type 0 where
    pub block : Block
    pub end : ℕ
    pub list : List Token
    pub is : IsBlock block end (t ∷ list) us'
    pub ends : brace_of block ≡ brace_of b
    pub turns : Turns t.end es ts (kinds list)
    pub refilled : IsRefilledBlock prog puts n w b block

  abbrev pub BlockImages : Nesting → Walk → Block → List Token → List Token → List TextEdit → Type 0
  BlockImages n w b [] us' es = ⊥
  BlockImages n w b (t ∷ ts) us' es = BlockImage n w b t ts us' es

  pub record BodyImage (n : Nesting) (w : Walk) (b : Block) (ts us' : List Token) (es : List TextEdit) : Type 0 where
    pub block : Block
    pub end : ℕ
    pub list : List Token
    pub is : IsBody block end list us'
    pub turns : Anywhere es ts (kinds list)
    pub keeps_if : sees term.If ts ≡ false → sees term.If list ≡ false
    pub refilled : IsRefilledBlock prog puts n w b block

  -- the pieces of a block up to its brace
  pub record PiecesImage (n : Nesting) (w : Walk) (ps : List Piece) (frees : List Free) (old : ℕ) (ts us' : List Token) (es : List TextEdit) : Type 0 where
    pub pieces : List Piece
    pub others : List Free
    pub end : ℕ
    pub list : List Token
    pub is : IsPieces pieces others end list us'
    pub ends : end ≡ old
    pub turns : Anywhere es ts (kinds list)
    pub keeps : KeepsElse ts list
    pub refilled : IsRefilledPieces prog puts n w ps frees pieces others

  -- the arms behind one that ends at an offset
  pub record ElseImage (n : Nesting) (w : Walk) (arms : List Arm) (last : Option Block) (before : ℕ) (ts us' : List Token) (es : List TextEdit) : Type 0 where
    pub others : List Arm
    pub final : Option Block
    pub list : List Token
    pub is : (from : ℕ) → (end : ℕ) × IsElse others final from end list us'
    pub turns : Turns before es ts (kinds list)
    pub keeps : KeepsElse ts list
    pub refilled : IsRefilledArms prog puts n w arms last others final

  -- an item without bodies
  leaf_image : {n : Nesting} {w : Walk} {i : Item} {end : ℕ} {s : Token} {ts us list us' : List Token} {es : List TextEdit}
      → SameFront ts (s ∷ us) list (s ∷ us') → IsItem i end list us' → IsRefilledItem prog puts n w i i → Turns s.end es us (kinds us') → ItemImages n w i ts us' es
  leaf_image {i = i} {end = end} {us' = us'} SameFront.here is refilled turns = record { item = i; end = end; list = us'; is = is; turns = turns; refilled = refilled }
  leaf_image {i = i} {end = end} (SameFront.next {t = t} {vs = vs} p) is refilled turns =
      record { item = i; end = end; list = vs; is = is; turns = same_turns p (λ k. Turns.keep turns) t.end; refilled = refilled }

  nest_image : (n : Nesting) (w : Walk) (b : Block) (ts us' : List Token) (es : List TextEdit) → BlockImages (within n) w b ts us' es → ItemImages n w (item.Nest b) ts us' es
  nest_image n w b [] us' es image = image
  nest_image n w b (t ∷ ts) us' es image =
      record { item = item.Nest image.block; end = image.end; list = image.list; is = IsItem.nest image.is; turns = image.turns; refilled = IsRefilledItem.nest image.refilled }

  braced_image : (n : Nesting) (w : Walk) (b : Block) (ts us' : List Token) (es : List TextEdit) → BlockImages n w b ts us' es → BodyImage n w b ts us' es
  braced_image n w b [] us' es image = absurd image
  braced_image n w b (t ∷ ts) us' es image = record {
    block = image.block;
    end = image.end;
    list = t ∷ image.list;
    is = IsBody.braced image.is;
    turns = λ k. Turns.keep image.turns;
    keeps_if = λ old. old;
    refilled = image.refilled;
  }

  -- the frees of a gap that had none
  none_refilled : (new : List Put) → refilled_by prog (are_put [] new) [] new ≡ map (written_free prog) new
  none_refilled [] = refl
  none_refilled (q ∷ qs) = refl

  -- a body of one item, with these frees before it and behind it
  record OneImage (n : Nesting) (w : Walk) (i : Item) (new behind : List Put) (ts us' : List Token) (es : List TextEdit) : Type 0 where
    item : Item
    braced : Bool
    start : ℕ
    end : ℕ
    from : ℕ
    to : ℕ
    last : ℕ
    list : List Token
    is : IsBody (block (piece (map (written_free prog) new) item start end ∷ []) (map (written_free prog) behind) braced from to) last list us'
    turns : Anywhere es ts (kinds list)
    keeps_if : sees term.If ts ≡ false → sees term.If list ≡ false
    refilled : IsRefilledItem prog puts n w i item

  -- a body of frees alone
  record FreesImage (frees : List Free) (ts us' : List Token) (es : List TextEdit) : Type 0 where
    braced : Bool
    from : ℕ
    to : ℕ
    last : ℕ
    list : List Token
    is : IsBody (block [] frees braced from to) last list us'
    turns : Anywhere es ts (kinds list)
    keeps_if : sees term.If ts ≡ false → sees term.If list ≡ false

  -- the rest behind a body that gets braces: frees and the brace
  close_kinds : (new : List Put) (us' : List Token) → kinds (puts_tokens prog new (close_token ∷ us')) ≡ puts_kinds prog new (Punct punct_close_brace ∷ kinds us')
  close_kinds new us' = puts_are prog new (close_token ∷ us')

  closing : (new : List Put) (us' : List Token) {k : ℕ} {us : List Token} {es : List TextEdit} → AreSpelled prog new → Turns k es us (kinds us')
      → Turns k (inserts prog k new (inserted k close_text ∷ es)) us (kinds (puts_tokens prog new (close_token ∷ us')))
  closing new us' {k} {us} {es} spelled turns =
      subst (λ (ks : List Kind). Turns k (inserts prog k new (inserted k close_text ∷ es)) us ks) (sym (close_kinds new us')) (puts_behind prog new spelled (Turns.behind adds_close turns))

  closes_else : (new : List Put) (us us' : List Token) → KeepsElse us (puts_tokens prog new (close_token ∷ us'))
  closes_else new us us' old = no_else prog new (close_token ∷ us') (sees_other term.Else term.CloseBrace close_token us' is_close_brace no_else_close)

  opens_if : (ts list : List Token) → sees term.If ts ≡ false → sees term.If (open_token ∷ list) ≡ false
  opens_if ts list old = sees_other term.If term.OpenBrace open_token list is_open_brace no_if_open

  -- an item within written braces
  in_braces : (new behind : List Put) {n : Nesting} {w : Walk} {i : Item} {t : Token} {ts : List Token} (us' : List Token) {inner : List TextEdit}
      → AreSpelled prog new → ItemImage n w i t ts (puts_tokens prog behind (close_token ∷ us')) inner
      → OneImage n w i new behind (t ∷ ts) us' (inserted t.start open_text ∷ inserts prog t.start new inner)
  in_braces new behind {t = t} {ts = ts} us' {inner = inner} spelled image =
      let list = puts_tokens prog new (t ∷ image.list) in
      record {
        item = image.item;
        braced = true;
        start = t.start;
        end = image.end;
        from = 0;
        to = 0;
        last = 0;
        list = open_token ∷ list;
        is = IsBody.braced (IsBlock.braces is_open_brace (IsPieces.more (puts_read prog new (t ∷ image.list)) image.is (IsPieces.last (puts_read prog behind (close_token ∷ us')) is_close_brace)));
        turns = λ j. subst (λ (ks : List Kind). Turns j (inserted t.start open_text ∷ inserts prog t.start new inner) (t ∷ ts) (Punct punct_open_brace ∷ ks)) (sym (puts_are prog new (t ∷ image.list)))
            (text_before prog new open_text (Punct punct_open_brace ∷ []) spelled adds_open image.turns j);
        keeps_if = opens_if (t ∷ ts) list;
        refilled = image.refilled;
      }

  -- what stands in the place of a body of one item, by what is written before the item and behind it
  abbrev one_edits : (all : List Token) → List Put → List Put → ℕ → ℕ → (List TextEdit → List TextEdit) → List TextEdit → List TextEdit
  one_edits all new behind at k inner es =
      let braces = writes_by (are_put [] new) new || writes_by (are_put [] behind) behind in
      brace_edit braces at open_text (gap_edits_by all prog (are_put [] new) [] new at (inner (gap_edits_by all prog (are_put [] behind) [] behind k (brace_edit braces k close_text es))))

  one_image : (all : List Token) (new behind : List Put) {n : Nesting} {w : Walk} {i : Item} {k : ℕ} {t : Token} {ts us us' : List Token} {es : List TextEdit} (inner : List TextEdit → List TextEdit)
      → same term.OpenBrace (term_of t) ≡ false → AreSpelled prog new → AreSpelled prog behind → Turns k es us (kinds us') → KeepsElse us us'
      → ((us' : List Token) (es : List TextEdit) → Turns k es us (kinds us') → KeepsElse us us' → ItemImage n w i t ts us' (inner es))
      → OneImage n w i new behind (t ∷ ts) us' (one_edits all new behind t.start k inner es)
  one_image all [] [] {t = t} {us' = us'} {es = es} inner plain spelled spelled' turns keeps image =
      let a = image us' es turns keeps in
      record { item = a.item; braced = false; start = t.start; end = a.end; from = t.start; to = a.end; last = a.end; list = t ∷ a.list; is = IsBody.unbraced plain a.is; turns = λ j. Turns.keep a.turns; keeps_if = λ old. old; refilled = a.refilled }
  one_image all [] (q ∷ qs) {k = k} {us = us} {us' = us'} {es = es} inner plain spelled spelled' turns keeps image =
      in_braces [] (q ∷ qs) us' spelled (image (puts_tokens prog (q ∷ qs) (close_token ∷ us')) (inserts prog k (q ∷ qs) (inserted k close_text ∷ es)) (closing (q ∷ qs) us' spelled' turns) (closes_else (q ∷ qs) us us'))
  one_image all (p ∷ ps) [] {k = k} {us = us} {us' = us'} {es = es} inner plain spelled spelled' turns keeps image =
      in_braces (p ∷ ps) [] us' spelled (image (close_token ∷ us') (inserted k close_text ∷ es) (closing [] us' spelled' turns) (closes_else [] us us'))
  one_image all (p ∷ ps) (q ∷ qs) {k = k} {us = us} {us' = us'} {es = es} inner plain spelled spelled' turns keeps image =
      in_braces (p ∷ ps) (q ∷ qs) us' spelled (image (puts_tokens prog (q ∷ qs) (close_token ∷ us')) (inserts prog k (q ∷ qs) (inserted k close_text ∷ es)) (closing (q ∷ qs) us' spelled' turns) (closes_else (q ∷ qs) us us'))

  -- a lone `;` as a body
  empty_image : (all : List Token) (new : List Put) {t : Token} {us us' : List Token} {es : List TextEdit} → term_of t ≡ term.Semicolon → AreSpelled prog new → Turns t.end es us (kinds us')
      → let braces = writes_by (are_put [] new) new in
      FreesImage (map (written_free prog) new) (t ∷ us) us' (brace_edit braces t.start open_text (gap_edits_by all prog (are_put [] new) [] new t.end (brace_edit braces t.end close_text es)))
  empty_image all [] {t = t} {us' = us'} is spelled turns =
      record { braced = false; from = t.start; to = t.end; last = t.end; list = t ∷ us'; is = IsBody.empty is; turns = λ j. Turns.keep turns; keeps_if = λ old. old }
  empty_image all (q ∷ qs) {t = t} {us = us} {us' = us'} is spelled turns = record {
    braced = true;
    from = 0;
    to = 0;
    last = 0;
    list = open_token ∷ t ∷ puts_tokens prog (q ∷ qs) (close_token ∷ us');
    is = IsBody.braced (IsBlock.braces is_open_brace (IsPieces.last (IsGap.empty is (puts_read prog (q ∷ qs) (close_token ∷ us'))) is_close_brace));
    turns = λ j. Turns.put adds_open (closing (q ∷ qs) us' spelled turns);
    keeps_if = opens_if (t ∷ us) (t ∷ puts_tokens prog (q ∷ qs) (close_token ∷ us'));
  }

module _ (prog : Program) (puts : List Put) (spelled : (w : Walk) → AreSpelled prog (new_at puts w)) (all : List Token) (size : ℕ) (ascends : Ascends 0 all size)
    (closes : (t : Token) (us : List Token) → Rest all (t ∷ us) → term_of t ≡ term.CloseBrace → t.end - 1 ≡ t.start) where
  -- a free as a body
  free_image : (stay : Bool) (new : List Put) {f : Free} {ts us us' : List Token} {es : List TextEdit} → IsFree f ts us → Rest all ts → AreSpelled prog new → Turns f.end es us (kinds us')
      → let braces = writes_by stay new in
      FreesImage prog puts (refilled_by prog stay (f ∷ []) new) ts us' (brace_edit braces f.start open_text (gap_edits_by all prog stay (f ∷ []) new f.end (brace_edit braces f.end close_text es)))
  free_image true new {f = f} {us' = us'} d rest spelled turns =
      let a = free_kept d us' turns in
      record { braced = false; from = f.start; to = f.end; last = f.end; list = a.list; is = IsBody.free a.is; turns = a.turns; keeps_if = a.keeps_if }
  free_image false [] {us = us} {us' = us'} {es = es} d rest spelled turns =
      let g = free_gone all size ascends d rest in
      record {
        braced = false;
        from = g.semicolon.start;
        to = g.semicolon.end;
        last = g.semicolon.end;
        list = g.semicolon ∷ us';
        is = IsBody.empty g.is;
        turns = g.turns es (kinds us') (subst (λ (k : ℕ). Turns k es us (kinds us')) g.ends turns);
        keeps_if = λ old. sees_other term.If term.Semicolon g.semicolon us' g.is no_if_semicolon;
      }
  free_image false (q ∷ qs) {f = f} {ts = ts} {us = us} {us' = us'} {es = es} d rest spelled turns =
      let g = free_gone all size ascends d rest in
      let behind = inserts prog f.end (q ∷ qs) (inserted f.end close_text ∷ es) in
      let list = puts_tokens prog (q ∷ qs) (close_token ∷ us') in
      record {
        braced = true;
        from = 0;
        to = 0;
        last = 0;
        list = open_token ∷ g.semicolon ∷ list;
        is = IsBody.braced (IsBlock.braces is_open_brace (IsPieces.last (IsGap.empty g.is (puts_read prog (q ∷ qs) (close_token ∷ us'))) is_close_brace));
        turns = g.put_turns behind (kinds list) open_text (Punct punct_open_brace ∷ []) adds_open (subst (λ (k : ℕ). Turns k behind us (kinds list)) g.ends (closing prog puts (q ∷ qs) us' spelled turns));
        keeps_if = opens_if prog puts ts (g.semicolon ∷ list);
      }

  mutual
    unfolding item_edits

    pub item_image : {i : Item} {end : ℕ} {ts us : List Token} (d : IsItem i end ts us) (n : Nesting) (w : Walk) → Rest all ts → (us' : List Token) (es : List TextEdit) → Turns end es us (kinds us') → KeepsElse us us'
        → ItemImages prog puts n w i ts us' (item_edits all prog puts d n w es)
    item_image (IsItem.declare {declrs = ds} {t = t} d is) n w rest us' es turns keeps =
        let a = decl_exchanged d (t ∷ us') in
        leaf_image prog puts a.same (IsItem.declare a.is is) (IsRefilledItem.declare ds) turns
    item_image (IsItem.assign {s = s} {t = t} d is) n w rest us' es turns keeps =
        let a = simple_exchanged d (t ∷ us') in
        leaf_image prog puts a.same (IsItem.assign a.is is) (IsRefilledItem.assign s) turns
    item_image (IsItem.call {c = c} {t = t} d is) n w rest us' es turns keeps =
        let a = call_exchanged d (t ∷ us') in
        leaf_image prog puts a.same (IsItem.call a.is is) (IsRefilledItem.call c) turns
    item_image (IsItem.nest {b = b} {ts = ts} d) n w rest us' es turns keeps =
        nest_image prog puts n w b ts us' (block_edits all prog puts d (within n) w es) (block_image d (within n) w rest us' es turns)
    item_image (IsItem.branch {t = t} {e = e} {b = b} is d q r) n w rest us' es turns keeps =
        let v = (walked_arm (arm e b) n w).0 in
        let at_test = rest_more rest (Rest.behind Rest.here) in
        let at_body = rest_more at_test (test_rest d) in
        let c = else_image r n v (rest_more at_body (body_rest q)) us' es turns keeps in
        let a = body_image q (within n) (walked_test e w).0 at_body c.list (else_edits all prog puts r n v es) c.turns c.keeps in
        let x = test_exchanged d a.list in
        let tail = c.is a.end in
        record {
          item = item.If (arm e a.block ∷ c.others) c.final;
          end = tail.0;
          list = x.list;
          is = IsItem.branch is x.is a.is tail.1;
          turns = same_turns x.same a.turns t.end;
          refilled = IsRefilledItem.branch (IsRefilledArms.next e a.refilled c.refilled);
        }
    item_image (IsItem.while {t = t} {e = e} is d q) n w rest us' es turns keeps =
        let a = body_image q (in_loop n) (walked_test e w).0 (rest_more rest (rest_more (Rest.behind Rest.here) (test_rest d))) us' es turns keeps in
        let x = test_exchanged d a.list in
        record { item = item.While e a.block; end = a.end; list = x.list; is = IsItem.while is x.is a.is; turns = same_turns x.same a.turns t.end; refilled = IsRefilledItem.while e a.refilled }
    item_image (IsItem.for {t = t} {h = h} is d q) n w rest us' es turns keeps =
        let a = body_image q (in_loop (within n)) (walked_head (within n) h w).0 (rest_more rest (rest_more (Rest.behind Rest.here) (for_head_rest d))) us' es turns keeps in
        let x = for_head_exchanged d a.list in
        record { item = item.For h a.block; end = a.end; list = x.list; is = IsItem.for is x.is a.is; turns = same_turns x.same a.turns t.end; refilled = IsRefilledItem.for h a.refilled }
    item_image (IsItem.break {s = s} is_t is_s) n w rest us' es turns keeps =
        record { item = item.Break; end = s.end; list = s ∷ us'; is = IsItem.break is_t is_s; turns = Turns.keep turns; refilled = IsRefilledItem.break }
    item_image (IsItem.continue {s = s} is_t is_s) n w rest us' es turns keeps =
        record { item = item.Continue; end = s.end; list = s ∷ us'; is = IsItem.continue is_t is_s; turns = Turns.keep turns; refilled = IsRefilledItem.continue }
    item_image (IsItem.return {t = t} {s = s} is_t is_s) n w rest us' es turns keeps =
        record { item = item.Return None t.start; end = s.end; list = s ∷ us'; is = IsItem.return is_t is_s; turns = Turns.keep turns; refilled = IsRefilledItem.return None t.start }
    item_image (IsItem.return_value {t = t} {s = s} {r = r} is_t d is_s) n w rest us' es turns keeps =
        let a = right_exchanged d (s ∷ us') in
        record { item = item.Return (Some r) t.start; end = s.end; list = a.list; is = IsItem.return_value is_t a.is is_s; turns = same_turns a.same (λ k. Turns.keep turns) t.end; refilled = IsRefilledItem.return (Some r) t.start }

    pub else_image : {arms : List Arm} {last : Option Block} {before end : ℕ} {ts us : List Token} (d : IsElse arms last before end ts us) (n : Nesting) (w : Walk) → Rest all ts → (us' : List Token) (es : List TextEdit)
        → Turns end es us (kinds us') → KeepsElse us us' → ElseImage prog puts n w arms last before ts us' (else_edits all prog puts d n w es)
    else_image (IsElse.none is) n w rest us' es turns keeps =
        record { others = []; final = None; list = us'; is = λ from. (from, IsElse.none (keeps is)); turns = turns; keeps = keeps; refilled = IsRefilledArms.none }
    else_image (IsElse.else_if {t = t} {i = i} {e = e} {b = b} is_t is_i d q r) n w rest us' es turns keeps =
        let v = (walked_arm (arm e b) n w).0 in
        let at_test = rest_more rest (Rest.behind (Rest.behind Rest.here)) in
        let at_body = rest_more at_test (test_rest d) in
        let c = else_image r n v (rest_more at_body (body_rest q)) us' es turns keeps in
        let a = body_image q (within n) (walked_test e w).0 at_body c.list (else_edits all prog puts r n v es) c.turns c.keeps in
        let x = test_exchanged d a.list in
        record {
          others = arm e a.block ∷ c.others;
          final = c.final;
          list = t ∷ i ∷ x.list;
          is = λ from. let tail = c.is a.end in (tail.0, IsElse.else_if is_t is_i x.is a.is tail.1);
          turns = Turns.keep (Turns.keep (same_turns x.same a.turns i.end));
          keeps = λ old. old;
          refilled = IsRefilledArms.next e a.refilled c.refilled;
        }
    else_image (IsElse.otherwise {t = t} is_t no_if d) n w rest us' es turns keeps =
        let a = body_image d (within n) w (rest_more rest (Rest.behind Rest.here)) us' es turns keeps in
        record {
          others = [];
          final = Some a.block;
          list = t ∷ a.list;
          is = λ from. (a.end, IsElse.otherwise is_t (a.keeps_if no_if) a.is);
          turns = Turns.keep (a.turns t.end);
          keeps = λ old. old;
          refilled = IsRefilledArms.otherwise a.refilled;
        }

    pub body_image : {b : Block} {end : ℕ} {ts us : List Token} (d : IsBody b end ts us) (n : Nesting) (w : Walk) → Rest all ts → (us' : List Token) (es : List TextEdit) → Turns end es us (kinds us') → KeepsElse us us'
        → BodyImage prog puts n w b ts us' (body_edits all prog puts d n w es)
    body_image (IsBody.braced {b = b} {ts = ts} d) n w rest us' es turns keeps =
        braced_image prog puts n w b ts us' (block_edits all prog puts d n w es) (block_image d n w rest us' es turns)
    body_image (IsBody.unbraced {t = t} {i = i} {end = end} is d) n w rest us' es turns keeps =
        let v = behind_gap [] w in
        let u = (walked_item i t.start n v).0 in
        let a = one_image prog puts all (new_at puts w) (new_at puts u) (item_edits all prog puts d n v) is (spelled w) (spelled u) turns keeps (λ vs fs. item_image d n v rest vs fs) in
        let whole : List Free → List Free → Block = λ before behind. block (piece before a.item a.start a.end ∷ []) behind a.braced a.from a.to in
        record {
          block = whole (map (written_free prog) (new_at puts w)) (map (written_free prog) (new_at puts u));
          end = a.last;
          list = a.list;
          is = a.is;
          turns = a.turns;
          keeps_if = a.keeps_if;
          refilled = subst (λ (before : List Free). IsRefilledBlock prog puts n w (block (piece [] i t.start end ∷ []) [] false t.start end) (whole before (map (written_free prog) (new_at puts u)))) (none_refilled prog puts (new_at puts w))
              (subst (λ (behind : List Free). IsRefilledBlock prog puts n w (block (piece [] i t.start end ∷ []) [] false t.start end) (whole (refilled_by prog (are_put [] (new_at puts w)) [] (new_at puts w)) behind)) (none_refilled prog puts (new_at puts u))
              (IsRefilledBlock.pieces false a.braced t.start end a.from a.to (IsRefilledPieces.more [] t.start end a.start a.end a.refilled IsRefilledPieces.last)));
        }
    body_image (IsBody.free {f = f} d) n w rest us' es turns keeps =
        let a = free_image (stays puts (f ∷ []) w) (new_at puts w) d rest (spelled w) turns in
        record {
          block = block [] (refilled_by prog (stays puts (f ∷ []) w) (f ∷ []) (new_at puts w)) a.braced a.from a.to;
          end = a.last;
          list = a.list;
          is = a.is;
          turns = a.turns;
          keeps_if = a.keeps_if;
          refilled = IsRefilledBlock.pieces false a.braced f.start f.end a.from a.to IsRefilledPieces.last;
        }
    body_image (IsBody.empty {t = t} is) n w rest us' es turns keeps =
        let a = empty_image prog puts all (new_at puts w) is (spelled w) turns in
        record {
          block = block [] (map (written_free prog) (new_at puts w)) a.braced a.from a.to;
          end = a.last;
          list = a.list;
          is = a.is;
          turns = a.turns;
          keeps_if = a.keeps_if;
          refilled = subst (λ (frees : List Free). IsRefilledBlock prog puts n w (block [] [] false t.start t.end) (block [] frees a.braced a.from a.to)) (none_refilled prog puts (new_at puts w))
              (IsRefilledBlock.pieces false a.braced t.start t.end a.from a.to IsRefilledPieces.last);
        }

    pub block_image : {b : Block} {end : ℕ} {ts us : List Token} (d : IsBlock b end ts us) (n : Nesting) (w : Walk) → Rest all ts → (us' : List Token) (es : List TextEdit) → Turns end es us (kinds us')
        → BlockImages prog puts n w b ts us' (block_edits all prog puts d n w es)
    block_image (IsBlock.braces {t = t} {pieces = ps} {frees = frees} {end = end} is d) n w rest us' es turns =
        let a = pieces_image d n w (rest_more rest (Rest.behind Rest.here)) us' es turns in
        record {
          block = block a.pieces a.others true t.start a.end;
          end = a.end;
          list = a.list;
          is = IsBlock.braces is a.is;
          ends = brace_at a.pieces a.others true t.start a.end ∙ ap (λ (k : ℕ). k - 1) a.ends ∙ sym (brace_at ps frees true t.start end);
          turns = a.turns t.end;
          refilled = IsRefilledBlock.pieces true true t.start end t.start a.end a.refilled;
        }

    pub pieces_image : {ps : List Piece} {frees : List Free} {end : ℕ} {ts us : List Token} (d : IsPieces ps frees end ts us) (n : Nesting) (w : Walk) → Rest all ts → (us' : List Token) (es : List TextEdit)
        → Turns end es us (kinds us') → PiecesImage prog puts n w ps frees end ts us' (pieces_edits all prog puts d n w es)
    pieces_image (IsPieces.last {t = t} {frees = frees} {ts = ts} {us = us} d is) n w rest us' es turns =
        let g = gap_image all size ascends prog (stays puts frees w) (new_at puts w) (spelled w) d rest us' turns in
        record {
          pieces = [];
          others = refilled_by prog (stays puts frees w) frees (new_at puts w);
          end = t.end;
          list = g.list;
          is = IsPieces.last g.is is;
          ends = refl;
          turns = subst (λ (at : ℕ). Anywhere (gap_edits all prog puts at frees w es) ts (kinds g.list)) (sym (closes t us (rest_more rest (gap_rest d)) is)) g.turns;
          keeps = g.keeps;
          refilled = IsRefilledPieces.last;
        }
    pieces_image (IsPieces.more {t = t} {gap_frees = gap_frees} {i = i} {end = end} {us = us} d q r) n w rest us' es turns =
        let v = behind_gap gap_frees w in
        let u = (walked_item i t.start n v).0 in
        let at_item = rest_more rest (gap_rest d) in
        let c = pieces_image r n u (rest_more at_item (item_rest q)) us' es turns in
        let later = pieces_edits all prog puts r n u es in
        let a : ItemImage prog puts n v i t us c.list (item_edits all prog puts q n v later) = item_image q n v at_item c.list later (c.turns end) c.keeps in
        let g = gap_image all size ascends prog (stays puts gap_frees w) (new_at puts w) (spelled w) d rest a.list a.turns in
        record {
          pieces = piece (refilled_by prog (stays puts gap_frees w) gap_frees (new_at puts w)) a.item t.start a.end ∷ c.pieces;
          others = c.others;
          end = c.end;
          list = g.list;
          is = IsPieces.more g.is a.is c.is;
          ends = c.ends;
          turns = g.turns;
          keeps = g.keeps;
          refilled = IsRefilledPieces.more gap_frees t.start end t.start a.end a.refilled c.refilled;
        }
