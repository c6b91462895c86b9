-- The edits of a whole text along the derivation of its file, and the file that the edited text has.
use Rattle.std.proofs.Common.{◌≡◌, ℕ, ◌-◌, ◌<◌, false, List, [], ◌∷◌, ◌++◌, length, flat_map, Some, None, sym, ap, subst, ◌∙◌, arith}
use Rattle.std.proofs.lemmas.List.{append-nil}
use Rattle.std.proofs.lemmas.Grind.{flat_map-append}
use Rattle.c_lexer.specs.declared.token.Token.{Token}
use Rattle.c_lexer.proofs.Order.{Ascends}
use Rattle.c_tree.specs.declared.choice.Put.{Put}
use Rattle.c_tree.specs.declared.program.FunDef.{FunDef}
use Rattle.c_tree.specs.declared.program.Program.{Program}
use Rattle.c_tree.specs.declared.tree.Block.{Block}
use Rattle.c_tree.specs.declared.tree.Head.{Head}
use Rattle.c_tree.specs.declared.tree.Top.{Top}
use Rattle.c_tree.specs.declared.tree.Top.TheVariants as top
use Rattle.c_parser.specs.declared.term.Term.TheVariants as term
use Rattle.c_parser.specs.Term.{term_of, word}
use Rattle.c_parser.specs.Grammar.{IsHead, IsTop, IsFile}
use Rattle.c_parser.proofs.Exchanges.{SameFront, head_exchanged, top_exchanged}
use Rattle.c_parser.proofs.Rests.{Rest, rest_more, head_rest, top_rest}
use Rattle.c_parser.proofs.Shorter.{top_shorter}
use Rattle.c_types.specs.declared.scope.Walk.{Walk}
use Rattle.c_types.specs.Functions.{body_nesting}
use Rattle.c_types.specs.Program.{walked_from, walked_top}
use Rattle.c_types.proofs.Functionwise.{definition_funs}
use Rattle.c_types.proofs.NumberingLeaves.{gap_numbers, gap_count}
use Rattle.c_types.proofs.NumberingTops.{gap_tops, globals_quiet, heading_quiet, struct_quiet}
use Rattle.c_types.proofs.Passing.{headed, inside, made_of, with_params}
use Rattle.source_patcher.specs.Changes.{block_changes}
use Rattle.source_patcher.specs.Refilled.{IsRefilledTop, IsRefilledFile}
use Rattle.source_patcher.specs.declared.change.Change.{Change}
use Rattle.source_patcher.proofs.Along.{block_along, both, made_edits}
use Rattle.source_patcher.proofs.Blanked.{same_turns}
use Rattle.source_patcher.proofs.Edited.{BlockImages, block_edits, block_image, new_at}
use Rattle.source_patcher.proofs.EditedTokens.{edits_of}
use Rattle.source_patcher.proofs.Inserts.{Anywhere, AreSpelled}
use Rattle.source_patcher.proofs.TextEdits.{TextEdit}
use Rattle.source_patcher.proofs.Turns.{Turns, kinds}

module _ (all : List Token) (prog : Program) (puts : List Put) where
  abbrev pub top_edits : {x : Top} {ts us : List Token} → IsTop x ts us → Walk → List TextEdit → List TextEdit
  top_edits (IsTop.alias is_t is_s is_n is_m is_e) w es = es
  top_edits (IsTop.alias_of_body is_t is_s d q is_m is_e) w es = es
  top_edits (IsTop.tag is_s is_n is_e) w es = es
  top_edits (IsTop.tag_of_body is_s is_n d is_e) w es = es
  top_edits (IsTop.globals d q) w es = es
  top_edits (IsTop.prototype d is) w es = es
  top_edits (IsTop.function {h = h} {b = b} d q) w es = block_edits all prog puts q (body_nesting (length w.funs) (headed h b w).1) (with_params h b w).0 es

  abbrev pub file_edits : {tops : List Top} {ts : List Token} → IsFile tops ts → Walk → List TextEdit
  file_edits IsFile.done w = []
  file_edits (IsFile.more {x = x} d q) w = top_edits d w (file_edits q (walked_top w x))

  abbrev bodies_changes : List FunDef → List Change
  bodies_changes fs = flat_map (λ (f : FunDef). block_changes all puts f.body) fs

  no_function : (w u : Walk) (es : List TextEdit) → u.funs ≡ w.funs → made_edits all prog puts (bodies_changes w.funs) es ≡ made_edits all prog puts (bodies_changes u.funs) es
  no_function w u es same = ap (λ (fs : List FunDef). made_edits all prog puts (bodies_changes fs) es) (sym same)

  top_along : {x : Top} {ts us : List Token} (d : IsTop x ts us) (w : Walk) (es : List TextEdit)
      → made_edits all prog puts (bodies_changes w.funs) (top_edits d w es) ≡ made_edits all prog puts (bodies_changes (walked_top w x).funs) es
  top_along (IsTop.alias {n = n} {m = m} {tag = tag} {text = text} is_t is_s is_n is_m is_e) w es =
      no_function w (walked_top w (top.Struct (Some (word tag n)) None (Some (word text m)))) es (struct_quiet gap_numbers gap_count gap_tops (Some (word tag n)) None (Some (word text m)) w).funs
  top_along (IsTop.alias_of_body {m = m} {tag = tag} {text = text} {body = body} is_t is_s d q is_m is_e) w es =
      no_function w (walked_top w (top.Struct tag (Some body) (Some (word text m)))) es (struct_quiet gap_numbers gap_count gap_tops tag (Some body) (Some (word text m)) w).funs
  top_along (IsTop.tag {n = n} {text = text} is_s is_n is_e) w es =
      no_function w (walked_top w (top.Struct (Some (word text n)) None None)) es (struct_quiet gap_numbers gap_count gap_tops (Some (word text n)) None None w).funs
  top_along (IsTop.tag_of_body {n = n} {text = text} {body = body} is_s is_n d is_e) w es =
      no_function w (walked_top w (top.Struct (Some (word text n)) (Some body) None)) es (struct_quiet gap_numbers gap_count gap_tops (Some (word text n)) (Some body) None w).funs
  top_along (IsTop.globals {decls = ds} d q) w es = no_function w (walked_top w (top.Globals ds)) es (globals_quiet gap_numbers gap_count gap_tops ds w).funs
  top_along (IsTop.prototype {h = h} d is) w es = no_function w (walked_top w (top.Proto h)) es (heading_quiet gap_numbers gap_count gap_tops h false w).funs
  top_along (IsTop.function {h = h} {b = b} d q) w es =
      let m = (inside h b w).1 in
      let c = block_changes all puts m in
      ap (made_edits all prog puts (bodies_changes w.funs)) (block_along all prog puts q (body_nesting (length w.funs) (headed h b w).1) (with_params h b w).0 es)
      ∙ sym (both all prog puts (bodies_changes w.funs) c es)
      ∙ ap (λ (cs : List Change). made_edits all prog puts (bodies_changes w.funs ++ cs) es) (sym (append-nil c))
      ∙ ap (λ (cs : List Change). made_edits all prog puts cs es) (sym (flat_map-append (λ (f : FunDef). block_changes all puts f.body) w.funs (made_of h b w ∷ [])))
      ∙ ap (λ (fs : List FunDef). made_edits all prog puts (bodies_changes fs) es) (sym (definition_funs h b w))

  pub file_along : {tops : List Top} {ts : List Token} (d : IsFile tops ts) (w : Walk) → made_edits all prog puts (bodies_changes w.funs) (file_edits d w) ≡ edits_of prog (bodies_changes (walked_from w tops).funs)
  file_along IsFile.done w = append-nil (edits_of prog (bodies_changes w.funs))
  file_along (IsFile.more {x = x} d q) w = top_along d w (file_edits q (walked_top w x)) ∙ file_along q (walked_top w x)

module _ (prog : Program) (puts : List Put) where
  -- a declaration whose first token stays
  pub record TopImage (w : Walk) (x : Top) (t : Token) (ts us' : List Token) (es : List TextEdit) : Type 0 where
    pub top : Top
    pub list : List Token
    pub is : IsTop top (t ∷ list) us'
    pub turns : Turns t.end es ts (kinds list)
    pub refilled : IsRefilledTop prog puts w x top

  abbrev pub TopImages : Walk → Top → List Token → List Token → List TextEdit → Type 0
  TopImages w x [] us' es = ⊥
  TopImages w x (t ∷ ts) us' es = TopImage w x t ts us' es

  kept_top : {w : Walk} {x : Top} {ts us list us' : List Token} {es : List TextEdit} → SameFront ts us list us' → length us < length ts → IsTop x list us' → IsRefilledTop prog puts w x x
      → Anywhere es us (kinds us') → TopImages w x ts us' es
  kept_top SameFront.here less is refilled turns = absurd (omega (arith, less))
  kept_top {x = x} (SameFront.next {t = t} {vs = vs} p) less is refilled turns = record { top = x; list = vs; is = is; turns = same_turns p turns t.end; refilled = refilled }

  begun_top : {w : Walk} {x y : Top} {ts us list us' : List Token} {u : Token} {es : List TextEdit} (vs : List Token) → SameFront ts (u ∷ us) list (u ∷ vs) → IsTop y list us' → IsRefilledTop prog puts w x y
      → Turns u.end es us (kinds vs) → TopImages w x ts us' es
  begun_top {y = y} vs SameFront.here is refilled turns = record { top = y; list = vs; is = is; turns = turns; refilled = refilled }
  begun_top {y = y} vs (SameFront.next {t = t} {vs = xs} p) is refilled turns = record { top = y; list = xs; is = is; turns = same_turns p (λ k. Turns.keep turns) t.end; refilled = refilled }

  function_top : (w : Walk) (h : Head) (b : Block) {ts : List Token} (us us' : List Token) (es : List TextEdit) → IsHead h ts us
      → BlockImages prog puts (body_nesting (length w.funs) (headed h b w).1) (with_params h b w).0 b us us' es → TopImages w (top.Fun h b) ts us' es
  function_top w h b [] us' es d image = absurd image
  function_top w h b (u ∷ us) us' es d image =
      let e = head_exchanged d (u ∷ image.list) in
      begun_top image.list e.same (IsTop.function e.is image.is) (IsRefilledTop.function h image.ends image.refilled) image.turns

  pub record FileImage (w : Walk) (tops : List Top) (ts : List Token) (es : List TextEdit) : Type 0 where
    pub others : List Top
    pub list : List Token
    pub is : IsFile others list
    pub turns : Anywhere es ts (kinds list)
    pub refilled : IsRefilledFile prog puts w tops others

  -- a file of which the first token stays
  pub record FirstImage (w : Walk) (tops : List Top) (t : Token) (ts : List Token) (es : List TextEdit) : Type 0 where
    pub others : List Top
    pub list : List Token
    pub is : IsFile others (t ∷ list)
    pub turns : Turns t.end es ts (kinds list)
    pub refilled : IsRefilledFile prog puts w tops others

  file_begun : (w : Walk) (x : Top) (xs : List Top) (ts us' : List Token) (es : List TextEdit) (others : List Top) → IsFile others us' → IsRefilledFile prog puts (walked_top w x) xs others → TopImages w x ts us' es
      → FileImage w (x ∷ xs) ts es
  file_begun w x xs [] us' es others is refilled image = absurd image
  file_begun w x xs (t ∷ ts) us' es others is refilled image =
      record { others = image.top ∷ others; list = t ∷ image.list; is = IsFile.more image.is is; turns = λ k. Turns.keep image.turns; refilled = IsRefilledFile.more image.refilled refilled }

module _ (prog : Program) (puts : List Put) (spelled : (w : Walk) → AreSpelled prog (new_at puts w)) (all : List Token) (size : ℕ) (ascends : Ascends 0 all size)
    (closes : (t : Token) (us : List Token) → Rest all (t ∷ us) → term_of t ≡ term.CloseBrace → t.end - 1 ≡ t.start) where
  kept_image : {x : Top} {ts us : List Token} (d : IsTop x ts us) (w : Walk) (us' : List Token) (es : List TextEdit) → IsRefilledTop prog puts w x x → Anywhere es us (kinds us') → TopImages prog puts w x ts us' es
  kept_image d w us' es refilled turns = let e = top_exchanged d us' in kept_top prog puts e.same (top_shorter d) e.is refilled turns

  top_image : {x : Top} {ts us : List Token} (d : IsTop x ts us) (w : Walk) → Rest all ts → (us' : List Token) (es : List TextEdit) → Anywhere es us (kinds us') → TopImages prog puts w x ts us' (top_edits all prog puts d w es)
  top_image (IsTop.alias {n = n} {m = m} {tag = tag} {text = text} is_t is_s is_n is_m is_e) w rest us' es turns =
      kept_image (IsTop.alias is_t is_s is_n is_m is_e) w us' es (IsRefilledTop.struct (Some (word tag n)) None (Some (word text m))) turns
  top_image (IsTop.alias_of_body {m = m} {tag = tag} {text = text} {body = body} is_t is_s d q is_m is_e) w rest us' es turns =
      kept_image (IsTop.alias_of_body is_t is_s d q is_m is_e) w us' es (IsRefilledTop.struct tag (Some body) (Some (word text m))) turns
  top_image (IsTop.tag {n = n} {text = text} is_s is_n is_e) w rest us' es turns = kept_image (IsTop.tag is_s is_n is_e) w us' es (IsRefilledTop.struct (Some (word text n)) None None) turns
  top_image (IsTop.tag_of_body {n = n} {text = text} {body = body} is_s is_n d is_e) w rest us' es turns =
      kept_image (IsTop.tag_of_body is_s is_n d is_e) w us' es (IsRefilledTop.struct (Some (word text n)) (Some body) None) turns
  top_image (IsTop.globals {decls = ds} d q) w rest us' es turns = kept_image (IsTop.globals d q) w us' es (IsRefilledTop.globals ds) turns
  top_image (IsTop.prototype {h = h} d is) w rest us' es turns = kept_image (IsTop.prototype d is) w us' es (IsRefilledTop.prototype h) turns
  top_image (IsTop.function {h = h} {b = b} {end = end} {us = us} d q) w rest us' es turns =
      let n = body_nesting (length w.funs) (headed h b w).1 in
      let v = (with_params h b w).0 in
      function_top prog puts w h b us us' (block_edits all prog puts q n v es) d (block_image prog puts spelled all size ascends closes q n v (rest_more rest (head_rest d)) us' es (turns end))

  pub file_image : {tops : List Top} {ts : List Token} (d : IsFile tops ts) (w : Walk) → Rest all ts → FileImage prog puts w tops ts (file_edits all prog puts d w)
  file_image IsFile.done w rest = record { others = []; list = []; is = IsFile.done; turns = λ k. Turns.ended; refilled = IsRefilledFile.done }
  file_image (IsFile.more {x = x} {others = xs} {ts = ts} d q) w rest =
      let c = file_image q (walked_top w x) (rest_more rest (top_rest d)) in
      let es = file_edits all prog puts q (walked_top w x) in
      file_begun prog puts w x xs ts c.list (top_edits all prog puts d w es) c.others c.is c.refilled (top_image d w rest c.list es c.turns)

  -- the tokens of a text from its first one on
  pub first_image : {tops : List Top} {ts : List Token} (d : IsFile tops ts) (w : Walk) (t : Token) (us : List Token) → ts ≡ t ∷ us → Rest all ts → FirstImage prog puts w tops t us (file_edits all prog puts d w)
  first_image IsFile.done w t us is rest = absurd cc
  first_image (IsFile.more {x = x} {others = xs} {ts = ts} d q) w t us is rest =
      let c = file_image q (walked_top w x) (rest_more rest (top_rest d)) in
      let es = file_edits all prog puts q (walked_top w x) in
      let image : TopImage prog puts w x t us c.list (top_edits all prog puts d w es) =
      subst (λ (xs : List Token). TopImages prog puts w x xs c.list (top_edits all prog puts d w es)) is (top_image d w rest c.list es c.turns) in
      record { others = image.top ∷ c.others; list = image.list; is = IsFile.more image.is c.is; turns = image.turns; refilled = IsRefilledFile.more image.refilled c.refilled }
