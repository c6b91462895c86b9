-- The tokens of an old gap, where they stay and where its frees become blanks.
use Rattle.std.proofs.Common.{◌≡◌, ℕ, ◌<◌, ◌≤◌, Bool, true, false, nat_le, nat_lt, ◌&&◌, List, [], ◌∷◌, ◌++◌, map, refl, sym, ap, subst, ◌∙◌, arith, append_assoc}
use Rattle.std.specs.Prelude.{filter}
use Rattle.std.proofs.lemmas.Bool.Decides.{nat_tests}
use Rattle.c_lexer.specs.declared.token.Token.{Token}
use Rattle.c_lexer.specs.declared.token.Kind.{Kind}
use Rattle.c_lexer.proofs.Order.{Ascends}
use Rattle.c_tree.specs.declared.choice.Put.{Put}
use Rattle.c_tree.specs.declared.program.Program.{Program}
use Rattle.c_tree.specs.declared.tree.Free.{Free}
use Rattle.c_parser.specs.declared.term.Term.TheVariants as term
use Rattle.c_parser.specs.Term.{term_of, sees}
use Rattle.c_parser.specs.Blocks.{IsFree, IsGap}
use Rattle.c_parser.proofs.Exchanges.{SameFront, KeepsElse, arg_exchanged, gap_exchanged}
use Rattle.c_parser.proofs.Rests.{Rest, rest_more, front_of, arg_rest, free_rest}
use Rattle.source_patcher.specs.Refilled.{refilled_by}
use Rattle.source_patcher.proofs.TextEdits.{TextEdit}
use Rattle.source_patcher.proofs.Inserts.{Anywhere, AreSpelled, blanks_all, inserts, no_else_semicolon, put_no_else, puts_are, puts_before, puts_read, puts_tokens, sees_other}
use Rattle.source_patcher.proofs.Turns.{Adds, Turns, blanked, inserted, kinds}

-- the tokens between two offsets, but for one that ends at the second
abbrev pub is_between : ℕ → ℕ → Token → Bool
is_between from to t = nat_le from t.start && nat_lt t.end to

comes_before : (from to : ℕ) (t : Token) → t.start < from → is_between from to t ≡ false
comes_before from to t h = grind (arith, nat_tests)

comes_between : (from to : ℕ) (t : Token) → from ≤ t.start → t.end < to → is_between from to t ≡ true
comes_between from to t h l = grind (arith, nat_tests)

comes_behind : (from to : ℕ) (t : Token) → to ≤ t.end → is_between from to t ≡ false
comes_behind from to t h = grind (arith, nat_tests)

none_behind : (from to a : ℕ) (ts : List Token) (size : ℕ) → to ≤ a → Ascends a ts size → filter (is_between from to) ts ≡ []
none_behind from to a [] size le up = refl
none_behind from to a (t ∷ ts) size le up =
    rw (comes_behind from to t (omega (arith, le, up.0, up.1))) (none_behind from to t.end ts size (omega (arith, le, up.0, up.1)) up.2)

ends_before : (a : ℕ) (mid : List Token) (s : Token) (us : List Token) (size : ℕ) → Ascends a (mid ++ s ∷ us) size → a < s.end
ends_before a [] s us size up = omega (arith, up.0, up.1)
ends_before a (m ∷ mid) s us size up = omega (arith, up.0, up.1, ends_before m.end mid s us size up.2)

found_between : (from a : ℕ) (mid : List Token) (s : Token) (us : List Token) (size : ℕ) → from ≤ a → Ascends a (mid ++ s ∷ us) size → filter (is_between from s.end) (mid ++ s ∷ us) ≡ mid
found_between from a [] s us size le up =
    rw (comes_behind from s.end s (omega arith)) (none_behind from s.end s.end us size (omega arith) up.2)
found_between from a (m ∷ mid) s us size le up =
    rw (comes_between from s.end m (omega (arith, le, up.0)) (ends_before m.end mid s us size up.2))
    (ap (λ (ts : List Token). m ∷ ts) (found_between from m.end mid s us size (omega (arith, le, up.0, up.1)) up.2))

begins_behind : {ts us : List Token} → Rest ts us → (t : Token) (vs : List Token) → us ≡ t ∷ vs → (a size : ℕ) → Ascends a ts size → a ≤ t.start
begins_behind (Rest.here {ts = ts}) t vs is a size up = (subst (λ (xs : List Token). Ascends a xs size) is up).0
begins_behind (Rest.behind {t = u} p) t vs is a size up = omega (arith, up.0, up.1, begins_behind p t vs is u.end size up.2)

-- of all tokens, those of a part that ends before a token
pub between : {ts us : List Token} → Rest ts us → (m : Token) (mid : List Token) (s : Token) (vs : List Token) → us ≡ (m ∷ mid) ++ s ∷ vs → (a size : ℕ) → Ascends a ts size
    → filter (is_between m.start s.end) ts ≡ m ∷ mid
between (Rest.here {ts = ts}) m mid s vs is a size up =
    let here = subst (λ (xs : List Token). Ascends a xs size) is up in
    ap (filter (is_between m.start s.end)) is
    ∙ found_between m.start m.start (m ∷ mid) s vs size (omega arith) (omega arith, here.1, here.2)
between (Rest.behind {t = u} {ts = ts} p) m mid s vs is a size up =
    rw (comes_before m.start s.end u (omega (arith, up.1, begins_behind p m (mid ++ s ∷ vs) is u.end size up.2))) (between p m mid s vs is u.end size up.2)

-- tokens that stay
pub same_turns : {ts us vs ws : List Token} {es : List TextEdit} → SameFront ts us vs ws → Anywhere es us (kinds ws) → Anywhere es ts (kinds vs)
same_turns SameFront.here rest = rest
same_turns (SameFront.next {t = t} p) rest = λ k. Turns.keep (same_turns p rest t.end)

keeps_front : {ts us vs ws : List Token} → SameFront ts us vs ws → KeepsElse us ws → KeepsElse ts vs
keeps_front SameFront.here keeps = keeps
keeps_front (SameFront.next p) keeps = λ old. old

pub gap_both : {fs gs : List Free} {ts us vs : List Token} → IsGap fs ts us → IsGap gs us vs → IsGap (fs ++ gs) ts vs
gap_both IsGap.done q = q
gap_both (IsGap.empty is d) q = IsGap.empty is (gap_both d q)
gap_both (IsGap.free f d) q = IsGap.free f (gap_both d q)

-- blanks in the place of old frees but for their `;`, before other edits of a text with these tokens
abbrev pub blank_edits : List Token → List Free → List TextEdit → List TextEdit
blank_edits all [] es = es
blank_edits all (f ∷ fs) es = map blanked (filter (is_between f.start f.end) all) ++ blank_edits all fs es

-- a gap before other edits, by whether its frees stay; new ones are written at an offset
abbrev pub gap_edits_by : List Token → Program → Bool → List Free → List Put → ℕ → List TextEdit → List TextEdit
gap_edits_by all prog true frees new at es = es
gap_edits_by all prog false frees new at es = blank_edits all frees (inserts prog at new es)

-- the free before another rest
pub record FreeKept (f : Free) (es : List TextEdit) (ts us' : List Token) : Type 0 where
  pub list : List Token
  pub is : IsFree f list us'
  pub turns : Anywhere es ts (kinds list)
  pub keeps_if : sees term.If ts ≡ false → sees term.If list ≡ false

pub free_kept : {f : Free} {ts us : List Token} {es : List TextEdit} → IsFree f ts us → (us' : List Token) → Turns f.end es us (kinds us') → FreeKept f es ts us'
free_kept (IsFree.free {t = t} {o = o} {c = c} {s = s} is_t is_o d is_c is_s) us' turns =
    let a = arg_exchanged d (c ∷ s ∷ us') in
    record {
      list = t ∷ o ∷ a.list;
      is = IsFree.free is_t is_o a.is is_c is_s;
      turns = λ k. Turns.keep (Turns.keep (same_turns a.same (λ j. Turns.keep (Turns.keep turns)) o.end));
      keeps_if = λ old. old;
    }

module _ (all : List Token) (size : ℕ) (ascends : Ascends 0 all size) where
  -- the `;` of a free, and the free's tokens as blanks before it
  pub record FreeGone (f : Free) (ts us : List Token) : Type 0 where
    pub semicolon : Token
    pub is : term_of semicolon ≡ term.Semicolon
    pub ends : f.end ≡ semicolon.end
    pub turns : (es : List TextEdit) (ks : List Kind) → Turns semicolon.end es us ks → Anywhere (map blanked (filter (is_between f.start f.end) all) ++ es) ts (semicolon.kind ∷ ks)
    pub put_turns : (es : List TextEdit) (ks : List Kind) (text : List ℕ) (added : List Kind) → Adds text added → Turns semicolon.end es us ks
        → Anywhere (inserted f.start text ∷ (map blanked (filter (is_between f.start f.end) all) ++ es)) ts (added ++ semicolon.kind ∷ ks)

  pub free_gone : {f : Free} {ts us : List Token} → IsFree f ts us → Rest all ts → FreeGone f ts us
  free_gone (IsFree.free {t = t} {o = o} {c = c} {s = s} {ts = ts} {us = us} is_t is_o d is_c is_s) rest =
      let front = front_of (arg_rest d) in
      let mid = o ∷ (front.front ++ c ∷ []) in
      let whole : t ∷ o ∷ ts ≡ (t ∷ mid) ++ s ∷ us = ap (λ (xs : List Token). t ∷ o ∷ xs) (front.is ∙ sym (append_assoc front.front (c ∷ []) (s ∷ us))) in
      let found : filter (is_between t.start s.end) all ≡ t ∷ mid = between rest t mid s us whole 0 size ascends in
      record {
        semicolon = s;
        is = is_s;
        ends = refl;
        turns = λ es ks behind k. subst (λ (xs : List Token). Turns k (map blanked xs ++ es) (t ∷ o ∷ ts) (s.kind ∷ ks)) (sym found)
            (subst (λ (xs : List Token). Turns k (map blanked (t ∷ mid) ++ es) xs (s.kind ∷ ks)) (sym whole) (blanks_all (t ∷ mid) (λ j. Turns.keep behind) k));
        put_turns = λ es ks text added adds behind k. subst (λ (xs : List Token). Turns k (inserted t.start text ∷ (map blanked xs ++ es)) (t ∷ o ∷ ts) (added ++ s.kind ∷ ks)) (sym found)
            (subst (λ (xs : List Token). Turns k (inserted t.start text ∷ (map blanked (t ∷ mid) ++ es)) xs (added ++ s.kind ∷ ks)) (sym whole) (Turns.put_blank adds (blanks_all mid (λ j. Turns.keep behind) t.end)));
      }

  -- a gap of which the lone `;` and those of its frees stay
  pub record GapGone (frees : List Free) (es : List TextEdit) (ts us us' : List Token) : Type 0 where
    pub list : List Token
    pub is : IsGap [] list us'
    pub turns : Anywhere (blank_edits all frees es) ts (kinds list)
    pub keeps : KeepsElse us us' → KeepsElse ts list

  pub gap_gone : {frees : List Free} {ts us : List Token} {es : List TextEdit} → IsGap frees ts us → Rest all ts → (us' : List Token) → Anywhere es us (kinds us') → GapGone frees es ts us us'
  gap_gone IsGap.done rest us' turns = record { list = us'; is = IsGap.done; turns = turns; keeps = λ keeps. keeps }
  gap_gone (IsGap.empty {t = t} is d) rest us' turns =
      let r = gap_gone d (rest_more rest (Rest.behind Rest.here)) us' turns in
      record { list = t ∷ r.list; is = IsGap.empty is r.is; turns = λ k. Turns.keep (r.turns t.end); keeps = λ keeps old. old }
  gap_gone {es = es} (IsGap.free {frees = frees} d q) rest us' turns =
      let g = free_gone d rest in
      let r = gap_gone q (rest_more rest (free_rest d)) us' turns in
      record {
        list = g.semicolon ∷ r.list;
        is = IsGap.empty g.is r.is;
        turns = g.turns (blank_edits all frees es) (kinds r.list) (r.turns g.semicolon.end);
        keeps = λ keeps old. sees_other term.Else term.Semicolon g.semicolon r.list g.is no_else_semicolon;
      }

  module _ (prog : Program) where
    -- no `else` comes to stand before a token by puts
    puts_keep : (new : List Put) (t : Token) (us us' : List Token) → KeepsElse (t ∷ us) (puts_tokens prog new (t ∷ us'))
    puts_keep [] t us us' old = old
    puts_keep (q ∷ qs) t us us' old = put_no_else prog q (puts_tokens prog qs (t ∷ us'))

    -- the gap before a token in the edited text
    pub record GapImage (by : Bool) (frees : List Free) (new : List Put) (es : List TextEdit) (ts : List Token) (t : Token) (us' : List Token) : Type 0 where
      pub list : List Token
      pub is : IsGap (refilled_by prog by frees new) list (t ∷ us')
      pub turns : Anywhere (gap_edits_by all prog by frees new t.start es) ts (kinds list)
      pub keeps : KeepsElse ts list

    pub gap_image : (by : Bool) (new : List Put) {frees : List Free} {t : Token} {ts us : List Token} {es : List TextEdit} → AreSpelled prog new → IsGap frees ts (t ∷ us) → Rest all ts
        → (us' : List Token) → Turns t.end es us (kinds us') → GapImage by frees new es ts t us'
    gap_image true new {t = t} spelled d rest us' turns =
        let e = gap_exchanged d (t ∷ us') in
        record { list = e.list; is = e.is; turns = same_turns e.same (λ k. Turns.keep turns); keeps = keeps_front e.same (λ old. old) }
    gap_image false new {t = t} {us = us} {es = es} spelled d rest us' turns =
        let written : Anywhere (inserts prog t.start new es) (t ∷ us) (kinds (puts_tokens prog new (t ∷ us'))) =
        λ k. subst (λ (ks : List Kind). Turns k (inserts prog t.start new es) (t ∷ us) ks) (sym (puts_are prog new (t ∷ us'))) (puts_before prog new spelled turns k) in
        let r = gap_gone d rest (puts_tokens prog new (t ∷ us')) written in
        record { list = r.list; is = gap_both r.is (puts_read prog new (t ∷ us')); turns = r.turns; keeps = r.keeps (puts_keep new t us us') }
