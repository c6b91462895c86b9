-- What is printed of a file is read as one alike it in which each body has braces.
use Rattle.std.proofs.Common.{◌≡◌, ℕ, zero, suc, ℤ, pos, negsuc, List, [], ◌∷◌, ◌++◌, map, codes, Option, Some, None, option_map, refl, ap, sym, subst, ◌∙◌, append_assoc}
use Rattle.c_lexer.specs.declared.token.Token.{Token}
use Rattle.c_lexer.specs.declared.token.Kind.{Kind}
use Rattle.c_lexer.specs.declared.token.Kind.TheVariants as kind
use Rattle.c_tree.specs.declared.expr.Sign.TheVariants as sign
use Rattle.c_tree.specs.declared.tree.Base.{Base}
use Rattle.c_tree.specs.declared.tree.Base.TheVariants as base
use Rattle.c_tree.specs.declared.tree.Block.{Block}
use Rattle.c_tree.specs.declared.tree.Body.{Body}
use Rattle.c_tree.specs.declared.tree.Expr.{Expr, Expr-F, out-Expr}
use Rattle.c_tree.specs.declared.tree.Expr.TheVariants as expr
use Rattle.c_tree.specs.declared.tree.GlobalDecl.{GlobalDecl}
use Rattle.c_tree.specs.declared.tree.Head.{Head}
use Rattle.c_tree.specs.declared.tree.Spec.{Spec}
use Rattle.c_tree.specs.declared.tree.Top.{Top}
use Rattle.c_tree.specs.declared.tree.Top.TheVariants as top
use Rattle.c_tree.specs.declared.tree.Word.{Word}
use Rattle.c_parser.specs.declared.term.Term.TheVariants as term
use Rattle.c_parser.specs.Term.{word}
use Rattle.c_parser.specs.Declarators.{IsBase, IsStars, IsOptionalName, spec}
use Rattle.c_parser.specs.Grammar.{IsFieldNames, IsFields, IsStructBody, IsConst, IsGlobal, IsGlobals, IsParam, IsMoreParams, IsParams, IsHead, IsTop, IsFile}
use Rattle.c_parser.specs.Alike.{moved_expr, moved_block, moved_base, moved_word, moved_spec, moved_body, moved_global, moved_head, moved_top}
use Rattle.c_parser.specs.Printed.{key, mark, each, maybe, within, const_kind, printed_base, printed_stars, printed_word, printed_starred, printed_spec, printed_block, printed_field, printed_body, printed_const, behind_sign, printed_value, printed_global, next_global, printed_globals, next_param, printed_params, printed_head, printed_top}
use Rattle.c_parser.proofs.Spelled.{Spells, split, spelled}
use Rattle.c_parser.proofs.PrintedExpressions.{bare, bare_const, bare_null, bare_unary, print_const, print_null}
use Rattle.c_parser.proofs.PrintedStatements.{Like, Back, Starred, none_at, base_again, base_begun, stars_again, starred_again, optional_name_again}
use Rattle.c_parser.proofs.BracedBlocks.{Braced, BlockIs, no_braces, all_braces, block_again}
use Rattle.c_parser.proofs.MovedParts.{same_at, all_stay, option_stays, expr_stays, spec_stays, word_stays}

-- fields, each with its own base

record Field (s : Spec) (ts us : List Token) : Type 0 where
  base : Base
  first : Token
  rest : List Token
  middle : List Token
  other : Spec
  here : ts ≡ first ∷ rest
  is : IsBase base (first ∷ rest) middle
  name : IsFieldNames base first (other ∷ []) middle us
  alike : moved_spec none_at other ≡ moved_spec none_at s

abbrev FieldBack : Spec → Type 0
FieldBack s = (ts us : List Token) → Spells (printed_field s) ts us → Field s ts us

abbrev named_spec : Base → ℕ → List ℕ → Spec
named_spec b stars text = record { base = b; stars = stars; name = Some (record { text = text; at = 0 }); at = 0 }

field_on : (b : Base) (f n : Token) (stars : ℕ) (text : List ℕ) {ts us vs : List Token} → Like IsBase (moved_base none_at) b ts us → (t : Token) → Starred stars text us (t ∷ vs)
    → t.kind ≡ mark (codes ";") → Field (spec b f stars (Some (word text n))) ts vs
field_on b f n stars text {us = us} l t s is =
    let begun = base_begun l.is in
    record {
      base = l.other;
      first = begun.first;
      rest = begun.rest;
      middle = us;
      other = spec l.other begun.first stars (Some (word text s.name));
      here = begun.here;
      is = begun.is;
      name = IsFieldNames.last s.is s.named (spelled t term.Semicolon is refl);
      alike = ap (λ (x : Base). named_spec x stars text) l.alike;
    }

field_end : (b : Base) (f n : Token) {stars : ℕ} (text : List ℕ) {xs ys : List Token} → IsStars stars xs ys → {ts us vs ws : List Token} → Like IsBase (moved_base none_at) b ts us
    → Spells (printed_stars stars ++ kind.Name text ∷ []) us vs → Spells (mark (codes ";") ∷ []) vs ws → Field (spec b f stars (Some (word text n))) ts ws
field_end b f n {stars} text p l d (Spells.more {t = t} is Spells.done) = field_on b f n stars text l t (starred_again p text d) is

field_again : {b : Base} (f n : Token) {stars : ℕ} (text : List ℕ) {vs ws xs ys : List Token} → IsBase b vs ws → IsStars stars xs ys → FieldBack (spec b f stars (Some (word text n)))
field_again {b} f n {stars} text p q ts us d =
    let out = split (printed_spec (spec b f stars (Some (word text n)))) (mark (codes ";") ∷ []) d in
    let s = split (printed_base b) (printed_stars stars ++ kind.Name text ∷ []) out.front in
    field_end b f n text q (base_again p ts s.middle s.front) s.back out.back

data Fields : List Spec → Type 0 where
  one : {s : Spec} → FieldBack s → Fields (s ∷ [])
  more : {s : Spec} {others : List Spec} → FieldBack s → Fields others → Fields (s ∷ others)

both_fields : {xs ys : List Spec} → Fields xs → Fields ys → Fields (xs ++ ys)
both_fields (Fields.one p) q = Fields.more p q
both_fields (Fields.more p r) q = Fields.more p (both_fields r q)

names_fields : {b : Base} {f : Token} {fields : List Spec} {vs ws xs ys : List Token} → IsBase b vs ws → IsFieldNames b f fields xs ys → Fields fields
names_fields {f = f} p (IsFieldNames.last {n = n} {text = text} q name is) = Fields.one (field_again f n text p q)
names_fields {f = f} p (IsFieldNames.more {n = n} {text = text} q name is r) = Fields.more (field_again f n text p q) (names_fields p r)

fields_of : {fields : List Spec} {xs ys : List Token} → IsFields fields xs ys → Fields fields
fields_of (IsFields.last p q is) = names_fields p q
fields_of (IsFields.more p q r) = both_fields (names_fields p q) (fields_of r)

last_field : (s : Spec) {ts us vs : List Token} → Field s ts us → Spells (mark (codes "}") ∷ []) us vs → Like IsFields (map (moved_spec none_at)) (s ∷ []) ts vs
last_field s {vs = vs} x (Spells.more {t = c} is Spells.done) =
    subst (λ (ts : List Token). Like IsFields (map (moved_spec none_at)) (s ∷ []) ts vs) (sym x.here)
    (record { other = x.other ∷ []; alike = ap (λ (y : Spec). y ∷ []) x.alike; is = IsFields.last x.is x.name (spelled c term.CloseBrace is refl) })

more_fields : (s : Spec) (others : List Spec) {ts us vs : List Token} → Field s ts us → Like IsFields (map (moved_spec none_at)) others us vs → Like IsFields (map (moved_spec none_at)) (s ∷ others) ts vs
more_fields s others {vs = vs} x l =
    subst (λ (ts : List Token). Like IsFields (map (moved_spec none_at)) (s ∷ others) ts vs) (sym x.here) (record {
      other = x.other ∷ l.other;
      alike = ap (λ (y : Spec). y ∷ map (moved_spec none_at) l.other) x.alike ∙ ap (λ (ys : List Spec). moved_spec none_at s ∷ ys) l.alike;
      is = IsFields.more x.is x.name l.is;
    })

fields_again : {fields : List Spec} → Fields fields → {ts us vs : List Token} → Spells (each printed_field fields) ts us → Spells (mark (codes "}") ∷ []) us vs
    → Like IsFields (map (moved_spec none_at)) fields ts vs
fields_again (Fields.one {s = s} back) {ts} d end =
    let a = split (printed_field s) [] d in
    last_field s (field_done s (back ts a.middle a.front) a.back) end
  where
    field_done : (s : Spec) {ts us vs : List Token} → Field s ts us → Spells [] us vs → Field s ts vs
    field_done s x Spells.done = x
fields_again (Fields.more {s = s} {others = others} back rest) {ts} d end =
    let a = split (printed_field s) (each printed_field others) d in
    more_fields s others (back ts a.middle a.front) (fields_again rest a.back end)

body_again : {b : Body} {xs ys : List Token} → IsStructBody b xs ys → Back IsStructBody (moved_body none_at) printed_body b
body_again (IsStructBody.body {fields = fields} opens p) _ _ (Spells.more {t = o} is d) =
    let s = split (each printed_field fields) (mark (codes "}") ∷ []) d in
    let l = fields_again (fields_of p) s.front s.back in
    record { other = record { fields = l.other; at = o.start }; alike = ap (λ (x : List Spec). record { fields = x; at = 0 }) l.alike; is = IsStructBody.body (spelled o term.OpenBrace is refl) l.is }

-- constants

abbrev printed_as_const : Expr → List Kind
printed_as_const e = printed_const e (out-Expr e)

const_spelled : (n : ℤ) (at : ℕ) (t : Token) (ts : List Token) → t.kind ≡ const_kind n → Like IsConst bare (expr.Const n at) (t ∷ ts) ts
const_spelled (pos n) at t ts is = record { other = expr.Const (pos n) t.start; alike = bare_const (pos n) t.start ∙ sym (bare_const (pos n) at); is = IsConst.number is }
const_spelled (negsuc zero) at t ts is =
    record { other = expr.Const (negsuc 0) t.start; alike = bare_const (negsuc 0) t.start ∙ sym (bare_const (negsuc 0) at); is = IsConst.eof (spelled t term.Eof is refl) }
const_spelled (negsuc (suc n)) at t ts is =
    record { other = expr.Const (negsuc (suc n)) t.start; alike = bare_const (negsuc (suc n)) t.start ∙ sym (bare_const (negsuc (suc n)) at); is = IsConst.number is }

const_on : (n : ℤ) (at : ℕ) {ts us : List Token} → Spells (const_kind n ∷ []) ts us → Like IsConst bare (expr.Const n at) ts us
const_on n at (Spells.more {t = t} {ts = ts} is Spells.done) = const_spelled n at t ts is

pub print_as_const : (n : ℤ) (at : ℕ) → printed_as_const (expr.Const n at) ≡ const_kind n ∷ []
print_as_const n at = ap (printed_const (expr.Const n at)) (expr.outs-Const n at) ∙ print_const 1 n at

pub print_as_null : (at : ℕ) → printed_as_const (expr.Null at) ≡ key (codes "NULL") ∷ []
print_as_null at = ap (printed_const (expr.Null at)) (expr.outs-Null at) ∙ print_null 1 at

pub print_as_minus : (n : ℤ) (at other : ℕ) → printed_as_const (expr.Unary sign.Minus (expr.Const n at) other) ≡ mark (codes "-") ∷ kind.Number n ∷ []
print_as_minus n at other =
    ap (printed_const (expr.Unary sign.Minus (expr.Const n at) other)) (expr.outs-Unary sign.Minus (expr.Const n at) other)
    ∙ ap (λ (l : Expr-F Expr). mark (codes "-") ∷ behind_sign (expr.Const n at) l) (expr.outs-Const n at)

null_on : (at : ℕ) {ts us : List Token} → Spells (key (codes "NULL") ∷ []) ts us → Like IsConst bare (expr.Null at) ts us
null_on at (Spells.more {t = t} is Spells.done) = record { other = expr.Null t.start; alike = bare_null t.start ∙ sym (bare_null at); is = IsConst.null (spelled t term.Null is refl) }

minus_on : (n : ℤ) (at other : ℕ) {ts us : List Token} → Spells (mark (codes "-") ∷ kind.Number n ∷ []) ts us → Like IsConst bare (expr.Unary sign.Minus (expr.Const n at) other) ts us
minus_on n at other (Spells.more {t = m} is (Spells.more {t = t} number Spells.done)) = record {
  other = expr.Unary sign.Minus (expr.Const n t.start) m.start;
  alike =
      bare_unary sign.Minus (expr.Const n t.start) m.start ∙ ap (λ (x : Expr). expr.Unary sign.Minus x 0) (bare_const n t.start ∙ sym (bare_const n at))
      ∙ sym (bare_unary sign.Minus (expr.Const n at) other);
  is = IsConst.minus (spelled m term.Minus is refl) number;
}

const_again : {e : Expr} {xs ys : List Token} → IsConst e xs ys → Back IsConst bare printed_as_const e
const_again (IsConst.number {t = t} {value = n} number) ts us d = const_on n t.start (subst (λ (ks : List Kind). Spells ks ts us) (print_as_const n t.start) d)
const_again (IsConst.minus {m = m} {t = t} {value = n} is number) ts us d = minus_on n t.start m.start (subst (λ (ks : List Kind). Spells ks ts us) (print_as_minus n t.start m.start) d)
const_again (IsConst.null {t = t} is) ts us d = null_on t.start (subst (λ (ks : List Kind). Spells ks ts us) (print_as_null t.start) d)
const_again (IsConst.eof {t = t} is) ts us d = const_on (negsuc 0) t.start (subst (λ (ks : List Kind). Spells ks ts us) (print_as_const (negsuc 0) t.start) d)

-- declarations of the file

abbrev GlobalBack : GlobalDecl → Type 0
GlobalBack g = (b : Base) (f : Token) → moved_base none_at b ≡ moved_base none_at g.spec.base → (ts us : List Token) → Spells (printed_global g) ts us → Like (IsGlobal b f) (moved_global none_at) g ts us

abbrev global : Base → ℕ → List ℕ → Option Expr → GlobalDecl
global b stars text e = record { spec = named_spec b stars text; value = e; at = 0 }

bare_on : (c : Base) (g n : Token) {stars : ℕ} (text : List ℕ) {vs ws : List Token} → IsStars stars vs ws → (b : Base) (f : Token) → moved_base none_at b ≡ moved_base none_at c
    → {ts us vs : List Token} → Spells (printed_stars stars ++ kind.Name text ∷ []) ts us → Spells [] us vs
    → Like (IsGlobal b f) (moved_global none_at) (record { spec = spec c g stars (Some (word text n)); value = None; at = n.start }) ts vs
bare_on c g n {stars} text p b f like d Spells.done =
    let s = starred_again p text d in
    record {
      other = record { spec = spec b f stars (Some (word text s.name)); value = None; at = s.name.start };
      alike = ap (λ (x : Base). global x stars text None) like;
      is = IsGlobal.bare s.is s.named;
    }

given_on : (c : Base) (g n at : Token) {stars : ℕ} (text : List ℕ) {xs ys vs ws : List Token} → IsStars stars xs ys → {e : Expr} → IsConst e vs ws → (b : Base) (f : Token) → moved_base none_at b ≡ moved_base none_at c
    → {ts us vs : List Token} → Spells (printed_stars stars ++ kind.Name text ∷ []) ts us → Spells (printed_value e) us vs
    → Like (IsGlobal b f) (moved_global none_at) (record { spec = spec c g stars (Some (word text n)); value = Some e; at = at.start }) ts vs
given_on c g n at {stars} text p {e} q b f like {vs = vs} d (Spells.more {t = t} {ts = us} is k) =
    let s = starred_again p text d in
    let l = const_again q us vs k in
    record {
      other = record { spec = spec b f stars (Some (word text s.name)); value = Some l.other; at = t.start };
      alike = ap (λ (x : Base). global x stars text (Some (bare l.other))) like ∙ ap (λ (x : Expr). global (moved_base none_at c) stars text (Some x)) l.alike;
      is = IsGlobal.given s.is s.named (spelled t term.Put is refl) l.is;
    }

global_again : {c : Base} {g : Token} {d : GlobalDecl} {xs ys : List Token} → IsGlobal c g d xs ys → GlobalBack d
global_again {c} {g} (IsGlobal.bare {n = n} {stars = stars} {text = text} p name) b f like ts us d =
    let s = split (printed_stars stars ++ kind.Name text ∷ []) [] d in
    bare_on c g n text p b f like s.front s.back
global_again {c} {g} (IsGlobal.given {n = n} {t = t} {stars = stars} {text = text} {e = e} p name is q) b f like ts us d =
    let s = split (printed_stars stars ++ kind.Name text ∷ []) (printed_value e) d in
    given_on c g n t text p q b f like s.front s.back

global_base : {b : Base} {f : Token} {d : GlobalDecl} {xs ys : List Token} → IsGlobal b f d xs ys → d.spec.base ≡ b
global_base (IsGlobal.bare p name) = refl
global_base (IsGlobal.given p name is q) = refl

abbrev pub printed_all : List GlobalDecl → List Kind
printed_all [] = []
printed_all (g ∷ gs) = printed_global g ++ each next_global gs

abbrev GlobalsBack : Base → List GlobalDecl → Type 0
GlobalsBack c gs = (b : Base) (f : Token) → moved_base none_at b ≡ moved_base none_at c → (ts us vs : List Token) → Spells (printed_all gs) ts us → Spells (mark (codes ";") ∷ []) us vs
    → Like (IsGlobals b f) (map (moved_global none_at)) gs ts vs

last_global : {b : Base} {f : Token} (g : GlobalDecl) {ts us vs ws : List Token} → Like (IsGlobal b f) (moved_global none_at) g ts us → Spells [] us vs → Spells (mark (codes ";") ∷ []) vs ws
    → Like (IsGlobals b f) (map (moved_global none_at)) (g ∷ []) ts ws
last_global g l Spells.done (Spells.more {t = t} is Spells.done) =
    record { other = l.other ∷ []; alike = ap (λ (x : GlobalDecl). x ∷ []) l.alike; is = IsGlobals.last l.is (spelled t term.Semicolon is refl) }

more_globals : {b : Base} {f : Token} (g : GlobalDecl) (gs : List GlobalDecl) {t : Token} {ts us vs : List Token} → Like (IsGlobal b f) (moved_global none_at) g ts (t ∷ us) → t.kind ≡ mark (codes ",")
    → Like (IsGlobals b f) (map (moved_global none_at)) gs us vs → Like (IsGlobals b f) (map (moved_global none_at)) (g ∷ gs) ts vs
more_globals g gs {t} l is rest = record {
  other = l.other ∷ rest.other;
  alike = ap (λ (x : GlobalDecl). x ∷ map (moved_global none_at) rest.other) l.alike ∙ ap (λ (xs : List GlobalDecl). moved_global none_at g ∷ xs) rest.alike;
  is = IsGlobals.more l.is (spelled t term.Comma is refl) rest.is;
}

globals_behind : (c : Base) (g h : GlobalDecl) (gs : List GlobalDecl) → GlobalsBack c (h ∷ gs) → (b : Base) (f : Token) → moved_base none_at b ≡ moved_base none_at c → {ts us vs ws : List Token}
    → Like (IsGlobal b f) (moved_global none_at) g ts us → Spells (next_global h ++ each next_global gs) us vs → Spells (mark (codes ";") ∷ []) vs ws
    → Like (IsGlobals b f) (map (moved_global none_at)) (g ∷ h ∷ gs) ts ws
globals_behind c g h gs back b f like {vs = vs} {ws = ws} l (Spells.more {ts = us} is q) end = more_globals g (h ∷ gs) l is (back b f like us vs ws q end)

globals_again : {c : Base} {g : Token} {gs : List GlobalDecl} {xs ys : List Token} → IsGlobals c g gs xs ys → GlobalsBack c gs
globals_again {c} (IsGlobals.last {g = d} p is) = λ b f like ts us vs q end.
    let s = split (printed_global d) [] q in
    last_global d (global_again p b f (like ∙ ap (moved_base none_at) (sym (global_base p))) ts s.middle s.front) s.back end
globals_again {c} (IsGlobals.more {g = d} {others = []} p is rest) = elim rest [ ]
globals_again {c} (IsGlobals.more {g = d} {others = e ∷ ds} p is rest) = λ b f like ts us vs q end.
    let s = split (printed_global d) (each next_global (e ∷ ds)) q in
    globals_behind c d e ds (globals_again rest) b f like (global_again p b f (like ∙ ap (moved_base none_at) (sym (global_base p))) ts s.middle s.front) s.back end

globals_base : {b : Base} {f : Token} {g : GlobalDecl} {gs : List GlobalDecl} {xs ys : List Token} → IsGlobals b f (g ∷ gs) xs ys → g.spec.base ≡ b
globals_base (IsGlobals.last p is) = global_base p
globals_base (IsGlobals.more p is rest) = global_base p

-- parameters and heads

param_on : (b : Base) (f : Token) (stars : ℕ) (name : Option Word) {ts us vs ws : List Token} → Like IsBase (moved_base none_at) b ts us → IsStars stars us vs
    → Like IsOptionalName (option_map (moved_word none_at)) name vs ws → Like IsParam (moved_spec none_at) (spec b f stars name) ts ws
param_on b f stars name {ws = ws} l s n =
    let begun = base_begun l.is in
    subst (λ (ts : List Token). Like IsParam (moved_spec none_at) (spec b f stars name) ts ws) (sym begun.here) (record {
      other = spec l.other begun.first stars n.other;
      alike =
          ap (λ (x : Base). record { base = x; stars = stars; name = option_map (moved_word none_at) n.other; at = 0 }) l.alike
          ∙ ap (λ (x : Option Word). record { base = moved_base none_at b; stars = stars; name = x; at = 0 }) n.alike;
      is = IsParam.param begun.is s n.is;
    })

param_again : {s : Spec} {xs ys : List Token} → IsParam s xs ys → Back IsParam (moved_spec none_at) printed_spec s
param_again (IsParam.param {b = b} {f = f} {stars = stars} {name = name} p q r) ts us d =
    let a = split (printed_base b) (printed_starred (spec b f stars name)) d in
    let s = split (printed_stars stars) (maybe printed_word name) a.back in
    param_on b f stars name (base_again p ts a.middle a.front) (stars_again q a.middle s.middle s.front) (optional_name_again r s.middle us s.back)

no_params : {ts us vs : List Token} → Spells [] ts us → Spells (mark (codes ")") ∷ []) us vs → Like IsMoreParams (map (moved_spec none_at)) [] ts vs
no_params Spells.done (Spells.more {t = t} is Spells.done) = record { other = []; alike = refl; is = IsMoreParams.close (spelled t term.Close is refl) }

more_on : (s : Spec) (others : List Spec) {t : Token} {ts us vs : List Token} → t.kind ≡ mark (codes ",") → Like IsParam (moved_spec none_at) s ts us → Like IsMoreParams (map (moved_spec none_at)) others us vs
    → Like IsMoreParams (map (moved_spec none_at)) (s ∷ others) (t ∷ ts) vs
more_on s others {t} is x rest = record {
  other = x.other ∷ rest.other;
  alike = ap (λ (y : Spec). y ∷ map (moved_spec none_at) rest.other) x.alike ∙ ap (λ (ys : List Spec). moved_spec none_at s ∷ ys) rest.alike;
  is = IsMoreParams.comma (spelled t term.Comma is refl) x.is rest.is;
}

comma_behind : {s : Spec} {others : List Spec} {xs ys : List Token} → IsParam s xs ys
    → ((us vs ws : List Token) → Spells (each next_param others) us vs → Spells (mark (codes ")") ∷ []) vs ws → Like IsMoreParams (map (moved_spec none_at)) others us ws)
    → {ts us vs : List Token} → Spells (each next_param (s ∷ others)) ts us → Spells (mark (codes ")") ∷ []) us vs → Like IsMoreParams (map (moved_spec none_at)) (s ∷ others) ts vs
comma_behind {s} {others} p back {us = us} {vs = vs} (Spells.more {ts = ts} is d) end =
    let a = split (printed_spec s) (each next_param others) d in
    more_on s others is (param_again p ts a.middle a.front) (back a.middle us vs a.back end)

more_params_again : {params : List Spec} {xs ys : List Token} → IsMoreParams params xs ys → {ts us vs : List Token} → Spells (each next_param params) ts us → Spells (mark (codes ")") ∷ []) us vs
    → Like IsMoreParams (map (moved_spec none_at)) params ts vs
more_params_again (IsMoreParams.close is) d end = no_params d end
more_params_again (IsMoreParams.comma is p r) d end = comma_behind p (λ us vs ws k e. more_params_again r k e) d end

nothing_on : {ts us vs : List Token} → Spells [] ts us → Spells (mark (codes ")") ∷ []) us vs → Like IsParams (map (moved_spec none_at)) [] ts vs
nothing_on Spells.done (Spells.more {t = t} is Spells.done) = record { other = []; alike = refl; is = IsParams.nothing (spelled t term.Close is refl) }

some_on : (s : Spec) (others : List Spec) {ts us vs : List Token} → Like IsParam (moved_spec none_at) s ts us → Like IsMoreParams (map (moved_spec none_at)) others us vs
    → Like IsParams (map (moved_spec none_at)) (s ∷ others) ts vs
some_on s others x rest = record {
  other = x.other ∷ rest.other;
  alike = ap (λ (y : Spec). y ∷ map (moved_spec none_at) rest.other) x.alike ∙ ap (λ (ys : List Spec). moved_spec none_at s ∷ ys) rest.alike;
  is = IsParams.some x.is rest.is;
}

params_again : {params : List Spec} {xs ys : List Token} → IsParams params xs ys → {ts us vs : List Token} → Spells (printed_params params) ts us → Spells (mark (codes ")") ∷ []) us vs
    → Like IsParams (map (moved_spec none_at)) params ts vs
params_again (IsParams.nothing is) d end = nothing_on d end
params_again (IsParams.void is also) d end = nothing_on d end
params_again (IsParams.some {p = s} {others = others} p r) {ts} d end =
    let a = split (printed_spec s) (each next_param others) d in
    some_on s others (param_again p ts a.middle a.front) (more_params_again r a.back end)

void_on : (t n : Token) (text : List ℕ) {params : List Spec} {xs ys : List Token} → IsParams params xs ys
    → Back IsHead (moved_head none_at) printed_head (record { result = spec base.Void t 0 (Some (word text n)); params = params })
void_on t n text {params} p _ _ (Spells.more {t = v} is (Spells.more {t = m} name (Spells.more {t = o} opens d))) =
    let s = split (printed_params params) (mark (codes ")") ∷ []) d in
    let l = params_again p s.front s.back in
    record {
      other = record { result = spec base.Void v 0 (Some (word text m)); params = l.other };
      alike = ap (λ (x : List Spec). record { result = named_spec base.Void 0 text; params = x }) l.alike;
      is = IsHead.void (spelled v term.Void is refl) name (spelled o term.Open opens refl) l.is;
    }

value_on : (b : Base) (f n : Token) (stars : ℕ) (text : List ℕ) (params : List Spec) {o : Token} {ts us vs ws : List Token} → Like IsBase (moved_base none_at) b ts us → Starred stars text us (o ∷ vs)
    → o.kind ≡ mark (codes "(") → Like IsParams (map (moved_spec none_at)) params vs ws → Like IsHead (moved_head none_at) (record { result = spec b f stars (Some (word text n)); params = params }) ts ws
value_on b f n stars text params {o} {ws = ws} l s opens ps =
    let begun = base_begun l.is in
    subst (λ (ts : List Token). Like IsHead (moved_head none_at) (record { result = spec b f stars (Some (word text n)); params = params }) ts ws) (sym begun.here) (record {
      other = record { result = spec l.other begun.first stars (Some (word text s.name)); params = ps.other };
      alike =
          ap (λ (x : Base). record { result = named_spec x stars text; params = map (moved_spec none_at) ps.other }) l.alike
          ∙ ap (λ (x : List Spec). record { result = named_spec (moved_base none_at b) stars text; params = x }) ps.alike;
      is = IsHead.value begun.is s.is s.named (spelled o term.Open opens refl) ps.is;
    })

value_behind : (b : Base) (f n : Token) {stars : ℕ} (text : List ℕ) {params : List Spec} {vs ws xs ys : List Token} → IsStars stars vs ws → IsParams params xs ys → {ts us vs ws : List Token}
    → Like IsBase (moved_base none_at) b ts us → Spells (printed_stars stars ++ kind.Name text ∷ []) us vs → Spells (within (printed_params params)) vs ws
    → Like IsHead (moved_head none_at) (record { result = spec b f stars (Some (word text n)); params = params }) ts ws
value_behind b f n {stars} text {params} p q l d (Spells.more opens k) =
    let s = split (printed_params params) (mark (codes ")") ∷ []) k in
    value_on b f n stars text params l (starred_again p text d) opens (params_again q s.front s.back)

head_again : {h : Head} {xs ys : List Token} → IsHead h xs ys → Back IsHead (moved_head none_at) printed_head h
head_again (IsHead.void {t = t} {n = n} {text = text} is name opens p) ts us d = void_on t n text p ts us d
head_again (IsHead.value {b = b} {f = f} {n = n} {stars = stars} {text = text} {params = params} p q name opens r) ts us d =
    let out = split (printed_spec (spec b f stars (Some (word text n)))) (within (printed_params params)) d in
    let s = split (printed_base b) (printed_stars stars ++ kind.Name text ∷ []) out.front in
    value_behind b f n text q r (base_again p ts s.middle s.front) s.back out.back

-- external declarations

abbrev pub bare_top : Top → Top
bare_top = moved_top none_at no_braces

abbrev pub braced_top : Top → Top
braced_top = moved_top same_at all_braces

abbrev pub TopIs : Top → List Token → List Token → Type 0
TopIs = Braced IsTop bare_top braced_top

body_stays : (b : Body) → moved_body same_at b ≡ b
body_stays b = ap (λ (x : List Spec). record { fields = x; at = b.at }) (all_stay (moved_spec same_at) spec_stays b.fields)

global_stays : (g : GlobalDecl) → moved_global same_at g ≡ g
global_stays g =
    ap (λ (s : Spec). record { spec = s; value = option_map (moved_expr same_at) g.value; at = g.at }) (spec_stays g.spec)
    ∙ ap (λ (e : Option Expr). record { spec = g.spec; value = e; at = g.at }) (option_stays (moved_expr same_at) expr_stays g.value)

head_stays : (h : Head) → moved_head same_at h ≡ h
head_stays h =
    ap (λ (s : Spec). record { result = s; params = map (moved_spec same_at) h.params }) (spec_stays h.result)
    ∙ ap (λ (ps : List Spec). record { result = h.result; params = ps }) (all_stay (moved_spec same_at) spec_stays h.params)

alias_top : (w v : Word) {ts us : List Token} → Spells (printed_top (top.Struct (Some w) None (Some v))) ts us → TopIs (top.Struct (Some w) None (Some v)) ts us
alias_top w v (Spells.more {t = t} is (Spells.more {t = s} also (Spells.more {t = n} name (Spells.more {t = m} said (Spells.more {t = e} end Spells.done))))) = record {
  other = top.Struct (Some (word w.text n)) None (Some (word v.text m));
  alike = refl;
  braces = refl;
  is = IsTop.alias (spelled t term.Typedef is refl) (spelled s term.Struct also refl) name said (spelled e term.Semicolon end refl);
}

tag_top : (w : Word) {ts us : List Token} → Spells (printed_top (top.Struct (Some w) None None)) ts us → TopIs (top.Struct (Some w) None None) ts us
tag_top w (Spells.more {t = s} is (Spells.more {t = n} name (Spells.more {t = e} end Spells.done))) = record {
  other = top.Struct (Some (word w.text n)) None None;
  alike = refl;
  braces = refl;
  is = IsTop.tag (spelled s term.Struct is refl) name (spelled e term.Semicolon end refl);
}

tag_body_on : (w : Word) (b : Body) {s n : Token} {ts us vs : List Token} → s.kind ≡ key (codes "struct") → n.kind ≡ kind.Name w.text → Like IsStructBody (moved_body none_at) b ts us
    → Spells (mark (codes ";") ∷ []) us vs → TopIs (top.Struct (Some w) (Some b) None) (s ∷ n ∷ ts) vs
tag_body_on w b {s} {n} is name l (Spells.more {t = e} end Spells.done) = record {
  other = top.Struct (Some (word w.text n)) (Some l.other) None;
  alike = ap (λ (x : Body). top.Struct (Some (record { text = w.text; at = 0 })) (Some x) None) l.alike;
  braces = ap (λ (x : Body). top.Struct (Some (word w.text n)) (Some x) None) (body_stays l.other);
  is = IsTop.tag_of_body (spelled s term.Struct is refl) name l.is (spelled e term.Semicolon end refl);
}

tag_body_top : (w : Word) {b : Body} {xs ys : List Token} → IsStructBody b xs ys → {ts us : List Token} → Spells (printed_top (top.Struct (Some w) (Some b) None)) ts us
    → TopIs (top.Struct (Some w) (Some b) None) ts us
tag_body_top w {b} p (Spells.more is (Spells.more {ts = ts} name d)) =
    let s = split (printed_body b) (mark (codes ";") ∷ []) d in
    tag_body_on w b is name (body_again p ts s.middle s.front) s.back

alias_body_on : (tag : Option Word) (b : Body) (w : Word) {t s : Token} {ts us vs ws : List Token} → t.kind ≡ key (codes "typedef") → s.kind ≡ key (codes "struct")
    → Like IsOptionalName (option_map (moved_word none_at)) tag ts us → Like IsStructBody (moved_body none_at) b us vs → Spells (kind.Name w.text ∷ mark (codes ";") ∷ []) vs ws
    → TopIs (top.Struct tag (Some b) (Some w)) (t ∷ s ∷ ts) ws
alias_body_on tag b w {t} {s} is also n l (Spells.more {t = m} name (Spells.more {t = e} end Spells.done)) = record {
  other = top.Struct n.other (Some l.other) (Some (word w.text m));
  alike =
      ap (λ (x : Option Word). top.Struct x (Some (moved_body none_at l.other)) (Some (record { text = w.text; at = 0 }))) n.alike
      ∙ ap (λ (x : Body). top.Struct (option_map (moved_word none_at) tag) (Some x) (Some (record { text = w.text; at = 0 }))) l.alike;
  braces =
      ap (λ (x : Option Word). top.Struct x (Some (moved_body same_at l.other)) (Some (word w.text m))) (option_stays (moved_word same_at) word_stays n.other)
      ∙ ap (λ (x : Body). top.Struct n.other (Some x) (Some (word w.text m))) (body_stays l.other);
  is = IsTop.alias_of_body (spelled t term.Typedef is refl) (spelled s term.Struct also refl) n.is l.is name (spelled e term.Semicolon end refl);
}

alias_body_top : {tag : Option Word} {b : Body} (w : Word) {vs ws xs ys : List Token} → IsOptionalName tag vs ws → IsStructBody b xs ys → {ts us : List Token}
    → Spells (key (codes "typedef") ∷ key (codes "struct") ∷ ((maybe printed_word tag ++ printed_body b) ++ kind.Name w.text ∷ mark (codes ";") ∷ [])) ts us → TopIs (top.Struct tag (Some b) (Some w)) ts us
alias_body_top {tag} {b} w p q (Spells.more is (Spells.more {ts = ts} also d)) =
    let out = split (maybe printed_word tag ++ printed_body b) (kind.Name w.text ∷ mark (codes ";") ∷ []) d in
    let s = split (maybe printed_word tag) (printed_body b) out.front in
    alias_body_on tag b w is also (optional_name_again p ts s.middle s.front) (body_again q s.middle out.middle s.back) out.back

globals_on : (c : Base) (gs : List GlobalDecl) → GlobalsBack c gs → {ts us vs ws : List Token} → Like IsBase (moved_base none_at) c ts us → Spells (printed_all gs) us vs
    → Spells (mark (codes ";") ∷ []) vs ws → TopIs (top.Globals gs) ts ws
globals_on c gs back {us = us} {vs = vs} {ws = ws} l q end =
    let begun = base_begun l.is in
    let rest = back l.other begun.first l.alike us vs ws q end in
    subst (λ (ts : List Token). TopIs (top.Globals gs) ts ws) (sym begun.here) (record {
      other = top.Globals rest.other;
      alike = ap (λ (x : List GlobalDecl). top.Globals x) rest.alike;
      braces = ap (λ (x : List GlobalDecl). top.Globals x) (all_stay (moved_global same_at) global_stays rest.other);
      is = IsTop.globals begun.is rest.is;
    })

globals_top : {c : Base} {f : Token} {gs : List GlobalDecl} {vs ws xs ys : List Token} → IsBase c vs ws → IsGlobals c f gs xs ys → (ts us : List Token) → Spells (printed_top (top.Globals gs)) ts us
    → TopIs (top.Globals gs) ts us
globals_top {gs = []} p q = elim q [ ]
globals_top {c} {gs = g ∷ gs} p q = λ ts us d.
    let out = split (printed_globals (g ∷ gs)) (mark (codes ";") ∷ []) d in
    let s = split (printed_base g.spec.base) (printed_all (g ∷ gs)) out.front in
    globals_on c (g ∷ gs) (globals_again q) (base_again p ts s.middle (subst (λ (b : Base). Spells (printed_base b) ts s.middle) (globals_base q) s.front)) s.back out.back

proto_on : (h : Head) {ts us vs : List Token} → Like IsHead (moved_head none_at) h ts us → Spells (mark (codes ";") ∷ []) us vs → TopIs (top.Proto h) ts vs
proto_on h l (Spells.more {t = e} end Spells.done) = record {
  other = top.Proto l.other;
  alike = ap (λ (x : Head). top.Proto x) l.alike;
  braces = ap (λ (x : Head). top.Proto x) (head_stays l.other);
  is = IsTop.prototype l.is (spelled e term.Semicolon end refl);
}

function_on : (h : Head) (b : Block) {ts us vs : List Token} → Like IsHead (moved_head none_at) h ts us → BlockIs b us vs → TopIs (top.Fun h b) ts vs
function_on h b l x = record {
  other = top.Fun l.other x.other;
  alike = ap (λ (y : Head). top.Fun y (moved_block none_at no_braces x.other)) l.alike ∙ ap (λ (y : Block). top.Fun (moved_head none_at h) y) x.alike;
  braces = ap (λ (y : Head). top.Fun y (moved_block same_at all_braces x.other)) (head_stays l.other) ∙ ap (λ (y : Block). top.Fun l.other y) x.braces;
  is = IsTop.function l.is x.is.1;
}

top_again : {x : Top} {xs ys : List Token} → IsTop x xs ys → (ts us : List Token) → Spells (printed_top x) ts us → TopIs x ts us
top_again (IsTop.alias {n = n} {m = m} {tag = tag} {text = text} is also name said end) ts us d = alias_top (word tag n) (word text m) d
top_again (IsTop.alias_of_body {m = m} {tag = tag} {text = text} {body = body} is also p q said end) ts us d =
    alias_body_top (word text m) p q (subst (λ (ks : List Kind). Spells (key (codes "typedef") ∷ key (codes "struct") ∷ ks) ts us)
    (append_assoc (maybe printed_word tag ++ printed_body body) (kind.Name text ∷ []) (mark (codes ";") ∷ [])) d)
top_again (IsTop.tag {n = n} {text = text} is name end) ts us d = tag_top (word text n) d
top_again (IsTop.tag_of_body {n = n} {text = text} is name p end) ts us d = tag_body_top (word text n) p d
top_again (IsTop.globals p q) ts us d = globals_top p q ts us d
top_again (IsTop.prototype {h = h} p end) ts us d =
    let s = split (printed_head h) (mark (codes ";") ∷ []) d in
    proto_on h (head_again p ts s.middle s.front) s.back
top_again (IsTop.function {h = h} {b = b} p q) ts us d =
    let s = split (printed_head h) (printed_block b) d in
    function_on h b (head_again p ts s.middle s.front) (block_again q s.middle us s.back)

-- tokens of a file alike this one
pub record File (tops : List Top) (ts : List Token) : Type 0 where
  pub other : List Top
  pub alike : map bare_top other ≡ map bare_top tops
  pub braces : map braced_top other ≡ other
  pub is : IsFile other ts

more_tops : (x : Top) (others : List Top) {ts us : List Token} → TopIs x ts us → File others us → File (x ∷ others) ts
more_tops x others l rest = record {
  other = l.other ∷ rest.other;
  alike = ap (λ (y : Top). y ∷ map bare_top rest.other) l.alike ∙ ap (λ (ys : List Top). bare_top x ∷ ys) rest.alike;
  braces = ap (λ (y : Top). y ∷ map braced_top rest.other) l.braces ∙ ap (λ (ys : List Top). l.other ∷ ys) rest.braces;
  is = IsFile.more l.is rest.is;
}

file_on : {ts : List Token} → Spells [] ts [] → File [] ts
file_on Spells.done = record { other = []; alike = refl; braces = refl; is = IsFile.done }

pub file_again : {tops : List Top} {xs : List Token} → IsFile tops xs → (ts : List Token) → Spells (each printed_top tops) ts [] → File tops ts
file_again IsFile.done ts d = file_on d
file_again (IsFile.more {x = x} {others = others} p r) ts d =
    let s = split (printed_top x) (each printed_top others) d in
    more_tops x others (top_again p ts s.middle s.front) (file_again r s.middle s.back)
