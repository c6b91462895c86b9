-- What is printed of a file opens the fewest parentheses.
use Rattle.std.proofs.Common.{◌≡◌, ℕ, ◌+◌, ◌≤◌, ℤ, pos, negsuc, zero, suc, List, [], ◌∷◌, ◌++◌, codes, Option, Some, None, refl, ap, ◌∙◌, arith}
use Rattle.c_lexer.specs.declared.token.Token.{Token}
use Rattle.c_lexer.specs.declared.token.Kind.{Kind}
use Rattle.c_tree.specs.declared.expr.Sign.TheVariants as sign
use Rattle.c_tree.specs.declared.tree.Base.{Base}
use Rattle.c_tree.specs.declared.tree.Base.TheVariants as base
use Rattle.c_tree.specs.declared.tree.Body.{Body}
use Rattle.c_tree.specs.declared.tree.Expr.{Expr}
use Rattle.c_tree.specs.declared.tree.Expr.TheVariants as expr
use Rattle.c_tree.specs.declared.tree.GlobalDecl.{GlobalDecl}
use Rattle.c_tree.specs.declared.tree.Head.{Head}
use Rattle.c_tree.specs.declared.tree.Spec.{Spec}
use Rattle.c_tree.specs.declared.tree.Top.{Top}
use Rattle.c_tree.specs.declared.tree.Top.TheVariants as top
use Rattle.c_tree.specs.declared.tree.Word.{Word}
use Rattle.c_parser.specs.Term.{same, word}
use Rattle.c_parser.specs.Declarators.{spec}
use Rattle.c_parser.specs.Grammar.{IsFieldNames, IsFields, IsStructBody, IsConst, IsGlobal, IsGlobals, IsParam, IsMoreParams, IsParams, IsHead, IsTop, IsFile}
use Rattle.c_parser.specs.Printed.{key, mark, each, maybe, within, const_kind, printed_word, printed_starred, printed_spec, printed_block, printed_field, printed_body, printed_value, printed_global, next_global, printed_globals, next_param, printed_params, printed_head, printed_struct, printed_top}
use Rattle.c_parser.proofs.Spelled.{opens, opens_both, opens_within, tally, tally_behind, tally_open}
use Rattle.c_parser.proofs.FewestStatements.{opens_starred, opens_spec, opens_behind_base, base_fewest, stars_fewest, name_fewest}
use Rattle.c_parser.proofs.FewestBlocks.{opens_ended, opens_shut, block_fewest}
use Rattle.c_parser.proofs.PrintedFile.{printed_all, print_as_const, print_as_null, print_as_minus}

-- fields open none

opens_field : (s : Spec) → opens (printed_field s) ≡ 0
opens_field s = let all = opens_ended (printed_spec s) in let none = opens_spec s in omega (arith, all, none)

opens_fields : (fields : List Spec) → opens (each printed_field fields) ≡ 0
opens_fields [] = refl
opens_fields (s ∷ fields) =
    let both = opens_both (printed_field s) (each printed_field fields) in
    let one = opens_field s in
    let rest = opens_fields fields in
    omega (arith, both, one, rest)

opens_brace : (ks : List Kind) → opens (mark (codes "{") ∷ ks) ≡ opens ks
unfolding same
opens_brace ks = refl

opens_body : (b : Body) → opens (printed_body b) ≡ 0
opens_body b =
    let brace = opens_brace (each printed_field b.fields ++ mark (codes "}") ∷ []) in
    let shut = opens_shut (each printed_field b.fields) in
    let none = opens_fields b.fields in
    omega (arith, brace, shut, none)

opens_word : (tag : Option Word) → opens (maybe printed_word tag) ≡ 0
unfolding same
opens_word None = refl
opens_word (Some w) = refl

opens_maybe_body : (body : Option Body) → opens (maybe printed_body body) ≡ 0
opens_maybe_body None = refl
opens_maybe_body (Some b) = opens_body b

opens_key : (ks : List Kind) → opens (key (codes "struct") ∷ ks) ≡ opens ks
unfolding same
opens_key ks = refl

opens_tagged : (tag : Option Word) (body : Option Body) → opens (printed_struct tag body) ≡ 0
opens_tagged tag body =
    let first = opens_key (maybe printed_word tag ++ maybe printed_body body) in
    let both = opens_both (maybe printed_word tag) (maybe printed_body body) in
    let name = opens_word tag in
    let none = opens_maybe_body body in
    omega (arith, first, both, name, none)

opens_typedef : (ks : List Kind) (w : Word) → opens (key (codes "typedef") ∷ (ks ++ printed_word w)) ≡ opens ks + 0
unfolding same
opens_typedef ks w = opens_both ks (printed_word w)

opens_structs : (tag : Option Word) (body : Option Body) (alias : Option Word) → opens (printed_top (top.Struct tag body alias)) ≡ 0
opens_structs tag body None = let all = opens_ended (printed_struct tag body) in let none = opens_tagged tag body in omega (arith, all, none)
opens_structs tag body (Some w) =
    let all = opens_ended (key (codes "typedef") ∷ (printed_struct tag body ++ printed_word w)) in
    let one = opens_typedef (printed_struct tag body) w in
    let none = opens_tagged tag body in
    omega (arith, all, one, none)

names_fewest : {b : Base} {f : Token} {fields : List Spec} {ts us : List Token} → IsFieldNames b f fields ts us → tally us ≤ tally ts
names_fewest (IsFieldNames.last {n = n} {t = t} {us = us} p name is) =
    let front = stars_fewest p in let token = tally_behind t us in let first = tally_behind n (t ∷ us) in omega (arith, front, token, first)
names_fewest (IsFieldNames.more {n = n} {t = t} {us = us} p name is r) =
    let front = stars_fewest p in let token = tally_behind t us in let first = tally_behind n (t ∷ us) in let rest = names_fewest r in omega (arith, front, token, first, rest)

fields_fewest : {fields : List Spec} {ts us : List Token} → IsFields fields ts us → tally us ≤ tally ts
fields_fewest (IsFields.last {c = c} {vs = vs} p q is) = let a = base_fewest p in let b = names_fewest q in let shut = tally_behind c vs in omega (arith, a, b, shut)
fields_fewest (IsFields.more p q r) = let a = base_fewest p in let b = names_fewest q in let rest = fields_fewest r in omega (arith, a, b, rest)

body_fewest : {b : Body} {ts us : List Token} → IsStructBody b ts us → tally us ≤ tally ts
body_fewest (IsStructBody.body {o = o} {ts = ts} is p) = let here = fields_fewest p in let token = tally_behind o ts in omega (arith, here, token)

-- constants open none

opens_number : (n : ℤ) → opens (const_kind n ∷ []) ≡ 0
unfolding same
opens_number (pos n) = refl
opens_number (negsuc zero) = refl
opens_number (negsuc (suc n)) = refl

opens_const : (n : ℤ) (at : ℕ) → opens (printed_value (expr.Const n at)) ≡ 0
unfolding same
opens_const n at = ap opens (print_as_const n at) ∙ opens_number n

opens_null : (at : ℕ) → opens (printed_value (expr.Null at)) ≡ 0
unfolding same
opens_null at = ap opens (print_as_null at)

opens_minus : (n : ℤ) (at other : ℕ) → opens (printed_value (expr.Unary sign.Minus (expr.Const n at) other)) ≡ 0
unfolding same
opens_minus n at other = ap opens (print_as_minus n at other)

const_fewest : {e : Expr} {ts us : List Token} → IsConst e ts us → opens (printed_value e) + tally us ≤ tally ts
const_fewest (IsConst.number {t = t} {value = n} {ts = ts} is) = let none = opens_const n t.start in let token = tally_behind t ts in omega (arith, none, token)
const_fewest (IsConst.minus {m = m} {t = t} {value = n} {ts = ts} is number) =
    let none = opens_minus n t.start m.start in let token = tally_behind t ts in let first = tally_behind m (t ∷ ts) in omega (arith, none, token, first)
const_fewest (IsConst.null {t = t} {ts = ts} is) = let none = opens_null t.start in let token = tally_behind t ts in omega (arith, none, token)
const_fewest (IsConst.eof {t = t} {ts = ts} is) = let none = opens_const (negsuc 0) t.start in let token = tally_behind t ts in omega (arith, none, token)

-- declarations of the file

global_fewest : {b : Base} {f : Token} {g : GlobalDecl} {ts us : List Token} → IsGlobal b f g ts us → opens (printed_global g) + tally us ≤ tally ts
global_fewest {b} {f} (IsGlobal.bare {n = n} {stars = stars} {text = text} {us = us} p name) =
    let both = opens_both (printed_starred (spec b f stars (Some (word text n)))) [] in
    let none = opens_starred (spec b f stars (Some (word text n))) in
    let front = stars_fewest p in
    let token = tally_behind n us in
    omega (arith, both, none, front, token)
global_fewest {b} {f} (IsGlobal.given {n = n} {t = t} {stars = stars} {text = text} {e = e} {us = us} p name is q) =
    let both = opens_both (printed_starred (spec b f stars (Some (word text n)))) (printed_value e) in
    let none = opens_starred (spec b f stars (Some (word text n))) in
    let front = stars_fewest p in
    let value = const_fewest q in
    let token = tally_behind t us in
    let first = tally_behind n (t ∷ us) in
    omega (arith, both, none, front, value, token, first)

opens_next : (gs : List GlobalDecl) → opens (each next_global gs) ≡ opens (printed_all gs)
unfolding same
opens_next [] = refl
opens_next (g ∷ gs) = refl

globals_fewest : {b : Base} {f : Token} {gs : List GlobalDecl} {ts us : List Token} → IsGlobals b f gs ts us → opens (printed_all gs) + tally us ≤ tally ts
globals_fewest (IsGlobals.last {g = g} {t = t} {us = us} p is) =
    let both = opens_both (printed_global g) [] in let here = global_fewest p in let token = tally_behind t us in omega (arith, both, here, token)
globals_fewest (IsGlobals.more {g = g} {others = others} {t = t} {us = us} p is r) =
    let both = opens_both (printed_global g) (each next_global others) in
    let next = opens_next others in
    let here = global_fewest p in
    let rest = globals_fewest r in
    let token = tally_behind t us in
    omega (arith, both, next, here, rest, token)

opens_globals : (gs : List GlobalDecl) → opens (printed_globals gs) ≡ opens (printed_all gs)
opens_globals [] = refl
opens_globals (g ∷ gs) = opens_behind_base g.spec.base (printed_all (g ∷ gs))

-- heads open one

opens_next_param : (s : Spec) → opens (next_param s) ≡ 0
unfolding same
opens_next_param s = opens_spec s

opens_more_params : (params : List Spec) → opens (each next_param params) ≡ 0
opens_more_params [] = refl
opens_more_params (s ∷ params) =
    let both = opens_both (next_param s) (each next_param params) in
    let one = opens_next_param s in
    let rest = opens_more_params params in
    omega (arith, both, one, rest)

opens_params : (params : List Spec) → opens (printed_params params) ≡ 0
opens_params [] = refl
opens_params (s ∷ params) =
    let both = opens_both (printed_spec s) (each next_param params) in
    let one = opens_spec s in
    let rest = opens_more_params params in
    omega (arith, both, one, rest)

opens_head : (h : Head) → opens (printed_head h) ≡ 1
opens_head h =
    let both = opens_both (printed_spec h.result) (within (printed_params h.params)) in
    let none = opens_spec h.result in
    let one = opens_within (printed_params h.params) in
    let params = opens_params h.params in
    omega (arith, both, none, one, params)

param_fewest : {s : Spec} {ts us : List Token} → IsParam s ts us → tally us ≤ tally ts
param_fewest (IsParam.param p q r) = let a = base_fewest p in let b = stars_fewest q in let c = name_fewest r in omega (arith, a, b, c)

more_params_fewest : {params : List Spec} {ts us : List Token} → IsMoreParams params ts us → tally us ≤ tally ts
more_params_fewest (IsMoreParams.close {t = t} {ts = ts} is) = tally_behind t ts
more_params_fewest (IsMoreParams.comma {t = t} {ts = ts} is p r) = let a = param_fewest p in let b = more_params_fewest r in let token = tally_behind t ts in omega (arith, a, b, token)

params_fewest : {params : List Spec} {ts us : List Token} → IsParams params ts us → tally us ≤ tally ts
params_fewest (IsParams.nothing {t = t} {ts = ts} is) = tally_behind t ts
params_fewest (IsParams.void {v = v} {t = t} {ts = ts} is also) = let a = tally_behind t ts in let b = tally_behind v (t ∷ ts) in omega (arith, a, b)
params_fewest (IsParams.some p r) = let a = param_fewest p in let b = more_params_fewest r in omega (arith, a, b)

head_fewest : {h : Head} {ts us : List Token} → IsHead h ts us → opens (printed_head h) + tally us ≤ tally ts
head_fewest (IsHead.void {t = t} {n = n} {o = o} {text = text} {params = params} {ts = ts} is name opening p) =
    let one = opens_head (record { result = spec base.Void t 0 (Some (word text n)); params = params }) in
    let here = params_fewest p in
    let bracket = tally_open o ts opening in
    let second = tally_behind n (o ∷ ts) in
    let first = tally_behind t (n ∷ o ∷ ts) in
    omega (arith, one, here, bracket, second, first)
head_fewest (IsHead.value {b = b} {f = f} {n = n} {o = o} {stars = stars} {text = text} {params = params} {vs = vs} p q name opening r) =
    let one = opens_head (record { result = spec b f stars (Some (word text n)); params = params }) in
    let front = base_fewest p in
    let middle = stars_fewest q in
    let here = params_fewest r in
    let bracket = tally_open o vs opening in
    let second = tally_behind n (o ∷ vs) in
    omega (arith, one, front, middle, here, bracket, second)

top_fewest : {x : Top} {ts us : List Token} → IsTop x ts us → opens (printed_top x) + tally us ≤ tally ts
top_fewest (IsTop.alias {t = t} {s = s} {n = n} {m = m} {e = e} {tag = tag} {text = text} {ts = ts} is also name said end) =
    let none = opens_structs (Some (word tag n)) None (Some (word text m)) in
    let a = tally_behind e ts in
    let b = tally_behind m (e ∷ ts) in
    let c = tally_behind n (m ∷ e ∷ ts) in
    let d = tally_behind s (n ∷ m ∷ e ∷ ts) in
    let f = tally_behind t (s ∷ n ∷ m ∷ e ∷ ts) in
    omega (arith, none, a, b, c, d, f)
top_fewest (IsTop.alias_of_body {t = t} {s = s} {m = m} {e = e} {tag = tag} {text = text} {body = body} {ts = ts} {vs = vs} is also p q said end) =
    let none = opens_structs tag (Some body) (Some (word text m)) in
    let front = name_fewest p in
    let here = body_fewest q in
    let a = tally_behind e vs in
    let b = tally_behind m (e ∷ vs) in
    let c = tally_behind s ts in
    let d = tally_behind t (s ∷ ts) in
    omega (arith, none, front, here, a, b, c, d)
top_fewest (IsTop.tag {s = s} {n = n} {e = e} {text = text} {ts = ts} is name end) =
    let none = opens_structs (Some (word text n)) None None in
    let a = tally_behind e ts in
    let b = tally_behind n (e ∷ ts) in
    let c = tally_behind s (n ∷ e ∷ ts) in
    omega (arith, none, a, b, c)
top_fewest (IsTop.tag_of_body {s = s} {n = n} {e = e} {text = text} {body = body} {ts = ts} {us = us} is name p end) =
    let none = opens_structs (Some (word text n)) (Some body) None in
    let here = body_fewest p in
    let a = tally_behind e us in
    let b = tally_behind n ts in
    let c = tally_behind s (n ∷ ts) in
    omega (arith, none, here, a, b, c)
top_fewest (IsTop.globals {decls = gs} p q) =
    let all = opens_ended (printed_globals gs) in
    let one = opens_globals gs in
    let front = base_fewest p in
    let here = globals_fewest q in
    omega (arith, all, one, front, here)
top_fewest (IsTop.prototype {h = h} {e = e} {us = us} p end) =
    let all = opens_ended (printed_head h) in let here = head_fewest p in let token = tally_behind e us in omega (arith, all, here, token)
top_fewest (IsTop.function {h = h} {b = b} p q) =
    let both = opens_both (printed_head h) (printed_block b) in let front = head_fewest p in let here = block_fewest q in omega (arith, both, front, here)

pub file_fewest : {tops : List Top} {ts : List Token} → IsFile tops ts → opens (each printed_top tops) ≤ tally ts
file_fewest IsFile.done = omega arith
file_fewest (IsFile.more {x = x} {others = others} p r) =
    let both = opens_both (printed_top x) (each printed_top others) in let here = top_fewest p in let rest = file_fewest r in omega (arith, both, here, rest)
