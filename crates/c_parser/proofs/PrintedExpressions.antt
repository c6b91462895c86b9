-- What is printed of an expression is read as one alike it.
use Rattle.std.proofs.Common.{◌≡◌, ℕ, zero, suc, ◌+◌, ◌-◌, ◌≤◌, ℤ, pos, negsuc, Bool, true, false, nat_lt, List, [], ◌∷◌, ◌++◌, codes, Some, refl, ap, sym, subst, ◌∙◌, arith}
use Rattle.std.proofs.lemmas.Bool.{ltb-false}
use Rattle.c_lexer.specs.declared.token.Token.{Token}
use Rattle.c_lexer.specs.declared.token.Kind.{Kind}
use Rattle.c_lexer.specs.declared.token.Kind.TheVariants as kind
use Rattle.c_tree.specs.declared.expr.Oper.{Oper}
use Rattle.c_tree.specs.declared.expr.Oper.TheVariants as oper
use Rattle.c_tree.specs.declared.expr.Sign.{Sign}
use Rattle.c_tree.specs.declared.expr.Sign.TheVariants as sign
use Rattle.c_tree.specs.declared.tree.Word.{Word}
use Rattle.c_tree.specs.declared.tree.Expr.{Expr, Expr-F, roll-Expr, map-Expr, fold-roll-Expr, ind-Expr}
use Rattle.c_tree.specs.declared.tree.Expr.TheVariants as expr
use Rattle.c_tree.specs.declared.tree.Expr.TheOpen.{Const, Null, Var, Field, Deref, Index, Unary, Binary}
use Rattle.c_parser.specs.declared.term.Term.TheVariants as term
use Rattle.c_parser.specs.Term.{term_of, kind_term, word}
use Rattle.c_parser.specs.Expressions.{IsLevel, IsTail, IsUnary, IsPost, IsPosts, IsPrim, oper_of}
use Rattle.c_parser.specs.Alike.{moved_layer, moved_expr}
use Rattle.c_parser.specs.Printed.{key, mark, within, grouped, level_of, oper_kind, sign_kind, const_kind, printed_layer, printed_expr}
use Rattle.c_parser.proofs.Spelled.{Spells, split, spelled}

-- what is printed of each layer

pub print_layer : (room : ℕ) (x : Expr-F Expr) → printed_expr room (roll-Expr x) ≡ printed_layer (map-Expr Expr (ℕ → List Kind) (λ e r. printed_expr r e) x) room
unfolding printed_expr
print_layer room x = ap (λ (f : ℕ → List Kind). f room) (fold-roll-Expr (ℕ → List Kind) printed_layer x)

pub print_const : (room : ℕ) (n : ℤ) (at : ℕ) → printed_expr room (expr.Const n at) ≡ const_kind n ∷ []
print_const room n at = ap (printed_expr room) (sym (expr.rolls-Const n at)) ∙ print_layer room (Const n at)

pub print_null : (room at : ℕ) → printed_expr room (expr.Null at) ≡ key (codes "NULL") ∷ []
print_null room at = ap (printed_expr room) (sym (expr.rolls-Null at)) ∙ print_layer room (Null at)

pub print_var : (room : ℕ) (w : Word) → printed_expr room (expr.Var w) ≡ kind.Name w.text ∷ []
print_var room w = ap (printed_expr room) (sym (expr.rolls-Var w)) ∙ print_layer room (Var w)

pub print_field : (room : ℕ) (e : Expr) (w : Word) (at : ℕ) → printed_expr room (expr.Field e w at) ≡ printed_expr 0 e ++ mark (codes "->") ∷ kind.Name w.text ∷ []
print_field room e w at = ap (printed_expr room) (sym (expr.rolls-Field e w at)) ∙ print_layer room (Field e w at)

pub print_deref : (room : ℕ) (e : Expr) (at : ℕ) → printed_expr room (expr.Deref e at) ≡ grouped (nat_lt room 1) (mark (codes "*") ∷ printed_expr 1 e)
print_deref room e at = ap (printed_expr room) (sym (expr.rolls-Deref e at)) ∙ print_layer room (Deref e at)

pub print_index : (room : ℕ) (e i : Expr) (at : ℕ) → printed_expr room (expr.Index e i at) ≡ printed_expr 0 e ++ mark (codes "[") ∷ (printed_expr 7 i ++ mark (codes "]") ∷ [])
print_index room e i at = ap (printed_expr room) (sym (expr.rolls-Index e i at)) ∙ print_layer room (Index e i at)

pub print_unary : (room : ℕ) (s : Sign) (e : Expr) (at : ℕ) → printed_expr room (expr.Unary s e at) ≡ grouped (nat_lt room 1) (sign_kind s ∷ printed_expr 1 e)
print_unary room s e at = ap (printed_expr room) (sym (expr.rolls-Unary s e at)) ∙ print_layer room (Unary s e at)

abbrev pub printed_operands : Oper → Expr → Expr → List Kind
printed_operands o a b = printed_expr (suc (suc (level_of o))) a ++ oper_kind o ∷ printed_expr (suc (level_of o)) b

two_more : (k : ℕ) → k + 2 ≡ suc (suc k)
two_more k = omega arith

one_more : (k : ℕ) → k + 1 ≡ suc k
one_more k = omega arith

pub print_operands : (room : ℕ) (o : Oper) (a b : Expr) (at : ℕ)
    → printed_expr room (expr.Binary o a b at) ≡ grouped (nat_lt room (level_of o + 2)) (printed_expr (level_of o + 2) a ++ oper_kind o ∷ printed_expr (level_of o + 1) b)
print_operands room o a b at = ap (printed_expr room) (sym (expr.rolls-Binary o a b at)) ∙ print_layer room (Binary o a b at)

pub print_binary : (room : ℕ) (o : Oper) (a b : Expr) (at : ℕ) → printed_expr room (expr.Binary o a b at) ≡ grouped (nat_lt room (suc (suc (level_of o)))) (printed_operands o a b)
print_binary room o a b at =
    print_operands room o a b at
    ∙ ap (λ (n : ℕ). grouped (nat_lt room n) (printed_expr n a ++ oper_kind o ∷ printed_expr (level_of o + 1) b)) (two_more (level_of o))
    ∙ ap (λ (n : ℕ). grouped (nat_lt room (suc (suc (level_of o)))) (printed_expr (suc (suc (level_of o))) a ++ oper_kind o ∷ printed_expr n b)) (one_more (level_of o))

-- the same expression with no offsets

abbrev pub bare : Expr → Expr
bare = moved_expr (λ at. 0)

bare_layer : (x : Expr-F Expr) → bare (roll-Expr x) ≡ roll-Expr (moved_layer (λ at. 0) (map-Expr Expr Expr bare x))
bare_layer = fold-roll-Expr Expr (λ l. roll-Expr (moved_layer (λ at. 0) l))

abbrev pub bare_word : Word → Word
bare_word w = record { text = w.text; at = 0 }

pub bare_const : (n : ℤ) (at : ℕ) → bare (expr.Const n at) ≡ expr.Const n 0
bare_const n at = ap bare (sym (expr.rolls-Const n at)) ∙ bare_layer (Const n at) ∙ expr.rolls-Const n 0

pub bare_null : (at : ℕ) → bare (expr.Null at) ≡ expr.Null 0
bare_null at = ap bare (sym (expr.rolls-Null at)) ∙ bare_layer (Null at) ∙ expr.rolls-Null 0

pub bare_var : (w : Word) → bare (expr.Var w) ≡ expr.Var (bare_word w)
bare_var w = ap bare (sym (expr.rolls-Var w)) ∙ bare_layer (Var w) ∙ expr.rolls-Var (bare_word w)

pub bare_field : (e : Expr) (w : Word) (at : ℕ) → bare (expr.Field e w at) ≡ expr.Field (bare e) (bare_word w) 0
bare_field e w at = ap bare (sym (expr.rolls-Field e w at)) ∙ bare_layer (Field e w at) ∙ expr.rolls-Field (bare e) (bare_word w) 0

pub bare_deref : (e : Expr) (at : ℕ) → bare (expr.Deref e at) ≡ expr.Deref (bare e) 0
bare_deref e at = ap bare (sym (expr.rolls-Deref e at)) ∙ bare_layer (Deref e at) ∙ expr.rolls-Deref (bare e) 0

pub bare_index : (e i : Expr) (at : ℕ) → bare (expr.Index e i at) ≡ expr.Index (bare e) (bare i) 0
bare_index e i at = ap bare (sym (expr.rolls-Index e i at)) ∙ bare_layer (Index e i at) ∙ expr.rolls-Index (bare e) (bare i) 0

pub bare_unary : (s : Sign) (e : Expr) (at : ℕ) → bare (expr.Unary s e at) ≡ expr.Unary s (bare e) 0
bare_unary s e at = ap bare (sym (expr.rolls-Unary s e at)) ∙ bare_layer (Unary s e at) ∙ expr.rolls-Unary s (bare e) 0

pub bare_binary : (o : Oper) (a b : Expr) (at : ℕ) → bare (expr.Binary o a b at) ≡ expr.Binary o (bare a) (bare b) 0
bare_binary o a b at = ap bare (sym (expr.rolls-Binary o a b at)) ∙ bare_layer (Binary o a b at) ∙ expr.rolls-Binary o (bare a) (bare b) 0

-- rooms: 0 is a post, k + 1 is level k

abbrev pub IsRoom : ℕ → Expr → List Token → List Token → Type 0
IsRoom zero e ts us = IsPost e ts us
IsRoom (suc k) e ts us = IsLevel k e ts us

-- tokens of an expression alike this one
pub record Again (room : ℕ) (e : Expr) (ts us : List Token) : Type 0 where
  pub other : Expr
  pub alike : bare other ≡ bare e
  pub is : IsRoom room other ts us

abbrev pub Prints : Expr → Type 0
Prints e = (room : ℕ) (ts us : List Token) → Spells (printed_expr room e) ts us → Again room e ts us

wider : (n : ℕ) (e : Expr) (ts us : List Token) → IsRoom n e ts us → IsRoom (suc n) e ts us
wider zero e ts us d = IsLevel.operand (IsUnary.plain d)
wider (suc n) e ts us d = IsLevel.level d IsTail.done

room_at : (n m : ℕ) → n ≡ m → (e : Expr) (ts us : List Token) → IsRoom n e ts us → IsRoom m e ts us
room_at n m is e ts us d = subst (λ (z : ℕ). IsRoom z e ts us) is d

widened : (k n : ℕ) (e : Expr) (ts us : List Token) → IsRoom n e ts us → IsRoom (k + n) e ts us
widened zero n e ts us d = room_at n (0 + n) (omega arith) e ts us d
widened (suc k) n e ts us d = room_at (suc (k + n)) (suc k + n) (omega arith) e ts us (wider (k + n) e ts us (widened k n e ts us d))

pub has_room : (n room : ℕ) → n ≤ room → (e : Expr) (ts us : List Token) → IsRoom n e ts us → IsRoom room e ts us
has_room n room less e ts us d = room_at ((room - n) + n) room (omega (arith, less)) e ts us (widened (room - n) n e ts us d)

-- a post has every room
posted : (room : ℕ) {e : Expr} {ts us : List Token} → IsPost e ts us → IsRoom room e ts us
posted room {e} {ts} {us} d = has_room 0 room (omega arith) e ts us d

again_wider : (n room : ℕ) → n ≤ room → {e : Expr} {ts us : List Token} → Again n e ts us → Again room e ts us
again_wider n room less {e} {ts} {us} a = record { other = a.other; alike = a.alike; is = has_room n room less a.other ts us a.is }

group_again : {e : Expr} {ts us vs : List Token} {o : Token} → o.kind ≡ mark (codes "(") → Again 7 e ts us → Spells (mark (codes ")") ∷ []) us vs → Again 0 e (o ∷ ts) vs
group_again {o = o} opens a (Spells.more {t = c} closes Spells.done) = record {
  other = a.other;
  alike = a.alike;
  is = IsPost.post (IsPrim.group (spelled o term.Open opens refl) a.is (spelled c term.Close closes refl)) IsPosts.end;
}

grouped_again : (b : Bool) (n room : ℕ) → nat_lt room n ≡ b → n ≤ 7 → (e : Expr) (ks : List Kind)
    → ((ts us : List Token) → Spells ks ts us → Again n e ts us) → (ts us : List Token) → Spells (grouped b ks) ts us → Again room e ts us
grouped_again true n room is small e ks prints ts us (Spells.more opens d) =
    let s = split ks (mark (codes ")") ∷ []) d in
    again_wider 0 room (omega arith) (group_again opens (again_wider n 7 small (prints _ s.middle s.front)) s.back)
grouped_again false n room is small e ks prints ts us d = again_wider n room (ltb-false room n is) (prints ts us d)

-- each variant

printed_as : (room : ℕ) (e : Expr) {ks : List Kind} → printed_expr room e ≡ ks → {ts us : List Token} → Spells (printed_expr room e) ts us → Spells ks ts us
printed_as room e is {ts} {us} d = subst (λ (ls : List Kind). Spells ls ts us) is d

const_spelled : (room : ℕ) (n : ℤ) (at : ℕ) (t : Token) (ts : List Token) → t.kind ≡ const_kind n → Again room (expr.Const n at) (t ∷ ts) ts
const_spelled room (pos n) at t ts is = record {
  other = expr.Const (pos n) t.start;
  alike = bare_const (pos n) t.start ∙ sym (bare_const (pos n) at);
  is = posted room (IsPost.post (IsPrim.number is) IsPosts.end);
}
const_spelled room (negsuc zero) at t ts is = record {
  other = expr.Const (negsuc 0) t.start;
  alike = bare_const (negsuc 0) t.start ∙ sym (bare_const (negsuc 0) at);
  is = posted room (IsPost.post (IsPrim.eof (spelled t term.Eof is refl)) IsPosts.end);
}
const_spelled room (negsuc (suc n)) at t ts is = record {
  other = expr.Const (negsuc (suc n)) t.start;
  alike = bare_const (negsuc (suc n)) t.start ∙ sym (bare_const (negsuc (suc n)) at);
  is = posted room (IsPost.post (IsPrim.number is) IsPosts.end);
}

const_at : (room : ℕ) (n : ℤ) (at : ℕ) {ts us : List Token} → Spells (const_kind n ∷ []) ts us → Again room (expr.Const n at) ts us
const_at room n at (Spells.more {t = t} {ts = ts} is Spells.done) = const_spelled room n at t ts is

const_again : (n : ℤ) (at : ℕ) → Prints (expr.Const n at)
const_again n at room ts us d = const_at room n at (printed_as room (expr.Const n at) (print_const room n at) d)

null_at : (room at : ℕ) {ts us : List Token} → Spells (key (codes "NULL") ∷ []) ts us → Again room (expr.Null at) ts us
null_at room at (Spells.more {t = t} is Spells.done) = record {
  other = expr.Null t.start;
  alike = bare_null t.start ∙ sym (bare_null at);
  is = posted room (IsPost.post (IsPrim.null (spelled t term.Null is refl)) IsPosts.end);
}

null_again : (at : ℕ) → Prints (expr.Null at)
null_again at room ts us d = null_at room at (printed_as room (expr.Null at) (print_null room at) d)

var_at : (room : ℕ) (w : Word) {ts us : List Token} → Spells (kind.Name w.text ∷ []) ts us → Again room (expr.Var w) ts us
var_at room w (Spells.more {t = t} is Spells.done) = record {
  other = expr.Var (word w.text t);
  alike = bare_var (word w.text t) ∙ sym (bare_var w);
  is = posted room (IsPost.post (IsPrim.variable is) IsPosts.end);
}

var_again : (w : Word) → Prints (expr.Var w)
var_again w room ts us d = var_at room w (printed_as room (expr.Var w) (print_var room w) d)

-- one more part behind a post

posts_field : {a e : Expr} {t n : Token} {text : List ℕ} {ts us : List Token} → IsPosts a e ts (t ∷ n ∷ us) → term_of t ≡ term.Arrow → n.kind ≡ kind.Name text
    → IsPosts a (expr.Field e (word text n) t.start) ts us
posts_field IsPosts.end is name = IsPosts.field is name IsPosts.end
posts_field (IsPosts.field j x d) is name = IsPosts.field j x (posts_field d is name)
posts_field (IsPosts.index j x y d) is name = IsPosts.index j x y (posts_field d is name)

post_field : {e : Expr} {t n : Token} {text : List ℕ} {ts us : List Token} → IsPost e ts (t ∷ n ∷ us) → term_of t ≡ term.Arrow → n.kind ≡ kind.Name text
    → IsPost (expr.Field e (word text n) t.start) ts us
post_field (IsPost.post p d) is name = IsPost.post p (posts_field d is name)

posts_index : {a e i : Expr} {t c : Token} {ts us vs : List Token} → IsPosts a e ts (t ∷ us) → term_of t ≡ term.OpenIndex → IsLevel 6 i us (c ∷ vs) → term_of c ≡ term.CloseIndex
    → IsPosts a (expr.Index e i t.start) ts vs
posts_index IsPosts.end is p end = IsPosts.index is p end IsPosts.end
posts_index (IsPosts.field j x d) is p end = IsPosts.field j x (posts_index d is p end)
posts_index (IsPosts.index j x y d) is p end = IsPosts.index j x y (posts_index d is p end)

post_index : {e i : Expr} {t c : Token} {ts us vs : List Token} → IsPost e ts (t ∷ us) → term_of t ≡ term.OpenIndex → IsLevel 6 i us (c ∷ vs) → term_of c ≡ term.CloseIndex
    → IsPost (expr.Index e i t.start) ts vs
post_index (IsPost.post q d) is p end = IsPost.post q (posts_index d is p end)

field_at : (e : Expr) (w : Word) (at : ℕ) {ts us vs : List Token} → Again 0 e ts us → Spells (mark (codes "->") ∷ kind.Name w.text ∷ []) us vs → Again 0 (expr.Field e w at) ts vs
field_at e w at a (Spells.more {t = t} is (Spells.more {t = n} name Spells.done)) = record {
  other = expr.Field a.other (word w.text n) t.start;
  alike = bare_field a.other (word w.text n) t.start ∙ ap (λ (x : Expr). expr.Field x (bare_word w) 0) a.alike ∙ sym (bare_field e w at);
  is = post_field a.is (spelled t term.Arrow is refl) name;
}

field_again : (e : Expr) (w : Word) (at : ℕ) → Prints e → Prints (expr.Field e w at)
field_again e w at prints room ts us d =
    let s = split (printed_expr 0 e) (mark (codes "->") ∷ kind.Name w.text ∷ []) (printed_as room (expr.Field e w at) (print_field room e w at) d) in
    again_wider 0 room (omega arith) (field_at e w at (prints 0 ts s.middle s.front) s.back)

index_at : (e i : Expr) (at : ℕ) {t : Token} {ts us vs ws : List Token} → Again 0 e ts (t ∷ us) → t.kind ≡ mark (codes "[") → Again 7 i us vs → Spells (mark (codes "]") ∷ []) vs ws
    → Again 0 (expr.Index e i at) ts ws
index_at e i at {t} a is b (Spells.more {t = c} end Spells.done) = record {
  other = expr.Index a.other b.other t.start;
  alike = bare_index a.other b.other t.start ∙ ap (λ (x : Expr). expr.Index x (bare b.other) 0) a.alike ∙ ap (λ (x : Expr). expr.Index (bare e) x 0) b.alike ∙ sym (bare_index e i at);
  is = post_index a.is (spelled t term.OpenIndex is refl) b.is (spelled c term.CloseIndex end refl);
}

index_behind : (e i : Expr) (at : ℕ) → Prints i → {ts us vs : List Token} → Again 0 e ts us → Spells (mark (codes "[") ∷ (printed_expr 7 i ++ mark (codes "]") ∷ [])) us vs → Again 0 (expr.Index e i at) ts vs
index_behind e i at prints a (Spells.more {ts = ts} is d) =
    let s = split (printed_expr 7 i) (mark (codes "]") ∷ []) d in
    index_at e i at a is (prints 7 ts s.middle s.front) s.back

index_again : (e i : Expr) (at : ℕ) → Prints e → Prints i → Prints (expr.Index e i at)
index_again e i at prints within room ts us d =
    let s = split (printed_expr 0 e) (mark (codes "[") ∷ (printed_expr 7 i ++ mark (codes "]") ∷ [])) (printed_as room (expr.Index e i at) (print_index room e i at) d) in
    again_wider 0 room (omega arith) (index_behind e i at within (prints 0 ts s.middle s.front) s.back)

-- a unary stands as level 0

pub level_unary : {e : Expr} {ts us : List Token} → IsLevel 0 e ts us → IsUnary e ts us
level_unary (IsLevel.operand d) = d

deref_at : (e : Expr) (at : ℕ) {t : Token} {ts us : List Token} → t.kind ≡ mark (codes "*") → Again 1 e ts us → Again 1 (expr.Deref e at) (t ∷ ts) us
deref_at e at {t} is a = record {
  other = expr.Deref a.other t.start;
  alike = bare_deref a.other t.start ∙ ap (λ (x : Expr). expr.Deref x 0) a.alike ∙ sym (bare_deref e at);
  is = IsLevel.operand (IsUnary.deref (spelled t term.Star is refl) (level_unary a.is));
}

deref_behind : (e : Expr) (at : ℕ) → Prints e → (ts us : List Token) → Spells (mark (codes "*") ∷ printed_expr 1 e) ts us → Again 1 (expr.Deref e at) ts us
deref_behind e at prints _ us (Spells.more {ts = ts} is d) = deref_at e at is (prints 1 ts us d)

deref_again : (e : Expr) (at : ℕ) → Prints e → Prints (expr.Deref e at)
deref_again e at prints room ts us d =
    grouped_again (nat_lt room 1) 1 room refl (omega arith) (expr.Deref e at) (mark (codes "*") ∷ printed_expr 1 e) (deref_behind e at prints) ts us
    (printed_as room (expr.Deref e at) (print_deref room e at) d)

signed : (s : Sign) {e : Expr} (t : Token) {ts us : List Token} → t.kind ≡ sign_kind s → IsUnary e ts us → IsUnary (expr.Unary s e t.start) (t ∷ ts) us
signed sign.Minus t is d = IsUnary.minus (spelled t term.Minus is refl) d
signed sign.Not t is d = IsUnary.not (spelled t term.Not is refl) d

unary_at : (s : Sign) (e : Expr) (at : ℕ) {t : Token} {ts us : List Token} → t.kind ≡ sign_kind s → Again 1 e ts us → Again 1 (expr.Unary s e at) (t ∷ ts) us
unary_at s e at {t} is a = record {
  other = expr.Unary s a.other t.start;
  alike = bare_unary s a.other t.start ∙ ap (λ (x : Expr). expr.Unary s x 0) a.alike ∙ sym (bare_unary s e at);
  is = IsLevel.operand (signed s t is (level_unary a.is));
}

unary_behind : (s : Sign) (e : Expr) (at : ℕ) → Prints e → (ts us : List Token) → Spells (sign_kind s ∷ printed_expr 1 e) ts us → Again 1 (expr.Unary s e at) ts us
unary_behind s e at prints _ us (Spells.more {ts = ts} is d) = unary_at s e at is (prints 1 ts us d)

unary_again : (s : Sign) (e : Expr) (at : ℕ) → Prints e → Prints (expr.Unary s e at)
unary_again s e at prints room ts us d =
    grouped_again (nat_lt room 1) 1 room refl (omega arith) (expr.Unary s e at) (sign_kind s ∷ printed_expr 1 e) (unary_behind s e at prints) ts us
    (printed_as room (expr.Unary s e at) (print_unary room s e at) d)

-- one more operand behind those of a level

tail_more : {k : ℕ} {o : Oper} {a b e : Expr} {t : Token} {ts us vs : List Token} → IsTail k a e ts (t ∷ us) → oper_of k (term_of t) ≡ Some o → IsLevel k b us vs
    → IsTail k a (expr.Binary o e b t.start) ts vs
tail_more IsTail.done is d = IsTail.more is d IsTail.done
tail_more (IsTail.more j x q) is d = IsTail.more j x (tail_more q is d)

level_more : {k : ℕ} {o : Oper} {a b : Expr} {t : Token} {ts us vs : List Token} → IsLevel (suc k) a ts (t ∷ us) → oper_of k (term_of t) ≡ Some o → IsLevel k b us vs
    → IsLevel (suc k) (expr.Binary o a b t.start) ts vs
level_more (IsLevel.level x q) is d = IsLevel.level x (tail_more q is d)

oper_term : (o : Oper) → oper_of (level_of o) (kind_term (oper_kind o)) ≡ Some o
unfolding oper_of
oper_term oper.Mul = refl
oper_term oper.Div = refl
oper_term oper.Rem = refl
oper_term oper.Add = refl
oper_term oper.Sub = refl
oper_term oper.Lt = refl
oper_term oper.Le = refl
oper_term oper.Gt = refl
oper_term oper.Ge = refl
oper_term oper.Eq = refl
oper_term oper.Ne = refl
oper_term oper.And = refl
oper_term oper.Or = refl

oper_level : (o : Oper) → level_of o ≤ 5
oper_level oper.Mul = omega arith
oper_level oper.Div = omega arith
oper_level oper.Rem = omega arith
oper_level oper.Add = omega arith
oper_level oper.Sub = omega arith
oper_level oper.Lt = omega arith
oper_level oper.Le = omega arith
oper_level oper.Gt = omega arith
oper_level oper.Ge = omega arith
oper_level oper.Eq = omega arith
oper_level oper.Ne = omega arith
oper_level oper.And = omega arith
oper_level oper.Or = omega arith

oper_spelled : (o : Oper) (t : Token) → t.kind ≡ oper_kind o → oper_of (level_of o) (term_of t) ≡ Some o
oper_spelled o t is = ap (oper_of (level_of o)) (spelled t (kind_term (oper_kind o)) is refl) ∙ oper_term o

binary_at : (o : Oper) (a b : Expr) (at : ℕ) {t : Token} {ts us vs : List Token} → Again (suc (suc (level_of o))) a ts (t ∷ us) → t.kind ≡ oper_kind o → Again (suc (level_of o)) b us vs
    → Again (suc (suc (level_of o))) (expr.Binary o a b at) ts vs
binary_at o a b at {t} x is y = record {
  other = expr.Binary o x.other y.other t.start;
  alike = bare_binary o x.other y.other t.start ∙ ap (λ (e : Expr). expr.Binary o e (bare y.other) 0) x.alike ∙ ap (λ (e : Expr). expr.Binary o (bare a) e 0) y.alike ∙ sym (bare_binary o a b at);
  is = level_more x.is (oper_spelled o t is) y.is;
}

binary_behind : (o : Oper) (a b : Expr) (at : ℕ) → Prints b → {ts us vs : List Token} → Again (suc (suc (level_of o))) a ts us → Spells (oper_kind o ∷ printed_expr (suc (level_of o)) b) us vs
    → Again (suc (suc (level_of o))) (expr.Binary o a b at) ts vs
binary_behind o a b at prints {vs = vs} x (Spells.more {ts = us} is d) = binary_at o a b at x is (prints (suc (level_of o)) us vs d)

binary_both : (o : Oper) (a b : Expr) (at : ℕ) → Prints a → Prints b → (ts us : List Token) → Spells (printed_operands o a b) ts us → Again (suc (suc (level_of o))) (expr.Binary o a b at) ts us
binary_both o a b at left right ts us d =
    let s = split (printed_expr (suc (suc (level_of o))) a) (oper_kind o ∷ printed_expr (suc (level_of o)) b) d in
    binary_behind o a b at right (left (suc (suc (level_of o))) ts s.middle s.front) s.back

binary_again : (o : Oper) (a b : Expr) (at : ℕ) → Prints a → Prints b → Prints (expr.Binary o a b at)
binary_again o a b at left right room ts us d =
    let small = oper_level o in
    grouped_again (nat_lt room (suc (suc (level_of o)))) (suc (suc (level_of o))) room refl (omega (arith, small)) (expr.Binary o a b at) (printed_operands o a b) (binary_both o a b at left right) ts us
    (printed_as room (expr.Binary o a b at) (print_binary room o a b at) d)

-- what is printed of each expression

abbrev plain : Expr-F ((e : Expr) × Prints e) → Expr-F Expr
plain = map-Expr ((e : Expr) × Prints e) Expr (λ e. e.0)

layer_again : (y : Expr-F ((e : Expr) × Prints e)) → Prints (roll-Expr (plain y))
layer_again (Const n at) = subst Prints (sym (expr.rolls-Const n at)) (const_again n at)
layer_again (Null at) = subst Prints (sym (expr.rolls-Null at)) (null_again at)
layer_again (Var w) = subst Prints (sym (expr.rolls-Var w)) (var_again w)
layer_again (Field e w at) = subst Prints (sym (expr.rolls-Field e.0 w at)) (field_again e.0 w at e.1)
layer_again (Deref e at) = subst Prints (sym (expr.rolls-Deref e.0 at)) (deref_again e.0 at e.1)
layer_again (Index e i at) = subst Prints (sym (expr.rolls-Index e.0 i.0 at)) (index_again e.0 i.0 at e.1 i.1)
layer_again (Unary s e at) = subst Prints (sym (expr.rolls-Unary s e.0 at)) (unary_again s e.0 at e.1)
layer_again (Binary o a b at) = subst Prints (sym (expr.rolls-Binary o a.0 b.0 at)) (binary_again o a.0 b.0 at a.1 b.1)

pub expr_again : (e : Expr) → Prints e
expr_again = ind-Expr Prints (λ x y is. subst (λ (z : Expr-F Expr). Prints (roll-Expr z)) is (layer_again y))
