-- A list of results that is gathered from its front.
use Rattle.std.proofs.Common.{◌≡◌, ℕ, zero, suc, ◌+◌, ◌<◌, List, [], ◌∷◌, ◌++◌, length, get_or, drop, Result, Ok, Err, refl, ap, sym, ◌∙◌, append_assoc, add-one, arith}
use Rattle.std.proofs.Math.Seq.{drop-cons}
use Rattle.c_tree.specs.declared.expr.Expr.{Expr}
use Rattle.c_meaning.specs.declared.value.Value.{Value}
use Rattle.c_meaning.specs.declared.machine.Object.{Object}
use Rattle.c_meaning.specs.declared.machine.Stop.{Stop}
use Rattle.c_meaning.specs.Eval.{◌>>=◌, eval, eval_all}
use Rattle.c_replay.specs.Lists.{behind}

pub behind_none : {A : Type 0} (r : Result (List A) Stop) → behind [] r ≡ r
behind_none (Ok xs) = refl
behind_none (Err e) = refl

pub behind_one : {A : Type 0} (xs : List A) (x : A) (r : Result (List A) Stop) → behind (xs ++ x ∷ []) r ≡ behind xs (r >>= λ ys. Ok (x ∷ ys))
behind_one {A} xs x (Ok ys) =
    let gathered : List A → Result (List A) Stop = λ zs. Ok zs in
    ap gathered (append_assoc xs (x ∷ []) ys)
behind_one xs x (Err e) = refl

-- the element at a place, before the rest
pub drop_at : {A : Type 0} (xs : List A) (i : ℕ) (x : A) → i < length xs → x ≡ get_or xs i x → drop i xs ≡ x ∷ drop (i + 1) xs
drop_at {A} xs i x below is = rw add-one (drop-cons xs i x below ∙ ap (λ (y : A). y ∷ drop (suc i) xs) (sym is))

value_first : (slots : List Value) (objects : List Object) (vs : List Value) (e : Expr) (es : List Expr) (v : Value) → eval slots objects e ≡ Ok v →
    behind vs (eval_all slots objects (e ∷ es)) ≡ behind (vs ++ v ∷ []) (eval_all slots objects es)
value_first slots objects vs e es v is =
    ap (λ (r : Result Value Stop). behind vs (r >>= λ w. eval_all slots objects es >>= λ ws. Ok (w ∷ ws))) is
    ∙ sym (behind_one vs v (eval_all slots objects es))

fault_first : (slots : List Value) (objects : List Object) (vs : List Value) (e : Expr) (es : List Expr) (stop : Stop) → eval slots objects e ≡ Err stop →
    behind vs (eval_all slots objects (e ∷ es)) ≡ Err stop
fault_first slots objects vs e es stop is =
    ap (λ (r : Result Value Stop). behind vs (r >>= λ w. eval_all slots objects es >>= λ ws. Ok (w ∷ ws))) is

-- the next expression has a value
pub value_at_place : (slots : List Value) (objects : List Object) (vs : List Value) (es : List Expr) (i : ℕ) (e : Expr) (v : Value) → i < length es → e ≡ get_or es i e → eval slots objects e ≡ Ok v →
    behind (vs ++ v ∷ []) (eval_all slots objects (drop (i + 1) es)) ≡ behind vs (eval_all slots objects (drop i es))
value_at_place slots objects vs es i e v below here is =
    sym (ap (λ (fs : List Expr). behind vs (eval_all slots objects fs)) (drop_at es i e below here) ∙ value_first slots objects vs e (drop (i + 1) es) v is)

-- the next expression has a fault
pub fault_at_place : (slots : List Value) (objects : List Object) (vs : List Value) (es : List Expr) (i : ℕ) (e : Expr) (stop : Stop) → i < length es → e ≡ get_or es i e → eval slots objects e ≡ Err stop →
    behind vs (eval_all slots objects (drop i es)) ≡ Err stop
fault_at_place slots objects vs es i e stop below here is =
    ap (λ (fs : List Expr). behind vs (eval_all slots objects fs)) (drop_at es i e below here) ∙ fault_first slots objects vs e (drop (i + 1) es) stop is

-- below the length of a list the default doesn't matter
pub any_default : {A : Type 0} (xs : List A) (i : ℕ) (d e : A) → i < length xs → get_or xs i d ≡ get_or xs i e
any_default [] i d e below = absurd (omega arith)
any_default (x ∷ xs) zero d e below = refl
any_default (x ∷ xs) (suc i) d e below = any_default xs i d e (omega arith)
