-- The loops of the reader over lists, turn by turn.
use Rattle.std.proofs.Common.{◌≡◌, ℕ, suc, true, false, if◌then◌else◌, List, [], ◌∷◌, ◌++◌, drop, Option, Some, None, refl, ap, sym, ◌∙◌, ◌+◌, ◌-◌, ◌<◌, ◌≤◌}
use Rattle.c_lexer.specs.declared.token.Token.{Token}
use Rattle.c_tree.specs.declared.tree.Arg.{Arg}
use Rattle.c_tree.specs.declared.tree.Declr.{Declr}
use Rattle.c_tree.specs.declared.tree.Spec.{Spec}
use Rattle.c_parser.specs.declared.term.Term.{Term}
use Rattle.c_parser.specs.declared.term.Term.TheVariants as term
use Rattle.c_parser.specs.Term.{term_of, next, same, sees}
use Rattle.c_parser.specs.ReadExpressions.{Read, chained, read_want, read_arg}
use Rattle.c_parser.specs.ReadStatements.{read_more_args_at, read_more_args, read_declr, read_declrs_behind, read_declrs, is_call, begins_call}
use Rattle.c_parser.specs.Turns.{comma_arg}
use Rattle.c_parser.proofs.Terms.{same_is}
use Rattle.c_parser.proofs.Turns.{turn_left, none_left, chained_some}

-- arguments

args_close_at : (depth m : ℕ) (front : List Arg) (ts : List Token) → sees term.Close ts ≡ true →
    read_more_args depth (suc m) front ts ≡ chained (read_want term.Close ts) (λ c us. Some ((front, c.start), us))
unfolding read_more_args
args_close_at depth m front [] closes = absurd (let other = same_is term.Close term.Other closes in cc)
args_close_at depth m front (t ∷ ts) closes =
    ap (λ x. read_more_args_at depth (read_more_args depth m) front x t ts) (sym (same_is term.Close (term_of t) closes))
    ∙ sym (ap (λ b. chained (if b then Some (t, ts) else None) (λ c us. Some ((front, c.start), us))) closes)

args_more_at : (depth : ℕ) (on : List Arg → Read (List Arg × ℕ)) (front : List Arg) (x : Term) (t : Token) (ts : List Token) → same term.Close x ≡ false →
    chained (chained (if same term.Comma x then Some (t, ts) else None) (λ c us. read_arg depth us)) (λ a us. on (front ++ a ∷ []) us)
    ≡ read_more_args_at depth on front x t ts
unfolding same
args_more_at depth on front term.Close t ts none = absurd (cc)
args_more_at depth on front term.Comma t ts none = refl
args_more_at depth on front _ t ts none = refl

args_more : (depth m : ℕ) (front : List Arg) (ts : List Token) → sees term.Close ts ≡ false →
    chained (comma_arg depth ts) (λ a us. read_more_args depth m (front ++ a ∷ []) us) ≡ read_more_args depth (suc m) front ts
unfolding read_more_args
args_more depth m front [] none = refl
args_more depth m front (t ∷ ts) none = args_more_at depth (read_more_args depth m) front (term_of t) t ts none

pub args_close : (depth all so_far : ℕ) (front : List Arg) (ts : List Token) (answer : Option ((List Arg × ℕ) × List Token)) →
    so_far < all → sees term.Close ts ≡ true → read_more_args depth (all - so_far) front ts ≡ answer → answer ≡ chained (read_want term.Close ts) (λ c us. Some ((front, c.start), us))
args_close depth all so_far front ts answer is closes reads =
    sym reads ∙ ap (λ n. read_more_args depth n front ts) (turn_left all so_far is) ∙ args_close_at depth (all - (so_far + 1)) front ts closes

pub args_go : (depth all so_far : ℕ) (front : List Arg) (ts : List Token) (answer : Option ((List Arg × ℕ) × List Token)) →
    so_far < all → sees term.Close ts ≡ false → read_more_args depth (all - so_far) front ts ≡ answer →
    answer ≡ chained (comma_arg depth ts) (λ a us. read_more_args depth (all - (so_far + 1)) (front ++ a ∷ []) us)
args_go depth all so_far front ts answer is none reads =
    sym reads ∙ ap (λ n. read_more_args depth n front ts) (turn_left all so_far is) ∙ sym (args_more depth (all - (so_far + 1)) front ts none)

pub args_end : (depth all so_far : ℕ) (front : List Arg) (ts : List Token) (answer : Option ((List Arg × ℕ) × List Token)) →
    all ≤ so_far → read_more_args depth (all - so_far) front ts ≡ answer → answer ≡ None
unfolding read_more_args
args_end depth all so_far front ts answer is reads = sym reads ∙ ap (λ n. read_more_args depth n front ts) (none_left all so_far is)

-- declarators

behind_stop : (on : List Declr → Read (List Declr)) (front : List Declr) (ts : List Token) → sees term.Comma ts ≡ false → read_declrs_behind on front ts ≡ Some (front, ts)
behind_stop on front [] none = refl
behind_stop on front (t ∷ ts) none = ap (λ b. if b then on front ts else Some (front, t ∷ ts)) none

behind_go : (on : List Declr → Read (List Declr)) (front : List Declr) (ts : List Token) → sees term.Comma ts ≡ true → read_declrs_behind on front ts ≡ on front (drop 1 ts)
behind_go on front [] comma = absurd (let other = same_is term.Comma term.Other comma in cc)
behind_go on front (t ∷ ts) comma = ap (λ b. if b then on front ts else Some (front, t ∷ ts)) comma

pub declrs_open : (depth : ℕ) (s : Spec) (all so_far : ℕ) (front : List Declr) (ts : List Token) (answer : Option (List Declr × List Token)) →
    so_far < all → read_declrs depth s (all - so_far) front ts ≡ answer →
    answer ≡ chained (read_declr depth s ts) (λ d us. read_declrs_behind (read_declrs depth s (all - (so_far + 1))) (front ++ d ∷ []) us)
unfolding read_declrs
declrs_open depth s all so_far front ts answer is reads =
    sym reads ∙ ap (λ n. read_declrs depth s n front ts) (turn_left all so_far is)

pub declrs_stop : (depth : ℕ) (s : Spec) (all so_far : ℕ) (front : List Declr) (ts : List Token) (answer : Option (List Declr × List Token)) (d : Declr) (us : List Token) →
    so_far < all → read_declrs depth s (all - so_far) front ts ≡ answer → read_declr depth s ts ≡ Some (d, us) → sees term.Comma us ≡ false →
    answer ≡ Some (front ++ d ∷ [], us)
declrs_stop depth s all so_far front ts answer d us is reads one none =
    declrs_open depth s all so_far front ts answer is reads
    ∙ chained_some (read_declr depth s ts) (λ d us. read_declrs_behind (read_declrs depth s (all - (so_far + 1))) (front ++ d ∷ []) us) d us one
    ∙ behind_stop (read_declrs depth s (all - (so_far + 1))) (front ++ d ∷ []) us none

pub declrs_go : (depth : ℕ) (s : Spec) (all so_far : ℕ) (front : List Declr) (ts : List Token) (answer : Option (List Declr × List Token)) (d : Declr) (us : List Token) →
    so_far < all → read_declrs depth s (all - so_far) front ts ≡ answer → read_declr depth s ts ≡ Some (d, us) → sees term.Comma us ≡ true →
    read_declrs depth s (all - (so_far + 1)) (front ++ d ∷ []) (drop 1 us) ≡ answer
declrs_go depth s all so_far front ts answer d us is reads one comma =
    sym (declrs_open depth s all so_far front ts answer is reads
    ∙ chained_some (read_declr depth s ts) (λ d us. read_declrs_behind (read_declrs depth s (all - (so_far + 1))) (front ++ d ∷ []) us) d us one
    ∙ behind_go (read_declrs depth s (all - (so_far + 1))) (front ++ d ∷ []) us comma)

pub declrs_end : (depth : ℕ) (s : Spec) (all so_far : ℕ) (front : List Declr) (ts : List Token) (answer : Option (List Declr × List Token)) →
    all ≤ so_far → read_declrs depth s (all - so_far) front ts ≡ answer → answer ≡ None
unfolding read_declrs
declrs_end depth s all so_far front ts answer is reads = sym reads ∙ ap (λ n. read_declrs depth s n front ts) (none_left all so_far is)

-- a call is told by four terms

pub begins_by_four : (ts : List Token) → is_call (next ts) (next (drop 1 ts)) (next (drop 1 (drop 1 ts))) (next (drop 1 (drop 1 (drop 1 ts)))) ≡ begins_call ts
begins_by_four [] = refl
begins_by_four (t ∷ []) = refl
begins_by_four (t ∷ u ∷ []) = refl
begins_by_four (t ∷ u ∷ v ∷ ts) = refl
