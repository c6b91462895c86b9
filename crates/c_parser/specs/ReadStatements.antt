-- How types, requests, calls, assignments and declarations are read.
use Rattle.std.specs.Prelude.{ℕ, zero, suc, Bool, true, false, if◌then◌else◌, List, [], ◌∷◌, ◌++◌, length, drop, Option, Some, None, option_map}
use Rattle.c_lexer.specs.declared.token.Token.{Token}
use Rattle.c_tree.specs.declared.expr.Op.{Op}
use Rattle.c_tree.specs.declared.expr.Op.TheVariants as op
use Rattle.c_tree.specs.declared.tree.Arg.{Arg}
use Rattle.c_tree.specs.declared.tree.Base.TheVariants as base
use Rattle.c_tree.specs.declared.tree.Call.{Call}
use Rattle.c_tree.specs.declared.tree.Call.TheVariants as call
use Rattle.c_tree.specs.declared.tree.Declr.{Declr}
use Rattle.c_tree.specs.declared.tree.Expr.{Expr}
use Rattle.c_tree.specs.declared.tree.Right.{Right}
use Rattle.c_tree.specs.declared.tree.Right.TheVariants as right
use Rattle.c_tree.specs.declared.tree.Simple.{Simple}
use Rattle.c_tree.specs.declared.tree.Size.{Size}
use Rattle.c_tree.specs.declared.tree.Spec.{Spec}
use Rattle.c_tree.specs.declared.tree.Unit.{Unit as Counted}
use Rattle.c_tree.specs.declared.tree.Unit.TheVariants as unit
use Rattle.c_tree.specs.declared.tree.Word.{Word}
use Rattle.c_parser.specs.declared.term.Term.{Term}
use Rattle.c_parser.specs.declared.term.Term.TheVariants as term
use Rattle.c_parser.specs.Term.{term_of, next, same, sees, word}
use Rattle.c_parser.specs.Declarators.{spec}
use Rattle.c_parser.specs.Statements.{change_of, step_of, one_at}
use Rattle.c_parser.specs.ReadExpressions.{Read, mapped, chained, read_want, read_name, text_in, read_unary, read_level, read_arg, placed}

-- a base as a type without stars or a name
abbrev pub read_base_at : Term → Token → Read Spec
read_base_at term.Int t ts = Some (spec base.Int t 0 None, ts)
read_base_at term.Struct t ts = mapped (λ w. spec (base.Tag w) t 0 None) (read_name ts)
read_base_at term.Name t ts = mapped (λ w. spec (base.Alias w) t 0 None) (read_name (t ∷ ts))
read_base_at _ t ts = None

unfoldable pub read_base : Read Spec
read_base [] = None
read_base (t ∷ ts) = read_base_at (term_of t) t ts

-- ["*"]
abbrev pub read_stars : List Token → ℕ × List Token
read_stars [] = (0, [])
read_stars (t ∷ ts) = if same term.Star (term_of t) then (1, ts) else (0, t ∷ ts)

-- ["*"] N
abbrev pub read_starred : Read (ℕ × Word)
read_starred ts = mapped (λ w. ((read_stars ts).0, w)) (read_name (read_stars ts).1)

-- the type with these stars, and this name
abbrev pub naming : Spec → ℕ × Word → Spec
naming s p = record s { stars = p.0; name = Some p.1 }

-- units and sizes

abbrev pub read_unit_within : Read Counted
read_unit_within [] = None
read_unit_within (t ∷ ts) = if same term.Star (term_of t) then mapped unit.Star (read_name ts) else mapped unit.Of (read_base (t ∷ ts))

abbrev pub read_unit_at : Term → Read Counted
read_unit_at term.Star ts = mapped unit.Star (read_name ts)
read_unit_at term.Open ts = chained (read_unit_within ts) (λ u us. mapped (λ c. u) (read_want term.Close us))
read_unit_at _ ts = None

unfoldable pub read_unit : Read (Counted × ℕ)
read_unit ts = chained (read_want term.Sizeof ts) (λ z us. mapped (λ u. (u, z.start)) (read_unit_at (next us) (drop 1 us)))

abbrev pub sized : Counted × ℕ → Option Expr → Size
sized u count = record { unit = u.0; count = count; at = u.1 }

abbrev pub read_count_behind : ℕ → Counted × ℕ → Read Size
read_count_behind depth u [] = Some (sized u None, [])
read_count_behind depth u (t ∷ ts) =
    if same term.Star (term_of t) then mapped (λ e. sized u (Some e)) (read_unary depth ts) else Some (sized u None, t ∷ ts)

abbrev pub read_count_before : ℕ → Read Size
read_count_before depth ts =
    chained (read_level (read_unary depth) 1 ts) (λ e us. chained (read_want term.Star us) (λ s vs. mapped (λ u. sized u (Some e)) (read_unit vs)))

unfoldable pub read_size : ℕ → Read Size
read_size depth ts =
    if sees term.Sizeof ts then chained (read_unit ts) (λ u us. read_count_behind depth u us) else read_count_before depth ts

-- arguments

abbrev pub read_more_args_at : ℕ → (List Arg → Read (List Arg × ℕ)) → List Arg → Term → Token → Read (List Arg × ℕ)
read_more_args_at depth on front term.Close t ts = Some ((front, t.start), ts)
read_more_args_at depth on front term.Comma t ts = chained (read_arg depth ts) (λ a us. on (front ++ a ∷ []) us)
read_more_args_at depth on front _ t ts = None

unfoldable pub read_more_args : ℕ → ℕ → List Arg → Read (List Arg × ℕ)
read_more_args depth zero front ts = None
read_more_args depth (suc n) front [] = None
read_more_args depth (suc n) front (t ∷ ts) = read_more_args_at depth (read_more_args depth n) front (term_of t) t ts

unfoldable pub read_args : ℕ → Read (List Arg × ℕ)
read_args depth [] = None
read_args depth (t ∷ ts) =
    if same term.Close (term_of t) then Some (([], t.start), ts)
    else chained (read_arg depth (t ∷ ts)) (λ a us. read_more_args depth (length (t ∷ ts)) (a ∷ []) us)

-- calls

-- "(" size ")", behind the word `malloc`
abbrev pub read_request : ℕ → Option Spec → Token → Read Call
read_request depth cast t ts =
    chained (read_want term.Open ts) (λ o us. chained (read_size depth us) (λ z vs. mapped (λ c. call.Malloc cast z t.start) (read_want term.Close vs)))

abbrev pub cast_to : Spec → Spec
cast_to s = record s { stars = 1 }

-- base "*" ")" "malloc" "(" size ")", behind a `(`
abbrev pub read_cast : ℕ → Read Call
read_cast depth ts =
    chained (read_base ts) (λ s us. chained (read_want term.Star us) (λ star vs. chained (read_want term.Close vs) (λ c ws.
    chained (read_want term.Malloc ws) (λ t xs. read_request depth (Some (cast_to s)) t xs))))

abbrev pub read_user : ℕ → Read Call
read_user depth ts =
    chained (read_name ts) (λ w us. chained (read_want term.Open us) (λ o vs. mapped (λ p. call.User w p.0 p.1) (read_args depth vs)))

abbrev pub read_getchar : Token → Read Call
read_getchar t ts = chained (read_want term.Open ts) (λ o us. mapped (λ c. call.Getchar t.start) (read_want term.Close us))

abbrev pub read_putchar : ℕ → Token → Read Call
read_putchar depth t ts =
    chained (read_want term.Open ts) (λ o us. chained (read_arg depth us) (λ a vs. mapped (λ c. call.Putchar a t.start) (read_want term.Close vs)))

abbrev pub read_text : Read (List ℕ × ℕ)
read_text [] = None
read_text (t ∷ ts) = option_map (λ text. ((text, t.start), ts)) (text_in t.kind)

abbrev pub read_printf : ℕ → Token → Read Call
read_printf depth t ts =
    chained (read_want term.Open ts) (λ o us. chained (read_text us) (λ x vs.
    mapped (λ p. call.Printf x.0 x.1 p.0 t.start p.1) (read_more_args depth (length us) [] vs)))

abbrev pub read_call_at : ℕ → Term → Token → Read Call
read_call_at depth term.Name t ts = read_user depth (t ∷ ts)
read_call_at depth term.Getchar t ts = read_getchar t ts
read_call_at depth term.Putchar t ts = read_putchar depth t ts
read_call_at depth term.Printf t ts = read_printf depth t ts
read_call_at depth term.Malloc t ts = read_request depth None t ts
read_call_at depth term.Open t ts = read_cast depth ts
read_call_at depth _ t ts = None

unfoldable pub read_call : ℕ → Read Call
read_call depth [] = None
read_call depth (t ∷ ts) = read_call_at depth (term_of t) t ts

-- what begins with these terms is a call and no expr
abbrev pub is_cast : Term → Term → Term → Bool
is_cast term.Int y z = true
is_cast term.Struct y z = true
is_cast term.Name term.Star term.Close = true
is_cast _ _ _ = false

abbrev pub is_call : Term → Term → Term → Term → Bool
is_call term.Getchar x y z = true
is_call term.Putchar x y z = true
is_call term.Printf x y z = true
is_call term.Malloc x y z = true
is_call term.Name x y z = same term.Open x
is_call term.Open x y z = is_cast x y z
is_call _ x y z = false

abbrev pub begins_call : List Token → Bool
begins_call ts = is_call (next ts) (next (drop 1 ts)) (next (drop 2 ts)) (next (drop 3 ts))

unfoldable pub read_right : ℕ → Read Right
read_right depth ts = if begins_call ts then mapped right.Call (read_call depth ts) else mapped right.Plain (read_arg depth ts)

-- assignments

abbrev pub simple_of : Arg → Op → Right → Token → Simple
simple_of a o r t = record { place = a; op = o; right = r; at = t.start }

abbrev pub read_step : Bool → Arg → Option Op → Token → Read Simple
read_step true a (Some o) t ts = Some (simple_of a o (one_at t) t, ts)
read_step true a None t ts = None
read_step false a o t ts = None

abbrev pub read_change : ℕ → Bool → Arg → Option Op → Token → Read Simple
read_change depth steps a (Some o) t ts = mapped (λ b. simple_of a o (right.Plain b) t) (read_arg depth ts)
read_change depth steps a None t ts = read_step steps a (step_of (term_of t)) t ts

-- what changes a place; a post may be followed by `++` and `--` too
unfoldable pub read_changed : ℕ → Bool → Arg → Read Simple
read_changed depth steps a [] = None
read_changed depth steps a (t ∷ ts) =
    if same term.Put (term_of t) then mapped (λ r. simple_of a op.Put r t) (read_right depth ts)
    else read_change depth steps a (change_of (term_of t)) t ts

abbrev pub read_place : ℕ → Term → Read Simple
read_place depth term.Minus ts = None
read_place depth term.Not ts = None
read_place depth term.Star ts = chained (placed (read_unary depth) ts) (λ a us. read_changed depth false a us)
read_place depth _ ts = chained (placed (read_unary depth) ts) (λ a us. read_changed depth true a us)

abbrev pub read_simple_at : ℕ → Option Op → Token → Read Simple
read_simple_at depth (Some o) t ts = mapped (λ a. simple_of a o (one_at t) t) (placed (read_unary depth) ts)
read_simple_at depth None t ts = read_place depth (term_of t) (t ∷ ts)

unfoldable pub read_simple : ℕ → Read Simple
read_simple depth [] = None
read_simple depth (t ∷ ts) = read_simple_at depth (step_of (term_of t)) t ts

-- declarations

abbrev pub declared : Spec → Option Right → ℕ → Declr
declared s r at = record { spec = s; right = r; at = at }

abbrev pub read_initialiser : ℕ → Spec → ℕ → Read Declr
read_initialiser depth s at [] = Some (declared s None at, [])
read_initialiser depth s at (t ∷ ts) =
    if same term.Put (term_of t) then mapped (λ r. declared s (Some r) t.start) (read_right depth ts) else Some (declared s None at, t ∷ ts)

unfoldable pub read_declr : ℕ → Spec → Read Declr
read_declr depth s ts = chained (read_starred ts) (λ p us. read_initialiser depth (naming s p) p.1.at us)

abbrev pub read_declrs_behind : (List Declr → Read (List Declr)) → List Declr → Read (List Declr)
read_declrs_behind on front [] = Some (front, [])
read_declrs_behind on front (t ∷ ts) = if same term.Comma (term_of t) then on front ts else Some (front, t ∷ ts)

unfoldable pub read_declrs : ℕ → Spec → ℕ → List Declr → Read (List Declr)
read_declrs depth s zero front ts = None
read_declrs depth s (suc n) front ts = chained (read_declr depth s ts) (λ d us. read_declrs_behind (read_declrs depth s n) (front ++ d ∷ []) us)

unfoldable pub read_decl : ℕ → Read (List Declr)
read_decl depth ts = chained (read_base ts) (λ s us. read_declrs depth s (length ts) [] us)

-- what begins with these terms is a declaration
abbrev pub is_decl : Term → Term → Bool
is_decl term.Int x = true
is_decl term.Struct x = true
is_decl term.Name term.Name = true
is_decl term.Name term.Star = true
is_decl _ _ = false

abbrev pub begins_decl : List Token → Bool
begins_decl ts = is_decl (next ts) (next (drop 1 ts))
