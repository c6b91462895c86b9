-- How a file is read.
use Rattle.std.specs.Prelude.{ℕ, zero, suc, Bool, true, false, ◌||◌, if◌then◌else◌, List, [], ◌∷◌, ◌++◌, length, drop, Option, Some, None, option_map, option_and_then, negsuc}
use Rattle.c_lexer.specs.declared.token.Token.{Token}
use Rattle.c_lexer.specs.declared.token.Tokens.{Tokens}
use Rattle.c_tree.specs.declared.expr.Sign.TheVariants as sign
use Rattle.c_tree.specs.declared.tree.Base.TheVariants as base
use Rattle.c_tree.specs.declared.tree.Body.{Body}
use Rattle.c_tree.specs.declared.tree.Expr.{Expr}
use Rattle.c_tree.specs.declared.tree.Expr.TheVariants as expr
use Rattle.c_tree.specs.declared.tree.GlobalDecl.{GlobalDecl}
use Rattle.c_tree.specs.declared.tree.Head.{Head}
use Rattle.c_tree.specs.declared.tree.Spec.{Spec}
use Rattle.c_tree.specs.declared.tree.Top.{Top}
use Rattle.c_tree.specs.declared.tree.Top.TheVariants as top
use Rattle.c_tree.specs.declared.tree.Tree.{Tree}
use Rattle.c_tree.specs.declared.tree.Word.{Word}
use Rattle.c_parser.specs.declared.term.Term.{Term}
use Rattle.c_parser.specs.declared.term.Term.TheVariants as term
use Rattle.c_parser.specs.Term.{term_of, next, same, sees, word}
use Rattle.c_parser.specs.Declarators.{spec}
use Rattle.c_parser.specs.ReadExpressions.{Read, mapped, chained, read_want, name_in, read_name, read_number}
use Rattle.c_parser.specs.ReadStatements.{read_base, read_stars, read_starred, naming}
use Rattle.c_parser.specs.ReadBlocks.{read_item, read_block}

-- struct bodies

abbrev pub read_field_names_at : (List Spec → Read (List Spec)) → List Spec → Term → Read (List Spec)
read_field_names_at on front term.Comma ts = on front (drop 1 ts)
read_field_names_at on front term.Semicolon ts = Some (front, drop 1 ts)
read_field_names_at on front _ ts = None

-- ["*"] N {"," ["*"] N} ";", behind the fields in front
unfoldable pub read_field_names : Spec → ℕ → List Spec → Read (List Spec)
read_field_names s zero front ts = None
read_field_names s (suc n) front ts =
    chained (read_starred ts) (λ p us. read_field_names_at (read_field_names s n) (front ++ naming s p ∷ []) (next us) us)

abbrev pub read_fields_behind : (List Spec → Read (List Spec)) → List Spec → Read (List Spec)
read_fields_behind on front ts = if sees term.CloseBrace ts then Some (front, drop 1 ts) else on front ts

-- field {field} "}"
unfoldable pub read_fields : ℕ → List Spec → Read (List Spec)
read_fields zero front ts = None
read_fields (suc n) front ts =
    chained (read_base ts) (λ s us. chained (read_field_names s (length us) front us) (λ fields vs. read_fields_behind (read_fields n) fields vs))

unfoldable pub read_struct_body : Read Body
read_struct_body ts =
    chained (read_want term.OpenBrace ts) (λ o us. mapped (λ fields. record { fields = fields; at = o.start }) (read_fields (length us) [] us))

-- globals

abbrev pub read_const_at : Term → Token → Read Expr
read_const_at term.Number t ts = read_number (t ∷ ts)
read_const_at term.Minus t ts = mapped (λ e. expr.Unary sign.Minus e t.start) (read_number ts)
read_const_at term.Null t ts = Some (expr.Null t.start, ts)
read_const_at term.Eof t ts = Some (expr.Const (negsuc 0) t.start, ts)
read_const_at _ t ts = None

unfoldable pub read_const : Read Expr
read_const [] = None
read_const (t ∷ ts) = read_const_at (term_of t) t ts

abbrev pub global_of : Spec → Option Expr → ℕ → GlobalDecl
global_of s e at = record { spec = s; value = e; at = at }

abbrev pub read_value : Spec → ℕ → Read GlobalDecl
read_value s at [] = Some (global_of s None at, [])
read_value s at (t ∷ ts) =
    if same term.Put (term_of t) then mapped (λ e. global_of s (Some e) t.start) (read_const ts) else Some (global_of s None at, t ∷ ts)

unfoldable pub read_global : Spec → Read GlobalDecl
read_global s ts = chained (read_starred ts) (λ p us. read_value (naming s p) p.1.at us)

abbrev pub read_globals_at : (List GlobalDecl → Read (List GlobalDecl)) → List GlobalDecl → Term → Read (List GlobalDecl)
read_globals_at on front term.Comma ts = on front (drop 1 ts)
read_globals_at on front term.Semicolon ts = Some (front, drop 1 ts)
read_globals_at on front _ ts = None

unfoldable pub read_globals : Spec → ℕ → List GlobalDecl → Read (List GlobalDecl)
read_globals s zero front ts = None
read_globals s (suc n) front ts = chained (read_global s ts) (λ g us. read_globals_at (read_globals s n) (front ++ g ∷ []) (next us) us)

-- parameters

-- [N]
abbrev pub optional_at : Option (List ℕ) → Token → List Token → Option Word × List Token
optional_at None t ts = (None, t ∷ ts)
optional_at (Some text) t ts = (Some (word text t), ts)

abbrev pub read_optional : List Token → Option Word × List Token
read_optional [] = (None, [])
read_optional (t ∷ ts) = optional_at (name_in t.kind) t ts

abbrev pub param_of : Spec → ℕ → Option Word → Spec
param_of s stars what = record s { stars = stars; name = what }

abbrev pub read_param_behind : Spec → ℕ × List Token → Option (Spec × List Token)
read_param_behind s p = let q = read_optional p.1 in Some (param_of s p.0 q.0, q.1)

unfoldable pub read_param : Read Spec
read_param ts = chained (read_base ts) (λ s us. read_param_behind s (read_stars us))

abbrev pub read_more_params_at : (List Spec → Read (List Spec)) → List Spec → Term → Read (List Spec)
read_more_params_at on front term.Close ts = Some (front, drop 1 ts)
read_more_params_at on front term.Comma ts = chained (read_param (drop 1 ts)) (λ p us. on (front ++ p ∷ []) us)
read_more_params_at on front _ ts = None

unfoldable pub read_more_params : ℕ → List Spec → Read (List Spec)
read_more_params zero front ts = None
read_more_params (suc n) front ts = read_more_params_at (read_more_params n) front (next ts) ts

abbrev pub read_params_at : Term → Read (List Spec)
read_params_at term.Close ts = Some ([], drop 1 ts)
read_params_at term.Void ts = mapped (λ c. []) (read_want term.Close (drop 1 ts))
read_params_at _ ts = chained (read_param ts) (λ p us. read_more_params (length ts) (p ∷ []) us)

unfoldable pub read_params : Read (List Spec)
read_params ts = read_params_at (next ts) ts

-- structs

-- "struct" .. behind `typedef`, from the tag on
abbrev pub read_alias : Option Word → Read Top
read_alias None ts = None
read_alias (Some tag) ts = chained (read_name ts) (λ w us. mapped (λ e. top.Struct (Some tag) None (Some w)) (read_want term.Semicolon us))

abbrev pub read_body_alias : Option Word → Read Top
read_body_alias tag ts =
    chained (read_struct_body ts) (λ body us. chained (read_name us) (λ w vs. mapped (λ e. top.Struct tag (Some body) (Some w)) (read_want term.Semicolon vs)))

abbrev pub read_typedef_behind : Option Word × List Token → Option (Top × List Token)
read_typedef_behind p = if sees term.OpenBrace p.1 then read_body_alias p.0 p.1 else read_alias p.0 p.1

unfoldable pub read_typedef : Read Top
read_typedef ts = chained (read_want term.Struct ts) (λ s us. read_typedef_behind (read_optional us))

-- behind `struct` and its tag
abbrev pub read_tag_behind : Word → Term → Read Top
read_tag_behind tag term.Semicolon ts = Some (top.Struct (Some tag) None None, drop 1 ts)
read_tag_behind tag _ ts =
    chained (read_struct_body ts) (λ body us. mapped (λ e. top.Struct (Some tag) (Some body) None) (read_want term.Semicolon us))

unfoldable pub read_tag : Read Top
read_tag ts = chained (read_name ts) (λ w us. read_tag_behind w (next us) us)

-- functions

-- behind the parameters: `;` or a block
abbrev pub read_after_head : ℕ → Head → Read Top
read_after_head depth h ts =
    if sees term.Semicolon ts then Some (top.Proto h, drop 1 ts)
    else mapped (λ b. top.Fun h b.0) (read_block depth (read_item depth) ts)

-- behind the type and the name
unfoldable pub read_head : ℕ → Spec → Read Top
read_head depth s ts =
    chained (read_want term.Open ts) (λ o us. chained (read_params us) (λ params vs. read_after_head depth (record { result = s; params = params }) vs))

unfoldable pub read_void : ℕ → Token → Read Top
read_void depth t ts = chained (read_name ts) (λ w us. read_head depth (spec base.Void t 0 (Some w)) us)

-- whether the name behind a base has a `(` behind it
abbrev pub begins_head : List Token → Bool
begins_head ts = sees term.Open (drop 1 (read_stars ts).1)

unfoldable pub read_outer : ℕ → Read Top
read_outer depth ts =
    chained (read_base ts) (λ s us.
    if begins_head us then chained (read_starred us) (λ p vs. read_head depth (naming s p) vs)
    else mapped top.Globals (read_globals s (length us) [] us))

-- whether `struct` and a tag end there, or a body stands behind them
abbrev pub is_struct : Term → Bool
is_struct term.Semicolon = true
is_struct term.OpenBrace = true
is_struct _ = false

abbrev pub read_top_at : ℕ → Term → Token → Read Top
read_top_at depth term.Typedef t ts = read_typedef ts
read_top_at depth term.Struct t ts = if is_struct (next (drop 1 ts)) then read_tag ts else read_outer depth (t ∷ ts)
read_top_at depth term.Void t ts = read_void depth t ts
read_top_at depth _ t ts = read_outer depth (t ∷ ts)

unfoldable pub read_top : ℕ → Read Top
read_top depth [] = None
read_top depth (t ∷ ts) = read_top_at depth (term_of t) t ts

-- the declarations of a file, behind those in front
unfoldable pub read_file : ℕ → ℕ → List Top → List Token → Option (List Top)
read_file depth n front [] = Some front
read_file depth zero front (t ∷ ts) = None
read_file depth (suc n) front (t ∷ ts) = option_and_then (λ p. read_file depth n (front ++ p.0 ∷ []) p.1) (read_top depth (t ∷ ts))

unfoldable pub read_tree : Tokens → Option Tree
read_tree tokens = option_map (λ tops. record { tops = tops; end = tokens.size }) (read_file (length tokens.list) (length tokens.list) [] tokens.list)
