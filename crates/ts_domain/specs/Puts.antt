-- The puts of a program over its graph, and the names of both: variables, fields, sites and puts by number.
use Rattle.std.specs.Prelude.{ℕ, ◌+◌, ◌==◌, nat_lt, Bool, true, false, not, List, [], ◌∷◌, ◌++◌, length, map, slice_get, unwrap_or, option_map, Option, None, Some, if◌then◌else◌}
use Rattle.std.specs.List.{flat_map, range_with_len}
use Rattle.std.specs.Option.{option_and_then}
use Rattle.c_tree.specs.Typing.{is_behind}
use Rattle.c_tree.specs.declared.choice.Put.{Put}
use Rattle.c_tree.specs.declared.limits.Limit.{Limit}
use Rattle.c_tree.specs.declared.limits.Limit.TheVariants as limit
use Rattle.c_tree.specs.declared.program.FunDef.{FunDef}
use Rattle.c_tree.specs.declared.program.Program.{Program}
use Rattle.c_tree.specs.declared.program.StructDef.{StructDef}
use Rattle.c_tree.specs.declared.program.Ty.{Ty}
use Rattle.c_tree.specs.declared.program.Ty.TheVariants as ty
use Rattle.c_tree.specs.declared.program.VarDef.{VarDef}
use Rattle.c_graph.specs.Executes.{ctx_at, function_of}
use Rattle.c_graph.specs.declared.graph.Graph.{Graph}
use Rattle.c_graph.specs.declared.graph.Node.{Node}
use Rattle.c_graph.specs.declared.graph.NodeKind.{NodeKind}
use Rattle.c_graph.specs.declared.graph.NodeKind.TheVariants as kind
use Rattle.c_scopes.specs.ScopeAt.{GapScope, scopes}
use Rattle.c_scopes.specs.Turns.{narrowed}
use Rattle.ts_domain.specs.Numbering.{pointer_vars, pointing_fields, sites_of, var_fields}
use Rattle.ts_domain.specs.Pointers.{is_pointer}
use Rattle.ts_domain.specs.Rows.{places_of, row}
use Rattle.ts_domain.specs.Tables.{callee_by}
use Rattle.ts_domain.specs.declared.names.Names.{Names}
use Rattle.ts_domain.specs.declared.puts.Lookups.{Lookups}

-- the gap that stands at a node, if one does
abbrev pub gap_key : NodeKind → Option ℕ
gap_key (kind.Gap n frees) = Some n
gap_key (kind.Act a) = None
gap_key (kind.Exit at) = None

-- the nodes at which gap n stands, one for each context of its function
abbrev pub nodes_of_gap : Graph → ℕ → List ℕ
nodes_of_gap g n = places_of (map (λ (v : Node). gap_key v.kind) g.nodes) n

abbrev pub has_any : List ℕ → Bool
has_any [] = false
has_any (v ∷ vs) = true

-- a gap stands at a node exactly where its function is reached, since that has a context then
abbrev pub is_reached : Graph → ℕ → Bool
is_reached g n = has_any (nodes_of_gap g n)

-- the function of context k: `main` is that of context 0, any other is called into it
abbrev pub function_in : (called : ℕ → Option ℕ) → Program → ℕ → Option ℕ
function_in called p k = if k == 0 then Some p.main else called k

-- the context of the first of some nodes
abbrev pub context_in : Graph → List ℕ → Option ℕ
context_in g nodes = option_and_then (ctx_at g) (slice_get nodes 0)

-- the offset of a function's name
abbrev pub name_offset : Program → ℕ → Option ℕ
name_offset p f = option_map (λ (d : FunDef). d.at) (slice_get p.funs f)

-- the offset of the name of the function of these nodes; 0, with every body behind it, where there is none, which is never so of a gap
-- of a reached function
abbrev pub offset_in : (called : ℕ → Option ℕ) → Graph → Program → List ℕ → ℕ
offset_in called g p nodes = unwrap_or (option_and_then (name_offset p) (option_and_then (function_in called p) (context_in g nodes))) 0

-- the offset of the name of the function in which gap n stands
abbrev pub gap_offset : Graph → Program → ℕ → ℕ
gap_offset g p n = offset_in (function_of g) g p (nodes_of_gap g n)

-- the body of the struct that a pointer of some type leads to, by the offset of its `{`
abbrev pub type_body : List StructDef → Option Ty → Option ℕ
type_body structs None = None
type_body structs (Some ty.Int) = None
type_body structs (Some ty.IntPtr) = None
type_body structs (Some (ty.StructPtr s)) = option_and_then (λ (d : StructDef). d.body) (slice_get structs s)

-- that of a variable's struct
abbrev pub body_of : List StructDef → List VarDef → ℕ → Option ℕ
body_of structs decls x = type_body structs (option_map (λ (v : VarDef). v.ty) (slice_get decls x))

-- the fields of a variable in a function whose name stands at an offset: a struct has its fields behind its body (C99 6.2.3, 6.7.2.3p3),
-- and bodies stand outside of functions
abbrev pub known_in : List StructDef → List VarDef → (fields : ℕ → List ℕ) → ℕ → ℕ → List ℕ
known_in structs decls fields at x = if is_behind at (body_of structs decls x) then fields x else []

-- those of its pointer fields
abbrev pub known_fields : List StructDef → List VarDef → ℕ → ℕ → List ℕ
known_fields structs decls at x = known_in structs decls (var_fields structs decls) at x

-- puts in a gap: of a variable, and of its fields
abbrev pub var_put : ℕ → ℕ → Put
var_put gap x = record { gap = gap; var = x; field = None }

abbrev pub field_puts : ℕ → ℕ → List ℕ → List Put
field_puts gap x fields = map (λ f. record { gap = gap; var = x; field = Some f }) fields

-- where these pointer variables are in scope: fields before variables
abbrev pub any_puts : (fields : ℕ → List ℕ) → ℕ → List ℕ → List Put
any_puts fields gap xs = flat_map (λ x. field_puts gap x (fields x)) xs ++ map (var_put gap) xs

-- a gap has puts where it is one of a reached function
abbrev pub gap_puts : (reached : ℕ → Bool) (fields : ℕ → ℕ → List ℕ) → GapScope → List Put
gap_puts reached fields r = if reached r.gap then any_puts (fields r.gap) r.gap r.vars else []

abbrev pub puts_in : (reached : ℕ → Bool) (fields : ℕ → ℕ → List ℕ) → List GapScope → List Put
puts_in reached fields rows = flat_map (gap_puts reached fields) rows

-- by its number, whether a variable is no pointer
abbrev pub no_pointers : List VarDef → List Bool
no_pointers decls = map (λ (v : VarDef). not (is_pointer v.ty)) decls

-- the pointer fields of each variable
abbrev pub field_rows : List StructDef → List VarDef → List (List ℕ)
field_rows structs decls = map (var_fields structs decls) (range_with_len 0 (length decls))

-- the fields of a variable in gap n
abbrev pub fields_at : Graph → Program → ℕ → ℕ → List ℕ
fields_at g p n x = known_fields p.structs p.vars (gap_offset g p n) x

-- the puts of a program: its gaps in the order of the text, each with the pointer variables in scope there and their fields that are known
abbrev pub puts_of : Graph → Program → List Put
puts_of g p = puts_in (is_reached g) (fields_at g p) (map (narrowed (no_pointers p.vars)) (scopes p))

-- the same by look-ups: whether a gap is reached, the function that is called into a context, and the fields of a variable in a gap

abbrev pub reached_by : Lookups → ℕ → Bool
reached_by l n = has_any (row l.nodes n)

abbrev pub called_by : Graph → List (List ℕ) → ℕ → Option ℕ
called_by g entering k = callee_by g (slice_get (row entering k) 0)

abbrev pub fields_by : Graph → Program → Lookups → ℕ → ℕ → List ℕ
fields_by g p l n x = known_in p.structs p.vars (row l.fields) (offset_in (called_by g l.entering) g p (row l.nodes n)) x

-- the names of a graph and its program
abbrev pub names_of : Graph → Program → Names
names_of g p = record {
  vars = pointer_vars p.vars;
  fields = pointing_fields p.structs p.vars (pointer_vars p.vars);
  sites = sites_of g.nodes;
  puts = puts_of g p;
  decls = p.vars;
  structs = p.structs;
}

-- the first count that passes its limit: variables, expressions (variables and fields), sites, puts
abbrev pub passed : Names → Option Limit
passed n =
    if nat_lt 256 (length n.vars) then Some limit.Variables
    else if nat_lt 1024 (length n.vars + length n.fields) then Some limit.Expressions
    else if nat_lt 1024 (length n.sites) then Some limit.Sites
    else if nat_lt 8192 (length n.puts) then Some limit.Frees
    else None
