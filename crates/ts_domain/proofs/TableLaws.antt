-- What the rows of parameters, variables, sites and contexts are.
use Rattle.std.proofs.Common.{◌≡◌, ℕ, ◌==◌, ◌&&◌, Bool, true, false, cond, List, map, slice_get, Option, Some, None, refl, ap, sym, ◌∙◌}
use Rattle.std.specs.List.{position}
use Rattle.std.specs.Option.{option_and_then}
use Rattle.c_tree.specs.Typing.{has}
use Rattle.c_tree.specs.declared.program.Home.{Home}
use Rattle.c_tree.specs.declared.program.Home.TheVariants as home
use Rattle.c_tree.specs.declared.program.VarDef.{VarDef}
use Rattle.c_graph.specs.declared.graph.Edge.{Edge}
use Rattle.c_graph.specs.declared.graph.Graph.{Graph}
use Rattle.c_graph.specs.Executes.{callee_at, ctx_at, enters_into, function_of}
use Rattle.c_graph.specs.Moves.{enters}
use Rattle.ts_domain.specs.declared.names.Names.{Names}
use Rattle.ts_domain.specs.declared.tables.Tables.{Tables}
use Rattle.ts_domain.specs.Deeds.{site_of, owned_by, parameters_of}
use Rattle.ts_domain.specs.Pointers.{has_home, is_of, is_parameter_of, parameters, owned}
use Rattle.ts_domain.specs.Rows.{is_key, places_of, AreRows}
use Rattle.ts_domain.specs.Tables.{AreTables, callee_by, decl_parameter, entered, owner_key, owner_of, parameter_key, row_any}
use Rattle.ts_domain.proofs.RowLaws.{places_keyed, first_is_position, found_at}

parameter_same : (f : ℕ) (h : Home) → is_key f (parameter_key h) ≡ is_parameter_of f h
parameter_same f (home.Global n) = refl
parameter_same f (home.Param g) = refl
parameter_same f (home.Local g) = refl
parameter_same f (home.Result g) = refl

owner_same : (f : ℕ) (h : Home) → is_key f (owner_key h) ≡ is_of f h
owner_same f (home.Global n) = refl
owner_same f (home.Param g) = refl
owner_same f (home.Local g) = refl
owner_same f (home.Result g) = refl

owned_same : (f : ℕ) (o : Option VarDef) → is_key f (option_and_then (λ (v : VarDef). owner_key v.home) o) ≡ has (λ (v : VarDef). is_of f v.home) o
owned_same f None = refl
owned_same f (Some v) = owner_same f v.home

entered_same : (g : Graph) (k : ℕ) (b : Bool) (o : Option ℕ) → is_key k (cond b o None) ≡ (b && has (λ j. j == k) o)
entered_same g k true o = refl
entered_same g k false o = refl

pub parameters_are : (n : Names) (f : ℕ) → places_of (map decl_parameter n.decls) f ≡ parameters n f
parameters_are n f = places_keyed decl_parameter (λ (v : VarDef). is_parameter_of f v.home) f (λ (v : VarDef). parameter_same f v.home) n.decls

pub owned_are : (n : Names) (f : ℕ) → places_of (map (owner_of n) n.vars) f ≡ owned n f
owned_are n f = places_keyed (owner_of n) (has_home n (is_of f)) f (λ x. owned_same f (slice_get n.decls x)) n.vars

pub sites_are : (n : Names) (v : ℕ) → slice_get (places_of (map Some n.sites) v) 0 ≡ site_of n v
sites_are n v = ap (λ (xs : List ℕ). slice_get xs 0) (places_keyed Some (λ u. u == v) v (λ u. refl) n.sites) ∙ first_is_position (λ u. u == v) n.sites

callee_found : (g : Graph) (o : Option ℕ) → callee_by g o ≡ option_and_then (λ (e : Edge). callee_at g e.from) (option_and_then (slice_get g.edges) o)
callee_found g None = refl
callee_found g (Some place) = refl

pub functions_are : (g : Graph) (k : ℕ) → callee_by g (slice_get (places_of (map (entered g) g.edges) k) 0) ≡ function_of g k
functions_are g k =
    ap (λ (xs : List ℕ). callee_by g (slice_get xs 0)) (places_keyed (entered g) (enters_into g k) k (λ (e : Edge). entered_same g k (enters e.way) (ctx_at g e.to)) g.edges)
    ∙ ap (callee_by g) (first_is_position (enters_into g k) g.edges)
    ∙ callee_found g (position (enters_into g k) g.edges)
    ∙ ap (option_and_then (λ (e : Edge). callee_at g e.from)) (sym (found_at (enters_into g k) g.edges))

-- rows of those keys are the tables
pub tabled : (n : Names) (g : Graph) (t : Tables) → AreRows (map decl_parameter n.decls) t.parameters → AreRows (map (owner_of n) n.vars) t.owned → AreRows (map Some n.sites) t.sites → AreRows (map (entered g) g.edges) t.entering → AreTables n g t
tabled n g t ps os ss es = record {
  parameters = λ f. ps f ∙ parameters_are n f;
  owned = λ f. os f ∙ owned_are n f;
  sites = λ v. ap (λ (xs : List ℕ). slice_get xs 0) (ss v) ∙ sites_are n v;
  functions = λ k. ap (λ (xs : List ℕ). callee_by g (slice_get xs 0)) (es k) ∙ functions_are g k;
}

pub parameters_by : (n : Names) (g : Graph) (t : Tables) → AreTables n g t → (f : Option ℕ) → row_any t.parameters f ≡ parameters_of n f
parameters_by n g t is None = refl
parameters_by n g t is (Some f) = is.parameters f

pub owned_of : (n : Names) (g : Graph) (t : Tables) → AreTables n g t → (f : Option ℕ) → row_any t.owned f ≡ owned_by n f
owned_of n g t is None = refl
owned_of n g t is (Some f) = is.owned f
