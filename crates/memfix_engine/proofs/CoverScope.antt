-- A choice whose puts are all among those of the program's names is in scope.
use Rattle.std.proofs.Common.{◌≡◌, ℕ, ◌+◌, ◌==◌, ◌&&◌, Bool, true, List, [], ◌∷◌, drop, Option, Some, None, option_and_then, refl, ap, sym, subst, ◌∙◌}
use Rattle.std.specs.Prelude.{nat_eq}
use Rattle.std.specs.List.{Contains, list_all, list_any}
use Rattle.std.specs.Set.{is_member}
use Rattle.std.proofs.lemmas.Bool.{eq-eqb, eqb-true, or_left, or_right}
use Rattle.c_tree.specs.Fill.{puts_at}
use Rattle.c_tree.specs.Typing.{declarations, field_type, has}
use Rattle.c_tree.specs.WellFormed.{IsWellFormed}
use Rattle.c_tree.specs.declared.choice.Put.{Put}
use Rattle.c_tree.specs.declared.program.FunDef.{FunDef}
use Rattle.c_tree.specs.declared.program.Program.{Program}
use Rattle.c_tree.specs.declared.program.Ty.{Ty}
use Rattle.c_tree.specs.declared.program.Ty.TheVariants as ty
use Rattle.call_contexts.proofs.Has.{Has, first, has_left, has_map, has_right, later}
use Rattle.c_scopes.specs.ScopeAt.{Declared, GapScope, function_place, scopes, scopes_from, so_far, up_to}
use Rattle.c_scopes.proofs.ScopeNumbers.{function_numbered}
use Rattle.c_types.specs.Fits as fit
use Rattle.source_patcher.specs.InScope.{AreInScope, freed_type, functions_have, have_scope, is_in_scope, struct_behind}
use Rattle.ts_domain.specs.Pointers.{is_pointer}
use Rattle.ts_domain.specs.Puts.{fields_at, gap_offset, puts_of}
use Rattle.memfix_engine.specs.Analysis.{graph_in}
use Rattle.memfix_engine.proofs.GapFunctions.{gap_offset_is, numbers_of}
use Rattle.memfix_engine.proofs.ScopeLists.{all_of_has, has_of_filter, one_by_key}
use Rattle.memfix_engine.proofs.NamedPuts.{IsKnown, IsNamed, IsPointer, IsPointerField, a_field, field_points, field_typed, is_named, rows_ascend, variable_points}
use Rattle.memfix_engine.proofs.RowVariables.{visible_exist}

-- a number of a list is a member
is_member_of : {x : ℕ} (xs : List ℕ) → Has x xs → is_member nat_eq xs x ≡ true
is_member_of [] h = elim h [ ]
is_member_of {x} (y ∷ xs) first = or_left (nat_eq x x) (list_any (nat_eq x) xs) (eq-eqb x x refl)
is_member_of {x} (y ∷ xs) (later h) = or_right (nat_eq x y) (list_any (nat_eq x) xs) (is_member_of xs h)

-- types are those of pointers for puts and for scopes alike
same_pointer : (t : Ty) → is_pointer t ≡ true → fit.is_pointer t ≡ true
same_pointer ty.Int h = absurd cc
same_pointer ty.IntPtr h = refl
same_pointer (ty.StructPtr s) h = refl

-- the type of what a put frees

-- that of a variable is one of pointers
variable_freed : (p : Program) (at x : ℕ) → IsPointer p x → has fit.is_pointer (freed_type (declarations p) at x None) ≡ true
variable_freed p at x it = ap (λ (t : Option Ty). has fit.is_pointer t) it.is ∙ same_pointer it.kind it.pointer

-- that of a field is one of pointers, behind the body of its struct
field_freed : (p : Program) (at x f : ℕ) → IsPointerField p at x f → has fit.is_pointer (freed_type (declarations p) at x (Some f)) ≡ true
field_freed p at x f it =
    let d = declarations p in
    ap (λ (t : Option Ty). has fit.is_pointer (option_and_then (field_type d at f) (option_and_then struct_behind t))) it.var_is
    ∙ ap (λ (t : Option Ty). has fit.is_pointer t) (field_typed d at f it.struct it.definition it.field it.struct_is it.behind it.field_is)
    ∙ same_pointer it.field.ty it.pointer

-- functions

module _ (p : Program) (w : IsWellFormed p) (puts : List Put) (named : (q : Put) → Has q puts → IsNamed (graph_in p) p q) where
  -- a put of a gap of a function is in scope there
  put_in_scope : (d : FunDef) (globals : List ℕ) (r : GapScope) (q : Put) → Has d p.funs → Has r (function_place d globals) → Has r (scopes p) → Has q puts → q.gap ≡ r.gap → is_in_scope (declarations p) d.at r.vars q ≡ true
  put_in_scope d globals r q here own among chosen gap =
      let it = named q chosen in
      let same : it.row ≡ r = one_by_key (λ (z : GapScope). z.gap) 0 p.gaps (scopes p) (rows_ascend p w) it.stands among (sym it.gap ∙ gap) in
      let visible : Has q.var r.vars = subst (λ (z : GapScope). Has q.var z.vars) same it.visible in
      let number : Has r.gap (numbers_of d) = subst (λ (ns : List ℕ). Has r.gap ns) (function_numbered d globals) (has_map (λ (z : GapScope). z.gap) own) in
      let reached = it.reached in
      let offset : gap_offset (graph_in p) p it.row.gap ≡ d.at = gap_offset_is p w here (subst (λ (z : GapScope). Has z.gap (numbers_of d)) (sym same) number) reached in
      let typed : has fit.is_pointer (freed_type (declarations p) d.at q.var q.field) ≡ true = by_known it d.at offset q.field it.known in
      ap (λ (b : Bool). b && has fit.is_pointer (freed_type (declarations p) d.at q.var q.field)) (is_member_of r.vars visible) ∙ typed
    where
      by_known : (it : IsNamed (graph_in p) p q) (at : ℕ) → gap_offset (graph_in p) p it.row.gap ≡ at → (o : Option ℕ) → IsKnown (fields_at (graph_in p) p it.row.gap q.var) o → has fit.is_pointer (freed_type (declarations p) at q.var o) ≡ true
      by_known it at offset None known = variable_freed p at q.var (variable_points p q.var (visible_exist p w it.stands it.visible) it.shown)
      by_known it at offset (Some f) (a_field _ known) =
          field_freed p at q.var f (subst (λ (n : ℕ). IsPointerField p n q.var f) offset (field_points (graph_in p) p it.row.gap q.var f known))

  -- all puts of a function
  function_in_scope : (d : FunDef) (globals : List ℕ) → Has d p.funs → ((r : GapScope) → Has r (function_place d globals) → Has r (scopes p)) → have_scope (declarations p) puts d.at (function_place d globals) ≡ true
  function_in_scope d globals here among =
      all_of_has (λ (r : GapScope). list_all (is_in_scope (declarations p) d.at r.vars) (puts_at puts r.gap)) (function_place d globals)
      (λ r own. all_of_has (is_in_scope (declarations p) d.at r.vars) (puts_at puts r.gap)
      (λ q h.
      let it = has_of_filter (λ (z : Put). z.gap == r.gap) puts h in
      put_in_scope d globals r q here own (among r own) it.0 (eqb-true q.gap r.gap it.1)))

  -- all puts of functions in turn
  functions_in_scope : (f : ℕ) (s : Declared) (ds : List FunDef) → ((d : FunDef) → Has d ds → Has d p.funs) → ((r : GapScope) → Has r (scopes_from p.vars f s ds) → Has r (scopes p)) → functions_have p puts f s ds ≡ true
  functions_in_scope f s [] within among = refl
  functions_in_scope f s (d ∷ ds) within among =
      let here = up_to f d (drop s.count p.vars) s in
      ap (λ (b : Bool). b && functions_have p puts (f + 1) here ds) (function_in_scope d here.globals (within d first) (λ r h. among r (has_left (scopes_from p.vars (f + 1) here ds) h)))
      ∙ functions_in_scope (f + 1) here ds (λ e h. within e (later h)) (λ r h. among r (has_right (function_place d here.globals) h))

-- named puts are in scope at their gaps
pub named_in_scope : (p : Program) (puts : List Put) → IsWellFormed p → ((q : Put) → Contains puts q → Contains (puts_of (graph_in p) p) q) → AreInScope p puts
named_in_scope p puts w named = functions_in_scope p w puts (is_named p puts named) 0 (so_far 0 []) p.funs (λ d h. h) (λ r h. h)
