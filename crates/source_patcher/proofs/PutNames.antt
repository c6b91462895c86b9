-- What the puts of a choice free has names that are spelled as names, where each put is in scope at a gap of the program.
use Rattle.std.proofs.Common.{◌≡◌, ℕ, suc, ◌<◌, Bool, true, false, List, [], ◌∷◌, map, slice_get, option_map, Option, Some, None, refl, sym, ap, subst, ◌∙◌}
use Rattle.std.specs.Prelude.{nat_lt}
use Rattle.std.specs.List.{list_all}
use Rattle.std.specs.Option.{option_and_then}
use Rattle.std.proofs.lemmas.Bool.{and_parts, ltb-true}
use Rattle.std.proofs.lemmas.Option.{slice_get-map}
use Rattle.c_lexer.specs.declared.token.Token.{Token}
use Rattle.c_lexer.specs.Scan.{HasTokens}
use Rattle.c_lexer.proofs.Lexemes.{Spelling}
use Rattle.c_tree.specs.Typing.{declarations, field_type, fields_if, has, is_behind}
use Rattle.c_tree.specs.WellFormed.{IsWellFormed}
use Rattle.c_tree.specs.declared.choice.Put.{Put}
use Rattle.c_tree.specs.declared.program.FieldDef.{FieldDef}
use Rattle.c_tree.specs.declared.program.Home.{Home}
use Rattle.c_tree.specs.declared.program.Home.TheVariants as home
use Rattle.c_tree.specs.declared.program.Program.{Program}
use Rattle.c_tree.specs.declared.program.StructDef.{StructDef}
use Rattle.c_tree.specs.declared.program.Ty.{Ty}
use Rattle.c_tree.specs.declared.program.Ty.TheVariants as ty
use Rattle.c_tree.specs.declared.program.VarDef.{VarDef}
use Rattle.c_tree.specs.declared.tree.Tree.{Tree}
use Rattle.c_parser.specs.Grammar.{IsFile}
use Rattle.c_parser.specs.Offsets.{AllHave}
use Rattle.c_types.specs.declared.scope.StructRow.{StructRow}
use Rattle.c_types.specs.Fits.{is_pointer}
use Rattle.c_types.specs.Program.{IsProgram, definitions, field_def, start, struct_def, walked}
use Rattle.c_types.specs.Structs.{Fields}
use Rattle.source_patcher.specs.Edit.{name_or_none, pointed_fields}
use Rattle.source_patcher.specs.InScope.{AreInScope, HaveGaps, freed_type, struct_behind}
use Rattle.source_patcher.proofs.Named.{tokens_named}
use Rattle.source_patcher.proofs.Readback.{HasNames, HaveNames}
use Rattle.source_patcher.proofs.ScopedPuts.{IsFreed, IsNoSlot, NoSlot, all_get, put_freed}
use Rattle.source_patcher.proofs.SpelledBlocks.{IsSpelled, VarSpelled}
use Rattle.source_patcher.proofs.SpelledTops.{BodySpelled, FieldsSpelled, RowSpelled, file_spelled, start_spelled}

-- the names of a program

abbrev FieldSpelled : FieldDef → Type 0
FieldSpelled d = Spelling d.name

abbrev AnyBodySpelled : Option ℕ → List FieldDef → Type 0
AnyBodySpelled None fields = Unit {0}
AnyBodySpelled (Some at) fields = AllHave FieldSpelled fields

abbrev StructSpelled : StructDef → Type 0
StructSpelled c = AnyBodySpelled c.body c.fields

fields_spelled : (fields : Fields) → FieldsSpelled fields → AllHave FieldSpelled (map field_def fields)
fields_spelled [] all = tt
fields_spelled (f ∷ fs) all = (all.0, fields_spelled fs all.1)

any_body_spelled : (body : Option ℕ) (fields : Fields) → BodySpelled body fields → AnyBodySpelled body (map field_def fields)
any_body_spelled None fields all = tt
any_body_spelled (Some at) fields all = fields_spelled fields all

structs_spelled : (rows : List StructRow) → AllHave RowSpelled rows → AllHave StructSpelled (map struct_def rows)
structs_spelled [] all = tt
structs_spelled (row ∷ rows) all = (any_body_spelled row.body row.fields all.0, structs_spelled rows all.1)

pub record ProgramSpelled (p : Program) : Type 0 where
  pub vars : AllHave VarSpelled p.vars
  pub structs : AllHave StructSpelled p.structs

program_spelled : (bytes : List ℕ) (ts : List Token) (t : Tree) (p : Program) → HasTokens bytes ts → IsFile t.tops ts → IsProgram t p → ProgramSpelled p
program_spelled bytes ts t p has_tokens file is =
    let rows = definitions t.tops in
    let s = file_spelled p [] file (tokens_named bytes ts has_tokens) (start rows) (start_spelled rows) in
    subst ProgramSpelled (sym is.made) (record { vars = s.vars is.clean; structs = structs_spelled (walked t).scope.structs (s.rows is.clean) })

-- of what a put frees

no_slot : (h : Home) (x : List ℕ) → IsNoSlot h → IsSpelled h x → Spelling x
no_slot (home.Global n) x none is = is
no_slot (home.Param f) x none is = is
no_slot (home.Local f) x none is = is
no_slot (home.Result f) x none is = absurd none

module _ (p : Program) (spelled : ProgramSpelled p) (at : ℕ) where
  abbrev homes : List Home
  homes = map (λ (v : VarDef). v.home) p.vars

  var_spelled : (x : ℕ) (v : VarDef) → slice_get p.vars x ≡ Some v → NoSlot homes x → Spelling v.name
  var_spelled x v is none =
      no_slot v.home v.name (none v.home (slice_get-map (λ (w : VarDef). w.home) p.vars x ∙ ap (option_map (λ (w : VarDef). w.home)) is)) (all_get VarSpelled p.vars x v is spelled.vars)

  variable_case : (x : ℕ) (o : Option VarDef) → slice_get p.vars x ≡ o → has is_pointer (option_map (λ (v : VarDef). v.ty) o) ≡ true → NoSlot homes x → Spelling (name_or_none (option_map (λ (v : VarDef). v.name) o))
  variable_case x None is points none = absurd cc
  variable_case x (Some v) is points none = var_spelled x v is none

  -- the fields of a struct whose body is known
  abbrev NameIn : ℕ → Option (List FieldDef) → Type 0
  NameIn f fields = Spelling (name_or_none (option_map (λ (d : FieldDef). d.name) (option_and_then (λ fields. slice_get fields f) fields)))

  abbrev TypeIn : ℕ → Option (List FieldDef) → Type 0
  TypeIn f fields = has is_pointer (option_map (λ (c : FieldDef). c.ty) (option_and_then (λ fields. slice_get fields f) fields)) ≡ true

  field_here : (fields : List FieldDef) (f : ℕ) (o : Option FieldDef) → slice_get fields f ≡ o → AllHave FieldSpelled fields → has is_pointer (option_map (λ (c : FieldDef). c.ty) o) ≡ true
      → Spelling (name_or_none (option_map (λ (d : FieldDef). d.name) o))
  field_here fields f None is all points = absurd cc
  field_here fields f (Some d) is all points = all_get FieldSpelled fields f d is all

  known_case : (f : ℕ) (c : StructDef) (b : Bool) → AllHave FieldSpelled c.fields → TypeIn f (fields_if b c) → NameIn f (Some c.fields)
  known_case f c false all points = absurd cc
  known_case f c true all points = field_here c.fields f (slice_get c.fields f) refl all points

  body_case : (f : ℕ) (c : StructDef) (body : Option ℕ) → AnyBodySpelled body c.fields → TypeIn f (fields_if (is_behind at body) c) → NameIn f (Some c.fields)
  body_case f c None all points = absurd cc
  body_case f c (Some b) all points = known_case f c (nat_lt b at) all points

  struct_case : (f s : ℕ) (o : Option StructDef) → slice_get p.structs s ≡ o → TypeIn f (option_and_then (λ c. fields_if ((declarations p).known at c.body) c) o) → NameIn f (option_map (λ (d : StructDef). d.fields) o)
  struct_case f s None is points = absurd cc
  struct_case f s (Some c) is points = body_case f c c.body (all_get StructSpelled p.structs s c is spelled.structs) points

  type_case : (f : ℕ) (t : Ty) → has is_pointer (option_and_then (field_type (declarations p) at f) (struct_behind t)) ≡ true → NameIn f (pointed_fields p t)
  type_case f ty.Int points = absurd cc
  type_case f ty.IntPtr points = absurd cc
  type_case f (ty.StructPtr s) points = struct_case f s (slice_get p.structs s) refl points

  field_case : (x f : ℕ) (o : Option VarDef) → slice_get p.vars x ≡ o → has is_pointer (option_and_then (field_type (declarations p) at f) (option_and_then struct_behind (option_map (λ (v : VarDef). v.ty) o))) ≡ true → NoSlot homes x
      → Spelling (name_or_none (option_map (λ (v : VarDef). v.name) o)) × NameIn f (option_and_then (λ (v : VarDef). pointed_fields p v.ty) o)
  field_case x f None is points none = absurd cc
  field_case x f (Some v) is points none = (var_spelled x v is none, type_case f v.ty points)

  has_names : (x : ℕ) (field : Option ℕ) → has is_pointer (freed_type (declarations p) at x field) ≡ true → NoSlot homes x → HasNames p x field
  has_names x None points none = variable_case x (slice_get p.vars x) refl points none
  has_names x (Some f) points none = field_case x f (slice_get p.vars x) refl points none

-- each put of a list
each_named : (p : Program) → ProgramSpelled p → (qs : List Put) → ((k : ℕ) (q : Put) → slice_get qs k ≡ Some q → q.gap < p.gaps → IsFreed p q) → HaveGaps p qs → HaveNames p qs
each_named p spelled [] freed gaps = tt
each_named p spelled (q ∷ qs) freed gaps =
    let parts = and_parts (nat_lt q.gap p.gaps) (list_all (λ (q : Put). nat_lt q.gap p.gaps) qs) gaps in
    let one = freed 0 q refl (ltb-true q.gap p.gaps parts.0) in
    (has_names p spelled one.at q.var q.field one.points one.none, each_named p spelled qs (λ k r is below. freed (suc k) r is below) parts.1)

pub have_names : (bytes : List ℕ) (ts : List Token) (t : Tree) (p : Program) (puts : List Put) → HasTokens bytes ts → IsFile t.tops ts → IsProgram t p → IsWellFormed p → AreInScope p puts → HaveGaps p puts → HaveNames p puts
have_names bytes ts t p puts has_tokens file is well scoped gaps =
    each_named p (program_spelled bytes ts t p has_tokens file is) puts (λ k q here below. put_freed p puts k q well scoped here below) gaps
