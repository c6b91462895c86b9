-- The fields of a struct, where no rule is broken: each is named once, and has a type.
use Rattle.std.proofs.Common.{◌≡◌, ℕ, zero, suc, ◌<◌, ◌≤◌, Bool, true, false, List, [], ◌∷◌, ◌++◌, map, slice_get, Option, Some, None, option_map, refl, sym, ap, subst, ◌∙◌, arith}
use Rattle.std.specs.Prelude.{if◌then◌else◌}
use Rattle.std.specs.List.{fold}
use Rattle.std.specs.Cmp.Lexicographic.{bytes_decides, nat_list_eq_equiv}
use Rattle.std.proofs.lemmas.Bool.{ltb-true}
use Rattle.std.proofs.lemmas.Option.{slice_get-map}
use Rattle.c_tree.specs.Typing.{is_behind}
use Rattle.c_tree.specs.declared.program.FieldDef.{FieldDef}
use Rattle.c_tree.specs.declared.program.Program.{Program}
use Rattle.c_tree.specs.declared.program.StructDef.{StructDef}
use Rattle.c_tree.specs.declared.program.VarDef.{VarDef}
use Rattle.c_tree.specs.declared.tree.Spec.{Spec}
use Rattle.c_tree.specs.declared.tree.Word.{Word}
use Rattle.c_types.specs.declared.scope.StructRow.{StructRow}
use Rattle.c_types.specs.declared.scope.Walk.{Walk}
use Rattle.c_types.specs.declared.scope.Written.{Written}
use Rattle.c_types.specs.declared.scope.Written.TheVariants.{Good, Bad}
use Rattle.c_types.specs.Program.{field_def, struct_def}
use Rattle.c_types.specs.Scopes.{noted, or_int, spec_type, type_faults, with_scope}
use Rattle.c_types.specs.Structs.{Fields, field_more, field_named, field_turn, walked_field}
use Rattle.c_types.specs.Tables.{found, place_of, same_name}
use Rattle.c_types.proofs.Numbering.{first_empty}
use Rattle.c_types.proofs.NumberingCalls.{second_empty}
use Rattle.c_types.proofs.Passing.{fields_grow, no_home}
use Rattle.source_patcher.proofs.FileAdds.{Adds, Came}
use Rattle.source_patcher.proofs.Sights.{HasRow, HasRows}

abbrev pub AreFields : Fields → Type 0
AreFields [] = Unit {0}
AreFields (r ∷ rows) = (found rows r.0 ≡ None) × (type_faults r.1 ≡ []) × AreFields rows

-- a field more

found_behind : (rows : Fields) (m n : List ℕ) (t : Written) → found rows m ≡ None → same_name m n ≡ false → found (rows ++ (n, t) ∷ []) m ≡ None
found_behind [] m n t none other = ap (λ (b : Bool). if b then Some t else None) other
found_behind (r ∷ rows) m n t none other = by_head (same_name m r.0) none (found_behind rows m n t)
  where
    by_head : (b : Bool) → (if b then Some r.1 else found rows m) ≡ None → (found rows m ≡ None → same_name m n ≡ false → found (rows ++ (n, t) ∷ []) m ≡ None) → (if b then Some r.1 else found (rows ++ (n, t) ∷ []) m) ≡ None
    by_head true none rest = absurd cc
    by_head false none rest = rest none other

more_fields : (rows : Fields) (n : List ℕ) (t : Written) → AreFields rows → found rows n ≡ None → type_faults t ≡ [] → AreFields (rows ++ (n, t) ∷ [])
more_fields [] n t are none good = (refl, good, tt)
more_fields (r ∷ rows) n t are none good = by_head (same_name n r.0) refl none (more_fields rows n t are.2)
  where
    by_head : (b : Bool) → same_name n r.0 ≡ b → (if b then Some r.1 else found rows n) ≡ None → (found rows n ≡ None → type_faults t ≡ [] → AreFields (rows ++ (n, t) ∷ [])) → AreFields (r ∷ rows ++ (n, t) ∷ [])
    by_head true same none rest = absurd cc
    by_head false other none rest =
        (found_behind rows r.0 n t are.0 (nat_list_eq_equiv.symm r.0 n ∙ other), are.1, rest none good)

older_fields : (n : Word) (t : Written) (rows : Fields) (o : Option Written) (w : Walk) → found rows n.text ≡ o → AreFields rows → type_faults t ≡ [] → (field_more n t rows o w).0.faults ≡ [] → AreFields (field_more n t rows o w).1
older_fields n t rows None w is are good clean = more_fields rows n.text t are is good
older_fields n t rows (Some older) w is are good clean =
    let no = second_empty w.faults _ clean in
    absurd cc

named_fields : (d : Spec) (t : Written) (rows : Fields) (o : Option Word) (w : Walk) → AreFields rows → type_faults t ≡ [] → (field_named d t rows o w).0.faults ≡ [] → AreFields (field_named d t rows o w).1
named_fields d t rows None w are good clean =
    let no = second_empty w.faults _ clean in
    absurd cc
named_fields d t rows (Some n) w are good clean = older_fields n t rows (found rows n.text) w refl are good clean

more_clean : (n : Word) (t : Written) (rows : Fields) (o : Option Written) (w : Walk) → (field_more n t rows o w).0.faults ≡ [] → w.faults ≡ []
more_clean n t rows None w clean = clean
more_clean n t rows (Some older) w clean = first_empty w.faults _ clean

named_clean : (d : Spec) (t : Written) (rows : Fields) (o : Option Word) (w : Walk) → (field_named d t rows o w).0.faults ≡ [] → w.faults ≡ []
named_clean d t rows None w clean = first_empty w.faults _ clean
named_clean d t rows (Some n) w clean = more_clean n t rows (found rows n.text) w clean

one_field : (d : Spec) (rows : Fields) (w : Walk) → AreFields rows → (walked_field d rows w).0.faults ≡ [] → AreFields (walked_field d rows w).1
one_field d rows w are clean =
    let r = spec_type d w.scope in
    let v = noted (type_faults r.1) (with_scope w r.0) in
    named_fields d r.1 rows d.name v are (second_empty w.faults (type_faults r.1) (named_clean d r.1 rows d.name v clean)) clean

pub fields_are : (ds : List Spec) (r : Walk × Fields) → AreFields r.1 → (fold field_turn r ds).0.faults ≡ [] → AreFields (fold field_turn r ds).1
fields_are [] r are clean = are
fields_are (d ∷ ds) r are clean =
    let next = walked_field d r.1 r.0 in
    fields_are ds next (one_field d r.1 r.0 are ((fields_grow no_home ds next).clean clean)) clean

-- a field by its place, and by its name

is_good : (t : Written) → type_faults t ≡ [] → t ≡ Good (or_int t)
is_good (Good t) none = refl
is_good (Bad f) none = absurd cc

-- what a field's name leads to
record Leads (rows : Fields) (k : ℕ) (r : List ℕ × Written) : Type 0 where
  place : place_of rows r.0 ≡ Some k
  type : found rows r.0 ≡ Some (Good (or_int r.1))

first_leads : (q r : List ℕ × Written) (rows : Fields) → type_faults q.1 ≡ [] → q ≡ r → Leads (q ∷ rows) 0 r
first_leads q r rows good same = subst (Leads (q ∷ rows) 0) same (record {
  place = ap (λ (b : Bool). if b then Some 0 else option_map suc (place_of rows q.0)) ((bytes_decides q.0 q.0).1 refl);
  type = ap (λ (b : Bool). if b then Some q.1 else found rows q.0) ((bytes_decides q.0 q.0).1 refl) ∙ ap Some (is_good q.1 good);
})

later_leads : (q r : List ℕ × Written) (rows : Fields) (k : ℕ) → found rows q.0 ≡ None → Leads rows k r → Leads (q ∷ rows) (suc k) r
later_leads q r rows k none l = by_head (same_name r.0 q.0) refl
  where
    by_head : (b : Bool) → same_name r.0 q.0 ≡ b → Leads (q ∷ rows) (suc k) r
    by_head true same =
        let name : r.0 ≡ q.0 = (bytes_decides r.0 q.0).0 same in
        let two : None ≡ Some (Good (or_int r.1)) = sym none ∙ ap (found rows) (sym name) ∙ l.type in
        absurd cc
    by_head false other = record {
      place = ap (λ (b : Bool). if b then Some 0 else option_map suc (place_of rows r.0)) other ∙ ap (option_map suc) l.place;
      type = ap (λ (b : Bool). if b then Some q.1 else found rows r.0) other ∙ l.type;
    }

leads : (rows : Fields) → AreFields rows → (k : ℕ) (r : List ℕ × Written) → slice_get rows k ≡ Some r → Leads rows k r
leads [] are k r is = absurd cc
leads (q ∷ rows) are zero r is = let same : q ≡ r = cc in first_leads q r rows are.1 same
leads (q ∷ rows) are (suc k) r is = later_leads q r rows k are.0 (leads rows are.2 k r is)

-- a field of the program's struct
record LeadsField (rows : Fields) (k : ℕ) (f : FieldDef) : Type 0 where
  place : place_of rows f.name ≡ Some k
  type : found rows f.name ≡ Some (Good f.ty)

field_leads : (rows : Fields) → AreFields rows → (k : ℕ) (f : FieldDef) → slice_get (map field_def rows) k ≡ Some f → LeadsField rows k f
field_leads rows are k f is = by_row (slice_get rows k) refl (sym (slice_get-map field_def rows k) ∙ is)
  where
    by_row : (o : Option (List ℕ × Written)) → slice_get rows k ≡ o → option_map field_def o ≡ Some f → LeadsField rows k f
    by_row None get is = absurd cc
    by_row (Some r) get is =
        let same : field_def r ≡ f = cc in
        let l = leads rows are k r get in
        subst (LeadsField rows k) same (record { place = l.place; type = l.type })

-- structs

-- the fields of each struct whose body has come
abbrev pub HaveFields : Walk → Type 0
HaveFields w = (s : ℕ) (row : StructRow) (b : ℕ) → slice_get w.scope.structs s ≡ Some row → row.body ≡ Some b → AreFields row.fields

abbrev pub HasFields : StructRow → ℕ → Type 0
HasFields row b = AreFields row.fields

came_fields : (w : Walk) → HaveFields w → (s : ℕ) (row : StructRow) (b : ℕ) → row.body ≡ Some b → Came HasFields (slice_get w.scope.structs s) row b → AreFields row.fields
came_fields w have s row b body (Came.before is) = have s row b is body
came_fields w have s row b body (Came.new are) = are

pub fields_on : (L : VarDef → Bool) (w u : Walk) → Adds L HasFields w u → HaveFields w → HaveFields u
fields_on L w u a have s row b is body = came_fields w have s row b body (a.bodies s row b is body)

has_row : (w : Walk) (s : ℕ) (row : StructRow) (c : StructDef) → slice_get w.scope.structs s ≡ Some row → AreFields row.fields → struct_def row ≡ c → HasRow w s c
has_row w s row c is are makes = subst (HasRow w s) makes (record {
  row = row;
  is = is;
  makes = refl;
  places = λ k f get. (field_leads row.fields are k f get).place;
  types = λ k f get. (field_leads row.fields are k f get).type;
})

-- a body that stands before an offset was there before those behind it came
was_before : (from b : ℕ) (o : Option StructRow) (row : StructRow) → b < from → Came (λ row b. from ≤ b) o row b → o ≡ Some row
was_before from b o row less (Came.before is) = is
was_before from b o row less (Came.new on) = absurd (omega (arith, less, on))

-- at a place of a file the structs of its program whose bodies stand before are there
pub rows_here : (p : Program) (at from : ℕ) (L : VarDef → Bool) (w end : Walk) → p.structs ≡ map struct_def end.scope.structs → at < from → Adds L (λ row b. from ≤ b) w end → HaveFields w → HasRows p at w
rows_here p at from L w end made before a have s c get behind =
    by_row (slice_get end.scope.structs s) refl (sym (slice_get-map struct_def end.scope.structs s) ∙ ap (λ (cs : List StructDef). slice_get cs s) (sym made) ∙ get)
  where
    by_body : (row : StructRow) (o : Option ℕ) → row.body ≡ o → slice_get end.scope.structs s ≡ Some row → struct_def row ≡ c → is_behind at o ≡ true → HasRow w s c
    by_body row None has is makes behind = absurd cc
    by_body row (Some b) has is makes behind =
        let less : b < at = ltb-true b at behind in
        let here = was_before from b (slice_get w.scope.structs s) row (omega (arith, less, before)) (a.bodies s row b is has) in
        has_row w s row c here (have s row b here has) makes

    by_row : (o : Option StructRow) → slice_get end.scope.structs s ≡ o → option_map struct_def o ≡ Some c → HasRow w s c
    by_row None is makes = absurd cc
    by_row (Some row) is makes =
        let same : struct_def row ≡ c = cc in
        by_body row row.body refl is same (ap (λ (x : StructDef). is_behind at x.body) same ∙ behind)
