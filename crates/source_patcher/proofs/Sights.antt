-- What is visible at a place of a text: variables that their names stand for, and structs with bodies; and what a walk that breaks no
-- rule adds to them.
use Rattle.std.proofs.Common.{◌≡◌, ℕ, Bool, true, false, ◌&&◌, List, [], ◌∷◌, ◌++◌, length, map, flat_map, slice_get, Option, Some, None, refl, sym, ap, subst, ◌∙◌, append-nil, append_assoc}
use Rattle.std.specs.Prelude.{if◌then◌else◌}
use Rattle.std.proofs.lemmas.Bool.{eq-eqb}
use Rattle.c_tree.specs.Numbers.{start_locals}
use Rattle.c_tree.specs.Typing.{is_behind}
use Rattle.c_tree.specs.declared.program.Declr.{Declr as MadeDeclr}
use Rattle.c_tree.specs.declared.program.FieldDef.{FieldDef}
use Rattle.c_tree.specs.declared.program.Home.{Home}
use Rattle.c_tree.specs.declared.program.Home.TheVariants as home
use Rattle.c_tree.specs.declared.program.Program.{Program}
use Rattle.c_tree.specs.declared.program.StructDef.{StructDef}
use Rattle.c_tree.specs.declared.program.VarDef.{VarDef}
use Rattle.c_tree.specs.declared.tree.Declr.{Declr}
use Rattle.c_tree.specs.declared.tree.ForHead.{ForHead}
use Rattle.c_tree.specs.declared.tree.Spec.{Spec}
use Rattle.c_tree.specs.declared.tree.Start.{Start}
use Rattle.c_tree.specs.declared.tree.Start.TheVariants as start
use Rattle.c_tree.specs.declared.tree.Word.{Word}
use Rattle.c_types.specs.declared.scope.Entry.{Entry}
use Rattle.c_types.specs.declared.scope.Meaning.TheVariants as meaning
use Rattle.c_types.specs.declared.scope.Nesting.{Nesting}
use Rattle.c_types.specs.declared.scope.StructRow.{StructRow}
use Rattle.c_types.specs.declared.scope.Walk.{Walk}
use Rattle.c_types.specs.declared.scope.Written.{Written}
use Rattle.c_types.specs.declared.scope.Written.TheVariants.{Good, Bad}
use Rattle.c_types.specs.Blocks.{walked_head, walked_start, walked_test}
use Rattle.c_types.specs.InTurn.{each, optional}
use Rattle.c_types.specs.Program.{struct_def}
use Rattle.c_types.specs.Scopes.{declared, named_by, named_if, noted, or_int, spec_type, text_or_none, type_faults, var_of, variable_meaning, with_scope, with_var}
use Rattle.c_types.specs.Statements.{walked_declr, walked_simple}
use Rattle.c_types.specs.Tables.{found, place_of, same_name}
use Rattle.c_types.proofs.Growing.{any_grows, declared_grows, declr_grows, each_grows, initial_grows, simple_grows, start_grows, test_grows}
use Rattle.c_types.proofs.Numbering.{first_empty}
use Rattle.c_types.proofs.NumberingCalls.{second_empty}
use Rattle.c_types.proofs.Rows.{get_first, get_last, found_first}
use Rattle.c_types.proofs.Standing.{Grows, grows_both}

-- a variable by its number, for which its name stands
pub record Shown (w : Walk) (x : ℕ) : Type 0 where
  pub var : VarDef
  pub is : slice_get w.vars x ≡ Some var
  pub entry : Entry
  pub finds : found w.scope.names var.name ≡ Some entry
  pub means : entry.meaning ≡ meaning.Variable x var.ty

abbrev pub AllShown : Walk → List ℕ → Type 0
AllShown w [] = Unit {0}
AllShown w (x ∷ xs) = Shown w x × AllShown w xs

-- a struct with a body, whose fields have names that stand for them
pub record HasRow (w : Walk) (s : ℕ) (c : StructDef) : Type 0 where
  pub row : StructRow
  pub is : slice_get w.scope.structs s ≡ Some row
  pub makes : c ≡ struct_def row
  pub places : (k : ℕ) (f : FieldDef) → slice_get c.fields k ≡ Some f → place_of row.fields f.name ≡ Some k
  pub types : (k : ℕ) (f : FieldDef) → slice_get c.fields k ≡ Some f → found row.fields f.name ≡ Some (Good f.ty)

-- the structs of a program whose bodies stand before an offset
abbrev pub HasRows : Program → ℕ → Walk → Type 0
HasRows p at w = (s : ℕ) (c : StructDef) → slice_get p.structs s ≡ Some c → is_behind at c.body ≡ true → HasRow w s c

-- from one walk to a later one

pub shown_on : (h : Home) (w u : Walk) → Grows h w u → (x : ℕ) → Shown w x → Shown u x
shown_on h w u g x s = record {
  var = s.var;
  is = ap (λ (vs : List VarDef). slice_get vs x) g.vars ∙ get_first w.vars g.more_vars x s.var s.is;
  entry = s.entry;
  finds = ap (λ (rows : List (List ℕ × Entry)). found rows s.var.name) g.names ∙ found_first w.scope.names g.more_names s.var.name s.entry s.finds;
  means = s.means;
}

pub all_shown_on : (h : Home) (w u : Walk) → Grows h w u → (xs : List ℕ) → AllShown w xs → AllShown u xs
all_shown_on h w u g [] all = tt
all_shown_on h w u g (x ∷ xs) all = (shown_on h w u g x all.0, all_shown_on h w u g xs all.1)

pub rows_on : (p : Program) (at : ℕ) (h : Home) (w u : Walk) → Grows h w u → HasRows p at w → HasRows p at u
rows_on p at h w u g rows s c is behind =
    let r = rows s c is behind in
    record {
      row = r.row;
      is = ap (λ (rs : List StructRow). slice_get rs s) g.structs ∙ get_first w.scope.structs g.more_structs s r.row r.is;
      makes = r.makes;
      places = r.places;
      types = r.types;
    }

pub shown_both : (w : Walk) (xs ys : List ℕ) → AllShown w xs → AllShown w ys → AllShown w (xs ++ ys)
shown_both w [] ys all more = more
shown_both w (x ∷ xs) ys all more = (all.0, shown_both w xs ys all.1 more)

-- a variable more

same_itself : (n : List ℕ) → same_name n n ≡ true
same_itself [] = refl
same_itself (b ∷ n) = ap (λ (t : Bool). t && same_name n n) (eq-eqb b b refl) ∙ same_itself n

found_new : {A : Type 0} (rows : List (List ℕ × A)) (n : List ℕ) (e : A) → found rows n ≡ None → found (rows ++ (n, e) ∷ []) n ≡ Some e
found_new [] n e none = ap (λ (b : Bool). if b then Some e else None) (same_itself n)
found_new {A} (r ∷ rows) n e none = by_head (same_name n r.0) none (found_new rows n e)
  where
    by_head : (b : Bool) → (if b then Some r.1 else found rows n) ≡ None → (found rows n ≡ None → found (rows ++ (n, e) ∷ []) n ≡ Some e) → (if b then Some r.1 else found (rows ++ (n, e) ∷ []) n) ≡ Some e
    by_head true none rest = absurd cc
    by_head false none rest = rest none

good_meaning : (k : ℕ) (t : Written) → type_faults t ≡ [] → variable_meaning k t ≡ meaning.Variable k (or_int t)
good_meaning k (Good t) none = refl
good_meaning k (Bad f) none = absurd cc

older_shown : (d : Spec) (t : Written) (h : Home) (depth k : ℕ) (c : Walk) (n : Word) (q : Option Entry) → d.name ≡ Some n → found c.scope.names n.text ≡ q → type_faults t ≡ []
    → slice_get c.vars k ≡ Some (var_of d t h) → (named_by n (record { meaning = variable_meaning k t; depth = depth }) c q).faults ≡ [] → Shown (named_by n (record { meaning = variable_meaning k t; depth = depth }) c q) k
older_shown d t h depth k c n None name none good is clean =
    let e : Entry = record { meaning = variable_meaning k t; depth = depth } in
    let text : (var_of d t h).name ≡ n.text = ap (λ (o : Option Word). text_or_none o) name in
    record {
      var = var_of d t h;
      is = is;
      entry = e;
      finds = ap (λ (m : List ℕ). found (c.scope.names ++ (n.text, e) ∷ []) m) text ∙ found_new c.scope.names n.text e none;
      means = good_meaning k t good;
    }
older_shown d t h depth k c n (Some older) name none good is clean =
    let more = second_empty c.faults _ clean in
    absurd cc

newest_shown : (d : Spec) (t : Written) (h : Home) (depth k : ℕ) (c : Walk) (o : Option Word) → d.name ≡ o → type_faults t ≡ [] → slice_get c.vars k ≡ Some (var_of d t h)
    → (named_if d (record { meaning = variable_meaning k t; depth = depth }) c o).faults ≡ [] → Shown (named_if d (record { meaning = variable_meaning k t; depth = depth }) c o) k
newest_shown d t h depth k c None name good is clean =
    let more = second_empty c.faults _ clean in
    absurd cc
newest_shown d t h depth k c (Some n) name good is clean = older_shown d t h depth k c n (found c.scope.names n.text) name refl good is clean

older_clean : (n : Word) (e : Entry) (w : Walk) (o : Option Entry) → (named_by n e w o).faults ≡ [] → w.faults ≡ []
older_clean n e w None clean = clean
older_clean n e w (Some older) clean = first_empty w.faults _ clean

named_clean : (d : Spec) (e : Entry) (w : Walk) (o : Option Word) → (named_if d e w o).faults ≡ [] → w.faults ≡ []
named_clean d e w None clean = first_empty w.faults _ clean
named_clean d e w (Some n) clean = older_clean n e w (found w.scope.names n.text) clean

pub declared_shown : (d : Spec) (h : Home) (depth : ℕ) (w : Walk) → (declared d h depth w).0.faults ≡ [] → Shown (declared d h depth w).0 (length w.vars)
declared_shown d h depth w clean =
    let r = spec_type d w.scope in
    let k = length w.vars in
    let v = with_var (var_of d r.1 h) (with_scope w r.0) in
    let c = noted (type_faults r.1) v in
    let e : Entry = record { meaning = variable_meaning k r.1; depth = depth } in
    let good = second_empty w.faults (type_faults r.1) (named_clean d e c d.name clean) in
    newest_shown d r.1 h depth k c d.name refl good (get_last w.vars (var_of d r.1 h)) clean

pub declared_all : (d : Spec) (h : Home) (depth : ℕ) (w : Walk) (seen : List ℕ) → AllShown w seen → (declared d h depth w).0.faults ≡ [] → AllShown (declared d h depth w).0 (seen ++ length w.vars ∷ [])
declared_all d h depth w seen all clean =
    let u = (declared d h depth w).0 in
    shown_both u seen (length w.vars ∷ []) (all_shown_on h w u (declared_grows d h depth w) seen all) (declared_shown d h depth w clean, tt)

declr_all : (n : Nesting) (d : Declr) (w : Walk) (seen : List ℕ) → AllShown w seen → (walked_declr n d w).0.faults ≡ [] → AllShown (walked_declr n d w).0 (seen ++ length w.vars ∷ [])
declr_all n d w seen all clean =
    let h = home.Local n.function in
    let v = declared d.spec h n.depth w in
    let g = initial_grows h v.1 d.at d.right v.0 in
    all_shown_on h v.0 (walked_declr n d w).0 g (seen ++ length w.vars ∷ []) (declared_all d.spec h n.depth w seen all (g.clean clean))

pub declrs_all : (n : Nesting) (ds : List Declr) (w : Walk) (seen : List ℕ) → AllShown w seen → (each (walked_declr n) ds w).0.faults ≡ []
    → AllShown (each (walked_declr n) ds w).0 (seen ++ map (λ (d : MadeDeclr). d.var) (each (walked_declr n) ds w).1)
declrs_all n [] w seen all clean = subst (AllShown w) (sym (append-nil seen)) all
declrs_all n (d ∷ ds) w seen all clean =
    let v = (walked_declr n d w).0 in
    let r = each (walked_declr n) ds v in
    let here = (each_grows (home.Local n.function) (walked_declr n) (declr_grows n) ds v).clean clean in
    subst (AllShown r.0) (append_assoc seen (length w.vars ∷ []) (map (λ (d : MadeDeclr). d.var) r.1)) (declrs_all n ds v (seen ++ length w.vars ∷ []) (declr_all n d w seen all here) clean)

-- what stands before the first `;` of a `for`

start_all : (n : Nesting) (s : Start) (w : Walk) (seen : List ℕ) → AllShown w seen → (walked_start n s w).0.faults ≡ [] → AllShown (walked_start n s w).0 (seen ++ start_locals (walked_start n s w).1)
start_all n (start.Declare d) w seen all clean = declr_all n d w seen all clean
start_all n (start.Assign s) w seen all clean =
    let h = home.Local n.function in
    let u = (walked_simple s w).0 in
    subst (AllShown u) (sym (append-nil seen)) (all_shown_on h w u (simple_grows h s w) seen all)

starts_all : (n : Nesting) (ss : List Start) (w : Walk) (seen : List ℕ) → AllShown w seen → (each (walked_start n) ss w).0.faults ≡ []
    → AllShown (each (walked_start n) ss w).0 (seen ++ flat_map start_locals (each (walked_start n) ss w).1)
starts_all n [] w seen all clean = subst (AllShown w) (sym (append-nil seen)) all
starts_all n (s ∷ ss) w seen all clean =
    let v = walked_start n s w in
    let r = each (walked_start n) ss v.0 in
    let here = (each_grows (home.Local n.function) (walked_start n) (start_grows n) ss v.0).clean clean in
    subst (AllShown r.0) (append_assoc seen (start_locals v.1) (flat_map start_locals r.1)) (starts_all n ss v.0 (seen ++ start_locals v.1) (start_all n s w seen all here) clean)

pub head_all : (n : Nesting) (x : ForHead) (w : Walk) (seen : List ℕ) → AllShown w seen → (walked_head n x w).0.faults ≡ [] → AllShown (walked_head n x w).0 (seen ++ flat_map start_locals (walked_head n x w).1.start)
head_all n x w seen all clean =
    let h = home.Local n.function in
    let r = each (walked_start n) x.start w in
    let t = optional walked_test x.test r.0 in
    let s = optional walked_simple x.step t.0 in
    let g = grows_both h r.0 t.0 s.0 (any_grows h walked_test (test_grows h) x.test r.0) (any_grows h walked_simple (simple_grows h) x.step t.0) in
    all_shown_on h r.0 s.0 g (seen ++ flat_map start_locals r.1) (starts_all n x.start w seen all (g.clean clean))
