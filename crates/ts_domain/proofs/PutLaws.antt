-- Puts of gaps in turn, the rows that they are looked up in, and the first count that passes its limit.
use Rattle.std.proofs.Common.{◌≡◌, ℕ, zero, suc, ◌+◌, ◌==◌, ◌<◌, ◌≤◌, Bool, true, false, List, [], ◌∷◌, ◌++◌, drop, length, map, flat_map, slice_get, Option, option_map, Some, None, if◌then◌else◌, ◌⊎◌, inl, inr, refl, ap, sym, ◌∙◌, arith, append_assoc}
use Rattle.std.specs.Prelude.{nat_lt, unwrap_or}
use Rattle.std.specs.List.{range_with_len}
use Rattle.std.specs.Option.{option_and_then}
use Rattle.std.proofs.lemmas.Bool.{cases_lt, false_from_ne_true, lt-ltb, ltb-true}
use Rattle.std.proofs.lemmas.Grind.{flat_map-append}
use Rattle.std.proofs.lemmas.List.{length-append, map-append}
use Rattle.c_tree.specs.Typing.{is_behind}
use Rattle.c_tree.specs.declared.choice.Put.{Put}
use Rattle.c_tree.specs.declared.limits.Limit.TheVariants as limit
use Rattle.c_tree.specs.declared.program.Program.{Program}
use Rattle.c_tree.specs.declared.program.StructDef.{StructDef}
use Rattle.c_tree.specs.declared.program.VarDef.{VarDef}
use Rattle.c_graph.specs.Executes.{function_of}
use Rattle.c_graph.specs.declared.graph.Graph.{Graph}
use Rattle.c_graph.specs.declared.graph.Node.{Node}
use Rattle.c_scopes.specs.ScopeAt.{GapScope, scopes}
use Rattle.c_scopes.specs.Turns.{narrowed, row_at, rows_from, turned}
use Rattle.c_scopes.specs.declared.in_scope.InScope.{InScope}
use Rattle.c_scopes.specs.declared.walk.Turn.{Turn}
use Rattle.ts_domain.specs.Numbering.{paired_from, type_fields, var_fields}
use Rattle.ts_domain.specs.Puts.{any_puts, body_of, called_by, context_in, field_puts, field_rows, fields_at, fields_by, function_in, gap_key, gap_offset, gap_puts, has_any, is_reached, known_in, name_offset, no_pointers, offset_in, passed, puts_in, puts_of, reached_by, var_put}
use Rattle.ts_domain.specs.Rows.{AreRows, row}
use Rattle.ts_domain.specs.Tables.{callee_by, entered}
use Rattle.ts_domain.specs.declared.names.Names.{Names}
use Rattle.ts_domain.specs.declared.puts.Lookups.{Lookups}
use Rattle.ts_domain.proofs.Arguments.{drop_some}
use Rattle.ts_domain.proofs.RowLaws.{range_last}
use Rattle.ts_domain.proofs.TableLaws.{functions_are}

-- one turn more
pub puts_more : (reached : ℕ → Bool) (fields : ℕ → ℕ → List ℕ) (s : InScope) (t : Turn) (ts : List Turn) (puts more all : List Put) → more ≡ puts ++ puts_in reached fields (row_at t s)
    → puts ++ puts_in reached fields (rows_from s (t ∷ ts)) ≡ all → more ++ puts_in reached fields (rows_from (turned t s) ts) ≡ all
puts_more reached fields s t ts puts more all p is =
    ap (λ (ps : List Put). ps ++ puts_in reached fields (rows_from (turned t s) ts)) p
    ∙ append_assoc puts (puts_in reached fields (row_at t s)) (puts_in reached fields (rows_from (turned t s) ts))
    ∙ ap (λ (ps : List Put). puts ++ ps) (sym (flat_map-append (gap_puts reached fields) (row_at t s) (rows_from (turned t s) ts)))
    ∙ is

-- where a front is too long, the whole is
pub too_many : {A : Type 0} (most : ℕ) (front rest all : List A) → front ++ rest ≡ all → most < length front → most < length all
too_many most front rest all is past =
    let long : length (front ++ rest) ≡ length front + length rest = length-append front rest in
    let same : length (front ++ rest) ≡ length all = ap length is in
    omega arith

-- rows for all numbers

pub ranged : {A : Type 0} (f : ℕ → A) (i : ℕ) → map f (range_with_len 0 (i + 1)) ≡ map f (range_with_len 0 i) ++ f i ∷ []
ranged f i =
    let on : i + 1 ≡ suc i = omega arith in
    ap (λ (n : ℕ). map f (range_with_len 0 n)) on ∙ ap (map f) (range_last 0 i i (omega arith)) ∙ map-append f (range_with_len 0 i) (i ∷ [])

row_in : (f : ℕ → List ℕ) (a n x : ℕ) → x < n → row (map f (range_with_len a n)) x ≡ f (a + x)
row_in f a zero x below = absurd (omega arith)
row_in f a (suc n) zero below = let e : a ≡ a + 0 = omega arith in ap f e
row_in f a (suc n) (suc x) below = let e : a + 1 + x ≡ a + suc x = omega arith in row_in f (a + 1) n x (omega arith) ∙ ap f e

row_out : (f : ℕ → List ℕ) (a n x : ℕ) → n ≤ x → row (map f (range_with_len a n)) x ≡ []
row_out f a zero x past = no_row x
  where
    no_row : (x : ℕ) → row [] x ≡ []
    no_row zero = refl
    no_row (suc x) = refl
row_out f a (suc n) zero past = absurd (omega arith)
row_out f a (suc n) (suc x) past = row_out f (a + 1) n x (omega arith)

none_there : {A : Type 0} (xs : List A) (i : ℕ) → length xs ≤ i → slice_get xs i ≡ None
none_there [] zero past = refl
none_there [] (suc i) past = refl
none_there (x ∷ xs) zero past = absurd (omega arith)
none_there (x ∷ xs) (suc i) past = none_there xs i (omega arith)

-- a variable's row has its fields
pub field_row : (structs : List StructDef) (decls : List VarDef) (x : ℕ) → row (field_rows structs decls) x ≡ var_fields structs decls x
field_row structs decls x = cases (cases_lt x (length decls))
  where
    cases : (x < length decls) ⊎ (length decls ≤ x) → row (field_rows structs decls) x ≡ var_fields structs decls x
    cases (inl below) = let e : 0 + x ≡ x = omega arith in row_in (var_fields structs decls) 0 (length decls) x below ∙ ap (var_fields structs decls) e
    cases (inr past) =
        row_out (var_fields structs decls) 0 (length decls) x past
        ∙ sym (ap (λ (o : Option VarDef). type_fields structs (option_map (λ (v : VarDef). v.ty) o)) (none_there decls x past))

-- look-ups that give the same

fields_same : (f g : ℕ → List ℕ) → ((x : ℕ) → f x ≡ g x) → (gap : ℕ) (xs : List ℕ) → flat_map (λ x. field_puts gap x (f x)) xs ≡ flat_map (λ x. field_puts gap x (g x)) xs
fields_same f g same gap [] = refl
fields_same f g same gap (x ∷ xs) =
    ap (λ (fs : List ℕ). field_puts gap x fs ++ flat_map (λ y. field_puts gap y (f y)) xs) (same x) ∙ ap (λ (ps : List Put). field_puts gap x (g x) ++ ps) (fields_same f g same gap xs)

pub puts_same : (r q : ℕ → Bool) (f g : ℕ → ℕ → List ℕ) → ((n : ℕ) → r n ≡ q n) → ((n x : ℕ) → f n x ≡ g n x) → (rows : List GapScope) → puts_in r f rows ≡ puts_in q g rows
puts_same r q f g reached fields [] = refl
puts_same r q f g reached fields (row ∷ rows) =
    ap (λ (b : Bool). (if b then any_puts (f row.gap) row.gap row.vars else []) ++ puts_in r f rows) (reached row.gap)
    ∙ ap (λ (ps : List Put). (if q row.gap then ps ++ map (var_put row.gap) row.vars else []) ++ puts_in r f rows) (fields_same (f row.gap) (g row.gap) (fields row.gap) row.gap row.vars)
    ∙ ap (λ (ps : List Put). gap_puts q g row ++ ps) (puts_same r q f g reached fields rows)

-- the function of a context by look-ups of what is called into each
function_same : (called more : ℕ → Option ℕ) → ((k : ℕ) → called k ≡ more k) → (p : Program) (context : Option ℕ) → option_and_then (function_in called p) context ≡ option_and_then (function_in more p) context
function_same called more same p None = refl
function_same called more same p (Some k) = ap (λ (f : Option ℕ). if k == 0 then Some p.main else f) (same k)

offset_same : (called more : ℕ → Option ℕ) → ((k : ℕ) → called k ≡ more k) → (g : Graph) (p : Program) (nodes : List ℕ) → offset_in called g p nodes ≡ offset_in more g p nodes
offset_same called more same g p nodes = ap (λ (f : Option ℕ). unwrap_or (option_and_then (name_offset p) f) 0) (function_same called more same p (context_in g nodes))

-- which count passes its limit first

past : (m n : ℕ) → m < n → nat_lt m n ≡ true
past m n h = lt-ltb m n h

not_past : (m n : ℕ) → n ≤ m → nat_lt m n ≡ false
not_past m n h = false_from_ne_true (nat_lt m n) (λ e. let less : m < n = ltb-true m n e in omega arith)

pub variables_pass : (n : Names) → 256 < length n.vars → passed n ≡ Some limit.Variables
variables_pass n h = rw (past 256 (length n.vars) h) refl

pub expressions_pass : (n : Names) → length n.vars ≤ 256 → 1024 < length n.vars + length n.fields → passed n ≡ Some limit.Expressions
expressions_pass n within h = rw (not_past 256 (length n.vars) within, past 1024 (length n.vars + length n.fields) h) refl

pub sites_pass : (n : Names) → length n.vars ≤ 256 → length n.vars + length n.fields ≤ 1024 → 1024 < length n.sites → passed n ≡ Some limit.Sites
sites_pass n within also h = rw (not_past 256 (length n.vars) within, not_past 1024 (length n.vars + length n.fields) also, past 1024 (length n.sites) h) refl

pub puts_pass : (n : Names) → length n.vars ≤ 256 → length n.vars + length n.fields ≤ 1024 → length n.sites ≤ 1024 → 8192 < length n.puts → passed n ≡ Some limit.Frees
puts_pass n within also third h = rw (not_past 256 (length n.vars) within, not_past 1024 (length n.vars + length n.fields) also, not_past 1024 (length n.sites) third, past 8192 (length n.puts) h) refl

pub none_pass : (n : Names) → length n.vars ≤ 256 → length n.vars + length n.fields ≤ 1024 → length n.sites ≤ 1024 → length n.puts ≤ 8192 → passed n ≡ None
none_pass n within also third fourth = rw (not_past 256 (length n.vars) within, not_past 1024 (length n.vars + length n.fields) also, not_past 1024 (length n.sites) third, not_past 8192 (length n.puts) fourth) refl

-- the fields of one variable more
pub pairs_more : (structs : List StructDef) (decls : List VarDef) (vars : List ℕ) (i x : ℕ) (list more all : List (ℕ × ℕ)) → slice_get vars i ≡ Some x
    → more ≡ list ++ map (λ f. (i, f)) (var_fields structs decls x) → list ++ paired_from structs decls i (drop i vars) ≡ all → more ++ paired_from structs decls (i + 1) (drop (i + 1) vars) ≡ all
pairs_more structs decls vars i x list more all here p is =
    let fields : List (ℕ × ℕ) = map (λ f. (i, f)) (var_fields structs decls x) in
    let rest : List (ℕ × ℕ) = paired_from structs decls (i + 1) (drop (i + 1) vars) in
    ap (λ (xs : List (ℕ × ℕ)). xs ++ rest) p ∙ append_assoc list fields rest ∙ ap (λ (xs : List (ℕ × ℕ)). list ++ xs) (sym (ap (paired_from structs decls i) (drop_some vars i x here))) ∙ is

-- the puts are found in the rows of gaps, of fields and of contexts
pub puts_found : (g : Graph) (p : Program) (l : Lookups) (rows : List GapScope) → AreRows (map (λ (v : Node). gap_key v.kind) g.nodes) l.nodes
    → l.fields ≡ field_rows p.structs p.vars → AreRows (map (entered g) g.edges) l.entering → rows ≡ map (narrowed (no_pointers p.vars)) (scopes p)
    → puts_in (reached_by l) (fields_by g p l) rows ≡ puts_of g p
puts_found g p l rows are is into also =
    puts_same (reached_by l) (is_reached g) (fields_by g p l) (fields_at g p) (λ n. ap has_any (are n)) found rows
    ∙ ap (puts_in (is_reached g) (fields_at g p)) also
  where
    called : (k : ℕ) → called_by g l.entering k ≡ function_of g k
    called k = ap (λ (xs : List ℕ). callee_by g (slice_get xs 0)) (into k) ∙ functions_are g k

    offset : (n : ℕ) → offset_in (called_by g l.entering) g p (row l.nodes n) ≡ gap_offset g p n
    offset n = offset_same (called_by g l.entering) (function_of g) called g p (row l.nodes n) ∙ ap (offset_in (function_of g) g p) (are n)

    found : (n x : ℕ) → fields_by g p l n x ≡ fields_at g p n x
    found n x =
        ap (λ (at : ℕ). known_in p.structs p.vars (row l.fields) at x) (offset n)
        ∙ ap (λ (fs : List ℕ). if is_behind (gap_offset g p n) (body_of p.structs p.vars x) then fs else []) (ap (λ (rs : List (List ℕ)). row rs x) is ∙ field_row p.structs p.vars x)
