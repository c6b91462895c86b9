-- What is well formed stays so where the frees in its gaps alone are changed, as far as the new ones take pointers.
use Rattle.std.proofs.Common.{◌≡◌, ℕ, ◌+◌, Bool, true, false, ◌&&◌, ◌==◌, List, [], ◌∷◌, ◌++◌, map, flat_map, Option, Some, None, refl, ap, sym, subst, ◌∙◌, ◌↔◌}
use Rattle.std.specs.Prelude.{slice_get, not, ◌||◌, if◌then◌else◌}
use Rattle.std.specs.List.{list_all, range_with_len}
use Rattle.std.specs.Option.{is_some}
use Rattle.std.proofs.lemmas.Bool.{and_parts}
use Rattle.std.proofs.lemmas.List.{map-append}
use Rattle.c_tree.specs.Cycles.{IsCyclic}
use Rattle.c_tree.specs.Fill.{regapped_block, regapped_fun, regapped, emptied, skeleton, filled, fill, free_of, puts_at}
use Rattle.c_tree.specs.Flow.{item_flow, arm_flow, block_flow, piece_flow, flow_of, item_jumps, arm_jumps, block_jumps, piece_jumps, jumps_out}
use Rattle.c_tree.specs.Numbers.{Own, result_home, own_of, owns_from, Declares, from_all, Gaps, item_gaps, arm_gaps, block_gaps, piece_gaps, gaps_in, gaps_of, item_locals, arm_locals, block_locals, piece_locals, locals_in}
use Rattle.c_tree.specs.Scopes.{Scope, item_scope, arm_scope, items_scope, piece_scope, block_scope}
use Rattle.c_tree.specs.Typing.{Prototype, Declarations, prototype, declarations, anywhere, has, item_fits, arm_fits, all_items, its_item, block_fits, free_fits, gap_fits}
use Rattle.c_tree.specs.UserCalls.{item_calls, arm_calls, block_calls, piece_calls, calls_in, calls_from, user_calls}
use Rattle.c_tree.specs.WellFormed.{IsWellFormed, FreesFit, PutsFit, each_from, each_function, is_main, struct_fits, variable_fits, result_exists, gives_value, jumps_in_loops}
use Rattle.c_tree.specs.declared.choice.Choice.{Choice}
use Rattle.c_tree.specs.declared.choice.Put.{Put}
use Rattle.c_tree.specs.declared.control.Flow.{Flow}
use Rattle.c_tree.specs.declared.control.UserCall.{UserCall}
use Rattle.c_tree.specs.declared.program.Block.{Block}
use Rattle.c_tree.specs.declared.program.FunDef.{FunDef}
use Rattle.c_tree.specs.declared.program.Gap.{Gap}
use Rattle.c_tree.specs.declared.program.Home.TheVariants as home
use Rattle.c_tree.specs.declared.program.Item.{Item-F}
use Rattle.c_tree.specs.declared.program.Item.TheOpen.{Declare, Assign, Do, Nest, If, While, For, Break, Continue, Return}
use Rattle.c_tree.specs.declared.program.Program.{Program}
use Rattle.c_tree.specs.declared.program.Ty.{Ty}
use Rattle.c_tree.specs.declared.program.VarDef.{VarDef}
use Rattle.c_tree.proofs.Fills.{map_joined}
use Rattle.c_tree.proofs.RegappedFolds.{Algebra, Leads, led_item, fold_led, fold_kept}

-- all that the rules look at, frees aside, is the same
pub record SameOutline (p q : Program) : Type 0 where
  pub declarations : declarations p ≡ declarations q
  pub structs : p.structs ≡ q.structs
  pub vars : p.vars ≡ q.vars
  pub main : p.main ≡ q.main
  pub gap_count : p.gaps ≡ q.gaps
  pub call_count : p.calls ≡ q.calls
  pub owns : owns_from 0 p.funs ≡ owns_from 0 q.funs
  pub gaps : map (λ (g : Gap). g.number) (gaps_of p) ≡ map (λ (g : Gap). g.number) (gaps_of q)
  pub calls : user_calls p ≡ user_calls q
  pub results : (d : Declarations) → each_function (λ f g. result_exists d g) p ≡ each_function (λ f g. result_exists d g) q
  pub typed : (d : Declarations) → each_function (λ f g. block_fits d g.result g.body) p ≡ each_function (λ f g. block_fits d g.result g.body) q
  pub jumps : each_function (λ f g. jumps_in_loops g) p ≡ each_function (λ f g. jumps_in_loops g) q
  pub values : (main : ℕ) → each_function (λ f g. gives_value main f g g.result) p ≡ each_function (λ f g. gives_value main f g g.result) q

pub outline_back : {p q : Program} → SameOutline p q → SameOutline q p
outline_back s = record {
  declarations = sym s.declarations;
  structs = sym s.structs;
  vars = sym s.vars;
  main = sym s.main;
  gap_count = sym s.gap_count;
  call_count = sym s.call_count;
  owns = sym s.owns;
  gaps = sym s.gaps;
  calls = sym s.calls;
  results = λ d. sym (s.results d);
  typed = λ d. sym (s.typed d);
  jumps = sym s.jumps;
  values = λ main. sym (s.values main);
}

pub well_formed_across : {p q : Program} → SameOutline p q → IsWellFormed p → FreesFit q → IsWellFormed q
well_formed_across {p} {q} s w fit = record {
  main = ap (λ (n : ℕ). has is_main (slice_get (declarations q).funs n)) (sym s.main) ∙ ap (λ (d : Declarations). has is_main (slice_get d.funs p.main)) (sym s.declarations) ∙ w.main;
  structs = ap (λ (d : Declarations). list_all (struct_fits d) d.structs) (sym s.declarations) ∙ w.structs;
  variables = ap (λ (d : Declarations). list_all (variable_fits d) d.vars) (sym s.declarations) ∙ w.variables;
  results = sym (s.results (declarations q)) ∙ ap (λ (d : Declarations). each_function (λ f g. result_exists d g) p) (sym s.declarations) ∙ w.results;
  declared = subst (λ (owns : List Own). Declares 0 [] owns (map (λ (v : VarDef). v.home) q.vars)) s.owns
      (subst (λ (vs : List VarDef). Declares 0 [] (owns_from 0 p.funs) (map (λ (v : VarDef). v.home) vs)) s.vars w.declared);
  gaps = sym s.gaps ∙ w.gaps ∙ ap (range_with_len 0) s.gap_count;
  calls = ap (map (λ (c : UserCall). c.number)) (sym s.calls) ∙ w.calls ∙ ap (range_with_len 0) s.call_count;
  typed = sym (s.typed (declarations q)) ∙ ap (λ (d : Declarations). each_function (λ f g. block_fits d g.result g.body) p) (sym s.declarations) ∙ w.typed;
  jumps = sym s.jumps ∙ w.jumps;
  values = sym (s.values q.main) ∙ ap (λ (n : ℕ). each_function (λ f g. gives_value n f g g.result) p) (sym s.main) ∙ w.values;
  no_recursion = λ cycle. w.no_recursion (subst IsCyclic (sym s.calls) cycle);
  frees = fit;
}

-- gaps that are changed

all_changed : (f : Gap → Gap) (xs : List (List Gap)) → from_all (map (map f) xs) ≡ map f (from_all xs)
all_changed f [] = refl
all_changed f (x ∷ xs) = ap (λ (ys : List Gap). map f x ++ ys) (all_changed f xs) ∙ sym (map-append f x (from_all xs))

abbrev each_changed : (f : Gap → Gap) → Leads Gaps Gaps Gaps Gaps Gaps Gaps Gaps Gaps
each_changed f = record { item = map f; arm = map f; block = map f; piece = map f }

item_changed : (f : Gap → Gap) (x : Item-F Gaps Gaps Gaps Gaps) → item_gaps (led_item (each_changed f) x) ≡ map f (item_gaps x)
item_changed f (Declare ds) = refl
item_changed f (Assign s) = refl
item_changed f (Do c) = refl
item_changed f (Nest b) = refl
item_changed f (If arms None) = ap (λ (gs : List Gap). gs ++ []) (all_changed f arms) ∙ sym (map-append f (from_all arms) [])
item_changed f (If arms (Some b)) = ap (λ (gs : List Gap). gs ++ map f b) (all_changed f arms) ∙ sym (map-append f (from_all arms) b)
item_changed f (While test body) = refl
item_changed f (For head body) = refl
item_changed f Break = refl
item_changed f Continue = refl
item_changed f (Return value at) = refl

abbrev gap_algebra : Algebra Gaps Gaps Gaps Gaps
gap_algebra = record { item = item_gaps; arm = arm_gaps; block = block_gaps; piece = piece_gaps }

pub gaps_changed : (f : Gap → Gap) (b : Block) → gaps_in (regapped_block f b) ≡ map f (gaps_in b)
gaps_changed f = fold_led f gap_algebra gap_algebra (each_changed f) (record {
  item = item_changed f;
  arm = λ x. refl;
  block = λ x. ap (λ (gs : List Gap). gs ++ f x.last_gap ∷ []) (all_changed f x.items) ∙ sym (map-append f (from_all x.items) (x.last_gap ∷ []));
  piece = λ x. refl;
})

funs_changed : (f : Gap → Gap) (ds : List FunDef) → flat_map (λ (d : FunDef). gaps_in d.body) (map (regapped_fun f) ds) ≡ map f (flat_map (λ (d : FunDef). gaps_in d.body) ds)
funs_changed f [] = refl
funs_changed f (d ∷ ds) =
    ap (λ (gs : List Gap). gs ++ flat_map (λ (d : FunDef). gaps_in d.body) (map (regapped_fun f) ds)) (gaps_changed f d.body)
    ∙ ap (λ (gs : List Gap). map f (gaps_in d.body) ++ gs) (funs_changed f ds)
    ∙ sym (map-append f (gaps_in d.body) (flat_map (λ (d : FunDef). gaps_in d.body) ds))

pub program_gaps_changed : (f : Gap → Gap) (p : Program) → gaps_of (regapped f p) ≡ map f (gaps_of p)
program_gaps_changed f p = funs_changed f p.funs

-- what doesn't look at gaps

pub declarations_kept : (f : Gap → Gap) (p : Program) → declarations (regapped f p) ≡ declarations p
declarations_kept f p = ap (λ (gs : List Prototype). record (declarations p) { funs = gs }) (map_joined prototype (regapped_fun f) prototype (λ d. refl) p.funs)

each_kept : (rule : ℕ → FunDef → Bool) (f : Gap → Gap) → ((n : ℕ) (d : FunDef) → rule n (regapped_fun f d) ≡ rule n d) → (n : ℕ) (ds : List FunDef) → each_from rule n (map (regapped_fun f) ds) ≡ each_from rule n ds
each_kept rule f kept n [] = refl
each_kept rule f kept n (d ∷ ds) =
    ap (λ (b : Bool). b && each_from rule (n + 1) (map (regapped_fun f) ds)) (kept n d) ∙ ap (λ (b : Bool). rule n d && b) (each_kept rule f kept (n + 1) ds)

module _ (f : Gap → Gap) where
  scope_kept : (b : Block) → block_scope (regapped_block f b) ≡ block_scope b
  scope_kept = fold_kept item_scope arm_scope items_scope piece_scope f (λ x. refl) (λ x. refl)

  locals_kept : (b : Block) → locals_in (regapped_block f b) ≡ locals_in b
  locals_kept = fold_kept item_locals arm_locals block_locals piece_locals f (λ x. refl) (λ x. refl)

  typed_kept : (d : Declarations) (g : FunDef) → block_fits d g.result (regapped_block f g.body) ≡ block_fits d g.result g.body
  typed_kept d g = fold_kept (item_fits d g.result) (arm_fits d) all_items its_item f (λ x. refl) (λ x. refl) g.body

  jumps_kept : (b : Block) → jumps_out (regapped_block f b) ≡ jumps_out b
  jumps_kept = fold_kept item_jumps arm_jumps block_jumps piece_jumps f (λ x. refl) (λ x. refl)

  flow_kept : (b : Block) → flow_of (regapped_block f b) ≡ flow_of b
  flow_kept = fold_kept item_flow arm_flow block_flow piece_flow f (λ x. refl) (λ x. refl)

  value_kept : (main n : ℕ) (d : FunDef) → gives_value main n (regapped_fun f d) d.result ≡ gives_value main n d d.result
  value_kept main n d = by_result d.result
    where
      by_result : (t : Option Ty) → gives_value main n (regapped_fun f d) t ≡ gives_value main n d t
      by_result None = refl
      by_result (Some t) = ap (λ (w : Flow). (n == main) || not w.ends) (flow_kept d.body)

  calls_kept : (n : ℕ) (b : Block) → calls_in n (regapped_block f b) ≡ calls_in n b
  calls_kept n = fold_kept (item_calls n) arm_calls block_calls piece_calls f (λ x. refl) (λ x. refl)

  all_calls_kept : (n : ℕ) (ds : List FunDef) → calls_from n (map (regapped_fun f) ds) ≡ calls_from n ds
  all_calls_kept n [] = refl
  all_calls_kept n (d ∷ ds) =
      ap (λ (cs : List UserCall). cs ++ calls_from (n + 1) (map (regapped_fun f) ds)) (calls_kept n d.body) ∙ ap (λ (cs : List UserCall). calls_in n d.body ++ cs) (all_calls_kept (n + 1) ds)

  abbrev own_by : ℕ → FunDef → List ℕ → Scope → Own
  own_by n d locals scope = record {
    declared = d.params ++ locals;
    homes = map (λ x. home.Param n) d.params ++ map (λ x. home.Local n) locals ++ result_home n d.result;
    sees = λ globals. is_some (scope (d.params ++ globals));
  }

  own_kept : (n : ℕ) (d : FunDef) → own_of n (regapped_fun f d) ≡ own_of n d
  own_kept n d = ap (λ (xs : List ℕ). own_by n d xs (block_scope (regapped_block f d.body))) (locals_kept d.body) ∙ ap (own_by n d (locals_in d.body)) (scope_kept d.body)

  owns_kept : (n : ℕ) (ds : List FunDef) → owns_from n (map (regapped_fun f) ds) ≡ owns_from n ds
  owns_kept n [] = refl
  owns_kept n (d ∷ ds) = ap (λ (o : Own). o ∷ owns_from (n + 1) (map (regapped_fun f) ds)) (own_kept n d) ∙ ap (λ (os : List Own). own_of n d ∷ os) (owns_kept (n + 1) ds)

  pub outline_kept : ((g : Gap) → (f g).number ≡ g.number) → (p : Program) → SameOutline (regapped f p) p
  outline_kept same p = record {
    declarations = declarations_kept f p;
    structs = refl;
    vars = refl;
    main = refl;
    gap_count = refl;
    call_count = refl;
    owns = owns_kept 0 p.funs;
    gaps = ap (map (λ (g : Gap). g.number)) (program_gaps_changed f p) ∙ map_joined (λ (g : Gap). g.number) f (λ g. g.number) same (gaps_of p);
    calls = all_calls_kept 0 p.funs;
    results = λ d. each_kept (λ n g. result_exists d g) f (λ n g. refl) 0 p.funs;
    typed = λ d. each_kept (λ n g. block_fits d g.result g.body) f (λ n g. typed_kept d g) 0 p.funs;
    jumps = each_kept (λ n g. jumps_in_loops g) f (λ n g. ap not (jumps_kept g.body)) 0 p.funs;
    values = λ main. each_kept (λ n g. gives_value main n g g.result) f (value_kept main) 0 p.funs;
  }

-- frees that are put in

all_pass : (test : Gap → Bool) (f : Gap → Gap) → ((g : Gap) → test (f g) ≡ true) → (gs : List Gap) → list_all test (map f gs) ≡ true
all_pass test f passes [] = refl
all_pass test f passes (g ∷ gs) = ap (λ (b : Bool). b && list_all test (map f gs)) (passes g) ∙ all_pass test f passes gs

pub frees_fit : (f : Gap → Gap) (p : Program) → ((g : Gap) → gap_fits (anywhere (declarations p)) (f g) ≡ true) → FreesFit (regapped f p)
frees_fit f p fit =
    ap (λ (d : Declarations). list_all (gap_fits (anywhere d)) (gaps_of (regapped f p))) (declarations_kept f p)
    ∙ ap (list_all (gap_fits (anywhere (declarations p)))) (program_gaps_changed f p)
    ∙ all_pass (gap_fits (anywhere (declarations p))) f fit (gaps_of p)

puts_fit : (d : Declarations) (k : ℕ) (puts : List Put) → list_all (λ q. free_fits d (free_of q)) puts ≡ true → list_all (free_fits d) (map free_of (puts_at puts k)) ≡ true
puts_fit d k [] h = refl
puts_fit d k (q ∷ puts) h =
    let fit = and_parts (free_fits d (free_of q)) (list_all (λ q. free_fits d (free_of q)) puts) h in
    if_here (q.gap == k) fit.0 (puts_fit d k puts fit.1)
  where
    if_here : (here : Bool) → free_fits d (free_of q) ≡ true → list_all (free_fits d) (map free_of (puts_at puts k)) ≡ true → list_all (free_fits d) (map free_of (if here then q ∷ puts_at puts k else puts_at puts k)) ≡ true
    if_here true one rest = ap (λ (b : Bool). b && list_all (free_fits d) (map free_of (puts_at puts k))) one ∙ rest
    if_here false one rest = rest

-- a program is well formed exactly where its skeleton is and its own frees take pointers
pub skeleton_well_formed : (p : Program) → IsWellFormed p ↔ (IsWellFormed (skeleton p) × FreesFit p)
skeleton_well_formed p = (
  λ w. (well_formed_across (outline_back (outline_kept emptied (λ g. refl) p)) w (frees_fit emptied p (λ g. refl)), w.frees),
  λ both. well_formed_across (outline_kept emptied (λ g. refl) p) both.0 both.1,
)

-- a well-formed program filled with frees of pointers is well formed
pub fill_well_formed : (p : Program) (choice : Choice) → IsWellFormed p → PutsFit p choice → IsWellFormed (fill p choice)
fill_well_formed p choice w fit =
    well_formed_across (outline_back (outline_kept (filled choice.puts) (λ g. refl) p)) w
    (frees_fit (filled choice.puts) p (λ g. puts_fit (anywhere (declarations p)) g.number choice.puts fit))
