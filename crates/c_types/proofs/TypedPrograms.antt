-- All expressions, calls and statements of a text's program have right types, and all its frees take pointers.
use Rattle.std.proofs.Common.{◌≡◌, ℕ, ◌+◌, Bool, true, ◌&&◌, List, [], ◌∷◌, ◌++◌, length, map, flat_map, Option, Some, option_map, refl, sym, ap, subst, ◌∙◌}
use Rattle.std.specs.Prelude.{slice_get, IsTrue}
use Rattle.std.specs.List.{list_all}
use Rattle.std.specs.Option.{is_some, option_and_then}
use Rattle.std.proofs.lemmas.Bool.{and_parts}
use Rattle.std.proofs.lemmas.List.Folds.{list_all-append}
use Rattle.std.proofs.lemmas.Option.{slice_get-map}
use Rattle.c_tree.specs.Numbers.{from_all, Gaps, item_gaps, arm_gaps, block_gaps, piece_gaps, gaps_in}
use Rattle.c_tree.specs.Typing.{Declarations, declarations, anywhere, fields_if, item_fits, arm_fits, all_items, its_item, block_fits, gap_fits, prototype}
use Rattle.c_tree.specs.WellFormed.{each_from, each_function, FreesFit}
use Rattle.c_tree.specs.declared.program.FunDef.{FunDef}
use Rattle.c_tree.specs.declared.program.Program.{Program}
use Rattle.c_tree.specs.declared.program.StructDef.{StructDef}
use Rattle.c_tree.specs.declared.tree.Block.{Block}
use Rattle.c_tree.specs.declared.tree.Head.{Head}
use Rattle.c_tree.specs.declared.tree.Top.TheVariants as top
use Rattle.c_tree.specs.declared.tree.Tree.{Tree}
use Rattle.c_tree.specs.declared.tree.Word.{Word}
use Rattle.c_types.specs.declared.judged.Callee.TheVariants as callee
use Rattle.c_types.specs.declared.scope.Returned.{Returned}
use Rattle.c_types.specs.declared.scope.Returned.TheVariants as returned
use Rattle.c_types.specs.declared.scope.Signature.{Signature}
use Rattle.c_types.specs.declared.scope.StructRow.{StructRow}
use Rattle.c_types.specs.declared.scope.Walk.{Walk}
use Rattle.c_types.specs.Calls.{callee_of}
use Rattle.c_types.specs.Functions.{result_faults, body_nesting, result_or_none, walked_fun}
use Rattle.c_types.specs.Offsets.{block_stands, bodies_of, is_behind_all, StandsFrom, FitsText}
use Rattle.c_types.specs.Program.{start, walked, definitions, field_def, struct_def, made_program, IsProgram}
use Rattle.c_types.proofs.Bodies.{AreAmong, params_none, bodies_so_far, stands_from}
use Rattle.c_types.proofs.Functionwise.{Before, by_definitions, callee_called, inside_onward}
use Rattle.c_types.proofs.Numbering.{first_empty}
use Rattle.c_types.proofs.NumberingCalls.{second_empty}
use Rattle.c_types.proofs.Passing.{named_passes, head_types, types_grow, types_of, types_good, no_home, heading_passes, headed, with_params, inside, params_grow, headed_inside, tops_pass, start_stands}
use Rattle.c_types.proofs.Standing.{Onward, onward_both}
use Rattle.c_types.proofs.TypedBlocks.{Claim, of_block, AllGood, Follows, block_good}
use Rattle.c_types.proofs.TypedCalls.{IsCallee}
use Rattle.c_types.proofs.TypedParts.{Sees, Ready}
use Rattle.c_types.proofs.TypedStatements.{IsGood}

-- what the program declares, as it is at the end of the text

seen_row : (known : ℕ → Option ℕ → Bool) (at : ℕ) (rows : List StructRow) (n : ℕ) (row : StructRow) (body : ℕ) → slice_get rows n ≡ Some row → row.body ≡ Some body → known at (Some body) ≡ true
    → option_and_then (λ (c : StructDef). fields_if (known at c.body) c) (slice_get (map struct_def rows) n) ≡ Some (map field_def row.fields)
seen_row known at rows n row body is b k =
    ap (option_and_then (λ (c : StructDef). fields_if (known at c.body) c)) (slice_get-map struct_def rows n ∙ ap (option_map struct_def) is)
    ∙ ap (λ (o : Option ℕ). fields_if (known at o) (struct_def row)) b
    ∙ ap (λ (x : Bool). fields_if x (struct_def row)) k

program_sees : (w : Walk) (main : ℕ) (behind : ℕ → Bool) → Sees (declarations (made_program w main)) behind w
program_sees w main behind = record {
  vars = λ n. refl;
  structs = λ n row body at is b k. seen_row (declarations (made_program w main)).known at w.scope.structs n row body is b k;
}

frees_see : (w : Walk) (main : ℕ) (behind : ℕ → Bool) → Sees (anywhere (declarations (made_program w main))) behind w
frees_see w main behind = record {
  vars = λ n. refl;
  structs = λ n row body at is b k. seen_row (λ at body. is_some body) at w.scope.structs n row body is b refl;
}

-- right types, as a claim on blocks

abbrev types_claim : Declarations → Returned → Claim Bool
types_claim d t = record { item = item_fits d (result_or_none t); arm = arm_fits d; block = all_items; piece = its_item; Good = λ b. b ≡ true }

all_true : (d : Declarations) (t : Returned) (xs : List Bool) → AllGood (types_claim d t) xs → list_all (λ b. b) xs ≡ true
all_true d t [] h = refl
all_true d t (x ∷ xs) h = ap (λ (b : Bool). b && list_all (λ b. b) xs) h.0 ∙ all_true d t xs h.1

types_follow : (d e : Declarations) (t : Returned) → Follows (types_claim d t) d e t
types_follow d e t = record {
  declares = λ ds h. h;
  assigns = λ s h. h;
  calls = λ m h. h;
  nests = λ x h. h;
  chooses = λ xs h. ap (λ (b : Bool). b && true) (all_true d t xs h);
  chooses_last = λ xs x h g. ap (λ (b : Bool). b && x) (all_true d t xs h) ∙ g;
  loops = λ test x h g. ap (λ (b : Bool). b && x) h ∙ g;
  loops_for = λ head x h g. ap (λ (b : Bool). b && x) h ∙ g;
  breaks = refl;
  continues = refl;
  returns = λ r at h. h;
  arms = λ test x h g. ap (λ (b : Bool). b && x) h ∙ g;
  blocks = λ xs g braced from to h k. all_true d t xs h;
  pieces = λ g x from to h k. k;
}

-- frees that take pointers, as a claim on blocks

abbrev frees_claim : Declarations → Claim Gaps
frees_claim e = record { item = item_gaps; arm = arm_gaps; block = block_gaps; piece = piece_gaps; Good = λ gs. list_all (gap_fits e) gs ≡ true }

all_fit : (e : Declarations) (xs : List Gaps) → AllGood (frees_claim e) xs → list_all (gap_fits e) (from_all xs) ≡ true
all_fit e [] h = refl
all_fit e (x ∷ xs) h = list_all-append (gap_fits e) x (from_all xs) ∙ ap (λ (b : Bool). b && list_all (gap_fits e) (from_all xs)) h.0 ∙ all_fit e xs h.1

two_fit : (e : Declarations) (xs ys : Gaps) → list_all (gap_fits e) xs ≡ true → list_all (gap_fits e) ys ≡ true → list_all (gap_fits e) (xs ++ ys) ≡ true
two_fit e xs ys h g = list_all-append (gap_fits e) xs ys ∙ ap (λ (b : Bool). b && list_all (gap_fits e) ys) h ∙ g

frees_follow : (d e : Declarations) (t : Returned) → Follows (frees_claim e) d e t
frees_follow d e t = record {
  declares = λ ds h. refl;
  assigns = λ s h. refl;
  calls = λ m h. refl;
  nests = λ x h. h;
  chooses = λ xs h. two_fit e (from_all xs) [] (all_fit e xs h) refl;
  chooses_last = λ xs x h g. two_fit e (from_all xs) x (all_fit e xs h) g;
  loops = λ test x h g. g;
  loops_for = λ head x h g. g;
  breaks = refl;
  continues = refl;
  returns = λ r at h. refl;
  arms = λ test x h g. g;
  blocks = λ xs g braced from to h k. two_fit e (from_all xs) (g ∷ []) (all_fit e xs h) (ap (λ (b : Bool). b && true) k);
  pieces = λ g x from to h k. ap (λ (b : Bool). b && list_all (gap_fits e) x) h ∙ k;
}

-- functions

result_good : (t : Returned) → result_faults t ≡ [] → IsGood t
result_good returned.Nothing h = tt
result_good (returned.Value t) h = tt
result_good (returned.Bad f) h = absurd cc

module _ (t : Tree) (p : Program) (is : IsProgram t p) (fits : FitsText t) where
  abbrev d : Declarations
  d = declarations p

  same_definitions : (walked t).definitions ≡ definitions t.tops
  same_definitions = (tops_pass t.tops (start (definitions t.tops)) (start_stands (definitions t.tops))).onward.definitions

  callees : (w : Walk) → Onward w (walked t) → (n : Word) (f k : ℕ) (g : Signature) → callee_of w n ≡ callee.Defined f k → slice_get w.signatures k ≡ Some g → IsCallee d f g
  callees w on n f k g c s =
      let called = callee_called t p is w (sym on.definitions ∙ same_definitions) on n f k g c s in
      record {
        fun = prototype called.fun;
        is = slice_get-map prototype p.funs f ∙ ap (option_map prototype) called.is;
        result = called.result;
        params = called.params;
        no_main = called.no_main;
      }

  sees : (behind : ℕ → Bool) → Sees d behind (walked t)
  sees behind = subst (λ (q : Program). Sees (declarations q) behind (walked t)) (sym is.made) (program_sees (walked t) p.main behind)

  sees_frees : (behind : ℕ → Bool) → Sees (anywhere d) behind (walked t)
  sees_frees behind = subst (λ (q : Program). Sees (anywhere (declarations q)) behind (walked t)) (sym is.made) (frees_see (walked t) p.main behind)

  -- the bodies before a definition
  module _ (h : Head) (body : Block) (w : Walk) (before : Before t h body w) where
    abbrev behind : ℕ → Bool
    behind = is_behind_all (flat_map bodies_of before.earlier)

    body_stands : block_stands behind body ≡ true
    body_stands = (stands_from [] before.earlier (top.Fun h body ∷ before.later) (subst (StandsFrom []) before.place fits)).0

    among : AreAmong (flat_map bodies_of before.earlier) w.scope.structs
    among = subst (λ (v : Walk). AreAmong (flat_map bodies_of before.earlier) v.scope.structs) (sym before.way) (bodies_so_far (definitions t.tops) before.earlier)

    ready : Ready behind (with_params h body w).0
    ready = record {
      standing = (params_grow h body w).stands (heading_passes h true w before.sofar.standing).standing;
      bodies = λ n row at k is b. among n row at k (params_none h body w n row at is b) b;
    }

    onward : Onward (inside h body w).0 (walked t)
    onward = onward_both (inside h body w).0 (walked_fun h body w) (walked t) (inside_onward h body w before.sofar.standing) before.rest

    good : IsGood (headed h body w).1
    good =
        let a = heading_passes h true w before.sofar.standing in
        let clean : (headed h body w).0.faults ≡ [] = (headed_inside h body w a.standing).onward.clean (onward.clean is.clean) in
        let types = (named_passes h true (types_of h w) h.result.name (head_types h w) (types_good h w) ((types_grow no_home h w).stands before.sofar.standing)).onward.clean clean in
        result_good (headed h body w).1 (first_empty (result_faults (headed h body w).1) _ (second_empty w.faults _ types))

    -- a claim that follows from right types holds of the body
    body_good : {X : Type 0} (c : Returned → Claim X) → ((r : Returned) → Follows (c r) d (anywhere d) r) → (c (headed h body w).1).Good (of_block (c (headed h body w).1) (inside h body w).1)
    body_good c follows =
        (block_good (c (headed h body w).1) behind (walked t) is.clean d (anywhere d) (sees behind) (sees_frees behind) callees (headed h body w).1 good (follows (headed h body w).1)
        body body_stands (body_nesting (length w.funs) (headed h body w).1) (with_params h body w).0).goal refl ready onward

  -- all expressions, calls and statements have right types
  pub program_typed : IsTrue (each_function (λ f x. block_fits (declarations p) x.result x.body) p)
  program_typed = by_definitions t p is (λ f x. block_fits (declarations p) x.result x.body) (λ h body w before. body_good h body w before (types_claim d) (types_follow d (anywhere d)))

  gaps_fit : (f : ℕ) (ds : List FunDef) → each_from (λ f (x : FunDef). list_all (gap_fits (anywhere d)) (gaps_in x.body)) f ds ≡ true → list_all (gap_fits (anywhere d)) (flat_map (λ (x : FunDef). gaps_in x.body) ds) ≡ true
  gaps_fit f [] h = refl
  gaps_fit f (x ∷ xs) h =
      let parts = and_parts (list_all (gap_fits (anywhere d)) (gaps_in x.body)) (each_from (λ f (x : FunDef). list_all (gap_fits (anywhere d)) (gaps_in x.body)) (f + 1) xs) h in
      two_fit (anywhere d) (gaps_in x.body) (flat_map (λ (x : FunDef). gaps_in x.body) xs) parts.0 (gaps_fit (f + 1) xs parts.1)

  -- all frees take pointers
  pub program_frees : FreesFit p
  program_frees =
      gaps_fit 0 p.funs
      (by_definitions t p is (λ f x. list_all (gap_fits (anywhere d)) (gaps_in x.body)) (λ h body w before. body_good h body w before (λ r. frees_claim (anywhere d)) (frees_follow d (anywhere d))))
