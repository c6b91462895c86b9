-- Node 0 is the first gap of `main`.
use Rattle.std.proofs.Common.{◌≡◌, ◌≢◌, ℕ, ◌==◌, Bool, true, false, List, [], ◌∷◌, ◌++◌, map, length, slice_get, unwrap_or, Option, Some, None, option_map, refl, ap, sym, ◌∙◌, arith, flat_map}
use Rattle.std.specs.Prelude.{if◌then◌else◌}
use Rattle.std.proofs.lemmas.Bool.{eqb-true, eq-eqb}
use Rattle.c_tree.specs.declared.program.Block.{Block, out-Block}
use Rattle.c_tree.specs.declared.program.Piece.{Piece}
use Rattle.c_tree.specs.declared.program.FunDef.{FunDef}
use Rattle.c_tree.specs.declared.program.Program.{Program}
use Rattle.c_meaning.specs.Place.{Spot, AtGap, AtAction, Nowhere, gap_at, spot_of, result_slot, brace_of, closing, spot_or_brace, spot_in_fun, numbered, places_in_fun}
use Rattle.call_contexts.specs.declared.context.Ctx.{Ctx}
use Rattle.call_contexts.specs.Contexts.{context}
use Rattle.call_contexts.proofs.Has.{Has, first, get_left}
use Rattle.c_graph.specs.Nodes.{spot_at, places, Placed, placed_at, placed_from, exits, all_placed}
use Rattle.c_graph.proofs.Listed.{of_piece, piece_opened, block_opened, of_item}
use Rattle.c_tree.specs.declared.program.Piece.{out-Piece}

-- the first gap is the first place

abbrev Begins : List (List ℕ) → Type 0
Begins ps = (rest : List (List ℕ)) × (ps ≡ (0 ∷ []) ∷ rest)

block_begins : (slot : Option ℕ) (items : List Piece) → Begins (numbered 0 (map (of_piece slot) items ++ (([] ∷ []) ∷ [])))
block_begins slot [] = ([], refl)
block_begins slot (q ∷ qs) = (
  map (λ p. 0 ∷ p) (of_item slot (out-Piece q).item) ++ numbered 1 (map (of_piece slot) qs ++ (([] ∷ []) ∷ [])),
  ap (λ (ps : List (List ℕ)). map (λ p. 0 ∷ p) ps ++ numbered 1 (map (of_piece slot) qs ++ (([] ∷ []) ∷ []))) (piece_opened slot q),
)

fun_begins : (p : Program) (f : ℕ) (d : FunDef) → Begins (places_in_fun p f d)
fun_begins p f d =
    let it = block_begins (result_slot p f) (out-Block d.body).items in
    (it.0 ++ ((brace_of d.body ∷ []) ∷ []), ap (λ (ps : List (List ℕ)). ps ++ ((brace_of d.body ∷ []) ∷ [])) (block_opened (result_slot p f) d.body ∙ it.1))

-- a gap stands there

no_items : {A : Type 0} (xs : List A) → slice_get xs 0 ≡ None → 0 ≡ length xs
no_items [] e = refl
no_items (x ∷ xs) e = absurd cc

gap_stands : (b : Block) (o : Option Piece) → slice_get (out-Block b).items 0 ≡ o → gap_at b 0 o ≢ Nowhere
gap_stands b (Some q) e none = absurd cc
gap_stands b None e none =
    let t : (0 == length (out-Block b).items) ≡ true = eq-eqb 0 (length (out-Block b).items) (no_items (out-Block b).items e) in
    let never : AtGap (out-Block b).last_gap ≡ Nowhere = ap (λ (b' : Bool). if b' then AtGap (out-Block b).last_gap else Nowhere) (sym t) ∙ none in
    absurd cc

brace_behind : (p : Program) (f : ℕ) (d : FunDef) (t : Bool) → (0 == brace_of d.body) ≡ t → (if t then AtAction (closing p f d) else spot_of (result_slot p f) (0 ∷ []) d.body) ≢ Nowhere
brace_behind p f d true e none = let never : 0 ≡ brace_of d.body = eqb-true 0 (brace_of d.body) e in absurd (omega arith)
brace_behind p f d false e none = gap_stands d.body (slice_get (out-Block d.body).items 0) refl none

fun_stands : (p : Program) (f : ℕ) (d : FunDef) → spot_or_brace p f d (0 ∷ []) ≢ Nowhere
fun_stands p f d = brace_behind p f d (0 == brace_of d.body) refl

-- the first node

abbrev FirstOf : Program → List Ctx → ℕ → List Placed → Type 0
FirstOf p cs f xs = (y : Placed) × Has y (placed_at p cs 0 f (0 ∷ []) (spot_at p f (0 ∷ []))) × (slice_get xs 0 ≡ Some y)

spot_first : (p : Program) (cs : List Ctx) (f : ℕ) (spot : Spot) → spot ≢ Nowhere →
    (y : Placed) × Has y (placed_at p cs 0 f (0 ∷ []) spot) × (slice_get (placed_at p cs 0 f (0 ∷ []) spot) 0 ≡ Some y)
spot_first p cs f (AtGap g) h = (_, first, refl)
spot_first p cs f (AtAction a) h = (_, first, refl)
spot_first p cs f Nowhere h = absurd (h refl)

begins_with : {A : Type 0} (xs : List A) (x : A) → slice_get xs 0 ≡ Some x → (rest : List A) × (xs ≡ x ∷ rest)
begins_with [] x e = absurd cc
begins_with {A} (y ∷ xs) x e = let same : y ≡ x = cc in (xs, ap (λ (z : A). z ∷ xs) same)

pub first_node : (p : Program) (cs : List Ctx) (f : ℕ) (d : FunDef) (home : Option (ℕ × ℕ)) → slice_get p.funs f ≡ Some d → slice_get cs 0 ≡ Some (context f home) → FirstOf p cs f (all_placed p cs)
first_node p cs f d home e main =
    let begins = fun_begins p f d in
    let own : places p f ≡ (0 ∷ []) ∷ begins.0 = ap (λ (o : Option FunDef). unwrap_or (option_map (places_in_fun p f) o) []) e ∙ begins.1 in
    let others = begins_with cs (context f home) main in
    let more = flat_map (λ path. placed_at p cs 0 f path (spot_at p f path)) begins.0 in
    let behind = placed_from p cs 1 others.0 in
    let there : spot_at p f (0 ∷ []) ≢ Nowhere = λ none. fun_stands p f d (ap (λ (o : Option FunDef). spot_in_fun p f o (0 ∷ [])) (sym e) ∙ none) in
    let it = spot_first p cs f (spot_at p f (0 ∷ [])) there in
    let own_first = placed_at p cs 0 f (0 ∷ []) (spot_at p f (0 ∷ [])) in
    let opened : all_placed p cs ≡ ((own_first ++ more) ++ behind) ++ exits p =
    ap (λ (rest : List Ctx). placed_from p cs 0 rest ++ exits p) others.1
    ∙ ap (λ (ps : List (List ℕ)). (flat_map (λ path. placed_at p cs 0 f path (spot_at p f path)) ps ++ behind) ++ exits p) own in (
      it.0,
      it.1,
      ap (λ (xs : List Placed). slice_get xs 0) opened
          ∙ get_left ((own_first ++ more) ++ behind) (exits p) it.0 0 (get_left (own_first ++ more) behind it.0 0 (get_left own_first more it.0 0 it.2)),
    )
