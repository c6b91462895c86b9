-- A well-formed program counts its gaps, so the bound on the places that a step passes changes no step.
use Rattle.std.proofs.Common.{◌≡◌, ℕ, ◌+◌, ◌≤◌, List, [], ◌∷◌, ◌++◌, suc, map, length, get_or, Some, None, refl, ap, sym, ◌∙◌, arith, length-append, append_assoc}
use Rattle.std.specs.Prelude.{sum_by}
use Rattle.std.specs.List.{Contains}
use Rattle.std.proofs.lemmas.List.{length-map}
use Rattle.std.proofs.lemmas.List.Concat.{length-flat_map}
use Rattle.std.proofs.lemmas.List.Elements.{All-weaker, All-contains_itself}
use Rattle.std.proofs.lemmas.List.FromFn.{length-range_with_len}
use Rattle.std.proofs.lemmas.List.Sums.{get_or-le-sum_by}
use Rattle.c_tree.specs.Numbers as numbers
use Rattle.c_tree.specs.Numbers.{Gaps, from_all, from_last, gaps_in}
use Rattle.c_tree.specs.WellFormed.{IsWellFormed}
use Rattle.c_tree.specs.declared.program.Block.{Block}
use Rattle.c_tree.specs.declared.program.FunDef.{FunDef}
use Rattle.c_tree.specs.declared.program.Gap.{Gap}
use Rattle.c_tree.specs.declared.program.Item.{Item-F}
use Rattle.c_tree.specs.declared.program.Item.TheOpen.{Declare, Assign, Do, Nest, If, While, For, Break, Continue, Return}
use Rattle.c_tree.specs.declared.program.Program.{Program}
use Rattle.c_tree.proofs.Fills.{kept_block}
use Rattle.c_tree.proofs.RegappedFolds.{Algebra, Leads, led_item, fold_led}
use Rattle.c_meaning.proofs.GapBound.{from_item, arms_gaps, item_gaps, arm_gaps, block_gaps, piece_gaps, gap_count, CountsGaps}

abbrev listed : Algebra Gaps Gaps Gaps Gaps
listed = record { item = numbers.item_gaps; arm = numbers.arm_gaps; block = numbers.block_gaps; piece = numbers.piece_gaps }

abbrev counted : Algebra ℕ ℕ ℕ ℕ
counted = record { item = item_gaps; arm = arm_gaps; block = block_gaps; piece = piece_gaps }

abbrev lengths : Leads Gaps Gaps Gaps Gaps ℕ ℕ ℕ ℕ
lengths = record { item = length; arm = length; block = length; piece = length }

arms_counted : (arms : List Gaps) (last : Gaps) → arms_gaps (map length arms) (length last) ≡ length (from_all arms ++ last)
arms_counted [] last = refl
arms_counted (a ∷ arms) last = ap (λ (n : ℕ). length a + n) (arms_counted arms last) ∙ sym (length-append a (from_all arms ++ last)) ∙ ap length (sym (append_assoc a (from_all arms) last))

item_counted : (x : Item-F Gaps Gaps Gaps Gaps) → item_gaps (led_item lengths x) ≡ length (numbers.item_gaps x)
item_counted (Declare ds) = refl
item_counted (Assign s) = refl
item_counted (Do c) = refl
item_counted (Nest b) = refl
item_counted (If arms None) = arms_counted arms []
item_counted (If arms (Some b)) = arms_counted arms b
item_counted (While test body) = refl
item_counted (For head body) = refl
item_counted Break = refl
item_counted Continue = refl
item_counted (Return value at) = refl

pieces_counted : (ps : List Gaps) (g : Gap) → from_item (map length ps) 0 ≡ length (from_all ps ++ g ∷ [])
pieces_counted [] g = refl
pieces_counted (p ∷ ps) g = ap (λ (n : ℕ). length p + n) (pieces_counted ps g) ∙ sym (length-append p (from_all ps ++ g ∷ [])) ∙ ap length (sym (append_assoc p (from_all ps) (g ∷ [])))

-- a block has as many gaps as are listed
gaps_counted : (b : Block) → gap_count b ≡ length (gaps_in b)
gaps_counted b =
    ap gap_count (sym (kept_block b))
    ∙ fold_led (λ g. g) listed counted lengths (record {
      item = item_counted;
      arm = λ x. refl;
      block = λ x. pieces_counted x.items x.last_gap;
      piece = λ x. let one : length x.item + 1 ≡ suc (length x.item) = omega arith in one;
    }) b

pub counts_gaps : (p : Program) → IsWellFormed p → CountsGaps p
counts_gaps p w =
    let all : length (numbers.gaps_of p) ≡ p.gaps = sym (length-map (numbers.gaps_of p) (λ (g : Gap). g.number)) ∙ ap length w.gaps ∙ length-range_with_len 0 p.gaps in
    let sum : length (numbers.gaps_of p) ≡ sum_by (λ (d : FunDef). length (gaps_in d.body)) p.funs = length-flat_map (λ (d : FunDef). gaps_in d.body) p.funs in
    All-weaker (Contains p.funs) (λ (d : FunDef). gap_count d.body ≤ p.gaps) (λ d h.
    let one : length (gaps_in (get_or p.funs h.0 d).body) ≤ sum_by (λ (d : FunDef). length (gaps_in d.body)) p.funs = get_or-le-sum_by (λ (d : FunDef). length (gaps_in d.body)) p.funs h.0 d h.1 in
    let same : length (gaps_in (get_or p.funs h.0 d).body) ≡ length (gaps_in d.body) = ap (λ (e : FunDef). length (gaps_in e.body)) h.2 in
    let count : gap_count d.body ≡ length (gaps_in d.body) = gaps_counted d.body in
    omega arith)
    p.funs (All-contains_itself p.funs)
