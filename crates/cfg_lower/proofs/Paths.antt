-- A path opened by two numbers, and what stands or follows in a part.
use Rattle.std.proofs.Common.{◌≡◌, ℕ, ◌-◌, ◌≤◌, Bool, List, [], ◌∷◌, length, get_or, take, drop, Option, Some, refl, ap, sym, ◌∙◌, arith}
use Rattle.std.proofs.lemmas.List.{take_all}
use Rattle.std.specs.Option.{option_and_then}
use Rattle.c_tree.specs.declared.program.Block.{Block}
use Rattle.c_tree.specs.declared.program.FunDef.{FunDef}
use Rattle.c_tree.specs.declared.program.Program.{Program}
use Rattle.c_meaning.specs.Parts.{Part, Within}
use Rattle.c_meaning.specs.Place.{Onward, Spot, spot_in, spot_of, item_at, part_of, part_at, next, next_in, behind_item, behind_part, result_slot, spot_or_brace}
use Rattle.cfg_lower.specs.Layers.{Layer}

-- a path behind its first two numbers
abbrev pub below : List ℕ → List ℕ
below path = take (length path - 2) (drop 2 path)

pub opened : (path : List ℕ) → 2 ≤ length path → path ≡ get_or path 0 0 ∷ get_or path 1 0 ∷ below path
opened [] long = absurd (omega arith)
opened (i ∷ []) long = absurd (omega arith)
opened (i ∷ k ∷ path) long = ap (λ (p : List ℕ). i ∷ k ∷ p) (sym (take_all (length (i ∷ k ∷ path) - 2) path (omega arith)))

pub spot_opened : (slot : Option ℕ) (path : List ℕ) (b : Block) → 2 ≤ length path →
    spot_of slot path b ≡ spot_in (spot_of slot (below path)) (below path) (part_at slot b (get_or path 0 0) (get_or path 1 0))
spot_opened slot path b long = ap (λ (p : List ℕ). spot_of slot p b) (opened path long)

pub spot_within : (inner : Block → Spot) (path : List ℕ) (b : Block) → spot_in inner path (Some (Within b)) ≡ inner b
spot_within inner [] b = refl
spot_within inner (k ∷ []) b = refl
spot_within inner (k ∷ j ∷ path) b = refl

pub next_opened : (slot : Option ℕ) (said : Option Bool) (path : List ℕ) (b : Block) → 2 ≤ length path →
    next slot said path b ≡ behind_item slot (get_or path 0 0) (get_or path 1 0) (next_in (next slot said (below path)) (below path) said (part_at slot b (get_or path 0 0) (get_or path 1 0))) (item_at b (get_or path 0 0))
next_opened slot said path b long = ap (λ (p : List ℕ). next slot said p b) (opened path long)

-- what follows a path, from what follows it in the part that its first two numbers name
pub next_through : (slot : Option ℕ) (said : Option Bool) (path : List ℕ) (b : Block) (item : Layer) (part : Part Block) (inner : Onward) → 2 ≤ length path →
    item_at b (get_or path 0 0) ≡ Some item → part_of slot (get_or path 1 0) item ≡ Some part → inner ≡ next_in (next slot said (below path)) (below path) said (Some part) →
    behind_part slot (get_or path 0 0) (get_or path 1 0) inner item ≡ next slot said path b
next_through slot said path b item part inner long item_is part_is inner_is =
    let i = get_or path 0 0 in
    let k = get_or path 1 0 in
    let within : Option (Part Block) → Onward = next_in (next slot said (below path)) (below path) said in
    let found : part_at slot b i k ≡ Some part = ap (option_and_then (part_of slot k)) item_is ∙ part_is in
    ap (λ (o : Onward). behind_part slot i k o item) (inner_is ∙ sym (ap within found))
    ∙ sym (ap (λ (l : Option Layer). behind_item slot i k (within (part_at slot b i k)) l) item_is)
    ∙ sym (next_opened slot said path b long)

-- the closing brace has a path of one number
pub inside : (p : Program) (f : ℕ) (d : FunDef) (path : List ℕ) → 2 ≤ length path → spot_or_brace p f d path ≡ spot_of (result_slot p f) path d.body
inside p f d [] long = absurd (omega arith)
inside p f d (i ∷ []) long = absurd (omega arith)
inside p f d (i ∷ k ∷ path) long = refl
