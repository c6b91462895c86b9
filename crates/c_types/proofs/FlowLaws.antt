-- Parts in sequence, and the arms of an `if` from the last to the first.
use Rattle.std.proofs.Common.{◌≡◌, ℕ, ◌+◌, ◌<◌, Bool, true, false, List, [], ◌∷◌, ◌++◌, length, get_or, map, take, refl, sym, ap, ◌∙◌}
use Rattle.std.proofs.lemmas.List.{map-append, take_more}
use Rattle.c_tree.specs.declared.program.Block.{Block, out-Block, fold_out-Block}
use Rattle.c_tree.specs.Flow.{followed, sequence, goes_on, item_flow, arm_flow, block_flow, piece_flow, flow_of, piece_flow_of}
use Rattle.c_tree.specs.declared.control.Edges.{Edges}
use Rattle.c_tree.specs.declared.control.Flow.{Flow}

assoc_cases : (a b c d e f : Bool) → followed (followed (record { ends = a; breaks = b }) (record { ends = c; breaks = d })) (record { ends = e; breaks = f }) ≡ followed (record { ends = a; breaks = b }) (followed (record { ends = c; breaks = d }) (record { ends = e; breaks = f }))
assoc_cases true true true d e f = refl
assoc_cases true false true d e f = refl
assoc_cases true b false d e f = refl
assoc_cases false b c d e f = refl

pub followed_assoc : (a b c : Flow) → followed (followed a b) c ≡ followed a (followed b c)
followed_assoc a b c = assoc_cases a.ends a.breaks b.ends b.breaks c.ends c.breaks

last_cases : (e b : Bool) → followed (record { ends = e; breaks = b }) goes_on ≡ record { ends = e; breaks = b }
last_cases true true = refl
last_cases true false = refl
last_cases false b = refl

-- nothing follows the last
pub followed_last : (a : Flow) → followed a goes_on ≡ a
followed_last a = last_cases a.ends a.breaks

pub sequence_push : (fs : List Flow) (f : Flow) → sequence (fs ++ f ∷ []) ≡ followed (sequence fs) f
sequence_push [] f = followed_last f
sequence_push (g ∷ fs) f = ap (followed g) (sequence_push fs f) ∙ sym (followed_assoc g (sequence fs) f)

pub sequence_more : {X : Type 0} (f : X → Flow) (xs : List X) (i : ℕ) (d : X) → i < length xs → sequence (map f (take (i + 1) xs)) ≡ followed (sequence (map f (take i xs))) (f (get_or xs i d))
sequence_more f xs i d below =
    ap (λ ys. sequence (map f ys)) (take_more xs i d below)
    ∙ ap sequence (map-append f (take i xs) (get_or xs i d ∷ []))
    ∙ sequence_push (map f (take i xs)) (f (get_or xs i d))

pub flow_opens : (b : Block) → flow_of b ≡ sequence (map piece_flow_of (out-Block b).items)
flow_opens b = fold_out-Block Flow (Edges × Flow) Flow Flow item_flow arm_flow block_flow piece_flow b
