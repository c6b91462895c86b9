-- The frees of a gap, one by one.
use Rattle.std.proofs.Common.{◌≡◌, ℕ, ◌+◌, ◌<◌, Bool, false, List, ◌∷◌, length, get_or, drop, ap, sym, ◌∙◌}
use Rattle.std.specs.Prelude.{if◌then◌else◌}
use Rattle.c_tree.specs.declared.program.Free.{Free}
use Rattle.c_meaning.specs.declared.machine.Machine.{Machine}
use Rattle.c_meaning.specs.Machine.{store_of, machine_of}
use Rattle.c_meaning.specs.Effects.{is_over, freed, all_freed}
use Rattle.c_replay.specs.Changes.{on_store}
use Rattle.c_replay.proofs.Gathered.{drop_at}

freed_first : (f : Free) (fs : List Free) (m : Machine) → is_over (freed f (store_of m)).ending ≡ false → on_store (all_freed (f ∷ fs)) m ≡ on_store (all_freed fs) (on_store (freed f) m)
freed_first f fs m goes_on = ap (λ (b : Bool). machine_of m.rest (if b then freed f (store_of m) else all_freed fs (freed f (store_of m)))) goes_on

-- the next free raised no fault
pub freed_at_place : (fs : List Free) (i : ℕ) (f : Free) (m n : Machine) → i < length fs → f ≡ get_or fs i f → n ≡ on_store (freed f) m → is_over n.ending ≡ false →
    on_store (all_freed (drop (i + 1) fs)) n ≡ on_store (all_freed (drop i fs)) m
freed_at_place fs i f m n below here is goes_on =
    ap (on_store (all_freed (drop (i + 1) fs))) is
    ∙ sym (freed_first f (drop (i + 1) fs) m (ap (λ (k : Machine). is_over k.ending) (sym is) ∙ goes_on))
    ∙ ap (λ (gs : List Free). on_store (all_freed gs) m) (sym (drop_at fs i f below here))
