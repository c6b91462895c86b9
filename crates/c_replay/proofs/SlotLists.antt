-- Slots one by one: those of a function cleared, and parameters bound.
use Rattle.std.proofs.Common.{◌≡◌, ℕ, zero, suc, ◌+◌, ◌<◌, Bool, true, false, List, [], ◌∷◌, ◌++◌, length, slice_set, get_or, take, drop, refl, ap, sym, ◌∙◌, add-one, arith}
use Rattle.std.specs.Prelude.{if◌then◌else◌}
use Rattle.c_tree.specs.declared.program.VarDef.{VarDef}
use Rattle.c_meaning.specs.declared.value.Value.{Value}
use Rattle.c_meaning.specs.declared.value.Value.TheVariants.{Undef}
use Rattle.c_meaning.specs.declared.machine.Machine.{Machine}
use Rattle.c_meaning.specs.Effects.{is_home_in, cleared, bound}
use Rattle.c_replay.specs.Changes.{on_store}
use Rattle.c_replay.proofs.Gathered.{drop_at}

cleared_none : (f : ℕ) (ds : List VarDef) → cleared f ds [] ≡ []
cleared_none f [] = refl
cleared_none f (d ∷ ds) = refl

clears_suc : (f : ℕ) (d : VarDef) (ds : List VarDef) (i : ℕ) (slots : List Value) → is_home_in f d.home ≡ true →
    take (suc i) (slice_set slots i Undef) ++ cleared f ds (drop (suc i) (slice_set slots i Undef)) ≡ take i slots ++ cleared f (d ∷ ds) (drop i slots)
clears_suc f d ds zero [] own = cleared_none f ds
clears_suc f d ds (suc i) [] own = cleared_none f ds
clears_suc f d ds zero (v ∷ vs) own = ap (λ (b : Bool). (if b then Undef else v) ∷ cleared f ds vs) (sym own)
clears_suc f d ds (suc i) (v ∷ vs) own = ap (λ (ws : List Value). v ∷ ws) (clears_suc f d ds i vs own)

keeps_suc : (f : ℕ) (d : VarDef) (ds : List VarDef) (i : ℕ) (slots : List Value) → is_home_in f d.home ≡ false →
    take (suc i) slots ++ cleared f ds (drop (suc i) slots) ≡ take i slots ++ cleared f (d ∷ ds) (drop i slots)
keeps_suc f d ds zero [] other = cleared_none f ds
keeps_suc f d ds (suc i) [] other = cleared_none f ds
keeps_suc f d ds zero (v ∷ vs) other = ap (λ (b : Bool). (if b then Undef else v) ∷ cleared f ds vs) (sym other)
keeps_suc f d ds (suc i) (v ∷ vs) other = ap (λ (ws : List Value). v ∷ ws) (keeps_suc f d ds i vs other)

pub clears : (f : ℕ) (ds : List VarDef) (i : ℕ) (d : VarDef) (slots : List Value) → i < length ds → d ≡ get_or ds i d → is_home_in f (get_or ds i d).home ≡ true →
    take (i + 1) (slice_set slots i Undef) ++ cleared f (drop (i + 1) ds) (drop (i + 1) (slice_set slots i Undef)) ≡ take i slots ++ cleared f (drop i ds) (drop i slots)
clears f ds i d slots below here own =
    ap (λ (j : ℕ). take j (slice_set slots i Undef) ++ cleared f (drop (i + 1) ds) (drop j (slice_set slots i Undef))) (add-one i)
    ∙ clears_suc f d (drop (i + 1) ds) i slots (ap (λ (e : VarDef). is_home_in f e.home) here ∙ own)
    ∙ ap (λ (es : List VarDef). take i slots ++ cleared f es (drop i slots)) (sym (drop_at ds i d below here))

pub keeps : (f : ℕ) (ds : List VarDef) (i : ℕ) (d : VarDef) (slots : List Value) → i < length ds → d ≡ get_or ds i d → is_home_in f (get_or ds i d).home ≡ false →
    take (i + 1) slots ++ cleared f (drop (i + 1) ds) (drop (i + 1) slots) ≡ take i slots ++ cleared f (drop i ds) (drop i slots)
keeps f ds i d slots below here other =
    ap (λ (j : ℕ). take j slots ++ cleared f (drop (i + 1) ds) (drop j slots)) (add-one i)
    ∙ keeps_suc f d (drop (i + 1) ds) i slots (ap (λ (e : VarDef). is_home_in f e.home) here ∙ other)
    ∙ ap (λ (es : List VarDef). take i slots ++ cleared f es (drop i slots)) (sym (drop_at ds i d below here))

-- no value is left
pub bound_end : (xs : List ℕ) (vs : List Value) (m : Machine) → length vs < 1 → on_store (bound xs vs) m ≡ m
bound_end [] vs m none = refl
bound_end (x ∷ xs) [] m none = refl
bound_end (x ∷ xs) (v ∷ vs) m none = absurd (omega arith)
