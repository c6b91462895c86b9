-- Steps of two programs that correspond, over any two stores: where the acts of the stores go together,
-- so do the steps.
use Rattle.std.proofs.Common.{◌≡◌, ℕ, zero, suc, ◌+◌, Bool, true, false, List, [], ◌∷◌, Option, None, refl, ap, sym, subst}
use Rattle.c_tree.specs.declared.program.Gap.{Gap}
use Rattle.c_tree.specs.declared.program.Program.{Program}
use Rattle.c_meaning.specs.declared.value.Value.{Value}
use Rattle.c_meaning.specs.declared.machine.Frame.{Frame}
use Rattle.c_meaning.specs.Parts.{Instruction, Unset, Assign, Malloc, Getchar, Putchar, Printf, Test, Invoke, Return, Close}
use Rattle.c_meaning.specs.Place.{Spot}
use Rattle.c_meaning.specs.Effects.{Effect, Passes, Calls, Returns, Stays}
use Rattle.c_meaning.specs.Step.{Acts, State, with, onward, target_in, frame_of, gone_back, gone_on, unless_over, at_spot, walked, unless_ended, stepped}
use Rattle.c_meaning.proofs.BareParts.{bare_instruction}
use Rattle.c_meaning.proofs.Outlines.{SpotsMeet, both_gaps, both_actions, both_nowhere, Correspond}

-- two things are alike, or one of them has met what ends its run
pub data Together {M N : Type 0} (Alike : M → N → Type 0) (LeftMet : M → Type 0) (RightMet : N → Type 0) : M → N → Type 0 where
  alike : {m : M} {n : N} → Alike m n → Together Alike LeftMet RightMet m n
  left_met : {m : M} {n : N} → LeftMet m → Together Alike LeftMet RightMet m n
  right_met : {m : M} {n : N} → RightMet n → Together Alike LeftMet RightMet m n

-- two effects send control the same way, with stores that are alike; or one of them keeps it, and ends its run
pub data EffectsMeet {M N : Type 0} (Alike : M → N → Type 0) (LeftMet : M → Type 0) (RightMet : N → Type 0) : Effect M → Effect N → Type 0 where
  both_pass : {m : M} {n : N} (said : Option Bool) → Alike m n → EffectsMeet Alike LeftMet RightMet (Passes said m) (Passes said n)
  both_call : {m : M} {n : N} (callee : ℕ) → Alike m n → EffectsMeet Alike LeftMet RightMet (Calls callee m) (Calls callee n)
  both_return : {m : M} {n : N} (value : Option Value) → Alike m n → EffectsMeet Alike LeftMet RightMet (Returns value m) (Returns value n)
  both_stay : {m : M} {n : N} → Alike m n → EffectsMeet Alike LeftMet RightMet (Stays m) (Stays n)
  left_stays : {m : M} {e : Effect N} → LeftMet m → EffectsMeet Alike LeftMet RightMet (Stays m) e
  right_stays : {e : Effect M} {n : N} → RightMet n → EffectsMeet Alike LeftMet RightMet e (Stays n)

-- what the acts of two stores owe each other, where G holds of gaps
pub record ActsMeet {M N : Type 0} (G : Gap → Gap → Type 0) (s : Acts M) (t : Acts N) (Alike : M → N → Type 0) (LeftMet : M → Type 0) (RightMet : N → Type 0) : Type 0 where
  pub begun : (m : M) (n : N) → Alike m n → Alike (s.begun m) (t.begun n)
  pub over : (m : M) (n : N) → Alike m n → s.over m ≡ t.over n
  pub left_over : (m : M) → LeftMet m → s.over m ≡ true
  pub right_over : (n : N) → RightMet n → t.over n ≡ true
  pub freed : (f g : Gap) (m : M) (n : N) → G f g → Alike m n → Together Alike LeftMet RightMet (s.freed f.frees m) (t.freed g.frees n)
  pub effect : (a b : Instruction) (m : M) (n : N) → bare_instruction a ≡ bare_instruction b → Alike m n → EffectsMeet Alike LeftMet RightMet (s.effect a m) (t.effect b n)
  pub back : (callee : ℕ) (target : Option ℕ) (value : Option Value) (m : M) (n : N) → Alike m n → Alike (s.back callee target value m) (t.back callee target value n)
  pub ended : (value : Option Value) (m : M) (n : N) → Alike m n → Alike (s.ended value m) (t.ended value n)

-- two states whose control stands at the same place, with stores that are alike
pub data AtOnePlace {M N : Type 0} (Alike : M → N → Type 0) : State M → State N → Type 0 where
  standing : {m : M} {n : N} (fs : List Frame) → Alike m n → AtOnePlace Alike (with fs m) (with fs n)

target_same : (a b : Instruction) → bare_instruction a ≡ bare_instruction b → target_in a ≡ target_in b
target_same (Unset x) (Unset y) e = refl
target_same (Assign place o v offset) (Assign place' o' v' offset') e = refl
target_same (Malloc place size offset) (Malloc place' size' offset') e = refl
target_same (Getchar place) (Getchar place') e = refl
target_same (Putchar v) (Putchar v') e = refl
target_same (Printf text arguments) (Printf text' arguments') e = refl
target_same (Test v) (Test v') e = refl
target_same (Invoke number callee arguments target) (Invoke number' callee' arguments' target') e = cc
target_same (Return v offset) (Return v' offset') e = refl
target_same (Close goes_back offset) (Close goes_back' offset') e = refl
target_same _ _ e = absurd cc

module _ {M N : Type 0} (G : Gap → Gap → Type 0) (p q : Program) (c : Correspond G p q) (s : Acts M) (t : Acts N) (Alike : M → N → Type 0) (LeftMet : M → Type 0) (RightMet : N → Type 0)
    (meet : ActsMeet G s t Alike LeftMet RightMet) where
  -- two states go together
  abbrev pub StatesMeet : State M → State N → Type 0
  StatesMeet x y = Together (AtOnePlace Alike) (λ x. LeftMet x.store) (λ y. RightMet y.store) x y

  stand : {m : M} {n : N} (fs gs : List Frame) → fs ≡ gs → Alike m n → StatesMeet (with fs m) (with gs n)
  stand {m} {n} fs gs e r = subst (λ (hs : List Frame). StatesMeet (with fs m) (with hs n)) e (alike (standing fs r))

  gone_back_meets : {m : M} {n : N} (fs : List Frame) (value : Option Value) → Alike m n → StatesMeet (gone_back s fs value m) (gone_back t fs value n)
  gone_back_meets [] value r = alike (standing [] r)
  gone_back_meets {m} {n} (f ∷ []) value r = alike (standing [] (meet.ended value m n r))
  gone_back_meets {m} {n} (f ∷ g ∷ fs) value r = alike (standing (g ∷ fs) (meet.back f.fun f.target value m n r))

  gone_on_meets : {e : Effect M} {d : Effect N} (target : Option ℕ) (fs : List Frame) → EffectsMeet Alike LeftMet RightMet e d → StatesMeet (gone_on p s target fs e) (gone_on q t target fs d)
  gone_on_meets target fs (both_pass said r) = stand (onward p said fs) (onward q said fs) (c.ways said fs) r
  gone_on_meets target fs (both_call callee r) = stand (frame_of callee target ∷ onward p None fs) (frame_of callee target ∷ onward q None fs)
      (ap (λ (gs : List Frame). frame_of callee target ∷ gs) (c.ways None fs)) r
  gone_on_meets target fs (both_return value r) = gone_back_meets fs value r
  gone_on_meets target fs (both_stay r) = alike (standing fs r)
  gone_on_meets target fs (left_stays l) = left_met l
  gone_on_meets target fs (right_stays l) = right_met l

  -- what two states do next
  abbrev GoTogether : (State M → State M) → (State N → State N) → Type 0
  GoTogether go other = (x : State M) (y : State N) → AtOnePlace Alike x y → StatesMeet (go x) (other y)

  onward_meets : {m : M} {n : N} (go : State M → State M) (other : State N → State N) (fs : List Frame) → GoTogether go other → Alike m n → StatesMeet (go (with (onward p None fs) m)) (other (with (onward q None fs) n))
  onward_meets {m} {n} go other fs together r =
      subst (λ (gs : List Frame). StatesMeet (go (with (onward p None fs) m)) (other (with gs n))) (c.ways None fs)
      (together (with (onward p None fs) m) (with (onward p None fs) n) (standing (onward p None fs) r))

  unless_meets : {m : M} {n : N} (go : State M → State M) (other : State N → State N) (fs : List Frame) (b : Bool) → GoTogether go other → Alike m n → StatesMeet (unless_over go p fs m b) (unless_over other q fs n b)
  unless_meets go other fs true together r = alike (standing fs r)
  unless_meets go other fs false together r = onward_meets go other fs together r

  gap_meets : {m : M} {n : N} (go : State M → State M) (other : State N → State N) (fs : List Frame) → GoTogether go other → Together Alike LeftMet RightMet m n →
      StatesMeet (unless_over go p fs m (s.over m)) (unless_over other q fs n (t.over n))
  gap_meets {m} {n} go other fs together (alike r) =
      subst (λ (b : Bool). StatesMeet (unless_over go p fs m (s.over m)) (unless_over other q fs n b)) (meet.over m n r) (unless_meets go other fs (s.over m) together r)
  gap_meets {m} {n} go other fs together (left_met l) =
      subst (λ (b : Bool). StatesMeet (unless_over go p fs m b) (unless_over other q fs n (t.over n))) (sym (meet.left_over m l)) (left_met l)
  gap_meets {m} {n} go other fs together (right_met l) =
      subst (λ (b : Bool). StatesMeet (unless_over go p fs m (s.over m)) (unless_over other q fs n b)) (sym (meet.right_over n l)) (right_met l)

  spot_meets : {m : M} {n : N} {x y : Spot} (go : State M → State M) (other : State N → State N) (fs : List Frame) → GoTogether go other → SpotsMeet G x y → Alike m n →
      StatesMeet (at_spot p s go x fs m) (at_spot q t other y fs n)
  spot_meets {m} {n} go other fs together (both_gaps {f = f} {g = g} h) r = gap_meets go other fs together (meet.freed f g m n h r)
  spot_meets {m} {n} go other fs together (both_actions {a = a} {b = b} same) r =
      subst (λ (target : Option ℕ). StatesMeet (gone_on p s (target_in a) fs (s.effect a m)) (gone_on q t target fs (t.effect b n))) (target_same a b same)
      (gone_on_meets (target_in a) fs (meet.effect a b m n same r))
  spot_meets go other fs together both_nowhere r = alike (standing fs r)

  pub walked_meets : (k : ℕ) → GoTogether (walked p s k) (walked q t k)
  walked_meets zero _ _ (standing fs r) = alike (standing fs r)
  walked_meets (suc k) _ _ (standing fs r) = spot_meets (walked p s k) (walked q t k) fs (walked_meets k) (c.spots fs) r

  unless_ended_meets : {m : M} {n : N} (fs : List Frame) (b : Bool) → Alike m n → StatesMeet (unless_ended p s (with fs m) b) (unless_ended q t (with fs n) b)
  unless_ended_meets fs true r = alike (standing fs r)
  unless_ended_meets {m} {n} fs false r =
      subst (λ (k : ℕ). StatesMeet (walked p s (p.gaps + 1) (with fs (s.begun m))) (walked q t (k + 1) (with fs (t.begun n)))) c.gaps
      (walked_meets (p.gaps + 1) (with fs (s.begun m)) (with fs (t.begun n)) (standing fs (meet.begun m n r)))

  -- a step keeps it that two states go together
  pub stepped_meets : {x : State M} {y : State N} → StatesMeet x y → StatesMeet (stepped p s x) (stepped q t y)
  stepped_meets (alike (standing {m = m} {n = n} fs r)) =
      subst (λ (b : Bool). StatesMeet (unless_ended p s (with fs m) (s.over m)) (unless_ended q t (with fs n) b)) (meet.over m n r) (unless_ended_meets fs (s.over m) r)
  stepped_meets {x} {y} (left_met l) = subst (λ (b : Bool). StatesMeet (unless_ended p s x b) (stepped q t y)) (sym (meet.left_over x.store l)) (left_met l)
  stepped_meets {x} {y} (right_met l) = subst (λ (b : Bool). StatesMeet (stepped p s x) (unless_ended q t y b)) (sym (meet.right_over y.store l)) (right_met l)
