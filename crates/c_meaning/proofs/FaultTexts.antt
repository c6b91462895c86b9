-- Each fault has its text, and each text one fault.
use Rattle.std.proofs.Common.{◌≡◌, ◌↔◌, ℕ, Bool, true, false, cond, nat_eq, List, [], ◌∷◌, Some, refl, sym, ap, ◌∙◌}
use Rattle.std.specs.List.{find}
use Rattle.std.specs.Cmp.Lexicographic.{pointwise, bytes_decides}
use Rattle.c_meaning.specs.declared.machine.Kind.{Kind}
use Rattle.c_meaning.specs.declared.machine.Kind.TheVariants.{NullDeref, Bounds, Uninit, UseAfterFree, Overflow, DivZero, DoubleFree}
use Rattle.c_meaning.specs.Texts.{text_of, faults, fault_of}

fault_of-text_of : (k : Kind) → fault_of (text_of k) ≡ Some k
fault_of-text_of NullDeref = refl
fault_of-text_of Bounds = refl
fault_of-text_of Uninit = refl
fault_of-text_of UseAfterFree = refl
fault_of-text_of Overflow = refl
fault_of-text_of DivZero = refl
fault_of-text_of DoubleFree = refl

find_passes : (p : Kind → Bool) (xs : List Kind) (k : Kind) → find p xs ≡ Some k → p k ≡ true
find_passes p [] k h = absurd (cc)
find_passes p (x ∷ xs) k h = by_test (p x) refl (λ g. find_passes p xs k g)
  where
    by_test : (b : Bool) → p x ≡ b → (find p xs ≡ Some k → p k ≡ true) → p k ≡ true
    by_test true e rest = let same : Some x ≡ Some k = ap (λ t. cond t (Some x) (find p xs)) (sym e) ∙ h in let is : x ≡ k = cc in ap p (sym is) ∙ e
    by_test false e rest = rest (ap (λ t. cond t (Some x) (find p xs)) (sym e) ∙ h)

pub fault_of-exactly : (text : List ℕ) (k : Kind) → (fault_of text ≡ Some k) ↔ (text ≡ text_of k)
fault_of-exactly text k = (
  λ h. sym ((bytes_decides (text_of k) text).0 (find_passes (λ f. pointwise nat_eq (text_of f) text) faults k h)),
  λ e. ap fault_of e ∙ fault_of-text_of k,
)
