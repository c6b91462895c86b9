-- The frees of a gap: where bits say which objects are freed by then, and none of the frees meets a freed object, all of them are done, and the
-- bits are right behind them.
use Rattle.std.proofs.Common.{◌≡◌, ℕ, ◌<◌, ◌==◌, ⊎_elim, Bool, true, false, List, [], ◌∷◌, length, refl, ap, sym, subst, ◌∙◌}
use Rattle.std.specs.Prelude.{if◌then◌else◌}
use Rattle.std.proofs.lemmas.Bool.{eqb-true, eqb-false}
use Rattle.c_tree.specs.declared.program.Free.{Free}
use Rattle.c_tree.specs.declared.program.Program.{Program}
use Rattle.c_meaning.specs.declared.value.Value.{Value}
use Rattle.c_meaning.specs.declared.value.Value.TheVariants as value
use Rattle.c_meaning.specs.Eval.{is_freed}
use Rattle.c_meaning.specs.Effects.{is_over, freed, all_freed}
use Rattle.c_meaning.specs.Machine.{Store, marked_freed, deallocated}
use Rattle.c_graph.specs.declared.graph.Graph.{Graph}
use Rattle.c_graph.specs.declared.graph.NodeKind.{NodeKind}
use Rattle.c_graph.specs.declared.graph.NodeKind.TheVariants as kind
use Rattle.c_graph.specs.Executes.{Faults, by_free, by_action}
use Rattle.call_contexts.proofs.Has.{Has, first, later}
use Rattle.ts_domain.specs.declared.fact.Fact.TheVariants.{Ready, Full, Filled}
use Rattle.ts_domain.specs.declared.names.Names.{Names}
use Rattle.ts_domain.specs.PeekedFrees.{FreesContent, nothing, frees, frees_twice, IsNumber, IsFieldOf, IsReadable, IsSure, KeepsBits, AreBits}
use Rattle.ts_domain.specs.Truth.{IsTrueOf}
use Rattle.ts_domain.specs.Views.{AreNames, View, view_of, peek}
use Rattle.ts_domain.proofs.FaultReads.{freed_within}
use Rattle.ts_domain.proofs.NamedFrees.{free_frees_peeked}
use Rattle.ts_domain.proofs.PeekedFrees.{null_frees, freed_now, freed_as_before, freed_view}
use Rattle.ts_domain.proofs.Stores.{altered_many}

module _ (p : Program) (g : Graph) (n : Names) (names : AreNames p g n) (sites : List ℕ) (v : View) (P : ℕ → Bool → List Free → Type 0) (keeps : KeepsBits n v P) where
  -- behind one free
  record IsBehind (fs : List Free) (t : Store) : Type 0 where
    going : is_over t.ending ≡ false
    bits : AreBits n v P fs t

  content_behind : (f : Free) (fs : List Free) (m word : ℕ) (s t : Store) (c : Value) → IsNumber n v f.expr m → FreesContent s word c t → c ≡ peek n v m → is_over s.ending ≡ false → AreBits n v P (f ∷ fs) s → IsBehind fs t
  content_behind f fs m word s _ _ number nothing is going bits =
      record { going = going; bits = λ o low. keeps.other o (is_freed s.objects o) f fs m number (λ held. let never : value.Null ≡ value.Ptr o = is ∙ held in absurd cc) (bits o low) }
  content_behind f fs m word s _ _ number (frees q alive) is going bits = record { going = going; bits = λ o low. by_object o (subst (λ (k : ℕ). o < k) (altered_many marked_freed q s.objects) low) (q == o) refl }
    where
      by_object : (o : ℕ) → o < length s.objects → (b : Bool) → q == o ≡ b → P o (is_freed (deallocated q s).objects o) fs
      by_object o low true here =
          let same : q ≡ o = eqb-true q o here in
          let held : peek n v m ≡ value.Ptr o = sym is ∙ ap (λ (k : ℕ). value.Ptr k) same in
          let now : is_freed (deallocated q s).objects o ≡ true = ap (λ (k : ℕ). is_freed (deallocated k s).objects o) same ∙ freed_now s o low in
          subst (λ (b : Bool). P o b fs) (sym now) (keeps.frees o (is_freed s.objects o) f fs m number held (bits o low)).1
      by_object o low false there =
          let apart : q ≡ o → ⊥ = eqb-false q o there in
          let held : peek n v m ≡ value.Ptr o → ⊥ = λ h. let both : value.Ptr q ≡ value.Ptr o = is ∙ h in let same : q ≡ o = cc in apart same in
          subst (λ (b : Bool). P o b fs) (sym (freed_as_before s q o apart)) (keeps.other o (is_freed s.objects o) f fs m number held (bits o low))
  content_behind f fs m word s _ _ number (frees_twice q is_freed_now) is going bits =
      let it = keeps.frees q (is_freed s.objects q) f fs m number (sym is) (bits q (freed_within s.objects q is_freed_now)) in
      let never : true ≡ false = sym is_freed_now ∙ it.0 in
      absurd cc

  free_behind : (f : Free) (fs : List Free) (s : Store) → view_of n s ≡ v → IsSure n v f → is_over s.ending ≡ false → AreBits n v P (f ∷ fs) s → IsBehind fs (freed f s)
  free_behind f fs s view sure going bits = ⊎_elim
      (λ null. subst (λ (t : Store). IsBehind fs t) (sym (null_frees f s null)) (record { going = going; bits = λ o low. keeps.null o (is_freed s.objects o) f fs null (bits o low) }))
      (λ it. named it.0 it.1 it.2)
      sure
    where
      named : (m : ℕ) → IsNumber n v f.expr m → IsReadable n v m → IsBehind fs (freed f s)
      named m number readable =
          content_behind f fs m f.start s (freed f s) (peek n (view_of n s) m) number
          (free_frees_peeked p g n names sites s f m number.0 number.1 number.2
          (λ low. subst (λ (w : View). IsTrueOf n w (Ready m)) (sym view) (readable.0 low))
          (λ j k h is there.
          let facts = readable.1 j k h is there in (
            subst (λ (w : View). IsTrueOf n w (Full k)) (sym view) facts.0,
            subst (λ (w : View). IsTrueOf n w (Filled j)) (sym view) facts.1,
            λ o held. by_state o (subst (λ (w : View). w.slot k ≡ value.Ptr o) view held) (j, h, is, there) (is_freed s.objects o) refl,
          )))
          (ap (λ (w : View). peek n w m) view) going bits
        where
          by_state : {k : ℕ} (o : ℕ) → v.slot k ≡ value.Ptr o → IsFieldOf n v m k → (b : Bool) → is_freed s.objects o ≡ b → b ≡ false
          by_state o held is_field true freed_is = absurd (keeps.base o f fs m _ number is_field held (subst (λ (b : Bool). P o b (f ∷ fs)) freed_is (bits o (freed_within s.objects o freed_is))))
          by_state o held is_field false freed_is = refl

  -- all frees of a gap are done without a fault, and the bits are right behind them
  pub gap_frees : (fs : List Free) (s : Store) → view_of n s ≡ v → ((f : Free) → Has f fs → IsSure n v f) → is_over s.ending ≡ false → AreBits n v P fs s → (is_over (all_freed fs s).ending ≡ false) × AreBits n v P [] (all_freed fs s)
  gap_frees [] s view sure going bits = (going, bits)
  gap_frees (f ∷ fs) s view sure going bits =
      let it = free_behind f fs s view (sure f first) going bits in
      by_end (is_over (freed f s).ending) it.going (gap_frees fs (freed f s) (freed_view n f s ∙ view) (λ d there. sure d (later there)) it.going it.bits)
    where
      by_end : (b : Bool) → b ≡ false → (is_over (all_freed fs (freed f s)).ending ≡ false) × AreBits n v P [] (all_freed fs (freed f s)) →
          (is_over (if b then freed f s else all_freed fs (freed f s)).ending ≡ false) × AreBits n v P [] (if b then freed f s else all_freed fs (freed f s))
      by_end true is rest = absurd cc
      by_end false is rest = rest

-- so no free of the gap ends the run
pub no_free_faults : {p : Program} {number : ℕ} {fs : List Free} {s t : Store} → is_over (all_freed fs s).ending ≡ false → Faults p s (kind.Gap number fs) t → ⊥
no_free_faults {p = p} {number = number} {fs = fs} {s = s} going fault = by_kind fault refl
  where
    by_kind : {what : NodeKind} {t : Store} → Faults p s what t → what ≡ kind.Gap number fs → ⊥
    by_kind (by_free other list what offset ended) is =
        let same : list ≡ fs = cc in
        let never : true ≡ false = ap is_over (sym ended) ∙ ap (λ (xs : List Free). is_over (all_freed xs s).ending) same ∙ going in
        absurd cc
    by_kind (by_action a i what offset does stop) is = absurd cc
