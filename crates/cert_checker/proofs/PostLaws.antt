-- What is said of a mark over an edge, from a gap and from another node.
use Rattle.std.proofs.Common.{◌≡◌, ℕ, Bool, true, false, cond, ◌&&◌, ◌||◌, not, List, [], ◌∷◌, Option, refl}
use Rattle.c_graph.specs.declared.graph.Edge.{Edge}
use Rattle.ts_domain.specs.declared.deed.Deed.{Deed}
use Rattle.ts_domain.specs.Deeds.{edge_deeds}
use Rattle.ts_domain.specs.Marks.{step}
use Rattle.ts_domain.specs.Post.{at_edge, deeds_post, first_entry, is_wide, leaves_gap}
use Rattle.cover_certificate.specs.declared.types.CertMark.{CertMark}
use Rattle.cover_certificate.specs.Closed.{freed_behind}
use Rattle.cert_checker.specs.declared.checking.Checking.{Checking}
use Rattle.cert_checker.specs.declared.checking.Question.{Question}
use Rattle.cert_checker.specs.declared.checking.Question.TheVariants as question
use Rattle.cert_checker.specs.Checking.{is_post, is_told, mark_fails, matched_by}

or_false : (a : Bool) → a ≡ (a || false)
or_false true = refl
or_false false = refl

and_false : (a : Bool) → false ≡ (a && false)
and_false true = refl
and_false false = refl

pub gap_post : (k : Checking) (v : ℕ) (m : CertMark) (freed : Bool) → not (matched_by k v m.mark freed) ≡ is_told k question.Post v m freed (step m.mark false ∷ [])
gap_post k v m freed = or_false (not (matched_by k v m.mark freed))

pub gap_touch : (k : Checking) (v : ℕ) (m : CertMark) (freed : Bool) → false ≡ is_told k question.Touch v m freed (step m.mark false ∷ [])
gap_touch k v m freed = and_false m.freed

module _ (k : Checking) (q : Question) (ks : List (Option ℕ)) (e : Edge) (m : CertMark) where
  pub from_gap : leaves_gap k.graph.now e ≡ true → is_told k q e.to m (freed_behind m.mark ks m.freed) (step m.mark false ∷ []) ≡ mark_fails k q ks e m
  from_gap gap = rw gap refl

  pub from_other : (ds : List Deed) → leaves_gap k.graph.now e ≡ false → ds ≡ edge_deeds k.names.now k.graph.now e →
      cond (is_wide (at_edge k.names.now k.graph.now k.facts.now e) ds 0 (first_entry m.mark ∷ [])) (is_post q)
      (is_told k q e.to m (freed_behind m.mark ks m.freed) (deeds_post (at_edge k.names.now k.graph.now k.facts.now e) ds m.mark))
      ≡ mark_fails k q ks e m
  from_other ds other is = rw (other, is) refl
