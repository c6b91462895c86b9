-- What fails by the places of edges and marks is what fails at the node.
use Rattle.std.proofs.Common.{◌≡◌, ℕ, Bool, true, false, ◌==◌, ◌&&◌, ◌||◌, not, List, [], ◌∷◌, Option, refl, ap, sym, ◌∙◌, subst}
use Rattle.std.proofs.Math.Path.{fun_ext}
use Rattle.std.specs.List.{list_any}
use Rattle.c_tree.specs.Typing.{has}
use Rattle.c_tree.specs.declared.program.Free.{Free}
use Rattle.c_graph.specs.declared.graph.Edge.{Edge}
use Rattle.ts_domain.specs.declared.facts.Facts.{Facts}
use Rattle.ts_domain.specs.declared.marks.Mark.{Mark}
use Rattle.ts_domain.specs.Deeds.{edge_deeds, is_null}
use Rattle.ts_domain.specs.Cover.{is_exit_at}
use Rattle.ts_domain.specs.Rows.{row}
use Rattle.ts_domain.specs.Post.{at_edge, is_wide_edge, post}
use Rattle.cover_certificate.specs.declared.types.CertMark.{CertMark}
use Rattle.cover_certificate.specs.Closed.{adds_fact, adds_flow, facts_of, failing, frees_at, frees_twice, is_false_at_start, is_matched, is_readable, is_undecided, is_unfreed, is_unsure, lacks_birth, lacks_post, named, names_freed, reads_when_freed, says_no_more, some_edge, some_mark, touches}
use Rattle.cert_checker.specs.declared.checking.Checking.{Checking}
use Rattle.cert_checker.specs.declared.checking.Question.{Question}
use Rattle.cert_checker.specs.declared.checking.Question.TheVariants as question
use Rattle.cert_checker.specs.Checking.{any_at, asked, behind_two, edge_fails, edges_failing, is_unsure_by, mark_fails, matched_by, reasons, IsReady}
use Rattle.cert_checker.proofs.Places.{edges_by_row, marks_by_row}

and_false : (a : Bool) → false ≡ (a && false)
and_false true = refl
and_false false = refl

cons_same : {A : Type 0} {a b : A} {xs ys : List A} → a ≡ b → xs ≡ ys → a ∷ xs ≡ b ∷ ys
cons_same {A} {a} {b} {xs} {ys} head tail = ap (λ (z : A). z ∷ xs) head ∙ ap (λ (zs : List A). b ∷ zs) tail

module _ (k : Checking) (ready : IsReady k) where
  pub matched_same : matched_by k ≡ is_matched k.cert.now
  matched_same = fun_ext (λ v. fun_ext (λ m. fun_ext (λ freed. marks_by_row k.cert.now k.marks.now ready.marks v (says_no_more m freed))))

  touch_same : (ks : List (Option ℕ)) (e : Edge) (m : CertMark) → mark_fails k question.Touch ks e m ≡ touches k.names.now k.graph.now k.facts.now e m
  touch_same ks e m = by_wide (is_wide_edge k.names.now k.graph.now k.facts.now e m.mark) refl
    where
      by_wide : (b : Bool) → is_wide_edge k.names.now k.graph.now k.facts.now e m.mark ≡ b → mark_fails k question.Touch ks e m ≡ touches k.names.now k.graph.now k.facts.now e m
      by_wide true is = rw is (and_false m.freed)
      by_wide false is = rw is refl

  post_same : (ks : List (Option ℕ)) (e : Edge) (m : CertMark) → mark_fails k question.Post ks e m ≡ lacks_post k.names.now k.graph.now k.facts.now (matched_by k) ks e m
  post_same ks e m = by_wide (is_wide_edge k.names.now k.graph.now k.facts.now e m.mark) refl
    where
      by_wide : (b : Bool) → is_wide_edge k.names.now k.graph.now k.facts.now e m.mark ≡ b → mark_fails k question.Post ks e m ≡ lacks_post k.names.now k.graph.now k.facts.now (matched_by k) ks e m
      by_wide true is = rw is refl
      by_wide false is = rw is refl

  -- over edges from a node

  flows_same : (ks : List (Option ℕ)) (v : ℕ) → edges_failing k question.Flow ks v ≡ some_edge k.graph.now v (λ (e : Edge). list_any (adds_flow (at_edge k.names.now k.graph.now (facts_of k.cert.now) e)) (edge_deeds k.names.now k.graph.now e))
  flows_same ks v =
      edges_by_row k.graph.now k.edges.now ready.edges v (edge_fails k question.Flow ks (row k.marks.now v))
      ∙ ap (λ (f : Facts). some_edge k.graph.now v (λ (e : Edge). list_any (adds_flow (at_edge k.names.now k.graph.now f e)) (edge_deeds k.names.now k.graph.now e))) ready.facts

  facts_same : (ks : List (Option ℕ)) (v : ℕ) → edges_failing k question.Fact ks v ≡ some_edge k.graph.now v (adds_fact k.names.now k.graph.now k.cert.now.path)
  facts_same ks v = edges_by_row k.graph.now k.edges.now ready.edges v (edge_fails k question.Fact ks (row k.marks.now v))

  births_same : (ks : List (Option ℕ)) (v : ℕ) → edges_failing k question.Birth ks v ≡ some_edge k.graph.now v (lacks_birth k.names.now k.graph.now (facts_of k.cert.now) (is_matched k.cert.now))
  births_same ks v =
      edges_by_row k.graph.now k.edges.now ready.edges v (edge_fails k question.Birth ks (row k.marks.now v))
      ∙ ap (λ (f : Facts). some_edge k.graph.now v (lacks_birth k.names.now k.graph.now f (matched_by k))) ready.facts
      ∙ ap (λ (matched : ℕ → Mark → Bool → Bool). some_edge k.graph.now v (lacks_birth k.names.now k.graph.now (facts_of k.cert.now) matched)) matched_same

  marks_same : (test : CertMark → Bool) (v : ℕ) → any_at test k.cert.now.marks (row k.marks.now v) ≡ some_mark k.cert.now v test
  marks_same test v = marks_by_row k.cert.now k.marks.now ready.marks v test

  touches_same : (ks : List (Option ℕ)) (v : ℕ) → edges_failing k question.Touch ks v ≡ some_edge k.graph.now v (λ (e : Edge). some_mark k.cert.now v (touches k.names.now k.graph.now (facts_of k.cert.now) e))
  touches_same ks v =
      edges_by_row k.graph.now k.edges.now ready.edges v (edge_fails k question.Touch ks (row k.marks.now v))
      ∙ ap (some_edge k.graph.now v) (fun_ext (λ e. marks_same (mark_fails k question.Touch ks e) v ∙ ap (some_mark k.cert.now v) (fun_ext (λ m. touch_same ks e m))))
      ∙ ap (λ (f : Facts). some_edge k.graph.now v (λ (e : Edge). some_mark k.cert.now v (touches k.names.now k.graph.now f e))) ready.facts

  posts_same : (ks : List (Option ℕ)) (v : ℕ) → edges_failing k question.Post ks v ≡ some_edge k.graph.now v (λ (e : Edge). some_mark k.cert.now v (lacks_post k.names.now k.graph.now (facts_of k.cert.now) (is_matched k.cert.now) ks e))
  posts_same ks v =
      edges_by_row k.graph.now k.edges.now ready.edges v (edge_fails k question.Post ks (row k.marks.now v))
      ∙ ap (some_edge k.graph.now v) (fun_ext (λ e. marks_same (mark_fails k question.Post ks e) v ∙ ap (some_mark k.cert.now v) (fun_ext (λ m. post_same ks e m))))
      ∙ ap (λ (f : Facts). some_edge k.graph.now v (λ (e : Edge). some_mark k.cert.now v (lacks_post k.names.now k.graph.now f (matched_by k) ks e))) ready.facts
      ∙ ap (λ (matched : ℕ → Mark → Bool → Bool). some_edge k.graph.now v (λ (e : Edge). some_mark k.cert.now v (lacks_post k.names.now k.graph.now (facts_of k.cert.now) matched ks e))) matched_same

  -- frees

  unsure_same : (v : ℕ) → list_any (is_unsure_by k v (row k.marks.now v)) (frees_at k.graph.now v) ≡ list_any (is_unsure k.names.now k.cert.now v) (frees_at k.graph.now v)
  unsure_same v = ap (λ (test : Free → Bool). list_any test (frees_at k.graph.now v)) (fun_ext (λ (f : Free).
      ap (λ (test : ℕ → Bool). not (is_null f.expr) && not (has test (named k.names.now f.expr))) (fun_ext (λ (x : ℕ).
      ap (λ (b : Bool). is_readable k.names.now k.cert.now.path v x && not b) (marks_same (is_undecided x) v)))))

  -- all conditions from the second on

  pub reasons_same : (reached : Bool) (v : ℕ) → reasons k reached v ≡ asked reached 2 (behind_two (failing k.names.now k.graph.now k.cert.now v))
  reasons_same reached v =
      let ks = names_freed k.names.now k.graph.now v in
      cons_same (flows_same ks v)
      (cons_same (ap (λ (b : Bool). reached && (v == 0 && is_false_at_start k.names.now k.cert.now.path || b)) (facts_same ks v))
      (cons_same (ap (λ (b : Bool). reached && b) (births_same ks v))
      (cons_same (touches_same ks v)
      (cons_same (unsure_same v)
      (cons_same (marks_same (reads_when_freed k.names.now ks) v)
      (cons_same (marks_same (frees_twice ks) v)
      (cons_same (posts_same ks v)
      (cons_same (ap (λ (b : Bool). is_exit_at k.graph.now v && b) (marks_same is_unfreed v)) refl))))))))
