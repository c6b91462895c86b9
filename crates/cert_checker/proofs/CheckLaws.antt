-- What a check of all nodes says, from what it finds at each.
use Rattle.std.proofs.Common.{◌≡◌, ℕ, zero, suc, ◌<◌, ◌&&◌, Bool, true, List, [], ◌∷◌, length, slice_get, Option, Some, None, sym, subst, ◌∙◌}
use Rattle.std.specs.Prelude.{◌==◌, max}
use Rattle.std.specs.List.{list_all}
use Rattle.std.proofs.lemmas.Bool.{and_parts, eqb-true}
use Rattle.c_tree.specs.WellFormed.{IsWellFormed}
use Rattle.c_tree.specs.declared.program.Program.{Program}
use Rattle.call_contexts.specs.Contexts.{contexts}
use Rattle.c_graph.specs.Nodes.{graph}
use Rattle.c_graph.specs.declared.graph.Graph.{Graph}
use Rattle.mf_set.specs.Numbers.{Numbers}
use Rattle.ts_domain.specs.Facts.{fact_count}
use Rattle.ts_domain.specs.Path.{Reached}
use Rattle.ts_domain.specs.Views.{AreNames}
use Rattle.ts_domain.specs.declared.names.Names.{Names}
use Rattle.cover_certificate.specs.Closed.{IsClosed}
use Rattle.cover_certificate.specs.Regular.{are_facts, are_fields, are_marks, are_vars, has_room, is_regular}
use Rattle.cover_certificate.specs.declared.types.Cert.{Cert}
use Rattle.cert_checker.specs.declared.checking.Checking.{Checking}
use Rattle.cert_checker.specs.Checked.{BrokenAt, MakesSafe}
use Rattle.cert_checker.specs.Checking.{HasRooms, IsReady, first_failing, reasons}
use Rattle.cert_checker.proofs.ClosedSafe.{closed_safe}
use Rattle.cert_checker.proofs.FirstLaws.{first_broken, first_earlier, none_broken}
use Rattle.cert_checker.proofs.ReasonLaws.{reasons_same}

-- the first condition that fails by the rows of a check is the first that is broken
pub broken_is : (k : Checking) (ready : IsReady k) (v : ℕ) (reached : Bool) → is_regular k.names.now k.graph.now k.cert.now ≡ true → (reached ≡ true → Reached k.graph.now v) → (Reached k.graph.now v → reached ≡ true)
    → v < max 1 (length k.graph.now.nodes) → (o : Option ℕ) → o ≡ first_failing 2 (reasons k reached v) → BrokenAt k.names.now k.graph.now k.cert.now v o
broken_is k ready v reached regular to from low None is =
    none_broken k.names.now k.graph.now k.cert.now v reached regular from (subst (λ (bs : List Bool). first_failing 2 bs ≡ None) (reasons_same k ready reached v) (sym is))
broken_is k ready v reached regular to from low (Some r) is =
    let found = subst (λ (bs : List Bool). first_failing 2 bs ≡ Some r) (reasons_same k ready reached v) (sym is) in
    record {
      broken = first_broken k.names.now k.graph.now k.cert.now v reached regular from to low r found;
      least = first_earlier k.names.now k.graph.now k.cert.now v reached regular from r found;
    }

-- an element of a list of which all pass a test
passes_at : {A : Type 0} (test : A → Bool) (xs : List A) (i : ℕ) (x : A) → list_all test xs ≡ true → slice_get xs i ≡ Some x → test x ≡ true
passes_at test [] i x all at = absurd cc
passes_at {A} test (y ∷ ys) zero x all at = let same : y ≡ x = cc in subst (λ (z : A). test z ≡ true) same (and_parts (test y) (list_all test ys) all).0
passes_at test (y ∷ ys) (suc i) x all at = passes_at test ys i x (and_parts (test y) (list_all test ys) all).1 at

-- the sets of facts of a regular certificate have room for all facts
pub rooms_regular : (n : Names) (g : Graph) (c : Cert) → is_regular n g c ≡ true → HasRooms n c.path
rooms_regular n g c regular v s at =
    let behind_vars = (and_parts (are_vars n c.may) (are_fields n g c.may && (are_facts n g c.path && are_marks n g c.marks)) regular).1 in
    let behind_fields = (and_parts (are_fields n g c.may) (are_facts n g c.path && are_marks n g c.marks) behind_vars).1 in
    let facts = (and_parts (are_facts n g c.path) (are_marks n g c.marks) behind_fields).0 in
    let all = (and_parts (length c.path.at == length g.nodes) (list_all (has_room (fact_count (length n.vars) (length n.fields))) c.path.at) facts).1 in
    eqb-true s.room (fact_count (length n.vars) (length n.fields)) (passes_at (has_room (fact_count (length n.vars) (length n.fields))) c.path.at v s all at)

-- a certificate that is closed makes safe
pub makes_safe : (n : Names) (g : Graph) (c : Cert) → IsClosed n g c → MakesSafe n g
makes_safe n g c closed = record {
  safe = λ p w is names. closed_safe p w n (subst (λ (h : Graph). AreNames p h n) is names) c (subst (λ (h : Graph). IsClosed n h c) is closed);
}
