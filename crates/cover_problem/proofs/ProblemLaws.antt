-- What is computed is the problem.
use Rattle.std.proofs.Common.{◌≡◌, ℕ, zero, suc, Bool, true, false, List, [], ◌∷◌, length, refl, ap, sym, subst, ◌∙◌, arith}
use Rattle.std.specs.List.{Contains}
use Rattle.c_graph.specs.declared.graph.Graph.{Graph}
use Rattle.mf_set.specs.Numbers.{Numbers}
use Rattle.ts_domain.specs.declared.facts.Path.{Path}
use Rattle.ts_domain.specs.declared.names.Names.{Names}
use Rattle.ts_domain.specs.declared.triples.Derived.{Derived}
use Rattle.ts_domain.specs.declared.triples.Triple.{Triple}
use Rattle.ts_domain.specs.Cover.{is_exit_at}
use Rattle.cover_problem.specs.declared.types.Problem.{Problem}
use Rattle.cover_problem.specs.Parts.{exit_if, exits_of, AreAllowed}
use Rattle.cover_problem.specs.Problem.{IsExit, IsProblem}
use Rattle.cover_problem.proofs.Members.{in_flat_map, of_flat_map}

module _ (g : Graph) (d : Derived) where
  exit_by : (e : ℕ × ℕ × Numbers) (t : Triple) → Contains d.triples t → (b : Bool) → is_exit_at g t.node ≡ b → Contains (exit_if b t) e → IsExit g d e
  exit_by e t derived true leaves (zero, l, is) = record { triple = t; derived = derived; leaves = leaves; is = sym is }
  exit_by e t derived true leaves (suc k, l, is) = absurd (omega (arith, l))
  exit_by e t derived false leaves (k, l, is) = absurd (omega (arith, l))

  pub listed_exit : (e : ℕ × ℕ × Numbers) → Contains (exits_of g d.triples) e → IsExit g d e
  listed_exit e h =
      let r = of_flat_map (λ (t : Triple). exit_if (is_exit_at g t.node) t) d.triples e h in
      exit_by e r.part r.listed (is_exit_at g r.part.node) refl r.inside

  pub exit_listed : (e : ℕ × ℕ × Numbers) → IsExit g d e → Contains (exits_of g d.triples) e
  exit_listed e x =
      let only : Contains (exit_if true x.triple) e = (0, omega arith, sym x.is) in
      in_flat_map (λ (t : Triple). exit_if (is_exit_at g t.node) t) d.triples x.triple e x.derived (subst (λ b. Contains (exit_if b x.triple) e) (sym x.leaves) only)

pub problem_made : (g : Graph) (n : Names) (p : Path) (d : Derived) (q : Problem) → q.names ≡ n → q.derived ≡ d → AreAllowed g n p q.allowed → q.exits ≡ exits_of g d.triples → IsProblem g n p d q
problem_made g n p d q names derived allowed exits = record {
  names = names;
  derived = derived;
  room = allowed.room;
  allowed = allowed.members;
  exits = λ e. (λ h. listed_exit g d e (subst (λ (es : List (ℕ × ℕ × Numbers)). Contains es e) exits h), λ x. subst (λ (es : List (ℕ × ℕ × Numbers)). Contains es e) (sym exits) (exit_listed g d e x));
}
