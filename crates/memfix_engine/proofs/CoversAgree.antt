-- Any two problems of a program have the same covers and the same clauses, since they have the same members.
use Rattle.std.proofs.Common.{◌≡◌, ℕ, ◌==◌, ◌&&◌, not, Bool, true, false, List, [], ◌∷◌, length, map, ap, sym, ◌∙◌, subst}
use Rattle.std.specs.Prelude.{if◌then◌else◌}
use Rattle.std.proofs.Math.Path.{fun_ext}
use Rattle.std.specs.Cmp.{both_ways}
use Rattle.std.specs.List.{filter, range_with_len}
use Rattle.c_tree.specs.declared.choice.Choice.{Choice}
use Rattle.c_tree.specs.declared.program.Program.{Program}
use Rattle.mf_set.specs.Numbers.{Numbers, has as has_number}
use Rattle.sat_log.specs.declared.problem.Lit.{Lit}
use Rattle.ts_domain.specs.declared.names.Names.{Names}
use Rattle.ts_domain.specs.declared.triples.Triple.{Triple}
use Rattle.ts_domain.specs.Cover.{Covers, IsHeld}
use Rattle.cover_problem.specs.declared.types.Problem.{Problem}
use Rattle.cover_problem.specs.Covering.{is_held, is_usable}
use Rattle.cover_problem.specs.Problem.{AtExit, IsCoverOf}
use Rattle.cover_problem.proofs.Members.{any_at, any_from}
use Rattle.cover_clauses.specs.Clauses.{literal, not_both, of_exit, of_pair, of_triple, one_of, HasMore, IsClause}
use Rattle.memfix_engine.specs.Analysis.{IsProblemIn}
use Rattle.memfix_engine.proofs.DerivedAgree.{derived_agree, Alike}

module _ (q r : Problem) (same : Alike q r) where
  -- a set of candidates at an exit of the second is one of the first
  exit_back : (c : Numbers) → AtExit r c → AtExit q c
  exit_back c (e, listed, is) = (e, (same.exits e).1 listed, is)

  -- and the other way round
  exit_on : (c : Numbers) → AtExit q c → AtExit r c
  exit_on c (e, listed, is) = (e, (same.exits e).0 listed, is)

  -- covers

  -- a put that the first holds, the second holds
  held_on : (k : ℕ) → IsHeld q.derived k → IsHeld r.derived k
  held_on k (t, listed, there) = (t, (same.triples t).0 listed, there)

  -- a cover of the first is one of the second
  cover_leads : (s : Choice) → IsCoverOf q s → IsCoverOf r s
  cover_leads s is =
      let covers : Covers (has_number r.allowed.items) (AtExit r) q.names r.derived s = record {
        named = is.named;
        allowed = λ k c. sym (same.allowed k) ∙ is.allowed k c;
        unforbidden = λ k c. sym (same.forbidden k) ∙ is.unforbidden k c;
        held = λ k c. held_on k (is.held k c);
        apart = λ j k c. is.apart j k ((same.pairs (j, k)).1 c);
        at_most_one = λ t c. is.at_most_one t ((same.triples t).1 c);
        one_at_exits = λ c e. is.one_at_exits c (exit_back c e);
      } in
      subst (λ (m : Names). Covers (has_number r.allowed.items) (AtExit r) m r.derived s) same.names covers

  -- clauses

  -- both hold the same puts, as it is computed
  held_alike : (k : ℕ) → is_held q.derived.triples k ≡ is_held r.derived.triples k
  held_alike k =
      both_ways (is_held q.derived.triples k) (is_held r.derived.triples k)
      (λ there. let x = any_at (λ (t : Triple). has_number t.puts.items k) q.derived.triples there in any_from (λ (t : Triple). has_number t.puts.items k) r.derived.triples x.0 ((same.triples x.0).0 x.1) x.2)
      (λ there. let x = any_at (λ (t : Triple). has_number t.puts.items k) r.derived.triples there in any_from (λ (t : Triple). has_number t.puts.items k) q.derived.triples x.0 ((same.triples x.0).1 x.1) x.2)

  -- a put, from whether it is allowed, forbidden and held
  abbrev UsableFrom : Bool → Bool → Bool → Bool
  UsableFrom allowed forbidden held = allowed && (not forbidden && held)

  -- a put is usable in both or in none
  usable_at : (k : ℕ) → is_usable q k ≡ is_usable r k
  usable_at k =
      ap (λ b. UsableFrom b (has_number q.derived.forbidden.items k) (is_held q.derived.triples k)) (same.allowed k)
      ∙ ap (λ b. UsableFrom (has_number r.allowed.items k) b (is_held q.derived.triples k)) (same.forbidden k)
      ∙ ap (UsableFrom (has_number r.allowed.items k) (has_number r.derived.forbidden.items k)) (held_alike k)

  -- so the test is the same
  usable_alike : is_usable q ≡ is_usable r
  usable_alike = fun_ext usable_at

  -- and with it the variables
  literal_alike : (sign : Bool) (k : ℕ) → literal q sign k ≡ literal r sign k
  literal_alike sign k = λ i. record { var = length (filter (usable_alike i) (range_with_len 0 k)); yes = sign }

  -- the clause of candidates at an exit is the same
  one_alike : (ks : List ℕ) → one_of q (filter (is_usable q) ks) ≡ one_of r (filter (is_usable r) ks)
  one_alike ks =
      ap (λ (test : ℕ → Bool). one_of q (filter test ks)) usable_alike
      ∙ ap (λ (lit : ℕ → Lit). map lit (filter (is_usable r) ks)) (fun_ext (literal_alike true))

  -- and so is that of two puts
  both_alike : (j k : ℕ) → not_both q j k ≡ not_both r j k
  both_alike j k = ap (λ (lit : ℕ → Lit). if j == k then lit j ∷ [] else lit j ∷ lit k ∷ []) (fun_ext (literal_alike false))

  -- a clause of the first is one of the second
  clause_leads : (l : List Lit) → IsClause q l → IsClause r l
  clause_leads l (of_exit c e) = subst (IsClause r) (sym (one_alike c.items)) (of_exit c (exit_on c e))
  clause_leads l (of_pair j k c uj uk) =
      subst (IsClause r) (sym (both_alike j k)) (of_pair j k ((same.pairs (j, k)).0 c) (sym (usable_at j) ∙ uj) (sym (usable_at k) ∙ uk))
  clause_leads l (of_triple t j k c hj hk less uj uk) =
      subst (IsClause r) (sym (both_alike j k)) (of_triple t j k ((same.triples t).0 c) hj hk less (sym (usable_at j) ∙ uj) (sym (usable_at k) ∙ uk))

  -- so many clauses has the second too
  more_lead : (l : ℕ) → HasMore q l → HasMore r l
  more_lead l x = record { list = x.list; each = λ c listed. clause_leads c (x.each c listed); once = x.once; more = x.more }

-- a cover of one problem of a program is a cover of any other
pub covers_agree : (p : Program) (q r : Problem) (s : Choice) → IsProblemIn p q → IsProblemIn p r → IsCoverOf q s → IsCoverOf r s
covers_agree p q r s one two = cover_leads q r (derived_agree p q r one two) s

-- and where one has more clauses than a number, so has any other
pub more_agree : (p : Program) (q r : Problem) (l : ℕ) → IsProblemIn p q → IsProblemIn p r → HasMore q l → HasMore r l
more_agree p q r l one two = more_lead q r (derived_agree p q r one two) l
