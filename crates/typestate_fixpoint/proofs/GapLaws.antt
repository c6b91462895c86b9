-- What becomes of candidates, forbidden puts and pairs at a gap.
use Rattle.std.proofs.Common.{◌≡◌, ℕ, suc, ◌+◌, ◌<◌, ◌||◌, Bool, true, false, cond, eqb, List, [], ◌∷◌, ◌++◌, drop, length, map, slice_get, get_or, Option, None, Some, refl, ap, sym, subst, ◌∙◌, drop-cons, arith}
use Rattle.std.proofs.Math.Path.{fun_ext}
use Rattle.std.proofs.lemmas.Option.{slice_get-map, slice_get_within}
use Rattle.std.proofs.lemmas.List.{length-map}
use Rattle.std.proofs.lemmas.List.Elements.{Contains-get_or}
use Rattle.std.specs.Option.{option_and_then, option_map}
use Rattle.mf_set.specs.Numbers.{Numbers, has as has_number, with_number}
use Rattle.mf_set.proofs.NumberLaws.{has-with_number, has-Contains, Contains-has}
use Rattle.c_tree.specs.declared.choice.Put.{Put}
use Rattle.c_graph.specs.declared.graph.Graph.{Graph}
use Rattle.ts_domain.specs.declared.marks.Mark.{Mark}
use Rattle.ts_domain.specs.declared.marks.Verdict.{Verdict}
use Rattle.ts_domain.specs.declared.names.Names.{Names}
use Rattle.ts_domain.specs.declared.triples.Triple.{Triple}
use Rattle.typestate_fixpoint.specs.Worklist.{behind_set}
use Rattle.ts_domain.specs.Derived.{base, behind, forbidden_at, forbids, freed, freed_verdict, gap_at, gap_puts, gathered, joined, pairs_at, may_follow, put_follows, put_gap, put_verdict, puts_at}
use Rattle.ts_domain.specs.Marks.{only_if}
use Rattle.ts_domain.specs.Rows.{places_of}
use Rattle.typestate_fixpoint.specs.declared.freed.Freed.{Freed}
use Rattle.typestate_fixpoint.specs.declared.freed.Puts.{Puts}
use Rattle.typestate_fixpoint.specs.Gaps.{follows_in, freed_of, row_at, verdict_in, AreBelow, ArePuts, HasMore, HasSame}
use Rattle.ts_domain.proofs.DerivedLaws.{puts_below}

-- forbidden puts

or_turned : (a b c : Bool) → ((a || b) || c) ≡ (b || (a || c))
or_turned true true c = refl
or_turned true false c = refl
or_turned false true c = refl
or_turned false false c = refl

forbid_by : (b : Bool) (k : ℕ) (rest : List ℕ) (s : Numbers) (j : ℕ) → (has_number (cond b (with_number s.items k) s.items) j || has_number rest j) ≡ (has_number s.items j || has_number (only_if b k ++ rest) j)
forbid_by true k rest s j = ap (λ x. x || has_number rest j) (has-with_number s.items k j) ∙ or_turned (eqb k j) (has_number s.items j) (has_number rest j)
forbid_by false k rest s j = refl

pub forbid_next : (v : ℕ → Verdict) (row all held : List ℕ) (i : ℕ) (old s t : Numbers) → i < length row → HasSame all (forbidden_at v (drop i row) held) old s
    → t ≡ (let u : Numbers = record { items = cond (forbids (v (get_or row i 0)) (has_number held (get_or row i 0))) (with_number s.items (get_or row i 0)) s.items; room = s.room } in u)
    → HasSame all (forbidden_at v (drop (i + 1) row) (joined (v (get_or row i 0)) (get_or row i 0) held)) old t
forbid_next v row all held i old s t l is made =
    let k = get_or row i 0 in
    let next : suc i ≡ i + 1 = omega arith in
    let left : drop i row ≡ k ∷ drop (i + 1) row = drop-cons row i 0 l ∙ ap (λ m. k ∷ drop m row) next in
    let b = forbids (v k) (has_number held k) in
    let rest = forbidden_at v (drop (i + 1) row) (joined (v k) k held) in
    record {
      room = ap (λ (x : Numbers). x.room) made ∙ is.room;
      members = λ j.
          ap (λ (x : Numbers). has_number x.items j || has_number rest j) made
          ∙ forbid_by b k rest s j
          ∙ ap (λ ks. has_number s.items j || has_number (forbidden_at v ks held) j) (sym left)
          ∙ is.members j;
    }

or_none : (a : Bool) → (a || false) ≡ a
or_none true = refl
or_none false = refl

pub forbid_done : (all : List ℕ) (old s : Numbers) → HasSame all [] old s → HasMore all old s
forbid_done all old s is = record { room = is.room; members = λ j. sym (or_none (has_number s.items j)) ∙ is.members j }

-- look-ups

expression_by : (n : Names) (o : Option Put) → option_and_then (λ (x : Freed). x.expression) (option_map (freed_of n) o) ≡ option_and_then (freed n) o
expression_by n None = refl
expression_by n (Some q) = refl

base_by : (n : Names) (o : Option Put) → option_and_then (λ (x : Freed). x.base) (option_map (freed_of n) o) ≡ option_and_then (base n) o
base_by n None = refl
base_by n (Some q) = refl

freed_there : (n : Names) (p : Puts) (k : ℕ) → ArePuts n p → slice_get p.freed k ≡ option_map (freed_of n) (slice_get n.puts k)
freed_there n p k are = ap (λ xs. slice_get xs k) are.freed ∙ slice_get-map (freed_of n) n.puts k

pub verdicts_are : (n : Names) (p : Puts) (m : Mark) → ArePuts n p → verdict_in p m ≡ put_verdict n m
verdicts_are n p m are = fun_ext (λ k. ap (freed_verdict m) (ap (option_and_then (λ (x : Freed). x.expression)) (freed_there n p k are) ∙ expression_by n (slice_get n.puts k)))

pub follows_are : (n : Names) (p : Puts) (m : Mark) → ArePuts n p → follows_in p m ≡ put_follows n m
follows_are n p m are = fun_ext (λ k. ap (may_follow m) (ap (option_and_then (λ (x : Freed). x.base)) (freed_there n p k are) ∙ base_by n (slice_get n.puts k)))

row_by : (n : Names) (p : Puts) (o : Option ℕ) → ArePuts n p → row_at p o ≡ gap_puts n o
row_by n p None are = refl
row_by n p (Some gap) are = are.rows gap

pub row_is : (n : Names) (g : Graph) (p : Puts) (v : ℕ) → ArePuts n p → row_at p (gap_at g v) ≡ puts_at n g v
row_is n g p v are = row_by n p (gap_at g v) are

pub all_below : (n : Names) (g : Graph) (v : ℕ) → AreBelow (length n.puts) (puts_at n g v)
all_below n g v i d l = puts_below n g v (get_or (puts_at n g v) i d) (has_self (puts_at n g v) i d l)
  where
    has_self : (xs : List ℕ) (i d : ℕ) → i < length xs → has_number xs (get_or xs i d) ≡ true
    has_self xs i d l = Contains-has xs (get_or xs i d) (Contains-get_or xs i d l)

-- the puts of a node as they are looked up

pub row_below : (n : Names) (g : Graph) (p : Puts) (v room : ℕ) (row : List ℕ) → ArePuts n p → room ≡ length n.puts → row ≡ row_at p (gap_at g v) → AreBelow room row
row_below n g p v room row are is looked = subst (λ m. AreBelow m row) (sym is) (subst (AreBelow (length n.puts)) (sym (looked ∙ row_is n g p v are)) (all_below n g v))

-- what is looked up is what the definition says

pub forbids_are : (n : Names) (g : Graph) (p : Puts) (t : Triple) (row : List ℕ) → ArePuts n p → row ≡ row_at p (gap_at g t.node)
    → forbidden_at (verdict_in p t.mark) row t.puts.items ≡ forbidden_at (put_verdict n t.mark) (puts_at n g t.node) t.puts.items
forbids_are n g p t row are looked = ap (λ v. forbidden_at v row t.puts.items) (verdicts_are n p t.mark are) ∙ ap (λ ks. forbidden_at (put_verdict n t.mark) ks t.puts.items) (looked ∙ row_is n g p t.node are)

pub pairs_are : (n : Names) (g : Graph) (p : Puts) (t : Triple) (row : List ℕ) → ArePuts n p → row ≡ row_at p (gap_at g t.node)
    → pairs_at (verdict_in p t.mark) (follows_in p t.mark) row t.puts.items ≡ pairs_at (put_verdict n t.mark) (put_follows n t.mark) (puts_at n g t.node) t.puts.items
pairs_are n g p t row are looked =
    ap (λ v. pairs_at v (follows_in p t.mark) row t.puts.items) (verdicts_are n p t.mark are)
    ∙ ap (λ b. pairs_at (put_verdict n t.mark) b row t.puts.items) (follows_are n p t.mark are)
    ∙ ap (λ ks. pairs_at (put_verdict n t.mark) (put_follows n t.mark) ks t.puts.items) (looked ∙ row_is n g p t.node are)

pub behind_is : (n : Names) (g : Graph) (p : Puts) (t : Triple) (row : List ℕ) (held : Numbers) → ArePuts n p → t.puts.room ≡ length n.puts → row ≡ row_at p (gap_at g t.node)
    → held ≡ (let s : Numbers = record { items = gathered (verdict_in p t.mark) row t.puts.items; room = t.puts.room } in s) → held ≡ behind_set n g t
behind_is n g p t row held are room looked is =
    let same : gathered (verdict_in p t.mark) row t.puts.items ≡ behind n g t =
    ap (λ v. gathered v row t.puts.items) (verdicts_are n p t.mark are) ∙ ap (λ ks. gathered (put_verdict n t.mark) ks t.puts.items) (looked ∙ row_is n g p t.node are) in
    is ∙ (λ i. record { items = same i; room = room i })
