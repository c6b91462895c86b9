-- From the sets that nodes begin with to the facts of paths.
use Rattle.std.proofs.Common.{◌≡◌, ◌≢◌, ℕ, zero, suc, ◌+◌, ◌<◌, ◌≤◌, ◌⊎◌, inl, inr, ⊎_elim, true, false, eqb, List, [], ◌∷◌, ◌++◌, length, take, slice_get, get_or, Some, refl, ap, sym, ◌∙◌, subst, arith, Result, Ok, Err}
use Rattle.std.specs.Prelude.{IfOk}
use Rattle.std.proofs.lemmas.Bool.{true≢false, false≢true, eqb-true, or_cases, cases_eq}
use Rattle.std.proofs.lemmas.List.{length-append, length-take-le}
use Rattle.std.proofs.lemmas.Option.{slice_get-get_or, slice_get_within}
use Rattle.c_tree.specs.Typing.{has}
use Rattle.mf_set.specs.Numbers.{Numbers, has as has_number}
use Rattle.c_graph.specs.declared.graph.Edge.{Edge}
use Rattle.c_graph.specs.declared.graph.Graph.{Graph}
use Rattle.ts_domain.specs.declared.fact.Fact.{Fact}
use Rattle.ts_domain.specs.declared.facts.Path.{Path}
use Rattle.ts_domain.specs.declared.names.Names.{Names}
use Rattle.ts_domain.specs.Facts.{fact_count, is_fact, number_of}
use Rattle.ts_domain.specs.Path.{Fails, IsPath, Reached, here, holds_at, starts}
use Rattle.path_facts.specs.declared.worklist.Solving.{Solving}
use Rattle.path_facts.specs.declared.numbering.Numbering.{Numbering}
use Rattle.path_facts.specs.Numbering.{IsNumbering, holds, room_of}
use Rattle.path_facts.specs.Paths.{AreFacts, Counts, CountsSome, EndsWithin}
use Rattle.path_facts.specs.Start.{Begins, IsFull, IsStart, StartsAll, StartsAt}
use Rattle.path_facts.specs.Worklist.{Good, Solved}
use Rattle.path_facts.proofs.FactNumbers.{number_below}
use Rattle.path_facts.proofs.SolvedLaws.{complete}
use Rattle.path_facts.proofs.WorklistLaws.{one_value}

-- first sets

pub starts_first : (n : Names) (u : ℕ) (s : Numbers) → u ≡ 0 → IsStart n s → StartsAt n u s
starts_first n u s e is = record { room = is.room; first = λ same. is.facts; rest = λ o. absurd (o e) }

pub starts_rest : (n : Names) (u : ℕ) (s : Numbers) → u ≢ 0 → IsFull (room_of n) s → StartsAt n u s
starts_rest n u s o is = record { room = is.room; first = λ same. absurd (o same); rest = λ o' f h. is.all (number_of n f) (number_below (length n.vars) (length n.fields) f h) }

pub copied_rest : {E : Type 0} (n : Names) (u : ℕ) (s : Numbers) (r : Result Numbers E) → u ≢ 0 → IsFull (room_of n) s → IfOk r (λ x. x ≡ s) → IfOk r (StartsAt n u)
copied_rest n u s (Ok x) o is e = subst (λ y. StartsAt n u y) (sym e) (starts_rest n u s o is)
copied_rest n u s (Err e') o is e = tt

module _ {A : Type 0} where
  in_pushed : (xs : List A) (x y : A) (u : ℕ) → slice_get (xs ++ x ∷ []) u ≡ Some y → (slice_get xs u ≡ Some y) ⊎ ((u ≡ length xs) × (x ≡ y))
  in_pushed [] x y zero h = inr (refl, cc)
  in_pushed [] x y (suc u) h = absurd cc
  in_pushed (z ∷ xs) x y zero h = inl h
  in_pushed (z ∷ xs) x y (suc u) h = ⊎_elim (λ a. inl a) (λ b. inr (ap suc b.0, b.1)) (in_pushed xs x y u h)

  get_taken : (k : ℕ) (xs : List A) (u : ℕ) → u < k → slice_get (take k xs) u ≡ slice_get xs u
  get_taken zero xs u l = absurd (omega (arith, l))
  get_taken (suc k) [] u l = refl
  get_taken (suc k) (x ∷ xs) zero l = refl
  get_taken (suc k) (x ∷ xs) (suc u) l = get_taken k xs u (omega (arith, l))

pub sets_more : (n : Names) (i : ℕ) (xs : List Numbers) (x : Numbers) → StartsAll n i xs → StartsAt n i x → StartsAll n (i + 1) (xs ++ x ∷ [])
sets_more n i xs x all at = record {
  long = length-append xs (x ∷ []) ∙ ap (λ k. k + 1) all.long;
  each = λ u y h. ⊎_elim (λ old. all.each u y old) (λ last. subst (λ (z : Numbers). StartsAt n u z) last.1 (subst (λ v. StartsAt n v x) (sym (last.0 ∙ all.long)) at)) (in_pushed xs x y u h);
}

-- the beginning

only_zero : (u : ℕ) → has_number (0 ∷ []) u ≡ true → u ≡ 0
only_zero u h = ⊎_elim (λ e. sym (eqb-true 0 u e)) (λ o. absurd (false≢true o)) (or_cases (eqb 0 u) false h)

sound_first : (n : Names) (g : Graph) (u : ℕ) (x : Numbers) (f : Fact) → StartsAt n u x → is_fact n f ≡ true → holds n x f ≡ false → Fails n g u f
sound_first n g u x f at h lack =
    ⊎_elim
    (λ (e : u ≡ 0). subst (λ v. Fails n g v f) (sym e) (starts f (sym (at.first e f h) ∙ lack)))
    (λ (o : u ≢ 0). absurd (true≢false (sym (at.rest o f h) ∙ lack)))
    (cases_eq u 0)

pub good_begin : (n : Names) (g : Graph) (count : ℕ) (s : Solving) → Begins n count s → Good n g 0 [] s
good_begin n g count s is =
    let waits : (u : ℕ) → has_number s.pending.items u ≡ has_number (0 ∷ []) u = λ u. ap (λ (x : Numbers). has_number x.items u) is.pending in
    let come : (u : ℕ) → has_number s.reached.items u ≡ has_number (0 ∷ []) u = λ u. ap (λ (x : Numbers). has_number x.items u) is.reached in
    record {
      sized = record {
        rooms = λ u x h. (is.sets.each u x h).room;
        pending = ap (λ (x : Numbers). x.room) is.pending ∙ sym is.sets.long;
        reached = ap (λ (x : Numbers). x.room) is.reached ∙ sym is.sets.long;
      };
      sound = λ u x f at h lack. sound_first n g u x f (is.sets.each u x at) h lack;
      reached = λ u h. subst (Reached g) (sym (only_zero u (sym (come u) ∙ h))) here;
      waiting = λ u h. come u ∙ sym (waits u) ∙ h;
      first = come 0;
      starts = λ x f at h e. (is.sets.each 0 x at).first refl f h ∙ e;
      closed = λ k e at r p. absurd (true≢false (sym (waits e.from ∙ sym (come e.from) ∙ r) ∙ p));
    }

-- the end

pub facts_are : (n : Names) (g : Graph) (count : ℕ) (old s : Solving) → Counts g count → length old.at ≡ count → Solved n g old s → AreFacts n g count s.at
facts_are n g count old s counts long is =
    let so : length s.at ≡ count = is.long ∙ long in
    record {
      long = so;
      rooms = is.good.sized.rooms;
      fails = is.good.sound;
      holds = λ u x f at h fails. complete n g s is.good is.ended (subst (λ c. EndsWithin c g) (sym so) counts.ends) u f fails h x at;
    }

pub path_is : (n : Names) (g : Graph) (count : ℕ) (xs : List Numbers) (p : Path) → Counts g count → AreFacts n g count xs → p.at ≡ take (length g.nodes) xs → IsPath n g p
path_is n g count xs p counts is made =
    let enough : length g.nodes ≤ length xs = omega (arith, counts.nodes, is.long) in
    let long : length p.at ≡ length g.nodes = ap length made ∙ length-take-le (length g.nodes) xs enough in
    let none' : Numbers = record { items = []; room = 0 } in
    let get : (v : ℕ) → v < length g.nodes → slice_get p.at v ≡ slice_get xs v = λ v l. ap (λ (ys : List Numbers). slice_get ys v) made ∙ get_taken (length g.nodes) xs v l in
    let there : (v : ℕ) → v < length g.nodes → slice_get xs v ≡ Some (get_or xs v none') = λ v l. slice_get-get_or xs v none' (omega (arith, l, enough)) in
    let says : (v : ℕ) (f : Fact) → v < length g.nodes → holds_at n p v f ≡ holds n (get_or xs v none') f = λ v f l. ap (has (λ (s : Numbers). has_number s.items (number_of n f))) (get v l ∙ there v l) in
    record {
      counted = long;
      rooms = λ v d l.
          let within : v < length g.nodes = omega (arith, l, long) in
          is.rooms v (get_or p.at v d) (sym (get v within) ∙ slice_get-get_or p.at v d l);
      fails = λ v f l h lack. is.fails v (get_or xs v none') f (there v l) h (sym (says v f l) ∙ lack);
      holds = λ v f l h fails. says v f l ∙ is.holds v (get_or xs v none') f (there v l) h fails;
    }

-- bounds of edges

pub counts_none : (g : Graph) (count : ℕ) → 1 ≤ count → length g.nodes ≤ count → CountsSome g 0 count
counts_none g count some nodes = record { some = omega (arith, some); nodes = nodes; ends = λ k e l at. absurd (omega (arith, l)) }

pub counts_more : (g : Graph) (i count next last : ℕ) (edge : Edge) → CountsSome g i count → slice_get g.edges i ≡ Some edge → (count ≤ next) × (edge.from < next) → (next ≤ last) × (edge.to < last) → CountsSome g (i + 1) last
counts_more g i count next last edge is at one two =
    let a = one.0 in
    let b = one.1 in
    let c = two.0 in
    let d = two.1 in
    record {
      some = omega (arith, is.some, a, c);
      nodes = omega (arith, is.nodes, a, c);
      ends = λ k e l there.
          ⊎_elim
          (λ (same : k ≡ i).
          let it : edge ≡ e = one_value (slice_get g.edges k) edge e (ap (slice_get g.edges) same ∙ at) there in
          (subst (λ (x : Edge). x.from < last) it (omega (arith, b, c)), subst (λ (x : Edge). x.to < last) it d))
          (λ (o : k ≢ i).
          let below : k < i = omega (arith, l, o) in
          let ends = is.ends k e below there in
          let from = ends.0 in
          let to = ends.1 in
          (omega (arith, from, a, c), omega (arith, to, a, c)))
          (cases_eq k i);
    }

pub counts_all : (g : Graph) (i count : ℕ) → length g.edges ≤ i → CountsSome g i count → Counts g count
counts_all g i count past is = record { some = is.some; nodes = is.nodes; ends = λ k e at. is.ends k e (within k e at) at }
  where
    within : (k : ℕ) (e : Edge) → slice_get g.edges k ≡ Some e → k < i
    within k e at = let l : k < length g.edges = slice_get_within g.edges k e at in omega (arith, l, past)

-- the room of all facts

pub count_is : (n : Names) (m : Numbering) → IsNumbering n m → m.count ≡ room_of n
count_is n m is = is.numbers.count ∙ ap (λ v. fact_count v m.fields) is.vars ∙ ap (λ w. fact_count (length n.vars) w) is.fields
