-- Two analyses of one program find the same members: sites that flow, and facts that hold at nodes. So what is asked of them comes out alike.
use Rattle.std.proofs.Common.{◌≡◌, ◌≢◌, ⊎_elim, ℕ, ◌<◌, ◌≤◌, ◌==◌, ◌&&◌, ◌||◌, not, Bool, true, false, nat_lt, List, [], ◌∷◌, length, slice_get, Option, Some, None, refl, ap, sym, ◌∙◌, subst, arith}
use Rattle.std.specs.Prelude.{if◌then◌else◌}
use Rattle.std.proofs.Math.Path.{fun_ext}
use Rattle.std.proofs.lemmas.Bool.{and_from, and_parts, cases_eq, eq-eqb, eqb-true, false≢true, lt-ltb, ltb-false, ltb-true, or_cases, or_right}
use Rattle.std.proofs.lemmas.Option.{slice_get_within}
use Rattle.std.specs.Cmp.{both_ways}
use Rattle.std.specs.List.{find}
use Rattle.std.specs.Option.{is_some}
use Rattle.c_tree.specs.Typing.{has}
use Rattle.c_tree.specs.declared.program.Program.{Program}
use Rattle.c_graph.specs.declared.graph.Edge.{Edge}
use Rattle.c_graph.specs.declared.graph.Graph.{Graph}
use Rattle.mf_set.specs.Numbers.{Numbers, has as has_number}
use Rattle.ts_domain.specs.declared.fact.Fact.{Fact}
use Rattle.ts_domain.specs.declared.fact.Fact.TheVariants.{Equal, Apart}
use Rattle.ts_domain.specs.declared.facts.Facts.{Facts}
use Rattle.ts_domain.specs.declared.facts.May.{May}
use Rattle.ts_domain.specs.declared.facts.Path.{Path}
use Rattle.ts_domain.specs.declared.marks.Alias.{Alias}
use Rattle.ts_domain.specs.declared.marks.Alias.TheVariants.{Same, Diff, Maybe}
use Rattle.ts_domain.specs.declared.marks.Mark.{Mark}
use Rattle.ts_domain.specs.declared.names.Names.{Names}
use Rattle.ts_domain.specs.declared.names.Read.{Read}
use Rattle.ts_domain.specs.declared.names.Read.TheVariants as read
use Rattle.ts_domain.specs.Aliases.{alias, base_alias, chain_alias, is_split, stands}
use Rattle.ts_domain.specs.Facts.{is_fact, number_of}
use Rattle.ts_domain.specs.Marks.{field_at, flows, is_beyond, items_of, makes_struct, meets, shares, sites_to, some_beyond, some_in, some_in_field}
use Rattle.ts_domain.specs.May.{flows_into, flows_to, IsMay}
use Rattle.ts_domain.specs.Path.{holds_at, IsPath}
use Rattle.ts_domain.specs.Post.{at_edge}
use Rattle.ts_domain.proofs.Members.{any_at, any_from}
use Rattle.memfix_engine.specs.Analysis.{graph_in, names_in, AreFacts}

-- the same sites flow to each variable and to each field, and the same facts hold at each node
pub record Agree (n : Names) (f h : Facts) : Type 0 where
  pub vars : (k s : ℕ) → flows_to f.may k s ≡ flows_to h.may k s
  pub fields : (t b s : ℕ) → flows_into f.may t b s ≡ flows_into h.may t b s
  pub holds : (v : ℕ) (x : Fact) → is_fact n x ≡ true → holds_at n f.path v x ≡ holds_at n h.path v x

-- it goes both ways
pub turned : (n : Names) (f h : Facts) → Agree n f h → Agree n h f
turned n f h same = record {
  vars = λ k s. sym (same.vars k s);
  fields = λ t b s. sym (same.fields t b s);
  holds = λ v x is. sym (same.holds v x is);
}

-- a place whose element passes a test is inside
inside_by : {A : Type 0} (test : A → Bool) (xs : List A) (k : ℕ) (o : Option A) → slice_get xs k ≡ o → has test o ≡ true → k < length xs
inside_by test xs k None at passes = absurd (false≢true passes)
inside_by test xs k (Some x) at passes = slice_get_within xs k x at

-- where that is looked up
pub inside : {A : Type 0} (test : A → Bool) (xs : List A) (k : ℕ) → has test (slice_get xs k) ≡ true → k < length xs
inside test xs k passes = inside_by test xs k (slice_get xs k) refl passes

-- all facts of a program agree

-- a site that flows to a variable by one analysis flows there by any other
vars_lead : (n : Names) (g : Graph) (m w : May) → IsMay n g m → IsMay n g w → (k s : ℕ) → flows_to m k s ≡ true → flows_to w k s ≡ true
vars_lead n g m w is also k s there =
    let within : k < length n.vars = subst (λ c. k < c) is.counted (inside (λ (x : Numbers). has_number x.items s) m.vars k there) in
    (also.variables k s within).1 ((is.variables k s within).0 there)

-- a fact that one analysis notes at a node, any other notes
holds_by : (n : Names) (g : Graph) (p w : Path) → IsPath n g p → IsPath n g w → (v : ℕ) (x : Fact) → is_fact n x ≡ true → holds_at n p v x ≡ true → (b : Bool) → holds_at n w v x ≡ b → b ≡ true
holds_by n g p w is also v x real there true e = refl
holds_by n g p w is also v x real there false e =
    let within : v < length g.nodes = subst (λ c. v < c) is.counted (inside (λ (s : Numbers). has_number s.items (number_of n x)) p.at v there) in
    absurd (false≢true (sym (is.holds v x within real (also.fails v x within real e)) ∙ there))

-- whether or not it does
holds_lead : (n : Names) (g : Graph) (p w : Path) → IsPath n g p → IsPath n g w → (v : ℕ) (x : Fact) → is_fact n x ≡ true → holds_at n p v x ≡ true → holds_at n w v x ≡ true
holds_lead n g p w is also v x real there = holds_by n g p w is also v x real there (holds_at n w v x) refl

-- two analyses agree
pub facts_agree : (p : Program) (f h : Facts) → AreFacts p f → AreFacts p h → Agree (names_in p) f h
facts_agree p f h is also =
    let n : Names = names_in p in
    let g : Graph = graph_in p in
    record {
      vars = λ k s. both_ways (flows_to f.may k s) (flows_to h.may k s) (vars_lead n g f.may h.may is.may also.may k s) (vars_lead n g h.may f.may also.may is.may k s);
      fields = λ t b s. both_ways (flows_into f.may t b s) (flows_into h.may t b s) (λ there. (also.may.fields t b s).1 ((is.may.fields t b s).0 there)) (λ there. (is.may.fields t b s).1 ((also.may.fields t b s).0 there));
      holds = λ v x real. both_ways (holds_at n f.path v x) (holds_at n h.path v x) (holds_lead n g f.path h.path is.path also.path v x real) (holds_lead n g h.path f.path also.path is.path v x real);
    }

-- tests of lists

-- a list passes where some number of it does
record Tests (test : List ℕ → Bool) (passes : ℕ → Bool) : Type 0 where
  from : (xs : List ℕ) → test xs ≡ true → (s : ℕ) × (has_number xs s ≡ true) × (passes s ≡ true)
  to : (xs : List ℕ) (s : ℕ) → has_number xs s ≡ true → passes s ≡ true → test xs ≡ true

-- that it has a number
one_tests : (s : ℕ) → Tests (λ xs. has_number xs s) (λ t. t == s)
one_tests s = record {
  from = λ xs there. (s, there, eq-eqb s s refl);
  to = λ xs t there same. subst (λ u. has_number xs u ≡ true) (eqb-true t s same) there;
}

-- a number that is found first or later passes
found_by : (p : ℕ → Bool) (x : ℕ) (xs : List ℕ) (b : Bool) → p x ≡ b → (is_some (find p xs) ≡ true → (s : ℕ) × (has_number xs s ≡ true) × (p s ≡ true)) → is_some (if b then Some x else find p xs) ≡ true
    → (s : ℕ) × (has_number (x ∷ xs) s ≡ true) × (p s ≡ true)
found_by p x xs true is later there = (x, any_from (λ m. m == x) (x ∷ xs) x (0, omega arith, refl) (eq-eqb x x refl), is)
found_by p x xs false is later there = let r = later there in (r.0, or_right (x == r.0) (has_number xs r.0) r.1, r.2)

-- a number that is found is listed and passes
found_from : (p : ℕ → Bool) (xs : List ℕ) → is_some (find p xs) ≡ true → (s : ℕ) × (has_number xs s ≡ true) × (p s ≡ true)
found_from p [] there = absurd (false≢true there)
found_from p (x ∷ xs) there = found_by p x xs (p x) refl (found_from p xs) there

-- where a later one is found, one is found
first_found : (p : ℕ → Bool) (x : ℕ) (xs : List ℕ) (b : Bool) → p x ≡ b → is_some (find p xs) ≡ true → is_some (if b then Some x else find p xs) ≡ true
first_found p x xs true is later = refl
first_found p x xs false is later = later

-- where a listed number passes, one is found
found_to : (p : ℕ → Bool) (xs : List ℕ) (s : ℕ) → has_number xs s ≡ true → p s ≡ true → is_some (find p xs) ≡ true
found_to p [] s there passes = absurd (false≢true there)
found_to p (x ∷ xs) s there passes =
    ⊎_elim
    (λ same. ap (λ b. is_some (if b then Some x else find p xs)) (ap p (eqb-true x s same) ∙ passes))
    (λ later. first_found p x xs (p x) refl (found_to p xs s later passes))
    (or_cases (x == s) (has_number xs s) there)

-- that it has a number in common with another
meets_tests : (ts : List ℕ) → Tests (meets ts) (has_number ts)
meets_tests ts = record {
  from = λ xs there. let r = found_from (has_number xs) ts there in (r.0, r.2, r.1);
  to = λ xs s there passes. found_to (has_number xs) ts s passes there;
}

-- the sites of a variable have a number where it flows there
listed_flows : (o : Option Numbers) (s : ℕ) → has_number (items_of o) s ≡ has (λ (x : Numbers). has_number x.items s) o
listed_flows None s = refl
listed_flows (Some x) s = refl

-- so the sites of a variable are those that flow there
sites_flow : (m : May) (k s : ℕ) → has_number (sites_to m k) s ≡ flows_to m k s
sites_flow m k s = listed_flows (slice_get m.vars k) s

-- an entry of a base, of a field, that passes a test
beyond_parts : (base : ℕ → Bool) (b : ℕ) (test : List ℕ → Bool) (x : ℕ × ℕ × Numbers) → is_beyond base b test x ≡ true → (base x.0 ≡ true) × (x.1 ≡ b) × (test x.2.items ≡ true)
beyond_parts base b test x is =
    let outer = and_parts (base x.0 && x.1 == b) (test x.2.items) is in
    let inner = and_parts (base x.0) (x.1 == b) outer.0 in
    (inner.0, eqb-true x.1 b inner.1, outer.1)

-- and from these parts
beyond_from : (base : ℕ → Bool) (b : ℕ) (test : List ℕ → Bool) (x : ℕ × ℕ × Numbers) → base x.0 ≡ true → x.1 ≡ b → test x.2.items ≡ true → is_beyond base b test x ≡ true
beyond_from base b test x based same passes = and_from (base x.0 && x.1 == b) (test x.2.items) (and_from (base x.0) (x.1 == b) based (eq-eqb x.1 b same)) passes

-- what flows

module _ (n : Names) (f h : Facts) (same : Agree n f h) (test also : List ℕ → Bool) (passes : ℕ → Bool) (is : Tests test passes) (too : Tests also passes) where
  -- to a variable
  var_leads : (k : ℕ) → test (sites_to f.may k) ≡ true → also (sites_to h.may k) ≡ true
  var_leads k there =
      let r = is.from (sites_to f.may k) there in
      too.to (sites_to h.may k) r.0 (sites_flow h.may k r.0 ∙ sym (same.vars k r.0) ∙ sym (sites_flow f.may k r.0) ∙ r.1) r.2

  -- to a field of a base
  field_leads : (base more : ℕ → Bool) (b : ℕ) → ((t : ℕ) → base t ≡ true → more t ≡ true) → some_beyond f.may base b test ≡ true → some_beyond h.may more b also ≡ true
  field_leads base more b on there =
      let x = any_at (is_beyond base b test) f.may.fields there in
      let parts = beyond_parts base b test x.0 x.2 in
      let r = is.from x.0.2.items parts.2 in
      let here = any_from (is_beyond (λ t. t == x.0.0) b (λ ss. has_number ss r.0)) f.may.fields x.0 x.1 (beyond_from (λ t. t == x.0.0) b (λ ss. has_number ss r.0) x.0 (eq-eqb x.0.0 x.0.0 refl) parts.1 r.1) in
      let y = any_at (is_beyond (λ t. t == x.0.0) b (λ ss. has_number ss r.0)) h.may.fields (sym (same.fields x.0.0 b r.0) ∙ here) in
      let those = beyond_parts (λ t. t == x.0.0) b (λ ss. has_number ss r.0) y.0 y.2 in
      let based : more y.0.0 ≡ true = subst (λ t. more t ≡ true) (sym (eqb-true y.0.0 x.0.0 those.0)) (on x.0.0 parts.0) in
      any_from (is_beyond more b also) h.may.fields y.0 y.1 (beyond_from more b also y.0 based those.1 (too.to y.0.2.items r.0 those.2 r.2))

  -- to a variable or a field of one
  named_by : (e : ℕ) (o : Option (ℕ × ℕ)) (b : Bool) → (if b then test (sites_to f.may e) else some_in_field f.may test o) ≡ true → (if b then also (sites_to h.may e) else some_in_field h.may also o) ≡ true
  named_by e o true there = var_leads e there
  named_by e None false there = absurd (false≢true there)
  named_by e (Some p) false there = field_leads (flows_to f.may p.0) (flows_to h.may p.0) p.1 (λ t on. sym (same.vars p.0 t) ∙ on) there

  -- to what a read finds
  read_leads : (g : Graph) (e : Edge) (r : Read) → some_in (at_edge n g f e) test r ≡ true → some_in (at_edge n g h e) also r ≡ true
  read_leads g e (read.Name k) there = named_by k (field_at n k) (nat_lt k (length n.vars)) there
  read_leads g e (read.Deep c b) there = field_leads (makes_struct n g c) (makes_struct n g c) b (λ t on. on) there

module _ (n : Names) (g : Graph) (f h : Facts) (same : Agree n f h) (e : Edge) where
  -- a site flows to what a read finds by both
  pub flows_alike : (s : ℕ) (r : Read) → flows (at_edge n g f e) s r ≡ flows (at_edge n g h e) s r
  flows_alike s r =
      both_ways (flows (at_edge n g f e) s r) (flows (at_edge n g h e) s r)
      (read_leads n f h same (λ ss. has_number ss s) (λ ss. has_number ss s) (λ t. t == s) (one_tests s) (one_tests s) g e r)
      (read_leads n h f (turned n f h same) (λ ss. has_number ss s) (λ ss. has_number ss s) (λ t. t == s) (one_tests s) (one_tests s) g e r)

  -- the same sites flow to a variable
  sites_alike : (z : ℕ) → has_number (sites_to h.may z) ≡ has_number (sites_to f.may z)
  sites_alike z = fun_ext (λ s. sites_flow h.may z s ∙ sym (same.vars z s) ∙ sym (sites_flow f.may z s))

  -- so a common site with the sites of one is a common site with those of the other
  other_tests : (z : ℕ) → Tests (meets (sites_to h.may z)) (has_number (sites_to f.may z))
  other_tests z = subst (Tests (meets (sites_to h.may z))) (sites_alike z) (meets_tests (sites_to h.may z))

  -- some site flows to a variable and to what a read finds by both
  shares_alike : (z : ℕ) (r : Read) → shares (at_edge n g f e) z r ≡ shares (at_edge n g h e) z r
  shares_alike z r =
      both_ways (shares (at_edge n g f e) z r) (shares (at_edge n g h e) z r)
      (read_leads n f h same (meets (sites_to f.may z)) (meets (sites_to h.may z)) (has_number (sites_to f.may z)) (meets_tests (sites_to f.may z)) (other_tests z) g e r)
      (read_leads n h f (turned n f h same) (meets (sites_to h.may z)) (meets (sites_to f.may z)) (has_number (sites_to f.may z)) (other_tests z) (meets_tests (sites_to f.may z)) g e r)

  -- some site flows to two variables by both
  meets_alike : (z x : ℕ) → meets (sites_to f.may z) (sites_to f.may x) ≡ meets (sites_to h.may z) (sites_to h.may x)
  meets_alike z x =
      both_ways (meets (sites_to f.may z) (sites_to f.may x)) (meets (sites_to h.may z) (sites_to h.may x))
      (var_leads n f h same (meets (sites_to f.may z)) (meets (sites_to h.may z)) (has_number (sites_to f.may z)) (meets_tests (sites_to f.may z)) (other_tests z) x)
      (var_leads n h f (turned n f h same) (meets (sites_to h.may z)) (meets (sites_to f.may z)) (has_number (sites_to f.may z)) (other_tests z) (meets_tests (sites_to f.may z)) x)

  -- facts of two variables

  -- a fact of two variables that differ, the lesser first, is one of the names
  ordered_real : (about : ℕ → ℕ → Fact) → ((x y : ℕ) → x < y → y < length n.vars → is_fact n (about x y) ≡ true) → (z x : ℕ) → z ≢ x → z < length n.vars → x < length n.vars
      → (b : Bool) → nat_lt z x ≡ b → is_fact n (if b then about z x else about x z) ≡ true
  ordered_real about real z x differ zl xl true e = real z x (ltb-true z x e) xl
  ordered_real about real z x differ zl xl false e = let most : x ≤ z = ltb-false z x e in real x z (omega arith) zl

  -- so both note it or none does
  stands_alike : (about : ℕ → ℕ → Fact) → ((x y : ℕ) → x < y → y < length n.vars → is_fact n (about x y) ≡ true) → (v z x : ℕ) → z ≢ x → z < length n.vars → x < length n.vars
      → stands n f v about z x ≡ stands n h v about z x
  stands_alike about real v z x differ zl xl = same.holds v (if nat_lt z x then about z x else about x z) (ordered_real about real z x differ zl xl (nat_lt z x) refl)

  -- the variables of such a pair exist
  pair_real : (x y : ℕ) → x < y → y < length n.vars → (nat_lt x y && nat_lt y (length n.vars)) ≡ true
  pair_real x y less l = and_from (nat_lt x y) (nat_lt y (length n.vars)) (lt-ltb x y less) (lt-ltb y (length n.vars) l)

  -- what two variables are to each other, from what is noted of them
  abbrev AliasFrom : Mark → ℕ → ℕ → Bool → Bool → Bool → Bool → Alias
  AliasFrom m z x one equal apart meet =
      if one || equal || has_number m.holds.items z && has_number m.holds.items x then Same else if apart || is_split m z x || not meet then Diff else Maybe

  -- two variables are the same to each other by both
  alias_by : (v : ℕ) (m : Mark) (z x : ℕ) → z < length n.vars → x < length n.vars → alias n f v m z x ≡ alias n h v m z x
  alias_by v m z x zl xl =
      ⊎_elim
      (λ one.
      let yes : (z == x) ≡ true = eq-eqb z x one in
      ap (λ b. AliasFrom m z x b (stands n f v Equal z x) (stands n f v Apart z x) (meets (sites_to f.may z) (sites_to f.may x))) yes
      ∙ sym (ap (λ b. AliasFrom m z x b (stands n h v Equal z x) (stands n h v Apart z x) (meets (sites_to h.may z) (sites_to h.may x))) yes))
      (λ differ.
      ap (λ b. AliasFrom m z x (z == x) b (stands n f v Apart z x) (meets (sites_to f.may z) (sites_to f.may x))) (stands_alike Equal pair_real v z x differ zl xl)
      ∙ ap (λ b. AliasFrom m z x (z == x) (stands n h v Equal z x) b (meets (sites_to f.may z) (sites_to f.may x))) (stands_alike Apart pair_real v z x differ zl xl)
      ∙ ap (AliasFrom m z x (z == x) (stands n h v Equal z x) (stands n h v Apart z x)) (meets_alike z x))
      (cases_eq z x)

  -- and so are a variable and what a longer chain leads to
  chain_alike : (z : ℕ) (r : Read) → chain_alias (at_edge n g f e) z r ≡ chain_alias (at_edge n g h e) z r
  chain_alike z r = ap (λ b. if b then Maybe else Diff) (shares_alike z r)

  -- and a variable and a base, which is a variable or a field
  base_by : (m : Mark) (z x : ℕ) → z < length n.vars → (b : Bool) → nat_lt x (length n.vars) ≡ b
      → (if b then alias n f e.from m z x else chain_alias (at_edge n g f e) z (read.Name x)) ≡ (if b then alias n h e.from m z x else chain_alias (at_edge n g h e) z (read.Name x))
  base_by m z x zl true low = alias_by e.from m z x zl (ltb-true x (length n.vars) low)
  base_by m z x zl false low = chain_alike z (read.Name x)

  -- a variable and the base of a write
  pub base_alike : (m : Mark) (z : ℕ) (r : Read) → z < length n.vars → base_alias (at_edge n g f e) m z r ≡ base_alias (at_edge n g h e) m z r
  base_alike m z (read.Name x) zl = base_by m z x zl (nat_lt x (length n.vars)) refl
  base_alike m z (read.Deep c b) zl = chain_alike z (read.Deep c b)
