-- An edge that is executed is the one that control goes over, and its store is the machine's.
use Rattle.std.proofs.Common.{◌≡◌, ℕ, ◌⊎◌, ⊎_elim, true, false, pos, List, [], ◌∷◌, length, map, slice_get, Option, Some, None, Result, Ok, Err, option_and_then, refl, ap, sym, subst, ◌∙◌}
use Rattle.std.specs.List.{Contains}
use Rattle.c_tree.specs.WellFormed.{IsWellFormed}
use Rattle.c_tree.specs.declared.program.Program.{Program}
use Rattle.c_tree.specs.declared.program.Right.TheVariants as right
use Rattle.c_meaning.specs.declared.value.Value.TheVariants as value
use Rattle.c_meaning.specs.declared.machine.Location.TheVariants.{Slot}
use Rattle.c_meaning.specs.declared.machine.Stop.{Stop}
use Rattle.c_meaning.specs.declared.machine.Stop.TheVariants.{Faulted, Excluded}
use Rattle.c_meaning.specs.Eval.{◌>>=◌, truth, int_of, eval, eval_all, place_of}
use Rattle.c_meaning.specs.Machine.{Store, stored}
use Rattle.c_meaning.specs.Parts.{Instruction, Unset, Assign, Malloc, Getchar, Putchar, Printf, Test, Invoke, Return, Close, assigned}
use Rattle.c_meaning.specs.Effects.{Effect, Passes, Calls, Returns, is_over, target_location, answered, new_value, count_of, requested, born, fetched, low_byte, written, ints_of, printed, bound, parameters_of, value_of, passing, attempt, back, ended}
use Rattle.call_contexts.specs.Contexts.{contexts}
use Rattle.call_contexts.proofs.Has.{Has, first, later, has_get, only_one, contains_has, has_contains}
use Rattle.c_graph.specs.declared.graph.Action.{Action}
use Rattle.c_graph.specs.declared.graph.Way.{Way}
use Rattle.c_graph.specs.declared.graph.Way.TheVariants as way
use Rattle.c_graph.specs.declared.graph.Node.{Node}
use Rattle.c_graph.specs.declared.graph.NodeKind.{NodeKind}
use Rattle.c_graph.specs.declared.graph.NodeKind.TheVariants.{Act}
use Rattle.c_graph.specs.declared.graph.Edge.{Edge}
use Rattle.c_graph.specs.Actions.{instruction_of}
use Rattle.c_graph.specs.Executes.{function_of, ctx_at, asked, is_granted, Does, frees, unsets, assigns, makes, makes_none, gets, puts, prints, holds, fails, calls, returns, closes, ends, ends_last, Executes, Faults, by_free, by_action, Rests, exit, excludes, Comes, goes, faults, rests, past, is_lost}
use Rattle.c_graph.specs.Met.{micro_of}
use Rattle.c_graph.specs.Moves.{At, stands}
use Rattle.c_graph.specs.Nodes.{Lead, Placed, all_placed, number_of, edge_of, graph}
use Rattle.c_graph.proofs.EdgeEnds.{edge_among, edge_is_led, Up, two_up, placed_up}
use Rattle.c_graph.proofs.Numbers.{node_at}
use Rattle.c_graph.proofs.Outcomes.{micro_comes}

same_answer : {A : Type 0} (r : Result A Stop) (x y : A) → r ≡ Ok x → r ≡ Ok y → x ≡ y
same_answer r x y e g = let both : Ok x ≡ r = sym e in cc

same_some : {A : Type 0} (o : Option A) (x y : A) → o ≡ Some x → o ≡ Some y → x ≡ y
same_some o x y e g = let both : Some x ≡ Some y = sym e ∙ g in cc

bind_well : {A B : Type 0} (r : Result A Stop) (f : A → Result B Stop) (a : A) (y : Result B Stop) → r ≡ Ok a → f a ≡ y → (r >>= f) ≡ y
bind_well r f a y e g = ap (λ x. x >>= f) e ∙ g

module _ (p : Program) (left : Option ℕ) (s : Store) where
  -- an action that is done was tried, and nothing stopped it

  abbrev Attempts : Action → Type 0
  Attempts a = (i : Instruction) × (x : Effect Store) × (instruction_of a ≡ Some i) × (attempt p i s ≡ Ok x)

  does_attempt : {w : Way} {t : Store} (a : Action) → Does p left s (Act a) w t → Attempts a
  does_attempt _ (unsets x) = (Unset x, Passes None (stored (Slot x) value.Undef s), refl, refl)
  does_attempt _ (assigns a e l v plain at new) = (
    Assign a.place a.op e a.at,
    Passes None (stored l v s),
    ap (assigned a) plain,
    bind_well (place_of s.slots s.objects a.place) (λ m. new_value s a.op a.at a.place e m >>= λ u. passing (stored m u s)) l (passing (stored l v s)) at
        (bind_well (new_value s a.op a.at a.place e l) (λ u. passing (stored l u s)) v (passing (stored l v s)) new refl),
  )
  does_attempt _ (makes place size offset l n at count granted) = (
    Malloc place size offset,
    Passes None (requested l (pos n) s),
    refl,
    bind_well (target_location s place) (λ m. count_of p s size >>= λ k. passing (requested m k s)) l (passing (requested l (pos n) s)) at
        (bind_well (count_of p s size) (λ k. passing (requested l k s)) (pos n) (passing (requested l (pos n) s)) count refl),
  )
  does_attempt _ (makes_none place size offset l n at count refused) = (
    Malloc place size offset,
    Passes None (requested l n s),
    refl,
    bind_well (target_location s place) (λ m. count_of p s size >>= λ k. passing (requested m k s)) l (passing (requested l n s)) at
        (bind_well (count_of p s size) (λ k. passing (requested l k s)) n (passing (requested l n s)) count refl),
  )
  does_attempt _ (gets place l at) = (Getchar place, Passes None (fetched l s), refl, bind_well (target_location s place) (λ m. passing (fetched m s)) l (passing (fetched l s)) at refl)
  does_attempt _ (puts e n at) =
      (Putchar e, Passes None (written (low_byte n ∷ []) s), refl, bind_well (eval s.slots s.objects e >>= int_of) (λ m. passing (written (low_byte m ∷ []) s)) n (passing (written (low_byte n ∷ []) s)) at refl)
  does_attempt _ (prints text arguments bytes at) = (
    Printf text arguments,
    Passes None (written bytes s),
    refl,
    bind_well (eval_all s.slots s.objects arguments >>= ints_of >>= printed text) (λ bs. passing (written bs s)) bytes (passing (written bytes s)) at refl,
  )
  does_attempt _ (holds e is) = (Test e, Passes (Some true) s, refl, bind_well (eval s.slots s.objects e >>= truth) (λ b. Ok (Passes (Some b) s)) true (Ok (Passes (Some true) s)) is refl)
  does_attempt _ (fails e is) = (Test e, Passes (Some false) s, refl, bind_well (eval s.slots s.objects e >>= truth) (λ b. Ok (Passes (Some b) s)) false (Ok (Passes (Some false) s)) is refl)
  does_attempt _ (calls callee arguments values at) = (
    Invoke 0 callee arguments None,
    Calls callee (bound (parameters_of p callee) values s),
    refl,
    bind_well (eval_all s.slots s.objects arguments) (λ vs. Ok (Calls callee (bound (parameters_of p callee) vs s))) values (Ok (Calls callee (bound (parameters_of p callee) values s))) at refl,
  )
  does_attempt _ (returns e v f target from at) = (Return e 0, Returns v s, refl, bind_well (value_of s e) (λ u. Ok (Returns u s)) v (Ok (Returns v s)) at refl)
  does_attempt _ (closes f target from) = (Close true 0, Returns None s, refl, refl)
  does_attempt _ (ends e v at) = (Return e 0, Returns v s, refl, bind_well (value_of s e) (λ u. Ok (Returns u s)) v (Ok (Returns v s)) at refl)
  does_attempt _ ends_last = (Close true 0, Returns None s, refl, refl)

  ok_or_err : (e : Stop) (a : Action) (i : Instruction) → Attempts a → instruction_of a ≡ Some i → attempt p i s ≡ Err e → ⊥
  ok_or_err e a i tried is did =
      let same : tried.0 ≡ i = same_some (instruction_of a) tried.0 i tried.2 is in
      let never : Ok tried.1 ≡ Err e = sym tried.3 ∙ ap (λ (j : Instruction). attempt p j s) same ∙ did in
      absurd cc

  no_fault : {kind : NodeKind} {w : Way} {t u : Store} → Does p left s kind w t → Faults p s kind u → ⊥
  no_fault (frees number list going) (by_free _ _ what offset is) = let never : true ≡ false = sym (ap is_over is) ∙ going in absurd cc
  no_fault does (by_action a i what offset is did) = ok_or_err (Faulted what offset) a i (does_attempt a does) is did

  no_rest : {kind : NodeKind} {w : Way} {t : Store} → Does p left s kind w t → Rests p s kind → ⊥
  no_rest does (exit offset) = elim does [ ]
  no_rest does (excludes a i is did) = ok_or_err Excluded a i (does_attempt a does) is did

  -- not both ways of a malloc, nor of a test

  made_once : {kind : NodeKind} {t u : Store} → Does p left s kind way.Made t → Does p left s kind way.NotMade u → ⊥
  made_once (makes place size offset l n at count granted) (makes_none _ _ _ m k there number refused) =
      let same = same_answer (count_of p s size) (pos n) k count number in
      let never : true ≡ false = sym granted ∙ ap (λ j. is_granted j s.fails) same ∙ refused in
      absurd cc

  said_once : {kind : NodeKind} {t u : Store} → Does p left s kind way.True t → Does p left s kind way.False u → ⊥
  said_once (holds e is) (fails _ no_more) = let same = same_answer (eval s.slots s.objects e >>= truth) true false is no_more in absurd cc

  -- one store

  same_store : {kind : NodeKind} {w : Way} {t u : Store} → Does p left s kind w t → Does p left s kind w u → t ≡ u
  same_store (frees number list going) (frees _ _ too) = refl
  same_store (unsets x) (unsets _) = refl
  same_store (assigns a e l v plain at new) (assigns _ d m u clear there value_there) =
      let right_same : right.Plain e ≡ right.Plain d = sym plain ∙ clear in
      let one : e ≡ d = cc in
      let place : l ≡ m = same_answer (place_of s.slots s.objects a.place) l m at there in
      let value_same : v ≡ u = same_answer (new_value s a.op a.at a.place d m) v u (ap (λ x. new_value s a.op a.at a.place x m) (sym one) ∙ ap (new_value s a.op a.at a.place e) (sym place) ∙ new) value_there in
      ap (λ x. stored x v s) place ∙ ap (λ x. stored m x s) value_same
  same_store (makes place size offset l n at count granted) (makes _ _ _ m k there number too) =
      let one : l ≡ m = same_answer (target_location s place) l m at there in
      let both : pos n ≡ pos k = same_answer (count_of p s size) (pos n) (pos k) count number in
      let many : n ≡ k = cc in
      ap (λ x. answered x (value.Ptr (length s.objects)) (born n (asked s))) one ∙ ap (λ x. answered m (value.Ptr (length s.objects)) (born x (asked s))) many
  same_store (makes_none place size offset l n at count refused) (makes_none _ _ _ m k there number too) = ap (λ x. answered x value.Null (asked s)) (same_answer (target_location s place) l m at there)
  same_store (gets place l at) (gets _ m there) = ap (λ x. fetched x s) (same_answer (target_location s place) l m at there)
  same_store (puts e n at) (puts _ k there) = ap (λ x. written (low_byte x ∷ []) s) (same_answer (eval s.slots s.objects e >>= int_of) n k at there)
  same_store (prints text arguments bytes at) (prints _ _ others there) = ap (λ x. written x s) (same_answer (eval_all s.slots s.objects arguments >>= ints_of >>= printed text) bytes others at there)
  same_store (holds e is) (holds _ too) = refl
  same_store (fails e is) (fails _ too) = refl
  same_store (calls callee arguments values at) (calls _ _ others there) = ap (λ x. bound (parameters_of p callee) x s) (same_answer (eval_all s.slots s.objects arguments) values others at there)
  same_store (returns e v f target from at) (returns _ u g _ too there) =
      ap (λ x. back p x target v s) (same_some left f g from too) ∙ ap (λ x. back p g target x s) (same_answer (value_of s e) v u at there)
  same_store (closes f target from) (closes g _ too) = ap (λ x. back p x target None s) (same_some left f g from too)
  same_store (ends e v at) (ends _ u there) = ap (λ x. ended x s) (same_answer (value_of s e) v u at there)
  same_store ends_last ends_last = refl

  -- one lead of a node

  abbrev DoesOver : NodeKind → Lead → Store → Type 0
  DoesOver kind l t = Does p left s kind l.way t

  never_both : (kind : NodeKind) (l m : Lead) (t u : Store) → ((l.way ≡ way.Made) × (m.way ≡ way.NotMade)) ⊎ ((l.way ≡ way.True) × (m.way ≡ way.False)) → DoesOver kind l t → DoesOver kind m u → ⊥
  never_both kind l m t u pair does other = ⊎_elim
      (λ made. made_once (subst (λ (x : Way). Does p left s kind x t) made.0 does) (subst (λ (x : Way). Does p left s kind x u) made.1 other))
      (λ said. said_once (subst (λ (x : Way). Does p left s kind x t) said.0 does) (subst (λ (x : Way). Does p left s kind x u) said.1 other))
      pair

  two_leads : (kind : NodeKind) (a b l m : Lead) (t u : Store) → ((a.way ≡ way.Made) × (b.way ≡ way.NotMade)) ⊎ ((a.way ≡ way.True) × (b.way ≡ way.False)) → Has l (a ∷ b ∷ []) → Has m (a ∷ b ∷ []) → DoesOver kind l t → DoesOver kind m u → l ≡ m
  two_leads kind a b _ _ t u pair first first does other = refl
  two_leads kind a b _ m t u pair first (later g) does other =
      absurd (never_both kind a m t u (subst (λ (z : Lead). ((a.way ≡ way.Made) × (z.way ≡ way.NotMade)) ⊎ ((a.way ≡ way.True) × (z.way ≡ way.False))) (sym (only_one g)) pair) does other)
  two_leads kind a b l _ t u pair (later h) first does other =
      absurd (never_both kind a l u t (subst (λ (z : Lead). ((a.way ≡ way.Made) × (z.way ≡ way.NotMade)) ⊎ ((a.way ≡ way.True) × (z.way ≡ way.False))) (sym (only_one h)) pair) other does)
  two_leads kind a b l m t u pair (later h) (later g) does other = only_one h ∙ sym (only_one g)

  one_lead : (kind : NodeKind) (ls : List Lead) (l m : Lead) (t u : Store) → Up (map (λ (z : Lead). z.way) ls) → Has l ls → Has m ls → DoesOver kind l t → DoesOver kind m u → l ≡ m
  one_lead kind [] l m t u up h g does other = elim h [ ]
  one_lead kind (a ∷ []) l m t u up h g does other = only_one h ∙ sym (only_one g)
  one_lead kind (a ∷ b ∷ []) l m t u (two_up _ _ less pair) h g does other = two_leads kind a b l m t u pair h g does other
  one_lead kind (a ∷ b ∷ c ∷ ls) l m t u up h g does other = elim up [ ]

module _ (p : Program) (w : IsWellFormed p) where
  abbrev own : ℕ → Option ℕ
  own v = option_and_then (function_of (graph p (contexts p))) (ctx_at (graph p (contexts p)) v)

  -- what comes of a node from which an edge is executed is that edge
  comes_over : (v : ℕ) (y : Placed) (l : Lead) (s t : Store) (x : At Store) → slice_get (all_placed p (contexts p)) v ≡ Some y → Has l y.leads → Does p (own v) s y.node.kind l.way t → Comes p (graph p (contexts p)) v s x →
      x ≡ stands (number_of p (contexts p) l.to) t
  comes_over v y l s t _ numbered h does (goes e u among from executes) =
      let it = edge_is_led p (contexts p) (contains_has (graph p (contexts p)).edges e among) in
      let place : it.0 ≡ v = sym (ap (λ (d : Edge). d.from) it.5) ∙ from in
      let node : it.1 ≡ y = same_some (slice_get (all_placed p (contexts p)) v) it.1 y (ap (slice_get (all_placed p (contexts p))) (sym place) ∙ it.3) numbered in
      let there : executes.node ≡ y.node = same_some (slice_get (graph p (contexts p)).nodes v) executes.node y.node (ap (slice_get (graph p (contexts p)).nodes) (sym from) ∙ executes.stands) (node_at p (contexts p) v y numbered) in
      let leads : Has it.2 y.leads = subst (λ (z : Placed). Has it.2 z.leads) node it.4 in
      let other : Does p (own v) s y.node.kind it.2.way u =
      subst (λ (z : Way). Does p (own v) s y.node.kind z u) (ap (λ (d : Edge). d.way) it.5)
      (subst (λ (z : Node). Does p (own v) s z.kind e.way u) there (subst (λ (z : ℕ). Does p (own z) s executes.node.kind e.way u) from executes.does)) in
      let same : it.2 ≡ l = one_lead p (own v) s y.node.kind y.leads it.2 l u t (placed_up p w y (has_get (all_placed p (contexts p)) v numbered)) leads h other does in
      let store : u ≡ t = same_store p (own v) s (subst (λ (z : Lead). Does p (own v) s y.node.kind z.way u) same other) does in
      ap (λ (z : ℕ). stands z u) (ap (λ (d : Edge). d.to) it.5 ∙ ap (λ (z : Lead). number_of p (contexts p) z.to) same) ∙ ap (λ (z : Store). stands (number_of p (contexts p) l.to) z) store
  comes_over v y l s t _ numbered h does (faults n u at fault) =
      let same : n ≡ y.node = same_some (slice_get (graph p (contexts p)).nodes v) n y.node at (node_at p (contexts p) v y numbered) in
      absurd (no_fault p (own v) s does (subst (λ (z : Node). Faults p s z.kind u) same fault))
  comes_over v y l s t _ numbered h does (rests n at nothing) =
      let same : n ≡ y.node = same_some (slice_get (graph p (contexts p)).nodes v) n y.node at (node_at p (contexts p) v y numbered) in
      absurd (no_rest p (own v) s does (subst (λ (z : Node). Rests p s z.kind) same nothing))
  comes_over v y l s t _ numbered h does (past none_there) =
      let never : Some y.node ≡ None = sym (node_at p (contexts p) v y numbered) ∙ none_there in
      absurd cc
  comes_over v y l s t _ numbered h does (is_lost n at kind no_edge) =
      absurd (no_edge (edge_of p (contexts p) v l) (has_contains (graph p (contexts p)).edges (edge_among p (contexts p) v y l numbered h)) refl)

  -- control goes over the edge that is executed
  pub micro_over : (e : Edge) (s t : Store) → Contains (graph p (contexts p)).edges e → is_over s.ending ≡ false → Executes p (graph p (contexts p)) e s t → micro_of p (stands e.from s) ≡ stands e.to t
  micro_over e s t among going executes =
      let it = edge_is_led p (contexts p) (contains_has (graph p (contexts p)).edges e among) in
      let from : it.0 ≡ e.from = sym (ap (λ (d : Edge). d.from) it.5) in
      let numbered : slice_get (all_placed p (contexts p)) e.from ≡ Some it.1 = ap (slice_get (all_placed p (contexts p))) (sym from) ∙ it.3 in
      let there : executes.node ≡ it.1.node = same_some (slice_get (graph p (contexts p)).nodes e.from) executes.node it.1.node executes.stands (node_at p (contexts p) e.from it.1 numbered) in
      let does : Does p (own e.from) s it.1.node.kind it.2.way t =
      subst (λ (z : Way). Does p (own e.from) s it.1.node.kind z t) (ap (λ (d : Edge). d.way) it.5) (subst (λ (z : Node). Does p (own e.from) s z.kind e.way t) there executes.does) in
      comes_over e.from it.1 it.2 s t (micro_of p (stands e.from s)) numbered it.4 does (micro_comes p w e.from s going)
      ∙ ap (λ (z : ℕ). stands z t) (sym (ap (λ (d : Edge). d.to) it.5))
