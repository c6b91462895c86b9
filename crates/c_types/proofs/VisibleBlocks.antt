-- Each variable in what a walk makes of a block stands where it is visible, and the block declares the walk's variables in their order.
use Rattle.std.proofs.Common.{◌≡◌, ℕ, Bool, true, false, ◌||◌, List, [], ◌∷◌, ◌++◌, length, map, Option, Some, None, option_map, refl, sym, ap, ◌∙◌, nat_eq}
use Rattle.std.specs.Prelude.{if◌then◌else◌}
use Rattle.std.specs.List.{list_any}
use Rattle.std.specs.Option.{option_and_then}
use Rattle.std.specs.Set.{is_member}
use Rattle.std.proofs.lemmas.Bool.{eq-eqb}
use Rattle.c_tree.specs.Scopes as seen_in
use Rattle.c_tree.specs.Scopes.{vars_of, any_vars, call_vars, right_vars, simple_vars, sees, in_turn, declr_scope, start_scope, head_scopes, last_scope, item_scope, arm_scope, items_scope, piece_scope, block_scope}
use Rattle.c_tree.specs.declared.program.Home.{Home}
use Rattle.c_tree.specs.declared.program.Home.TheVariants as home
use Rattle.c_tree.specs.declared.program.Item.TheVariants as item
use Rattle.c_tree.specs.declared.program.Item.TheOpen as made
use Rattle.c_tree.specs.declared.program.Ty.{Ty}
use Rattle.c_tree.specs.declared.tree.Block.{Block}
use Rattle.c_tree.specs.declared.tree.Call.{Call}
use Rattle.c_tree.specs.declared.tree.Declr.{Declr}
use Rattle.c_tree.specs.declared.tree.Expr.{Expr}
use Rattle.c_tree.specs.declared.tree.ForHead.{ForHead}
use Rattle.c_tree.specs.declared.tree.Free.{Free}
use Rattle.c_tree.specs.declared.tree.Gap.{Gap}
use Rattle.c_tree.specs.declared.tree.Right.{Right}
use Rattle.c_tree.specs.declared.tree.Simple.{Simple}
use Rattle.c_tree.specs.declared.tree.Spec.{Spec}
use Rattle.c_tree.specs.declared.tree.Start.{Start}
use Rattle.c_tree.specs.declared.tree.Start.TheVariants as start
use Rattle.c_tree.specs.declared.tree.Word.{Word}
use Rattle.c_types.specs.declared.faults.Rule.TheVariants as rule
use Rattle.c_types.specs.declared.judged.Called.{Called}
use Rattle.c_types.specs.declared.judged.Judged.{Judged}
use Rattle.c_types.specs.declared.judged.Judged.TheVariants.{Typed, Broken}
use Rattle.c_types.specs.declared.scope.Entry.{Entry}
use Rattle.c_types.specs.declared.scope.Meaning.TheVariants as meaning
use Rattle.c_types.specs.declared.scope.Nesting.{Nesting}
use Rattle.c_types.specs.declared.scope.Returned.{Returned}
use Rattle.c_types.specs.declared.scope.Scope.{Scope}
use Rattle.c_types.specs.declared.scope.Walk.{Walk}
use Rattle.c_types.specs.declared.scope.Written.{Written}
use Rattle.c_types.specs.declared.scope.Written.TheVariants.{Good, Bad}
use Rattle.c_types.specs.Blocks.{walked_free, next_gap, walked_gap, walked_test, within, in_loop, walked_start, walked_head, walked_block}
use Rattle.c_types.specs.Calls.{walked_call}
use Rattle.c_types.specs.Expressions.{judged}
use Rattle.c_types.specs.Fits.{unless}
use Rattle.c_types.specs.InTurn.{each, optional}
use Rattle.c_types.specs.Scopes.{spec_type, noted, with_scope, with_name, named_by, named_if, variable_meaning, var_of, with_var, declared, closed, type_faults}
use Rattle.c_types.specs.Statements.{walked_right, walked_simple, walked_initial, walked_declr, returned_value, walked_return, call_item, walked_do}
use Rattle.c_types.specs.Tables.{found}
use Rattle.c_types.proofs.BlockInduction.{Reading, Law, Chain, done, next, of_item, opened, blocks_hold}
use Rattle.c_types.proofs.Growing.{head_grows, gap_grows, growing_law}
use Rattle.c_types.proofs.Rows.{found_one, found_either}
use Rattle.c_types.proofs.Standing.{Grows, grows_all, grows_both, closes, left_names}
use Rattle.c_types.proofs.VisibleParts.{shown, Covers, covers_on, judged_shown, judged_shows, CallShows, call_shows, call_names, right_shows, right_names, assigned_shown, initial_shown, returned_shown, based_names}

-- a part leads from what is visible before it to what is visible behind it
pub record Leads (u : Walk) (s : seen_in.Scope) (seen : List ℕ) : Type 0 where
  pub behind : List ℕ
  pub is : s seen ≡ Some behind
  pub covers : Covers u.scope behind

abbrev pub Sees : Walk → Walk → seen_in.Scope → Type 0
Sees w u s = (seen : List ℕ) → Covers w.scope seen → Leads u s seen

-- a part that declares nothing
part_sees : (w u : Walk) (xs : List ℕ) → u.scope.names ≡ w.scope.names → ((seen : List ℕ) → Covers w.scope seen → shown seen xs ≡ true) → Sees w u (sees xs)
part_sees w u xs names all seen covers = record {
  behind = seen;
  is = ap (λ (b : Bool). if b then Some seen else None) (all seen covers);
  covers = covers_on w.scope u.scope seen names covers;
}

sees_both : (w v u : Walk) (s t : seen_in.Scope) → Sees w v s → Sees v u t → Sees w u (λ seen. option_and_then t (s seen))
sees_both w v u s t f g seen covers =
    let a = f seen covers in
    let b = g a.behind a.covers in
    record { behind = b.behind; is = ap (option_and_then t) a.is ∙ b.is; covers = b.covers }

-- parts in turn

none_sees : (w u : Walk) → u.scope.names ≡ w.scope.names → Sees w u (in_turn [])
none_sees w u names seen covers = record { behind = seen; is = refl; covers = covers_on w.scope u.scope seen names covers }

turn_append : (ss ts : List seen_in.Scope) (seen : List ℕ) → in_turn (ss ++ ts) seen ≡ option_and_then (in_turn ts) (in_turn ss seen)
turn_append [] ts seen = refl
turn_append (s ∷ ss) ts seen = by_first (s seen) (turn_append ss ts)
  where
    by_first : (o : Option (List ℕ)) → ((xs : List ℕ) → in_turn (ss ++ ts) xs ≡ option_and_then (in_turn ts) (in_turn ss xs)) → option_and_then (in_turn (ss ++ ts)) o ≡ option_and_then (in_turn ts) (option_and_then (in_turn ss) o)
    by_first None rest = refl
    by_first (Some xs) rest = rest xs

lists_see : (w v u : Walk) (ss ts : List seen_in.Scope) → Sees w v (in_turn ss) → Sees v u (in_turn ts) → Sees w u (in_turn (ss ++ ts))
lists_see w v u ss ts f g seen covers =
    let a = sees_both w v u (in_turn ss) (in_turn ts) f g seen covers in
    record { behind = a.behind; is = turn_append ss ts seen ∙ a.is; covers = a.covers }

one_sees : (w u : Walk) (s : seen_in.Scope) → Sees w u s → Sees w u (in_turn (s ∷ []))
one_sees w u s f = sees_both w u u s (in_turn []) f (none_sees u u refl)

each_sees : {X Y : Type 0} (f : X → Walk → Walk × Y) (scope : Y → seen_in.Scope) → ((x : X) (w : Walk) → Sees w (f x w).0 (scope (f x w).1)) → (xs : List X) (w : Walk) →
    Sees w (each f xs w).0 (in_turn (map scope (each f xs w).1))
each_sees f scope one [] w = none_sees w w refl
each_sees f scope one (x ∷ xs) w =
    let r = f x w in
    sees_both w r.0 (each f xs r.0).0 (scope r.1) (in_turn (map scope (each f xs r.0).1)) (one x w) (each_sees f scope one xs r.0)

-- declarations

-- a name more, of the newest variable
newest_sees : (n : Word) (e : Entry) (k : ℕ) (t : Written) (w : Walk) (seen : List ℕ) → e.meaning ≡ variable_meaning k t → is_member nat_eq seen k ≡ true → Covers w.scope seen → Covers (with_name n e w).scope seen
newest_sees n e k t w seen means has covers m x j u is mean =
    found_either (λ (x : Entry). (j : ℕ) (u : Ty) → x.meaning ≡ meaning.Variable j u → is_member nat_eq seen j ≡ true) w.scope.names ((n.text, e) ∷ []) m
    (λ x h j u mean. covers m x j u h mean)
    (λ x h. found_one (λ (x : Entry). (j : ℕ) (u : Ty) → x.meaning ≡ meaning.Variable j u → is_member nat_eq seen j ≡ true) (n.text, e) (by_type t means) m x h) x is j u mean
  where
    by_type : (t : Written) → e.meaning ≡ variable_meaning k t → (j : ℕ) (u : Ty) → e.meaning ≡ meaning.Variable j u → is_member nat_eq seen j ≡ true
    by_type (Good v) means j u mean =
        let two : meaning.Variable k v ≡ meaning.Variable j u = sym means ∙ mean in
        let same : k ≡ j = cc in
        ap (is_member nat_eq seen) (sym same) ∙ has
    by_type (Bad f) means j u mean =
        let two : meaning.Bad f ≡ meaning.Variable j u = sym means ∙ mean in
        absurd cc

older_sees : (n : Word) (e : Entry) (k : ℕ) (t : Written) (w : Walk) (seen : List ℕ) (o : Option Entry) → e.meaning ≡ variable_meaning k t → is_member nat_eq seen k ≡ true → Covers w.scope seen → Covers (named_by n e w o).scope seen
older_sees n e k t w seen None means has covers = newest_sees n e k t w seen means has covers
older_sees n e k t w seen (Some older) means has covers = covers

name_sees : (d : Spec) (e : Entry) (k : ℕ) (t : Written) (w : Walk) (seen : List ℕ) (o : Option Word) → e.meaning ≡ variable_meaning k t → is_member nat_eq seen k ≡ true → Covers w.scope seen → Covers (named_if d e w o).scope seen
name_sees d e k t w seen None means has covers = covers
name_sees d e k t w seen (Some n) means has covers = older_sees n e k t w seen (found w.scope.names n.text) means has covers

more_seen : (s : Scope) (k : ℕ) (seen : List ℕ) → Covers s seen → Covers s (k ∷ seen)
more_seen s k seen covers n e j t is means = by_first (nat_eq j k) (covers n e j t is means)
  where
    by_first : (b : Bool) → is_member nat_eq seen j ≡ true → (b || list_any (nat_eq j) seen) ≡ true
    by_first true h = refl
    by_first false h = h

is_itself : (k : ℕ) (seen : List ℕ) → is_member nat_eq (k ∷ seen) k ≡ true
is_itself k seen = ap (λ (b : Bool). b || list_any (nat_eq k) seen) (eq-eqb k k refl)

-- a declared variable is visible behind its declaration
pub declared_covers : (d : Spec) (h : Home) (depth : ℕ) (w : Walk) (seen : List ℕ) → Covers w.scope seen → Covers (declared d h depth w).0.scope (length w.vars ∷ seen)
declared_covers d h depth w seen covers =
    let r = spec_type d w.scope in
    let k = length w.vars in
    let c = noted (type_faults r.1) (with_var (var_of d r.1 h) (with_scope w r.0)) in
    name_sees d (record { meaning = variable_meaning k r.1; depth = depth }) k r.1 c (k ∷ seen) d.name refl (is_itself k seen)
    (more_seen c.scope k seen (covers_on w.scope c.scope seen (based_names d.base w.scope) covers))

initial_shown_at : (t : Written) (at : ℕ) (o : Option Right) (w : Walk) (seen : List ℕ) → Covers w.scope seen → shown seen (any_vars right_vars (walked_initial t at o w).1) ≡ true
initial_shown_at t at None w seen covers = refl
initial_shown_at t at (Some r) w seen covers = initial_shown seen t at (walked_right r w).1 (right_shows w seen covers r)

initial_names : (t : Written) (at : ℕ) (o : Option Right) (w : Walk) → (walked_initial t at o w).0.scope.names ≡ w.scope.names
initial_names t at None w = refl
initial_names t at (Some r) w = right_names r w

declr_sees : (p : Nesting) (d : Declr) (w : Walk) → Sees w (walked_declr p d w).0 (declr_scope (walked_declr p d w).1)
declr_sees p d w seen covers =
    let v = declared d.spec (home.Local p.function) p.depth w in
    let k = length w.vars in
    let l = part_sees v.0 (walked_declr p d w).0 (any_vars right_vars (walked_declr p d w).1.right) (initial_names v.1 d.at d.right v.0) (λ seen covers. initial_shown_at v.1 d.at d.right v.0 seen covers) (k ∷ seen)
    (declared_covers d.spec (home.Local p.function) p.depth w seen covers) in
    record { behind = l.behind; is = l.is; covers = l.covers }

-- statements

simple_sees : (s : Simple) (w : Walk) → Sees w (walked_simple s w).0 (sees (simple_vars (walked_simple s w).1))
simple_sees s w =
    let r = walked_right s.right w in
    part_sees w (walked_simple s w).0 (simple_vars (walked_simple s w).1) (right_names s.right w)
    (λ seen covers. assigned_shown seen s (judged w.scope s.place.expr false) r.1 (judged_shows w.scope seen covers s.place.expr false) (right_shows w seen covers s.right))

test_sees : (e : Expr) (w : Walk) → Sees w (walked_test e w).0 (sees (vars_of (walked_test e w).1))
test_sees e w = part_sees w (walked_test e w).0 (vars_of (walked_test e w).1) refl (λ seen covers. judged_shown w.scope seen covers e true)

any_sees : {X Y : Type 0} (f : X → Walk → Walk × Y) (vars : Y → List ℕ) → ((x : X) (w : Walk) → Sees w (f x w).0 (sees (vars (f x w).1))) → (o : Option X) (w : Walk) → Sees w (optional f o w).0 (sees (any_vars vars (optional f o w).1))
any_sees f vars one None w = part_sees w w [] refl (λ seen covers. refl)
any_sees f vars one (Some x) w = one x w

start_sees : (p : Nesting) (s : Start) (w : Walk) → Sees w (walked_start p s w).0 (start_scope (walked_start p s w).1)
start_sees p (start.Declare d) w = declr_sees p d w
start_sees p (start.Assign s) w = simple_sees s w

head_sees : (p : Nesting) (h : ForHead) (w : Walk) → Sees w (walked_head p h w).0 (in_turn (head_scopes (walked_head p h w).1))
head_sees p h w =
    let r = each (walked_start p) h.start w in
    let t = optional walked_test h.test r.0 in
    let s = optional walked_simple h.step t.0 in
    lists_see w r.0 s.0 (map start_scope r.1) (sees (any_vars vars_of t.1) ∷ sees (any_vars simple_vars s.1) ∷ []) (each_sees (walked_start p) start_scope (start_sees p) h.start w)
    (sees_both r.0 t.0 s.0 (sees (any_vars vars_of t.1)) (in_turn (sees (any_vars simple_vars s.1) ∷ [])) (any_sees walked_test vars_of test_sees h.test r.0)
    (one_sees t.0 s.0 (sees (any_vars simple_vars s.1)) (any_sees walked_simple simple_vars simple_sees h.step t.0)))

-- gaps

frees_names : (fs : List Free) (w : Walk) → (each walked_free fs w).0.scope.names ≡ w.scope.names
frees_names [] w = refl
frees_names (f ∷ fs) w = frees_names fs (walked_free f w).0

gap_names : (g : Gap) (w : Walk) → (walked_gap g w).0.scope.names ≡ w.scope.names
gap_names g w = frees_names g.frees (next_gap w).0

-- parts, by what their blocks see

-- an item, with what it declares
pub record ItemSees (p : Nesting) (w u : Walk) (s : seen_in.Scope) : Type 0 where
  pub grows : Grows (home.Local p.function) w u
  pub sees : Sees w u s

-- behind a block, what was visible before it
pub record BlockSees (p : Nesting) (w u : Walk) (s : seen_in.Scope) : Type 0 where
  pub grows : Grows (home.Local p.function) w u
  pub sees : (seen : List ℕ) → Covers w.scope seen → s seen ≡ Some seen

abbrev pub seeing : Reading seen_in.Scope
seeing = record { item = item_scope; arm = arm_scope; block = items_scope; piece = piece_scope; OfItem = ItemSees; OfArm = ItemSees; OfBlock = BlockSees; OfPiece = ItemSees }

chain_sees : (p : Nesting) (w u : Walk) (xs : List seen_in.Scope) → Chain (ItemSees p) w u xs → ItemSees p w u (in_turn xs)
chain_sees p w u xs (done v) = record { grows = grows_all (home.Local p.function) v; sees = none_sees v v refl }
chain_sees p w u xs (next v x y z zs one rest) =
    let more = chain_sees p x y zs rest in
    record { grows = grows_both (home.Local p.function) v x y one.grows more.grows; sees = sees_both v x y z (in_turn zs) one.sees more.sees }

-- a block in its scope
closed_sees : (p : Nesting) (w u : Walk) (s : seen_in.Scope) → BlockSees p w u s → Sees w (closed (length w.scope.names) u) s
closed_sees p w u s b seen covers = record {
  behind = seen;
  is = b.sees seen covers;
  covers = covers_on w.scope (closed (length w.scope.names) u).scope seen (left_names w u b.grows.more_names b.grows.names) covers;
}

item_called : (j : Judged Called) (seen : List ℕ) → CallShows seen j → of_item seeing (call_item j).made seen ≡ Some seen
item_called (Typed c) seen h =
    ap (λ (s : seen_in.Scope). s seen) (opened seeing (made.Do c.call) (item.Do c.call) (item.rolls-Do c.call)) ∙ ap (λ (b : Bool). if b then Some seen else None) h
item_called (Broken fs) seen h = ap (λ (s : seen_in.Scope). s seen) (opened seeing (made.Declare []) (item.Declare []) (item.rolls-Declare []))

do_sees : (c : Call) (w : Walk) → Sees w (walked_do c w).0 (of_item seeing (walked_do c w).1)
do_sees c w seen covers = record {
  behind = seen;
  is = item_called (walked_call c w).1 seen (call_shows w seen covers c);
  covers = covers_on w.scope (walked_do c w).0.scope seen (call_names c w) covers;
}

return_sees : (t : Returned) (at : ℕ) (o : Option Right) (w : Walk) → Sees w (walked_return t at o w).0 (of_item seeing (walked_return t at o w).1)
return_sees t at None w seen covers = record {
  behind = seen;
  is = ap (λ (s : seen_in.Scope). s seen) (opened seeing (made.Return None at) (item.Return None at) (item.rolls-Return None at));
  covers = covers;
}
return_sees t at (Some r) w seen covers =
    let v = walked_right r w in
    let m = (returned_value t at v.1).made in
    record {
      behind = seen;
      is = ap (λ (s : seen_in.Scope). s seen) (opened seeing (made.Return (Some m) at) (item.Return (Some m) at) (item.rolls-Return (Some m) at))
          ∙ ap (λ (b : Bool). if b then Some seen else None) (returned_shown seen t at v.1 (right_shows w seen covers r));
      covers = covers_on w.scope v.0.scope seen (right_names r w) covers;
    }

behind_test : (p q : Nesting) (e : Expr) (w u : Walk) (s : seen_in.Scope) → BlockSees q (walked_test e w).0 u s → Sees w (closed (length w.scope.names) u) (in_turn (sees (vars_of (walked_test e w).1) ∷ s ∷ []))
behind_test p q e w u s b =
    let t = walked_test e w in
    sees_both w t.0 (closed (length w.scope.names) u) (sees (vars_of t.1)) (in_turn (s ∷ [])) (test_sees e w)
    (one_sees t.0 (closed (length w.scope.names) u) s (closed_sees q t.0 u s b))

for_sees : (p : Nesting) (h : ForHead) (w u : Walk) (s : seen_in.Scope) → let t = walked_head (within p) h w in BlockSees (in_loop (within p)) t.0 u s
    → Sees w (closed (length w.scope.names) (closed (length t.0.scope.names) u)) (seen_in.closed (in_turn (head_scopes t.1 ++ s ∷ [])))
for_sees p h w u s b seen covers =
    let l = home.Local p.function in
    let t = walked_head (within p) h w in
    let c = closed (length t.0.scope.names) u in
    let all = lists_see w t.0 c (head_scopes t.1) (s ∷ []) (head_sees (within p) h w) (one_sees t.0 c s (closed_sees (in_loop (within p)) t.0 u s b)) seen covers in
    let g = grows_both l w t.0 c (head_grows (within p) h w) (closes l t.0 u b.grows) in
    record {
      behind = seen;
      is = ap (option_map (λ inner. seen)) all.is;
      covers = covers_on w.scope (closed (length w.scope.names) c).scope seen (left_names w c g.more_names g.names) covers;
    }

seeing_law : Law seeing
seeing_law = record {
  declares = λ p ds w. record { grows = growing_law.declares p ds w; sees = each_sees (walked_declr p) declr_scope (declr_sees p) ds w };
  assigns = λ p s w. record { grows = growing_law.assigns p s w; sees = simple_sees s w };
  calls = λ p c w. record { grows = growing_law.calls p c w; sees = do_sees c w };
  nests = λ p w u x b. record { grows = growing_law.nests p w u tt b.grows; sees = closed_sees (within p) w u x b };
  chooses = λ p w u xs c.
      let a = chain_sees p w u xs c in
      record { grows = a.grows; sees = lists_see w u u xs (last_scope None ∷ []) a.sees (one_sees u u (last_scope None) (λ seen covers. record { behind = seen; is = refl; covers = covers })) };
  chooses_last = λ p w u v xs x c b.
      let a = chain_sees p w u xs c in
      let e = closed (length u.scope.names) v in
      record {
        grows = grows_both (home.Local p.function) w u e a.grows (closes (home.Local p.function) u v b.grows);
        sees = lists_see w u e xs (last_scope (Some x) ∷ []) a.sees (one_sees u e (last_scope (Some x)) (closed_sees (within p) u v x b));
      };
  loops = λ p e w u x b. record { grows = growing_law.loops p e w u tt b.grows; sees = behind_test p (in_loop p) e w u x b };
  loops_for = λ p h w u x b. record { grows = growing_law.loops_for p h w u tt b.grows; sees = for_sees p h w u x b };
  breaks = λ p at w. record { grows = growing_law.breaks p at w; sees = part_sees w (noted (unless p.in_loop rule.Jump at) w) [] refl (λ seen covers. refl) };
  continues = λ p at w. record { grows = growing_law.continues p at w; sees = part_sees w (noted (unless p.in_loop rule.Jump at) w) [] refl (λ seen covers. refl) };
  returns = λ p at o w. record { grows = growing_law.returns p at o w; sees = return_sees p.returns at o w };
  arms = λ p e w u x b. record { grows = growing_law.arms p e w u tt b.grows; sees = behind_test p (within p) e w u x b };
  blocks = λ p g braced from to w u xs c.
      let a = chain_sees p w u xs c in
      record {
        grows = grows_both (home.Local p.function) w u (walked_gap g u).0 a.grows (gap_grows (home.Local p.function) g u);
        sees = λ seen covers. ap (option_map (λ inner. seen)) (a.sees seen covers).is;
      };
  pieces = λ p g from to w u x i. record {
    grows = grows_both (home.Local p.function) w (walked_gap g w).0 u (gap_grows (home.Local p.function) g w) i.grows;
    sees = λ seen covers. let l = i.sees seen (covers_on w.scope (walked_gap g w).0.scope seen (gap_names g w) covers) in record { behind = l.behind; is = l.is; covers = l.covers };
  };
}

-- all that stands in what a walk makes of a block is visible there
pub block_sees : (b : Block) (p : Nesting) (w : Walk) (seen : List ℕ) → Covers w.scope seen → block_scope (walked_block b p w).1 seen ≡ Some seen
block_sees b p w seen covers = (blocks_hold seeing seeing_law b p w).sees seen covers
