-- No argument of a call in a well-formed program mentions a parameter of the callee: the arguments mention what is
-- visible in the caller, and no function calls itself.
use Rattle.std.proofs.Common.{◌≡◌, ℕ, zero, suc, ◌+◌, ◌<◌, ◌==◌, ◌&&◌, ◌||◌, Bool, true, false, List, [], ◌∷◌, ◌++◌, map, flat_map, length, slice_get, Option, Some, None, option_map, refl, ap, sym, subst, ◌∙◌, arith}
use Rattle.std.specs.Prelude.{not, if◌then◌else◌}
use Rattle.std.specs.List.{Contains, list_all, range_with_len}
use Rattle.std.specs.Option.{is_some}
use Rattle.std.proofs.lemmas.Bool.{and_parts}
use Rattle.std.proofs.lemmas.List.{length-map}
use Rattle.std.proofs.lemmas.List.Elements.{All-contains}
use Rattle.std.proofs.lemmas.Option.{slice_get-map}
use Rattle.c_tree.specs.Numbers.{Own, own_of, owns_from, result_home, locals_in, Declares, nothing, a_global, a_function}
use Rattle.c_tree.specs.Scopes.{vars_layer, vars_of, block_scope, sees_all}
use Rattle.c_tree.specs.Typing.{has}
use Rattle.c_tree.specs.WellFormed.{IsWellFormed}
use Rattle.c_tree.specs.declared.control.UserCall.{UserCall}
use Rattle.c_tree.specs.declared.expr.Expr.{Expr, Expr-F, map-Expr, fold-roll-Expr, ind-Expr}
use Rattle.c_tree.specs.declared.expr.Expr.TheOpen.{Const, Null, Var, Field, Deref, Index, Unary, Binary}
use Rattle.c_tree.specs.declared.program.FunDef.{FunDef}
use Rattle.c_tree.specs.declared.program.Home.{Home}
use Rattle.c_tree.specs.declared.program.Home.TheVariants as home
use Rattle.c_tree.specs.declared.program.Program.{Program}
use Rattle.c_tree.specs.declared.program.VarDef.{VarDef}
use Rattle.c_tree.proofs.Filtered.{filter_test}
use Rattle.c_meaning.specs.Effects.{parameters_of}
use Rattle.c_meaning.specs.Parts.{Instruction, Invoke}
use Rattle.c_meaning.specs.Parts as instruction
use Rattle.c_meaning.specs.Place.{Spot, AtAction, Nowhere, result_slot, brace_of, closing, spot_of, spot_or_brace, spot_in_fun}
use Rattle.call_contexts.specs.Calls.{calls_of, calls_by_function}
use Rattle.call_contexts.specs.Contexts.{contexts}
use Rattle.call_contexts.proofs.Has.{Has, first, later, get_left, get_right, contains_has, has_contains}
use Rattle.c_graph.specs.declared.graph.Action.TheVariants as action
use Rattle.c_graph.specs.declared.graph.NodeKind.TheVariants as kind
use Rattle.c_graph.specs.Actions.{action_of}
use Rattle.c_graph.specs.Nodes.{spot_at, graph}
use Rattle.c_graph.proofs.Follows.{calls_in_order}
use Rattle.c_graph.proofs.Invoked.{call_of, spot_calls, invoked}
use Rattle.ts_domain.specs.declared.names.Names.{Names}
use Rattle.ts_domain.specs.Pointers.{is_parameter_of, has_home}
use Rattle.ts_domain.specs.TypedGraphs.{mentions_layer, mentions, HasCallsApart}
use Rattle.ts_domain.proofs.Parameters.{has_parameters, not_same}
use Rattle.ts_domain.proofs.ScopedCalls.{all_parts, all_both, Ok, CallOk, InScope, SpotOk, block_ok}
use Rattle.ts_domain.proofs.TypedNodes.{action_stands, placed_of}

-- an expression mentions only its variables

module _ (ok : ℕ → Bool) (x : ℕ) (failing : ok x ≡ false) where
  abbrev MentionsNot : Expr → Type 0
  MentionsNot e = Ok ok (vars_of e) → mentions x e ≡ false

  abbrev plain : Expr-F ((e : Expr) × MentionsNot e) → Expr-F Expr
  plain = map-Expr ((e : Expr) × MentionsNot e) Expr (λ e. e.0)

  abbrev LayerMentionsNot : Expr-F Expr → Type 0
  LayerMentionsNot z = Ok ok (vars_layer (map-Expr Expr (List ℕ) vars_of z)) → mentions_layer x (map-Expr Expr Bool (mentions x) z) ≡ false

  other_variable : (y : ℕ) → ok y ≡ true → (y == x) ≡ false
  other_variable y h = not_same x y (λ same. let never : true ≡ false = sym h ∙ ap ok same ∙ failing in absurd cc)

  two_mention : (d e : Expr) → MentionsNot d → MentionsNot e → Ok ok (vars_of d ++ vars_of e) → (mentions x d || mentions x e) ≡ false
  two_mention d e one other h = let both = all_parts ok (vars_of d) (vars_of e) h in ap (λ (b : Bool). b || mentions x e) (one both.0) ∙ other both.1

  layer_mentions : (y : Expr-F ((e : Expr) × MentionsNot e)) → LayerMentionsNot (plain y)
  layer_mentions (Const v at) h = refl
  layer_mentions (Null at) h = refl
  layer_mentions (Var y at) h = other_variable y (and_parts (ok y) true h).0
  layer_mentions (Field e f at) h = e.1 h
  layer_mentions (Deref e at) h = e.1 h
  layer_mentions (Index e i at) h = two_mention e.0 i.0 e.1 i.1 h
  layer_mentions (Unary o e at) h = e.1 h
  layer_mentions (Binary o a b at) h = two_mention a.0 b.0 a.1 b.1 h

  mentions_not : (e : Expr) → Ok ok (vars_of e) → mentions x e ≡ false
  mentions_not = ind-Expr MentionsNot (λ z y is h.
      fold-roll-Expr Bool (mentions_layer x) z
      ∙ subst LayerMentionsNot is (layer_mentions y) (ap (list_all ok) (sym (fold-roll-Expr (List ℕ) vars_layer z)) ∙ h))

  all_mention : (es : List Expr) (e : Expr) → Has e es → Ok ok (flat_map vars_of es) → mentions x e ≡ false
  all_mention [] e h vars = elim h [ ]
  all_mention (d ∷ es) e first vars = mentions_not e (all_parts ok (vars_of e) (flat_map vars_of es) vars).0
  all_mention (d ∷ es) e (later h) vars = all_mention es e h (all_parts ok (vars_of d) (flat_map vars_of es) vars).1

-- what a function sees, when it isn't function g, are no parameters of g

module _ (n : Names) (g : ℕ) where
  abbrev is_other : ℕ → Bool
  is_other y = not (has_home n (is_parameter_of g) y)

  abbrev other_home : Home → Bool
  other_home h = not (is_parameter_of g h)

  abbrev home_at : ℕ → Option Home
  home_at y = option_map (λ (v : VarDef). v.home) (slice_get n.decls y)

  -- variables from x on have these homes
  abbrev Agrees : ℕ → List Home → Type 0
  Agrees x homes = (j : ℕ) (h : Home) → slice_get homes j ≡ Some h → home_at (x + j) ≡ Some h

  agrees_left : (x : ℕ) (hs ks : List Home) → Agrees x (hs ++ ks) → Agrees x hs
  agrees_left x hs ks at j h e = at j h (get_left hs ks h j e)

  agrees_right : (x : ℕ) (hs ks : List Home) → Agrees x (hs ++ ks) → Agrees (x + length hs) ks
  agrees_right x hs ks at j h e = let on : x + length hs + j ≡ x + (length hs + j) = omega arith in ap home_at on ∙ at (length hs + j) h (get_right hs ks j ∙ e)

  is_other_at : (y : ℕ) (h : Home) → home_at y ≡ Some h → other_home h ≡ true → is_other y ≡ true
  is_other_at y h at passes = by_variable (slice_get n.decls y) at
    where
      by_variable : (o : Option VarDef) → option_map (λ (v : VarDef). v.home) o ≡ Some h → not (has (λ (v : VarDef). is_parameter_of g v.home) o) ≡ true
      by_variable None e = absurd cc
      by_variable (Some v) e = let same : v.home ≡ h = cc in ap other_home same ∙ passes

  others_from : (x : ℕ) (hs : List Home) → Agrees x hs → list_all other_home hs ≡ true → Ok is_other (range_with_len x (length hs))
  others_from x [] at h = refl
  others_from x (k ∷ hs) at h =
      let both = and_parts (other_home k) (list_all other_home hs) h in
      let here : x ≡ x + 0 = omega arith in
      ap (λ (b : Bool). b && list_all is_other (range_with_len (x + 1) (length hs))) (is_other_at x k (ap home_at here ∙ at 0 k refl) both.0)
      ∙ others_from (x + 1) hs (λ j l e. let on : x + 1 + j ≡ x + suc j = omega arith in ap home_at on ∙ at (suc j) l e) both.1

  params_pass : (f : ℕ) (ys : List ℕ) → (f == g) ≡ false → list_all other_home (map (λ (y : ℕ). home.Param f) ys) ≡ true
  params_pass f [] other = refl
  params_pass f (y ∷ ys) other = ap (λ (b : Bool). not b && list_all other_home (map (λ (y : ℕ). home.Param f) ys)) other ∙ params_pass f ys other

  locals_pass : (f : ℕ) (ys : List ℕ) → list_all other_home (map (λ (y : ℕ). home.Local f) ys) ≡ true
  locals_pass f [] = refl
  locals_pass f (y ∷ ys) = locals_pass f ys

  as_long : (f : ℕ) (ps ls : List ℕ) → length (map (λ (y : ℕ). home.Param f) ps ++ map (λ (y : ℕ). home.Local f) ls) ≡ length (ps ++ ls)
  as_long f [] ls = length-map ls (λ (y : ℕ). home.Local f)
  as_long f (x ∷ ps) ls = let rest : length (map (λ (y : ℕ). home.Param f) ps ++ map (λ (y : ℕ). home.Local f) ls) ≡ length (ps ++ ls) = as_long f ps ls in omega arith

  -- what function d sees: the globals before it, and what it declares
  record Sight (d : FunDef) : Type 0 where
    globals : List ℕ
    known : Ok is_other globals
    params : Ok is_other d.params
    locals : Ok is_other (locals_in d.body)
    sees : sees_all d globals ≡ true

  own_sight : (f x : ℕ) (globals : List ℕ) (own : Own) (d : FunDef) → own ≡ own_of f d → (f == g) ≡ false → Ok is_other globals → own.declared ≡ range_with_len x (length own.declared) → own.sees globals ≡ true → Agrees x own.homes → Sight d
  own_sight f x globals own d is other known range sees agrees =
      let ps : List Home = map (λ (y : ℕ). home.Param f) d.params in
      let ls : List Home = map (λ (y : ℕ). home.Local f) (locals_in d.body) in
      let homes : own.homes ≡ (ps ++ ls) ++ result_home f d.result = ap (λ (o : Own). o.homes) is in
      let at : Agrees x (ps ++ ls) = agrees_left x (ps ++ ls) (result_home f d.result) (subst (λ (hs : List Home). Agrees x hs) homes agrees) in
      let passes : list_all other_home (ps ++ ls) ≡ true = all_both other_home ps ls (params_pass f d.params other) (locals_pass f (locals_in d.body)) in
      let declared : d.params ++ locals_in d.body ≡ range_with_len x (length (d.params ++ locals_in d.body)) = subst (λ (o : Own). o.declared ≡ range_with_len x (length o.declared)) is range in
      let all : Ok is_other (d.params ++ locals_in d.body) =
      ap (list_all is_other) (declared ∙ ap (range_with_len x) (sym (as_long f d.params (locals_in d.body)))) ∙ others_from x (ps ++ ls) at passes in
      let both = all_parts is_other d.params (locals_in d.body) all in
      record { globals = globals; known = known; params = both.0; locals = both.1; sees = subst (λ (o : Own). o.sees globals ≡ true) is sees }

  sight_from : (f i x : ℕ) (globals : List ℕ) (owns : List Own) (homes : List Home) (ds : List FunDef) (d : FunDef) → owns ≡ owns_from f ds → slice_get ds i ≡ Some d → ((f + i) == g) ≡ false → Agrees x homes → Ok is_other globals → Declares x globals owns homes → Sight d
  sight_from f i x globals _ _ [] d is at other agrees known nothing = absurd cc
  sight_from f i x globals _ _ (c ∷ ds) d is at other agrees known nothing = absurd cc
  sight_from f i x globals owns _ ds d is at other agrees known (a_global {homes = homes} m rest) =
      let here : x ≡ x + 0 = omega arith in
      let one : is_other x ≡ true = is_other_at x (home.Global m) (ap home_at here ∙ agrees 0 (home.Global m) refl) refl in
      sight_from f i (x + 1) (x ∷ globals) owns homes ds d is at other (λ j h e. let on : x + 1 + j ≡ x + suc j = omega arith in ap home_at on ∙ agrees (suc j) h e) (ap (λ (b : Bool). b && list_all is_other globals) one ∙ known) rest
  sight_from f i x globals _ _ [] d is at other agrees known (a_function own range sees rest) = absurd cc
  sight_from f zero x globals _ _ (c ∷ ds) d is at other agrees known (a_function {owns = owns} {homes = homes} own range sees rest) =
      let own_is : own ≡ own_of f c = cc in
      let same : c ≡ d = cc in
      let here : f ≡ f + 0 = omega arith in
      own_sight f x globals own d (own_is ∙ ap (own_of f) same) (ap (λ (k : ℕ). k == g) here ∙ other) known range sees (agrees_left x own.homes homes agrees)
  sight_from f (suc i) x globals _ _ (c ∷ ds) d is at other agrees known (a_function {owns = owns} {homes = homes} own range sees rest) =
      let owns_are : owns ≡ owns_from (f + 1) ds = cc in
      let on : f + 1 + i ≡ f + suc i = omega arith in
      sight_from (f + 1) i (x + length own.homes) globals owns homes ds d owns_are at (ap (λ (k : ℕ). k == g) on ∙ other) (agrees_right x own.homes homes agrees) known rest

  in_scope : (d : FunDef) → Sight d → InScope is_other d.body
  in_scope d s = by_scope (block_scope d.body (d.params ++ s.globals)) refl s.sees
    where
      by_scope : (o : Option (List ℕ)) → block_scope d.body (d.params ++ s.globals) ≡ o → is_some o ≡ true → InScope is_other d.body
      by_scope None e h = absurd cc
      by_scope (Some behind) e h = record { seen = d.params ++ s.globals; behind = behind; known = all_both is_other d.params s.globals s.params s.known; own = s.locals; goes = e }

module _ (p : Program) (w : IsWellFormed p) (n : Names) (decls : n.decls ≡ p.vars) where
  sight : (f g : ℕ) (d : FunDef) → slice_get p.funs f ≡ Some d → (f ≡ g → ⊥) → Sight n g d
  sight f g d at other =
      let on : 0 + f ≡ f = omega arith in
      sight_from n g 0 f 0 [] (owns_from 0 p.funs) (map (λ (v : VarDef). v.home) p.vars) p.funs d refl at (ap (λ (k : ℕ). k == g) on ∙ not_same g f other)
      (λ j h e.
      let same : 0 + j ≡ j = omega arith in
      ap (home_at n g) same ∙ ap (λ (vs : List VarDef). option_map (λ (v : VarDef). v.home) (slice_get vs j)) decls ∙ sym (slice_get-map (λ (v : VarDef). v.home) p.vars j) ∙ e)
      refl w.declared

  -- the variables in the arguments of a call in another function are no parameters of g
  place_ok : (f g : ℕ) (path : List ℕ) (i : Instruction) → (f ≡ g → ⊥) → spot_at p f path ≡ AtAction i → CallOk (is_other n g) i
  place_ok f g path i other stands = by_function (slice_get p.funs f) refl stands
    where
      in_block : (d : FunDef) → slice_get p.funs f ≡ Some d → (q : List ℕ) → spot_of (result_slot p f) q d.body ≡ AtAction i → CallOk (is_other n g) i
      in_block d at q is = subst (λ (s : Spot). SpotOk (is_other n g) (result_slot p f) s) is (block_ok (is_other n g) (result_slot p f) q d.body (in_scope n g d (sight f g d at other)))

      at_brace : (d : FunDef) → slice_get p.funs f ≡ Some d → (k : ℕ) (b : Bool) → (if b then AtAction (closing p f d) else spot_of (result_slot p f) (k ∷ []) d.body) ≡ AtAction i → CallOk (is_other n g) i
      at_brace d at k true is = let same : closing p f d ≡ i = cc in subst (λ (j : Instruction). CallOk (is_other n g) j) same tt
      at_brace d at k false is = in_block d at (k ∷ []) is

      by_path : (d : FunDef) → slice_get p.funs f ≡ Some d → (q : List ℕ) → spot_or_brace p f d q ≡ AtAction i → CallOk (is_other n g) i
      by_path d at [] is = in_block d at [] is
      by_path d at (k ∷ []) is = at_brace d at k (k == brace_of d.body) is
      by_path d at (k ∷ j ∷ q) is = in_block d at (k ∷ j ∷ q) is

      by_function : (o : Option FunDef) → slice_get p.funs f ≡ o → spot_in_fun p f o path ≡ AtAction i → CallOk (is_other n g) i
      by_function None at is = let never : Nowhere ≡ AtAction i = is in absurd cc
      by_function (Some d) at is = by_path d at path is

  -- no function calls itself
  not_itself : (f : ℕ) (path : List ℕ) (number callee : ℕ) (es : List Expr) (target : Option ℕ) → spot_at p f path ≡ AtAction (Invoke number callee es target) → f ≡ callee → ⊥
  not_itself f path number callee es target stands same =
      let calls = (calls_in_order p w).calls in
      let here : Has (call_of number callee) (spot_calls (spot_at p f path)) = subst (λ (s : Spot). Has (call_of number callee) (spot_calls s)) (sym stands) first in
      let it = invoked f p path here in
      let falls : calls.rank it.0.callee < calls.rank f =
      All-contains (λ (c : UserCall). calls.rank c.callee < calls.rank f) (calls_of (calls_by_function p) f) it.0 (calls.falls f) (has_contains (calls_of (calls_by_function p) f) it.1) in
      let ranks : calls.rank it.0.callee ≡ calls.rank f = ap calls.rank (ap (λ (c : UserCall). c.callee) it.2 ∙ sym same) in
      absurd (omega arith)

  parameter_fails : (f x : ℕ) → Contains (parameters_of p f) x → is_other n f x ≡ false
  parameter_fails f x h = ap not (filter_test (has_home n (is_parameter_of f)) (range_with_len 0 (length n.decls)) x (subst (λ (xs : List ℕ). Contains xs x) (sym (has_parameters p w n decls f)) h))

  call_apart : (c f x : ℕ) (path : List ℕ) (e : Expr) (es : List Expr) (i : Instruction) → spot_at p c path ≡ AtAction i → action.Call f es ≡ action_of i → Contains (parameters_of p f) x → Contains es e → mentions x e ≡ false
  call_apart c f x path e es (instruction.Invoke number callee list target) stands is param among =
      let callee_is : f ≡ callee = cc in
      let list_is : es ≡ list = cc in
      let vars : Ok (is_other n callee) (flat_map vars_of list) = place_ok c callee path (Invoke number callee list target) (not_itself c path number callee list target stands) stands in
      all_mention (is_other n callee) x (parameter_fails callee x (subst (λ (k : ℕ). Contains (parameters_of p k) x) callee_is param)) list e (subst (λ (ds : List Expr). Has e ds) list_is (contains_has es e among)) vars
  call_apart c f x path e es (instruction.Unset y) stands is param among = absurd cc
  call_apart c f x path e es (instruction.Assign a o b offset) stands is param among = absurd cc
  call_apart c f x path e es (instruction.Malloc a b offset) stands is param among = absurd cc
  call_apart c f x path e es (instruction.Getchar a) stands is param among = absurd cc
  call_apart c f x path e es (instruction.Putchar a) stands is param among = absurd cc
  call_apart c f x path e es (instruction.Printf a b) stands is param among = absurd cc
  call_apart c f x path e es (instruction.Test a) stands is param among = absurd cc
  call_apart c f x path e es (instruction.Return a offset) stands is param among = absurd cc
  call_apart c f x path e es (instruction.Close a offset) stands is param among = absurd cc

  -- so it is at all nodes of the graph
  pub has_calls_apart : HasCallsApart p (graph p (contexts p))
  has_calls_apart = record {
    apart = λ v k f x e es at param among.
        let y = placed_of p w v (record { ctx = k; kind = kind.Act (action.Call f es) }) at in
        let it = action_stands p w v k (action.Call f es) y.0 y.1 at in
        call_apart it.ctx.fun f x it.path e es it.instruction it.spot it.is param among;
  }
