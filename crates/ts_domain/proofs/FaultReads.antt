-- Where an action meets a freed object, a read among the deeds of each edge from its node meets a pointer to it.
use Rattle.std.proofs.Common.{◌≡◌, ℕ, ◌<◌, ◌⊎◌, inl, inr, ⊎_elim, true, false, List, [], ◌∷◌, ◌++◌, slice_get, length, map, flat_map, Option, Some, None, Result, Ok, Err, option_map, option_and_then, refl, ap, sym, subst, ◌∙◌}
use Rattle.std.specs.Prelude.{unwrap_or}
use Rattle.std.specs.Option.{is_some}
use Rattle.std.proofs.lemmas.Bool.{and_parts}
use Rattle.std.proofs.lemmas.List.{append_assoc, append-nil}
use Rattle.std.proofs.lemmas.Option.{slice_get_within, slice_get-map}
use Rattle.c_tree.specs.Typing.{Prototype, prototype, declarations, has, arguments_fit, sort_of}
use Rattle.c_tree.specs.declared.expr.Expr.{Expr}
use Rattle.c_tree.specs.declared.expr.Op.{Op}
use Rattle.c_tree.specs.declared.expr.Op.TheVariants as op
use Rattle.c_tree.specs.declared.program.FunDef.{FunDef}
use Rattle.c_tree.specs.declared.program.Program.{Program}
use Rattle.c_tree.specs.declared.program.Right.{Right}
use Rattle.c_tree.specs.declared.program.Right.TheVariants as right
use Rattle.c_tree.specs.declared.program.Simple.{Simple}
use Rattle.c_tree.specs.declared.program.Size.{Size}
use Rattle.c_tree.specs.declared.program.Ty.TheVariants as ty
use Rattle.c_meaning.specs.declared.machine.Kind.{Kind}
use Rattle.c_meaning.specs.declared.machine.Kind.TheVariants.{UseAfterFree}
use Rattle.c_meaning.specs.declared.machine.Location.TheVariants.{Slot}
use Rattle.c_meaning.specs.declared.machine.Object.{Object}
use Rattle.c_meaning.specs.declared.machine.Stop.{Stop}
use Rattle.c_meaning.specs.declared.machine.Stop.TheVariants.{Faulted}
use Rattle.c_meaning.specs.Eval.{◌>>=◌, is_freed, int_of, truth, eval, eval_all}
use Rattle.c_meaning.specs.Effects.{Effect, Passes, Calls, Returns, passing, target_location, count_of, requested, fetched, low_byte, written, ints_of, printed, bound as bound_store, parameters_of, value_of, attempt}
use Rattle.c_meaning.specs.Machine.{Store, stored}
use Rattle.c_meaning.specs.Parts.{Instruction, Unset, Assign, Malloc, Getchar, Putchar, Printf, Test, Invoke, Return, Close, assigned}
use Rattle.c_graph.specs.declared.graph.Action.{Action}
use Rattle.c_graph.specs.declared.graph.Action.TheVariants as action
use Rattle.c_graph.specs.declared.graph.Edge.{Edge}
use Rattle.c_graph.specs.declared.graph.Graph.{Graph}
use Rattle.c_graph.specs.declared.graph.Node.{Node}
use Rattle.c_graph.specs.declared.graph.NodeKind.TheVariants as kind
use Rattle.c_graph.specs.declared.graph.Way.{Way}
use Rattle.c_graph.specs.declared.graph.Way.TheVariants as way
use Rattle.c_graph.specs.Actions.{instruction_of}
use Rattle.c_graph.specs.Executes.{callee_in, function_of}
use Rattle.ts_domain.specs.declared.deed.Deed.{Deed}
use Rattle.ts_domain.specs.declared.deed.Deed.TheVariants.{Reads}
use Rattle.ts_domain.specs.declared.names.Names.{Names}
use Rattle.ts_domain.specs.Deeds.{source_of, written_if, place_deeds, size_deeds, change_deeds, assign_deeds, simple_deeds, said, test_deeds, bound, bound_arguments, no_binding, call_deeds, all_unset, owned_by, returned, return_deeds, made, malloc_deeds, action_deeds, site_of, parameters_of as parameters_in, node_deeds, edge_deeds}
use Rattle.ts_domain.specs.FreedReads.{IsHarmless, MeetsFreed}
use Rattle.ts_domain.specs.Looks.{within, value_deeds}
use Rattle.ts_domain.specs.Pointers.{place_of, parameters}
use Rattle.ts_domain.specs.TypedGraphs.{action_fits, answer_fits, count_fits, HasTypedActions}
use Rattle.ts_domain.specs.TypedMachines.{IsTyped}
use Rattle.ts_domain.specs.Views.{AreNames, size_type}
use Rattle.ts_domain.proofs.ActionCourses.{comes, Goes, goes_then, goes_calm, argument_reads, bound_reads, value_goes, all_go, number_goes, arguments_go, target_goes, size_goes, given_reads, assign_goes, ints_calm, printed_calm, truth_calm}
use Rattle.ts_domain.proofs.Courses.{all_done, meets_freed, faults, is_excluded}
use Rattle.ts_domain.proofs.NameLaws.{HasPlaces, has_places}
use Rattle.ts_domain.proofs.PointerSorts.{AreDeclared}

-- a freed object is there
pub freed_within : (objects : List Object) (o : ℕ) → is_freed objects o ≡ true → o < length objects
freed_within objects o freed = by_object (slice_get objects o) refl freed
  where
    by_object : (x : Option Object) → slice_get objects o ≡ x → unwrap_or (option_map (λ (b : Object). b.freed) x) false ≡ true → o < length objects
    by_object None at freed = absurd cc
    by_object (Some b) at freed = slice_get_within objects o b at

-- an assignment of a graph takes a plain value
abbrev pub IsPlain : Action → Type 0
IsPlain (action.Assign a) = (e : Expr) × (a.right ≡ right.Plain e)
IsPlain (action.Unset x) = Unit {0}
IsPlain (action.Malloc place size at) = Unit {0}
IsPlain (action.Getchar place) = Unit {0}
IsPlain (action.Putchar e) = Unit {0}
IsPlain (action.Printf text es) = Unit {0}
IsPlain (action.Test e) = Unit {0}
IsPlain (action.Call f es) = Unit {0}
IsPlain (action.Return value) = Unit {0}
IsPlain action.Close = Unit {0}

-- control goes back behind a return, and on behind that of `main`
abbrev pub IsWayFrom : Action → Way → Type 0
IsWayFrom (action.Return value) w = (w ≡ way.On) ⊎ ((target : Option ℕ) × (w ≡ way.Leave target))
IsWayFrom (action.Unset x) w = Unit {0}
IsWayFrom (action.Assign a) w = Unit {0}
IsWayFrom (action.Malloc place size at) w = Unit {0}
IsWayFrom (action.Getchar place) w = Unit {0}
IsWayFrom (action.Putchar e) w = Unit {0}
IsWayFrom (action.Printf text es) w = Unit {0}
IsWayFrom (action.Test e) w = Unit {0}
IsWayFrom (action.Call f es) w = Unit {0}
IsWayFrom action.Close w = Unit {0}

-- a way on that fits each action
on_way : (a : Action) → IsWayFrom a way.On
on_way (action.Return value) = inl refl
on_way (action.Unset x) = tt
on_way (action.Assign a) = tt
on_way (action.Malloc place size at) = tt
on_way (action.Getchar place) = tt
on_way (action.Putchar e) = tt
on_way (action.Printf text es) = tt
on_way (action.Test e) = tt
on_way (action.Call f es) = tt
on_way action.Close = tt

module _ (p : Program) (g : Graph) (n : Names) (names : AreNames p g n) (fits : HasTypedActions p g) (own : (f : ℕ) → parameters n f ≡ parameters_of p f) (s : Store) (sites : List ℕ) (typed : IsTyped n g sites s) where
  same_names : AreDeclared (declarations p) n
  same_names = record { vars = sym names.decls; structs = sym names.structs }

  places : HasPlaces n
  places = has_places p g n names

  -- deeds begin with the reads of what is attempted
  record BeginsWith (ds : List Deed) (r : Result (Effect Store) Stop) : Type 0 where
    reads : List Deed
    rest : List Deed
    is : ds ≡ reads ++ rest
    goes : Goes n g sites s reads [] r

  meets_by : (ds reads rest : List Deed) (r : Result (Effect Store) Stop) (offset : ℕ) → ds ≡ reads ++ rest → r ≡ Err (Faulted UseAfterFree offset) → Goes n g sites s reads [] r → MeetsFreed n g sites s ds
  meets_by ds reads rest _ offset is stop (all_done x behind does q) = absurd cc
  meets_by ds reads rest _ offset is stop (meets_freed front r noted back behind o at split does finds freed) = record {
    before = front;
    read = r;
    noted = noted;
    after = back ++ rest;
    found = behind;
    object = o;
    is = is ∙ ap (λ (xs : List Deed). xs ++ rest) split ∙ append_assoc front (Reads r noted ∷ back) rest;
    does = does;
    finds = finds;
    within = freed_within s.objects o freed;
    freed = freed;
  }
  meets_by ds reads rest _ offset is stop (faults kind at harmless) = let same : kind ≡ UseAfterFree = cc in absurd (subst IsHarmless same harmless)
  meets_by ds reads rest _ offset is stop is_excluded = absurd cc

  meets : (ds : List Deed) (r : Result (Effect Store) Stop) (offset : ℕ) → BeginsWith ds r → r ≡ Err (Faulted UseAfterFree offset) → MeetsFreed n g sites s ds
  meets ds r offset begins stop = meets_by ds begins.reads begins.rest r offset begins.is stop begins.goes

  kind_by : (reads : List Deed) (r : Result (Effect Store) Stop) (kind : Kind) (offset : ℕ) → r ≡ Err (Faulted kind offset) → Goes n g sites s reads [] r → (kind ≡ UseAfterFree) ⊎ IsHarmless kind
  kind_by reads _ kind offset stop (all_done x behind does q) = absurd cc
  kind_by reads _ kind offset stop (meets_freed front r noted back behind o at split does finds freed) = let same : UseAfterFree ≡ kind = cc in inl (sym same)
  kind_by reads _ kind offset stop (faults what at harmless) = let same : what ≡ kind = cc in inr (subst IsHarmless same harmless)
  kind_by reads _ kind offset stop is_excluded = absurd cc

  -- actions

  assign_begins : (a : Simple) (e : Expr) → a.right ≡ right.Plain e → action_fits (declarations p) (action.Assign a) ≡ true → BeginsWith (simple_deeds n a a.right) (attempt p (Assign a.place a.op e a.at) s)
  assign_begins a e plain fit =
      subst (λ (r : Right). BeginsWith (simple_deeds n a r) (attempt p (Assign a.place a.op e a.at) s)) (sym plain)
      (record {
        reads = within n a.place ++ given_reads n g sites s (declarations p) same_names places typed.types a.op a.place e;
        rest = rest a.op;
        is = by_op a.op;
        goes = assign_goes n g sites s (declarations p) same_names places typed.types a e (λ l v. passing (stored l v s)) fit plain (λ l v. comes (Passes None (stored l v s)));
      })
    where
      rest : Op → List Deed
      rest op.Put = written_if n a.place (source_of n (within n a.place) e)
      rest op.Add = []
      rest op.Sub = []
      rest op.Mul = []

      by_op : (o : Op) → assign_deeds n a.place o e ≡ within n a.place ++ given_reads n g sites s (declarations p) same_names places typed.types o a.place e ++ rest o
      by_op op.Put = refl
      by_op op.Add = sym (append-nil (change_deeds n a.place e))
      by_op op.Sub = sym (append-nil (change_deeds n a.place e))
      by_op op.Mul = sym (append-nil (change_deeds n a.place e))

  malloc_begins : (place : Option Expr) (z : Size) (at : ℕ) (site : Option ℕ) (w : Way) → action_fits (declarations p) (action.Malloc place z at) ≡ true → BeginsWith (malloc_deeds n place z site w) (attempt p (Malloc place z at) s)
  malloc_begins place z at site w fit =
      let both = and_parts (answer_fits (declarations p) (size_type z) place) (count_fits (declarations p) z) fit in record {
        reads = place_deeds n place ++ size_deeds n z;
        rest = made n place site w;
        is = refl;
        goes = goes_then n g sites s (place_deeds n place) (size_deeds n z) [] (target_location s place) (λ l. count_of p s z >>= λ m. passing (requested l m s))
            (target_goes n g sites s (declarations p) same_names places typed.types place (size_type z) [] both.0)
            (λ l behind. goes_calm n g sites s (size_deeds n z) behind (count_of p s z) (λ m. passing (requested l m s)) (size_goes n g sites s (declarations p) same_names places typed.types p z behind both.1) (λ m. comes (Passes None (requested l m s))));
      }

  -- all that is read is read first
  only_reads : (ds : List Deed) (r : Result (Effect Store) Stop) → Goes n g sites s ds [] r → BeginsWith ds r
  only_reads ds r goes = record { reads = ds; rest = []; is = sym (append-nil ds); goes = goes }

  call_begins : (number f : ℕ) (es : List Expr) (target : Option ℕ) → action_fits (declarations p) (action.Call f es) ≡ true → BeginsWith (call_deeds n (parameters n f) es) (attempt p (Invoke number f es target) s)
  call_begins number f es target fit =
      subst (λ (xs : List ℕ). BeginsWith (call_deeds n xs es) (attempt p (Invoke number f es target) s)) (sym (own f))
      (record {
        reads = argument_reads n (parameters_of p f) es;
        rest = (bound_arguments n no_binding (parameters_of p f) es).writes;
        is = ap (λ (ds : List Deed). ds ++ (bound_arguments n no_binding (parameters_of p f) es).writes) (bound_reads n no_binding (parameters_of p f) es);
        goes = goes_calm n g sites s (argument_reads n (parameters_of p f) es) [] (eval_all s.slots s.objects es) (λ vs. Ok (Calls f (bound_store (parameters_of p f) vs s)))
            (arguments_go n g sites s (declarations p) same_names places typed.types (parameters_of p f) es [] (fit_here fit)) (λ vs. comes (Calls f (bound_store (parameters_of p f) vs s)));
      })
    where
      by_function : (o : Option FunDef) → has (λ (x : Prototype). arguments_fit (declarations p) x.params es) (option_map prototype o) ≡ true → arguments_fit (declarations p) (unwrap_or (option_map (λ (c : FunDef). c.params) o) []) es ≡ true
      by_function None h = absurd cc
      by_function (Some c) h = h

      fit_here : has (λ (x : Prototype). arguments_fit (declarations p) x.params es) (slice_get (map prototype p.funs) f) ≡ true → arguments_fit (declarations p) (parameters_of p f) es ≡ true
      fit_here h = by_function (slice_get p.funs f) (ap (has (λ (x : Prototype). arguments_fit (declarations p) x.params es)) (sym (slice_get-map prototype p.funs f)) ∙ h)

  some_of : {A : Type 0} (o : Option A) → is_some o ≡ true → (x : A) × (o ≡ Some x)
  some_of None h = absurd cc
  some_of (Some x) h = (x, refl)

  -- a returned value is read over each way
  return_begins : (value : Option Expr) (at : ℕ) (ks : List ℕ) (w : Way) → IsWayFrom (action.Return value) w → action_fits (declarations p) (action.Return value) ≡ true → BeginsWith (return_deeds n ks value w) (attempt p (Return value at) s)
  return_begins None at ks w from fit = record { reads = []; rest = return_deeds n ks None w; is = refl; goes = all_done (Returns None s) [] refl tt }
  return_begins (Some e) at ks w from fit = ⊎_elim
      (λ on. subst (λ (y : Way). BeginsWith (return_deeds n ks (Some e) y) (attempt p (Return (Some e) at) s)) (sym on)
      (subst (λ (ds : List Deed). BeginsWith ds (attempt p (Return (Some e) at) s)) (append-nil (returned n None e)) (by_place None [])))
      (λ it. subst (λ (y : Way). BeginsWith (return_deeds n ks (Some e) y) (attempt p (Return (Some e) at) s)) (sym it.1) (by_place (option_and_then (place_of n) it.0) (all_unset ks)))
      from
    where
      value_is : (k : Option ℕ) → Goes n g sites s (value_deeds n (is_some k) e) [] (attempt p (Return (Some e) at) s)
      value_is k =
          let u = some_of (sort_of (declarations p) e) fit in
          goes_calm n g sites s (value_deeds n (is_some k) e) [] (value_of s (Some e)) (λ v. Ok (Returns v s))
          (goes_calm n g sites s (value_deeds n (is_some k) e) [] (eval s.slots s.objects e) (λ v. Ok (Some v)) (value_goes n g sites s (declarations p) same_names places typed.types e u.0 (is_some k) [] u.1) (λ v. comes (Some v)))
          (λ v. comes (Returns v s))

      by_place : (k : Option ℕ) (rest : List Deed) → BeginsWith (returned n k e ++ rest) (attempt p (Return (Some e) at) s)
      by_place k rest = record { reads = value_deeds n (is_some k) e; rest = bound k (source_of n [] e) ++ rest; is = append_assoc (value_deeds n (is_some k) e) (bound k (source_of n [] e)) rest; goes = value_is k }

  test_begins : (e : Expr) (w : Way) → action_fits (declarations p) (action.Test e) ≡ true → BeginsWith (test_deeds n w e) (attempt p (Test e) s)
  test_begins e w fit =
      let u = some_of (sort_of (declarations p) e) fit in record {
        reads = value_deeds n false e;
        rest = said n w e;
        is = refl;
        goes = goes_calm n g sites s (value_deeds n false e) [] (eval s.slots s.objects e >>= truth) (λ b. Ok (Passes (Some b) s))
            (goes_calm n g sites s (value_deeds n false e) [] (eval s.slots s.objects e) truth (value_goes n g sites s (declarations p) same_names places typed.types e u.0 false [] u.1) truth_calm)
            (λ b. comes (Passes (Some b) s));
      }

  putchar_begins : (e : Expr) → action_fits (declarations p) (action.Putchar e) ≡ true → BeginsWith (value_deeds n false e) (attempt p (Putchar e) s)
  putchar_begins e fit =
      only_reads (value_deeds n false e) (attempt p (Putchar e) s)
      (goes_calm n g sites s (value_deeds n false e) [] (eval s.slots s.objects e >>= int_of) (λ m. passing (written (low_byte m ∷ []) s)) (number_goes n g sites s (declarations p) same_names places typed.types e [] fit)
      (λ m. comes (Passes None (written (low_byte m ∷ []) s))))

  -- all arguments are evaluated before anything is written
  printf_begins : (text : List ℕ) (es : List Expr) → action_fits (declarations p) (action.Printf text es) ≡ true → BeginsWith (flat_map (value_deeds n false) es) (attempt p (Printf text es) s)
  printf_begins text es fit =
      let ds = flat_map (value_deeds n false) es in
      only_reads ds (attempt p (Printf text es) s)
      (goes_calm n g sites s ds [] (eval_all s.slots s.objects es >>= ints_of >>= printed text) (λ bytes. passing (written bytes s))
      (goes_calm n g sites s ds [] (eval_all s.slots s.objects es >>= ints_of) (printed text)
      (goes_calm n g sites s ds [] (eval_all s.slots s.objects es) ints_of (all_go n g sites s (declarations p) same_names places typed.types es [] fit) ints_calm) (printed_calm text))
      (λ bytes. comes (Passes None (written bytes s))))

  getchar_begins : (place : Option Expr) → action_fits (declarations p) (action.Getchar place) ≡ true → BeginsWith (place_deeds n place) (attempt p (Getchar place) s)
  getchar_begins place fit =
      only_reads (place_deeds n place) (attempt p (Getchar place) s)
      (goes_calm n g sites s (place_deeds n place) [] (target_location s place) (λ l. passing (fetched l s)) (target_goes n g sites s (declarations p) same_names places typed.types place ty.Int [] fit) (λ l. comes (Passes None (fetched l s))))

  attempted_is : {ds : List Deed} (i j : Instruction) → Some i ≡ Some j → BeginsWith ds (attempt p i s) → BeginsWith ds (attempt p j s)
  attempted_is {ds} i j h begins = let e : i ≡ j = cc in subst (λ (x : Instruction). BeginsWith ds (attempt p x s)) e begins

  -- the deeds of an action begin with its reads, over each way
  action_begins : (a : Action) (i : Instruction) (site : Option ℕ) (ks : List ℕ) (w : Way) → action_fits (declarations p) a ≡ true → IsPlain a → IsWayFrom a w → instruction_of a ≡ Some i →
      BeginsWith (action_deeds n site (parameters_in n (callee_in a)) ks w a) (attempt p i s)
  action_begins (action.Unset x) i site ks w fit plain from is =
      attempted_is (Unset x) i is (record { reads = []; rest = action_deeds n site [] ks w (action.Unset x); is = refl; goes = all_done (Passes None (stored (Slot x) _ s)) [] refl tt })
  action_begins (action.Assign a) i site ks w fit plain from is =
      attempted_is (Assign a.place a.op plain.0 a.at) i (ap (assigned a) (sym plain.1) ∙ is) (assign_begins a plain.0 plain.1 fit)
  action_begins (action.Malloc place z at) i site ks w fit plain from is = attempted_is (Malloc place z at) i is (malloc_begins place z at site w fit)
  action_begins (action.Getchar place) i site ks w fit plain from is = attempted_is (Getchar place) i is (getchar_begins place fit)
  action_begins (action.Putchar e) i site ks w fit plain from is = attempted_is (Putchar e) i is (putchar_begins e fit)
  action_begins (action.Printf text es) i site ks w fit plain from is = attempted_is (Printf text es) i is (printf_begins text es fit)
  action_begins (action.Test e) i site ks w fit plain from is = attempted_is (Test e) i is (test_begins e w fit)
  action_begins (action.Call f es) i site ks w fit plain from is = attempted_is (Invoke 0 f es None) i is (call_begins 0 f es None fit)
  action_begins (action.Return value) i site ks w fit plain from is = attempted_is (Return value 0) i is (return_begins value 0 ks w from fit)
  action_begins action.Close i site ks w fit plain from is =
      attempted_is (Close true 0) i is (record { reads = []; rest = action_deeds n site [] ks w action.Close; is = refl; goes = all_done (Returns None s) [] refl tt })

  -- where an action meets a freed object, a read of each edge from there meets it
  pub action_meets : (e : Edge) (k : ℕ) (a : Action) (i : Instruction) (offset : ℕ) → slice_get g.nodes e.from ≡ Some (record { ctx = k; kind = kind.Act a }) → IsPlain a → IsWayFrom a e.way → instruction_of a ≡ Some i →
      attempt p i s ≡ Err (Faulted UseAfterFree offset) → MeetsFreed n g sites s (edge_deeds n g e)
  action_meets e k a i offset stands plain from is stop =
      subst (λ (o : Option Node). MeetsFreed n g sites s (node_deeds n g e o)) (sym stands)
      (meets (action_deeds n (site_of n e.from) (parameters_in n (callee_in a)) (owned_by n (function_of g k)) e.way a) (attempt p i s) offset
      (action_begins a i (site_of n e.from) (owned_by n (function_of g k)) e.way (fits.actions e.from k a stands) plain from is) stop)

  -- and each other fault of an action is harmless
  pub action_kind : (v k : ℕ) (a : Action) (i : Instruction) (what : Kind) (offset : ℕ) → slice_get g.nodes v ≡ Some (record { ctx = k; kind = kind.Act a }) → IsPlain a → instruction_of a ≡ Some i → attempt p i s ≡ Err (Faulted what offset) →
      (what ≡ UseAfterFree) ⊎ IsHarmless what
  action_kind v k a i what offset stands plain is stop =
      let it = action_begins a i None [] way.On (fits.actions v k a stands) plain (on_way a) is in
      kind_by it.reads (attempt p i s) what offset stop it.goes
