-- What instructions and returns do to two stores that differ in the marks "freed" alone, and in the offset of
-- a fault: the stores still do so, and control goes the same way, or one of them reads a freed object.
use Rattle.std.proofs.Common.{◌≡◌, ℕ, zero, suc, Bool, true, false, ℤ, pos, negsuc, ◌+ℤ◌, ◌-ℤ◌, ◌*ℤ◌, List, [], ◌∷◌, ◌++◌, map, length, drop, replicate, slice_get, slice_set, option_map, Option, Some, None, Result, Ok, refl, ap, sym, subst, ◌∙◌}
use Rattle.std.specs.Prelude.{if◌then◌else◌}
use Rattle.std.proofs.lemmas.Option.{slice_get-map}
use Rattle.c_tree.specs.Alike.{bare_expr, bare_size, bare_struct, bare_var}
use Rattle.c_tree.specs.declared.expr.Expr.{Expr}
use Rattle.c_tree.specs.declared.expr.Op.{Op}
use Rattle.c_tree.specs.declared.expr.Op.TheVariants as op
use Rattle.c_tree.specs.declared.program.Gap.{Gap}
use Rattle.c_tree.specs.declared.program.Size.{Size}
use Rattle.c_tree.specs.declared.program.Size.TheVariants as size
use Rattle.c_tree.specs.declared.program.StructDef.{StructDef}
use Rattle.c_tree.specs.declared.program.VarDef.{VarDef}
use Rattle.c_tree.specs.declared.program.Program.{Program}
use Rattle.c_meaning.specs.declared.value.Value.{Value}
use Rattle.c_meaning.specs.declared.value.Value.TheVariants as value
use Rattle.c_meaning.specs.declared.machine.Object.{Object}
use Rattle.c_meaning.specs.declared.machine.Location.{Location}
use Rattle.c_meaning.specs.declared.machine.Location.TheVariants.{Slot, Cell}
use Rattle.c_meaning.specs.declared.machine.Kind.{Kind}
use Rattle.c_meaning.specs.declared.machine.Kind.TheVariants.{UseAfterFree}
use Rattle.c_meaning.specs.declared.machine.Stop.{Stop}
use Rattle.c_meaning.specs.declared.machine.Stop.TheVariants.{Faulted, Excluded}
use Rattle.c_meaning.specs.declared.machine.Ending.{Ending}
use Rattle.c_meaning.specs.declared.machine.Ending.TheVariants.{Running, Returned, Fault}
use Rattle.c_meaning.specs.Eval.{◌>>=◌, value_at, int_of, fitted, truth, eval, eval_all, place_of, offset_of}
use Rattle.c_meaning.specs.Machine.{Store, altered, with_cell, stored, stopped}
use Rattle.c_meaning.specs.Parts.{Instruction, Unset, Assign, Malloc, Getchar, Putchar, Printf, Test, Invoke, Return, Close}
use Rattle.c_meaning.specs.Effects.{is_over, target_location, answered, old_number, new_value, field_count, count_of, fails_next, born, granted, requested, next_byte, fetched, low_byte, written, ints_of, printed, Effect, Passes, Calls, Returns, unless_stopped, passing, bound, parameters_of, value_of, attempt, effect, is_home_in, cleared, received, back, ended}
use Rattle.c_meaning.proofs.BareParts.{bare_instruction}
use Rattle.c_meaning.proofs.Outlines.{Correspond}
use Rattle.c_meaning.proofs.Together.{EffectsMeet, both_pass, both_call, both_return, both_stay, left_stays, right_stays}
use Rattle.c_meaning.proofs.Agree.{bare_stop, Agree, both, both_stop, left_stale, right_stale, agree_same, agree_itself, fitted_agrees, ObjectsAgree, no_objects, one_more, value_agrees, eval_agrees, eval_all_agrees, place_agrees}

abbrev pub bare_ending : Ending → Ending
bare_ending Running = Running
bare_ending (Returned n) = Returned n
bare_ending (Fault kind offset by_free) = Fault kind 0 by_free

pub over_same : (d e : Ending) → bare_ending d ≡ bare_ending e → is_over d ≡ is_over e
over_same Running Running h = refl
over_same (Returned m) (Returned n) h = refl
over_same (Fault k m b) (Fault l n c) h = refl
over_same _ _ h = absurd cc

-- of what two programs of one outline have in common

cleared_bare : (f : ℕ) (vs : List VarDef) (slots : List Value) → cleared f (map bare_var vs) slots ≡ cleared f vs slots
cleared_bare f [] slots = refl
cleared_bare f (v ∷ vs) [] = refl
cleared_bare f (v ∷ vs) (x ∷ slots) = ap (λ (xs : List Value). (if is_home_in f v.home then value.Undef else x) ∷ xs) (cleared_bare f vs slots)

cleared_same : (f : ℕ) (vs ws : List VarDef) → map bare_var vs ≡ map bare_var ws → (slots : List Value) → cleared f vs slots ≡ cleared f ws slots
cleared_same f vs ws e slots = sym (cleared_bare f vs slots) ∙ ap (λ (us : List VarDef). cleared f us slots) e ∙ cleared_bare f ws slots

field_count_bare : (d : Option StructDef) → field_count (option_map bare_struct d) ≡ field_count d
field_count_bare None = refl
field_count_bare (Some d) = refl

fields_bare : (ss : List StructDef) (d : ℕ) → field_count (slice_get (map bare_struct ss) d) ≡ field_count (slice_get ss d)
fields_bare ss d = ap field_count (slice_get-map bare_struct ss d) ∙ field_count_bare (slice_get ss d)

fields_same : (ss ts : List StructDef) → map bare_struct ss ≡ map bare_struct ts → (d : ℕ) → field_count (slice_get ss d) ≡ field_count (slice_get ts d)
fields_same ss ts e d = sym (fields_bare ss d) ∙ ap (λ (us : List StructDef). field_count (slice_get us d)) e ∙ fields_bare ts d

module _ (Marks : Bool → Bool → Type 0) where
  -- the second store is the first but for marks, which are related, and for the offset of a fault
  pub data StoresAgree : Store → Store → Type 0 where
    agreeing : (s : Store) (others : List Object) (ending : Ending) → ObjectsAgree Marks s.objects others → bare_ending s.ending ≡ bare_ending ending → StoresAgree s (record s { objects = others; ending = ending })

  pub over_agrees : {s t : Store} → StoresAgree s t → is_over s.ending ≡ is_over t.ending
  over_agrees (agreeing s others ending h e) = over_same s.ending ending e

  pub stopped_agrees : {s t : Store} (d e : Stop) (by_free : Bool) → bare_stop d ≡ bare_stop e → StoresAgree s t → StoresAgree (stopped d by_free s) (stopped e by_free t)
  stopped_agrees (Faulted k m) (Faulted l n) by_free e (agreeing s others ending h g) = agreeing (stopped (Faulted k m) by_free s) others (Fault l n by_free) h (let same : k ≡ l = cc in ap (λ (j : Kind). Fault j 0 by_free) same)
  stopped_agrees Excluded Excluded by_free e d = d
  stopped_agrees _ _ by_free e d = absurd cc

  objects_stored : {objects others : List Object} (k : ℕ) (v : Value) (o : ℕ) → ObjectsAgree Marks objects others → ObjectsAgree Marks (altered (with_cell k v) o objects) (altered (with_cell k v) o others)
  objects_stored k v o no_objects = no_objects
  objects_stored k v zero (one_more c m h) = one_more (ap (λ (cs : List Value). slice_set cs k v) c) m h
  objects_stored k v (suc o) (one_more c m h) = one_more c m (objects_stored k v o h)

  as_many : {objects others : List Object} → ObjectsAgree Marks objects others → length objects ≡ length others
  as_many no_objects = refl
  as_many (one_more c m h) = ap (λ (n : ℕ). suc n) (as_many h)

  pub stored_agrees : {s t : Store} (l : Location) (v : Value) → StoresAgree s t → StoresAgree (stored l v s) (stored l v t)
  stored_agrees (Slot x) v (agreeing s others ending h e) = agreeing (stored (Slot x) v s) others ending h e
  stored_agrees (Cell o k) v (agreeing s others ending h e) = agreeing (stored (Cell o k) v s) (altered (with_cell k v) o others) ending (objects_stored k v o h) e

  answered_agrees : {s t : Store} (l : Option Location) (v : Value) → StoresAgree s t → StoresAgree (answered l v s) (answered l v t)
  answered_agrees None v d = d
  answered_agrees (Some l) v d = stored_agrees l v d

  bound_agrees : {s t : Store} (xs : List ℕ) (vs : List Value) → StoresAgree s t → StoresAgree (bound xs vs s) (bound xs vs t)
  bound_agrees [] vs d = d
  bound_agrees (x ∷ xs) [] d = d
  bound_agrees (x ∷ xs) (v ∷ vs) d = bound_agrees xs vs (stored_agrees (Slot x) v d)

  fetched_agrees : {s t : Store} (l : Option Location) → StoresAgree s t → StoresAgree (fetched l s) (fetched l t)
  fetched_agrees l (agreeing s others ending h e) = answered_agrees l (next_byte s.input) (agreeing (record s { input = drop 1 s.input }) others ending h e)

  written_agrees : {s t : Store} (bytes : List ℕ) → StoresAgree s t → StoresAgree (written bytes s) (written bytes t)
  written_agrees bytes (agreeing s others ending h e) = agreeing (written bytes s) others ending h e

  received_agrees : {s t : Store} (target : Option ℕ) (v : Option Value) → StoresAgree s t → StoresAgree (received target v s) (received target v t)
  received_agrees (Some x) (Some v) d = stored_agrees (Slot x) v d
  received_agrees (Some x) None d = d
  received_agrees None v d = d

  cleared_agrees : {s t : Store} (f : ℕ) (vs ws : List VarDef) → map bare_var vs ≡ map bare_var ws → StoresAgree s t → StoresAgree (record s { slots = cleared f vs s.slots }) (record t { slots = cleared f ws t.slots })
  cleared_agrees f vs ws same (agreeing s others ending h e) =
      subst (λ (slots : List Value). StoresAgree (record s { slots = cleared f vs s.slots }) (record s { slots = slots; objects = others; ending = ending })) (cleared_same f vs ws same s.slots)
      (agreeing (record s { slots = cleared f vs s.slots }) others ending h e)

  pub ended_agrees : {s t : Store} (v : Option Value) → StoresAgree s t → StoresAgree (ended v s) (ended v t)
  ended_agrees None (agreeing s others ending h e) = agreeing (record s { ending = Returned (pos 0) }) others (Returned (pos 0)) h refl
  ended_agrees (Some (value.Int n)) (agreeing s others ending h e) = agreeing (record s { ending = Returned n }) others (Returned n) h refl
  ended_agrees (Some value.Undef) d = d
  ended_agrees (Some value.Null) d = d
  ended_agrees (Some (value.Ptr o)) d = d

  module _ (fresh : Marks false false) where
    objects_born : {objects others : List Object} (n : ℕ) → ObjectsAgree Marks objects others →
        ObjectsAgree Marks (objects ++ (record { cells = replicate n value.Undef; freed = false }) ∷ []) (others ++ (record { cells = replicate n value.Undef; freed = false }) ∷ [])
    objects_born n no_objects = one_more refl fresh no_objects
    objects_born n (one_more c m h) = one_more c m (objects_born n h)

    born_agrees : {s t : Store} (n : ℕ) → StoresAgree s t → StoresAgree (born n s) (born n t)
    born_agrees n (agreeing s others ending h e) = agreeing (born n s) (others ++ (record { cells = replicate n value.Undef; freed = false }) ∷ []) ending (objects_born n h) e

    numbered_agrees : {s t : Store} → StoresAgree s t → length s.objects ≡ length t.objects
    numbered_agrees (agreeing s others ending h e) = as_many h

    granted_agrees : {s t : Store} (l : Option Location) (count : ℤ) (fails : Bool) → StoresAgree s t → StoresAgree (granted l count fails s) (granted l count fails t)
    granted_agrees l (negsuc n) fails d = answered_agrees l value.Null d
    granted_agrees l (pos n) true d = answered_agrees l value.Null d
    granted_agrees {s} {t} l (pos n) false d =
        subst (λ (o : ℕ). StoresAgree (granted l (pos n) false s) (answered l (value.Ptr o) (born n t))) (numbered_agrees d) (answered_agrees l (value.Ptr (length s.objects)) (born_agrees n d))

    requested_agrees : {s t : Store} (l : Option Location) (count : ℤ) → StoresAgree s t → StoresAgree (requested l count s) (requested l count t)
    requested_agrees l count (agreeing s others ending h e) = granted_agrees l count (fails_next s.fails) (agreeing (record s { fails = drop 1 s.fails }) others ending h e)

    -- what an instruction reads

    values_agree : {s t : Store} (e d : Expr) → bare_expr e ≡ bare_expr d → StoresAgree s t → Agree Marks ◌≡◌ (eval s.slots s.objects e) (eval t.slots t.objects d)
    values_agree e d same (agreeing s others ending h g) = eval_agrees Marks fresh h s.slots e d same

    all_values_agree : {s t : Store} (es ds : List Expr) → map bare_expr es ≡ map bare_expr ds → StoresAgree s t → Agree Marks ◌≡◌ (eval_all s.slots s.objects es) (eval_all t.slots t.objects ds)
    all_values_agree es ds same (agreeing s others ending h g) = eval_all_agrees Marks fresh h s.slots es ds same

    locations_agree : {s t : Store} (e d : Expr) → bare_expr e ≡ bare_expr d → StoresAgree s t → Agree Marks ◌≡◌ (place_of s.slots s.objects e) (place_of t.slots t.objects d)
    locations_agree e d same (agreeing s others ending h g) = place_agrees Marks fresh h s.slots e d same

    contents_agree : {s t : Store} (m n : ℕ) (l : Location) → StoresAgree s t → Agree Marks ◌≡◌ (value_at s.slots s.objects m l) (value_at t.slots t.objects n l)
    contents_agree m n l (agreeing s others ending h g) = value_agrees Marks fresh h s.slots m n l

    numbers_agree : {s t : Store} (e d : Expr) → bare_expr e ≡ bare_expr d → StoresAgree s t → Agree Marks ◌≡◌ (eval s.slots s.objects e >>= int_of) (eval t.slots t.objects d >>= int_of)
    numbers_agree e d same g = agree_same Marks int_of int_of (values_agree e d same g) (λ v. agree_itself Marks (int_of v))

    targets_agree : {s t : Store} (e d : Option Expr) → option_map bare_expr e ≡ option_map bare_expr d → StoresAgree s t → Agree Marks ◌≡◌ (target_location s e) (target_location t d)
    targets_agree None None same g = both refl
    targets_agree (Some e) (Some d) same g = agree_same Marks (λ l. Ok (Some l)) (λ l. Ok (Some l)) (locations_agree e d (let one : bare_expr e ≡ bare_expr d = cc in one) g) (λ l. both refl)
    targets_agree _ _ same g = absurd cc

    returned_agrees : {s t : Store} (e d : Option Expr) → option_map bare_expr e ≡ option_map bare_expr d → StoresAgree s t → Agree Marks ◌≡◌ (value_of s e) (value_of t d)
    returned_agrees None None same g = both refl
    returned_agrees (Some e) (Some d) same g = agree_same Marks (λ v. Ok (Some v)) (λ v. Ok (Some v)) (values_agree e d (let one : bare_expr e ≡ bare_expr d = cc in one) g) (λ v. both refl)
    returned_agrees _ _ same g = absurd cc

    old_agrees : {s t : Store} (e d : Expr) (l : Location) → StoresAgree s t → Agree Marks ◌≡◌ (old_number s e l) (old_number t d l)
    old_agrees e d l g = agree_same Marks int_of int_of (contents_agree (offset_of e) (offset_of d) l g) (λ v. agree_itself Marks (int_of v))

    changed_agrees : {s t : Store} (f : ℤ → ℤ → ℤ) (m n : ℕ) (place place' e d : Expr) (l : Location) → bare_expr e ≡ bare_expr d → StoresAgree s t →
        Agree Marks ◌≡◌ (old_number s place l >>= λ a. eval s.slots s.objects e >>= int_of >>= λ b. fitted m (f a b)) (old_number t place' l >>= λ a. eval t.slots t.objects d >>= int_of >>= λ b. fitted n (f a b))
    changed_agrees {s} {t} f m n place place' e d l same g =
        agree_same Marks (λ a. eval s.slots s.objects e >>= int_of >>= λ b. fitted m (f a b)) (λ a. eval t.slots t.objects d >>= int_of >>= λ b. fitted n (f a b)) (old_agrees place place' l g)
        (λ a. agree_same Marks (λ b. fitted m (f a b)) (λ b. fitted n (f a b)) (numbers_agree e d same g) (λ b. fitted_agrees Marks m n (f a b)))

    new_agrees : {s t : Store} (o : Op) (m n : ℕ) (place place' e d : Expr) (l : Location) → bare_expr e ≡ bare_expr d → StoresAgree s t →
        Agree Marks ◌≡◌ (new_value s o m place e l) (new_value t o n place' d l)
    new_agrees op.Put m n place place' e d l same g = values_agree e d same g
    new_agrees op.Add m n place place' e d l same g = changed_agrees (λ a b. a +ℤ b) m n place place' e d l same g
    new_agrees op.Sub m n place place' e d l same g = changed_agrees (λ a b. a -ℤ b) m n place place' e d l same g
    new_agrees op.Mul m n place place' e d l same g = changed_agrees (λ a b. a *ℤ b) m n place place' e d l same g

    module _ (G : Gap → Gap → Type 0) (p q : Program) (c : Correspond G p q) where
      counts_agree : {s t : Store} (x y : Size) → bare_size x ≡ bare_size y → StoresAgree s t → Agree Marks ◌≡◌ (count_of p s x) (count_of q t y)
      counts_agree (size.Ints None) (size.Ints None) same g = both refl
      counts_agree (size.Ints (Some e)) (size.Ints (Some d)) same g = numbers_agree e d (let one : bare_expr e ≡ bare_expr d = cc in one) g
      counts_agree (size.Fields a) (size.Fields b) same g =
          subst (λ (k : ℕ). Agree Marks ◌≡◌ (field_count (slice_get p.structs a)) (field_count (slice_get q.structs k))) (let one : a ≡ b = cc in one)
          (subst (λ (r : Result ℤ Stop). Agree Marks ◌≡◌ (field_count (slice_get p.structs a)) r) (fields_same p.structs q.structs c.structs a) (agree_itself Marks (field_count (slice_get p.structs a))))
      counts_agree _ _ same g = absurd cc

      pub back_agrees : {s t : Store} (f : ℕ) (target : Option ℕ) (v : Option Value) → StoresAgree s t → StoresAgree (back p f target v s) (back q f target v t)
      back_agrees f target v g = cleared_agrees f p.vars q.vars c.vars (received_agrees target v g)

      -- what ends a run on one side alone
      module _ (LeftMet RightMet : Store → Type 0) where
        abbrev Meet : Effect Store → Effect Store → Type 0
        Meet = EffectsMeet StoresAgree LeftMet RightMet

        passes : {s t : Store} → StoresAgree s t → Agree Marks Meet (passing s) (passing t)
        passes g = both (both_pass None g)

        closes : {s t : Store} (b : Bool) (m n : ℕ) → StoresAgree s t → Agree Marks Meet (attempt p (Close b m) s) (attempt q (Close b n) t)
        closes true m n g = both (both_return None g)
        closes false m n g = both_stop Excluded Excluded refl

        assigns : {s t : Store} (o : Op) (m n : ℕ) (place place' e d : Expr) → bare_expr place ≡ bare_expr place' → bare_expr e ≡ bare_expr d → StoresAgree s t →
            Agree Marks Meet (attempt p (Assign place o e m) s) (attempt q (Assign place' o d n) t)
        assigns {s} {t} o m n place place' e d at same g =
            agree_same Marks (λ l. new_value s o m place e l >>= λ v. passing (stored l v s)) (λ l. new_value t o n place' d l >>= λ v. passing (stored l v t)) (locations_agree place place' at g)
            (λ l. agree_same Marks (λ v. passing (stored l v s)) (λ v. passing (stored l v t)) (new_agrees o m n place place' e d l same g) (λ v. passes (stored_agrees l v g)))

        requests : {s t : Store} (m n : ℕ) (place place' : Option Expr) (x y : Size) → option_map bare_expr place ≡ option_map bare_expr place' → bare_size x ≡ bare_size y → StoresAgree s t →
            Agree Marks Meet (attempt p (Malloc place x m) s) (attempt q (Malloc place' y n) t)
        requests {s} {t} m n place place' x y at same g =
            agree_same Marks (λ l. count_of p s x >>= λ k. passing (requested l k s)) (λ l. count_of q t y >>= λ k. passing (requested l k t)) (targets_agree place place' at g)
            (λ l. agree_same Marks (λ k. passing (requested l k s)) (λ k. passing (requested l k t)) (counts_agree x y same g) (λ k. passes (requested_agrees l k g)))

        prints : {s t : Store} (text : List ℕ) (es ds : List Expr) → map bare_expr es ≡ map bare_expr ds → StoresAgree s t → Agree Marks Meet (attempt p (Printf text es) s) (attempt q (Printf text ds) t)
        prints {s} {t} text es ds same g =
            agree_same Marks (λ bytes. passing (written bytes s)) (λ bytes. passing (written bytes t))
            (agree_same Marks (printed text) (printed text)
            (agree_same Marks ints_of ints_of (all_values_agree es ds same g) (λ vs. agree_itself Marks (ints_of vs)))
            (λ ns. agree_itself Marks (printed text ns)))
            (λ bytes. passes (written_agrees bytes g))

        tests : {s t : Store} (e d : Expr) → bare_expr e ≡ bare_expr d → StoresAgree s t → Agree Marks Meet (attempt p (Test e) s) (attempt q (Test d) t)
        tests {s} {t} e d same g =
            agree_same Marks (λ b. Ok (Passes (Some b) s)) (λ b. Ok (Passes (Some b) t)) (agree_same Marks truth truth (values_agree e d same g) (λ v. agree_itself Marks (truth v))) (λ b. both (both_pass (Some b) g))

        invokes : {s t : Store} (number callee number' : ℕ) (es ds : List Expr) (target target' : Option ℕ) → map bare_expr es ≡ map bare_expr ds → StoresAgree s t →
            Agree Marks Meet (attempt p (Invoke number callee es target) s) (attempt q (Invoke number' callee ds target') t)
        invokes {s} {t} number callee number' es ds target target' same g =
            agree_same Marks (λ vs. Ok (Calls callee (bound (parameters_of p callee) vs s))) (λ vs. Ok (Calls callee (bound (parameters_of q callee) vs t))) (all_values_agree es ds same g)
            (λ vs. both (both_call callee (subst (λ (xs : List ℕ). StoresAgree (bound (parameters_of p callee) vs s) (bound xs vs t)) (c.parameters callee) (bound_agrees (parameters_of p callee) vs g))))

        -- an instruction but for offsets does the same
        pub attempts_agree : {s t : Store} (a b : Instruction) → bare_instruction a ≡ bare_instruction b → StoresAgree s t → Agree Marks Meet (attempt p a s) (attempt q b t)
        attempts_agree {s} {t} (Unset x) (Unset y) same g =
            subst (λ (z : ℕ). Agree Marks Meet (attempt p (Unset x) s) (attempt q (Unset z) t)) (let one : x ≡ y = cc in one) (passes (stored_agrees (Slot x) value.Undef g))
        attempts_agree {s} {t} (Assign place o e m) (Assign place' o' d n) same g =
            subst (λ (z : Op). Agree Marks Meet (attempt p (Assign place o e m) s) (attempt q (Assign place' z d n) t)) (let one : o ≡ o' = cc in one)
            (assigns o m n place place' e d (let one : bare_expr place ≡ bare_expr place' = cc in one) (let one : bare_expr e ≡ bare_expr d = cc in one) g)
        attempts_agree (Malloc place x m) (Malloc place' y n) same g =
            requests m n place place' x y (let one : option_map bare_expr place ≡ option_map bare_expr place' = cc in one) (let one : bare_size x ≡ bare_size y = cc in one) g
        attempts_agree {s} {t} (Getchar place) (Getchar place') same g =
            agree_same Marks (λ l. passing (fetched l s)) (λ l. passing (fetched l t)) (targets_agree place place' (let one : option_map bare_expr place ≡ option_map bare_expr place' = cc in one) g) (λ l. passes (fetched_agrees l g))
        attempts_agree {s} {t} (Putchar e) (Putchar d) same g =
            agree_same Marks (λ n. passing (written (low_byte n ∷ []) s)) (λ n. passing (written (low_byte n ∷ []) t)) (numbers_agree e d (let one : bare_expr e ≡ bare_expr d = cc in one) g) (λ n. passes (written_agrees (low_byte n ∷ []) g))
        attempts_agree {s} {t} (Printf text es) (Printf other ds) same g =
            subst (λ (z : List ℕ). Agree Marks Meet (attempt p (Printf text es) s) (attempt q (Printf z ds) t)) (let one : text ≡ other = cc in one)
            (prints text es ds (let one : map bare_expr es ≡ map bare_expr ds = cc in one) g)
        attempts_agree (Test e) (Test d) same g = tests e d (let one : bare_expr e ≡ bare_expr d = cc in one) g
        attempts_agree {s} {t} (Invoke number callee es target) (Invoke number' callee' ds target') same g =
            subst (λ (z : ℕ). Agree Marks Meet (attempt p (Invoke number callee es target) s) (attempt q (Invoke number' z ds target') t)) (let one : callee ≡ callee' = cc in one)
            (invokes number callee number' es ds target target' (let one : map bare_expr es ≡ map bare_expr ds = cc in one) g)
        attempts_agree {s} {t} (Return e m) (Return d n) same g =
            agree_same Marks (λ v. Ok (Returns v s)) (λ v. Ok (Returns v t)) (returned_agrees e d (let one : option_map bare_expr e ≡ option_map bare_expr d = cc in one) g) (λ v. both (both_return v g))
        attempts_agree {s} {t} (Close b m) (Close b' n) same g =
            subst (λ (z : Bool). Agree Marks Meet (attempt p (Close b m) s) (attempt q (Close z n) t)) (let one : b ≡ b' = cc in one) (closes b m n g)
        attempts_agree _ _ same g = absurd cc

        module _ (left_reads : (offset : ℕ) (s : Store) → Marks true false → LeftMet (stopped (Faulted UseAfterFree offset) false s))
            (right_reads : (offset : ℕ) (s : Store) → Marks false true → RightMet (stopped (Faulted UseAfterFree offset) false s)) where
          unless_stopped_agrees : {s t : Store} {x y : Result (Effect Store) Stop} → StoresAgree s t → Agree Marks Meet x y → Meet (unless_stopped s x) (unless_stopped t y)
          unless_stopped_agrees g (both e) = e
          unless_stopped_agrees g (both_stop d e same) = both_stay (stopped_agrees d e false same g)
          unless_stopped_agrees {s} g (left_stale offset r h) = left_stays (left_reads offset s h)
          unless_stopped_agrees {t = t} g (right_stale offset r h) = right_stays (right_reads offset t h)

          pub effects_agree : {s t : Store} (a b : Instruction) → bare_instruction a ≡ bare_instruction b → StoresAgree s t → Meet (effect p a s) (effect q b t)
          effects_agree a b same g = unless_stopped_agrees g (attempts_agree a b same g)
