-- The steps of a straight program before its return: each frees what its gap frees and uses nothing that
-- is gone, or ends the run by a fault that no free raised.
use Rattle.std.proofs.Common.{◌≡◌, ℕ, suc, ◌+◌, ◌<◌, ◌≤◌, Bool, false, ℤ, pos, List, [], ◌∷◌, ◌++◌, length, drop, Option, Some, None, Result, Ok, Err, refl, ap, sym, subst, ◌∙◌, arith, length-append}
use Rattle.std.specs.Fmt.{signed_decimal}
use Rattle.c_tree.specs.declared.expr.Expr.{Expr}
use Rattle.c_tree.specs.declared.expr.Expr.TheVariants as expr
use Rattle.c_tree.specs.declared.expr.Op.TheVariants.{Put}
use Rattle.c_tree.specs.declared.program.Free.{Free}
use Rattle.c_tree.specs.declared.program.Size.TheVariants.{Ints}
use Rattle.c_tree.specs.declared.program.Program.{Program}
use Rattle.c_meaning.specs.declared.value.Value.{Value}
use Rattle.c_meaning.specs.declared.value.Value.TheVariants as value
use Rattle.c_meaning.specs.declared.machine.Object.{Object}
use Rattle.c_meaning.specs.declared.machine.Location.{Location}
use Rattle.c_meaning.specs.declared.machine.Location.TheVariants.{Slot, Cell}
use Rattle.c_meaning.specs.declared.machine.Stop.{Stop}
use Rattle.c_meaning.specs.declared.machine.Kind.{Kind}
use Rattle.c_meaning.specs.declared.machine.Kind.TheVariants as kind
use Rattle.c_meaning.specs.declared.machine.Ending.TheVariants.{Fault}
use Rattle.c_meaning.specs.declared.machine.Machine.{Machine}
use Rattle.c_meaning.specs.First.Frees.{is_in, Frees}
use Rattle.c_meaning.specs.Eval.{flaw, ◌>>=◌, read, eval}
use Rattle.c_meaning.specs.Machine.{Store, machine_of, stored}
use Rattle.c_meaning.specs.Parts.{Instruction, Malloc, Assign, Printf}
use Rattle.c_meaning.specs.Effects.{Effect, attempt, passing, requested, fails_next, ints_of, printed, written}
use Rattle.c_meaning.specs.Step.{target_in, step}
use Rattle.c_meaning.proofs.Evals.{eval_const, place_var}
use Rattle.c_meaning.proofs.First.Cells.{cell_object, place_at_null, place_at_cell, eval_at_null, eval_at_cell}
use Rattle.c_meaning.proofs.First.Flat.{going, frame_at, Stands, GoesOn, behind, passes_on, opens}
use Rattle.c_meaning.proofs.First.Freed.{frees_done, frees_fresh}
use Rattle.c_meaning.proofs.First.Held.{slots_of, objects_of, Holding, cell_value, Rewritten, Looks, empty, full, looks, given, granted_held}

-- the store of a constant to the object that x points to
abbrev pub store_of : ℕ → ℕ → ℕ → ℤ → ℕ → ℕ → Instruction
store_of x at star n n_at equals = Assign (expr.Deref (expr.Var x at) star) Put (expr.Const n n_at) equals

-- "%d\n"
abbrev pub line_of : List ℕ
line_of = 37 ∷ 100 ∷ 10 ∷ []

-- an action where the first n variables are declared, and how many are behind it
pub data IsPlain : ℕ → Instruction → ℕ → Type 0 where
  declares : {n : ℕ} (at word : ℕ) → IsPlain n (Malloc (Some (expr.Var n at)) (Ints None) word) (n + 1)
  stores : {n : ℕ} (x at star : ℕ) (k : ℤ) (k_at equals : ℕ) → x < n → IsPlain n (store_of x at star k k_at equals) n
  shows : {n : ℕ} (x at star : ℕ) → x < n → IsPlain n (Printf line_of (expr.Deref (expr.Var x at) star ∷ [])) n

-- the variable that a plain action reads or writes through is not gone
abbrev pub IsApart : {n l : ℕ} {a : Instruction} → IsPlain n a l → List ℕ → Type 0
IsApart (declares at word) gone = Unit {0}
IsApart (stores x at star k k_at equals h) gone = is_in x gone ≡ false
IsApart (shows x at star h) gone = is_in x gone ≡ false

-- a plain action is no call
pub no_target : {n l : ℕ} {a : Instruction} → IsPlain n a l → target_in a ≡ None
no_target (declares at word) = refl
no_target (stores x at star k k_at equals h) = refl
no_target (shows x at star h) = refl

-- the store with those slots and objects, and all else as in m
abbrev pub keeping : List ℕ → List Holding → List Value → Machine → Store
keeping gone held later m = going (slots_of 0 held ++ later) (objects_of 0 gone held) m.input m.fails m.output m.steps

-- the machine before item i with that store
abbrev pub holding : ℕ → List ℕ → List Holding → List Value → Machine → Machine
holding i gone held later m = machine_of (frame_at (i ∷ []) ∷ []) (keeping gone held later m)

-- the machine before item i: the first n of w slots hold null pointers or objects of their own, and
-- freed are those of the variables that are gone
pub record At (i n : ℕ) (gone : List ℕ) (w : ℕ) (m : Machine) : Type 0 where
  pub held : List Holding
  pub later : List Value
  pub count : length held ≡ n
  pub wide : length held + length later ≡ w
  pub fresh : (x : ℕ) → n ≤ x → is_in x gone ≡ false
  pub is : m ≡ holding i gone held later m

-- the faults that a straight program can meet
abbrev pub IsReadFault : Kind → Type 0
IsReadFault kind.NullDeref = Unit {0}
IsReadFault kind.Uninit = Unit {0}
IsReadFault _ = ⊥

-- where a step has gone on, or ended the run by a fault that no free raised
pub data Went (i n : ℕ) (gone : List ℕ) (w : ℕ) (m : Machine) : Type 0 where
  on : At i n gone w m → Went i n gone w m
  stopped : (k : Kind) (at : ℕ) → IsReadFault k → m.ending ≡ Fault k at false → Went i n gone w m

-- an action of item i on such a store

went_at : (p : Program) (i n w : ℕ) (gone : List ℕ) (s t : Store) → GoesOn p i → Went (i + 1) n gone w (machine_of (frame_at ((i + 1) ∷ []) ∷ []) t) → Went (i + 1) n gone w (behind p i None s (passing t))
went_at p i n w gone s t onward h = subst (λ (c : Machine). Went (i + 1) n gone w c) (sym (passes_on p i s t onward)) h

attempt_declares : (p : Program) (x at word : ℕ) (s : Store) → attempt p (Malloc (Some (expr.Var x at)) (Ints None) word) s ≡ passing (requested (Some (Slot x)) (pos 1) s)
attempt_declares p x at word s = ap (λ (r : Result Location Stop). (r >>= λ l. Ok (Some l)) >>= λ l. passing (requested l (pos 1) s)) (place_var s.slots s.objects x at)

declared : (p : Program) (i w : ℕ) (gone : List ℕ) (held : List Holding) (later : List Value) (m : Machine) (at word : ℕ) → GoesOn p i →
    length held + length later ≡ w → length held + 1 ≤ w → ((x : ℕ) → length held ≤ x → is_in x gone ≡ false) →
    Went (i + 1) (length held + 1) gone w (behind p i None (keeping gone held later m) (attempt p (Malloc (Some (expr.Var (length held) at)) (Ints None) word) (keeping gone held later m)))
declared p i w gone held [] m at word onward wide fits fresh = absurd (let z : length held + 0 ≡ w = wide in omega arith)
declared p i w gone held (v ∷ later) m at word onward wide fits fresh =
    let s = keeping gone held (v ∷ later) m in
    let h = given (fails_next m.fails) in
    let long : length (held ++ h ∷ []) ≡ length held + 1 = length-append held (h ∷ []) in
    let e : attempt p (Malloc (Some (expr.Var (length held) at)) (Ints None) word) s ≡ passing (keeping gone (held ++ h ∷ []) later (record m { fails = drop 1 m.fails })) =
    attempt_declares p (length held) at word s
    ∙ ap passing (granted_held (fails_next m.fails) gone held v later m.input (drop 1 m.fails) m.output m.steps (fresh (length held) (omega arith))) in
    let broad : length held + suc (length later) ≡ w = wide in
    subst (λ (r : Result (Effect Store) Stop). Went (i + 1) (length held + 1) gone w (behind p i None s r)) (sym e)
    (went_at p i (length held + 1) w gone s (keeping gone (held ++ h ∷ []) later (record m { fails = drop 1 m.fails })) onward
    (on (record { held = held ++ h ∷ []; later = later; count = long; wide = omega arith; fresh = λ x from. fresh x (omega arith); is = refl })))

to_store : (p : Program) (i w : ℕ) (gone : List ℕ) (held : List Holding) (later : List Value) (m : Machine) (x at star : ℕ) (k : ℤ) (k_at equals : ℕ) → GoesOn p i →
    length held + length later ≡ w → ((x : ℕ) → length held ≤ x → is_in x gone ≡ false) → is_in x gone ≡ false → Looks 0 0 gone held later x x →
    Went (i + 1) (length held) gone w (behind p i None (keeping gone held later m) (attempt p (store_of x at star k k_at equals) (keeping gone held later m)))
to_store p i w gone held later m x at star k k_at equals onward wide fresh apart (empty points stay) =
    let s = keeping gone held later m in
    let e : attempt p (store_of x at star k k_at equals) s ≡ flaw kind.NullDeref star =
    ap (λ (r : Result Location Stop). r >>= λ l. eval s.slots s.objects (expr.Const k k_at) >>= λ v. passing (stored l v s)) (place_at_null s.slots s.objects x at star points) in
    stopped kind.NullDeref star tt (ap (λ (r : Result (Effect Store) Stop). (behind p i None s r).ending) e)
to_store p i w gone held later m x at star k k_at equals onward wide fresh apart (full o v points cell change goes) =
    let s = keeping gone held later m in
    let z : 0 + o ≡ o = omega arith in
    let r : Rewritten 0 0 gone held o k = change k in
    let count : length r.other ≡ length held = r.count in
    let lives : _ ≡ Some (cell_object (cell_value v) false) = cell ∙ ap (λ (b : Bool). Some (cell_object (cell_value v) b)) apart in
    let e : attempt p (store_of x at star k k_at equals) s ≡ passing (stored (Cell o 0) (value.Int k) s) =
    ap (λ (r : Result Location Stop). r >>= λ l. eval s.slots s.objects (expr.Const k k_at) >>= λ v. passing (stored l v s)) (place_at_cell s.slots s.objects x at star o (cell_value v) (points ∙ ap value.Ptr z) lives)
    ∙ ap (λ (r : Result Value Stop). r >>= λ v. passing (stored (Cell o 0) v s)) (eval_const s.slots s.objects k k_at) in
    let f : stored (Cell o 0) (value.Int k) s ≡ keeping gone r.other later m =
    ap (λ (os : List Object). going (slots_of 0 held ++ later) os m.input m.fails m.output m.steps) r.objects
    ∙ ap (λ (vs : List Value). going (vs ++ later) (objects_of 0 gone r.other) m.input m.fails m.output m.steps) (sym r.slots) in
    subst (λ (r : Result (Effect Store) Stop). Went (i + 1) (length held) gone w (behind p i None s r)) (sym (e ∙ ap passing f))
    (went_at p i (length held) w gone s (keeping gone r.other later m) onward (on (record { held = r.other; later = later; count = count; wide = omega arith; fresh = fresh; is = refl })))

-- the one value of a printf, and what is written
abbrev printing : Store → Result Value Stop → Result (Effect Store) Stop
printing s r = (r >>= λ v. Ok (v ∷ [])) >>= ints_of >>= printed line_of >>= λ bytes. passing (written bytes s)

attempt_shows : (p : Program) (e : Expr) (s : Store) (r : Result Value Stop) → eval s.slots s.objects e ≡ r → attempt p (Printf line_of (e ∷ [])) s ≡ printing s r
attempt_shows p e s (Ok v) h = rw h refl
attempt_shows p e s (Err f) h = rw h refl

show_fault : (p : Program) (i n w : ℕ) (gone : List ℕ) (e : Expr) (s : Store) (k : Kind) (at : ℕ) → IsReadFault k → eval s.slots s.objects e ≡ flaw k at →
    Went (i + 1) n gone w (behind p i None s (attempt p (Printf line_of (e ∷ [])) s))
show_fault p i n w gone e s k at fault h = stopped k at fault (ap (λ (r : Result (Effect Store) Stop). (behind p i None s r).ending) (attempt_shows p e s (flaw k at) h))

-- a cell is indeterminate, or it has an integer
shown_cell : (p : Program) (i w : ℕ) (gone : List ℕ) (held : List Holding) (later : List Value) (m : Machine) (e : Expr) (star : ℕ) (c : Option ℤ) → GoesOn p i →
    length held + length later ≡ w → ((x : ℕ) → length held ≤ x → is_in x gone ≡ false) → eval (slots_of 0 held ++ later) (objects_of 0 gone held) e ≡ read (objects_of 0 gone held) star (cell_value c) →
    Went (i + 1) (length held) gone w (behind p i None (keeping gone held later m) (attempt p (Printf line_of (e ∷ [])) (keeping gone held later m)))
shown_cell p i w gone held later m e star None onward wide fresh h = show_fault p i (length held) w gone e (keeping gone held later m) kind.Uninit star tt h
shown_cell p i w gone held later m e star (Some n) onward wide fresh h =
    let s = keeping gone held later m in
    let t = written (signed_decimal n ++ 10 ∷ []) s in
    subst (λ (r : Result (Effect Store) Stop). Went (i + 1) (length held) gone w (behind p i None s r)) (sym (attempt_shows p e s (Ok (value.Int n)) h))
    (went_at p i (length held) w gone s t onward (on (record { held = held; later = later; count = refl; wide = wide; fresh = fresh; is = refl })))

to_show : (p : Program) (i w : ℕ) (gone : List ℕ) (held : List Holding) (later : List Value) (m : Machine) (x at star : ℕ) → GoesOn p i →
    length held + length later ≡ w → ((x : ℕ) → length held ≤ x → is_in x gone ≡ false) → is_in x gone ≡ false → Looks 0 0 gone held later x x →
    Went (i + 1) (length held) gone w (behind p i None (keeping gone held later m) (attempt p (Printf line_of (expr.Deref (expr.Var x at) star ∷ [])) (keeping gone held later m)))
to_show p i w gone held later m x at star onward wide fresh apart (empty points stay) =
    show_fault p i (length held) w gone (expr.Deref (expr.Var x at) star) (keeping gone held later m) kind.NullDeref star tt
    (eval_at_null (slots_of 0 held ++ later) (objects_of 0 gone held) x at star points)
to_show p i w gone held later m x at star onward wide fresh apart (full o c points cell change goes) =
    let z : 0 + o ≡ o = omega arith in
    shown_cell p i w gone held later m (expr.Deref (expr.Var x at) star) star c onward wide fresh
    (eval_at_cell (slots_of 0 held ++ later) (objects_of 0 gone held) x at star o (cell_value c) (points ∙ ap value.Ptr z) (cell ∙ ap (λ (b : Bool). Some (cell_object (cell_value c) b)) apart))

acted : {n l : ℕ} {a : Instruction} (p : Program) (i w : ℕ) (gone : List ℕ) (held : List Holding) (later : List Value) (m : Machine) → GoesOn p i → (plain : IsPlain n a l) → IsApart plain gone → length held ≡ n → l ≤ w →
    length held + length later ≡ w → ((x : ℕ) → n ≤ x → is_in x gone ≡ false) → Went (i + 1) l gone w (behind p i None (keeping gone held later m) (attempt p a (keeping gone held later m)))
acted p i w gone held later m onward (declares at word) apart count fits wide fresh =
    subst (λ (l : ℕ). Went (i + 1) (l + 1) gone w (behind p i None (keeping gone held later m) (attempt p (Malloc (Some (expr.Var l at)) (Ints None) word) (keeping gone held later m)))) count
    (declared p i w gone held later m at word onward wide (omega arith) (λ x from. fresh x (omega arith)))
acted p i w gone held later m onward (stores x at star k k_at equals h) apart count fits wide fresh =
    let z : x ≡ 0 + x = omega arith in
    subst (λ (l : ℕ). Went (i + 1) l gone w (behind p i None (keeping gone held later m) (attempt p (store_of x at star k k_at equals) (keeping gone held later m)))) count
    (to_store p i w gone held later m x at star k k_at equals onward wide (λ y from. fresh y (omega arith)) apart (looks 0 0 gone held later x x z (omega arith)))
acted p i w gone held later m onward (shows x at star h) apart count fits wide fresh =
    let z : x ≡ 0 + x = omega arith in
    subst (λ (l : ℕ). Went (i + 1) l gone w (behind p i None (keeping gone held later m) (attempt p (Printf line_of (expr.Deref (expr.Var x at) star ∷ [])) (keeping gone held later m)))) count
    (to_show p i w gone held later m x at star onward wide (λ y from. fresh y (omega arith)) apart (looks 0 0 gone held later x x z (omega arith)))

-- a step over an item behind a gap with frees, as its action on the store behind them
pub freeing_step : {i n w : ℕ} {gone now : List ℕ} {fs : List Free} {a : Instruction} {m : Machine} (p : Program) (g : ℕ) → p.gaps ≡ g + 1 →
    Stands p i fs a → Frees n gone fs now → (at : At i n gone w m) →
    step p m ≡ behind p i (target_in a) (keeping now at.held at.later (record m { steps = m.steps + 1 })) (attempt p a (keeping now at.held at.later (record m { steps = m.steps + 1 })))
freeing_step {i} {n} {w} {gone} {now} {fs} {a} {m} p g gaps stands frees at =
    ap (step p) at.is
    ∙ opens p g i fs a (slots_of 0 at.held ++ at.later) (objects_of 0 gone at.held) (objects_of 0 now at.held) m.input m.fails m.output m.steps gaps stands
    (frees_done (going [] [] m.input m.fails m.output (m.steps + 1)) at.held at.later frees at.count)

pub went_on : {i n l w : ℕ} {gone now : List ℕ} {fs : List Free} {a : Instruction} {m : Machine} (p : Program) (g : ℕ) → p.gaps ≡ g + 1 →
    Stands p i fs a → GoesOn p i → Frees n gone fs now →
    (plain : IsPlain n a l) → IsApart plain now → l ≤ w → At i n gone w m → Went (i + 1) l now w (step p m)
went_on {i} {n} {l} {w} {gone} {now} {fs} {a} {m} p g gaps stands onward frees plain apart fits at =
    let count : length at.held ≡ n = at.count in
    let k = record m { steps = m.steps + 1 } in
    let s = keeping now at.held at.later k in
    let e : step p m ≡ behind p i None s (attempt p a s) =
    freeing_step p g gaps stands frees at ∙ ap (λ (t : Option ℕ). behind p i t s (attempt p a s)) (no_target plain) in
    subst (λ (c : Machine). Went (i + 1) l now w c) (sym e)
    (acted p i w now at.held at.later k onward plain apart count fits at.wide (λ x from. frees_fresh frees at.fresh x (omega arith)))
