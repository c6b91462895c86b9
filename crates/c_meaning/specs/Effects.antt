-- What frees and instructions do to the store. None of it reads the frames.
use Rattle.std.specs.Prelude.{ℕ, ◌-◌, ◌%◌, ◌==◌, Bool, true, false, ℤ, pos, negsuc, ◌+ℤ◌, ◌-ℤ◌, ◌*ℤ◌, List, [], ◌∷◌, ◌++◌, length, drop, replicate, slice_get, unwrap_or, option_map, Option, Some, None, Result, Ok, Err, if◌then◌else◌}
use Rattle.std.specs.Fmt.{signed_decimal}
use Rattle.c_tree.specs.declared.expr.Expr.{Expr, Expr-F, out-Expr}
use Rattle.c_tree.specs.declared.expr.Expr.TheOpen.{Const, Null, Var, Field, Deref, Index, Unary, Binary}
use Rattle.c_tree.specs.declared.expr.Op.{Op}
use Rattle.c_tree.specs.declared.expr.Op.TheVariants as op
use Rattle.c_tree.specs.declared.program.Free.{Free}
use Rattle.c_tree.specs.declared.program.Size.{Size}
use Rattle.c_tree.specs.declared.program.Size.TheVariants as size
use Rattle.c_tree.specs.declared.program.Home.{Home}
use Rattle.c_tree.specs.declared.program.Home.TheVariants as home
use Rattle.c_tree.specs.declared.program.StructDef.{StructDef}
use Rattle.c_tree.specs.declared.program.VarDef.{VarDef}
use Rattle.c_tree.specs.declared.program.Program.{Program}
use Rattle.c_meaning.specs.declared.value.Value.{Value}
use Rattle.c_meaning.specs.declared.value.Value.TheVariants as value
use Rattle.c_meaning.specs.declared.machine.Location.{Location}
use Rattle.c_meaning.specs.declared.machine.Location.TheVariants.{Slot}
use Rattle.c_meaning.specs.declared.machine.Kind.TheVariants.{Uninit, DoubleFree}
use Rattle.c_meaning.specs.declared.machine.Stop.{Stop}
use Rattle.c_meaning.specs.declared.machine.Stop.TheVariants.{Faulted}
use Rattle.c_meaning.specs.declared.machine.Ending.{Ending}
use Rattle.c_meaning.specs.declared.machine.Ending.TheVariants.{Running, Returned, Fault}
use Rattle.c_meaning.specs.Eval.{excluded, ◌>>=◌, is_freed, content_of, value_at, int_of, fitted, truth, eval, eval_all, place_of, offset_of}
use Rattle.c_meaning.specs.Machine.{Store, stored, deallocated, stopped}
use Rattle.c_meaning.specs.Parts.{Instruction, Unset, Assign, Malloc, Getchar, Putchar, Printf, Test, Invoke, Return, Close}

-- frees

-- what a location holds, without a read of it
abbrev pub content_at : Store → Location → Result Value Stop
content_at s l = Ok (content_of s.slots s.objects l)

-- what `free` is given: a place is looked at whatever the state of the object that its content points
-- to, and only its base is read
abbrev pub freed_layer : Store → Expr → Expr-F Expr → Result Value Stop
freed_layer s e (Var x offset) = place_of s.slots s.objects e >>= content_at s
freed_layer s e (Field a f offset) = place_of s.slots s.objects e >>= content_at s
freed_layer s e (Deref a offset) = place_of s.slots s.objects e >>= content_at s
freed_layer s e (Index a i offset) = place_of s.slots s.objects e >>= content_at s
freed_layer s e (Const n offset) = eval s.slots s.objects e
freed_layer s e (Null offset) = eval s.slots s.objects e
freed_layer s e (Unary sign a offset) = eval s.slots s.objects e
freed_layer s e (Binary o a b offset) = eval s.slots s.objects e

-- the object that `free` is given: freed now, or a double free
abbrev pub freed_once : ℕ → ℕ → Bool → Store → Store
freed_once word o true s = stopped (Faulted DoubleFree word) true s
freed_once word o false s = deallocated o s

-- free of a value: nothing for a null pointer, which the constant 0 is too, and the types exclude other
-- numbers; a freed object is a double free at the word (7.20.3.2)
abbrev pub freed_value : ℕ → ℕ → Value → Store → Store
freed_value word offset value.Undef s = stopped (Faulted Uninit offset) true s
freed_value word offset (value.Int n) s = s
freed_value word offset value.Null s = s
freed_value word offset (value.Ptr o) s = freed_once word o (is_freed s.objects o) s

-- what `free` is given, or why there is none
abbrev pub freed_result : ℕ → ℕ → Result Value Stop → Store → Store
freed_result word offset (Ok v) s = freed_value word offset v s
freed_result word offset (Err e) s = stopped e true s

-- `free(e);` (7.20.3.2)
abbrev pub freed : Free → Store → Store
freed f s = freed_result f.start (offset_of f.expr) (freed_layer s f.expr (out-Expr f.expr)) s

-- whether a run has ended
abbrev pub is_over : Ending → Bool
is_over Running = false
is_over (Returned n) = true
is_over (Fault kind offset by_free) = true

-- the frees of a gap, in order, up to the first fault
abbrev pub all_freed : List Free → Store → Store
all_freed [] s = s
all_freed (f ∷ fs) s = if is_over (freed f s).ending then freed f s else all_freed fs (freed f s)

-- assignments: the place is worked out first, then the old value is read where there is one, then the
-- right side (6.5.16, 6.5.16.2)

-- where an answer goes, if anywhere
abbrev pub target_location : Store → Option Expr → Result (Option Location) Stop
target_location s None = Ok None
target_location s (Some e) = place_of s.slots s.objects e >>= λ l. Ok (Some l)

-- an answer is stored where there is a place for it
abbrev pub answered : Option Location → Value → Store → Store
answered None v s = s
answered (Some l) v s = stored l v s

-- the old value at a location, read by the place's variable or operator
abbrev pub old_number : Store → Expr → Location → Result ℤ Stop
old_number s place l = value_at s.slots s.objects (offset_of place) l >>= int_of

-- the value that an assignment stores, from its place and right side
abbrev pub new_value : Store → Op → ℕ → Expr → Expr → Location → Result Value Stop
new_value s op.Put offset place e l = eval s.slots s.objects e
new_value s op.Add offset place e l = old_number s place l >>= λ a. eval s.slots s.objects e >>= int_of >>= λ b. fitted offset (a +ℤ b)
new_value s op.Sub offset place e l = old_number s place l >>= λ a. eval s.slots s.objects e >>= int_of >>= λ b. fitted offset (a -ℤ b)
new_value s op.Mul offset place e l = old_number s place l >>= λ a. eval s.slots s.objects e >>= int_of >>= λ b. fitted offset (a *ℤ b)

-- requests

-- how many cells a request asks for
abbrev pub field_count : Option StructDef → Result ℤ Stop
field_count None = excluded
field_count (Some d) = Ok (pos (length d.fields))

-- how many cells a request asks for
abbrev pub count_of : Program → Store → Size → Result ℤ Stop
count_of p s (size.Ints None) = Ok (pos 1)
count_of p s (size.Ints (Some e)) = eval s.slots s.objects e >>= int_of
count_of p s (size.Fields d) = field_count (slice_get p.structs d)

-- whether the next malloc fails
abbrev pub fails_next : List Bool → Bool
fails_next [] = false
fails_next (b ∷ bs) = b

-- a new object, its cells indeterminate (7.20.3.3)
abbrev pub born : ℕ → Store → Store
born n s = record s { objects = s.objects ++ (record { cells = replicate n value.Undef; freed = false }) ∷ [] }

-- the k-th malloc fails where the k-th entry of the failure list says so, past its end none; a
-- negative count gives a null pointer and counts too
abbrev pub granted : Option Location → ℤ → Bool → Store → Store
granted l (negsuc n) fails s = answered l value.Null s
granted l (pos n) true s = answered l value.Null s
granted l (pos n) false s = answered l (value.Ptr (length s.objects)) (born n s)

-- a malloc takes the next entry of the failure list
abbrev pub requested : Option Location → ℤ → Store → Store
requested l count s = granted l count (fails_next s.fails) (record s { fails = drop 1 s.fails })

-- input and output

-- the next byte of the input, or -1 (7.19.7.6)
abbrev pub next_byte : List ℕ → Value
next_byte [] = value.Int (negsuc 0)
next_byte (b ∷ bs) = value.Int (pos b)

-- getchar takes a byte of the input
abbrev pub fetched : Option Location → Store → Store
fetched l s = answered l (next_byte s.input) (record s { input = drop 1 s.input })

-- the low eight bits (7.19.7.3p2, 6.3.1.3p2)
abbrev pub low_byte : ℤ → ℕ
low_byte (pos n) = n % 256
low_byte (negsuc n) = 255 - n % 256

-- bytes at the end of the output
abbrev pub written : List ℕ → Store → Store
written bytes s = record s { output = s.output ++ bytes }

-- the arguments of a printf as numbers
abbrev pub ints_of : List Value → Result (List ℤ) Stop
ints_of [] = Ok []
ints_of (v ∷ vs) = int_of v >>= λ n. ints_of vs >>= λ ns. Ok (n ∷ ns)

-- the next argument in decimal, and what follows it
abbrev pub decimal_of : List ℤ → Result (List ℕ) Stop → Result (List ℕ) Stop
decimal_of [] rest = excluded
decimal_of (n ∷ ns) rest = rest >>= λ bytes. Ok (signed_decimal n ++ bytes)

-- %d writes the next argument in decimal, %% a percent sign, and other bytes stand for themselves
-- (7.19.6.1); the types exclude other conversions and another number of arguments
abbrev mutual
  pub printed : List ℕ → List ℤ → Result (List ℕ) Stop
  printed [] [] = Ok []
  printed [] (n ∷ ns) = excluded
  printed (c ∷ text) ns = if c == 37 then converted text ns else (printed text ns >>= λ bytes. Ok (c ∷ bytes))

  pub converted : List ℕ → List ℤ → Result (List ℕ) Stop
  converted [] ns = excluded
  converted (c ∷ text) ns = if c == 100 then decimal_of ns (printed text (drop 1 ns)) else if c == 37 then (printed text ns >>= λ bytes. Ok (37 ∷ bytes)) else excluded

-- instructions

-- what an instruction comes to
pub data Effect (M : Type 0) : Type 0 where
  -- control goes on, behind a test by what it says
  Passes : (said : Option Bool) (s : M) → Effect M
  -- a function is entered, its parameters bound
  Calls : (callee : ℕ) (s : M) → Effect M
  -- a function is left
  Returns : (value : Option Value) (s : M) → Effect M
  -- control stays: a fault, or what the types exclude
  Stays : (s : M) → Effect M

-- an effect on the store, unless there is a fault
abbrev pub unless_stopped : Store → Result (Effect Store) Stop → Effect Store
unless_stopped s (Ok e) = e
unless_stopped s (Err e) = Stays (stopped e false s)

-- control goes on, and nothing was tested
abbrev pub passing : Store → Result (Effect Store) Stop
passing s = Ok (Passes None s)

-- the parameters get the arguments' values, in order (6.5.2.2p4)
abbrev pub bound : List ℕ → List Value → Store → Store
bound [] vs s = s
bound (x ∷ xs) [] s = s
bound (x ∷ xs) (v ∷ vs) s = bound xs vs (stored (Slot x) v s)

-- every number of a function in a well-formed program exists
abbrev pub parameters_of : Program → ℕ → List ℕ
parameters_of p f = unwrap_or (option_map (λ d. d.params) (slice_get p.funs f)) []

-- the value that a return gives, if any
abbrev pub value_of : Store → Option Expr → Result (Option Value) Stop
value_of s None = Ok None
value_of s (Some e) = eval s.slots s.objects e >>= λ v. Ok (Some v)

-- what an instruction does to the store, or why it does not
abbrev pub attempt : Program → Instruction → Store → Result (Effect Store) Stop
attempt p (Unset x) s = passing (stored (Slot x) value.Undef s)
attempt p (Assign place o e offset) s = place_of s.slots s.objects place >>= λ l. new_value s o offset place e l >>= λ v. passing (stored l v s)
attempt p (Malloc place size offset) s = target_location s place >>= λ l. count_of p s size >>= λ n. passing (requested l n s)
attempt p (Getchar place) s = target_location s place >>= λ l. passing (fetched l s)
attempt p (Putchar e) s = eval s.slots s.objects e >>= int_of >>= λ n. passing (written (low_byte n ∷ []) s)
attempt p (Printf text arguments) s = eval_all s.slots s.objects arguments >>= ints_of >>= printed text >>= λ bytes. passing (written bytes s)
attempt p (Test e) s = eval s.slots s.objects e >>= truth >>= λ b. Ok (Passes (Some b) s)
attempt p (Invoke number callee arguments target) s = eval_all s.slots s.objects arguments >>= λ vs. Ok (Calls callee (bound (parameters_of p callee) vs s))
attempt p (Return value offset) s = value_of s value >>= λ v. Ok (Returns v s)
attempt p (Close true offset) s = Ok (Returns None s)
attempt p (Close false offset) s = excluded

-- what an instruction comes to
abbrev pub effect : Program → Instruction → Store → Effect Store
effect p a s = unless_stopped s (attempt p a s)

-- returns

-- whether a variable is of function f
abbrev pub is_home_in : ℕ → Home → Bool
is_home_in f (home.Global n) = false
is_home_in f (home.Param g) = g == f
is_home_in f (home.Local g) = g == f
is_home_in f (home.Result g) = g == f

-- the lifetime of a function's variables ends (6.2.4p5)
abbrev pub cleared : ℕ → List VarDef → List Value → List Value
cleared f [] slots = slots
cleared f (v ∷ vs) [] = []
cleared f (d ∷ ds) (v ∷ vs) = (if is_home_in f d.home then value.Undef else v) ∷ cleared f ds vs

-- the target of a call gets the returned value
abbrev pub received : Option ℕ → Option Value → Store → Store
received (Some x) (Some v) s = stored (Slot x) v s
received (Some x) None s = s
received None v s = s

-- back from function f: its value goes to the target, and its slots are indeterminate again
abbrev pub back : Program → ℕ → Option ℕ → Option Value → Store → Store
back p f target v s =
    let t : Store = received target v s in
    record t { slots = cleared f p.vars t.slots }

-- main has ended, by its closing brace with 0 (5.1.2.2.3); the types exclude other values than numbers
abbrev pub ended : Option Value → Store → Store
ended None s = record s { ending = Returned (pos 0) }
ended (Some (value.Int n)) s = record s { ending = Returned n }
ended (Some value.Undef) s = s
ended (Some value.Null) s = s
ended (Some (value.Ptr o)) s = s
