-- What a free comes to that is given the content of a pointing expression, and what keeps the frees of a gap from faults.
use Rattle.std.specs.Prelude.{◌≡◌, ℕ, ◌+◌, ◌<◌, ◌⊎◌, Bool, true, false, List, ◌∷◌, length, slice_get, Some}
use Rattle.c_tree.specs.declared.expr.Expr.{Expr}
use Rattle.c_tree.specs.declared.program.Free.{Free}
use Rattle.c_meaning.specs.declared.value.Value.{Value}
use Rattle.c_meaning.specs.declared.value.Value.TheVariants as value
use Rattle.c_meaning.specs.declared.machine.Kind.TheVariants.{DoubleFree}
use Rattle.c_meaning.specs.declared.machine.Stop.TheVariants.{Faulted}
use Rattle.c_meaning.specs.Eval.{is_freed}
use Rattle.c_meaning.specs.Machine.{Store, deallocated, stopped}
use Rattle.ts_domain.specs.declared.fact.Fact.TheVariants.{Ready, Full, Filled}
use Rattle.ts_domain.specs.declared.names.Names.{Names}
use Rattle.ts_domain.specs.declared.names.Read.TheVariants as read
use Rattle.ts_domain.specs.declared.pointers.Pointer.{Pointer}
use Rattle.ts_domain.specs.Deeds.{is_null}
use Rattle.ts_domain.specs.Looks.{pointer_of}
use Rattle.ts_domain.specs.Truth.{IsTrueOf}
use Rattle.ts_domain.specs.Views.{View, peek}

-- what a free whose word has that offset makes of a store, by the content that it is given: it does nothing for a null pointer, and
-- frees an object, unless the object is freed already (7.20.3.2)
pub data FreesContent (s : Store) (word : ℕ) : Value → Store → Type 0 where
  nothing : FreesContent s word value.Null s
  frees : (o : ℕ) → is_freed s.objects o ≡ false → FreesContent s word (value.Ptr o) (deallocated o s)
  frees_twice : (o : ℕ) → is_freed s.objects o ≡ true → FreesContent s word (value.Ptr o) (stopped (Faulted DoubleFree word) true s)

-- gaps

module _ (n : Names) (v : View) where
  -- the number of a pointing expression
  abbrev pub IsNumber : Expr → ℕ → Type 0
  IsNumber e m = (q : Pointer) × (pointer_of n e ≡ Some q) × (q.read ≡ read.Name m)

  -- number j of the fields is that of a variable
  abbrev pub IsFieldOf : ℕ → ℕ → Type 0
  IsFieldOf m k = (j h : ℕ) × (m ≡ length n.vars + j) × (slice_get n.fields j ≡ Some (k, h))

  -- what a free asks for is true
  abbrev pub IsReadable : ℕ → Type 0
  IsReadable m =
      (m < length n.vars → IsTrueOf n v (Ready m))
      × ((j k h : ℕ) → m ≡ length n.vars + j → slice_get n.fields j ≡ Some (k, h) → IsTrueOf n v (Full k) × IsTrueOf n v (Filled j))

  -- a null constant, or a pointing expression of which that is true
  abbrev pub IsSure : Free → Type 0
  IsSure f = (is_null f.expr ≡ true) ⊎ ((m : ℕ) × IsNumber f.expr m × IsReadable m)

  -- what is said of an object by its bit and the frees that are left: no free that is left frees it again, or reads a variable that holds
  -- it when its bit is set
  pub record KeepsBits (P : ℕ → Bool → List Free → Type 0) : Type 0 where
    -- a null constant
    pub null : (o : ℕ) (b : Bool) (f : Free) (fs : List Free) → is_null f.expr ≡ true → P o b (f ∷ fs) → P o b fs
    -- an expression that doesn't hold the object
    pub other : (o : ℕ) (b : Bool) (f : Free) (fs : List Free) (m : ℕ) → IsNumber f.expr m → (peek n v m ≡ value.Ptr o → ⊥) → P o b (f ∷ fs) → P o b fs
    -- one that holds it
    pub frees : (o : ℕ) (b : Bool) (f : Free) (fs : List Free) (m : ℕ) → IsNumber f.expr m → peek n v m ≡ value.Ptr o → P o b (f ∷ fs) → (b ≡ false) × P o true fs
    -- the variable of a field doesn't hold it when it is freed
    pub base : (o : ℕ) (f : Free) (fs : List Free) (m k : ℕ) → IsNumber f.expr m → IsFieldOf m k → v.slot k ≡ value.Ptr o → P o true (f ∷ fs) → ⊥

  -- the bits of all objects of a store
  abbrev pub AreBits : (ℕ → Bool → List Free → Type 0) → List Free → Store → Type 0
  AreBits P fs s = (o : ℕ) → o < length s.objects → P o (is_freed s.objects o) fs
