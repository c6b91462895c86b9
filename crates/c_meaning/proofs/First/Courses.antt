-- Whole runs of a straight main: plain items and then a return. After s steps control stands before
-- item s, or the run has ended.
use Rattle.std.proofs.Common.{◌≡◌, ℕ, zero, suc, ◌+◌, ◌<◌, ◌≤◌, Bool, true, false, ℤ, List, [], ◌∷◌, map, length, Some, None, refl, ap, sym, subst, ◌∙◌, arith, All, IsTrue}
use Rattle.std.proofs.lemmas.List.{length-map}
use Rattle.c_tree.specs.declared.expr.Expr.TheVariants as expr
use Rattle.c_tree.specs.declared.program.Free.{Free}
use Rattle.c_tree.specs.declared.program.Program.{Program}
use Rattle.c_meaning.specs.declared.machine.Kind.{Kind}
use Rattle.c_meaning.specs.declared.machine.Kind.TheVariants as kind
use Rattle.c_meaning.specs.declared.machine.Ending.{Ending}
use Rattle.c_meaning.specs.declared.machine.Ending.TheVariants.{Running, Returned, Fault}
use Rattle.c_meaning.specs.declared.machine.Machine.{Machine}
use Rattle.c_meaning.specs.Machine.{start, start_value}
use Rattle.c_meaning.specs.First.Frees.{Frees, is_in}
use Rattle.c_meaning.specs.Parts.{Instruction}
use Rattle.c_meaning.specs.Parts as parts
use Rattle.c_meaning.specs.Effects.{is_over}
use Rattle.c_meaning.specs.Step.{acts, state_of, seen, unless_ended, step}
use Rattle.c_meaning.specs.Safe.{run, Safe}
use Rattle.c_meaning.proofs.First.Flat.{Stands, GoesOn}
use Rattle.c_meaning.proofs.First.Held.{all_gone}
use Rattle.c_meaning.proofs.First.Plain.{IsPlain, IsApart, At, Went, on, stopped, IsReadFault, went_on}
use Rattle.c_meaning.proofs.First.Returns.{return_step}

-- main from item i on, where n variables are declared and those of `gone` are freed: plain items behind
-- gaps with frees, none of which uses a variable that is gone; the items declare the variables below l;
-- then the return of k, behind whose gap's frees all variables are gone
pub data Course (p : Program) (k : ℤ) (l : ℕ) : (i n : ℕ) → (gone : List ℕ) → Type 0 where
  ends : {i : ℕ} {gone now : List ℕ} {fs : List Free} (k_at offset : ℕ) → Stands p i fs (parts.Return (Some (expr.Const k k_at)) offset) → Frees l gone fs now
      → ((x : ℕ) → x < l → is_in x now ≡ true) → Course p k l i l gone
  goes : {i n m : ℕ} {gone now : List ℕ} {fs : List Free} {a : Instruction} → Stands p i fs a → GoesOn p i → Frees n gone fs now
      → (plain : IsPlain n a m) → IsApart plain now → Course p k l (i + 1) m now → Course p k l i n gone

Course-order : {p : Program} {k : ℤ} {l i n : ℕ} {gone : List ℕ} → Course p k l i n gone → n ≤ l
Course-order (ends k_at offset stands frees all) = omega arith
Course-order (goes stands onward frees plain apart rest) = let h = Course-order rest in plain_order plain h
  where
    plain_order : {n m l : ℕ} {a : Instruction} → IsPlain n a m → m ≤ l → n ≤ l
    plain_order (IsPlain.declares at word) h = omega arith
    plain_order (IsPlain.stores x at star c c_at equals b) h = h
    plain_order (IsPlain.shows x at star b) h = h

-- the machine after s steps: before item s, or returned with all freed, or ended by a fault that no
-- free raised
pub data Stage (p : Program) (k : ℤ) (l w s : ℕ) (m : Machine) : Type 0 where
  before : {n : ℕ} {gone : List ℕ} → Course p k l s n gone → At s n gone w m → Stage p k l w s m
  back : m.ending ≡ Returned k → All (λ o. IsTrue o.freed) m.objects → Stage p k l w s m
  broken : (c : Kind) (at : ℕ) → IsReadFault c → m.ending ≡ Fault c at false → Stage p k l w s m

pub stays : (p : Program) (m : Machine) (e : Ending) → m.ending ≡ e → (e ≡ Running → ⊥) → step p m ≡ m
stays p m Running h apart = absurd (apart refl)
stays p m (Returned n) h apart = ap (λ (e : Ending). seen (unless_ended p (acts p) (state_of m) (is_over e))) h
stays p m (Fault c at by) h apart = ap (λ (e : Ending). seen (unless_ended p (acts p) (state_of m) (is_over e))) h

went_stage : {p : Program} {k : ℤ} {l w s n : ℕ} {gone : List ℕ} {m : Machine} → Course p k l s n gone → Went s n gone w m → Stage p k l w s m
went_stage course (on at) = before course at
went_stage course (stopped c at fault h) = broken c at fault h

from_before : {k : ℤ} {l w s n : ℕ} {gone : List ℕ} {m : Machine} (p : Program) (g : ℕ) → p.gaps ≡ g + 1 → l ≤ w → Course p k l s n gone → At s n gone w m → Stage p k l w (s + 1) (step p m)
from_before {k} {l} p g gaps fits (ends {now = now} k_at offset stands frees all) at =
    let e = return_step p g k k_at offset gaps stands frees at in
    let count : length at.held ≡ l = at.count in
    back (ap (λ (c : Machine). c.ending) e)
    (subst (λ (c : Machine). All (λ o. IsTrue o.freed) c.objects) (sym e) (all_gone 0 now at.held (λ x from below. all x (omega arith))))
from_before p g gaps fits (goes stands onward frees plain apart rest) at =
    let order = Course-order rest in
    went_stage rest (went_on p g gaps stands onward frees plain apart (omega arith) at)

pub stage_step : {k : ℤ} {l w s : ℕ} {m : Machine} (p : Program) (g : ℕ) → p.gaps ≡ g + 1 → l ≤ w → Stage p k l w s m → Stage p k l w (s + 1) (step p m)
stage_step p g gaps fits (before course at) = from_before p g gaps fits course at
stage_step {k} {l} {w} {s} {m} p g gaps fits (back h freed) =
    subst (λ (c : Machine). Stage p k l w (s + 1) c) (sym (stays p m (Returned k) h (λ e. cc))) (back h freed)
stage_step {k} {l} {w} {s} {m} p g gaps fits (broken c at fault h) =
    subst (λ (d : Machine). Stage p k l w (s + 1) d) (sym (stays p m (Fault c at false) h (λ e. cc))) (broken c at fault h)

-- before the first item nothing is declared
pub at_start : (p : Program) (input : List ℕ) (fails : List Bool) → p.main ≡ 0 → At 0 0 [] (length p.vars) (start p input fails)
at_start p input fails h = record {
  held = [];
  later = map (λ v. start_value v.ty v.home) p.vars;
  count = refl;
  wide = let e = length-map p.vars (λ v. start_value v.ty v.home) in omega arith;
  fresh = λ x from. refl;
  is = ap (λ (f : ℕ). record (start p input fails) { rest = record { fun = f; path = 0 ∷ []; target = None } ∷ [] }) h;
}

pub stage_of_run : {k : ℤ} {l : ℕ} (p : Program) (g : ℕ) → p.gaps ≡ g + 1 → p.main ≡ 0 → l ≤ length p.vars → Course p k l 0 0 [] →
    (input : List ℕ) (fails : List Bool) (n : ℕ) → Stage p k l (length p.vars) n (run p input fails n)
stage_of_run p g gaps main fits course input fails zero = before course (at_start p input fails main)
stage_of_run {k} {l} p g gaps main fits course input fails (suc n) =
    let e : n + 1 ≡ suc n = omega arith in
    subst (λ (s : ℕ). Stage p k l (length p.vars) s (run p input fails (suc n))) e
    (stage_step p g gaps fits (stage_of_run p g gaps main fits course input fails n))

stage_kind : {p : Program} {k : ℤ} {l w s : ℕ} {m : Machine} → Stage p k l w s m → (c : Kind) (at : ℕ) (by : Bool) → m.ending ≡ Fault c at by → IsReadFault c × (by ≡ false)
stage_kind (before course at) c at' by h = absurd (let e = at.is in let f : Fault c at' by ≡ Running = sym h ∙ ap (λ (x : Machine). x.ending) e in cc)
stage_kind (back e freed) c at by h = absurd (let f : Fault c at by ≡ Returned _ = sym h ∙ e in cc)
stage_kind (broken d at' fault e) c at by h = (subst IsReadFault (let f : Fault d at' false ≡ Fault c at by = sym e ∙ h in cc) fault, let f : Fault d at' false ≡ Fault c at by = sym e ∙ h in cc)

stage_returned : {p : Program} {k : ℤ} {l w s : ℕ} {m : Machine} → Stage p k l w s m → (answer : ℤ) → m.ending ≡ Returned answer → All (λ o. IsTrue o.freed) m.objects
stage_returned (before course at) answer h = absurd (let e = at.is in let f : Returned answer ≡ Running = sym h ∙ ap (λ (x : Machine). x.ending) e in cc)
stage_returned (back e freed) answer h = freed
stage_returned (broken d at fault e) answer h = absurd (let f : Returned answer ≡ Fault d at false = sym h ∙ e in cc)

pub safe_course : {k : ℤ} {l : ℕ} (p : Program) (g : ℕ) → p.gaps ≡ g + 1 → p.main ≡ 0 → l ≤ length p.vars → Course p k l 0 0 [] → Safe p
safe_course p g gaps main fits course = record {
  no_use_after_free = λ input fails n bytes at by h. (stage_kind (stage_of_run p g gaps main fits course input fails n) kind.UseAfterFree at by h).0;
  no_double_free = λ input fails n bytes at by h. (stage_kind (stage_of_run p g gaps main fits course input fails n) kind.DoubleFree at by h).0;
  no_fault_by_free = λ input fails n bytes c at h. let e = (stage_kind (stage_of_run p g gaps main fits course input fails n) c at true h).1 in cc;
  all_freed = λ input fails n bytes answer h. stage_returned (stage_of_run p g gaps main fits course input fails n) answer h;
}
