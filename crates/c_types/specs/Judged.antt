-- Parts without types: a rule on a part is looked at only where its own parts have types.
use Rattle.std.specs.Prelude.{ℕ, List, [], ◌∷◌, ◌++◌}
use Rattle.c_tree.specs.declared.expr.Expr.{Expr}
use Rattle.c_tree.specs.declared.expr.Expr.TheVariants as expr
use Rattle.c_tree.specs.declared.program.Right.{Right}
use Rattle.c_tree.specs.declared.program.Right.TheVariants as right
use Rattle.c_types.specs.declared.faults.Fault.{Fault}
use Rattle.c_types.specs.declared.faults.Rule.{Rule}
use Rattle.c_types.specs.declared.judged.Checked.{Checked}
use Rattle.c_types.specs.declared.judged.Judged.{Judged}
use Rattle.c_types.specs.declared.judged.Judged.TheVariants.{Typed, Broken}
use Rattle.c_types.specs.declared.judged.RightValue.{RightValue}
use Rattle.c_types.specs.declared.judged.Value.{Value}
use Rattle.c_types.specs.Fits.{fault, right_of}

-- a part that breaks a rule at an offset
abbrev pub breaks : {A : Type 0} → Rule → ℕ → Judged A
breaks r n = Broken (fault r n ∷ [])

abbrev pub of_one : {A B : Type 0} → (A → Judged B) → Judged A → Judged B
of_one rule (Typed a) = rule a
of_one rule (Broken fs) = Broken fs

abbrev pub of_two : {A B C : Type 0} → (A → B → Judged C) → Judged A → Judged B → Judged C
of_two rule (Typed a) (Typed b) = rule a b
of_two rule (Typed a) (Broken gs) = Broken gs
of_two rule (Broken fs) (Typed b) = Broken fs
of_two rule (Broken fs) (Broken gs) = Broken (fs ++ gs)

abbrev pub faults_of : {A : Type 0} → Judged A → List Fault
faults_of (Typed a) = []
faults_of (Broken fs) = fs

-- the faults of two parts
abbrev pub joint_faults : {A B : Type 0} → Judged A → Judged B → List Fault
joint_faults (Typed a) b = faults_of b
joint_faults (Broken fs) (Typed b) = fs
joint_faults (Broken fs) (Broken gs) = fs ++ gs

-- what a part becomes with the rules that it breaks
abbrev pub checked : {A : Type 0} → A → List Fault → Checked A
checked a fs = record { made = a; faults = fs }

-- a part has a type where it breaks no rule
abbrev pub unless_broken : {A : Type 0} → A → List Fault → Judged A
unless_broken a [] = Typed a
unless_broken a (f ∷ fs) = Broken (f ∷ fs)

-- what stands for an expression without a type
abbrev pub or_null : Judged Value → Expr
or_null (Typed v) = v.expr
or_null (Broken fs) = expr.Null 0

abbrev pub or_null_right : Judged RightValue → Right
or_null_right (Typed v) = right_of v
or_null_right (Broken fs) = right.Plain (expr.Null 0)
