-- Computed runs of small programs, step by step: a branch with what malloc gives and where it fails, a
-- loop with a break and a continue, calls that return through a nameless slot, and faults.
use Rattle.std.proofs.Common.{◌≡◌, ℕ, ◌+◌, Bool, true, false, pos, List, [], ◌∷◌, Some, None, codes, ◌++◌, refl, ap, ◌∙◌}
use Rattle.std.specs.Prelude.{slice_get}
use Rattle.std.specs.Fmt.{signed_decimal}
use Rattle.c_tree.specs.declared.expr.Expr.TheVariants as expr
use Rattle.c_tree.specs.declared.expr.Op.TheVariants as op
use Rattle.c_tree.specs.declared.expr.Oper.TheVariants as oper
use Rattle.c_tree.specs.declared.expr.Sign.TheVariants as sign
use Rattle.c_tree.specs.declared.program.Block.{roll-Block, out-roll-Block}
use Rattle.c_tree.specs.declared.program.Piece.{roll-Piece}
use Rattle.c_tree.specs.declared.program.Arm.{roll-Arm}
use Rattle.c_tree.specs.declared.program.Item.TheVariants as item
use Rattle.c_tree.specs.declared.program.Start.TheVariants as start
use Rattle.c_tree.specs.declared.program.Ty.TheVariants as ty
use Rattle.c_tree.specs.declared.program.Home.TheVariants as home
use Rattle.c_tree.specs.declared.program.Right.TheVariants as right
use Rattle.c_tree.specs.declared.program.Call.TheVariants as call
use Rattle.c_tree.specs.declared.program.Size.TheVariants as size
use Rattle.c_tree.specs.declared.program.Program.{Program}
use Rattle.c_meaning.specs.declared.value.Value.{Value}
use Rattle.c_meaning.specs.declared.value.Value.TheVariants as value
use Rattle.c_meaning.specs.declared.machine.Object.{Object}
use Rattle.c_meaning.specs.declared.machine.Frame.{Frame}
use Rattle.c_meaning.specs.declared.machine.Kind.TheVariants as kind
use Rattle.c_meaning.specs.declared.machine.Ending.{Ending}
use Rattle.c_meaning.specs.declared.machine.Ending.TheVariants.{Running, Returned, Fault}
use Rattle.c_meaning.specs.declared.machine.Machine.{Machine}
use Rattle.c_meaning.specs.Machine.{Store, machine_of}
use Rattle.c_meaning.specs.Parts.{Assign, Malloc, Printf, Test, Invoke, Return}
use Rattle.c_meaning.specs.Place.{AtGap, AtAction, spot_in_fun, next_in_fun}
use Rattle.c_meaning.specs.Effects.{Passes, Calls, Returns, Stays, effect, all_freed, parameters_of}
use Rattle.c_meaning.specs.Step.{step}
use Rattle.c_meaning.specs.Safe.{run}
use Rattle.c_meaning.proofs.Evals.{eval_var, eval_const, eval_null, eval_field, eval_deref, eval_binary}
use Rattle.c_meaning.proofs.Conditions.{test_of_arm, body_of_arm, first_var, first_unary, first_binary}

abbrev store : List Value → List Object → List ℕ → List Bool → List ℕ → ℕ → Ending → Store
store slots objects input fails output steps ending = record { slots = slots; objects = objects; input = input; fails = fails; output = output; steps = steps; ending = ending }

abbrev machine : List Value → List Object → List Frame → List ℕ → List Bool → List ℕ → ℕ → Ending → Machine
machine slots objects rest input fails output steps ending = machine_of rest (store slots objects input fails output steps ending)

-- int main(void) { int *p = malloc(sizeof(int)); if (p == NULL) { return 1; } *p = 7; printf("%d\n", *p); return 0; }
branch : Program
branch = record {
  structs = [];
  vars = (record { name = codes "p"; ty = ty.IntPtr; home = (home.Local (0)); at = 22 } ∷ record { name = []; ty = ty.Int; home = (home.Result (0)); at = 114 } ∷ []);
  funs = (record { name = codes "main"; result = Some ty.Int; params = []; body = (roll-Block (record { items = (roll-Piece (record { gap = record { number = 0; frees = [] }; item = (item.Declare (record { var = 0; right = Some (right.Call (call.Malloc (size.Ints (None)) 26)); at = 24 } ∷ [])); start = 0; end = 0 }) ∷ roll-Piece (record { gap = record { number = 1; frees = [] }; item = (item.If (roll-Arm (record { test = (expr.Binary oper.Eq (expr.Var 0 51) (expr.Null 56) 53); body = (roll-Block (record { items = (roll-Piece (record { gap = record { number = 2; frees = [] }; item = (item.Return (Some (right.Plain (expr.Const (pos 1) 71))) 64); start = 0; end = 0 }) ∷ []); last_gap = record { number = 3; frees = [] }; braced = true; start = 62; end = 75 })) }) ∷ []) (None)); start = 0; end = 0 }) ∷ roll-Piece (record { gap = record { number = 4; frees = [] }; item = (item.Assign (record { place = (expr.Deref (expr.Var 0 77) 76); op = op.Put; right = (right.Plain (expr.Const (pos 7) 81)); at = 79 })); start = 0; end = 0 }) ∷ roll-Piece (record { gap = record { number = 5; frees = [] }; item = (item.Do (call.Printf (37 ∷ 100 ∷ 10 ∷ []) ((expr.Deref (expr.Var 0 100) 99) ∷ []) 84)); start = 0; end = 0 }) ∷ roll-Piece (record { gap = record { number = 6; frees = [] }; item = (item.Return (Some (right.Plain (expr.Const (pos 0) 111))) 104); start = 0; end = 0 }) ∷ []); last_gap = record { number = 7; frees = [] }; braced = true; start = 15; end = 115 })); at = 4 } ∷ []);
  main = 0;
  gaps = 8;
  calls = 0;
}

gaps_branch : branch.gaps + 1 ≡ 9
unfolding branch
gaps_branch = refl

branch_0 : run branch [] [] 0 ≡ machine (value.Undef ∷ value.Undef ∷ []) [] (record { fun = 0; path = (0 ∷ []); target = None } ∷ []) [] [] [] 0 Running
unfolding branch
branch_0 = refl

gap_branch_0_0 : spot_in_fun branch 0 (slice_get branch.funs 0) (0 ∷ []) ≡ AtGap (record { number = 0; frees = [] })
unfolding branch
gap_branch_0_0 = simp (out-roll-Block)

behind_branch_0_0 : next_in_fun branch 0 (slice_get branch.funs 0) (None) (0 ∷ []) ≡ (0 ∷ 0 ∷ [])
unfolding branch
behind_branch_0_0 = simp (out-roll-Block, item.outs-Declare)

at_branch_0_0_0 : spot_in_fun branch 0 (slice_get branch.funs 0) (0 ∷ 0 ∷ []) ≡ AtAction (Malloc (Some (expr.Var 0 24)) (size.Ints (None)) 26)
unfolding branch
at_branch_0_0_0 = simp (out-roll-Block, item.outs-Declare)

behind_branch_0_0_0 : next_in_fun branch 0 (slice_get branch.funs 0) (None) (0 ∷ 0 ∷ []) ≡ (1 ∷ [])
unfolding branch
behind_branch_0_0_0 = simp (out-roll-Block, item.outs-Declare)

does_branch_1 : effect branch (Malloc (Some (expr.Var 0 24)) (size.Ints (None)) 26) (store (value.Undef ∷ value.Undef ∷ []) [] [] [] [] 1 Running) ≡ Passes None (store ((value.Ptr 0) ∷ value.Undef ∷ []) (record { cells = (value.Undef ∷ []); freed = false } ∷ []) [] [] [] 1 Running)
unfolding branch
does_branch_1 = simp (expr.outs-Var)

branch_1 : run branch [] [] 1 ≡ machine ((value.Ptr 0) ∷ value.Undef ∷ []) (record { cells = (value.Undef ∷ []); freed = false } ∷ []) (record { fun = 0; path = (1 ∷ []); target = None } ∷ []) [] [] [] 1 Running
branch_1 = ap (step branch) branch_0 ∙ rw (gaps_branch, gap_branch_0_0, behind_branch_0_0, at_branch_0_0_0, does_branch_1, behind_branch_0_0_0) refl

gap_branch_0_1 : spot_in_fun branch 0 (slice_get branch.funs 0) (1 ∷ []) ≡ AtGap (record { number = 1; frees = [] })
unfolding branch
gap_branch_0_1 = simp (out-roll-Block)

behind_branch_0_1 : next_in_fun branch 0 (slice_get branch.funs 0) (None) (1 ∷ []) ≡ (1 ∷ 0 ∷ [])
unfolding branch
behind_branch_0_1 = simp (out-roll-Block, test_of_arm, item.outs-If, first_binary)

at_branch_0_1_0 : spot_in_fun branch 0 (slice_get branch.funs 0) (1 ∷ 0 ∷ []) ≡ AtAction (Test (expr.Binary oper.Eq (expr.Var 0 51) (expr.Null 56) 53))
unfolding branch
at_branch_0_1_0 = simp (out-roll-Block, test_of_arm, item.outs-If, expr.outs-Binary)

behind_branch_0_1_0_no : next_in_fun branch 0 (slice_get branch.funs 0) (Some false) (1 ∷ 0 ∷ []) ≡ (2 ∷ [])
unfolding branch
behind_branch_0_1_0_no = simp (out-roll-Block, item.outs-If)

does_branch_2 : effect branch (Test (expr.Binary oper.Eq (expr.Var 0 51) (expr.Null 56) 53)) (store ((value.Ptr 0) ∷ value.Undef ∷ []) (record { cells = (value.Undef ∷ []); freed = false } ∷ []) [] [] [] 2 Running) ≡ Passes (Some false) (store ((value.Ptr 0) ∷ value.Undef ∷ []) (record { cells = (value.Undef ∷ []); freed = false } ∷ []) [] [] [] 2 Running)
unfolding branch
does_branch_2 = simp (eval_var, eval_null, eval_binary)

branch_2 : run branch [] [] 2 ≡ machine ((value.Ptr 0) ∷ value.Undef ∷ []) (record { cells = (value.Undef ∷ []); freed = false } ∷ []) (record { fun = 0; path = (2 ∷ []); target = None } ∷ []) [] [] [] 2 Running
branch_2 = ap (step branch) branch_1 ∙ rw (gaps_branch, gap_branch_0_1, behind_branch_0_1, at_branch_0_1_0, does_branch_2, behind_branch_0_1_0_no) refl

gap_branch_0_2 : spot_in_fun branch 0 (slice_get branch.funs 0) (2 ∷ []) ≡ AtGap (record { number = 4; frees = [] })
unfolding branch
gap_branch_0_2 = simp (out-roll-Block)

behind_branch_0_2 : next_in_fun branch 0 (slice_get branch.funs 0) (None) (2 ∷ []) ≡ (2 ∷ 0 ∷ [])
unfolding branch
behind_branch_0_2 = simp (out-roll-Block, item.outs-Assign)

at_branch_0_2_0 : spot_in_fun branch 0 (slice_get branch.funs 0) (2 ∷ 0 ∷ []) ≡ AtAction (Assign (expr.Deref (expr.Var 0 77) 76) op.Put (expr.Const (pos 7) 81) 79)
unfolding branch
at_branch_0_2_0 = simp (out-roll-Block, item.outs-Assign)

behind_branch_0_2_0 : next_in_fun branch 0 (slice_get branch.funs 0) (None) (2 ∷ 0 ∷ []) ≡ (3 ∷ [])
unfolding branch
behind_branch_0_2_0 = simp (out-roll-Block, item.outs-Assign)

does_branch_3 : effect branch (Assign (expr.Deref (expr.Var 0 77) 76) op.Put (expr.Const (pos 7) 81) 79) (store ((value.Ptr 0) ∷ value.Undef ∷ []) (record { cells = (value.Undef ∷ []); freed = false } ∷ []) [] [] [] 3 Running) ≡ Passes None (store ((value.Ptr 0) ∷ value.Undef ∷ []) (record { cells = ((value.Int (pos 7)) ∷ []); freed = false } ∷ []) [] [] [] 3 Running)
unfolding branch
does_branch_3 = simp (expr.outs-Deref, eval_var, eval_const)

branch_3 : run branch [] [] 3 ≡ machine ((value.Ptr 0) ∷ value.Undef ∷ []) (record { cells = ((value.Int (pos 7)) ∷ []); freed = false } ∷ []) (record { fun = 0; path = (3 ∷ []); target = None } ∷ []) [] [] [] 3 Running
branch_3 = ap (step branch) branch_2 ∙ rw (gaps_branch, gap_branch_0_2, behind_branch_0_2, at_branch_0_2_0, does_branch_3, behind_branch_0_2_0) refl

gap_branch_0_3 : spot_in_fun branch 0 (slice_get branch.funs 0) (3 ∷ []) ≡ AtGap (record { number = 5; frees = [] })
unfolding branch
gap_branch_0_3 = simp (out-roll-Block)

behind_branch_0_3 : next_in_fun branch 0 (slice_get branch.funs 0) (None) (3 ∷ []) ≡ (3 ∷ 0 ∷ [])
unfolding branch
behind_branch_0_3 = simp (out-roll-Block, item.outs-Do)

at_branch_0_3_0 : spot_in_fun branch 0 (slice_get branch.funs 0) (3 ∷ 0 ∷ []) ≡ AtAction (Printf (37 ∷ 100 ∷ 10 ∷ []) ((expr.Deref (expr.Var 0 100) 99) ∷ []))
unfolding branch
at_branch_0_3_0 = simp (out-roll-Block, item.outs-Do)

behind_branch_0_3_0 : next_in_fun branch 0 (slice_get branch.funs 0) (None) (3 ∷ 0 ∷ []) ≡ (4 ∷ [])
unfolding branch
behind_branch_0_3_0 = simp (out-roll-Block, item.outs-Do)

does_branch_4 : effect branch (Printf (37 ∷ 100 ∷ 10 ∷ []) ((expr.Deref (expr.Var 0 100) 99) ∷ [])) (store ((value.Ptr 0) ∷ value.Undef ∷ []) (record { cells = ((value.Int (pos 7)) ∷ []); freed = false } ∷ []) [] [] [] 4 Running) ≡ Passes None (store ((value.Ptr 0) ∷ value.Undef ∷ []) (record { cells = ((value.Int (pos 7)) ∷ []); freed = false } ∷ []) [] [] ([] ++ (signed_decimal (pos 7) ++ (10 ∷ []))) 4 Running)
unfolding branch
does_branch_4 = simp (eval_var, eval_deref)

branch_4 : run branch [] [] 4 ≡ machine ((value.Ptr 0) ∷ value.Undef ∷ []) (record { cells = ((value.Int (pos 7)) ∷ []); freed = false } ∷ []) (record { fun = 0; path = (4 ∷ []); target = None } ∷ []) [] [] ([] ++ (signed_decimal (pos 7) ++ (10 ∷ []))) 4 Running
branch_4 = ap (step branch) branch_3 ∙ rw (gaps_branch, gap_branch_0_3, behind_branch_0_3, at_branch_0_3_0, does_branch_4, behind_branch_0_3_0) refl

gap_branch_0_4 : spot_in_fun branch 0 (slice_get branch.funs 0) (4 ∷ []) ≡ AtGap (record { number = 6; frees = [] })
unfolding branch
gap_branch_0_4 = simp (out-roll-Block)

behind_branch_0_4 : next_in_fun branch 0 (slice_get branch.funs 0) (None) (4 ∷ []) ≡ (4 ∷ 0 ∷ [])
unfolding branch
behind_branch_0_4 = simp (out-roll-Block, item.outs-Return)

at_branch_0_4_0 : spot_in_fun branch 0 (slice_get branch.funs 0) (4 ∷ 0 ∷ []) ≡ AtAction (Return (Some (expr.Const (pos 0) 111)) 104)
unfolding branch
at_branch_0_4_0 = simp (out-roll-Block, item.outs-Return)

does_branch_5 : effect branch (Return (Some (expr.Const (pos 0) 111)) 104) (store ((value.Ptr 0) ∷ value.Undef ∷ []) (record { cells = ((value.Int (pos 7)) ∷ []); freed = false } ∷ []) [] [] ([] ++ (signed_decimal (pos 7) ++ (10 ∷ []))) 5 Running) ≡ Returns (Some (value.Int (pos 0))) (store ((value.Ptr 0) ∷ value.Undef ∷ []) (record { cells = ((value.Int (pos 7)) ∷ []); freed = false } ∷ []) [] [] ([] ++ (signed_decimal (pos 7) ++ (10 ∷ []))) 5 Running)
unfolding branch
does_branch_5 = simp (eval_const)

branch_5 : run branch [] [] 5 ≡ machine ((value.Ptr 0) ∷ value.Undef ∷ []) (record { cells = ((value.Int (pos 7)) ∷ []); freed = false } ∷ []) [] [] [] ([] ++ (signed_decimal (pos 7) ++ (10 ∷ []))) 5 (Returned (pos 0))
branch_5 = ap (step branch) branch_4 ∙ rw (gaps_branch, gap_branch_0_4, behind_branch_0_4, at_branch_0_4_0, does_branch_5) refl

branch_refused_0 : run branch [] (true ∷ []) 0 ≡ machine (value.Undef ∷ value.Undef ∷ []) [] (record { fun = 0; path = (0 ∷ []); target = None } ∷ []) [] (true ∷ []) [] 0 Running
unfolding branch
branch_refused_0 = refl

does_branch_refused_1 : effect branch (Malloc (Some (expr.Var 0 24)) (size.Ints (None)) 26) (store (value.Undef ∷ value.Undef ∷ []) [] [] (true ∷ []) [] 1 Running) ≡ Passes None (store (value.Null ∷ value.Undef ∷ []) [] [] [] [] 1 Running)
unfolding branch
does_branch_refused_1 = simp (expr.outs-Var)

branch_refused_1 : run branch [] (true ∷ []) 1 ≡ machine (value.Null ∷ value.Undef ∷ []) [] (record { fun = 0; path = (1 ∷ []); target = None } ∷ []) [] [] [] 1 Running
branch_refused_1 = ap (step branch) branch_refused_0 ∙ rw (gaps_branch, gap_branch_0_0, behind_branch_0_0, at_branch_0_0_0, does_branch_refused_1, behind_branch_0_0_0) refl

behind_branch_0_1_0_yes : next_in_fun branch 0 (slice_get branch.funs 0) (Some true) (1 ∷ 0 ∷ []) ≡ (1 ∷ 1 ∷ 0 ∷ [])
unfolding branch
behind_branch_0_1_0_yes = simp (out-roll-Block, item.outs-If)

does_branch_refused_2 : effect branch (Test (expr.Binary oper.Eq (expr.Var 0 51) (expr.Null 56) 53)) (store (value.Null ∷ value.Undef ∷ []) [] [] [] [] 2 Running) ≡ Passes (Some true) (store (value.Null ∷ value.Undef ∷ []) [] [] [] [] 2 Running)
unfolding branch
does_branch_refused_2 = simp (eval_var, eval_null, eval_binary)

branch_refused_2 : run branch [] (true ∷ []) 2 ≡ machine (value.Null ∷ value.Undef ∷ []) [] (record { fun = 0; path = (1 ∷ 1 ∷ 0 ∷ []); target = None } ∷ []) [] [] [] 2 Running
branch_refused_2 = ap (step branch) branch_refused_1 ∙ rw (gaps_branch, gap_branch_0_1, behind_branch_0_1, at_branch_0_1_0, does_branch_refused_2, behind_branch_0_1_0_yes) refl

gap_branch_0_1_1_0 : spot_in_fun branch 0 (slice_get branch.funs 0) (1 ∷ 1 ∷ 0 ∷ []) ≡ AtGap (record { number = 2; frees = [] })
unfolding branch
gap_branch_0_1_1_0 = simp (out-roll-Block, body_of_arm, item.outs-If)

behind_branch_0_1_1_0 : next_in_fun branch 0 (slice_get branch.funs 0) (None) (1 ∷ 1 ∷ 0 ∷ []) ≡ (1 ∷ 1 ∷ 0 ∷ 0 ∷ [])
unfolding branch
behind_branch_0_1_1_0 = simp (out-roll-Block, body_of_arm, item.outs-If, item.outs-Return)

at_branch_0_1_1_0_0 : spot_in_fun branch 0 (slice_get branch.funs 0) (1 ∷ 1 ∷ 0 ∷ 0 ∷ []) ≡ AtAction (Return (Some (expr.Const (pos 1) 71)) 64)
unfolding branch
at_branch_0_1_1_0_0 = simp (out-roll-Block, body_of_arm, item.outs-If, item.outs-Return)

does_branch_refused_3 : effect branch (Return (Some (expr.Const (pos 1) 71)) 64) (store (value.Null ∷ value.Undef ∷ []) [] [] [] [] 3 Running) ≡ Returns (Some (value.Int (pos 1))) (store (value.Null ∷ value.Undef ∷ []) [] [] [] [] 3 Running)
unfolding branch
does_branch_refused_3 = simp (eval_const)

branch_refused_3 : run branch [] (true ∷ []) 3 ≡ machine (value.Null ∷ value.Undef ∷ []) [] [] [] [] [] 3 (Returned (pos 1))
branch_refused_3 = ap (step branch) branch_refused_2 ∙ rw (gaps_branch, gap_branch_0_1_1_0, behind_branch_0_1_1_0, at_branch_0_1_1_0_0, does_branch_refused_3) refl

-- int main(void) { int n = 0; for (int i = 0; i < 3 && n != 2; i += 2) { if (i == 2) { break; } n++; continue; } return n; }
loop : Program
loop = record {
  structs = [];
  vars = (record { name = codes "n"; ty = ty.Int; home = (home.Local (0)); at = 21 } ∷ record { name = codes "i"; ty = ty.Int; home = (home.Local (0)); at = 37 } ∷ record { name = []; ty = ty.Int; home = (home.Result (0)); at = 121 } ∷ []);
  funs = (record { name = codes "main"; result = Some ty.Int; params = []; body = (roll-Block (record { items = (roll-Piece (record { gap = record { number = 0; frees = [] }; item = (item.Declare (record { var = 0; right = Some (right.Plain (expr.Const (pos 0) 25)); at = 23 } ∷ [])); start = 0; end = 0 }) ∷ roll-Piece (record { gap = record { number = 1; frees = [] }; item = (item.For (record { start = ((start.Declare (record { var = 1; right = Some (right.Plain (expr.Const (pos 0) 41)); at = 39 })) ∷ []); test = Some (expr.Binary oper.And (expr.Binary oper.Lt (expr.Var 1 44) (expr.Const (pos 3) 48) 46) (expr.Binary oper.Ne (expr.Var 0 53) (expr.Const (pos 2) 58) 55) 50); step = Some (record { place = (expr.Var 1 61); op = op.Add; right = (right.Plain (expr.Const (pos 2) 66)); at = 63 }) }) (roll-Block (record { items = (roll-Piece (record { gap = record { number = 2; frees = [] }; item = (item.If (roll-Arm (record { test = (expr.Binary oper.Eq (expr.Var 1 75) (expr.Const (pos 2) 80) 77); body = (roll-Block (record { items = (roll-Piece (record { gap = record { number = 3; frees = [] }; item = item.Break; start = 0; end = 0 }) ∷ []); last_gap = record { number = 4; frees = [] }; braced = true; start = 83; end = 93 })) }) ∷ []) (None)); start = 0; end = 0 }) ∷ roll-Piece (record { gap = record { number = 5; frees = [] }; item = (item.Assign (record { place = (expr.Var 0 94); op = op.Add; right = (right.Plain (expr.Const (pos 1) 95)); at = 95 })); start = 0; end = 0 }) ∷ roll-Piece (record { gap = record { number = 6; frees = [] }; item = item.Continue; start = 0; end = 0 }) ∷ []); last_gap = record { number = 7; frees = [] }; braced = true; start = 69; end = 110 }))); start = 0; end = 0 }) ∷ roll-Piece (record { gap = record { number = 8; frees = [] }; item = (item.Return (Some (right.Plain (expr.Var 0 118))) 111); start = 0; end = 0 }) ∷ []); last_gap = record { number = 9; frees = [] }; braced = true; start = 15; end = 122 })); at = 4 } ∷ []);
  main = 0;
  gaps = 10;
  calls = 0;
}

gaps_loop : loop.gaps + 1 ≡ 11
unfolding loop
gaps_loop = refl

loop_0 : run loop [] [] 0 ≡ machine (value.Undef ∷ value.Undef ∷ value.Undef ∷ []) [] (record { fun = 0; path = (0 ∷ []); target = None } ∷ []) [] [] [] 0 Running
unfolding loop
loop_0 = refl

gap_loop_0_0 : spot_in_fun loop 0 (slice_get loop.funs 0) (0 ∷ []) ≡ AtGap (record { number = 0; frees = [] })
unfolding loop
gap_loop_0_0 = simp (out-roll-Block)

behind_loop_0_0 : next_in_fun loop 0 (slice_get loop.funs 0) (None) (0 ∷ []) ≡ (0 ∷ 0 ∷ [])
unfolding loop
behind_loop_0_0 = simp (out-roll-Block, item.outs-Declare)

at_loop_0_0_0 : spot_in_fun loop 0 (slice_get loop.funs 0) (0 ∷ 0 ∷ []) ≡ AtAction (Assign (expr.Var 0 23) op.Put (expr.Const (pos 0) 25) 23)
unfolding loop
at_loop_0_0_0 = simp (out-roll-Block, item.outs-Declare)

behind_loop_0_0_0 : next_in_fun loop 0 (slice_get loop.funs 0) (None) (0 ∷ 0 ∷ []) ≡ (1 ∷ [])
unfolding loop
behind_loop_0_0_0 = simp (out-roll-Block, item.outs-Declare)

does_loop_1 : effect loop (Assign (expr.Var 0 23) op.Put (expr.Const (pos 0) 25) 23) (store (value.Undef ∷ value.Undef ∷ value.Undef ∷ []) [] [] [] [] 1 Running) ≡ Passes None (store ((value.Int (pos 0)) ∷ value.Undef ∷ value.Undef ∷ []) [] [] [] [] 1 Running)
unfolding loop
does_loop_1 = simp (expr.outs-Var, eval_const)

loop_1 : run loop [] [] 1 ≡ machine ((value.Int (pos 0)) ∷ value.Undef ∷ value.Undef ∷ []) [] (record { fun = 0; path = (1 ∷ []); target = None } ∷ []) [] [] [] 1 Running
loop_1 = ap (step loop) loop_0 ∙ rw (gaps_loop, gap_loop_0_0, behind_loop_0_0, at_loop_0_0_0, does_loop_1, behind_loop_0_0_0) refl

gap_loop_0_1 : spot_in_fun loop 0 (slice_get loop.funs 0) (1 ∷ []) ≡ AtGap (record { number = 1; frees = [] })
unfolding loop
gap_loop_0_1 = simp (out-roll-Block)

behind_loop_0_1 : next_in_fun loop 0 (slice_get loop.funs 0) (None) (1 ∷ []) ≡ (1 ∷ 0 ∷ 0 ∷ [])
unfolding loop
behind_loop_0_1 = simp (out-roll-Block, item.outs-For)

at_loop_0_1_0_0 : spot_in_fun loop 0 (slice_get loop.funs 0) (1 ∷ 0 ∷ 0 ∷ []) ≡ AtAction (Assign (expr.Var 1 39) op.Put (expr.Const (pos 0) 41) 39)
unfolding loop
at_loop_0_1_0_0 = simp (out-roll-Block, item.outs-For)

behind_loop_0_1_0_0 : next_in_fun loop 0 (slice_get loop.funs 0) (None) (1 ∷ 0 ∷ 0 ∷ []) ≡ (1 ∷ 1 ∷ 0 ∷ [])
unfolding loop
behind_loop_0_1_0_0 = simp (out-roll-Block, item.outs-For, first_binary)

does_loop_2 : effect loop (Assign (expr.Var 1 39) op.Put (expr.Const (pos 0) 41) 39) (store ((value.Int (pos 0)) ∷ value.Undef ∷ value.Undef ∷ []) [] [] [] [] 2 Running) ≡ Passes None (store ((value.Int (pos 0)) ∷ (value.Int (pos 0)) ∷ value.Undef ∷ []) [] [] [] [] 2 Running)
unfolding loop
does_loop_2 = simp (expr.outs-Var, eval_const)

loop_2 : run loop [] [] 2 ≡ machine ((value.Int (pos 0)) ∷ (value.Int (pos 0)) ∷ value.Undef ∷ []) [] (record { fun = 0; path = (1 ∷ 1 ∷ 0 ∷ []); target = None } ∷ []) [] [] [] 2 Running
loop_2 = ap (step loop) loop_1 ∙ rw (gaps_loop, gap_loop_0_1, behind_loop_0_1, at_loop_0_1_0_0, does_loop_2, behind_loop_0_1_0_0) refl

at_loop_0_1_1_0 : spot_in_fun loop 0 (slice_get loop.funs 0) (1 ∷ 1 ∷ 0 ∷ []) ≡ AtAction (Test (expr.Binary oper.Lt (expr.Var 1 44) (expr.Const (pos 3) 48) 46))
unfolding loop
at_loop_0_1_1_0 = simp (out-roll-Block, item.outs-For, expr.outs-Binary)

behind_loop_0_1_1_0_yes : next_in_fun loop 0 (slice_get loop.funs 0) (Some true) (1 ∷ 1 ∷ 0 ∷ []) ≡ (1 ∷ 1 ∷ 1 ∷ [])
unfolding loop
behind_loop_0_1_1_0_yes = simp (out-roll-Block, item.outs-For, expr.outs-Binary, first_binary)

does_loop_3 : effect loop (Test (expr.Binary oper.Lt (expr.Var 1 44) (expr.Const (pos 3) 48) 46)) (store ((value.Int (pos 0)) ∷ (value.Int (pos 0)) ∷ value.Undef ∷ []) [] [] [] [] 3 Running) ≡ Passes (Some true) (store ((value.Int (pos 0)) ∷ (value.Int (pos 0)) ∷ value.Undef ∷ []) [] [] [] [] 3 Running)
unfolding loop
does_loop_3 = simp (eval_var, eval_const, eval_binary)

loop_3 : run loop [] [] 3 ≡ machine ((value.Int (pos 0)) ∷ (value.Int (pos 0)) ∷ value.Undef ∷ []) [] (record { fun = 0; path = (1 ∷ 1 ∷ 1 ∷ []); target = None } ∷ []) [] [] [] 3 Running
loop_3 = ap (step loop) loop_2 ∙ rw (gaps_loop, at_loop_0_1_1_0, does_loop_3, behind_loop_0_1_1_0_yes) refl

at_loop_0_1_1_1 : spot_in_fun loop 0 (slice_get loop.funs 0) (1 ∷ 1 ∷ 1 ∷ []) ≡ AtAction (Test (expr.Binary oper.Ne (expr.Var 0 53) (expr.Const (pos 2) 58) 55))
unfolding loop
at_loop_0_1_1_1 = simp (out-roll-Block, item.outs-For, expr.outs-Binary)

behind_loop_0_1_1_1_yes : next_in_fun loop 0 (slice_get loop.funs 0) (Some true) (1 ∷ 1 ∷ 1 ∷ []) ≡ (1 ∷ 3 ∷ 0 ∷ [])
unfolding loop
behind_loop_0_1_1_1_yes = simp (out-roll-Block, item.outs-For, expr.outs-Binary)

does_loop_4 : effect loop (Test (expr.Binary oper.Ne (expr.Var 0 53) (expr.Const (pos 2) 58) 55)) (store ((value.Int (pos 0)) ∷ (value.Int (pos 0)) ∷ value.Undef ∷ []) [] [] [] [] 4 Running) ≡ Passes (Some true) (store ((value.Int (pos 0)) ∷ (value.Int (pos 0)) ∷ value.Undef ∷ []) [] [] [] [] 4 Running)
unfolding loop
does_loop_4 = simp (eval_var, eval_const, eval_binary)

loop_4 : run loop [] [] 4 ≡ machine ((value.Int (pos 0)) ∷ (value.Int (pos 0)) ∷ value.Undef ∷ []) [] (record { fun = 0; path = (1 ∷ 3 ∷ 0 ∷ []); target = None } ∷ []) [] [] [] 4 Running
loop_4 = ap (step loop) loop_3 ∙ rw (gaps_loop, at_loop_0_1_1_1, does_loop_4, behind_loop_0_1_1_1_yes) refl

gap_loop_0_1_3_0 : spot_in_fun loop 0 (slice_get loop.funs 0) (1 ∷ 3 ∷ 0 ∷ []) ≡ AtGap (record { number = 2; frees = [] })
unfolding loop
gap_loop_0_1_3_0 = simp (out-roll-Block, item.outs-For)

behind_loop_0_1_3_0 : next_in_fun loop 0 (slice_get loop.funs 0) (None) (1 ∷ 3 ∷ 0 ∷ []) ≡ (1 ∷ 3 ∷ 0 ∷ 0 ∷ [])
unfolding loop
behind_loop_0_1_3_0 = simp (out-roll-Block, test_of_arm, item.outs-If, item.outs-For, first_binary)

at_loop_0_1_3_0_0 : spot_in_fun loop 0 (slice_get loop.funs 0) (1 ∷ 3 ∷ 0 ∷ 0 ∷ []) ≡ AtAction (Test (expr.Binary oper.Eq (expr.Var 1 75) (expr.Const (pos 2) 80) 77))
unfolding loop
at_loop_0_1_3_0_0 = simp (out-roll-Block, test_of_arm, item.outs-If, item.outs-For, expr.outs-Binary)

behind_loop_0_1_3_0_0_no : next_in_fun loop 0 (slice_get loop.funs 0) (Some false) (1 ∷ 3 ∷ 0 ∷ 0 ∷ []) ≡ (1 ∷ 3 ∷ 1 ∷ [])
unfolding loop
behind_loop_0_1_3_0_0_no = simp (out-roll-Block, item.outs-If, item.outs-For)

does_loop_5 : effect loop (Test (expr.Binary oper.Eq (expr.Var 1 75) (expr.Const (pos 2) 80) 77)) (store ((value.Int (pos 0)) ∷ (value.Int (pos 0)) ∷ value.Undef ∷ []) [] [] [] [] 5 Running) ≡ Passes (Some false) (store ((value.Int (pos 0)) ∷ (value.Int (pos 0)) ∷ value.Undef ∷ []) [] [] [] [] 5 Running)
unfolding loop
does_loop_5 = simp (eval_var, eval_const, eval_binary)

loop_5 : run loop [] [] 5 ≡ machine ((value.Int (pos 0)) ∷ (value.Int (pos 0)) ∷ value.Undef ∷ []) [] (record { fun = 0; path = (1 ∷ 3 ∷ 1 ∷ []); target = None } ∷ []) [] [] [] 5 Running
loop_5 = ap (step loop) loop_4 ∙ rw (gaps_loop, gap_loop_0_1_3_0, behind_loop_0_1_3_0, at_loop_0_1_3_0_0, does_loop_5, behind_loop_0_1_3_0_0_no) refl

gap_loop_0_1_3_1 : spot_in_fun loop 0 (slice_get loop.funs 0) (1 ∷ 3 ∷ 1 ∷ []) ≡ AtGap (record { number = 5; frees = [] })
unfolding loop
gap_loop_0_1_3_1 = simp (out-roll-Block, item.outs-For)

behind_loop_0_1_3_1 : next_in_fun loop 0 (slice_get loop.funs 0) (None) (1 ∷ 3 ∷ 1 ∷ []) ≡ (1 ∷ 3 ∷ 1 ∷ 0 ∷ [])
unfolding loop
behind_loop_0_1_3_1 = simp (out-roll-Block, item.outs-Assign, item.outs-For)

at_loop_0_1_3_1_0 : spot_in_fun loop 0 (slice_get loop.funs 0) (1 ∷ 3 ∷ 1 ∷ 0 ∷ []) ≡ AtAction (Assign (expr.Var 0 94) op.Add (expr.Const (pos 1) 95) 95)
unfolding loop
at_loop_0_1_3_1_0 = simp (out-roll-Block, item.outs-Assign, item.outs-For)

behind_loop_0_1_3_1_0 : next_in_fun loop 0 (slice_get loop.funs 0) (None) (1 ∷ 3 ∷ 1 ∷ 0 ∷ []) ≡ (1 ∷ 3 ∷ 2 ∷ [])
unfolding loop
behind_loop_0_1_3_1_0 = simp (out-roll-Block, item.outs-Assign, item.outs-For)

does_loop_6 : effect loop (Assign (expr.Var 0 94) op.Add (expr.Const (pos 1) 95) 95) (store ((value.Int (pos 0)) ∷ (value.Int (pos 0)) ∷ value.Undef ∷ []) [] [] [] [] 6 Running) ≡ Passes None (store ((value.Int (pos 1)) ∷ (value.Int (pos 0)) ∷ value.Undef ∷ []) [] [] [] [] 6 Running)
unfolding loop
does_loop_6 = simp (expr.outs-Var, eval_const)

loop_6 : run loop [] [] 6 ≡ machine ((value.Int (pos 1)) ∷ (value.Int (pos 0)) ∷ value.Undef ∷ []) [] (record { fun = 0; path = (1 ∷ 3 ∷ 2 ∷ []); target = None } ∷ []) [] [] [] 6 Running
loop_6 = ap (step loop) loop_5 ∙ rw (gaps_loop, gap_loop_0_1_3_1, behind_loop_0_1_3_1, at_loop_0_1_3_1_0, does_loop_6, behind_loop_0_1_3_1_0) refl

gap_loop_0_1_3_2 : spot_in_fun loop 0 (slice_get loop.funs 0) (1 ∷ 3 ∷ 2 ∷ []) ≡ AtGap (record { number = 6; frees = [] })
unfolding loop
gap_loop_0_1_3_2 = simp (out-roll-Block, item.outs-For)

behind_loop_0_1_3_2 : next_in_fun loop 0 (slice_get loop.funs 0) (None) (1 ∷ 3 ∷ 2 ∷ []) ≡ (1 ∷ 2 ∷ 0 ∷ [])
unfolding loop
behind_loop_0_1_3_2 = simp (out-roll-Block, item.outs-For, item.outs-Continue)

at_loop_0_1_2_0 : spot_in_fun loop 0 (slice_get loop.funs 0) (1 ∷ 2 ∷ 0 ∷ []) ≡ AtAction (Assign (expr.Var 1 61) op.Add (expr.Const (pos 2) 66) 63)
unfolding loop
at_loop_0_1_2_0 = simp (out-roll-Block, item.outs-For)

behind_loop_0_1_2_0 : next_in_fun loop 0 (slice_get loop.funs 0) (None) (1 ∷ 2 ∷ 0 ∷ []) ≡ (1 ∷ 1 ∷ 0 ∷ [])
unfolding loop
behind_loop_0_1_2_0 = simp (out-roll-Block, item.outs-For, first_binary)

does_loop_7 : effect loop (Assign (expr.Var 1 61) op.Add (expr.Const (pos 2) 66) 63) (store ((value.Int (pos 1)) ∷ (value.Int (pos 0)) ∷ value.Undef ∷ []) [] [] [] [] 7 Running) ≡ Passes None (store ((value.Int (pos 1)) ∷ (value.Int (pos 2)) ∷ value.Undef ∷ []) [] [] [] [] 7 Running)
unfolding loop
does_loop_7 = simp (expr.outs-Var, eval_const)

loop_7 : run loop [] [] 7 ≡ machine ((value.Int (pos 1)) ∷ (value.Int (pos 2)) ∷ value.Undef ∷ []) [] (record { fun = 0; path = (1 ∷ 1 ∷ 0 ∷ []); target = None } ∷ []) [] [] [] 7 Running
loop_7 = ap (step loop) loop_6 ∙ rw (gaps_loop, gap_loop_0_1_3_2, behind_loop_0_1_3_2, at_loop_0_1_2_0, does_loop_7, behind_loop_0_1_2_0) refl

does_loop_8 : effect loop (Test (expr.Binary oper.Lt (expr.Var 1 44) (expr.Const (pos 3) 48) 46)) (store ((value.Int (pos 1)) ∷ (value.Int (pos 2)) ∷ value.Undef ∷ []) [] [] [] [] 8 Running) ≡ Passes (Some true) (store ((value.Int (pos 1)) ∷ (value.Int (pos 2)) ∷ value.Undef ∷ []) [] [] [] [] 8 Running)
unfolding loop
does_loop_8 = simp (eval_var, eval_const, eval_binary)

loop_8 : run loop [] [] 8 ≡ machine ((value.Int (pos 1)) ∷ (value.Int (pos 2)) ∷ value.Undef ∷ []) [] (record { fun = 0; path = (1 ∷ 1 ∷ 1 ∷ []); target = None } ∷ []) [] [] [] 8 Running
loop_8 = ap (step loop) loop_7 ∙ rw (gaps_loop, at_loop_0_1_1_0, does_loop_8, behind_loop_0_1_1_0_yes) refl

does_loop_9 : effect loop (Test (expr.Binary oper.Ne (expr.Var 0 53) (expr.Const (pos 2) 58) 55)) (store ((value.Int (pos 1)) ∷ (value.Int (pos 2)) ∷ value.Undef ∷ []) [] [] [] [] 9 Running) ≡ Passes (Some true) (store ((value.Int (pos 1)) ∷ (value.Int (pos 2)) ∷ value.Undef ∷ []) [] [] [] [] 9 Running)
unfolding loop
does_loop_9 = simp (eval_var, eval_const, eval_binary)

loop_9 : run loop [] [] 9 ≡ machine ((value.Int (pos 1)) ∷ (value.Int (pos 2)) ∷ value.Undef ∷ []) [] (record { fun = 0; path = (1 ∷ 3 ∷ 0 ∷ []); target = None } ∷ []) [] [] [] 9 Running
loop_9 = ap (step loop) loop_8 ∙ rw (gaps_loop, at_loop_0_1_1_1, does_loop_9, behind_loop_0_1_1_1_yes) refl

behind_loop_0_1_3_0_0_yes : next_in_fun loop 0 (slice_get loop.funs 0) (Some true) (1 ∷ 3 ∷ 0 ∷ 0 ∷ []) ≡ (1 ∷ 3 ∷ 0 ∷ 1 ∷ 0 ∷ [])
unfolding loop
behind_loop_0_1_3_0_0_yes = simp (out-roll-Block, item.outs-If, item.outs-For)

does_loop_10 : effect loop (Test (expr.Binary oper.Eq (expr.Var 1 75) (expr.Const (pos 2) 80) 77)) (store ((value.Int (pos 1)) ∷ (value.Int (pos 2)) ∷ value.Undef ∷ []) [] [] [] [] 10 Running) ≡ Passes (Some true) (store ((value.Int (pos 1)) ∷ (value.Int (pos 2)) ∷ value.Undef ∷ []) [] [] [] [] 10 Running)
unfolding loop
does_loop_10 = simp (eval_var, eval_const, eval_binary)

loop_10 : run loop [] [] 10 ≡ machine ((value.Int (pos 1)) ∷ (value.Int (pos 2)) ∷ value.Undef ∷ []) [] (record { fun = 0; path = (1 ∷ 3 ∷ 0 ∷ 1 ∷ 0 ∷ []); target = None } ∷ []) [] [] [] 10 Running
loop_10 = ap (step loop) loop_9 ∙ rw (gaps_loop, gap_loop_0_1_3_0, behind_loop_0_1_3_0, at_loop_0_1_3_0_0, does_loop_10, behind_loop_0_1_3_0_0_yes) refl

gap_loop_0_1_3_0_1_0 : spot_in_fun loop 0 (slice_get loop.funs 0) (1 ∷ 3 ∷ 0 ∷ 1 ∷ 0 ∷ []) ≡ AtGap (record { number = 3; frees = [] })
unfolding loop
gap_loop_0_1_3_0_1_0 = simp (out-roll-Block, body_of_arm, item.outs-If, item.outs-For)

behind_loop_0_1_3_0_1_0 : next_in_fun loop 0 (slice_get loop.funs 0) (None) (1 ∷ 3 ∷ 0 ∷ 1 ∷ 0 ∷ []) ≡ (2 ∷ [])
unfolding loop
behind_loop_0_1_3_0_1_0 = simp (out-roll-Block, body_of_arm, item.outs-If, item.outs-For, item.outs-Break)

gap_loop_0_2 : spot_in_fun loop 0 (slice_get loop.funs 0) (2 ∷ []) ≡ AtGap (record { number = 8; frees = [] })
unfolding loop
gap_loop_0_2 = simp (out-roll-Block)

behind_loop_0_2 : next_in_fun loop 0 (slice_get loop.funs 0) (None) (2 ∷ []) ≡ (2 ∷ 0 ∷ [])
unfolding loop
behind_loop_0_2 = simp (out-roll-Block, item.outs-Return)

at_loop_0_2_0 : spot_in_fun loop 0 (slice_get loop.funs 0) (2 ∷ 0 ∷ []) ≡ AtAction (Return (Some (expr.Var 0 118)) 111)
unfolding loop
at_loop_0_2_0 = simp (out-roll-Block, item.outs-Return)

does_loop_11 : effect loop (Return (Some (expr.Var 0 118)) 111) (store ((value.Int (pos 1)) ∷ (value.Int (pos 2)) ∷ value.Undef ∷ []) [] [] [] [] 11 Running) ≡ Returns (Some (value.Int (pos 1))) (store ((value.Int (pos 1)) ∷ (value.Int (pos 2)) ∷ value.Undef ∷ []) [] [] [] [] 11 Running)
unfolding loop
does_loop_11 = simp (eval_var)

loop_11 : run loop [] [] 11 ≡ machine ((value.Int (pos 1)) ∷ (value.Int (pos 2)) ∷ value.Undef ∷ []) [] [] [] [] [] 11 (Returned (pos 1))
loop_11 = ap (step loop) loop_10 ∙ rw (gaps_loop, gap_loop_0_1_3_0_1_0, behind_loop_0_1_3_0_1_0, gap_loop_0_2, behind_loop_0_2, at_loop_0_2_0, does_loop_11) refl

-- struct s { int v; struct s *n; }; struct s *make(int v) { struct s *a = malloc(sizeof(struct s)); if (!a) return NULL; a->v = v; return a; } struct s *again(void) { return make(3); } int main(void) { struct s *a = again(); if (a == NULL) return 1; printf("%d\n", a->v); free(a); return 0; }
calls : Program
calls = record {
  structs = (record { fields = (record { name = codes "v"; ty = ty.Int } ∷ record { name = codes "n"; ty = (ty.StructPtr 0) } ∷ []); body = Some 9 } ∷ []);
  vars = (record { name = codes "v"; ty = ty.Int; home = (home.Param (0)); at = 53 } ∷ record { name = codes "a"; ty = (ty.StructPtr 0); home = (home.Local (0)); at = 68 } ∷ record { name = []; ty = (ty.StructPtr 0); home = (home.Result (0)); at = 139 } ∷ record { name = []; ty = (ty.StructPtr 0); home = (home.Result (1)); at = 181 } ∷ record { name = codes "a"; ty = (ty.StructPtr 0); home = (home.Local (2)); at = 210 } ∷ record { name = []; ty = ty.Int; home = (home.Result (2)); at = 289 } ∷ []);
  funs = (record { name = codes "make"; result = Some (ty.StructPtr 0); params = (0 ∷ []); body = (roll-Block (record { items = (roll-Piece (record { gap = record { number = 0; frees = [] }; item = (item.Declare (record { var = 1; right = Some (right.Call (call.Malloc (size.Fields 0) 72)); at = 70 } ∷ [])); start = 0; end = 0 }) ∷ roll-Piece (record { gap = record { number = 1; frees = [] }; item = (item.If (roll-Arm (record { test = (expr.Unary sign.Not (expr.Var 1 103) 102); body = (roll-Block (record { items = (roll-Piece (record { gap = record { number = 2; frees = [] }; item = (item.Return (Some (right.Plain (expr.Null 113))) 106); start = 0; end = 0 }) ∷ []); last_gap = record { number = 3; frees = [] }; braced = false; start = 106; end = 118 })) }) ∷ []) (None)); start = 0; end = 0 }) ∷ roll-Piece (record { gap = record { number = 4; frees = [] }; item = (item.Assign (record { place = (expr.Field (expr.Var 1 119) 0 120); op = op.Put; right = (right.Plain (expr.Var 0 126)); at = 124 })); start = 0; end = 0 }) ∷ roll-Piece (record { gap = record { number = 5; frees = [] }; item = (item.Return (Some (right.Plain (expr.Var 1 136))) 129); start = 0; end = 0 }) ∷ []); last_gap = record { number = 6; frees = [] }; braced = true; start = 56; end = 140 })); at = 44 } ∷ record { name = codes "again"; result = Some (ty.StructPtr 0); params = []; body = (roll-Block (record { items = (roll-Piece (record { gap = record { number = 7; frees = [] }; item = (item.Return (Some (right.Call (call.User 0 0 ((expr.Const (pos 3) 177) ∷ []) 172))) 165); start = 0; end = 0 }) ∷ []); last_gap = record { number = 8; frees = [] }; braced = true; start = 163; end = 182 })); at = 151 } ∷ record { name = codes "main"; result = Some ty.Int; params = []; body = (roll-Block (record { items = (roll-Piece (record { gap = record { number = 9; frees = [] }; item = (item.Declare (record { var = 4; right = Some (right.Call (call.User 1 1 [] 214)); at = 212 } ∷ [])); start = 0; end = 0 }) ∷ roll-Piece (record { gap = record { number = 10; frees = [] }; item = (item.If (roll-Arm (record { test = (expr.Binary oper.Eq (expr.Var 4 227) (expr.Null 232) 229); body = (roll-Block (record { items = (roll-Piece (record { gap = record { number = 11; frees = [] }; item = (item.Return (Some (right.Plain (expr.Const (pos 1) 245))) 238); start = 0; end = 0 }) ∷ []); last_gap = record { number = 12; frees = [] }; braced = false; start = 238; end = 247 })) }) ∷ []) (None)); start = 0; end = 0 }) ∷ roll-Piece (record { gap = record { number = 13; frees = [] }; item = (item.Do (call.Printf (37 ∷ 100 ∷ 10 ∷ []) ((expr.Field (expr.Var 4 263) 0 264) ∷ []) 248)); start = 0; end = 0 }) ∷ roll-Piece (record { gap = record { number = 14; frees = (record { expr = (expr.Var 4 275); start = 270; end = 278 } ∷ []) }; item = (item.Return (Some (right.Plain (expr.Const (pos 0) 286))) 279); start = 0; end = 0 }) ∷ []); last_gap = record { number = 15; frees = [] }; braced = true; start = 198; end = 290 })); at = 187 } ∷ []);
  main = 2;
  gaps = 16;
  calls = 2;
}

gaps_calls : calls.gaps + 1 ≡ 17
unfolding calls
gaps_calls = refl

vars_calls : calls.vars ≡ (record { name = codes "v"; ty = ty.Int; home = (home.Param (0)); at = 53 } ∷ record { name = codes "a"; ty = (ty.StructPtr 0); home = (home.Local (0)); at = 68 } ∷ record { name = []; ty = (ty.StructPtr 0); home = (home.Result (0)); at = 139 } ∷ record { name = []; ty = (ty.StructPtr 0); home = (home.Result (1)); at = 181 } ∷ record { name = codes "a"; ty = (ty.StructPtr 0); home = (home.Local (2)); at = 210 } ∷ record { name = []; ty = ty.Int; home = (home.Result (2)); at = 289 } ∷ [])
unfolding calls
vars_calls = refl

calls_0 : run calls [] [] 0 ≡ machine (value.Undef ∷ value.Undef ∷ value.Undef ∷ value.Undef ∷ value.Undef ∷ value.Undef ∷ []) [] (record { fun = 2; path = (0 ∷ []); target = None } ∷ []) [] [] [] 0 Running
unfolding calls
calls_0 = refl

gap_calls_2_0 : spot_in_fun calls 2 (slice_get calls.funs 2) (0 ∷ []) ≡ AtGap (record { number = 9; frees = [] })
unfolding calls
gap_calls_2_0 = simp (out-roll-Block)

behind_calls_2_0 : next_in_fun calls 2 (slice_get calls.funs 2) (None) (0 ∷ []) ≡ (0 ∷ 0 ∷ [])
unfolding calls
behind_calls_2_0 = simp (out-roll-Block, item.outs-Declare)

at_calls_2_0_0 : spot_in_fun calls 2 (slice_get calls.funs 2) (0 ∷ 0 ∷ []) ≡ AtAction (Invoke 1 1 [] (Some 4))
unfolding calls
at_calls_2_0_0 = simp (out-roll-Block, item.outs-Declare, expr.outs-Var)

behind_calls_2_0_0 : next_in_fun calls 2 (slice_get calls.funs 2) (None) (0 ∷ 0 ∷ []) ≡ (1 ∷ [])
unfolding calls
behind_calls_2_0_0 = simp (out-roll-Block, item.outs-Declare)

takes_calls_1 : parameters_of calls 1 ≡ []
unfolding calls
takes_calls_1 = refl

calls_1 : run calls [] [] 1 ≡ machine (value.Undef ∷ value.Undef ∷ value.Undef ∷ value.Undef ∷ value.Undef ∷ value.Undef ∷ []) [] (record { fun = 1; path = (0 ∷ []); target = Some 4 } ∷ record { fun = 2; path = (1 ∷ []); target = None } ∷ []) [] [] [] 1 Running
calls_1 = ap (step calls) calls_0 ∙ rw (gaps_calls, gap_calls_2_0, behind_calls_2_0, at_calls_2_0_0, takes_calls_1, behind_calls_2_0_0) refl

gap_calls_1_0 : spot_in_fun calls 1 (slice_get calls.funs 1) (0 ∷ []) ≡ AtGap (record { number = 7; frees = [] })
unfolding calls
gap_calls_1_0 = simp (out-roll-Block)

behind_calls_1_0 : next_in_fun calls 1 (slice_get calls.funs 1) (None) (0 ∷ []) ≡ (0 ∷ 0 ∷ [])
unfolding calls
behind_calls_1_0 = simp (out-roll-Block, item.outs-Return)

at_calls_1_0_0 : spot_in_fun calls 1 (slice_get calls.funs 1) (0 ∷ 0 ∷ []) ≡ AtAction (Invoke 0 0 ((expr.Const (pos 3) 177) ∷ []) (Some 3))
unfolding calls
at_calls_1_0_0 = simp (out-roll-Block, item.outs-Return, expr.outs-Var)

behind_calls_1_0_0 : next_in_fun calls 1 (slice_get calls.funs 1) (None) (0 ∷ 0 ∷ []) ≡ (0 ∷ 1 ∷ [])
unfolding calls
behind_calls_1_0_0 = simp (out-roll-Block, item.outs-Return)

does_calls_2 : effect calls (Invoke 0 0 ((expr.Const (pos 3) 177) ∷ []) (Some 3)) (store (value.Undef ∷ value.Undef ∷ value.Undef ∷ value.Undef ∷ value.Undef ∷ value.Undef ∷ []) [] [] [] [] 2 Running) ≡ Calls 0 (store ((value.Int (pos 3)) ∷ value.Undef ∷ value.Undef ∷ value.Undef ∷ value.Undef ∷ value.Undef ∷ []) [] [] [] [] 2 Running)
unfolding calls
does_calls_2 = simp (eval_const)

calls_2 : run calls [] [] 2 ≡ machine ((value.Int (pos 3)) ∷ value.Undef ∷ value.Undef ∷ value.Undef ∷ value.Undef ∷ value.Undef ∷ []) [] (record { fun = 0; path = (0 ∷ []); target = Some 3 } ∷ record { fun = 1; path = (0 ∷ 1 ∷ []); target = Some 4 } ∷ record { fun = 2; path = (1 ∷ []); target = None } ∷ []) [] [] [] 2 Running
calls_2 = ap (step calls) calls_1 ∙ rw (gaps_calls, gap_calls_1_0, behind_calls_1_0, at_calls_1_0_0, does_calls_2, behind_calls_1_0_0) refl

gap_calls_0_0 : spot_in_fun calls 0 (slice_get calls.funs 0) (0 ∷ []) ≡ AtGap (record { number = 0; frees = [] })
unfolding calls
gap_calls_0_0 = simp (out-roll-Block)

behind_calls_0_0 : next_in_fun calls 0 (slice_get calls.funs 0) (None) (0 ∷ []) ≡ (0 ∷ 0 ∷ [])
unfolding calls
behind_calls_0_0 = simp (out-roll-Block, item.outs-Declare)

at_calls_0_0_0 : spot_in_fun calls 0 (slice_get calls.funs 0) (0 ∷ 0 ∷ []) ≡ AtAction (Malloc (Some (expr.Var 1 70)) (size.Fields 0) 72)
unfolding calls
at_calls_0_0_0 = simp (out-roll-Block, item.outs-Declare)

behind_calls_0_0_0 : next_in_fun calls 0 (slice_get calls.funs 0) (None) (0 ∷ 0 ∷ []) ≡ (1 ∷ [])
unfolding calls
behind_calls_0_0_0 = simp (out-roll-Block, item.outs-Declare)

does_calls_3 : effect calls (Malloc (Some (expr.Var 1 70)) (size.Fields 0) 72) (store ((value.Int (pos 3)) ∷ value.Undef ∷ value.Undef ∷ value.Undef ∷ value.Undef ∷ value.Undef ∷ []) [] [] [] [] 3 Running) ≡ Passes None (store ((value.Int (pos 3)) ∷ (value.Ptr 0) ∷ value.Undef ∷ value.Undef ∷ value.Undef ∷ value.Undef ∷ []) (record { cells = (value.Undef ∷ value.Undef ∷ []); freed = false } ∷ []) [] [] [] 3 Running)
unfolding calls
does_calls_3 = simp (expr.outs-Var)

calls_3 : run calls [] [] 3 ≡ machine ((value.Int (pos 3)) ∷ (value.Ptr 0) ∷ value.Undef ∷ value.Undef ∷ value.Undef ∷ value.Undef ∷ []) (record { cells = (value.Undef ∷ value.Undef ∷ []); freed = false } ∷ []) (record { fun = 0; path = (1 ∷ []); target = Some 3 } ∷ record { fun = 1; path = (0 ∷ 1 ∷ []); target = Some 4 } ∷ record { fun = 2; path = (1 ∷ []); target = None } ∷ []) [] [] [] 3 Running
calls_3 = ap (step calls) calls_2 ∙ rw (gaps_calls, gap_calls_0_0, behind_calls_0_0, at_calls_0_0_0, does_calls_3, behind_calls_0_0_0) refl

gap_calls_0_1 : spot_in_fun calls 0 (slice_get calls.funs 0) (1 ∷ []) ≡ AtGap (record { number = 1; frees = [] })
unfolding calls
gap_calls_0_1 = simp (out-roll-Block)

behind_calls_0_1 : next_in_fun calls 0 (slice_get calls.funs 0) (None) (1 ∷ []) ≡ (1 ∷ 0 ∷ 0 ∷ [])
unfolding calls
behind_calls_0_1 = simp (out-roll-Block, test_of_arm, item.outs-If, first_var, first_unary)

at_calls_0_1_0_0 : spot_in_fun calls 0 (slice_get calls.funs 0) (1 ∷ 0 ∷ 0 ∷ []) ≡ AtAction (Test (expr.Var 1 103))
unfolding calls
at_calls_0_1_0_0 = simp (out-roll-Block, test_of_arm, item.outs-If, expr.outs-Var, expr.outs-Unary)

behind_calls_0_1_0_0_yes : next_in_fun calls 0 (slice_get calls.funs 0) (Some true) (1 ∷ 0 ∷ 0 ∷ []) ≡ (2 ∷ [])
unfolding calls
behind_calls_0_1_0_0_yes = simp (out-roll-Block, test_of_arm, item.outs-If, expr.outs-Unary)

does_calls_4 : effect calls (Test (expr.Var 1 103)) (store ((value.Int (pos 3)) ∷ (value.Ptr 0) ∷ value.Undef ∷ value.Undef ∷ value.Undef ∷ value.Undef ∷ []) (record { cells = (value.Undef ∷ value.Undef ∷ []); freed = false } ∷ []) [] [] [] 4 Running) ≡ Passes (Some true) (store ((value.Int (pos 3)) ∷ (value.Ptr 0) ∷ value.Undef ∷ value.Undef ∷ value.Undef ∷ value.Undef ∷ []) (record { cells = (value.Undef ∷ value.Undef ∷ []); freed = false } ∷ []) [] [] [] 4 Running)
unfolding calls
does_calls_4 = simp (eval_var)

calls_4 : run calls [] [] 4 ≡ machine ((value.Int (pos 3)) ∷ (value.Ptr 0) ∷ value.Undef ∷ value.Undef ∷ value.Undef ∷ value.Undef ∷ []) (record { cells = (value.Undef ∷ value.Undef ∷ []); freed = false } ∷ []) (record { fun = 0; path = (2 ∷ []); target = Some 3 } ∷ record { fun = 1; path = (0 ∷ 1 ∷ []); target = Some 4 } ∷ record { fun = 2; path = (1 ∷ []); target = None } ∷ []) [] [] [] 4 Running
calls_4 = ap (step calls) calls_3 ∙ rw (gaps_calls, gap_calls_0_1, behind_calls_0_1, at_calls_0_1_0_0, does_calls_4, behind_calls_0_1_0_0_yes) refl

gap_calls_0_2 : spot_in_fun calls 0 (slice_get calls.funs 0) (2 ∷ []) ≡ AtGap (record { number = 4; frees = [] })
unfolding calls
gap_calls_0_2 = simp (out-roll-Block)

behind_calls_0_2 : next_in_fun calls 0 (slice_get calls.funs 0) (None) (2 ∷ []) ≡ (2 ∷ 0 ∷ [])
unfolding calls
behind_calls_0_2 = simp (out-roll-Block, item.outs-Assign)

at_calls_0_2_0 : spot_in_fun calls 0 (slice_get calls.funs 0) (2 ∷ 0 ∷ []) ≡ AtAction (Assign (expr.Field (expr.Var 1 119) 0 120) op.Put (expr.Var 0 126) 124)
unfolding calls
at_calls_0_2_0 = simp (out-roll-Block, item.outs-Assign)

behind_calls_0_2_0 : next_in_fun calls 0 (slice_get calls.funs 0) (None) (2 ∷ 0 ∷ []) ≡ (3 ∷ [])
unfolding calls
behind_calls_0_2_0 = simp (out-roll-Block, item.outs-Assign)

does_calls_5 : effect calls (Assign (expr.Field (expr.Var 1 119) 0 120) op.Put (expr.Var 0 126) 124) (store ((value.Int (pos 3)) ∷ (value.Ptr 0) ∷ value.Undef ∷ value.Undef ∷ value.Undef ∷ value.Undef ∷ []) (record { cells = (value.Undef ∷ value.Undef ∷ []); freed = false } ∷ []) [] [] [] 5 Running) ≡ Passes None (store ((value.Int (pos 3)) ∷ (value.Ptr 0) ∷ value.Undef ∷ value.Undef ∷ value.Undef ∷ value.Undef ∷ []) (record { cells = ((value.Int (pos 3)) ∷ value.Undef ∷ []); freed = false } ∷ []) [] [] [] 5 Running)
unfolding calls
does_calls_5 = simp (expr.outs-Field, eval_var)

calls_5 : run calls [] [] 5 ≡ machine ((value.Int (pos 3)) ∷ (value.Ptr 0) ∷ value.Undef ∷ value.Undef ∷ value.Undef ∷ value.Undef ∷ []) (record { cells = ((value.Int (pos 3)) ∷ value.Undef ∷ []); freed = false } ∷ []) (record { fun = 0; path = (3 ∷ []); target = Some 3 } ∷ record { fun = 1; path = (0 ∷ 1 ∷ []); target = Some 4 } ∷ record { fun = 2; path = (1 ∷ []); target = None } ∷ []) [] [] [] 5 Running
calls_5 = ap (step calls) calls_4 ∙ rw (gaps_calls, gap_calls_0_2, behind_calls_0_2, at_calls_0_2_0, does_calls_5, behind_calls_0_2_0) refl

gap_calls_0_3 : spot_in_fun calls 0 (slice_get calls.funs 0) (3 ∷ []) ≡ AtGap (record { number = 5; frees = [] })
unfolding calls
gap_calls_0_3 = simp (out-roll-Block)

behind_calls_0_3 : next_in_fun calls 0 (slice_get calls.funs 0) (None) (3 ∷ []) ≡ (3 ∷ 0 ∷ [])
unfolding calls
behind_calls_0_3 = simp (out-roll-Block, item.outs-Return)

at_calls_0_3_0 : spot_in_fun calls 0 (slice_get calls.funs 0) (3 ∷ 0 ∷ []) ≡ AtAction (Return (Some (expr.Var 1 136)) 129)
unfolding calls
at_calls_0_3_0 = simp (out-roll-Block, item.outs-Return)

does_calls_6 : effect calls (Return (Some (expr.Var 1 136)) 129) (store ((value.Int (pos 3)) ∷ (value.Ptr 0) ∷ value.Undef ∷ value.Undef ∷ value.Undef ∷ value.Undef ∷ []) (record { cells = ((value.Int (pos 3)) ∷ value.Undef ∷ []); freed = false } ∷ []) [] [] [] 6 Running) ≡ Returns (Some (value.Ptr 0)) (store ((value.Int (pos 3)) ∷ (value.Ptr 0) ∷ value.Undef ∷ value.Undef ∷ value.Undef ∷ value.Undef ∷ []) (record { cells = ((value.Int (pos 3)) ∷ value.Undef ∷ []); freed = false } ∷ []) [] [] [] 6 Running)
unfolding calls
does_calls_6 = simp (eval_var)

calls_6 : run calls [] [] 6 ≡ machine (value.Undef ∷ value.Undef ∷ value.Undef ∷ (value.Ptr 0) ∷ value.Undef ∷ value.Undef ∷ []) (record { cells = ((value.Int (pos 3)) ∷ value.Undef ∷ []); freed = false } ∷ []) (record { fun = 1; path = (0 ∷ 1 ∷ []); target = Some 4 } ∷ record { fun = 2; path = (1 ∷ []); target = None } ∷ []) [] [] [] 6 Running
calls_6 = ap (step calls) calls_5 ∙ rw (gaps_calls, gap_calls_0_3, behind_calls_0_3, at_calls_0_3_0, does_calls_6, vars_calls) refl

at_calls_1_0_1 : spot_in_fun calls 1 (slice_get calls.funs 1) (0 ∷ 1 ∷ []) ≡ AtAction (Return (Some (expr.Var 3 165)) 165)
unfolding calls
at_calls_1_0_1 = simp (out-roll-Block, item.outs-Return)

does_calls_7 : effect calls (Return (Some (expr.Var 3 165)) 165) (store (value.Undef ∷ value.Undef ∷ value.Undef ∷ (value.Ptr 0) ∷ value.Undef ∷ value.Undef ∷ []) (record { cells = ((value.Int (pos 3)) ∷ value.Undef ∷ []); freed = false } ∷ []) [] [] [] 7 Running) ≡ Returns (Some (value.Ptr 0)) (store (value.Undef ∷ value.Undef ∷ value.Undef ∷ (value.Ptr 0) ∷ value.Undef ∷ value.Undef ∷ []) (record { cells = ((value.Int (pos 3)) ∷ value.Undef ∷ []); freed = false } ∷ []) [] [] [] 7 Running)
unfolding calls
does_calls_7 = simp (eval_var)

calls_7 : run calls [] [] 7 ≡ machine (value.Undef ∷ value.Undef ∷ value.Undef ∷ value.Undef ∷ (value.Ptr 0) ∷ value.Undef ∷ []) (record { cells = ((value.Int (pos 3)) ∷ value.Undef ∷ []); freed = false } ∷ []) (record { fun = 2; path = (1 ∷ []); target = None } ∷ []) [] [] [] 7 Running
calls_7 = ap (step calls) calls_6 ∙ rw (gaps_calls, at_calls_1_0_1, does_calls_7, vars_calls) refl

gap_calls_2_1 : spot_in_fun calls 2 (slice_get calls.funs 2) (1 ∷ []) ≡ AtGap (record { number = 10; frees = [] })
unfolding calls
gap_calls_2_1 = simp (out-roll-Block)

behind_calls_2_1 : next_in_fun calls 2 (slice_get calls.funs 2) (None) (1 ∷ []) ≡ (1 ∷ 0 ∷ [])
unfolding calls
behind_calls_2_1 = simp (out-roll-Block, test_of_arm, item.outs-If, first_binary)

at_calls_2_1_0 : spot_in_fun calls 2 (slice_get calls.funs 2) (1 ∷ 0 ∷ []) ≡ AtAction (Test (expr.Binary oper.Eq (expr.Var 4 227) (expr.Null 232) 229))
unfolding calls
at_calls_2_1_0 = simp (out-roll-Block, test_of_arm, item.outs-If, expr.outs-Binary)

behind_calls_2_1_0_no : next_in_fun calls 2 (slice_get calls.funs 2) (Some false) (1 ∷ 0 ∷ []) ≡ (2 ∷ [])
unfolding calls
behind_calls_2_1_0_no = simp (out-roll-Block, item.outs-If)

does_calls_8 : effect calls (Test (expr.Binary oper.Eq (expr.Var 4 227) (expr.Null 232) 229)) (store (value.Undef ∷ value.Undef ∷ value.Undef ∷ value.Undef ∷ (value.Ptr 0) ∷ value.Undef ∷ []) (record { cells = ((value.Int (pos 3)) ∷ value.Undef ∷ []); freed = false } ∷ []) [] [] [] 8 Running) ≡ Passes (Some false) (store (value.Undef ∷ value.Undef ∷ value.Undef ∷ value.Undef ∷ (value.Ptr 0) ∷ value.Undef ∷ []) (record { cells = ((value.Int (pos 3)) ∷ value.Undef ∷ []); freed = false } ∷ []) [] [] [] 8 Running)
unfolding calls
does_calls_8 = simp (eval_var, eval_null, eval_binary)

calls_8 : run calls [] [] 8 ≡ machine (value.Undef ∷ value.Undef ∷ value.Undef ∷ value.Undef ∷ (value.Ptr 0) ∷ value.Undef ∷ []) (record { cells = ((value.Int (pos 3)) ∷ value.Undef ∷ []); freed = false } ∷ []) (record { fun = 2; path = (2 ∷ []); target = None } ∷ []) [] [] [] 8 Running
calls_8 = ap (step calls) calls_7 ∙ rw (gaps_calls, gap_calls_2_1, behind_calls_2_1, at_calls_2_1_0, does_calls_8, behind_calls_2_1_0_no) refl

gap_calls_2_2 : spot_in_fun calls 2 (slice_get calls.funs 2) (2 ∷ []) ≡ AtGap (record { number = 13; frees = [] })
unfolding calls
gap_calls_2_2 = simp (out-roll-Block)

behind_calls_2_2 : next_in_fun calls 2 (slice_get calls.funs 2) (None) (2 ∷ []) ≡ (2 ∷ 0 ∷ [])
unfolding calls
behind_calls_2_2 = simp (out-roll-Block, item.outs-Do)

at_calls_2_2_0 : spot_in_fun calls 2 (slice_get calls.funs 2) (2 ∷ 0 ∷ []) ≡ AtAction (Printf (37 ∷ 100 ∷ 10 ∷ []) ((expr.Field (expr.Var 4 263) 0 264) ∷ []))
unfolding calls
at_calls_2_2_0 = simp (out-roll-Block, item.outs-Do)

behind_calls_2_2_0 : next_in_fun calls 2 (slice_get calls.funs 2) (None) (2 ∷ 0 ∷ []) ≡ (3 ∷ [])
unfolding calls
behind_calls_2_2_0 = simp (out-roll-Block, item.outs-Do)

does_calls_9 : effect calls (Printf (37 ∷ 100 ∷ 10 ∷ []) ((expr.Field (expr.Var 4 263) 0 264) ∷ [])) (store (value.Undef ∷ value.Undef ∷ value.Undef ∷ value.Undef ∷ (value.Ptr 0) ∷ value.Undef ∷ []) (record { cells = ((value.Int (pos 3)) ∷ value.Undef ∷ []); freed = false } ∷ []) [] [] [] 9 Running) ≡ Passes None (store (value.Undef ∷ value.Undef ∷ value.Undef ∷ value.Undef ∷ (value.Ptr 0) ∷ value.Undef ∷ []) (record { cells = ((value.Int (pos 3)) ∷ value.Undef ∷ []); freed = false } ∷ []) [] [] ([] ++ (signed_decimal (pos 3) ++ (10 ∷ []))) 9 Running)
unfolding calls
does_calls_9 = simp (eval_var, eval_field)

calls_9 : run calls [] [] 9 ≡ machine (value.Undef ∷ value.Undef ∷ value.Undef ∷ value.Undef ∷ (value.Ptr 0) ∷ value.Undef ∷ []) (record { cells = ((value.Int (pos 3)) ∷ value.Undef ∷ []); freed = false } ∷ []) (record { fun = 2; path = (3 ∷ []); target = None } ∷ []) [] [] ([] ++ (signed_decimal (pos 3) ++ (10 ∷ []))) 9 Running
calls_9 = ap (step calls) calls_8 ∙ rw (gaps_calls, gap_calls_2_2, behind_calls_2_2, at_calls_2_2_0, does_calls_9, behind_calls_2_2_0) refl

gap_calls_2_3 : spot_in_fun calls 2 (slice_get calls.funs 2) (3 ∷ []) ≡ AtGap (record { number = 14; frees = (record { expr = (expr.Var 4 275); start = 270; end = 278 } ∷ []) })
unfolding calls
gap_calls_2_3 = simp (out-roll-Block)

frees_calls_10 : all_freed (record { expr = (expr.Var 4 275); start = 270; end = 278 } ∷ []) (store (value.Undef ∷ value.Undef ∷ value.Undef ∷ value.Undef ∷ (value.Ptr 0) ∷ value.Undef ∷ []) (record { cells = ((value.Int (pos 3)) ∷ value.Undef ∷ []); freed = false } ∷ []) [] [] ([] ++ (signed_decimal (pos 3) ++ (10 ∷ []))) 10 Running) ≡ (store (value.Undef ∷ value.Undef ∷ value.Undef ∷ value.Undef ∷ (value.Ptr 0) ∷ value.Undef ∷ []) (record { cells = ((value.Int (pos 3)) ∷ value.Undef ∷ []); freed = true } ∷ []) [] [] ([] ++ (signed_decimal (pos 3) ++ (10 ∷ []))) 10 Running)
frees_calls_10 = simp (expr.outs-Var)

behind_calls_2_3 : next_in_fun calls 2 (slice_get calls.funs 2) (None) (3 ∷ []) ≡ (3 ∷ 0 ∷ [])
unfolding calls
behind_calls_2_3 = simp (out-roll-Block, item.outs-Return)

at_calls_2_3_0 : spot_in_fun calls 2 (slice_get calls.funs 2) (3 ∷ 0 ∷ []) ≡ AtAction (Return (Some (expr.Const (pos 0) 286)) 279)
unfolding calls
at_calls_2_3_0 = simp (out-roll-Block, item.outs-Return)

does_calls_10 : effect calls (Return (Some (expr.Const (pos 0) 286)) 279) (store (value.Undef ∷ value.Undef ∷ value.Undef ∷ value.Undef ∷ (value.Ptr 0) ∷ value.Undef ∷ []) (record { cells = ((value.Int (pos 3)) ∷ value.Undef ∷ []); freed = true } ∷ []) [] [] ([] ++ (signed_decimal (pos 3) ++ (10 ∷ []))) 10 Running) ≡ Returns (Some (value.Int (pos 0))) (store (value.Undef ∷ value.Undef ∷ value.Undef ∷ value.Undef ∷ (value.Ptr 0) ∷ value.Undef ∷ []) (record { cells = ((value.Int (pos 3)) ∷ value.Undef ∷ []); freed = true } ∷ []) [] [] ([] ++ (signed_decimal (pos 3) ++ (10 ∷ []))) 10 Running)
unfolding calls
does_calls_10 = simp (eval_const)

calls_10 : run calls [] [] 10 ≡ machine (value.Undef ∷ value.Undef ∷ value.Undef ∷ value.Undef ∷ (value.Ptr 0) ∷ value.Undef ∷ []) (record { cells = ((value.Int (pos 3)) ∷ value.Undef ∷ []); freed = true } ∷ []) [] [] [] ([] ++ (signed_decimal (pos 3) ++ (10 ∷ []))) 10 (Returned (pos 0))
calls_10 = ap (step calls) calls_9 ∙ rw (gaps_calls, gap_calls_2_3, frees_calls_10, behind_calls_2_3, at_calls_2_3_0, does_calls_10) refl

-- int main(void) { int *p = malloc(2 * sizeof(int)); p[1] = 2147483647; free(p); p[1] += 1; return 0; }
faults : Program
faults = record {
  structs = [];
  vars = (record { name = codes "p"; ty = ty.IntPtr; home = (home.Local (0)); at = 22 } ∷ record { name = []; ty = ty.Int; home = (home.Result (0)); at = 100 } ∷ []);
  funs = (record { name = codes "main"; result = Some ty.Int; params = []; body = (roll-Block (record { items = (roll-Piece (record { gap = record { number = 0; frees = [] }; item = (item.Declare (record { var = 0; right = Some (right.Call (call.Malloc (size.Ints (Some (expr.Const (pos 2) 33))) 26)); at = 24 } ∷ [])); start = 0; end = 0 }) ∷ roll-Piece (record { gap = record { number = 1; frees = [] }; item = (item.Assign (record { place = (expr.Index (expr.Var 0 51) (expr.Const (pos 1) 53) 52); op = op.Put; right = (right.Plain (expr.Const (pos 2147483647) 58)); at = 56 })); start = 0; end = 0 }) ∷ roll-Piece (record { gap = record { number = 2; frees = (record { expr = (expr.Var 0 75); start = 70; end = 78 } ∷ []) }; item = (item.Assign (record { place = (expr.Index (expr.Var 0 79) (expr.Const (pos 1) 81) 80); op = op.Add; right = (right.Plain (expr.Const (pos 1) 87)); at = 84 })); start = 0; end = 0 }) ∷ roll-Piece (record { gap = record { number = 3; frees = [] }; item = (item.Return (Some (right.Plain (expr.Const (pos 0) 97))) 90); start = 0; end = 0 }) ∷ []); last_gap = record { number = 4; frees = [] }; braced = true; start = 15; end = 101 })); at = 4 } ∷ []);
  main = 0;
  gaps = 5;
  calls = 0;
}

gaps_faults : faults.gaps + 1 ≡ 6
unfolding faults
gaps_faults = refl

faults_0 : run faults [] [] 0 ≡ machine (value.Undef ∷ value.Undef ∷ []) [] (record { fun = 0; path = (0 ∷ []); target = None } ∷ []) [] [] [] 0 Running
unfolding faults
faults_0 = refl

gap_faults_0_0 : spot_in_fun faults 0 (slice_get faults.funs 0) (0 ∷ []) ≡ AtGap (record { number = 0; frees = [] })
unfolding faults
gap_faults_0_0 = simp (out-roll-Block)

behind_faults_0_0 : next_in_fun faults 0 (slice_get faults.funs 0) (None) (0 ∷ []) ≡ (0 ∷ 0 ∷ [])
unfolding faults
behind_faults_0_0 = simp (out-roll-Block, item.outs-Declare)

at_faults_0_0_0 : spot_in_fun faults 0 (slice_get faults.funs 0) (0 ∷ 0 ∷ []) ≡ AtAction (Malloc (Some (expr.Var 0 24)) (size.Ints (Some (expr.Const (pos 2) 33))) 26)
unfolding faults
at_faults_0_0_0 = simp (out-roll-Block, item.outs-Declare)

behind_faults_0_0_0 : next_in_fun faults 0 (slice_get faults.funs 0) (None) (0 ∷ 0 ∷ []) ≡ (1 ∷ [])
unfolding faults
behind_faults_0_0_0 = simp (out-roll-Block, item.outs-Declare)

does_faults_1 : effect faults (Malloc (Some (expr.Var 0 24)) (size.Ints (Some (expr.Const (pos 2) 33))) 26) (store (value.Undef ∷ value.Undef ∷ []) [] [] [] [] 1 Running) ≡ Passes None (store ((value.Ptr 0) ∷ value.Undef ∷ []) (record { cells = (value.Undef ∷ value.Undef ∷ []); freed = false } ∷ []) [] [] [] 1 Running)
unfolding faults
does_faults_1 = simp (expr.outs-Var, eval_const)

faults_1 : run faults [] [] 1 ≡ machine ((value.Ptr 0) ∷ value.Undef ∷ []) (record { cells = (value.Undef ∷ value.Undef ∷ []); freed = false } ∷ []) (record { fun = 0; path = (1 ∷ []); target = None } ∷ []) [] [] [] 1 Running
faults_1 = ap (step faults) faults_0 ∙ rw (gaps_faults, gap_faults_0_0, behind_faults_0_0, at_faults_0_0_0, does_faults_1, behind_faults_0_0_0) refl

gap_faults_0_1 : spot_in_fun faults 0 (slice_get faults.funs 0) (1 ∷ []) ≡ AtGap (record { number = 1; frees = [] })
unfolding faults
gap_faults_0_1 = simp (out-roll-Block)

behind_faults_0_1 : next_in_fun faults 0 (slice_get faults.funs 0) (None) (1 ∷ []) ≡ (1 ∷ 0 ∷ [])
unfolding faults
behind_faults_0_1 = simp (out-roll-Block, item.outs-Assign)

at_faults_0_1_0 : spot_in_fun faults 0 (slice_get faults.funs 0) (1 ∷ 0 ∷ []) ≡ AtAction (Assign (expr.Index (expr.Var 0 51) (expr.Const (pos 1) 53) 52) op.Put (expr.Const (pos 2147483647) 58) 56)
unfolding faults
at_faults_0_1_0 = simp (out-roll-Block, item.outs-Assign)

behind_faults_0_1_0 : next_in_fun faults 0 (slice_get faults.funs 0) (None) (1 ∷ 0 ∷ []) ≡ (2 ∷ [])
unfolding faults
behind_faults_0_1_0 = simp (out-roll-Block, item.outs-Assign)

does_faults_2 : effect faults (Assign (expr.Index (expr.Var 0 51) (expr.Const (pos 1) 53) 52) op.Put (expr.Const (pos 2147483647) 58) 56) (store ((value.Ptr 0) ∷ value.Undef ∷ []) (record { cells = (value.Undef ∷ value.Undef ∷ []); freed = false } ∷ []) [] [] [] 2 Running) ≡ Passes None (store ((value.Ptr 0) ∷ value.Undef ∷ []) (record { cells = (value.Undef ∷ (value.Int (pos 2147483647)) ∷ []); freed = false } ∷ []) [] [] [] 2 Running)
unfolding faults
does_faults_2 = simp (expr.outs-Index, eval_var, eval_const)

faults_2 : run faults [] [] 2 ≡ machine ((value.Ptr 0) ∷ value.Undef ∷ []) (record { cells = (value.Undef ∷ (value.Int (pos 2147483647)) ∷ []); freed = false } ∷ []) (record { fun = 0; path = (2 ∷ []); target = None } ∷ []) [] [] [] 2 Running
faults_2 = ap (step faults) faults_1 ∙ rw (gaps_faults, gap_faults_0_1, behind_faults_0_1, at_faults_0_1_0, does_faults_2, behind_faults_0_1_0) refl

gap_faults_0_2 : spot_in_fun faults 0 (slice_get faults.funs 0) (2 ∷ []) ≡ AtGap (record { number = 2; frees = (record { expr = (expr.Var 0 75); start = 70; end = 78 } ∷ []) })
unfolding faults
gap_faults_0_2 = simp (out-roll-Block)

frees_faults_3 : all_freed (record { expr = (expr.Var 0 75); start = 70; end = 78 } ∷ []) (store ((value.Ptr 0) ∷ value.Undef ∷ []) (record { cells = (value.Undef ∷ (value.Int (pos 2147483647)) ∷ []); freed = false } ∷ []) [] [] [] 3 Running) ≡ (store ((value.Ptr 0) ∷ value.Undef ∷ []) (record { cells = (value.Undef ∷ (value.Int (pos 2147483647)) ∷ []); freed = true } ∷ []) [] [] [] 3 Running)
frees_faults_3 = simp (expr.outs-Var)

behind_faults_0_2 : next_in_fun faults 0 (slice_get faults.funs 0) (None) (2 ∷ []) ≡ (2 ∷ 0 ∷ [])
unfolding faults
behind_faults_0_2 = simp (out-roll-Block, item.outs-Assign)

at_faults_0_2_0 : spot_in_fun faults 0 (slice_get faults.funs 0) (2 ∷ 0 ∷ []) ≡ AtAction (Assign (expr.Index (expr.Var 0 79) (expr.Const (pos 1) 81) 80) op.Add (expr.Const (pos 1) 87) 84)
unfolding faults
at_faults_0_2_0 = simp (out-roll-Block, item.outs-Assign)

does_faults_3 : effect faults (Assign (expr.Index (expr.Var 0 79) (expr.Const (pos 1) 81) 80) op.Add (expr.Const (pos 1) 87) 84) (store ((value.Ptr 0) ∷ value.Undef ∷ []) (record { cells = (value.Undef ∷ (value.Int (pos 2147483647)) ∷ []); freed = true } ∷ []) [] [] [] 3 Running) ≡ Stays (store ((value.Ptr 0) ∷ value.Undef ∷ []) (record { cells = (value.Undef ∷ (value.Int (pos 2147483647)) ∷ []); freed = true } ∷ []) [] [] [] 3 (Fault kind.UseAfterFree 79 false))
unfolding faults
does_faults_3 = simp (expr.outs-Index, eval_var, eval_const)

faults_3 : run faults [] [] 3 ≡ machine ((value.Ptr 0) ∷ value.Undef ∷ []) (record { cells = (value.Undef ∷ (value.Int (pos 2147483647)) ∷ []); freed = true } ∷ []) (record { fun = 0; path = (2 ∷ 0 ∷ []); target = None } ∷ []) [] [] [] 3 (Fault kind.UseAfterFree 79 false)
faults_3 = ap (step faults) faults_2 ∙ rw (gaps_faults, gap_faults_0_2, frees_faults_3, behind_faults_0_2, at_faults_0_2_0, does_faults_3) refl
