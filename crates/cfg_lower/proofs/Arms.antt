-- The parts of an `if` by their numbers: of arm j the condition is part 2j and the block part 2j + 1,
-- and behind all arms comes the block of the last `else`.
use Rattle.std.proofs.Common.{◌≡◌, ℕ, zero, suc, ◌+◌, ◌*◌, ◌<◌, List, [], ◌∷◌, ◌++◌, length, slice_get, get_or, Some, refl, ap, arith}
use Rattle.c_tree.specs.declared.program.Arm.{Arm}
use Rattle.c_tree.specs.declared.program.Block.{Block}
use Rattle.c_meaning.specs.Parts.{Part, Condition, Within, arm_parts}
use Rattle.c_meaning.specs.Place.{arm_test, arm_body}

pub arm_condition : (arms : List Arm) (zs : List (Part Block)) (j k : ℕ) (d : Arm) → j < length arms → k ≡ 2 * j →
    slice_get (arm_parts arm_test arm_body arms ++ zs) k ≡ Some (Condition (arm_test (get_or arms j d)))
arm_condition [] zs j k d below e = absurd (omega arith)
arm_condition (a ∷ arms) zs zero zero d below e = refl
arm_condition (a ∷ arms) zs zero (suc k) d below e = absurd (omega arith)
arm_condition (a ∷ arms) zs (suc j) zero d below e = absurd (omega arith)
arm_condition (a ∷ arms) zs (suc j) (suc zero) d below e = absurd (omega arith)
arm_condition (a ∷ arms) zs (suc j) (suc (suc k)) d below e = arm_condition arms zs j k d (omega arith) (omega arith)

pub arm_block : (arms : List Arm) (zs : List (Part Block)) (j k : ℕ) (d : Arm) → j < length arms → k ≡ 2 * j + 1 →
    slice_get (arm_parts arm_test arm_body arms ++ zs) k ≡ Some (Within (arm_body (get_or arms j d)))
arm_block [] zs j k d below e = absurd (omega arith)
arm_block (a ∷ arms) zs j zero d below e = absurd (omega arith)
arm_block (a ∷ arms) zs zero (suc zero) d below e = refl
arm_block (a ∷ arms) zs zero (suc (suc k)) d below e = absurd (omega arith)
arm_block (a ∷ arms) zs (suc j) (suc zero) d below e = absurd (omega arith)
arm_block (a ∷ arms) zs (suc j) (suc (suc k)) d below e = arm_block arms zs j k d (omega arith) (omega arith)

pub behind_arms : (arms : List Arm) (zs : List (Part Block)) (i k : ℕ) → k ≡ 2 * length arms + i →
    slice_get (arm_parts arm_test arm_body arms ++ zs) k ≡ slice_get zs i
behind_arms [] zs i k e = let same : k ≡ i = omega arith in ap (λ (j : ℕ). slice_get zs j) same
behind_arms (a ∷ arms) zs i zero e = absurd (omega arith)
behind_arms (a ∷ arms) zs i (suc zero) e = absurd (omega arith)
behind_arms (a ∷ arms) zs i (suc (suc k)) e = behind_arms arms zs i k (omega arith)
