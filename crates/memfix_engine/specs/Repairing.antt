-- Why a program is not repaired.
use Rattle.std.specs.Prelude.{ℕ}
use Rattle.c_tree.specs.declared.program.Program.{Program}
use Rattle.memfix_engine.specs.Analysis.{IsAlone, IsUncovered, PassesLimit}
use Rattle.memfix_engine.specs.declared.refusal.RepairRefusal.{RepairRefusal}
use Rattle.memfix_engine.specs.declared.refusal.RepairRefusal.TheVariants as refusal

-- a count passes its limit, an object can't be freed, or no choice frees all; nothing is said of want of memory
abbrev pub RefusesProgram : Program → RepairRefusal → Type 0
RefusesProgram p refusal.TooLong = ⊥
RefusesProgram p (refusal.Source r) = ⊥
RefusesProgram p (refusal.Limit l) = PassesLimit p l
RefusesProgram p (refusal.Alone site exit) = IsAlone p site exit
RefusesProgram p refusal.Together = IsUncovered p
RefusesProgram p refusal.Memory = Unit {0}
