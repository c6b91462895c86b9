-- The faults of a text, the order of two faults, and the one that is answered.
use Rattle.std.specs.Prelude.{◌≡◌, ℕ, Bool, false, nat_lt, ◌==◌, ◌&&◌, ◌||◌, List, Option, None, Some, if◌then◌else◌}
use Rattle.std.specs.List.{All, Contains}
use Rattle.c_types.specs.declared.faults.Fault.{Fault}
use Rattle.c_types.specs.declared.faults.Rule.{Rule}
use Rattle.c_types.specs.declared.faults.Rule.TheVariants as rule
use Rattle.c_types.specs.declared.refusal.TypeRefusal.{TypeRefusal}
use Rattle.c_types.specs.declared.refusal.TypeRefusal.TheVariants.{Unknown, Twice, Hidden, Wrong, NoValue, Jump}

-- the order of the rules at one offset
abbrev pub rank : Rule → ℕ
rank rule.Unknown = 0
rank rule.Twice = 1
rank rule.Hidden = 2
rank rule.NoValues = 3
rank rule.NoPlace = 4
rank rule.TypesDiffer = 5
rank rule.Operands = 6
rank rule.LooseLogic = 7
rank rule.ArgumentCount = 8
rank rule.Directive = 9
rank rule.Request = 10
rank rule.VoidValue = 11
rank rule.DeclarationsDiffer = 12
rank rule.CallTarget = 13
rank rule.Main = 14
rank rule.Nameless = 15
rank rule.NoBody = 16
rank rule.NoValue = 17
rank rule.Jump = 18

-- the lesser offset comes first, and at one offset the rule that stands first
abbrev pub is_before : Fault → Fault → Bool
is_before f g = nat_lt f.at g.at || (f.at == g.at && nat_lt (rank f.rule) (rank g.rule))

-- f is one of the faults, and none comes before it
pub record IsLeast (faults : List Fault) (f : Fault) : Type 0 where
  pub among : Contains faults f
  pub first : All (λ g. is_before g f ≡ false) faults

-- the one that comes first
abbrev pub earlier : Option Fault → Fault → Fault
earlier None g = g
earlier (Some f) g = if is_before g f then g else f

abbrev pub refused : Rule → ℕ → TypeRefusal
refused rule.Unknown at = Unknown at
refused rule.Twice at = Twice at
refused rule.Hidden at = Hidden at
refused rule.NoValues at = Wrong 1 at
refused rule.NoPlace at = Wrong 2 at
refused rule.TypesDiffer at = Wrong 3 at
refused rule.Operands at = Wrong 4 at
refused rule.LooseLogic at = Wrong 5 at
refused rule.ArgumentCount at = Wrong 6 at
refused rule.Directive at = Wrong 7 at
refused rule.Request at = Wrong 8 at
refused rule.VoidValue at = Wrong 9 at
refused rule.DeclarationsDiffer at = Wrong 10 at
refused rule.CallTarget at = Wrong 11 at
refused rule.Main at = Wrong 12 at
refused rule.Nameless at = Wrong 13 at
refused rule.NoBody at = Wrong 14 at
refused rule.NoValue at = NoValue at
refused rule.Jump at = Jump at

-- a fault as it is answered
abbrev pub refusal_of : Fault → TypeRefusal
refusal_of f = refused f.rule f.at
