-- Types as they are written, tags, and the declaration of names (C99 6.2.1, 6.7.2.3).
use Rattle.std.specs.Prelude.{ℕ, ◌==◌, Bool, List, [], ◌∷◌, ◌++◌, length, take, Option, None, Some, if◌then◌else◌}
use Rattle.c_tree.specs.declared.program.Home.{Home}
use Rattle.c_tree.specs.declared.program.Ty.{Ty}
use Rattle.c_tree.specs.declared.program.Ty.TheVariants as ty
use Rattle.c_tree.specs.declared.program.VarDef.{VarDef}
use Rattle.c_tree.specs.declared.tree.Base.{Base}
use Rattle.c_tree.specs.declared.tree.Base.TheVariants as base
use Rattle.c_tree.specs.declared.tree.Spec.{Spec}
use Rattle.c_tree.specs.declared.tree.Word.{Word}
use Rattle.c_types.specs.declared.faults.Fault.{Fault}
use Rattle.c_types.specs.declared.faults.Rule.{Rule}
use Rattle.c_types.specs.declared.faults.Rule.TheVariants as rule
use Rattle.c_types.specs.declared.scope.BaseType.{BaseType}
use Rattle.c_types.specs.declared.scope.BaseType.TheVariants as type
use Rattle.c_types.specs.declared.scope.Entry.{Entry}
use Rattle.c_types.specs.declared.scope.Meaning.{Meaning}
use Rattle.c_types.specs.declared.scope.Meaning.TheVariants as meaning
use Rattle.c_types.specs.declared.scope.Returned.{Returned}
use Rattle.c_types.specs.declared.scope.Returned.TheVariants as returned
use Rattle.c_types.specs.declared.scope.Scope.{Scope}
use Rattle.c_types.specs.declared.scope.StructRow.{StructRow}
use Rattle.c_types.specs.declared.scope.Walk.{Walk}
use Rattle.c_types.specs.declared.scope.Written.{Written}
use Rattle.c_types.specs.declared.scope.Written.TheVariants.{Good, Bad}
use Rattle.c_types.specs.Fits.{fault}
use Rattle.c_types.specs.Tables.{found}

-- a struct of which nothing is known so far
abbrev pub new_struct : StructRow
new_struct = record { fields = []; body = None }

-- a struct more, without a tag
abbrev pub untagged : Scope → Scope × ℕ
untagged s = (record s { structs = s.structs ++ new_struct ∷ [] }, length s.structs)

-- `struct N` declares its tag wherever it first stands; structs are numbered by that
abbrev pub tagged_by : Word → Scope → Option ℕ → Scope × ℕ
tagged_by w s (Some n) = (s, n)
tagged_by w s None = (record s { tags = s.tags ++ (w.text, length s.structs) ∷ []; structs = s.structs ++ new_struct ∷ [] }, length s.structs)

abbrev pub tagged : Word → Scope → Scope × ℕ
tagged w s = tagged_by w s (found s.tags w.text)

-- Unknown: a name used as a type that is no typedef name
abbrev pub alias_as : Word → Meaning → BaseType
alias_as w (meaning.Alias n) = type.Struct n
alias_as w (meaning.Bad f) = type.Bad f
alias_as w (meaning.Variable n t) = type.Bad (fault rule.Unknown w.at)
alias_as w (meaning.Function n) = type.Bad (fault rule.Unknown w.at)

abbrev pub alias_by : Word → Option Entry → BaseType
alias_by w None = type.Bad (fault rule.Unknown w.at)
alias_by w (Some e) = alias_as w e.meaning

-- what the base of a type names
abbrev pub based : Base → Scope → Scope × BaseType
based base.Void s = (s, type.Void)
based base.Int s = (s, type.Int)
based (base.Tag w) s = let r = tagged w s in (r.0, type.Struct r.1)
based (base.Alias w) s = (s, alias_by w (found s.names w.text))

-- the types of values: `int`, `int *` and pointers to structs
abbrev pub value_type : BaseType → ℕ → Option Ty
value_type type.Int stars = if stars == 0 then Some ty.Int else if stars == 1 then Some ty.IntPtr else None
value_type (type.Struct n) stars = if stars == 1 then Some (ty.StructPtr n) else None
value_type type.Void stars = None
value_type (type.Bad f) stars = None

-- the offset of a declared name, or of its type's first token where it has none
abbrev pub word_or : Option Word → ℕ → ℕ
word_or None at = at
word_or (Some w) at = w.at

abbrev pub naming : Spec → ℕ
naming d = word_or d.name d.at

-- Wrong 1: a type without values
abbrev pub good_type : Spec → Option Ty → Written
good_type d (Some t) = Good t
good_type d None = Bad (fault rule.NoValues (naming d))

abbrev pub written : Spec → BaseType → Written
written d (type.Bad f) = Bad f
written d type.Void = good_type d (value_type type.Void d.stars)
written d type.Int = good_type d (value_type type.Int d.stars)
written d (type.Struct n) = good_type d (value_type (type.Struct n) d.stars)

-- the type that is written in a declaration
abbrev pub spec_type : Spec → Scope → Scope × Written
spec_type d s = let r = based d.base s in (r.0, written d r.1)

-- the type of a result
abbrev pub value_or_bad : Written → Returned
value_or_bad (Good t) = returned.Value t
value_or_bad (Bad f) = returned.Bad f

abbrev pub result_of : Spec → BaseType → Returned
result_of d type.Void = if d.stars == 0 then returned.Nothing else returned.Bad (fault rule.NoValues (naming d))
result_of d t = value_or_bad (written d t)

abbrev pub result_type : Spec → Scope → Scope × Returned
result_type d s = let r = based d.base s in (r.0, result_of d r.1)

-- the fault of a type
abbrev pub type_faults : Written → List Fault
type_faults (Good t) = []
type_faults (Bad f) = f ∷ []

abbrev pub noted : List Fault → Walk → Walk
noted fs w = record w { faults = w.faults ++ fs }

abbrev pub with_scope : Walk → Scope → Walk
with_scope w s = record w { scope = s }

-- what changes only the scope
abbrev pub in_scope : {A : Type 0} → (Scope → Scope × A) → Walk → Walk × A
in_scope f w = let r = f w.scope in (with_scope w r.0, r.1)

-- Twice: a name declared again in its scope. Hidden: the name of an outer scope.
abbrev pub clash : ℕ → Entry → Rule
clash depth e = if e.depth == depth then rule.Twice else rule.Hidden

abbrev pub with_name : Word → Entry → Walk → Walk
with_name n e w = with_scope w (record w.scope { names = w.scope.names ++ (n.text, e) ∷ [] })

-- a name declared again keeps its first meaning
abbrev pub named_by : Word → Entry → Walk → Option Entry → Walk
named_by n e w None = with_name n e w
named_by n e w (Some older) = noted (fault (clash e.depth older) n.at ∷ []) w

-- the declaration of a name
abbrev pub named : Word → Entry → Walk → Walk
named n e w = named_by n e w (found w.scope.names n.text)

-- Wrong 13: a declaration without a name
abbrev pub named_if : Spec → Entry → Walk → Option Word → Walk
named_if d e w None = noted (fault rule.Nameless d.at ∷ []) w
named_if d e w (Some n) = named n e w

abbrev pub named_any : Spec → Entry → Walk → Walk
named_any d e w = named_if d e w d.name

abbrev pub text_or_none : Option Word → List ℕ
text_or_none None = []
text_or_none (Some n) = n.text

-- a type, or `int` in the place of none
abbrev pub or_int : Written → Ty
or_int (Good t) = t
or_int (Bad f) = ty.Int

abbrev pub variable_meaning : ℕ → Written → Meaning
variable_meaning n (Good t) = meaning.Variable n t
variable_meaning n (Bad f) = meaning.Bad f

-- a variable by its declaration
abbrev pub var_of : Spec → Written → Home → VarDef
var_of d t h = record { name = text_or_none d.name; ty = or_int t; home = h; at = naming d }

-- variables are numbered in the order of their declarations
abbrev pub with_var : VarDef → Walk → Walk
with_var v w = record w { vars = w.vars ++ v ∷ [] }

-- a declared variable is visible from here on
abbrev pub variable_named : Spec → ℕ → Written → ℕ → Walk → Walk
variable_named d depth t n w = named_any d (record { meaning = variable_meaning n t; depth = depth }) (noted (type_faults t) w)

abbrev pub variable_behind : Spec → Home → ℕ → ℕ → Walk × Written → Walk × Written
variable_behind d h depth n r = (variable_named d depth r.1 n (with_var (var_of d r.1 h) r.0), r.1)

-- the declaration of a variable, with its type
abbrev pub declared : Spec → Home → ℕ → Walk → Walk × Written
declared d h depth w = variable_behind d h depth (length w.vars) (in_scope (spec_type d) w)

-- at the end of a block the names declared in it are forgotten
abbrev pub closed : ℕ → Walk → Walk
closed n w = with_scope w (record w.scope { names = take n w.scope.names })
