-- The text in which a program's gaps are filled by a choice.
use Rattle.std.specs.Prelude.{ℕ, ◌-◌, List, [], ◌∷◌, ◌++◌, take, drop, replicate, slice_get, unwrap_or, option_map, option_and_then, codes, Option, Some, None}
use Rattle.c_lexer.specs.declared.token.Token.{Token}
use Rattle.c_lexer.specs.declared.token.Tokens.{Tokens}
use Rattle.c_lexer.specs.Outcome.{AreTokens}
use Rattle.c_tree.specs.declared.choice.Choice.{Choice}
use Rattle.c_tree.specs.declared.program.FieldDef.{FieldDef}
use Rattle.c_tree.specs.declared.program.Program.{Program}
use Rattle.c_tree.specs.declared.program.StructDef.{StructDef}
use Rattle.c_tree.specs.declared.program.Ty.{Ty}
use Rattle.c_tree.specs.declared.program.Ty.TheVariants as ty
use Rattle.c_tree.specs.declared.program.VarDef.{VarDef}
use Rattle.source_patcher.specs.Changes.{changes}
use Rattle.source_patcher.specs.declared.change.Change.{Change}
use Rattle.source_patcher.specs.declared.change.Writing.{Writing}
use Rattle.source_patcher.specs.declared.change.Writing.TheVariants as writing

-- a name, where there is one
abbrev pub name_or_none : Option (List ℕ) → List ℕ
name_or_none name = unwrap_or name []

abbrev pub variable_name : Program → ℕ → List ℕ
variable_name p x = name_or_none (option_map (λ (v : VarDef). v.name) (slice_get p.vars x))

-- the fields of the struct to which a type points
abbrev pub pointed_fields : Program → Ty → Option (List FieldDef)
pointed_fields p ty.Int = None
pointed_fields p ty.IntPtr = None
pointed_fields p (ty.StructPtr s) = option_map (λ (d : StructDef). d.fields) (slice_get p.structs s)

-- those of the struct to which a variable points
abbrev pub fields_behind : Program → ℕ → Option (List FieldDef)
fields_behind p x = option_and_then (λ (v : VarDef). pointed_fields p v.ty) (slice_get p.vars x)

abbrev pub field_name : Program → ℕ → ℕ → List ℕ
field_name p x f = name_or_none (option_map (λ (d : FieldDef). d.name) (option_and_then (λ fields. slice_get fields f) (fields_behind p x)))

-- what is freed, `x` or `x->f`
abbrev pub freed_text : Program → ℕ → Option ℕ → List ℕ
freed_text p x None = variable_name p x
freed_text p x (Some f) = variable_name p x ++ codes "->" ++ field_name p x f

-- ` free(e); `, with a blank before and behind
abbrev pub free_text : List ℕ → List ℕ
free_text e = codes " free(" ++ e ++ codes "); "

-- what is written in the place of so many bytes
abbrev pub written : Program → ℕ → Writing → List ℕ
written p n writing.Blanks = replicate n 32
written p n (writing.Free q) = free_text (freed_text p q.var q.field)
written p n writing.Open = codes " { "
written p n writing.Close = codes " } "

abbrev pub text_of : Program → Change → List ℕ
text_of p c = written p (c.end - c.start) c.writing

-- the bytes from the offset `at` on, with the changes made; all other bytes stay
abbrev pub with_changes : Program → ℕ → List Change → List ℕ → List ℕ
with_changes p at [] bytes = bytes
with_changes p at (c ∷ more) bytes = take (c.start - at) bytes ++ text_of p c ++ with_changes p c.end more (drop (c.end - at) bytes)

-- the text of these bytes and tokens, which reads as the program, with the gaps filled by the choice
abbrev pub edited : List ℕ → List Token → Program → Choice → List ℕ
edited bytes ts p choice = with_changes p 0 (changes ts choice.puts p) bytes

-- the lexer refuses nothing in the text
abbrev pub IsAccepted : List ℕ → Type 0
IsAccepted bytes = (tokens : Tokens) × AreTokens bytes tokens
