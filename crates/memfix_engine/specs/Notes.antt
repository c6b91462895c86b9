-- The lines on notes. Each ends with a newline byte.
use Rattle.std.specs.Prelude.{ℕ, ◌+◌, Bool, ◌==◌, List, [], ◌∷◌, ◌++◌, length, take, count_by, codes, decimal, slice_get, unwrap_or, not}
use Rattle.std.specs.Fmt.{signed_decimal}
use Rattle.std.specs.List.{after_last}
use Rattle.c_lexer.specs.declared.refusal.LexRefusal.{LexRefusal}
use Rattle.c_lexer.specs.declared.refusal.LexRefusal.TheVariants as lex
use Rattle.c_lexer.specs.Words.{refused_words}
use Rattle.c_meaning.specs.Texts.{text_of}
use Rattle.c_meaning.specs.declared.machine.Ending.{Ending}
use Rattle.c_meaning.specs.declared.machine.Ending.TheVariants as ending
use Rattle.c_meaning.specs.declared.machine.Machine.{Machine}
use Rattle.c_parser.specs.declared.refusal.ParseRefusal.{ParseRefusal}
use Rattle.c_parser.specs.declared.refusal.ParseRefusal.TheVariants as parse
use Rattle.c_tree.specs.declared.limits.Limit.{Limit}
use Rattle.c_tree.specs.declared.limits.Limit.TheVariants as limit
use Rattle.c_types.specs.declared.refusal.TypeRefusal.{TypeRefusal}
use Rattle.c_types.specs.declared.refusal.TypeRefusal.TheVariants as typing
use Rattle.memfix_engine.specs.declared.refusal.SourceRefusal.{SourceRefusal}
use Rattle.memfix_engine.specs.declared.refusal.SourceRefusal.TheVariants as source

abbrev pub is_newline : ℕ → Bool
is_newline c = c == 10

-- the line of an offset: 1, and 1 more for each newline before it
abbrev pub line_number : List ℕ → ℕ → ℕ
line_number bytes at = count_by is_newline (take at bytes) + 1

-- its column: 1, and 1 more for each byte between the last newline before it and the offset
abbrev pub column_number : List ℕ → ℕ → ℕ
column_number bytes at = length (after_last is_newline (take at bytes)) + 1

-- a line that speaks of no offset
abbrev pub line_of : List ℕ → List ℕ
line_of text = codes "memfix: " ++ text ++ 10 ∷ []

-- the line of a text that speaks of a place
abbrev pub place_text : (line column : ℕ) → List ℕ
place_text line column = codes "memfix: line " ++ (decimal line ++ (codes ", column " ++ (decimal column ++ codes ": ")))

abbrev pub place_line : (line column : ℕ) (text : List ℕ) → List ℕ
place_line line column text = place_text line column ++ text ++ 10 ∷ []

abbrev pub line_at : (bytes : List ℕ) (at : ℕ) (text : List ℕ) → List ℕ
line_at bytes at text = place_line (line_number bytes at) (column_number bytes at) text

abbrev pub usage_line : List ℕ
usage_line = line_of (codes "usage: repair [--cert], verify, replay --steps N [--fails BITS] [--input TEXT], selfrun N")

abbrev pub too_long_line : List ℕ
too_long_line = line_of (codes "limit: more than 1048576 bytes")

abbrev pub read_fault_line : List ℕ
read_fault_line = line_of (codes "read fault")

abbrev pub memory_line : List ℕ
memory_line = line_of (codes "out of memory")

-- The lines of refused texts.

-- the texts of refused punctuators and of a number of another form, from row 33 on
abbrev pub punctuator_texts : List (List ℕ)
punctuator_texts =
    codes "directive" ∷ codes "directive" ∷ codes "digraph" ∷ codes "digraph" ∷ codes "remainder assignment" ∷ codes "digraph" ∷
    codes "address-of or bit-and" ∷ codes "bit assignment" ∷ codes "member of a struct value" ∷ codes "variable arguments" ∷
    codes "quotient assignment" ∷ codes "label or conditional" ∷ codes "digraph" ∷ codes "digraph" ∷ codes "digraph" ∷
    codes "left shift" ∷ codes "left shift" ∷ codes "right shift" ∷ codes "right shift" ∷ codes "conditional operator" ∷
    codes "bit-xor" ∷ codes "bit-xor" ∷ codes "bit-or" ∷ codes "bit-or" ∷ codes "bit-not" ∷ codes "number form" ∷ []

-- the texts of the refused rows; a word's text is its spelling
abbrev pub row_texts : List (List ℕ)
row_texts = refused_words ++ punctuator_texts

-- the texts with their numbers, from n on
abbrev pub numbered : ℕ → List (List ℕ) → List (List ℕ × ℕ)
numbered n [] = []
numbered n (text ∷ texts) = (text, n) ∷ numbered (n + 1) texts

abbrev pub row_text : ℕ → List ℕ
row_text row = unwrap_or (slice_get row_texts row) []

abbrev pub construct_text : ℕ → List ℕ
construct_text row = codes "not in the profile: " ++ row_text row

abbrev pub depth_text : List ℕ
depth_text = codes "limit: more than 256 levels"

abbrev pub lex_line : List ℕ → LexRefusal → List ℕ
lex_line bytes (lex.BadByte at) = line_at bytes at (codes "byte not allowed here")
lex_line bytes (lex.OpenComment at) = line_at bytes at (codes "comment without an end")
lex_line bytes (lex.OpenText at) = line_at bytes at (codes "text without an end")
lex_line bytes (lex.BadEscape at) = line_at bytes at (codes "escape not in the profile")
lex_line bytes (lex.WideNumber at) = line_at bytes at (codes "number too large")
lex_line bytes (lex.Construct row at) = line_at bytes at (construct_text row)
lex_line bytes (lex.Depth at) = line_at bytes at depth_text
lex_line bytes lex.Memory = memory_line

-- the line of tokens without a tree
abbrev pub parse_line : List ℕ → ParseRefusal → List ℕ
parse_line bytes (parse.Syntax at) = line_at bytes at (codes "syntax")
parse_line bytes parse.Memory = memory_line

-- the text of a broken rule of types
abbrev pub rule_text : ℕ → List ℕ
rule_text rule = codes "type rule " ++ decimal rule

-- the line of a tree that is no program; that there is no main is told at the end of the text
abbrev pub type_line : List ℕ → TypeRefusal → List ℕ
type_line bytes (typing.Unknown at) = line_at bytes at (codes "unknown name")
type_line bytes (typing.Twice at) = line_at bytes at (codes "declared twice")
type_line bytes (typing.Hidden at) = line_at bytes at (codes "hides an outer name")
type_line bytes (typing.Wrong rule at) = line_at bytes at (rule_text rule)
type_line bytes (typing.Recursion at) = line_at bytes at (codes "recursion")
type_line bytes typing.NoMain = line_at bytes (length bytes) (codes "no definition of main")
type_line bytes (typing.NoValue at) = line_at bytes at (codes "a path ends without a value")
type_line bytes (typing.Jump at) = line_at bytes at (codes "jump outside a loop")
type_line bytes typing.Memory = memory_line

-- the line of a source that is refused
abbrev pub source_line : List ℕ → SourceRefusal → List ℕ
source_line bytes (source.Lex refusal) = lex_line bytes refusal
source_line bytes (source.Parse refusal) = parse_line bytes refusal
source_line bytes (source.Resolve refusal) = type_line bytes refusal
source_line bytes source.Memory = memory_line

-- The lines of programs that are not repaired.

-- the line of a count that passes its limit
abbrev pub limit_line : Limit → List ℕ
limit_line limit.Contexts = line_of (codes "limit: more than 1024 contexts")
limit_line limit.Nodes = line_of (codes "limit: more than 10000 nodes")
limit_line limit.Variables = line_of (codes "limit: more than 256 variables")
limit_line limit.Expressions = line_of (codes "limit: more than 1024 expressions")
limit_line limit.Sites = line_of (codes "limit: more than 1024 sites")
limit_line limit.Frees = line_of (codes "limit: more than 8192 frees")
limit_line limit.States = line_of (codes "limit: more than 100000 states")
limit_line limit.Clauses = line_of (codes "limit: more than 2000000 clauses")

-- the text of an object that no put may free on the way to the exit at a line
abbrev pub alone_text : ℕ → List ℕ
alone_text line = codes "no free fits this object on the way to the exit at line " ++ decimal line

-- its line, from the offsets of the word `malloc` and of the exit
abbrev pub alone_line : (bytes : List ℕ) (site exit : ℕ) → List ℕ
alone_line bytes site exit = line_at bytes site (alone_text (line_number bytes exit))

abbrev pub together_line : List ℕ
together_line = line_of (codes "no choice of frees covers every object exactly once")

-- The line of a replay.

-- where a run met its fault
abbrev pub at_text : (line column : ℕ) → List ℕ
at_text line column = codes " at line " ++ (decimal line ++ (codes ", column " ++ decimal column))

-- how the run of a text ended so far
abbrev pub ending_text : List ℕ → Ending → List ℕ
ending_text bytes ending.Running = codes "running"
ending_text bytes (ending.Returned answer) = codes "returned " ++ signed_decimal answer
ending_text bytes (ending.Fault kind at by_free) = text_of kind ++ at_text (line_number bytes at) (column_number bytes at)

abbrev pub steps_text : ℕ → List ℕ
steps_text steps = codes "memfix: " ++ (decimal steps ++ codes " steps, ")

abbrev pub live_text : ℕ → List ℕ
live_text live = codes ", " ++ (decimal live ++ (codes " live" ++ 10 ∷ []))

-- how many objects are not freed
abbrev pub live : Machine → ℕ
live m = count_by (λ o. not o.freed) m.objects

-- the steps taken, how the run ended, and how many objects are not freed
abbrev pub replay_line : List ℕ → Machine → List ℕ
replay_line bytes m = steps_text m.steps ++ ending_text bytes m.ending ++ live_text (live m)
