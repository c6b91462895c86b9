-- A recogniser of the grammar: which terms can come next, by a stack of symbols that are still to come.
use Rattle.std.specs.Prelude.{ℕ, Bool, true, false, List, [], ◌∷◌, ◌++◌, Option, Some, None, option_map}
use Rattle.c_lexer.specs.declared.token.Token.{Token}
use Rattle.c_lexer.specs.declared.token.Tokens.{Tokens}
use Rattle.c_parser.specs.declared.term.Term.{Term}
use Rattle.c_parser.specs.declared.term.Term.TheVariants as term
use Rattle.c_parser.specs.declared.symbol.Part.{Part}
use Rattle.c_parser.specs.declared.symbol.Part.TheVariants.{Whole, Factor, Count, Target, Pointed}
use Rattle.c_parser.specs.declared.symbol.Symbol.{Symbol}
use Rattle.c_parser.specs.declared.symbol.Symbol.TheVariants.{Want, Operand, After, Right, Named, Opened, OpenedName, OpenedStar, Arguments, MoreArguments, Size, NextFactor, Unit as UnitSymbol, UnitWithin, AfterUnit, Local, AfterLocal, MoreLocals, Piece, Begun, Pieces, Otherwise, Returned, ForStart, ForBegun, ForTest, ForStep, File, Typedef, TypedefNamed, Tagged, Field, MoreFields, StarredName, MoreNames, Outer, AfterOuter, Global, AfterGlobal, MoreGlobals, Const, Parameters, Parameter, AfterBase, AfterStar, MoreParameters, AfterHead}
use Rattle.c_parser.specs.Term.{term_of, same}

-- what replaces a symbol behind a token, or that the token doesn't begin it
abbrev pub Row : Type 0
Row = Option (List Symbol)

-- a row with more behind it
abbrev pub followed : Row → List Symbol → Row
followed row behind = option_map (λ front. front ++ behind) row

abbrev pub operand : Part → Term → Row
operand p term.Number = Some (After p ∷ [])
operand p term.Null = Some (After p ∷ [])
operand p term.Eof = Some (After p ∷ [])
operand p term.Name = Some (After p ∷ [])
operand p term.Open = Some (Operand Whole ∷ Want term.Close ∷ After p ∷ [])
operand p term.Minus = Some (Operand p ∷ [])
operand p term.Not = Some (Operand p ∷ [])
operand p term.Star = Some (Operand p ∷ [])
operand p _ = None

-- the binary operators behind an operand of an expr
abbrev pub binary : Term → Row
binary term.Star = Some (Operand Whole ∷ [])
binary term.Slash = Some (Operand Whole ∷ [])
binary term.Percent = Some (Operand Whole ∷ [])
binary term.Plus = Some (Operand Whole ∷ [])
binary term.Minus = Some (Operand Whole ∷ [])
binary term.Less = Some (Operand Whole ∷ [])
binary term.AtMost = Some (Operand Whole ∷ [])
binary term.Greater = Some (Operand Whole ∷ [])
binary term.AtLeast = Some (Operand Whole ∷ [])
binary term.Equals = Some (Operand Whole ∷ [])
binary term.Differs = Some (Operand Whole ∷ [])
binary term.AndAnd = Some (Operand Whole ∷ [])
binary term.OrOr = Some (Operand Whole ∷ [])
binary _ = None

-- the operators of products behind an operand of a count
abbrev pub counted : Term → Row
counted term.Star = Some (NextFactor ∷ [])
counted term.Slash = Some (Operand Count ∷ [])
counted term.Percent = Some (Operand Count ∷ [])
counted _ = None

-- what changes a place
abbrev pub changed : Term → Row
changed term.Put = Some (Right ∷ [])
changed term.PlusPut = Some (Operand Whole ∷ [])
changed term.MinusPut = Some (Operand Whole ∷ [])
changed term.StarPut = Some (Operand Whole ∷ [])
changed _ = None

-- and a post besides
abbrev pub stepped : Term → Row
stepped term.PlusPlus = Some []
stepped term.MinusMinus = Some []
stepped x = changed x

abbrev pub operator : Part → Term → Row
operator Whole x = binary x
operator Factor x = None
operator Count x = counted x
operator Target x = stepped x
operator Pointed x = changed x

abbrev pub after : Part → Term → Row
after p term.Arrow = Some (Want term.Name ∷ After p ∷ [])
after p term.OpenIndex = Some (Operand Whole ∷ Want term.CloseIndex ∷ After p ∷ [])
after p x = operator p x

abbrev pub request : List Symbol
request = Want term.Open ∷ Size ∷ Want term.Close ∷ []

-- calls that begin with a word
abbrev pub called : Term → Row
called term.Getchar = Some (Want term.Open ∷ Want term.Close ∷ [])
called term.Putchar = Some (Want term.Open ∷ Operand Whole ∷ Want term.Close ∷ [])
called term.Printf = Some (Want term.Open ∷ Want term.Text ∷ MoreArguments ∷ [])
called term.Malloc = Some request
called _ = None

abbrev pub right : Term → Row
right term.Name = Some (Named ∷ [])
right term.Open = Some (Opened Whole ∷ [])
right term.Getchar = called term.Getchar
right term.Putchar = called term.Putchar
right term.Printf = called term.Printf
right term.Malloc = called term.Malloc
right x = operand Whole x

abbrev pub named : Term → Row
named term.Open = Some (Arguments ∷ [])
named x = after Whole x

-- the rest of a group that begins an operand
abbrev pub grouped : Part → Row → Row
grouped p row = followed row (Want term.Close ∷ After p ∷ [])

abbrev pub opened : Part → Term → Row
opened p term.Int = Some (Want term.Star ∷ Want term.Close ∷ Want term.Malloc ∷ request)
opened p term.Struct = Some (Want term.Name ∷ Want term.Star ∷ Want term.Close ∷ Want term.Malloc ∷ request)
opened p term.Name = Some (OpenedName p ∷ [])
opened p x = grouped p (operand Whole x)

abbrev pub opened_name : Part → Term → Row
opened_name p term.Star = Some (OpenedStar p ∷ [])
opened_name p term.Close = Some (After p ∷ [])
opened_name p x = grouped p (after Whole x)

abbrev pub opened_star : Part → Term → Row
opened_star p term.Close = Some (Want term.Malloc ∷ request)
opened_star p x = grouped p (operand Whole x)

abbrev pub arguments : Term → Row
arguments term.Close = Some []
arguments x = followed (operand Whole x) (MoreArguments ∷ [])

abbrev pub more_arguments : Term → Row
more_arguments term.Close = Some []
more_arguments term.Comma = Some (Operand Whole ∷ MoreArguments ∷ [])
more_arguments _ = None

abbrev pub size : Term → Row
size term.Sizeof = Some (UnitSymbol ∷ AfterUnit ∷ [])
size x = operand Count x

abbrev pub next_factor : Term → Row
next_factor term.Sizeof = Some (UnitSymbol ∷ [])
next_factor x = operand Count x

abbrev pub unit : Term → Row
unit term.Open = Some (UnitWithin ∷ [])
unit term.Star = Some (Want term.Name ∷ [])
unit _ = None

abbrev pub unit_within : Term → Row
unit_within term.Int = Some (Want term.Close ∷ [])
unit_within term.Name = Some (Want term.Close ∷ [])
unit_within term.Struct = Some (Want term.Name ∷ Want term.Close ∷ [])
unit_within term.Star = Some (Want term.Name ∷ Want term.Close ∷ [])
unit_within _ = None

abbrev pub after_unit : Term → Row
after_unit term.Star = Some (Operand Factor ∷ [])
after_unit _ = None

-- a base with what stands behind it
abbrev pub based : List Symbol → Term → Row
based behind term.Int = Some behind
based behind term.Struct = Some (Want term.Name ∷ behind)
based behind term.Name = Some behind
based behind _ = None

-- ["*"] N with what stands behind it
abbrev pub starred : List Symbol → Term → Row
starred behind term.Star = Some (Want term.Name ∷ behind)
starred behind term.Name = Some behind
starred behind _ = None

abbrev pub more_locals : Term → Row
more_locals term.Comma = Some (Local ∷ [])
more_locals term.Semicolon = Some []
more_locals _ = None

abbrev pub after_local : Term → Row
after_local term.Put = Some (Right ∷ MoreLocals ∷ [])
after_local x = more_locals x

-- an assignment that doesn't begin with a name or `(`
abbrev pub simple : Term → Row
simple term.Number = Some (After Target ∷ [])
simple term.Null = Some (After Target ∷ [])
simple term.Eof = Some (After Target ∷ [])
simple term.Star = Some (Operand Pointed ∷ [])
simple term.PlusPlus = Some (Operand Factor ∷ [])
simple term.MinusMinus = Some (Operand Factor ∷ [])
simple _ = None

abbrev pub piece : Term → Row
piece term.Semicolon = Some []
piece term.Free = Some (Want term.Open ∷ Operand Whole ∷ Want term.Close ∷ Want term.Semicolon ∷ [])
piece term.OpenBrace = Some (Pieces ∷ [])
piece term.If = Some (Want term.Open ∷ Operand Whole ∷ Want term.Close ∷ Piece ∷ Otherwise ∷ [])
piece term.While = Some (Want term.Open ∷ Operand Whole ∷ Want term.Close ∷ Piece ∷ [])
piece term.For = Some (Want term.Open ∷ ForStart ∷ ForTest ∷ ForStep ∷ Piece ∷ [])
piece term.Break = Some (Want term.Semicolon ∷ [])
piece term.Continue = Some (Want term.Semicolon ∷ [])
piece term.Return = Some (Returned ∷ [])
piece term.Int = Some (Local ∷ [])
piece term.Struct = Some (Want term.Name ∷ Local ∷ [])
piece term.Name = Some (Begun ∷ [])
piece term.Open = Some (Opened Target ∷ Want term.Semicolon ∷ [])
piece term.Getchar = followed (called term.Getchar) (Want term.Semicolon ∷ [])
piece term.Putchar = followed (called term.Putchar) (Want term.Semicolon ∷ [])
piece term.Printf = followed (called term.Printf) (Want term.Semicolon ∷ [])
piece term.Malloc = followed (called term.Malloc) (Want term.Semicolon ∷ [])
piece x = followed (simple x) (Want term.Semicolon ∷ [])

abbrev pub for_begun : Term → Row
for_begun term.Name = Some (AfterLocal ∷ [])
for_begun term.Star = Some (Want term.Name ∷ AfterLocal ∷ [])
for_begun x = followed (after Target x) (Want term.Semicolon ∷ [])

abbrev pub begun : Term → Row
begun term.Open = Some (Arguments ∷ Want term.Semicolon ∷ [])
begun x = for_begun x

abbrev pub pieces : Term → Row
pieces term.CloseBrace = Some []
pieces x = followed (piece x) (Pieces ∷ [])

abbrev pub otherwise : Term → Row
otherwise term.Else = Some (Piece ∷ [])
otherwise _ = None

abbrev pub returned : Term → Row
returned term.Semicolon = Some []
returned x = followed (right x) (Want term.Semicolon ∷ [])

abbrev pub for_start : Term → Row
for_start term.Semicolon = Some []
for_start term.Int = Some (Local ∷ [])
for_start term.Struct = Some (Want term.Name ∷ Local ∷ [])
for_start term.Name = Some (ForBegun ∷ [])
for_start term.Open = Some (Operand Whole ∷ Want term.Close ∷ After Target ∷ Want term.Semicolon ∷ [])
for_start x = followed (simple x) (Want term.Semicolon ∷ [])

abbrev pub for_test : Term → Row
for_test term.Semicolon = Some []
for_test x = followed (operand Whole x) (Want term.Semicolon ∷ [])

abbrev pub for_step : Term → Row
for_step term.Close = Some []
for_step term.Name = Some (After Target ∷ Want term.Close ∷ [])
for_step term.Open = Some (Operand Whole ∷ Want term.Close ∷ After Target ∷ Want term.Close ∷ [])
for_step x = followed (simple x) (Want term.Close ∷ [])

abbrev pub file : Term → Row
file term.Typedef = Some (Want term.Struct ∷ Typedef ∷ File ∷ [])
file term.Struct = Some (Want term.Name ∷ Tagged ∷ File ∷ [])
file term.Void = Some (Want term.Name ∷ Want term.Open ∷ Parameters ∷ AfterHead ∷ File ∷ [])
file x = based (Outer ∷ File ∷ []) x

abbrev pub typedef_named : Term → Row
typedef_named term.Name = Some (Want term.Semicolon ∷ [])
typedef_named term.OpenBrace = Some (Field ∷ MoreFields ∷ Want term.Name ∷ Want term.Semicolon ∷ [])
typedef_named _ = None

abbrev pub typedef : Term → Row
typedef term.Name = Some (TypedefNamed ∷ [])
typedef term.OpenBrace = Some (Field ∷ MoreFields ∷ Want term.Name ∷ Want term.Semicolon ∷ [])
typedef _ = None

abbrev pub tagged : Term → Row
tagged term.Semicolon = Some []
tagged term.OpenBrace = Some (Field ∷ MoreFields ∷ Want term.Semicolon ∷ [])
tagged x = starred (AfterOuter ∷ []) x

abbrev pub field : Term → Row
field x = based (StarredName ∷ MoreNames ∷ []) x

abbrev pub more_fields : Term → Row
more_fields term.CloseBrace = Some []
more_fields x = followed (field x) (MoreFields ∷ [])

abbrev pub more_names : Term → Row
more_names term.Comma = Some (StarredName ∷ MoreNames ∷ [])
more_names term.Semicolon = Some []
more_names _ = None

abbrev pub more_globals : Term → Row
more_globals term.Comma = Some (Global ∷ [])
more_globals term.Semicolon = Some []
more_globals _ = None

abbrev pub after_global : Term → Row
after_global term.Put = Some (Const ∷ MoreGlobals ∷ [])
after_global x = more_globals x

abbrev pub after_outer : Term → Row
after_outer term.Open = Some (Parameters ∷ AfterHead ∷ [])
after_outer x = after_global x

abbrev pub const : Term → Row
const term.Minus = Some (Want term.Number ∷ [])
const term.Number = Some []
const term.Null = Some []
const term.Eof = Some []
const _ = None

abbrev pub parameters : Term → Row
parameters term.Close = Some []
parameters term.Void = Some (Want term.Close ∷ [])
parameters x = based (AfterBase ∷ []) x

abbrev pub more_parameters : Term → Row
more_parameters term.Comma = Some (Parameter ∷ [])
more_parameters term.Close = Some []
more_parameters _ = None

abbrev pub after_star : Term → Row
after_star term.Name = Some (MoreParameters ∷ [])
after_star x = more_parameters x

abbrev pub after_base : Term → Row
after_base term.Star = Some (AfterStar ∷ [])
after_base x = after_star x

abbrev pub after_head : Term → Row
after_head term.Semicolon = Some []
after_head term.OpenBrace = Some (Pieces ∷ [])
after_head _ = None

abbrev pub wanted : Bool → Row
wanted true = Some []
wanted false = None

-- what replaces a symbol behind a token of this term
unfoldable pub takes : Symbol → Term → Row
takes (Want x) y = wanted (same x y)
takes (Operand p) x = operand p x
takes (After p) x = after p x
takes Right x = right x
takes Named x = named x
takes (Opened p) x = opened p x
takes (OpenedName p) x = opened_name p x
takes (OpenedStar p) x = opened_star p x
takes Arguments x = arguments x
takes MoreArguments x = more_arguments x
takes Size x = size x
takes NextFactor x = next_factor x
takes UnitSymbol x = unit x
takes UnitWithin x = unit_within x
takes AfterUnit x = after_unit x
takes Local x = starred (AfterLocal ∷ []) x
takes AfterLocal x = after_local x
takes MoreLocals x = more_locals x
takes Piece x = piece x
takes Begun x = begun x
takes Pieces x = pieces x
takes Otherwise x = otherwise x
takes Returned x = returned x
takes ForStart x = for_start x
takes ForBegun x = for_begun x
takes ForTest x = for_test x
takes ForStep x = for_step x
takes File x = file x
takes Typedef x = typedef x
takes TypedefNamed x = typedef_named x
takes Tagged x = tagged x
takes Field x = field x
takes MoreFields x = more_fields x
takes StarredName x = starred [] x
takes MoreNames x = more_names x
takes Outer x = starred (AfterOuter ∷ []) x
takes AfterOuter x = after_outer x
takes Global x = starred (AfterGlobal ∷ []) x
takes AfterGlobal x = after_global x
takes MoreGlobals x = more_globals x
takes Const x = const x
takes Parameters x = parameters x
takes Parameter x = based (AfterBase ∷ []) x
takes AfterBase x = after_base x
takes AfterStar x = after_star x
takes MoreParameters x = more_parameters x
takes AfterHead x = after_head x

-- a symbol that nothing may stand for
unfoldable pub may_end : Symbol → Bool
may_end (After Whole) = true
may_end (After Factor) = true
may_end Named = true
may_end AfterUnit = true
may_end Otherwise = true
may_end File = true
may_end _ = false

-- the stack behind a token: the row of the first symbol, or what the symbols below make of the token where that may end
abbrev pub moved : Row → Bool → List Symbol → Option (List Symbol) → Option (List Symbol)
moved (Some front) ends stack below = Some (front ++ stack)
moved None true stack below = below
moved None false stack below = None

unfoldable pub advance : List Symbol → Term → Option (List Symbol)
advance [] x = None
advance (s ∷ stack) x = moved (takes s x) (may_end s) stack (advance stack x)

-- the tokens from the first one on that can't come next, if there is one
abbrev pub stopped : List Token → (List Symbol → Option (List Token)) → Option (List Symbol) → Option (List Token)
stopped ts goes_on None = Some ts
stopped ts goes_on (Some stack) = goes_on stack

abbrev pub stop : List Token → List Symbol → Option (List Token)
stop [] stack = None
stop (t ∷ ts) stack = stopped (t ∷ ts) (stop ts) (advance stack (term_of t))

-- the place of the first of these tokens, or the end
abbrev pub place_in : ℕ → Option (List Token) → ℕ
place_in size None = size
place_in size (Some []) = size
place_in size (Some (t ∷ ts)) = t.start

-- where the recogniser stops in these tokens
abbrev pub place_of : Tokens → ℕ
place_of tokens = place_in tokens.size (stop tokens.list (File ∷ []))
