-- A generated list begins with tokens in which the recogniser doesn't stop.
use Rattle.std.proofs.Common.{◌≡◌, Bool, true, false, List, [], ◌∷◌, ◌++◌, Option, Some, None, refl, ap, subst, sym, ◌∙◌, if◌then◌else◌, pos}
use Rattle.std.proofs.lemmas.Option.{same_Some}
use Rattle.c_lexer.specs.declared.token.Token.{Token}
use Rattle.c_lexer.specs.declared.token.Kind.{Kind}
use Rattle.c_lexer.specs.declared.token.Kind.TheVariants as kind
use Rattle.c_tree.specs.declared.tree.Top.{Top}
use Rattle.c_parser.specs.Answer.{Begins}
use Rattle.c_parser.specs.Blocks.{IsElse}
use Rattle.c_parser.specs.Grammar.{IsFile}
use Rattle.c_parser.specs.Recogniser.{Row, advance, may_end, moved, stop, stopped, takes, wanted}
use Rattle.c_parser.specs.Term.{same, term_of}
use Rattle.c_parser.specs.declared.symbol.Part.{Part}
use Rattle.c_parser.specs.declared.symbol.Part.TheVariants.{Whole, Factor, Count, Target, Pointed}
use Rattle.c_parser.specs.declared.symbol.Symbol.{Symbol}
use Rattle.c_parser.specs.declared.symbol.Symbol.TheVariants as symbol
use Rattle.c_parser.specs.declared.term.Term.{Term}
use Rattle.c_parser.specs.declared.term.Term.TheVariants as term
use Rattle.c_parser.proofs.Terms.{same_is, same_self}
use Rattle.c_parser.proofs.ViableSymbols.{ANamed, AToken, AnAfter, AnAfterUnit, AnElse, ATop, Nothing, OfRow, OfStack, OfSymbol, Operands, Parted, SomeTops, part}
use Rattle.c_parser.proofs.ViableExpressions.{after_sound, no_posts, operand_sound}
use Rattle.c_parser.proofs.ViableStatements.{after_local_sound, after_unit_sound, arguments_sound, local_sound, more_arguments_sound, more_locals_sound, named_sound, next_factor_sound, opened_name_sound, opened_sound, opened_star_sound, right_sound, size_sound, unit_sound, unit_within_sound}
use Rattle.c_parser.proofs.ViableBlocks.{begun_sound, for_begun_sound, for_start_sound, for_step_sound, for_test_sound, otherwise_sound, piece_sound, pieces_sound, returned_sound}
use Rattle.c_parser.proofs.ViableFile.{after_base_sound, after_global_sound, after_head_sound, after_outer_sound, after_star_sound, const_sound, field_sound, file_sound, global_sound, more_fields_sound, more_globals_sound, more_names_sound, more_parameters_sound, outer_sound, parameter_sound, parameters_sound, starred_name_sound, tagged_sound, typedef_named_sound, typedef_sound}

wanted_by : (x : Term) (t : Token) (b : Bool) → same x (term_of t) ≡ b → {ts us : List Token} → OfRow (wanted b) ts us → AToken x (t ∷ ts) us
wanted_by x t true is OfStack.done = AToken.token (sym (same_is x (term_of t) is))
wanted_by x t false is d = absurd d

-- A token and what replaces a symbol behind it is what the symbol stands for.
takes_sound : (s : Symbol) (t : Token) (ts us : List Token) → OfRow (takes s (term_of t)) ts us → OfSymbol s (t ∷ ts) us
unfolding takes
takes_sound (symbol.Want x) t ts us d = wanted_by x t (same x (term_of t)) refl d
takes_sound (symbol.Operand p) t ts us d = operand_sound p (term_of t) t refl d
takes_sound (symbol.After p) t ts us d = after_sound p (term_of t) t refl d
takes_sound symbol.Right t ts us d = right_sound (term_of t) t refl d
takes_sound symbol.Named t ts us d = named_sound (term_of t) t refl d
takes_sound (symbol.Opened p) t ts us d = opened_sound p (term_of t) t refl d
takes_sound (symbol.OpenedName p) t ts us d = opened_name_sound p (term_of t) t refl d
takes_sound (symbol.OpenedStar p) t ts us d = opened_star_sound p (term_of t) t refl d
takes_sound symbol.Arguments t ts us d = arguments_sound (term_of t) t refl d
takes_sound symbol.MoreArguments t ts us d = more_arguments_sound (term_of t) t refl d
takes_sound symbol.Size t ts us d = size_sound (term_of t) t refl d
takes_sound symbol.NextFactor t ts us d = next_factor_sound (term_of t) t refl d
takes_sound symbol.Unit t ts us d = unit_sound (term_of t) t refl d
takes_sound symbol.UnitWithin t ts us d = unit_within_sound (term_of t) t refl d
takes_sound symbol.AfterUnit t ts us d = after_unit_sound (term_of t) t refl d
takes_sound symbol.Local t ts us d = local_sound (term_of t) t refl d
takes_sound symbol.AfterLocal t ts us d = after_local_sound (term_of t) t refl d
takes_sound symbol.MoreLocals t ts us d = more_locals_sound (term_of t) t refl d
takes_sound symbol.Piece t ts us d = piece_sound (term_of t) t refl d
takes_sound symbol.Begun t ts us d = begun_sound (term_of t) t refl d
takes_sound symbol.Pieces t ts us d = pieces_sound (term_of t) t refl d
takes_sound symbol.Otherwise t ts us d = otherwise_sound (term_of t) t refl d
takes_sound symbol.Returned t ts us d = returned_sound (term_of t) t refl d
takes_sound symbol.ForStart t ts us d = for_start_sound (term_of t) t refl d
takes_sound symbol.ForBegun t ts us d = for_begun_sound (term_of t) t refl d
takes_sound symbol.ForTest t ts us d = for_test_sound (term_of t) t refl d
takes_sound symbol.ForStep t ts us d = for_step_sound (term_of t) t refl d
takes_sound symbol.File t ts us d = file_sound (term_of t) t refl d
takes_sound symbol.Typedef t ts us d = typedef_sound (term_of t) t refl d
takes_sound symbol.TypedefNamed t ts us d = typedef_named_sound (term_of t) t refl d
takes_sound symbol.Tagged t ts us d = tagged_sound (term_of t) t refl d
takes_sound symbol.Field t ts us d = field_sound (term_of t) t refl d
takes_sound symbol.MoreFields t ts us d = more_fields_sound (term_of t) t refl d
takes_sound symbol.StarredName t ts us d = starred_name_sound (term_of t) t refl d
takes_sound symbol.MoreNames t ts us d = more_names_sound (term_of t) t refl d
takes_sound symbol.Outer t ts us d = outer_sound (term_of t) t refl d
takes_sound symbol.AfterOuter t ts us d = after_outer_sound (term_of t) t refl d
takes_sound symbol.Global t ts us d = global_sound (term_of t) t refl d
takes_sound symbol.AfterGlobal t ts us d = after_global_sound (term_of t) t refl d
takes_sound symbol.MoreGlobals t ts us d = more_globals_sound (term_of t) t refl d
takes_sound symbol.Const t ts us d = const_sound (term_of t) t refl d
takes_sound symbol.Parameters t ts us d = parameters_sound (term_of t) t refl d
takes_sound symbol.Parameter t ts us d = parameter_sound (term_of t) t refl d
takes_sound symbol.AfterBase t ts us d = after_base_sound (term_of t) t refl d
takes_sound symbol.AfterStar t ts us d = after_star_sound (term_of t) t refl d
takes_sound symbol.MoreParameters t ts us d = more_parameters_sound (term_of t) t refl d
takes_sound symbol.AfterHead t ts us d = after_head_sound (term_of t) t refl d

-- symbols that may end

not_else : (x : Term) → takes symbol.Otherwise x ≡ None → same term.Else x ≡ false
unfolding takes same
not_else term.Else is = absurd (cc)
not_else _ is = refl

-- A symbol that may end where a token isn't taken stands for no token.
ends_sound : (s : Symbol) (t : Token) (ts : List Token) → may_end s ≡ true → takes s (term_of t) ≡ None → OfSymbol s (t ∷ ts) (t ∷ ts)
unfolding may_end
ends_sound (symbol.After Whole) t ts ends none = AnAfter.after no_posts Operands.none
ends_sound (symbol.After Factor) t ts ends none = AnAfter.after no_posts Nothing.nothing
ends_sound symbol.Named t ts ends none = ANamed.plain (AnAfter.after no_posts Operands.none)
ends_sound symbol.AfterUnit t ts ends none = AnAfterUnit.none
ends_sound symbol.Otherwise t ts ends none = λ before. AnElse.arms (IsElse.none (not_else (term_of t) none))
ends_sound symbol.File t ts ends none = SomeTops.done
ends_sound _ t ts ends none = absurd (cc)

taken : {row : Row} {front : List Symbol} {ts us : List Token} → row ≡ Some front → OfStack front ts us → OfRow row ts us
taken {ts = ts} {us = us} is d = subst (λ r. OfRow r ts us) (sym is) d

row_sound : (s : Symbol) (t : Token) {front stack : List Symbol} {ts us : List Token} → takes s (term_of t) ≡ Some front → Parted front stack ts us
    → OfStack (s ∷ stack) (t ∷ ts) us
row_sound s t {ts = ts} row (Parted.parted {us = vs} d q) = OfStack.then (takes_sound s t ts vs (taken row d)) q

moved_sound : (s : Symbol) (stack new : List Symbol) (t : Token) (ts us : List Token) → OfStack new ts us
    → (advance stack (term_of t) ≡ Some new → OfStack stack (t ∷ ts) us)
    → (row : Row) → takes s (term_of t) ≡ row → (ends : Bool) → may_end s ≡ ends → moved row ends stack (advance stack (term_of t)) ≡ Some new → OfStack (s ∷ stack) (t ∷ ts) us
moved_sound s stack new t ts us d below (Some front) row ends may is = row_sound s t row (part front stack (subst (λ l. OfStack l ts us) (sym (same_Some (front ++ stack) new is)) d))
moved_sound s stack new t ts us d below None row true may is = OfStack.then (ends_sound s t ts may row) (below is)
moved_sound s stack new t ts us d below None row false may is = absurd (cc)

-- A token and the stack behind it is the stack before it.
advance_sound : (stack new : List Symbol) (t : Token) (ts us : List Token) → advance stack (term_of t) ≡ Some new → OfStack new ts us → OfStack stack (t ∷ ts) us
unfolding advance
advance_sound [] new t ts us is d = absurd (cc)
advance_sound (s ∷ stack) new t ts us is d =
    moved_sound s stack new t ts us d (λ below. advance_sound stack new t ts us below d) (takes s (term_of t)) refl (may_end s) refl is

-- a token of each term

abbrev kind_of : Term → Kind
kind_of term.Name = kind.Name []
kind_of term.Number = kind.Number (pos 0)
kind_of term.Text = kind.Text []
kind_of term.Other = kind.Refused 0
kind_of term.Eof = kind.Key 0
kind_of term.Null = kind.Key 1
kind_of term.Break = kind.Key 2
kind_of term.Continue = kind.Key 3
kind_of term.Else = kind.Key 4
kind_of term.For = kind.Key 5
kind_of term.Free = kind.Key 6
kind_of term.Getchar = kind.Key 7
kind_of term.If = kind.Key 8
kind_of term.Int = kind.Key 9
kind_of term.Malloc = kind.Key 10
kind_of term.Printf = kind.Key 11
kind_of term.Putchar = kind.Key 12
kind_of term.Return = kind.Key 13
kind_of term.Sizeof = kind.Key 14
kind_of term.Struct = kind.Key 15
kind_of term.Typedef = kind.Key 16
kind_of term.Void = kind.Key 17
kind_of term.While = kind.Key 18
kind_of term.Not = kind.Punct 0
kind_of term.Differs = kind.Punct 1
kind_of term.Percent = kind.Punct 2
kind_of term.AndAnd = kind.Punct 3
kind_of term.Open = kind.Punct 4
kind_of term.Close = kind.Punct 5
kind_of term.Star = kind.Punct 6
kind_of term.StarPut = kind.Punct 7
kind_of term.Plus = kind.Punct 8
kind_of term.PlusPlus = kind.Punct 9
kind_of term.PlusPut = kind.Punct 10
kind_of term.Comma = kind.Punct 11
kind_of term.Minus = kind.Punct 12
kind_of term.MinusMinus = kind.Punct 13
kind_of term.MinusPut = kind.Punct 14
kind_of term.Arrow = kind.Punct 15
kind_of term.Slash = kind.Punct 16
kind_of term.Semicolon = kind.Punct 17
kind_of term.Less = kind.Punct 18
kind_of term.AtMost = kind.Punct 19
kind_of term.Put = kind.Punct 20
kind_of term.Equals = kind.Punct 21
kind_of term.Greater = kind.Punct 22
kind_of term.AtLeast = kind.Punct 23
kind_of term.OpenIndex = kind.Punct 24
kind_of term.CloseIndex = kind.Punct 25
kind_of term.OpenBrace = kind.Punct 26
kind_of term.OrOr = kind.Punct 27
kind_of term.CloseBrace = kind.Punct 28

abbrev token_of : Term → Token
token_of x = record { kind = kind_of x; start = 0; end = 0 }

token_term : (x : Term) → term_of (token_of x) ≡ x
unfolding term_of
token_term term.Name = refl
token_term _ = refl

-- the terms of a sample of each symbol

abbrev sample_operand : Part → List Term
sample_operand Whole = term.Null ∷ []
sample_operand Factor = term.Null ∷ []
sample_operand Count = term.Null ∷ term.Star ∷ term.Sizeof ∷ term.Star ∷ term.Name ∷ []
sample_operand Target = term.Null ∷ term.PlusPlus ∷ []
sample_operand Pointed = term.Null ∷ term.PlusPut ∷ term.Null ∷ []

abbrev sample_after : Part → List Term
sample_after Whole = []
sample_after Factor = []
sample_after Count = term.Star ∷ term.Sizeof ∷ term.Star ∷ term.Name ∷ []
sample_after Target = term.PlusPlus ∷ []
sample_after Pointed = term.PlusPut ∷ term.Null ∷ []

abbrev sample : Symbol → List Term
sample (symbol.Want x) = x ∷ []
sample (symbol.Operand p) = sample_operand p
sample (symbol.After p) = sample_after p
sample (symbol.Opened p) = term.Null ∷ term.Close ∷ sample_after p
sample (symbol.OpenedName p) = term.Close ∷ sample_after p
sample (symbol.OpenedStar p) = term.Null ∷ term.Close ∷ sample_after p
sample symbol.Right = term.Null ∷ []
sample symbol.Named = []
sample symbol.Arguments = term.Close ∷ []
sample symbol.MoreArguments = term.Close ∷ []
sample symbol.Size = term.Sizeof ∷ term.Star ∷ term.Name ∷ []
sample symbol.NextFactor = term.Sizeof ∷ term.Star ∷ term.Name ∷ []
sample symbol.Unit = term.Star ∷ term.Name ∷ []
sample symbol.UnitWithin = term.Int ∷ term.Close ∷ []
sample symbol.AfterUnit = []
sample symbol.Local = term.Name ∷ term.Semicolon ∷ []
sample symbol.AfterLocal = term.Semicolon ∷ []
sample symbol.MoreLocals = term.Semicolon ∷ []
sample symbol.Piece = term.Semicolon ∷ []
sample symbol.Begun = term.PlusPlus ∷ term.Semicolon ∷ []
sample symbol.Pieces = term.CloseBrace ∷ []
sample symbol.Otherwise = term.Else ∷ term.Semicolon ∷ []
sample symbol.Returned = term.Semicolon ∷ []
sample symbol.ForStart = term.Semicolon ∷ []
sample symbol.ForBegun = term.PlusPlus ∷ term.Semicolon ∷ []
sample symbol.ForTest = term.Semicolon ∷ []
sample symbol.ForStep = term.Close ∷ []
sample symbol.File = []
sample symbol.Typedef = term.Name ∷ term.Name ∷ term.Semicolon ∷ []
sample symbol.TypedefNamed = term.Name ∷ term.Semicolon ∷ []
sample symbol.Tagged = term.Semicolon ∷ []
sample symbol.Field = term.Int ∷ term.Name ∷ term.Semicolon ∷ []
sample symbol.MoreFields = term.CloseBrace ∷ []
sample symbol.StarredName = term.Name ∷ []
sample symbol.MoreNames = term.Semicolon ∷ []
sample symbol.Outer = term.Name ∷ term.Semicolon ∷ []
sample symbol.AfterOuter = term.Semicolon ∷ []
sample symbol.Global = term.Name ∷ term.Semicolon ∷ []
sample symbol.AfterGlobal = term.Semicolon ∷ []
sample symbol.MoreGlobals = term.Semicolon ∷ []
sample symbol.Const = term.Null ∷ []
sample symbol.Parameters = term.Close ∷ []
sample symbol.Parameter = term.Int ∷ term.Close ∷ []
sample symbol.AfterBase = term.Close ∷ []
sample symbol.AfterStar = term.Close ∷ []
sample symbol.MoreParameters = term.Close ∷ []
sample symbol.AfterHead = term.Semicolon ∷ []

-- a symbol that nothing may stand for, whatever comes
abbrev idle : Symbol → Bool
idle (symbol.After Whole) = true
idle (symbol.After Factor) = true
idle symbol.Named = true
idle symbol.AfterUnit = true
idle symbol.File = true
idle _ = false

abbrev all_idle : List Symbol → Bool
all_idle [] = true
all_idle (s ∷ stack) = if idle s then all_idle stack else false

abbrev completes_on : (List Symbol → Bool) → Option (List Symbol) → Bool
completes_on goes_on None = false
completes_on goes_on (Some stack) = goes_on stack

-- behind these terms nothing has to come
abbrev completes : List Term → List Symbol → Bool
completes [] stack = all_idle stack
completes (x ∷ xs) stack = completes_on (completes xs) (advance stack x)

want_completes : (x : Term) → completes (x ∷ []) (symbol.Want x ∷ []) ≡ true
unfolding takes may_end advance
want_completes x = rw (same_self x)

operand_completes : (p : Part) → completes (sample_operand p) (symbol.Operand p ∷ []) ≡ true
unfolding takes may_end advance same
operand_completes Whole = refl
operand_completes _ = refl

after_completes : (p : Part) → completes (sample_after p) (symbol.After p ∷ []) ≡ true
unfolding takes may_end advance same
after_completes Whole = refl
after_completes _ = refl

opened_completes : (p : Part) → completes (sample (symbol.Opened p)) (symbol.Opened p ∷ []) ≡ true
unfolding takes may_end advance same
opened_completes Whole = refl
opened_completes _ = refl

opened_name_completes : (p : Part) → completes (sample (symbol.OpenedName p)) (symbol.OpenedName p ∷ []) ≡ true
unfolding takes may_end advance same
opened_name_completes Whole = refl
opened_name_completes _ = refl

opened_star_completes : (p : Part) → completes (sample (symbol.OpenedStar p)) (symbol.OpenedStar p ∷ []) ≡ true
unfolding takes may_end advance same
opened_star_completes Whole = refl
opened_star_completes _ = refl

sample_completes : (s : Symbol) → completes (sample s) (s ∷ []) ≡ true
unfolding takes may_end advance same
sample_completes (symbol.Want x) = want_completes x
sample_completes (symbol.Operand p) = operand_completes p
sample_completes (symbol.After p) = after_completes p
sample_completes (symbol.Opened p) = opened_completes p
sample_completes (symbol.OpenedName p) = opened_name_completes p
sample_completes (symbol.OpenedStar p) = opened_star_completes p
sample_completes _ = refl

-- so each stack goes on

idle_sound : (s : Symbol) (ts : List Token) → idle s ≡ true → OfSymbol s ts ts
idle_sound (symbol.After Whole) ts is = AnAfter.after no_posts Operands.none
idle_sound (symbol.After Factor) ts is = AnAfter.after no_posts Nothing.nothing
idle_sound symbol.Named ts is = ANamed.plain (AnAfter.after no_posts Operands.none)
idle_sound symbol.AfterUnit ts is = AnAfterUnit.none
idle_sound symbol.File ts is = SomeTops.done
idle_sound _ ts is = absurd (cc)

idle_by : (s : Symbol) (stack : List Symbol) (ts : List Token) (b : Bool) → idle s ≡ b → (if b then all_idle stack else false) ≡ true
    → (all_idle stack ≡ true → OfStack stack ts ts) → OfStack (s ∷ stack) ts ts
idle_by s stack ts true is all below = OfStack.then (idle_sound s ts is) (below all)
idle_by s stack ts false is all below = absurd (cc)

all_idle_sound : (stack : List Symbol) (ts : List Token) → all_idle stack ≡ true → OfStack stack ts ts
all_idle_sound [] ts is = OfStack.done
all_idle_sound (s ∷ stack) ts is = idle_by s stack ts (idle s) refl is (all_idle_sound stack ts)

completes_by : (x : Term) (stack : List Symbol) (us : List Token) (goes_on : List Symbol → Bool)
    → ((new : List Symbol) → goes_on new ≡ true → (ts : List Token) × OfStack new ts us)
    → (moved : Option (List Symbol)) → advance stack x ≡ moved → completes_on goes_on moved ≡ true → (ts : List Token) × OfStack stack ts us
completes_by x stack us goes_on behind None is goes = absurd (cc)
completes_by x stack us goes_on behind (Some new) is goes =
    let rest = behind new goes in (token_of x ∷ rest.0, advance_sound stack new (token_of x) rest.0 us (ap (advance stack) (token_term x) ∙ is) rest.1)

completes_sound : (xs : List Term) (stack : List Symbol) (us : List Token) → completes xs stack ≡ true → (ts : List Token) × OfStack stack ts us
completes_sound [] stack us is = (us, all_idle_sound stack us is)
completes_sound (x ∷ xs) stack us is = completes_by x stack us (completes xs) (λ new. completes_sound xs new us) (advance stack x) refl is

before : (s : Symbol) (stack : List Symbol) {ts us vs : List Token} → OfStack (s ∷ []) ts us → OfStack stack us vs → OfStack (s ∷ stack) ts vs
before s stack (OfStack.then d OfStack.done) q = OfStack.then d q

stack_sound : (stack : List Symbol) → (ts : List Token) × OfStack stack ts []
stack_sound [] = ([], OfStack.done)
stack_sound (s ∷ stack) =
    let below = stack_sound stack in
    let first = completes_sound (sample s) (s ∷ []) below.0 (sample_completes s) in
    (first.0, before s stack first.1 below.1)

goes_by : (t : Token) (ts : List Token) (stack : List Symbol) → ((new : List Symbol) → stop ts new ≡ None → (rest : List Token) × OfStack new (ts ++ rest) [])
    → (moved : Option (List Symbol)) → advance stack (term_of t) ≡ moved → stopped (t ∷ ts) (stop ts) moved ≡ None → (rest : List Token) × OfStack stack ((t ∷ ts) ++ rest) []
goes_by t ts stack behind None is goes = absurd (cc)
goes_by t ts stack behind (Some new) is goes = let rest = behind new goes in (rest.0, advance_sound stack new t (ts ++ rest.0) [] is rest.1)

-- the tokens over which the recogniser goes, with more behind them
goes_sound : (front : List Token) (stack : List Symbol) → stop front stack ≡ None → (rest : List Token) × OfStack stack (front ++ rest) []
goes_sound [] stack goes = stack_sound stack
goes_sound (t ∷ ts) stack goes = goes_by t ts stack (λ new. goes_sound ts new) (advance stack (term_of t)) refl goes

top_file : {ts us : List Token} → ATop ts us → (tops : List Top) × IsFile tops us → (tops : List Top) × IsFile tops ts
top_file (ATop.top {x = x} d) rest = (x ∷ rest.0, IsFile.more d rest.1)

tops_file : {ts : List Token} → SomeTops ts [] → (tops : List Top) × IsFile tops ts
tops_file SomeTops.done = ([], IsFile.done)
tops_file (SomeTops.more d q) = top_file d (tops_file q)

stack_file : {ts : List Token} → OfStack (symbol.File ∷ []) ts [] → (tops : List Top) × IsFile tops ts
stack_file (OfStack.then d OfStack.done) = tops_file d

pub viable : (front : List Token) → stop front (symbol.File ∷ []) ≡ None → Begins front
viable front goes = let more = goes_sound front (symbol.File ∷ []) goes in let file = stack_file more.1 in record { tops = file.0; rest = more.0; file = file.1 }
