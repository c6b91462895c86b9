-- The measure of nesting, kept over the tokens from left to right.
use Rattle.std.specs.Prelude.{ℕ, ◌+◌, ◌-◌, Bool, true, false, ◌&&◌, ◌||◌, not, ◌==◌, nat_lt, List, [], ◌∷◌, ◌++◌, Option, Some, None, if◌then◌else◌, length, sum, take, slice_index, codes}
use Rattle.c_lexer.specs.declared.token.Token.{Token}
use Rattle.c_lexer.specs.declared.token.Kind.{Kind}
use Rattle.c_lexer.specs.declared.token.Kind.TheVariants as kind
use Rattle.c_lexer.specs.declared.role.Role.{Role}
use Rattle.c_lexer.specs.declared.role.Role.TheVariants as role
use Rattle.c_lexer.specs.Words.{key_word, punctuator}

-- The list of counts is the outer ones and the last one. Besides there are the unclosed round and square brackets, and
-- the parts of an expression.
pub record Nesting : Type 0 where
  pub outer : List ℕ
  pub last : ℕ
  pub brackets : ℕ
  pub parts : ℕ

abbrev pub at_first : Nesting
at_first = record { outer = []; last = 0; brackets = 0; parts = 0 }

-- the length of the list less 1, the sum of the counts, and the parts
abbrev pub nest : Nesting → ℕ
nest n = length n.outer + (sum n.outer + n.last) + n.parts

abbrev pub is_at : Option ℕ → ℕ → Bool
is_at None number = false
is_at (Some place) number = number == place

-- the punctuator, or the key word, of this number is this one
abbrev pub punctuates : ℕ → List ℕ → Bool
punctuates number text = is_at (punctuator text) number

abbrev pub is_key : ℕ → List ℕ → Bool
is_key number text = is_at (key_word text) number

-- the token is this key word; the next one is
abbrev pub is_word : Kind → List ℕ → Bool
is_word (kind.Key number) text = is_key number text
is_word kind text = false

abbrev pub next_is : List Token → List ℕ → Bool
next_is [] text = false
next_is (token ∷ rest) text = is_word token.kind text

abbrev pub punctuator_role : ℕ → Role
punctuator_role number =
    if punctuates number (codes "{") then role.Opens
    else (if punctuates number (codes "}") then role.Closes
    else (if punctuates number (codes ";") then role.Ends
    else (if punctuates number (codes "(") || punctuates number (codes "[") then role.Bracket
    else (if punctuates number (codes ")") || punctuates number (codes "]") then role.CloseBracket
    else (if punctuates number (codes ",") then role.Nothing
    else role.Part)))))

-- `while`, `for`, an `if` not directly behind `else`, an `else` not directly before `if`
abbrev pub key_role : Bool → ℕ → Bool → Role
key_role after_else number before_if =
    if is_key number (codes "while") || is_key number (codes "for") || (is_key number (codes "if") && not after_else) || (is_key number (codes "else") && not before_if)
    then role.Counts
    else role.Nothing

abbrev pub role_of : Bool → Kind → List Token → Role
role_of after_else (kind.Punct number) rest = punctuator_role number
role_of after_else (kind.Key number) rest = key_role after_else number (next_is rest (codes "if"))
role_of after_else kind rest = role.Nothing

-- the last count is taken off, unless it is the only one
abbrev pub without_last : Nesting → Nesting
without_last n =
    if length n.outer == 0 then n
    else record n { outer = take (length n.outer - 1) n.outer; last = slice_index n.outer (length n.outer - 1) }

-- the last count becomes 0, or stays
abbrev pub with_last : Bool → Nesting → Nesting
with_last true n = n
with_last false n = record n { last = 0 }

-- behind a token of that role; the last count stays, or not, directly before `else`
abbrev pub nesting_after : Role → Bool → Nesting → Nesting
nesting_after role.Opens before_else n = record { outer = n.outer ++ n.last ∷ []; last = 0; brackets = 0; parts = 0 }
nesting_after role.Closes before_else n = with_last before_else (record (without_last n) { brackets = 0; parts = 0 })
nesting_after role.Ends before_else n = with_last (before_else || not (n.brackets == 0)) (record n { parts = 0 })
nesting_after role.Counts before_else n = record n { last = n.last + 1 }
nesting_after role.Bracket before_else n = record n { brackets = n.brackets + 1; parts = n.parts + 1 }
nesting_after role.CloseBracket before_else n = record n { brackets = n.brackets - 1 }
nesting_after role.Part before_else n = record n { parts = n.parts + 1 }
nesting_after role.Nothing before_else n = n

-- behind a token, which stands directly behind `else` or not, and before the rest
abbrev pub behind : Bool → Token → List Token → Nesting → Nesting
behind after_else token rest n = nesting_after (role_of after_else token.kind rest) (next_is rest (codes "else")) n

-- the greatest nest
abbrev pub deepest : ℕ
deepest = 256

-- the start of the first token whose nest is above the greatest
abbrev pub first_deep : Bool → Nesting → List Token → Option ℕ
first_deep after_else n [] = None
first_deep after_else n (token ∷ rest) =
    if nat_lt deepest (nest (behind after_else token rest n)) then Some token.start
    else first_deep (is_word token.kind (codes "else")) (behind after_else token rest n) rest
