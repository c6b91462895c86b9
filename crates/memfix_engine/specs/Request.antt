-- What the words of a call ask for: `repair`, or `replay --steps N [--fails BITS] [--input TEXT]` in this order.
use Rattle.std.specs.Prelude.{ℕ, Bool, ◌&&◌, ◌||◌, ◌==◌, nat_le, List, [], ◌∷◌, length, map, Option, Some, None, if◌then◌else◌, String, string_bytes, bytes_eq, codes}
use Rattle.std.specs.List.{list_all}
use Rattle.std.specs.Str.Parse.{digits_value}
use Rattle.std.specs.declared.alloc.Global.{Global}
use Rattle.memfix_engine.specs.declared.request.Replay.{Replay}
use Rattle.memfix_engine.specs.declared.request.Request.{Request}
use Rattle.memfix_engine.specs.declared.request.Request.TheVariants as request

abbrev pub is_word : String Global → List ℕ → Bool
is_word word text = bytes_eq (string_bytes word) text

abbrev pub is_digit : ℕ → Bool
is_digit c = nat_le 48 c && nat_le c 57

-- one to eight decimal digits
abbrev pub is_number : List ℕ → Bool
is_number word = nat_le 1 (length word) && nat_le (length word) 8 && list_all is_digit word

abbrev pub most_steps : ℕ
most_steps = 10000000

-- a number of steps that is not too great
abbrev pub steps_of : List ℕ → Option ℕ
steps_of word = if is_number word && nat_le (digits_value 10 word) most_steps then Some (digits_value 10 word) else None

abbrev pub is_bit : ℕ → Bool
is_bit c = c == 48 || c == 49

-- one bit or more
abbrev pub bits_of : List ℕ → Option (List Bool)
bits_of word = if nat_le 1 (length word) && list_all is_bit word then Some (map (λ c. c == 49) word) else None

-- one byte or more, of which the first is no `-`
abbrev pub text_of : List ℕ → Option (List ℕ)
text_of [] = None
text_of (c ∷ cs) = if c == 45 then None else Some (c ∷ cs)

-- a replay where each of its parts is of the right form
abbrev pub replay_of : Option ℕ → Option (List Bool) → Option (List ℕ) → Option Request
replay_of (Some n) (Some fails) (Some input) = Some (request.Replay (record { steps = n; fails = fails; input = input }))
replay_of _ _ _ = None

-- with one option
abbrev pub with_option : (steps option value : String Global) → Option Request
with_option steps option value =
    if is_word option (codes "--fails") then replay_of (steps_of (string_bytes steps)) (bits_of (string_bytes value)) (Some [])
    else if is_word option (codes "--input") then replay_of (steps_of (string_bytes steps)) (Some []) (text_of (string_bytes value))
    else None

-- with both
abbrev pub with_options : (steps fails bits input text : String Global) → Option Request
with_options steps fails bits input text =
    if is_word fails (codes "--fails") && is_word input (codes "--input")
    then replay_of (steps_of (string_bytes steps)) (bits_of (string_bytes bits)) (text_of (string_bytes text)) else None

-- the words begin a replay
abbrev pub is_replay : (command flag : String Global) → Bool
is_replay command flag = is_word command (codes "replay") && is_word flag (codes "--steps")

-- what the words ask for; none where they are of no such form
abbrev pub request_of : List (String Global) → Option Request
request_of (command ∷ []) = if is_word command (codes "repair") then Some request.Repair else None
request_of (command ∷ flag ∷ steps ∷ []) = if is_replay command flag then replay_of (steps_of (string_bytes steps)) (Some []) (Some []) else None
request_of (command ∷ flag ∷ steps ∷ option ∷ value ∷ []) = if is_replay command flag then with_option steps option value else None
request_of (command ∷ flag ∷ steps ∷ fails ∷ bits ∷ input ∷ text ∷ []) = if is_replay command flag then with_options steps fails bits input text else None
request_of _ = None
