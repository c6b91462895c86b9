-- What a printf writes, piece by piece.
use Rattle.std.proofs.Common.{◌≡◌, ◌≢◌, ℕ, ℤ, pos, true, false, ◌+◌, ◌<◌, ◌≤◌, Bool, List, [], ◌∷◌, ◌++◌, length, get_or, drop, Result, Ok, Err, ap, sym, ◌∙◌}
use Rattle.std.specs.Prelude.{if◌then◌else◌}
use Rattle.std.proofs.lemmas.Bool.{ne_eqb}
use Rattle.std.proofs.lemmas.List.{drop_all}
use Rattle.c_meaning.specs.declared.value.Value.{Value}
use Rattle.c_meaning.specs.declared.machine.Stop.{Stop}
use Rattle.c_meaning.specs.declared.machine.Stop.TheVariants.{Excluded}
use Rattle.c_meaning.specs.Eval.{◌>>=◌, int_of}
use Rattle.c_meaning.specs.Effects.{ints_of, printed, converted}
use Rattle.c_replay.specs.Lists.{behind}
use Rattle.c_replay.specs.Changes.{goes_on}
use Rattle.c_replay.proofs.Gathered.{any_default, behind_one, drop_at}

-- numbers

number_first : (ns : List ℤ) (v : Value) (vs : List Value) (n : ℤ) → int_of v ≡ Ok n → behind ns (ints_of (v ∷ vs)) ≡ behind (ns ++ n ∷ []) (ints_of vs)
number_first ns v vs n is =
    ap (λ (r : Result ℤ Stop). behind ns (r >>= λ m. ints_of vs >>= λ ms. Ok (m ∷ ms))) is
    ∙ sym (behind_one ns n (ints_of vs))

pub number_at_place : (ns : List ℤ) (vs : List Value) (i : ℕ) (v : Value) (n : ℤ) → i < length vs → v ≡ get_or vs i v → int_of v ≡ Ok n →
    behind (ns ++ n ∷ []) (ints_of (drop (i + 1) vs)) ≡ behind ns (ints_of (drop i vs))
number_at_place ns vs i v n below here is =
    sym (ap (λ (ws : List Value). behind ns (ints_of ws)) (drop_at vs i v below here) ∙ number_first ns v (drop (i + 1) vs) n is)

pub none_at_place : (ns : List ℤ) (vs : List Value) (i : ℕ) (v : Value) (e : Stop) → i < length vs → v ≡ get_or vs i v → int_of v ≡ Err e →
    behind ns (ints_of (drop i vs)) ≡ Err e
none_at_place ns vs i v e below here is =
    ap (λ (ws : List Value). behind ns (ints_of ws)) (drop_at vs i v below here)
    ∙ ap (λ (r : Result ℤ Stop). behind ns (r >>= λ m. ints_of (drop (i + 1) vs) >>= λ ms. Ok (m ∷ ms))) is

-- bytes that stand for themselves

byte_next : (bs text : List ℕ) (ns : List ℤ) (c : ℕ) → c ≢ 37 → behind (bs ++ c ∷ []) (printed text ns) ≡ behind bs (printed (c ∷ text) ns)
byte_next bs text ns c no_percent =
    behind_one bs c (printed text ns)
    ∙ sym (ap (λ (b : Bool). behind bs (if b then converted text ns else (printed text ns >>= λ bytes. Ok (c ∷ bytes)))) (ne_eqb c 37 no_percent))

-- the next byte of the text, at a place

byte_at : (text : List ℕ) (i : ℕ) → i < length text → drop i text ≡ get_or text i 0 ∷ drop (i + 1) text
byte_at text i below = drop_at text i (get_or text i 0) below (any_default text i 0 (get_or text i 0) below)

pub converted_at : (bs new text : List ℕ) (ns now : List ℤ) (i : ℕ) → i < length text →
    behind new (printed (drop (i + 1) text) now) ≡ behind bs (converted (get_or text i 0 ∷ drop (i + 1) text) ns) →
    behind new (goes_on false (drop (i + 1) text) now) ≡ behind bs (goes_on true (drop i text) ns)
converted_at bs new text ns now i below given = given ∙ sym (ap (λ (t : List ℕ). behind bs (converted t ns)) (byte_at text i below))

pub percent_at : (bs text : List ℕ) (ns : List ℤ) (i : ℕ) → i < length text → get_or text i 0 ≡ 37 →
    behind bs (goes_on true (drop (i + 1) text) ns) ≡ behind bs (goes_on false (drop i text) ns)
percent_at bs text ns i below percent =
    sym (ap (λ (t : List ℕ). behind bs (printed t ns)) (byte_at text i below ∙ ap (λ (c : ℕ). c ∷ drop (i + 1) text) percent))

pub byte_stands : (bs text : List ℕ) (ns : List ℤ) (i : ℕ) → i < length text → get_or text i 0 ≢ 37 →
    behind (bs ++ get_or text i 0 ∷ []) (goes_on false (drop (i + 1) text) ns) ≡ behind bs (goes_on false (drop i text) ns)
byte_stands bs text ns i below other =
    byte_next bs (drop (i + 1) text) ns (get_or text i 0) other
    ∙ sym (ap (λ (t : List ℕ). behind bs (printed t ns)) (byte_at text i below))

-- the end of the text

pub ends_in_percent : (bs text : List ℕ) (ns : List ℤ) (i : ℕ) → length text ≤ i → behind bs (goes_on true (drop i text) ns) ≡ Err Excluded
ends_in_percent bs text ns i past = ap (λ (t : List ℕ). behind bs (converted t ns)) (drop_all i text past)

pub ends_early : (bs text : List ℕ) (ns : List ℤ) (i u : ℕ) → length text ≤ i → u < length ns → behind bs (goes_on false (drop i text) (drop u ns)) ≡ Err Excluded
ends_early bs text ns i u past below =
    ap (λ (t : List ℕ). behind bs (printed t (drop u ns))) (drop_all i text past)
    ∙ ap (λ (ms : List ℤ). behind bs (printed [] ms)) (drop_at ns u (get_or ns u (pos 0)) below (any_default ns u (pos 0) (get_or ns u (pos 0)) below))
