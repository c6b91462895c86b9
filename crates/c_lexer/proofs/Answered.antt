-- What an answer says of the text.
use Rattle.std.proofs.Common.{◌≡◌, ℕ, List, Option, Some, None, Result, Ok, Err, IfOk, false, length, sym, refl, ap, subst}
use Rattle.c_lexer.specs.declared.token.Token.{Token}
use Rattle.c_lexer.specs.declared.token.Tokens.{Tokens}
use Rattle.c_lexer.specs.declared.element.Fault.{Fault}
use Rattle.c_lexer.specs.declared.reading.Reading.{Reading}
use Rattle.c_lexer.specs.declared.refusal.LexRefusal.{LexRefusal}
use Rattle.c_lexer.specs.Scan.{IsReading}
use Rattle.c_lexer.specs.Nest.{at_first, first_deep}
use Rattle.c_lexer.specs.Outcome.{first_refused, unless_deep, unless_refused, unless_fault, AreTokens, IsAnswer}

reading_is : (r : Reading) (tokens : List Token) (c : Option (ℕ × ℕ)) → r.tokens ≡ tokens → r.last_comment ≡ c → r.fault ≡ None → let x : Reading = record { tokens = tokens; last_comment = c; fault = None } in r ≡ x
reading_is r tokens c p q f = λ i. record { tokens = p i; last_comment = q i; fault = f i }

pub tokens_answered : (bytes : List ℕ) (tokens : Tokens) → IsAnswer bytes (Ok tokens) → AreTokens bytes tokens
tokens_answered bytes tokens answer = by_fault answer.reading.fault refl answer.is
  where
    whole : (deep : Option ℕ) → first_deep false at_first answer.reading.tokens ≡ deep → first_refused answer.reading.tokens ≡ None → answer.reading.fault ≡ None → unless_deep (length bytes) answer.reading deep ≡ Ok tokens → AreTokens bytes tokens
    whole (Some at) none_deep none_refused clear is = cc
    whole None none_deep none_refused clear is =
        let same : (let t : Tokens = record { list = answer.reading.tokens; last_comment = answer.reading.last_comment; size = length bytes } in t) ≡ tokens = cc in
        let list : answer.reading.tokens ≡ tokens.list = ap (λ t. t.list) same in
        let comment : answer.reading.last_comment ≡ tokens.last_comment = ap (λ t. t.last_comment) same in
        let reading = reading_is answer.reading tokens.list tokens.last_comment list comment clear in
        record {
          reads = subst (IsReading bytes) reading answer.reads;
          size = sym (ap (λ t. t.size) same);
          none_refused = subst (λ ts. first_refused ts ≡ None) list none_refused;
          none_deep = subst (λ ts. first_deep false at_first ts ≡ None) list none_deep;
        }

    by_refused : (found : Option (ℕ × ℕ)) → first_refused answer.reading.tokens ≡ found → answer.reading.fault ≡ None → unless_refused (length bytes) answer.reading found ≡ Ok tokens → AreTokens bytes tokens
    by_refused (Some found) same clear is = cc
    by_refused None same clear is = whole (first_deep false at_first answer.reading.tokens) refl same clear is

    by_fault : (found : Option (Fault × ℕ)) → answer.reading.fault ≡ found → unless_fault (length bytes) answer.reading found ≡ Ok tokens → AreTokens bytes tokens
    by_fault (Some found) same is = cc
    by_fault None same is = by_refused (first_refused answer.reading.tokens) refl same is

pub ok_answered : (bytes : List ℕ) (answer : Result Tokens LexRefusal) → IsAnswer bytes answer → IfOk answer (AreTokens bytes)
ok_answered bytes (Ok tokens) answered = tokens_answered bytes tokens answered
ok_answered bytes (Err refusal) answered = tt
