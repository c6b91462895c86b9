-- The loops of the readers of what stands in a file are the readers.
use Rattle.std.proofs.Common.{◌≡◌, ℕ, zero, suc, Bool, true, false, if◌then◌else◌, List, [], ◌∷◌, ◌++◌, length, drop, Option, Some, None, refl, ap, sym, ◌∙◌, ◌+◌, ◌-◌, ◌<◌, ◌≤◌, option_and_then, subst, Result, Err}
use Rattle.c_lexer.specs.declared.token.Token.{Token}
use Rattle.c_tree.specs.declared.tree.GlobalDecl.{GlobalDecl}
use Rattle.c_tree.specs.declared.tree.Spec.{Spec}
use Rattle.c_tree.specs.declared.tree.Top.{Top}
use Rattle.c_parser.specs.declared.reading.Unread.{Unread}
use Rattle.c_parser.specs.declared.reading.Unread.TheVariants as unread
use Rattle.c_parser.specs.declared.term.Term.{Term}
use Rattle.c_parser.specs.declared.term.Term.TheVariants as term
use Rattle.c_parser.specs.declared.turn.Turn.TheVariants.{More, Done}
use Rattle.c_parser.specs.Answer.{Gives}
use Rattle.c_parser.specs.Term.{next, sees}
use Rattle.c_parser.specs.ReadExpressions.{Read, chained}
use Rattle.c_parser.specs.ReadStatements.{read_base, read_starred, naming}
use Rattle.c_parser.specs.ReadFile.{read_field_names_at, read_field_names, read_fields_behind, read_fields, read_global, read_globals_at, read_globals, read_param, read_more_params_at, read_more_params, read_top, read_file}
use Rattle.c_parser.specs.Loops.{behind, looped}
use Rattle.c_parser.specs.FileLoops.{listed, field_name_turn, fields_behind, fields_turn, global_turn, param_turn_at, param_turn}
use Rattle.c_parser.proofs.Loops.{mapped_behind}
use Rattle.c_parser.proofs.Turns.{turn_left, none_left}

-- what stands behind a first part
parted : {A S R : Type 0} → (f : A → Read R) (g : A → Read S) (h : S → Read R) (agree : (a : A) (us : List Token) → f a us ≡ chained (g a us) h)
    (r : Option (A × List Token)) → chained r f ≡ chained (chained r g) h
parted f g h agree None = refl
parted f g h agree (Some p) = agree p.0 p.1

names_at_is : (on loop : List Spec → Read (List Spec)) (agree : (s : List Spec) (us : List Token) → on s us ≡ loop s us) (front : List Spec) (x : Term) (ts : List Token) →
    read_field_names_at on front x ts ≡ chained (listed front x ts) (behind loop)
names_at_is on loop agree front term.Comma ts = agree front (drop 1 ts)
names_at_is on loop agree front term.Semicolon ts = refl
names_at_is on loop agree front _ ts = refl

pub names_is : (s : Spec) (n : ℕ) (front : List Spec) (ts : List Token) → read_field_names s n front ts ≡ looped (field_name_turn s) n front ts
unfolding read_field_names looped
names_is s zero front ts = refl
names_is s (suc n) front ts =
    parted (λ p us. read_field_names_at (read_field_names s n) (front ++ naming s p ∷ []) (next us) us) (λ p us. listed (front ++ naming s p ∷ []) (next us) us)
    (behind (looped (field_name_turn s) n)) (λ p us. names_at_is (read_field_names s n) (looped (field_name_turn s) n) (names_is s n) (front ++ naming s p ∷ []) (next us) us) (read_starred ts)

fields_behind_is : (on loop : List Spec → Read (List Spec)) (agree : (s : List Spec) (us : List Token) → on s us ≡ loop s us) (front : List Spec) (ts : List Token) (b : Bool) →
    (if b then Some (front, drop 1 ts) else on front ts) ≡ chained (if b then Some (Done front, drop 1 ts) else Some (More front, ts)) (behind loop)
fields_behind_is on loop agree front ts true = refl
fields_behind_is on loop agree front ts false = agree front ts

pub fields_is : (n : ℕ) (front : List Spec) (ts : List Token) → read_fields n front ts ≡ looped fields_turn n front ts
unfolding read_fields looped
fields_is zero front ts = refl
fields_is (suc n) front ts =
    parted (λ s us. chained (read_field_names s (length us) front us) (λ fields vs. read_fields_behind (read_fields n) fields vs))
    (λ s us. chained (read_field_names s (length us) front us) (λ fields vs. fields_behind fields vs)) (behind (looped fields_turn n))
    (λ s us. parted (λ fields vs. read_fields_behind (read_fields n) fields vs) (λ fields vs. fields_behind fields vs) (behind (looped fields_turn n))
    (λ fields vs. fields_behind_is (read_fields n) (looped fields_turn n) (fields_is n) fields vs (sees term.CloseBrace vs)) (read_field_names s (length us) front us)) (read_base ts)

globals_at_is : (on loop : List GlobalDecl → Read (List GlobalDecl)) (agree : (s : List GlobalDecl) (us : List Token) → on s us ≡ loop s us) (front : List GlobalDecl) (x : Term)
    (ts : List Token) → read_globals_at on front x ts ≡ chained (listed front x ts) (behind loop)
globals_at_is on loop agree front term.Comma ts = agree front (drop 1 ts)
globals_at_is on loop agree front term.Semicolon ts = refl
globals_at_is on loop agree front _ ts = refl

pub globals_is : (s : Spec) (n : ℕ) (front : List GlobalDecl) (ts : List Token) → read_globals s n front ts ≡ looped (global_turn s) n front ts
unfolding read_globals looped
globals_is s zero front ts = refl
globals_is s (suc n) front ts =
    parted (λ g us. read_globals_at (read_globals s n) (front ++ g ∷ []) (next us) us) (λ g us. listed (front ++ g ∷ []) (next us) us) (behind (looped (global_turn s) n))
    (λ g us. globals_at_is (read_globals s n) (looped (global_turn s) n) (globals_is s n) (front ++ g ∷ []) (next us) us) (read_global s ts)

params_at_is : (on loop : List Spec → Read (List Spec)) (agree : (s : List Spec) (us : List Token) → on s us ≡ loop s us) (front : List Spec) (x : Term) (ts : List Token) →
    read_more_params_at on front x ts ≡ chained (param_turn_at front x ts) (behind loop)
params_at_is on loop agree front term.Close ts = refl
params_at_is on loop agree front term.Comma ts = mapped_behind (λ p. front ++ p ∷ []) on loop agree (read_param (drop 1 ts))
params_at_is on loop agree front _ ts = refl

pub params_is : (n : ℕ) (front : List Spec) (ts : List Token) → read_more_params n front ts ≡ looped param_turn n front ts
unfolding read_more_params looped
params_is zero front ts = refl
params_is (suc n) front ts = params_at_is (read_more_params n) (looped param_turn n) (params_is n) front (next ts) ts

-- the file itself: a declaration more, or none

file_turn : (depth all so_far : ℕ) (front : List Top) (t : Token) (ts : List Token) (answer : Option (List Top)) → so_far < all → read_file depth (all - so_far) front (t ∷ ts) ≡ answer
    → answer ≡ option_and_then (λ p. read_file depth (all - (so_far + 1)) (front ++ p.0 ∷ []) p.1) (read_top depth (t ∷ ts))
unfolding read_file
file_turn depth all so_far front t ts answer is reads = sym reads ∙ ap (λ n. read_file depth n front (t ∷ ts)) (turn_left all so_far is)

pub file_on : (depth all so_far : ℕ) (front : List Top) (left us : List Token) (top : Top) (answer : Option (List Top)) → so_far < all → (left ≡ [] → ⊥)
    → read_file depth (all - so_far) front left ≡ answer → read_top depth left ≡ Some (top, us) → read_file depth (all - (so_far + 1)) (front ++ top ∷ []) us ≡ answer
file_on depth all so_far front [] us top answer is more reads one = absurd (more refl)
file_on depth all so_far front (t ∷ ts) us top answer is more reads one =
    sym (file_turn depth all so_far front t ts answer is reads ∙ ap (option_and_then (λ p. read_file depth (all - (so_far + 1)) (front ++ p.0 ∷ []) p.1)) one)

pub file_fails : {A B : Type 0} → (depth all so_far : ℕ) (front : List Top) (left : List Token) (answer : Option (List Top)) (f : A → Top × List Token) (g : B → List Top)
    (top : Result A Unread) (result : Result B Unread) (e : Unread) → so_far < all → (left ≡ [] → ⊥) → read_file depth (all - so_far) front left ≡ answer
    → top ≡ Err e → result ≡ Err e → Gives f top (read_top depth left) → Gives g result answer
file_fails depth all so_far front left answer f g top result unread.Memory is more reads was fails gives = subst (λ q. Gives g q answer) (sym fails) tt
file_fails depth all so_far front [] answer f g top result unread.NotHere is more reads was fails gives = absurd (more refl)
file_fails depth all so_far front (t ∷ ts) answer f g top result unread.NotHere is more reads was fails gives =
    let none : read_top depth (t ∷ ts) ≡ None = subst (λ q. Gives f q (read_top depth (t ∷ ts))) was gives in
    subst (λ q. Gives g q answer) (sym fails)
    (file_turn depth all so_far front t ts answer is reads ∙ ap (option_and_then (λ p. read_file depth (all - (so_far + 1)) (front ++ p.0 ∷ []) p.1)) none)

pub file_end : (depth n : ℕ) (front : List Top) (left : List Token) (answer : Option (List Top)) → length left ≡ 0 → read_file depth n front left ≡ answer → answer ≡ Some front
unfolding read_file
file_end depth zero front [] answer none reads = sym reads
file_end depth (suc n) front [] answer none reads = sym reads
file_end depth n front (t ∷ ts) answer none reads = absurd (cc)

pub file_stops : (depth all so_far : ℕ) (front : List Top) (left : List Token) (answer : Option (List Top)) → all ≤ so_far → (left ≡ [] → ⊥)
    → read_file depth (all - so_far) front left ≡ answer → answer ≡ None
unfolding read_file
file_stops depth all so_far front [] answer is more reads = absurd (more refl)
file_stops depth all so_far front (t ∷ ts) answer is more reads = sym reads ∙ ap (λ n. read_file depth n front (t ∷ ts)) (none_left all so_far is)
