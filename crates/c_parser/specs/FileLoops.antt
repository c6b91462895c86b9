-- The loops of the readers of what stands in a file: one turn of each.
use Rattle.std.specs.Prelude.{if◌then◌else◌, List, [], ◌∷◌, ◌++◌, drop, length, Some, None}
use Rattle.c_tree.specs.declared.tree.GlobalDecl.{GlobalDecl}
use Rattle.c_tree.specs.declared.tree.Spec.{Spec}
use Rattle.c_parser.specs.declared.term.Term.{Term}
use Rattle.c_parser.specs.declared.term.Term.TheVariants as term
use Rattle.c_parser.specs.declared.turn.Turn.{Turn}
use Rattle.c_parser.specs.declared.turn.Turn.TheVariants.{More, Done}
use Rattle.c_parser.specs.Term.{next, sees}
use Rattle.c_parser.specs.ReadExpressions.{Read, mapped, chained}
use Rattle.c_parser.specs.ReadStatements.{read_base, read_starred, naming}
use Rattle.c_parser.specs.ReadFile.{read_field_names, read_global, read_param}

-- a list of so many: a comma goes on with it, a semicolon ends it
abbrev pub listed : {A : Type 0} → List A → Term → Read (Turn (List A) (List A))
listed front term.Comma ts = Some (More front, drop 1 ts)
listed front term.Semicolon ts = Some (Done front, drop 1 ts)
listed front _ ts = None

abbrev pub field_name_turn : Spec → List Spec → Read (Turn (List Spec) (List Spec))
field_name_turn s front ts = chained (read_starred ts) (λ p us. listed (front ++ naming s p ∷ []) (next us) us)

abbrev pub fields_behind : List Spec → Read (Turn (List Spec) (List Spec))
fields_behind front ts = if sees term.CloseBrace ts then Some (Done front, drop 1 ts) else Some (More front, ts)

abbrev pub fields_turn : List Spec → Read (Turn (List Spec) (List Spec))
fields_turn front ts = chained (read_base ts) (λ s us. chained (read_field_names s (length us) front us) (λ fields vs. fields_behind fields vs))

abbrev pub global_turn : Spec → List GlobalDecl → Read (Turn (List GlobalDecl) (List GlobalDecl))
global_turn s front ts = chained (read_global s ts) (λ g us. listed (front ++ g ∷ []) (next us) us)

abbrev pub param_turn_at : List Spec → Term → Read (Turn (List Spec) (List Spec))
param_turn_at front term.Close ts = Some (Done front, drop 1 ts)
param_turn_at front term.Comma ts = mapped (λ p. More (front ++ p ∷ [])) (read_param (drop 1 ts))
param_turn_at front _ ts = None

abbrev pub param_turn : List Spec → Read (Turn (List Spec) (List Spec))
param_turn front ts = param_turn_at front (next ts) ts
