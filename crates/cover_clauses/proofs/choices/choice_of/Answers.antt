use Rattle.std.proofs.Common.{rules, ◌≡◌, true, List, length, sym, subst}
use Rattle.c_tree.specs.Fill.{ascends}
use Rattle.c_tree.specs.declared.choice.Choice.{Choice}
use Rattle.c_tree.specs.declared.choice.Put.{Put}
use Rattle.cover_problem.specs.Problem.{IsCoverOf}
use Rattle.cover_clauses.specs.Parts.{chosen_puts}
use Rattle.cover_clauses.proofs.BitLaws.{satisfied_covers}
use Rattle.cover_clauses.proofs.PutsOnce.{choice_ascends, puts_once}
use Rattle.cover_clauses.proofs.choices.choice_of.Goals as goal

pub returns-clause-cover : goal.returns-clause-cover
returns-clause-cover c =
    let q = c.args.problem.now in
    let bits = c.args.bits.now in
    let is : c.in_ok-puts.puts ≡ chosen_puts q bits (length q.names.puts) = search rules in
    λ up clauses are satisfied.
    subst (λ (xs : List Put). IsCoverOf q (let s : Choice = record { puts = xs } in s)) (sym is)
    (satisfied_covers q bits (puts_once q.names.puts up) c.requires.rooms clauses.list (λ l. (are.each l).1) satisfied)

pub returns-clause-ascending : goal.returns-clause-ascending
returns-clause-ascending c =
    let q = c.args.problem.now in
    let bits = c.args.bits.now in
    let is : c.in_ok-puts.puts ≡ chosen_puts q bits (length q.names.puts) = search rules in
    λ up. subst (λ (xs : List Put). ascends xs ≡ true) (sym is) (choice_ascends q bits up)
