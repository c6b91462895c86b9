use Rattle.std.proofs.Common.{◌<◌, ◌==◌, ◌&&◌, set, sym, subst}
use Rattle.cover_clauses.proofs.ConflictLaws.{adds_if, adds_number}
use Rattle.cover_clauses.proofs.conflicts.insert_if.Goals as goal

pub insert-requires : goal.insert-requires
insert-requires c = subst (λ n. c.args.number < n) (sym (c.requires.square c.args.at c.at_mut.result.now c.at_mut.ensures.value).1) c.requires.number

pub returns-then-passes : goal.returns-then-passes
returns-then-passes c =
    adds_if c.args.passes (λ j k. j == c.args.at && k == c.args.number) c.args.rows.now (set c.args.rows.now c.args.at c.insert.new.self) c.if-passes.true
    (adds_number c.args.at c.args.number c.args.rows.now c.at_mut.result.now c.insert.new.self c.requires.square c.at_mut.ensures.value c.insert.ensures.set c.insert.ensures.numbers)
