use Rattle.std.proofs.Common.{List, length, sym, subst, ◌∙◌}
use Rattle.std.specs.List.{Contains}
use Rattle.ts_domain.specs.declared.triples.Triple.{Triple}
use Rattle.cover_clauses.proofs.FoundLaws.{held_more}
use Rattle.cover_clauses.proofs.usable.held.Goals as goal

pub union_with-requires : goal.union_with-requires
union_with-requires c =
    let t = c.triple-item.result in
    let listed : Contains c.args.triples.now t = (c.loop-triple.triple-index, c.loop-triple-test.true, sym c.triple-item.is) in
    c.loop-triple.invariant.room ∙ sym (c.requires.rooms.derived.triples t (subst (λ (ts : List Triple). Contains ts t) c.requires.triples listed)).1

pub loop-triple-preserved : goal.loop-triple-preserved
loop-triple-preserved c =
    held_more (length c.args.problem.now.names.puts) c.args.triples.now c.loop-triple.triple-index c.triple-item.result c.loop-triple.set c.union_with.new.self c.loop-triple-test.true c.triple-item.is
    c.union_with.ensures.numbers c.loop-triple.invariant
