use Rattle.std.proofs.Common.{◌<◌, ℕ, List, length, ap, sym, subst, ◌∙◌, arith}
use Rattle.std.specs.List.{Contains, list_any}
use Rattle.mf_set.specs.Numbers.{Numbers}
use Rattle.ts_domain.specs.declared.triples.Triple.{Triple}
use Rattle.cover_clauses.specs.Conflicts.{is_pair, shares, triple_sets, Adds, AreEmpty}
use Rattle.cover_clauses.proofs.ConflictLaws.{are_conflicts, set_rooms}
use Rattle.cover_clauses.proofs.conflicts.conflicts.Goals as goal

pub triple_sets-requires : goal.triple_sets-requires
triple_sets-requires c = λ t h. (c.requires.rooms.derived.triples t (subst (λ (ts : List Triple). Contains ts t) c.as_slice.ensures h)).1 ∙ sym c.requires.usable.room

pub add_pairs-requires-clause-within : goal.add_pairs-requires-clause-within
add_pairs-requires-clause-within c = λ p h.
    let order = c.requires.rooms.derived.pairs p.0 p.1 (subst (λ (ps : List (ℕ × ℕ)). Contains ps p) c.as_slice-2.ensures h) in
    let long = c.in_ok-rows.ensures.long ∙ c.len.ensures in
    let other : p.1 < length c.in_ok-rows.rows = subst (λ n. p.1 < n) (sym long) order.1 in
    (omega (arith, order.0, other), other)

pub add_sets-requires-clause-rooms : goal.add_sets-requires-clause-rooms
add_sets-requires-clause-rooms c = λ s h.
    let q = c.args.problem.now in
    let us = c.args.usable.now in
    let is = c.as_slice-3.ensures.keys ∙ c.in_ok-sets.ensures ∙ ap (triple_sets us) c.as_slice.ensures in
    set_rooms q us c.requires.usable (length q.names.puts) (λ t d. (c.requires.rooms.derived.triples t d).1) s (subst (λ (ss : List Numbers). Contains ss s) is h)
    ∙ sym (c.add_pairs.ensures.long ∙ c.in_ok-rows.ensures.long ∙ c.len.ensures)

pub returns : goal.returns
returns c =
    let q = c.args.problem.now in
    let us = c.args.usable.now in
    let is = c.as_slice-3.ensures.keys ∙ c.in_ok-sets.ensures ∙ ap (triple_sets us) c.as_slice.ensures in
    are_conflicts q us c.requires.usable c.in_ok-rows.rows c.add_pairs.new.rows c.add_sets.new.rows
    (subst (λ n. AreEmpty n n c.in_ok-rows.rows) c.len.ensures c.in_ok-rows.ensures)
    (subst (λ (ps : List (ℕ × ℕ)). Adds (λ j k. list_any (λ p. is_pair us.items p j k) ps) c.in_ok-rows.rows c.add_pairs.new.rows) c.as_slice-2.ensures c.add_pairs.ensures)
    (subst (λ (ss : List Numbers). Adds (λ j k. list_any (λ (s : Numbers). shares s.items j k) ss) c.add_pairs.new.rows c.add_sets.new.rows) is c.in_ok-add_sets.ensures)
