use Rattle.std.proofs.Common.{rules, ◌≡◌, sym, subst, ap, ◌∙◌, ℕ, List}
use Rattle.std.specs.List.{All}
use Rattle.mf_set.specs.Numbers.{Numbers}
use Rattle.indexmap.specs.IndexSet.{insert_all}
use Rattle.ts_domain.specs.Derived.{forbidden_at, gap_at, gathered, pairs_at}
use Rattle.ts_domain.specs.Rows.{row}
use Rattle.typestate_fixpoint.specs.Gaps.{follows_in, row_at, same_pair, verdict_in, HasMore}
use Rattle.ts_domain.specs.Reaching.{BeginsAt}
use Rattle.typestate_fixpoint.specs.Steps.{PassesAll}
use Rattle.typestate_fixpoint.specs.Worklist.{behind_set}
use Rattle.typestate_fixpoint.proofs.GapLaws.{behind_is, forbids_are, pairs_are, row_below}
use Rattle.ts_domain.proofs.RowPlaces.{rows_begin}
use Rattle.typestate_fixpoint.proofs.derivation.expand.Goals as goal

pub behind-requires : goal.behind-requires
behind-requires c =
    let t = c.args.triple.now in
    row_below c.args.names.now c.args.graph.now c.args.tables.now.puts t.node t.puts.room c.puts_at-puts.result.now c.requires.tables.puts c.requires.puts c.puts_at-puts.ensures

pub forbid_at-requires-clause-below : goal.forbid_at-requires-clause-below
forbid_at-requires-clause-below c =
    let t = c.args.triple.now in
    row_below c.args.names.now c.args.graph.now c.args.tables.now.puts t.node t.puts.room c.puts_at-puts.result.now c.requires.tables.puts c.requires.puts c.puts_at-puts.ensures

pub pair_at-requires : goal.pair_at-requires
pair_at-requires c =
    let t = c.args.triple.now in
    row_below c.args.names.now c.args.graph.now c.args.tables.now.puts t.node t.puts.room c.puts_at-puts.result.now c.requires.tables.puts c.requires.puts c.puts_at-puts.ensures

pub over_edges-requires-clause-places : goal.over_edges-requires-clause-places
over_edges-requires-clause-places c =
    let g = c.args.graph.now in
    let v = c.args.triple.now.node in
    let is : c.row-places.result.now ≡ row c.args.tables.now.outgoing v = search rules in
    subst (λ (ks : List ℕ). All (BeginsAt g v) ks) (sym is) (rows_begin g c.args.tables.now.outgoing v c.requires.tables.outgoing)

pub returns-clause-ok : goal.returns-clause-ok
returns-clause-ok c =
    let n = c.args.names.now in
    let g = c.args.graph.now in
    let f = c.args.facts.now in
    let t = c.args.triple.now in
    let p = c.args.tables.now.puts in
    let ks = c.puts_at-puts.result.now in
    let old = c.args.state.now in
    let looked : ks ≡ row_at p (gap_at g t.node) = c.puts_at-puts.ensures in
    let held : c.in_ok-held.held ≡ behind_set n g t = behind_is n g p t ks c.in_ok-held.held c.requires.tables.puts c.requires.puts looked c.in_ok-held.ensures in
    let bans : HasMore (forbidden_at (verdict_in p t.mark) ks t.puts.items) old.forbidden c.forbid_at.new.forbidden = search rules in
    let pairs : c.pair_at.new.pairs.keys ≡ insert_all same_pair old.pairs.keys (pairs_at (verdict_in p t.mark) (follows_in p t.mark) ks t.puts.items) = search rules in
    let is : c.row-places.result.now ≡ row c.args.tables.now.outgoing t.node = search rules in
    let passes : PassesAll n g f t c.in_ok-held.held c.row-places.result.now old.triples.keys c.over_edges.new.triples.keys c.forbid_at.new.forbidden c.over_edges.new.forbidden = search rules in
    record {
      outgoing = c.args.tables.now.outgoing;
      rows = c.requires.tables.outgoing;
      between = c.forbid_at.new.forbidden;
      forbids = subst (λ xs. HasMore xs old.forbidden c.forbid_at.new.forbidden) (forbids_are n g p t ks c.requires.tables.puts looked) bans;
      passes =
          subst (λ (s : Numbers). PassesAll n g f t s (row c.args.tables.now.outgoing t.node) old.triples.keys c.over_edges.new.triples.keys c.forbid_at.new.forbidden c.over_edges.new.forbidden) held
          (subst (λ (xs : List ℕ). PassesAll n g f t c.in_ok-held.held xs old.triples.keys c.over_edges.new.triples.keys c.forbid_at.new.forbidden c.over_edges.new.forbidden) is passes);
      pairs = pairs ∙ ap (insert_all same_pair old.pairs.keys) (pairs_are n g p t ks c.requires.tables.puts looked);
    }
