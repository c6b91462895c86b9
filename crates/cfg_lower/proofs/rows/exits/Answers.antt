use Rattle.std.proofs.Common.{rules, ◌≡◌, ◌≤◌, ◌++◌, Bool, length, append-nil, List, ℕ, slice_get, ap, sym, ◌∙◌}
use Rattle.std.specs.List.{filter}
use Rattle.std.proofs.lemmas.List.{drop_all}
use Rattle.c_graph.specs.Nodes.{spot_at}
use Rattle.cfg_lower.specs.declared.tables.Row.{Row}
use Rattle.cfg_lower.specs.Rows.{goes_out}
use Rattle.cfg_lower.proofs.RowLaws.{none_standing, row_is}
use Rattle.cfg_lower.proofs.rows.exits.Goals as goal

pub returns-in_default : goal.returns-in_default
returns-in_default c =
    let p = c.args.program.now in
    c.new-list.ensures
    ∙ ap (filter (λ q. goes_out (spot_at p p.main q))) (sym (none_standing p p.main (ap (λ (rs : List Row). slice_get rs p.main) (sym c.requires) ∙ sym c.in_default.ensures.value)))

pub spot_at-requires : goal.spot_at-requires
spot_at-requires c =
    let p = c.args.program.now in
    ap (λ (r : Row). r.slot) (row_is p p.main c.in-Some.row.now (ap (λ (rs : List Row). slice_get rs p.main) (sym c.requires) ∙ sym c.in-Some.ensures.value))

pub returns : goal.returns
returns c =
    let p = c.args.program.now in
    let g : List ℕ → Bool = λ q. goes_out (spot_at p p.main q) in
    let past : length c.as_slice-paths.result.now ≤ c.loop-path.path-index = search rules in
    let all : filter g c.as_slice-paths.result.now ≡ c.loop-path.list =
    c.loop-path.invariant ∙ ap (λ (ps : List (List ℕ)). c.loop-path.list ++ filter g ps) (drop_all c.loop-path.path-index c.as_slice-paths.result.now past) ∙ append-nil c.loop-path.list in
    sym all
    ∙ ap (filter g) c.as_slice-paths.ensures
    ∙ ap (λ (r : Row). filter (λ q. goes_out (spot_at p p.main q)) r.places)
    (row_is p p.main c.in-Some.row.now (ap (λ (rs : List Row). slice_get rs p.main) (sym c.requires) ∙ sym c.in-Some.ensures.value))
