use Rattle.std.proofs.Common.{rules, ◌≡◌, ◌≤◌, ◌+◌, false, drop, get_or, ap, sym, subst, ◌∙◌}
use Rattle.ts_domain.specs.declared.deed.Deed.TheVariants.{Reads}
use Rattle.ts_domain.specs.declared.names.Read.TheVariants as read
use Rattle.ts_domain.specs.Marks.{knowledge}
use Rattle.ts_domain.specs.Post.{counted, is_wide, too_many, turn, turns}
use Rattle.ts_domain.proofs.EntryLaws.{counted_within, read_at, turns_next, wide_next}
use Rattle.ts_domain.proofs.turns.turns.Goals as goal

pub loop-deed-preserved : goal.loop-deed-preserved
loop-deed-preserved c =
    let k = knowledge c.args.known in
    let l = c.loop-deed in
    let ds = c.args.deeds.now in
    let i = l.deed-index in
    let xs = l.entries.keys in
    let d = get_or ds i (Reads (read.Name 0) false) in
    let here = read_at ds i (Reads (read.Name 0) false) c.loop-deed-test.true in
    let turned : c.in_ok-entries-2.entries.keys ≡ turn k d l.place xs = c.in_ok-entries-2.ensures ∙ ap (turn k d l.place) c.as_slice.ensures.keys in
    let narrow : too_many d (turn k d l.place xs) ≡ false = ap (too_many d) (sym turned) ∙ ap (too_many d) (sym c.as_slice-in-loop-deed.ensures.keys) ∙ sym c.if-is_too_many.ensures in
    let place : c.counted-place.result ≡ counted d l.place = c.counted-place.ensures in (
      ap (λ at. turns k (drop (i + 1) ds) at c.in_ok-entries-2.entries.keys) place
          ∙ ap (turns k (drop (i + 1) ds) (counted d l.place)) turned
          ∙ turns_next k ds i d l.place xs here
          ∙ l.invariant.0,
      ap (λ at. is_wide k (drop (i + 1) ds) at c.in_ok-entries-2.entries.keys) place
          ∙ ap (is_wide k (drop (i + 1) ds) (counted d l.place)) turned
          ∙ wide_next k ds i d l.place xs here narrow
          ∙ l.invariant.1,
      subst (λ at. at ≤ i + 1) (sym place) (counted_within d l.place i l.invariant.2),
    )
