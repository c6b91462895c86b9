use Rattle.std.proofs.Common.{ℤ, ◌+◌, List, [], ◌∷◌, ◌++◌, drop, get_or, Result, Ok, append-nil, ap, sym, ◌∙◌, rules, w32}
use Rattle.std.proofs.lemmas.Int.{to_z-of_z}
use mir.Val.{SFits}
use Rattle.std.proofs.lemmas.List.{drop_all}
use Rattle.c_meaning.specs.declared.value.Value.{Value}
use Rattle.c_meaning.specs.declared.value.Value.TheVariants.{Undef}
use Rattle.c_meaning.specs.declared.machine.Stop.{Stop}
use Rattle.c_meaning.specs.Effects.{ints_of}
use Rattle.c_replay.specs.Lists.{behind}
use Rattle.c_replay.proofs.Gathered.{any_default, behind_none}
use Rattle.c_replay.proofs.Prints.{number_at_place, none_at_place}
use Rattle.c_replay.proofs.output.numbers_of.Goals as goal

pub loop-value-init : goal.loop-value-init
loop-value-init c =
    ap (λ (ns : List ℤ). behind ns (ints_of c.args.values.now)) c.new-numbers.ensures ∙ behind_none (ints_of c.args.values.now)

pub loop-value-preserved : goal.loop-value-preserved
loop-value-preserved c =
    let fits : SFits w32 c.in-Ok.number = search rules in
    let same = any_default c.args.values.now c.loop-value.value-index Undef (get_or c.args.values.now c.loop-value.value-index Undef) c.loop-value-test.true in
    ap (λ (ns : List ℤ). behind ns (ints_of (drop (c.loop-value.value-index + 1) c.args.values.now))) (c.in_ok-push-in-Ok.ensures.ok ∙ ap (λ (z : ℤ). c.loop-value.numbers ++ z ∷ []) (to_z-of_z w32 c.in-Ok.number fits))
    ∙ number_at_place c.loop-value.numbers c.args.values.now c.loop-value.value-index (get_or c.args.values.now c.loop-value.value-index Undef) c.in-Ok.number c.loop-value-test.true same (sym c.in-Ok.ensures)
    ∙ c.loop-value.invariant

pub returns-in-Err : goal.returns-in-Err
returns-in-Err c =
    let same = any_default c.args.values.now c.loop-value.value-index Undef (get_or c.args.values.now c.loop-value.value-index Undef) c.loop-value-test.true in
    sym (none_at_place c.loop-value.numbers c.args.values.now c.loop-value.value-index (get_or c.args.values.now c.loop-value.value-index Undef) c.in-Err.stop c.loop-value-test.true same (sym c.in-Err.ensures))
    ∙ c.loop-value.invariant

pub returns : goal.returns
returns c =
    let gathered : List ℤ → Result (List ℤ) Stop = λ ns. Ok ns in
    ap gathered (sym (append-nil c.loop-value.numbers))
    ∙ ap (λ (vs : List Value). behind c.loop-value.numbers (ints_of vs)) (sym (drop_all c.loop-value.value-index c.args.values.now c.loop-value-test.false))
    ∙ c.loop-value.invariant
