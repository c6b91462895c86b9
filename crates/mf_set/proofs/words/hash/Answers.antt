use Rattle.std.proofs.Common.{◌+◌, ◌*◌, ◌^◌, ℕ, ◌-◌, ◌%◌, ◌<◌, length, take, drop, get_or, sym, ap, ◌∙◌, arith, rules}
use Rattle.std.specs.List.{fold, flat_map}
use Rattle.std.specs.Hash as fed
use Rattle.mf_set.specs.Numbers.{pairs_of}
use Rattle.mf_set.proofs.InverseLaws.{words_of-numbers, pairs_of-two, pairs_of-one, pairs_of-none}
use Rattle.mf_set.proofs.words.hash.Goals as goal

pub loop-rest-preserved : goal.loop-rest-preserved
loop-rest-preserved g c =
    let rest = c.loop-rest.rest.now in
    let high : get_or rest 1 0 < 2 ^ 64 = search rules in
    let word : ℕ = get_or rest 0 0 + get_or rest 1 0 * 2 ^ 64 % 2 ^ 128 in
    ap (λ s. fold g.H.Hasher.write s (flat_map fed.u128 (pairs_of (take (length rest - 2) (drop 2 rest))))) c.write_u128.ensures
    ∙ ap (λ ws. fold g.H.Hasher.write c.loop-rest.state (flat_map fed.u128 ws)) (sym (pairs_of-two rest word c.in-len2-up.len_at_least (omega arith)))
    ∙ c.loop-rest.invariant

pub returns-then-rest-lt1 : goal.returns-then-rest-lt1
returns-then-rest-lt1 g c =
    ap (λ ws. fold g.H.Hasher.write c.loop-rest.state (flat_map fed.u128 ws)) (sym (pairs_of-none c.loop-rest.rest.now (search rules)))
    ∙ c.loop-rest.invariant
    ∙ ap (λ ws. fold g.H.Hasher.write c.args.state.now (flat_map fed.u128 (pairs_of ws))) (sym (words_of-numbers c.args.words.now (λ k. (c.type_inv.words k).fits)))

pub returns-in-len1 : goal.returns-in-len1
returns-in-len1 g c =
    c.write_u128-in-len1.ensures
    ∙ ap (λ ws. fold g.H.Hasher.write c.loop-rest.state (flat_map fed.u128 ws)) (sym (pairs_of-one c.loop-rest.rest.now (search rules)))
    ∙ c.loop-rest.invariant
    ∙ ap (λ ws. fold g.H.Hasher.write c.args.state.now (flat_map fed.u128 (pairs_of ws))) (sym (words_of-numbers c.args.words.now (λ k. (c.type_inv.words k).fits)))
