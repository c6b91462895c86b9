use Rattle.std.proofs.Common.{rules, ◌≡◌, ◌<◌, ◌≤◌, ◌++◌, length, map}
use Rattle.ts_domain.specs.Numbering.{var_fields}
use Rattle.ts_domain.proofs.PutLaws.{pairs_more, too_many}
use Rattle.ts_domain.proofs.naming.fields_within.Goals as goal

pub loop-place-preserved : goal.loop-place-preserved
loop-place-preserved c =
    let i = c.loop-place.place in
    let x = c.at.result.now in
    let pushed : c.add_pairs.new.list ≡ c.loop-place.list ++ map (λ f. (i, f)) (var_fields c.args.structs.now c.args.decls.now x) = search rules in
    let short : length c.add_pairs.new.list ≤ c.args.most = search rules in
    (pairs_more c.args.structs.now c.args.decls.now c.args.vars.now i x c.loop-place.list c.add_pairs.new.list _ c.at.ensures pushed c.loop-place.invariant.0, short)

pub returns-in_err-within-clause-passed : goal.returns-in_err-within-clause-passed
returns-in_err-within-clause-passed c l e =
    let i = c.loop-place.place in
    let x = c.at.result.now in
    let pushed : c.add_pairs.new.list ≡ c.loop-place.list ++ map (λ f. (i, f)) (var_fields c.args.structs.now c.args.decls.now x) = search rules in
    let past : c.args.most < length c.add_pairs.new.list = search rules in
    too_many c.args.most c.add_pairs.new.list _ _ (pairs_more c.args.structs.now c.args.decls.now c.args.vars.now i x c.loop-place.list c.add_pairs.new.list _ c.at.ensures pushed c.loop-place.invariant.0) past
