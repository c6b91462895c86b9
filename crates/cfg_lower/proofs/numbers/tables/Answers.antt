use Rattle.std.proofs.Common.{rules, ◌≡◌, length, Err, arith}
use Rattle.c_tree.specs.declared.limits.Refusal.TheVariants as refusal
use Rattle.c_tree.specs.declared.limits.Limit.TheVariants as limit
use Rattle.cfg_lower.specs.Rows.{inside, exit_places}
use Rattle.cfg_lower.proofs.Numbering.{count_is}
use Rattle.cfg_lower.proofs.numbers.tables.Goals as goal

pub returns-in_err-firsts-clause-limit : goal.returns-in_err-firsts-clause-limit
returns-in_err-firsts-clause-limit c = λ e.
    let refused : c.numbers.result ≡ Err (refusal.Limit limit.Nodes) = search (rules, e) in
    let over = c.numbers.ensures.limit refused in
    let all = count_is c.args.program.now c.args.contexts.now.list in
    omega arith

pub returns-in_err-count-clause-limit : goal.returns-in_err-count-clause-limit
returns-in_err-count-clause-limit c = λ e.
    let refused : c.counted.result ≡ Err (refusal.Limit limit.Nodes) = search (rules, e) in
    let over = c.counted.ensures.limit refused in
    let first : c.in_ok-firsts.inside ≡ inside c.args.program.now c.args.contexts.now.list = search rules in
    let last : c.len.result ≡ length (exit_places c.args.program.now) = search rules in
    let all = count_is c.args.program.now c.args.contexts.now.list in
    omega arith

pub returns-clause-within : goal.returns-clause-within
returns-clause-within c =
    let few = c.in_ok-count.ensures.within in
    let sum = c.in_ok-count.ensures.ok in
    let first : c.in_ok-firsts.inside ≡ inside c.args.program.now c.args.contexts.now.list = search rules in
    let last : c.len.result ≡ length (exit_places c.args.program.now) = search rules in
    let all = count_is c.args.program.now c.args.contexts.now.list in
    omega arith
