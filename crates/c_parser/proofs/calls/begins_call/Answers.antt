-- Four terms behind each other.
use Rattle.std.proofs.Common.{rules, ◌≡◌, drop, ◌∙◌}
use Rattle.c_parser.specs.Term.{next}
use Rattle.c_parser.specs.ReadStatements.{is_call}
use Rattle.c_parser.proofs.Lists.{begins_by_four}
use Rattle.c_parser.proofs.calls.begins_call.Goals as goal

pub returns : goal.returns
returns c =
    let ts = c.args.tokens.now in
    let four : c.is_call.result ≡ is_call (next ts) (next (drop 1 ts)) (next (drop 1 (drop 1 ts))) (next (drop 1 (drop 1 (drop 1 ts)))) = search rules in
    four ∙ begins_by_four ts
