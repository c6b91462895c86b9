-- What a regular certificate has room for, and that a closed one makes safe.
use Rattle.std.proofs.Common.{rules, ◌≡◌, true}
use Rattle.std.proofs.lemmas.Result.{IfOk-weaker}
use Rattle.cover_certificate.specs.Regular.{is_regular}
use Rattle.cert_checker.specs.Checked.{MakesSafe}
use Rattle.cert_checker.proofs.CheckLaws.{makes_safe, rooms_regular}
use Rattle.cert_checker.proofs.closed.check.Goals as goal

pub check_regular-requires-clause-rooms : goal.check_regular-requires-clause-rooms
check_regular-requires-clause-rooms c =
    let regular : is_regular c.args.names.now c.args.graph.now c.args.cert.now ≡ true = search rules in
    rooms_regular c.args.names.now c.args.graph.now c.args.cert.now regular

pub returns-clause-safe : goal.returns-clause-safe
returns-clause-safe c =
    IfOk-weaker c.check_regular.result _ (λ _. MakesSafe c.args.names.now c.args.graph.now) (λ _ closed. makes_safe c.args.names.now c.args.graph.now c.args.cert.now closed) c.check_regular.ensures.ok
