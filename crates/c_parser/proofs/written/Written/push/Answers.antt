-- The token behind the others has their number as its place.
use Rattle.std.proofs.Common.{length, ap}
use Rattle.c_parser.proofs.PrintWork.{one_pushed}
use Rattle.c_parser.proofs.written.Written.push.Goals as goal

pub invariant_of-self : goal.invariant_of-self
invariant_of-self c =
    one_pushed c.push.result c.self.inside.list c.push.new.self c.args.kind (length c.as_slice-start.result.now) c.self.invariant
    (ap length c.as_slice-start.ensures) c.push.ensures.ok c.push.ensures.err
