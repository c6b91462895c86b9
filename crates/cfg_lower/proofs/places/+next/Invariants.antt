use Rattle.std.proofs.Common.{◌+◌, ◌*◌, length}
use Rattle.cfg_lower.proofs.places.+next.Given as goal

abbrev pub decreases-next : goal.decreases-next
decreases-next l = 2 * length l.path.now

abbrev pub decreases-next_in_part : goal.decreases-next_in_part
decreases-next_in_part l = 2 * length l.path.now + 1
