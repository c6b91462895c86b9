use Rattle.std.proofs.Common.{length}
use Rattle.cfg_lower.proofs.places.+spot_of.Given as goal

abbrev pub decreases-spot_of : goal.decreases-spot_of
decreases-spot_of l = length l.path.now
