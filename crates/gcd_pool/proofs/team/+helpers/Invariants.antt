use Rattle.std.proofs.Common.{◌+◌, ◌*◌, length}
use Rattle.gcd_pool.proofs.team.+helpers.Given as goal

abbrev pub decreases-serve_all : goal.decreases-serve_all
decreases-serve_all g l = 2 * length l.hands.now

abbrev pub decreases-others : goal.decreases-others
decreases-others g l = 2 * length l.rest.now + 1
