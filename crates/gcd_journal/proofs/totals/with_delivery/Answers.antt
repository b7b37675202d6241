use Rattle.std.proofs.Common.{arith}
use Rattle.gcd_plan.proofs.Folded.{folded_low}
use Rattle.gcd_journal.proofs.totals.with_delivery.Goals as goal

pub folded-requires : goal.folded-requires
folded-requires c = let low = folded_low c.args.kind c.args.total.value c.from.result in omega (arith, low, c.from.ensures, c.requires.value)
