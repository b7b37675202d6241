use Rattle.std.proofs.Common.{rules}
use Rattle.gcd_steal.proofs.Placing.{twins}
use Rattle.gcd_steal.proofs.make.open_bench.Goals as goal

pub split_seat-requires : goal.split_seat-requires
split_seat-requires c = (search rules, search rules, twins _ _ _)
