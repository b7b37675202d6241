use Rattle.std.proofs.Common.{rules, arith}
use Rattle.gcd_steal.proofs.Placing.{twins}
use Rattle.gcd_steal.proofs.places.take_from_place.Goals as goal

pub split_seat-rest-requires : goal.split_seat-rest-requires
split_seat-rest-requires c = (search rules, omega arith, twins _ _ _)
