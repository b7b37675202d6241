use Rattle.std.proofs.Common.{ap}
use Rattle.gcd_front.proofs.Hearing.{mouths_of}
use Rattle.gcd_front.proofs.front.Front.new.Goals as goal

pub returns-clause-of_front : goal.returns-clause-of_front
returns-clause-of_front g c = (mouths_of _ c.args.senders _ c.in_ok-mouths.ensures.mouths, ap (λ v. v.front) c.in_ok-mouths.ensures.intake)
