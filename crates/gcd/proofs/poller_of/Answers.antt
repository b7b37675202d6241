use Rattle.std.proofs.Common.{◌∙◌, ap}
use Rattle.gcd_outer.specs.Tells.{PollerState}
use Rattle.gcd.proofs.poller_of.Goals as goal

pub returns : goal.returns
returns g c = λ feed. ap (λ (s : PollerState). s.watched feed) c.new-2.ensures ∙ c.in-Ok.ensures.watched feed
