use Rattle.std.proofs.Common.{ap}
use Rattle.gcd_front.proofs.mouth.Mouth.shut.Goals as goal

pub shut_pass-note-requires-clause-sends : goal.shut_pass-note-requires-clause-sends
shut_pass-note-requires-clause-sends g c = (c.self.inside.sender, ap (λ v. v.sends) c.self.invariant.sends)
