use Rattle.std.proofs.Common.{◌≡◌, ◌<◌, ℕ}
use Rattle.gcd_front.specs.Fronts.{KnowsAccount, LearnsMore}
use Rattle.gcd_front.proofs.intake.Intake.all_shut.Given as goal

abbrev pub invariant-loop-sender : goal.invariant-loop-sender
invariant-loop-sender g l = record {
  more : LearnsMore l.fn.self l.self;
  heard : l.self.heard ≡ l._sender;
  opens : l.self.opens ≡ l.fn.self.opens;
  known : (s : ℕ) → s < l._sender → KnowsAccount s l.self;
}
