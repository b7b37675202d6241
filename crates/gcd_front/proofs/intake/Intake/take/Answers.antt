use Rattle.std.proofs.Common.{sym, ◌∙◌, refl}
use Rattle.gcd_front.proofs.Hearing.{same_tables, is_intake_taking}
use Rattle.gcd_front.proofs.intake.Intake.take.Goals as goal

pub invariant_of-self : goal.invariant_of-self
invariant_of-self g c = let tables = same_tables c.self.inside c.front.inside _ _ c.self.view_is c.front.view_is c.requires.intake in
    is_intake_taking c.self.inside _ c.self.invariant refl refl (c.pop_job.ensures.intake.0 ∙ sym tables.0) c.pop_job.ensures.intake.1 c.pop_job.ensures.kept
