use Rattle.std.proofs.Common.{IfSome, subst}
use Rattle.gcd_plan.specs.PlanView.{view_of}
use Rattle.gcd_builder.specs.Bodies.{IsBody}
use Rattle.gcd_script.proofs.draft.Draft.add_act.Goals as goal

pub add_act-requires-clause-body : goal.add_act-requires-clause-body
add_act-requires-clause-body c =
    subst (λ o. IfSome o (IsBody (view_of c.args.self.now.plan.parts))) c.requires.right.fits.0 c.requires.sound.body
