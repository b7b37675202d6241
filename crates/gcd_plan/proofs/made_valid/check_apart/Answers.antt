use Rattle.std.proofs.Common.{⊎_elim, below_more}
use Rattle.std.specs.List.{count_by}
use Rattle.std.proofs.lemmas.Bool.{cases_lt, iff_false}
use Rattle.gcd_plan.specs.Made.{is_within, spans}
use Rattle.gcd_plan.specs.PlanView.{view_of}
use Rattle.gcd_plan.proofs.made_valid.check_apart.Goals as goal

pub loop-b-preserved : goal.loop-b-preserved
loop-b-preserved c =
    below_more _ _ c.loop-b.invariant
    (⊎_elim (λ more. absurd (iff_false c.is_made_twice.ensures c.if-is_made_twice.false more)) (λ few. few)
    (cases_lt 1 (count_by (is_within c.loop-b.b) (spans (view_of c.args.parts.now)))))
