use Rattle.std.proofs.Common.{◌∙◌, ap, sym}
use Rattle.gcd_timer.specs.Listed.{nexts_of}
use Rattle.gcd_timer.proofs.Nexts.{nexts_first}
use Rattle.gcd_timer.proofs.timers.Timers.new.Goals as goal

pub invariant_of-result : goal.invariant_of-result
invariant_of-result c =
    nexts_first c.args.plan.now c.in_ok-new-2.field-0 c.objects.result c.in_ok-new-2.ensures c.objects.ensures.count ∙ ap nexts_of (sym c.in_ok-new.ensures)
