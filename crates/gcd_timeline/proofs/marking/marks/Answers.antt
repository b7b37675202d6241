use Rattle.std.proofs.Common.{ap, sym, ◌∙◌, ◌++◌}
use Rattle.std.specs.Option.{option_to_list}
use Rattle.gcd_timeline.specs.Marks.{mark_at}
use Rattle.gcd_timeline.proofs.Ranges.{told_first}
use Rattle.gcd_timeline.proofs.marking.marks.Goals as goal

pub loop-at-preserved : goal.loop-at-preserved
loop-at-preserved c =
    c.in_ok-add_mark.ensures
    ∙ ap (λ xs. xs ++ option_to_list (mark_at c.args.plan.now c.args.events.now c.loop-at.at)) c.loop-at.invariant
    ∙ sym (told_first (mark_at c.args.plan.now c.args.events.now) c.loop-at.at)
