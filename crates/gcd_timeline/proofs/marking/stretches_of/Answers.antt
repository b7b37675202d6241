use Rattle.std.proofs.Common.{ap, sym, ◌∙◌, ◌++◌}
use Rattle.std.specs.Option.{option_to_list}
use Rattle.gcd_timeline.specs.Marks.{stretch_at}
use Rattle.gcd_timeline.proofs.Ranges.{told_next}
use Rattle.gcd_timeline.proofs.marking.stretches_of.Goals as goal

pub loop-at-preserved : goal.loop-at-preserved
loop-at-preserved c =
    c.in_ok-add_stretch.ensures
    ∙ ap (λ xs. xs ++ option_to_list (stretch_at c.args.plan.now c.args.events.now c.args.run c.loop-at.at)) c.loop-at.invariant
    ∙ sym (told_next (stretch_at c.args.plan.now c.args.events.now c.args.run) c.args.from c.loop-at.at c.loop-at.auto.at)
