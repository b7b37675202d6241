use Rattle.std.proofs.Common.{◌++◌, ◌∙◌, map, ap, arith}
use Rattle.std.proofs.lemmas.List.{take_all}
use Rattle.gcd_event.specs.declared.event.Event.{Event}
use Rattle.gcd_history.specs.Intake.{blocks_of_sender}
use Rattle.gcd_commands.specs.Fronts.{value_or_0, values_at}
use Rattle.gcd_commands.proofs.Lines.{values_more}
use Rattle.gcd_commands.proofs.front.values_of_sender.Goals as goal

pub loop-event-preserved : goal.loop-event-preserved
loop-event-preserved c =
    values_more c.args.values.now c.args.journal.now c.args.sender c.loop-event.event-index _ c.loop-event.made.items _ c.loop-event-test.true
    c.loop-event.invariant
    (c.in_ok-add_value.ensures ∙ ap (λ (e : Event). c.loop-event.made.items ++ values_at c.args.values.now c.args.sender e) c.event-item.is)

pub returns : goal.returns
returns c =
    c.loop-event.invariant
    ∙ ap (λ l. map (λ b. value_or_0 c.args.values.now b.0) (blocks_of_sender l c.args.sender)) (take_all c.loop-event.event-index c.args.journal.now (omega arith))
