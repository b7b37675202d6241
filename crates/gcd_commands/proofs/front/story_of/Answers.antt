use Rattle.std.proofs.Common.{◌≤◌, ℕ, List, length, subst, sym}
use Rattle.gcd_plan.specs.Limits.{max_blocks}
use Rattle.gcd_event.specs.declared.event.Event.{Event}
use Rattle.gcd_history.specs.Intake.{blocks_of_sender}
use Rattle.gcd_journal.specs.Spoken.{AreSpoken}
use Rattle.gcd_history.specs.Report.{front_text}
use Rattle.gcd_commands.specs.Fronts.{value_or_0}
use Rattle.gcd_commands.proofs.front.story_of.Goals as goal

pub text_of-text-requires-clause-few : goal.text_of-text-requires-clause-few
text_of-text-requires-clause-few c =
    subst (λ (h : List Event). (s : ℕ) → length (blocks_of_sender h s) ≤ max_blocks) (sym c.deref.ensures.value) c.requires.few

pub text_of-text-requires-clause-spoken : goal.text_of-text-requires-clause-spoken
text_of-text-requires-clause-spoken c = subst (λ (h : List Event). AreSpoken c.args.plan h) (sym c.deref.ensures.value) c.requires.spoken

pub returns-clause-told : goal.returns-clause-told
returns-clause-told c =
    let told = rw (c.deref.ensures.value, c.deref-2.ensures.value) at c.text_of-text.ensures in
    c.ran.ensures.told (front_text c.args.plan c.args.senders (value_or_0 c.args.run.values.items) c.args.run.state c.args.run.journal.items) told
