use Rattle.std.proofs.Common.{List, subst, sym}
use Rattle.gcd_event.specs.declared.event.Event.{Event}
use Rattle.gcd_journal.specs.Spoken.{AreSpoken}
use Rattle.gcd_commands.proofs.large.text_of.Goals as goal

pub write_last_line-requires : goal.write_last_line-requires
write_last_line-requires c =
    subst (λ (h : List Event). AreSpoken c.args.plan.now h) (sym c.deref-2.ensures.value) c.requires.spoken
