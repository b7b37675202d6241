use Rattle.std.proofs.Common.{refl}
use Rattle.gcd_commands.specs.Checks.StopsJournal.{refused}
use Rattle.gcd_commands.proofs.checking.load_journal.Goals as goal

pub returns-in-Err-Refused-clause-stopped : goal.returns-in-Err-Refused-clause-stopped
returns-in-Err-Refused-clause-stopped g c =
    refused c.in_ok-text.text.items c.in-Err-Refused.line c.in-Err-Refused.cause c.in_ok-text.ensures.loaded
    (rw (c.deref.ensures.value, c.in-Err-Refused.field-0-is) at c.in-Err-Refused.ensures.cause) refl
