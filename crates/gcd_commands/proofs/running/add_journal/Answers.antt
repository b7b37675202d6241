use Rattle.gcd_journal.proofs.LawfulSpoken.{lawful_spoken}
use Rattle.gcd_commands.proofs.running.add_journal.Goals as goal

pub write_journal-requires : goal.write_journal-requires
write_journal-requires c = lawful_spoken c.args.plan.now c.args.journal.now c.requires.valid c.requires.lawful
