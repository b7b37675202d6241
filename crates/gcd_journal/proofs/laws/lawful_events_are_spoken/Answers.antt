use Rattle.gcd_journal.proofs.LawfulSpoken.{lawful_spoken}
use Rattle.gcd_journal.proofs.laws.lawful_events_are_spoken.Goals as goal

pub returns : goal.returns
returns c = λ plan h valid lawful. lawful_spoken plan h valid lawful
