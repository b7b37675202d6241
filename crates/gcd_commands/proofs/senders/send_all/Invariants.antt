use Rattle.std.proofs.Common.{◌≡◌}
use Rattle.gcd_front.specs.Views.{mouth_of}
use Rattle.gcd_commands.specs.Senders.{told_by}
use Rattle.gcd_commands.proofs.senders.send_all.Given as goal

abbrev pub invariant-loop-k : goal.invariant-loop-k
invariant-loop-k g l = l.mouth ≡ mouth_of l.fn.mouth.front l.fn.mouth.sender (told_by l.fn.mouth.sender l.k)
