use Rattle.std.proofs.Common.{refl}
use Rattle.gcd_system.proofs.SlotLemmas.{read-after_none}
use Rattle.gcd_system.proofs.net_poller.NetPoller.read.Goals as goal

pub returns-clause-told : goal.returns-clause-told
returns-clause-told g c = read-after_none _ _ _ _ _ refl c.in_ok-accept.ensures.told c.read_all.ensures
