use Rattle.gcd_pool.proofs.Serves.{new_hand}
use Rattle.gcd_pool.proofs.hand.Pool.hand.Goals as goal

pub returns-clause-ready : goal.returns-clause-ready
returns-clause-ready g c = new_hand g.S.Slot.shape g.S.Slot.gives c.args.self.now _ c.requires.pool c.requires.pass c.requires.bench c.requires.none c.requires.gathered
