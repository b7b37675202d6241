use Rattle.std.proofs.Common.{◌≡◌}
use Rattle.gcd_steal.specs.Deques.{WasEmpty}
use Rattle.gcd_steal.specs.Racks.{own_account}
use Rattle.crossbeam_deque.specs.Handles.{worker_view}
use Rattle.gcd_steal.proofs.Benching.{got_one}
use Rattle.gcd_steal.proofs.bench.Rack.pop.Goals as goal

pub returns-clause-drain : goal.returns-clause-drain
returns-clause-drain c = let v = own_account c.args.bench.now in let w = worker_view c.pop.new.self.worker in
    got_one c.pop.result ((w ≡ v) × WasEmpty v) v w _ _ c.args.bench.now.deque.owner.1 c.requires.rack c.pop.ensures.rule
