use Rattle.std.proofs.Common.{inl}
use Rattle.gcd_pool.proofs.Found.{found_after, found_at_once, none_after_none, not_woken, woken}
use Rattle.gcd_pool.proofs.finding.find_drain.Goals as goal

pub returns-in-Some-clause-found : goal.returns-in-Some-clause-found
returns-in-Some-clause-found g c = found_at_once c.args.bench.now c.pop.new.bench c.in-Some.drain (inl (c.pop.ensures.same.0, c.in-Some.ensures.taken))

pub returns-in-Some-steal_round-clause-found : goal.returns-in-Some-steal_round-clause-found
returns-in-Some-steal_round-clause-found g c =
    found_after c.args.bench.now c.pop.new.bench c.steal_round.new.bench c.in-Some-steal_round.drain (inl (c.pop.ensures.same.0, c.in_default.ensures.empty.0)) c.in-Some-steal_round.ensures.found

pub returns-clause-found : goal.returns-clause-found
returns-clause-found g c =
    let before = none_after_none c.args.bench.now c.pop.new.bench c.steal_round.new.bench (inl (c.pop.ensures.same.0, c.in_default.ensures.empty.0)) c.in_default-steal_round.ensures.none in
    woken _ c.wake.result c.args.bench.now c.steal_round.new.bench c.wake.new.bench c.args.node before c.wake.ensures.same c.wake.ensures.drain c.wake.ensures.asleep

pub returns-clause-none : goal.returns-clause-none
returns-clause-none g c =
    let before = none_after_none c.args.bench.now c.pop.new.bench c.steal_round.new.bench (inl (c.pop.ensures.same.0, c.in_default.ensures.empty.0)) c.in_default-steal_round.ensures.none in
    not_woken _ c.wake.result c.args.bench.now c.steal_round.new.bench c.wake.new.bench c.args.node.0 before c.wake.ensures.same c.wake.ensures.awake
