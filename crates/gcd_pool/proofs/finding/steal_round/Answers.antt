use Rattle.std.proofs.Common.{inl, inr, refl, rules}
use Rattle.gcd_pool.proofs.Found.{found_next, none_next}
use Rattle.gcd_pool.proofs.finding.steal_round.Goals as goal

pub loop-step-init : goal.loop-step-init
loop-step-init g c = (c.requires, refl, refl, (0, refl))

pub returns-in-Some-clause-found : goal.returns-in-Some-clause-found
returns-in-Some-clause-found g c =
    found_next c.args.bench.now c.loop-step.bench c.steal.new.bench c.in-Some.drain c.loop-step.invariant.3 (inr (inl (c.victim_at-victim.result, c.steal.ensures.same, c.in-Some.ensures.taken)))

pub loop-step-preserved : goal.loop-step-preserved
loop-step-preserved g c = (
  c.steal.ensures.bench,
  search rules,
  search rules,
  none_next c.args.bench.now c.loop-step.bench c.steal.new.bench c.loop-step.invariant.3 (inr (inl (c.victim_at-victim.result, c.steal.ensures.same, search rules))),
)
