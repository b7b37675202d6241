use Rattle.std.proofs.Common.{sym, subst, rules, List}
use Rattle.gcd_steal.specs.declared.bench.Bench.{Bench}
use Rattle.gcd_steal.specs.Racks.{DequeStealer}
use Rattle.gcd_steal.specs.Making.{AreOpened}
use Rattle.gcd_steal.proofs.Opening.{opened_more}
use Rattle.gcd_steal.proofs.make.open_benches.Goals as goal

pub loop-number-preserved : goal.loop-number-preserved
loop-number-preserved c = let i = c.loop-number.invariant in let places = c.args.places.now.shared.table_id in let rack = c.args.rack.now in record {
  table = search rules;
  unseen = search rules;
  benches = search rules;
  thieves = search rules;
  opened = subst (λ (l : List DequeStealer × List Bench). AreOpened places rack c.args.most l.0 l.1) (λ k. (sym c.in_ok-push-2.ensures.items k, sym c.in_ok-push.ensures.items k))
      (opened_more places rack c.args.most c.loop-number.thieves.items c.loop-number.benches.items c.in_ok-bench.thief c.in_ok-bench.bench c.loop-number.number i.thieves i.benches i.opened c.in_ok-bench.ensures.opened);
}
