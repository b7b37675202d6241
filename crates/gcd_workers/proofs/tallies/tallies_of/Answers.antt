use Rattle.std.proofs.Common.{◌≡◌, subst, sym}
use Rattle.std.specs.Prelude.{All}
use Rattle.gcd_row.proofs.Tallies.{tallies_on, fresh_on}
use Rattle.gcd_workers.proofs.tallies.tallies_of.Goals as goal

pub loop-number-preserved : goal.loop-number-preserved
loop-number-preserved c = let i = c.loop-number.invariant in let e = c.in_ok-add_tally.ensures in record {
  kinds = rw e (tallies_on c.loop-number.tallies.items c.args.plan.now.objects c.loop-number.number c.kind.result c.kind.ensures i.kinds);
  fresh = subst (All (λ t. (t.times ≡ 0) × (t.total ≡ 0))) (sym e) (fresh_on c.loop-number.tallies.items c.kind.result i.fresh);
}
