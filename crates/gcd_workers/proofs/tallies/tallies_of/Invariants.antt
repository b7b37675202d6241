use Rattle.std.proofs.Common.{◌≡◌, map, filter, take}
use Rattle.std.specs.Prelude.{All}
use Rattle.gcd_plan.specs.Kinds.{is_source_kind}
use Rattle.gcd_workers.proofs.tallies.tallies_of.Given as goal

abbrev pub invariant-loop-number : goal.invariant-loop-number
invariant-loop-number l = record {
  kinds : map (λ t. t.kind) l.tallies.items ≡ filter is_source_kind (take l.number (map (λ o. o.kind) l.plan.objects));
  fresh : All (λ t. (t.times ≡ 0) × (t.total ≡ 0)) l.tallies.items;
}
