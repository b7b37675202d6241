use Rattle.std.proofs.Common.{◌≡◌, length}
use Rattle.gcd_workers.specs.Teams.{EachFrom}
use Rattle.gcd_workers.proofs.HandedOver.{IsFirst}
use Rattle.gcd_workers.proofs.tallies.tallies_by_object.Given as goal

abbrev pub invariant-loop-number : goal.invariant-loop-number
invariant-loop-number l = record {
  count : length l.tallies.items ≡ l.number;
  first : EachFrom (IsFirst l.plan) 0 l.tallies.items;
}
