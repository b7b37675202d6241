use Rattle.std.proofs.Common.{◌≡◌, ◌≤◌}
use Rattle.std.specs.Prelude.{map}
use Rattle.std.specs.List.{range_with_len}
use Rattle.gcd_rounds.specs.Ran.{sources_before}
use Rattle.gcd_rounds.proofs.places.places_of.Given as goal

abbrev pub invariant-loop-o : goal.invariant-loop-o
invariant-loop-o l = record {
  places : l.places.items ≡ map (sources_before l.plan) (range_with_len 0 l.o);
  sources : l.sources ≡ sources_before l.plan l.o;
  few : l.sources ≤ l.o;
}
