use Rattle.std.specs.Prelude.{◌≡◌, ◌≤◌, ◌+◌, ◌++◌, List, All, length, vec_capacity}
use Rattle.gcd_front.specs.Fronts.{IsLeftOf, IsMouthOf}
use Rattle.gcd_front.specs.Views.{MouthView}
use Rattle.gcd_workers.specs.CalledRuns.{lefts_of}
use Rattle.gcd_workers.proofs.callers.shut_all.Given as goal

abbrev pub invariant-loop-shut : goal.invariant-loop-shut
invariant-loop-shut g l = record {
  mouths : All (IsMouthOf l.front) l.mouths.items;
  of_front : All (IsLeftOf l.front) l.lefts.items;
  count : length l.mouths.items + l.shut ≡ length l.fn.mouths.items;
  room : length l.lefts.items + length l.mouths.items ≤ vec_capacity l.lefts;
  done : List (MouthView g.row.X.Denot);
  all : l.mouths.items ++ done ≡ l.fn.mouths.items;
  left : l.lefts.items ≡ lefts_of done;
}
