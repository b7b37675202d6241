use Rattle.std.proofs.Common.{◌≡◌, length}
use Rattle.gcd_jobs.specs.Contents.{contents}
use Rattle.gcd_workers.specs.Opened.{IsCellOf}
use Rattle.gcd_workers.specs.Teams.{EachFrom}
use Rattle.gcd_workers.proofs.opening.cells_after.Given as goal

abbrev pub invariant-loop-slot : goal.invariant-loop-slot
invariant-loop-slot l = record {
  count : length l.cells.items ≡ l.slot;
  cells : EachFrom (IsCellOf l.over.plan.now (contents l.over.files.now) l.kept.journal.items l.kept.values.items) 0 l.cells.items;
}
