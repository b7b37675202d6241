use Rattle.std.proofs.Common.{◌≡◌, map}
use Rattle.gcd_row.specs.declared.cell.Cell.TheVariants.{Body}
use Rattle.gcd_row.proofs.make.block_cells.Given as goal

abbrev pub invariant-loop-job : goal.invariant-loop-job
invariant-loop-job g l = l.cells.items ≡ map (λ job. Body job) l.yielded
