use Rattle.std.proofs.Common.{◌≡◌, ◌<◌, ℕ, false}
use Rattle.gcd_plan.specs.Kinds.{is_source}
use Rattle.gcd_journal.proofs.totals.has_source.Given as goal

abbrev pub invariant-loop-s : goal.invariant-loop-s
invariant-loop-s l = (k : ℕ) → k < l.s → is_source l.plan k ≡ false
