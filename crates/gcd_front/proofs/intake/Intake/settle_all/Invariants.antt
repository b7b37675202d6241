use Rattle.std.specs.Prelude.{◌≡◌, ◌<◌, ℕ, Some, slice_get, take}
use Rattle.gcd_front.specs.Fronts.{IsSettled}
use Rattle.gcd_front.specs.Views.{LeftView, with_accounts}
use Rattle.gcd_front.proofs.intake.Intake.settle_all.Given as goal

abbrev pub invariant-loop-place : goal.invariant-loop-place
invariant-loop-place g l = record {
  lefts : l.lefts ≡ l.fn.lefts;
  intake : l.self ≡ with_accounts l.fn.self (take l.place l.fn.lefts);
  settled : (k : ℕ) (x : LeftView g.row.S.Denot) → k < l.place → slice_get l.fn.lefts k ≡ Some x → IsSettled l.fn.self x;
}
