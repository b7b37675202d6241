use Rattle.std.proofs.Common.{◌≡◌, ℕ, cond, length, get_or, None, Some}
use Rattle.gcd_apply.proofs.Numbering.{is_between}
use Rattle.gcd_apply.proofs.strips.number.Given as goal

abbrev pub invariant-loop-b : goal.invariant-loop-b
invariant-loop-b l = record {
  long : length l.numbers.items ≡ length l.initial.numbers.items;
  told : (k : ℕ) → get_or l.numbers.items k None ≡ cond (is_between l.strip.first l.b k) (Some l.a) (get_or l.initial.numbers.items k None);
}
