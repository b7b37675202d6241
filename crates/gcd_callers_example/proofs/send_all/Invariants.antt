use Rattle.std.proofs.Common.{◌≡◌, ◌++◌, length}
use Rattle.gcd_front.specs.Views.{mouth_of}
use Rattle.gcd_callers_example.proofs.send_all.Given as goal

abbrev pub invariant-loop : goal.invariant-loop
invariant-loop g l = record {
  mouth : l.mouth ≡ mouth_of l.fn.mouth.front l.fn.mouth.sender l.mouth.sent;
  split : l.mouth.sent ++ l.lines.items ≡ l.fn.lines.items;
  count : length l.mouth.sent ≡ l.counter;
}
