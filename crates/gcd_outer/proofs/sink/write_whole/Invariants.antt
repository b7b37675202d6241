use Rattle.std.proofs.Common.{◌≡◌, ◌≤◌, ◌-◌, ◌++◌, true, length, take}
use Rattle.gcd_outer.proofs.sink.write_whole.Given as goal

abbrev pub invariant-loop-done : goal.invariant-loop-done
invariant-loop-done g l = record {
  within : l.done ≤ length l.text;
  taken : g.K.Sink.tells ≡ true → (g.K.Sink.state l.out).taken ≡ (g.K.Sink.state l.initial.out).taken ++ take l.done l.text;
  faults : (g.K.Sink.state l.initial.out).faults ≤ (g.K.Sink.state l.out).faults;
}

abbrev pub decreases-loop-done : goal.decreases-loop-done
decreases-loop-done g l = length l.text - l.done
