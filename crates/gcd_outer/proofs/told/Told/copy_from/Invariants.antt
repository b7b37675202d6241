use Rattle.std.proofs.Common.{◌≡◌, take}
use Rattle.gcd_outer.proofs.told.Told.copy_from.Given as goal

abbrev pub invariant-loop-tell : goal.invariant-loop-tell
invariant-loop-tell l = l.self-inside.tells.items ≡ take l.tell-index l.tell-items
