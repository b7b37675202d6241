use Rattle.std.proofs.Common.{◌≡◌, drop}
use Rattle.gcd_script.proofs.Picked.{picked}
use Rattle.gcd_script.proofs.keyword.pick.Given as goal

abbrev pub invariant-loop-spelled : goal.invariant-loop-spelled
invariant-loop-spelled g l = picked l.rows l.word ≡ picked (drop l.spelled-index l.rows) l.word
