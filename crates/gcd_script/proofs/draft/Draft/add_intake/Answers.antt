use Rattle.std.proofs.Common.{◌+◌, length}
use Rattle.std.proofs.lemmas.Bool.{leb-true}
use Rattle.gcd_plan.specs.Limits.{max_blocks}
use Rattle.gcd_plan.specs.PlanView.{view_of}
use Rattle.gcd_script.proofs.draft.Draft.add_intake.Goals as goal

pub add_intake-requires-clause-room : goal.add_intake-requires-clause-room
add_intake-requires-clause-room c = leb-true (length (view_of c.args.self.now.plan.parts).blocks + c.args.count) max_blocks c.requires.right.room
