use Rattle.std.proofs.lemmas.Bool.{and_parts}
use Rattle.gcd_script.proofs.draft.Draft.add_cancel.Goals as goal

pub add_cancel-requires-clause-lacks : goal.add_cancel-requires-clause-lacks
add_cancel-requires-clause-lacks c = (and_parts _ _ c.requires.right.untaken).1
