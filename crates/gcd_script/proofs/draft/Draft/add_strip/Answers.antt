use Rattle.std.proofs.lemmas.Bool.{and_parts, leb-true, ltb-true}
use Rattle.gcd_script.proofs.draft.Draft.add_strip.Goals as goal

pub add_strip-requires-clause-room : goal.add_strip-requires-clause-room
add_strip-requires-clause-room c = leb-true _ _ (and_parts _ _ c.requires.right.room).0

pub add_strip-requires-clause-strips : goal.add_strip-requires-clause-strips
add_strip-requires-clause-strips c = ltb-true _ _ (and_parts _ _ c.requires.right.room).1
