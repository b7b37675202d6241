use Rattle.std.proofs.Common.{rules}
use Rattle.gcd_outer.proofs.TextLemmas.{bytes_of-texts_of}
use Rattle.gcd_outer.proofs.text_log.TextLog.byte_count.Goals as goal

pub returns : goal.returns
returns c = rw (← c.self.view_is, bytes_of-texts_of c.self.inside.notes.items c.self.inside.bytes.items c.self.invariant.whole) (search rules)
