use Rattle.std.proofs.Common.{rules}
use Rattle.gcd_outer.proofs.TextLemmas.{length-texts_of}
use Rattle.gcd_outer.proofs.text_log.TextLog.len.Goals as goal

pub returns : goal.returns
returns c = rw (← c.self.view_is, length-texts_of) (search rules)
