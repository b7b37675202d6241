use Rattle.std.proofs.Common.{◌∙◌, arith}
use Rattle.gcd_sets.proofs.Shown.{shown, word_within, word_read}
use Rattle.gcd_sets.proofs.set.BitSet.has.Goals as goal

pub index-requires : goal.index-requires
index-requires c = omega (arith, word_within (shown c.self.invariant c.self.view_is) c.args.i c.requires, c.self.inside.words.ok)

pub returns : goal.returns
returns c = c.has_bit.ensures ∙ word_read (shown c.self.invariant c.self.view_is) c.args.i c.index.result.now c.requires c.index.ensures
