use Rattle.std.proofs.Common.{ap, ◌∙◌, arith}
use Rattle.gcd_sets.specs.Words.{is_in_words}
use Rattle.gcd_sets.proofs.Numbers.{word_within, with_here, with_other}
use Rattle.gcd_sets.proofs.small.SmallSet.set.Goals as goal

pub returns-clause-there : goal.returns-clause-there
returns-clause-there c =
    with_here c.self.inside.words c.args.i (word_within c.self.inside.words 16 c.args.i c.self.told (omega (arith, c.requires)))

pub returns-clause-others : goal.returns-clause-others
returns-clause-others c = λ k ne.
    with_other c.self.inside.words c.args.i (word_within c.self.inside.words 16 c.args.i c.self.told (omega (arith, c.requires))) k ne
    ∙ ap (λ words. is_in_words words k) c.self.view_is
