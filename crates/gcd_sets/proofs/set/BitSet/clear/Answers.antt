use Rattle.std.proofs.Common.{sym, ◌∙◌, arith}
use Rattle.gcd_sets.proofs.Shown.{shown, word_within, shows_without}
use Rattle.gcd_sets.proofs.set.BitSet.clear.Goals as goal

pub index_mut-requires : goal.index_mut-requires
index_mut-requires c = omega (arith, word_within (shown c.self.invariant c.self.view_is) c.args.i c.requires, c.self.inside.words.ok)

pub invariant_of-self : goal.invariant_of-self
invariant_of-self c =
    (shows_without (shown c.self.invariant c.self.view_is) c.args.i c.index_mut.result.now c.requires (sym c.has.ensures ∙ c.if-has.true) c.index_mut.ensures.value).counted

pub returns-then-has : goal.returns-then-has
returns-then-has c =
    (shows_without (shown c.self.invariant c.self.view_is) c.args.i c.index_mut.result.now c.requires (sym c.has.ensures ∙ c.if-has.true) c.index_mut.ensures.value).seen
