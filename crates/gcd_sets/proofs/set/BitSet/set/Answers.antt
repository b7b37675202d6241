use Rattle.std.proofs.Common.{sym, ◌∙◌, arith}
use Rattle.gcd_sets.proofs.Shown.{shown, word_within, room_for_one, shows_with}
use Rattle.gcd_sets.proofs.set.BitSet.set.Goals as goal

pub index_mut-requires : goal.index_mut-requires
index_mut-requires c = omega (arith, word_within (shown c.self.invariant c.self.view_is) c.args.i c.requires, c.self.inside.words.ok)

pub overflow_add-self : goal.overflow_add-self
overflow_add-self c =
    omega (arith, room_for_one (shown c.self.invariant c.self.view_is) c.args.i c.requires (sym c.has.ensures ∙ c.if-not-has.true), c.self.ranges)

pub invariant_of-self : goal.invariant_of-self
invariant_of-self c =
    (shows_with (shown c.self.invariant c.self.view_is) c.args.i c.index_mut.result.now c.requires (sym c.has.ensures ∙ c.if-not-has.true) c.index_mut.ensures.value).counted

pub returns-then-not-has : goal.returns-then-not-has
returns-then-not-has c =
    (shows_with (shown c.self.invariant c.self.view_is) c.args.i c.index_mut.result.now c.requires (sym c.has.ensures ∙ c.if-not-has.true) c.index_mut.ensures.value).seen
