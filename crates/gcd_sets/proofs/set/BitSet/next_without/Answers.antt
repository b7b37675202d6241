use Rattle.std.proofs.Common.{sym, ◌∙◌, arith}
use Rattle.std.proofs.lemmas.Nat.{div-add-mod', mod_below}
use Rattle.gcd_sets.specs.Words.{is_set}
use Rattle.gcd_sets.proofs.Ranges.{found_first}
use Rattle.gcd_sets.proofs.Shown.{shown}
use Rattle.gcd_sets.proofs.Passing.{none_in_word, first_in_word, none_at_all}
use Rattle.gcd_sets.proofs.Without.{other_within, without_of_none, says_which, found_in_sets}
use Rattle.gcd_sets.proofs.set.BitSet.next_without.Goals as goal

pub returns-then-self-eq0 : goal.returns-then-self-eq0
returns-then-self-eq0 c =
    without_of_none (shown c.self.invariant c.self.view_is) c.args.other.now c.args.from c.if-self-eq0.true

pub loop-at-init : goal.loop-at-init
loop-at-init c =
    let parts = div-add-mod' c.args.from 64 in
    record {
      short = mod_below c.args.from 64 (omega arith);
      low = omega (arith, parts);
      passed = λ k low high. absurd (omega (arith, parts));
    }

pub index-requires-in-loop-at : goal.index-requires-in-loop-at
index-requires-in-loop-at c =
    let within = other_within (shown c.self.invariant c.self.view_is) (shown c.other.invariant c.other.view_is) c.requires c.loop-at.at
    (omega (arith, c.loop-at-test.true, c.len-at-end.ensures, c.self.inside.words.ok)) in
    omega (arith, within, c.other.inside.words.ok)

pub lowest_from-requires : goal.lowest_from-requires
lowest_from-requires c = c.loop-at.invariant.short

pub number_below-requires-clause-bit : goal.number_below-requires-clause-bit
number_below-requires-clause-bit c =
    let to = (found_first (is_set _) c.loop-at.start _ c.in-Some.bit (sym c.in-Some.ensures)).to in
    let short = c.loop-at.invariant.short in
    omega (arith, to, short)

pub returns-in-Some : goal.returns-in-Some
returns-in-Some c =
    let inv = c.loop-at.invariant in
    let says = says_which (shown c.self.invariant c.self.view_is) (shown c.other.invariant c.other.view_is) c.requires c.loop-at.at c.index.result.now c.index-in-loop-at.result.now
    (omega (arith, c.loop-at-test.true, c.len-at-end.ensures, c.self.inside.words.ok)) c.index.ensures c.index-in-loop-at.ensures (omega arith) in
    first_in_word _ c.loop-at.at _ says c.self.inside.len c.args.from c.loop-at.start c.in-Some.bit c.number_below.result
    inv.low inv.short (sym c.in-Some.ensures) inv.passed c.number_below.ensures.within c.number_below.ensures.past
    ∙ found_in_sets (shown c.self.invariant c.self.view_is) (shown c.other.invariant c.other.view_is) c.requires c.args.from

pub loop-at-preserved : goal.loop-at-preserved
loop-at-preserved c =
    let inv = c.loop-at.invariant in
    let says = says_which (shown c.self.invariant c.self.view_is) (shown c.other.invariant c.other.view_is) c.requires c.loop-at.at c.index.result.now c.index-in-loop-at.result.now
    (omega (arith, c.loop-at-test.true, c.len-at-end.ensures, c.self.inside.words.ok)) c.index.ensures c.index-in-loop-at.ensures (omega arith) in
    record {
      short = omega arith;
      low = omega (arith, inv.low, inv.short);
      passed = none_in_word _ c.loop-at.at _ says c.args.from c.loop-at.start (sym c.in_default.ensures) inv.passed;
    }

pub returns : goal.returns
returns c =
    let enough = c.self.invariant.enough in
    none_at_all _ c.self.inside.len c.args.from c.loop-at.at c.loop-at.start
    (omega (arith, c.loop-at-test.false, c.len-at-end.ensures, c.self.inside.words.ok, enough)) c.loop-at.invariant.passed
    ∙ found_in_sets (shown c.self.invariant c.self.view_is) (shown c.other.invariant c.other.view_is) c.requires c.args.from
