use Rattle.std.proofs.Common.{sym, arith}
use Rattle.std.proofs.lemmas.Nat.{div-add-mod', mod_below}
use Rattle.gcd_sets.specs.Words.{is_set}
use Rattle.gcd_sets.proofs.Ranges.{found_first}
use Rattle.gcd_sets.proofs.Shown.{shown, next_of_none, passed_more, next_of_word, next_past}
use Rattle.gcd_sets.proofs.set.BitSet.next.Goals as goal

pub returns-then-self-eq0 : goal.returns-then-self-eq0
returns-then-self-eq0 c = next_of_none (shown c.self.invariant c.self.view_is) c.args.from c.if-self-eq0.true

pub loop-at-init : goal.loop-at-init
loop-at-init c =
    let parts = div-add-mod' c.args.from 64 in
    record {
      short = mod_below c.args.from 64 (omega arith);
      low = omega (arith, parts);
      passed = λ k low high. absurd (omega (arith, parts));
    }

pub lowest_from-requires : goal.lowest_from-requires
lowest_from-requires c = c.loop-at.invariant.short

pub number_below-requires-clause-bit : goal.number_below-requires-clause-bit
number_below-requires-clause-bit c =
    let to = (found_first (is_set c.index.result.now) c.loop-at.start _ c.in-Some.bit (sym c.in-Some.ensures)).to in
    let short = c.loop-at.invariant.short in
    omega (arith, to, short)

pub returns-in-Some : goal.returns-in-Some
returns-in-Some c =
    let inv = c.loop-at.invariant in
    next_of_word (shown c.self.invariant c.self.view_is) c.args.from c.loop-at.at c.loop-at.start c.index.result.now c.in-Some.bit c.number_below.result
    inv.low inv.short (omega (arith, c.loop-at-test.true, c.len-at-end.ensures, c.self.inside.words.ok)) c.index.ensures (sym c.in-Some.ensures) inv.passed
    c.number_below.ensures.within c.number_below.ensures.past

pub loop-at-preserved : goal.loop-at-preserved
loop-at-preserved c =
    let inv = c.loop-at.invariant in
    record {
      short = omega arith;
      low = omega (arith, inv.low, inv.short);
      passed =
          passed_more (shown c.self.invariant c.self.view_is) c.args.from c.loop-at.at c.loop-at.start c.index.result.now
          (omega (arith, c.loop-at-test.true, c.len-at-end.ensures, c.self.inside.words.ok)) c.index.ensures (sym c.in_default.ensures) inv.passed;
    }

pub returns : goal.returns
returns c =
    next_past (shown c.self.invariant c.self.view_is) c.args.from c.loop-at.at c.loop-at.start
    (omega (arith, c.loop-at-test.false, c.len-at-end.ensures, c.self.inside.words.ok)) c.loop-at.invariant.passed
