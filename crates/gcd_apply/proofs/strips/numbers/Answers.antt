use Rattle.std.proofs.Common.{arith, ◌-◌, ap, sym, ◌∙◌, length, get_or, None}
use Rattle.std.specs.List.{slice_get}
use Rattle.gcd_plan.specs.PlanView.{strip_view}
use Rattle.gcd_apply.proofs.Numbering.{number_step, told_all}
use Rattle.gcd_plan.proofs.Strips.{strip_there, strip_low}
use Rattle.gcd_apply.proofs.strips.numbers.Goals as goal

pub number-requires : goal.number-requires
number-requires c =
    let few = c.blocks-2.ensures.valid.few_blocks in
    let long = c.loop-k.invariant.long in
    let a = length c.strips-strips.result.now - 1 - c.loop-k.k in
    let there = strip_there c.strips-strips.result.now a c.index-strips-a.result (omega (arith, c.loop-k-test.true)) c.index-strips-a.is in
    let low = strip_low c.args.plan.now a (strip_view c.index-strips-a.result) c.blocks-2.ensures.valid (ap (λ xs. slice_get xs a) (sym c.strips-strips.ensures.strips) ∙ there) in
    record { blocks = omega (arith, low, long); few = omega (arith, few, long) }

pub loop-k-preserved : goal.loop-k-preserved
loop-k-preserved c =
    let a = length c.strips-strips.result.now - 1 - c.loop-k.k in
    let there = strip_there c.strips-strips.result.now a c.index-strips-a.result (omega (arith, c.loop-k-test.true)) c.index-strips-a.is in
    let many = c.number.ensures.as_many in
    record {
      long = many ∙ c.loop-k.invariant.long;
      told = λ b low.
          c.number.ensures.numbered b
          ∙ number_step c.strips-strips.result.now c.loop-k.k b (get_or c.loop-k.numbers.items b None) c.index-strips-a.result c.loop-k-test.true there (c.loop-k.invariant.told b (omega (arith, low, many)));
    }

pub returns : goal.returns
returns c =
    told_all c.args.plan.now c.strips-strips.result.now c.loop-k.numbers.items c.loop-k.k (omega (arith, c.loop-k-test.false)) c.strips-strips.ensures.strips c.loop-k.invariant.long c.loop-k.invariant.told
    (sym c.is_empty.ensures ∙ c.if-is_empty.false)
