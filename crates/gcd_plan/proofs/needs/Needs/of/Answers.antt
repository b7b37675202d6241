use Rattle.std.proofs.Common.{◌||◌, length, ap, ◌∙◌, arith, take_all}
use Rattle.gcd_plan.specs.Effects.{parks}
use Rattle.gcd_plan.specs.Needs.{has_limit, is_of_block}
use Rattle.gcd_plan.proofs.Needed.{in_blocks, in_objects, some_seen}
use Rattle.gcd_plan.proofs.needs.Needs.of.Goals as goal

pub returns : goal.returns
returns c =
    let blocks = c.args.parts.now.blocks.items in
    let objects = c.args.parts.now.objects.items in
    let long = ap length c.deref-o-items.ensures.value in
    let whole = take_all c.loop-o.o-index objects (omega (arith, long, c.loop-o-test.false)) in
    record {
      marks = c.loop-o.invariant.marks ∙ ap (λ l. in_blocks is_of_block blocks || in_objects is_of_block l) whole ∙ some_seen is_of_block blocks objects;
      limits = c.loop-o.invariant.limits ∙ ap (λ l. in_blocks has_limit blocks || in_objects has_limit l) whole ∙ some_seen has_limit blocks objects;
      parks = c.loop-o.invariant.parks ∙ ap (λ l. in_blocks parks blocks || in_objects parks l) whole ∙ some_seen parks blocks objects;
    }
