use Rattle.std.proofs.Common.{◌∙◌, refl}
use Rattle.gcd_plan.specs.declared.act.Act.TheVariants.{Async}
use Rattle.gcd_builder.specs.Chains.GoesAll.{none}
use Rattle.gcd_builder.proofs.Chained.{goes_next, map_next}
use Rattle.gcd_builder.proofs.body.Body.async_all.Goals as goal

pub loop-block-init : goal.loop-block-init
loop-block-init c = record { builder = refl; run = refl; goes = none }

pub loop-block-preserved : goal.loop-block-preserved
loop-block-preserved c = record {
  builder = c.act-body.ensures.builder ∙ c.loop-block.invariant.builder;
  run = c.act-body.ensures.run ∙ c.loop-block.invariant.run;
  goes = goes_next c.loop-block.invariant.goes c.loop-block.invariant.run c.act-body.ensures.goes
      (map_next (Async c.args.queue) c.args.blocks.now c.loop-block.block-index _ c.loop-block-test.true);
}
