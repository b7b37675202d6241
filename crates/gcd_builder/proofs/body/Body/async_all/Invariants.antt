use Rattle.std.proofs.Common.{◌≡◌, map, take}
use Rattle.gcd_plan.specs.declared.act.Act.TheVariants.{Async}
use Rattle.gcd_builder.specs.Chains.{GoesAll}
use Rattle.gcd_builder.proofs.body.Body.async_all.Given as goal

abbrev pub invariant-loop-block : goal.invariant-loop-block
invariant-loop-block l = record {
  builder : l.body.builder.ghost_name ≡ l.fn.self.builder.ghost_name;
  run : l.body.run ≡ l.fn.self.run;
  goes : GoesAll (map (Async l.queue) (take l.block-index l.blocks)) l.fn.self l.body;
}
