use Rattle.std.proofs.Common.{◌≡◌, ◌||◌, take}
use Rattle.gcd_plan.specs.Effects.{parks}
use Rattle.gcd_plan.specs.Needs.{has_limit, is_of_block}
use Rattle.gcd_plan.proofs.Needed.{in_blocks, in_objects}
use Rattle.gcd_plan.proofs.needs.Needs.of.Given as goal

abbrev pub invariant-loop-b : goal.invariant-loop-b
invariant-loop-b l = record {
  marks : l.needs.marks ≡ in_blocks is_of_block (take l.b-index l.parts.blocks.items);
  limits : l.needs.limits ≡ in_blocks has_limit (take l.b-index l.parts.blocks.items);
  parks : l.needs.parks ≡ in_blocks parks (take l.b-index l.parts.blocks.items);
}

abbrev pub invariant-loop-o : goal.invariant-loop-o
invariant-loop-o l = record {
  marks : l.needs.marks ≡ (in_blocks is_of_block l.parts.blocks.items || in_objects is_of_block (take l.o-index l.parts.objects.items));
  limits : l.needs.limits ≡ (in_blocks has_limit l.parts.blocks.items || in_objects has_limit (take l.o-index l.parts.objects.items));
  parks : l.needs.parks ≡ (in_blocks parks l.parts.blocks.items || in_objects parks (take l.o-index l.parts.objects.items));
}
