-- What a name names in a plan.
use Rattle.std.specs.Prelude.{ℕ, if◌then◌else◌, List, Option, Some, None, position, option_map}
use Rattle.std.specs.Option.{option_and_then}
use Rattle.std.specs.Str.{bytes_eq}
use Rattle.gcd_plan.specs.Kinds.{is_queue}
use Rattle.gcd_plan.specs.PlanView.{PlanView}
use Rattle.gcd_plan.specs.declared.numbers.Blk.{Blk}
use Rattle.gcd_plan.specs.declared.numbers.Obj.{Obj}

-- the first block of the name
abbrev pub block_named : PlanView → List ℕ → Option Blk
block_named plan name = option_map (λ b. record { 0 = b }) (position (λ b. bytes_eq b.name name) plan.blocks)

-- the first object of the name
abbrev pub object_named : PlanView → List ℕ → Option Obj
object_named plan name = option_map (λ o. record { 0 = o }) (position (λ o. bytes_eq o.name name) plan.objects)

-- the first object of the name, where it is a queue
abbrev pub queue_named : PlanView → List ℕ → Option Obj
queue_named plan name = option_and_then (λ o. if is_queue plan o.0 then Some o else None) (object_named plan name)
