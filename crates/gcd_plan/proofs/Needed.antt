-- Whether some act of a plan passes a test, and of how many blocks a run then keeps something.
use Rattle.std.proofs.Common.{◌≡◌, ℕ, ◌≤◌, Bool, true, false, ◌||◌, cond, List, length, map, ◌⊎◌, inl, inr, refl, sym, ap, ◌∙◌, arith}
use Rattle.std.specs.List.{list_any}
use Rattle.gcd_plan.specs.PlanView.{PlanView, blk_view, obj_view}
use Rattle.gcd_plan.specs.Needs.{is_in_block, is_in_handler, has_act, room}
use Rattle.gcd_plan.specs.declared.act.Act.{Act}
use Rattle.gcd_plan.specs.declared.parts.BlkPart.{BlkPart}
use Rattle.gcd_plan.specs.declared.parts.ObjPart.{ObjPart}
use Rattle.gcd_plan.proofs.MadeBlocks.{any_mapped}

abbrev pub in_blocks : (Act → Bool) → List BlkPart → Bool
in_blocks p = list_any (λ b. list_any p b.acts.items)

abbrev pub in_objects : (Act → Bool) → List ObjPart → Bool
in_objects p = list_any (λ o. list_any p o.handler.items)

-- what the parts say, the plan's view says
pub some_seen : (p : Act → Bool) (blocks : List BlkPart) (objects : List ObjPart)
    → (in_blocks p blocks || in_objects p objects) ≡ (list_any (is_in_block p) (map blk_view blocks) || list_any (is_in_handler p) (map obj_view objects))
some_seen p blocks objects =
    ap (λ v. v || in_objects p objects) (sym (any_mapped (is_in_block p) blk_view blocks))
    ∙ ap (λ v. list_any (is_in_block p) (map blk_view blocks) || v) (sym (any_mapped (is_in_handler p) obj_view objects))

-- of all blocks, or of none
pub room_cases : (p : Act → Bool) (plan : PlanView) → (room p plan ≡ length plan.blocks) ⊎ (room p plan ≡ 0)
unfolding room
room_cases p plan =
    elim (has_act p plan) as (λ v. (cond {A = ℕ} v (length plan.blocks) 0 ≡ length plan.blocks) ⊎ (cond {A = ℕ} v (length plan.blocks) 0 ≡ 0)) [ true ↦ inl refl | false ↦ inr refl ]

pub room_low : (p : Act → Bool) (plan : PlanView) → room p plan ≤ length plan.blocks
unfolding room
room_low p plan = elim (has_act p plan) as (λ v. cond {A = ℕ} v (length plan.blocks) 0 ≤ length plan.blocks) [ true ↦ omega arith | false ↦ omega arith ]
