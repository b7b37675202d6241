-- What a name names, by the place in the code's lists.
use Rattle.std.proofs.Common.{◌≡◌, ℕ, List, Bool, Option, ap, sym, ◌∙◌}
use Rattle.std.specs.List.{position}
use Rattle.std.specs.Option.{option_map}
use Rattle.std.specs.Str.{bytes_eq}
use Rattle.gcd_plan.specs.Named.{block_named, object_named}
use Rattle.gcd_plan.specs.PlanView.{BlkView, ObjView, PlanView, blk_view, obj_view, view_of}
use Rattle.gcd_plan.specs.declared.numbers.Blk.{Blk}
use Rattle.gcd_plan.specs.declared.numbers.Obj.{Obj}
use Rattle.gcd_plan.specs.declared.parts.BlkPart.{BlkPart}
use Rattle.gcd_plan.specs.declared.parts.ObjPart.{ObjPart}
use Rattle.gcd_plan.specs.declared.parts.Parts.{Parts}
use Rattle.gcd_plan.proofs.Mapped.{position_of_mapped}

abbrev numbered_block : Option ℕ → Option Blk
numbered_block place = option_map (λ b. record { 0 = b }) place

abbrev numbered_object : Option ℕ → Option Obj
numbered_object place = option_map (λ o. record { 0 = o }) place

pub block_found : (parts : Parts) (blocks : List BlkPart) (plan : PlanView) (name : List ℕ) (place : Option ℕ)
    → place ≡ position (λ b. bytes_eq (blk_view b).name name) blocks → blocks ≡ parts.blocks.items → view_of parts ≡ plan
    → option_map (λ b. record { 0 = b }) place ≡ block_named plan name
block_found parts blocks plan name place found same is =
    let has : BlkView → Bool = λ b. bytes_eq b.name name in
    ap numbered_block (found ∙ ap (λ (l : List BlkPart). position (λ b. has (blk_view b)) l) same ∙ sym (position_of_mapped has blk_view parts.blocks.items))
    ∙ ap (λ (p : PlanView). block_named p name) is

pub object_found : (parts : Parts) (objects : List ObjPart) (plan : PlanView) (name : List ℕ) (place : Option ℕ)
    → place ≡ position (λ o. bytes_eq (obj_view o).name name) objects → objects ≡ parts.objects.items → view_of parts ≡ plan
    → option_map (λ o. record { 0 = o }) place ≡ object_named plan name
object_found parts objects plan name place found same is =
    let has : ObjView → Bool = λ o. bytes_eq o.name name in
    ap numbered_object (found ∙ ap (λ (l : List ObjPart). position (λ o. has (obj_view o)) l) same ∙ sym (position_of_mapped has obj_view parts.objects.items))
    ∙ ap (λ (p : PlanView). object_named p name) is
