use Rattle.std.proofs.Common.{◌≡◌, ◌<◌, length, Some, option_map, slice_get, slice_set, refl, sym, ap, ◌∙◌, subst}
use Rattle.std.specs.Option.{option_map_or}
use Rattle.std.proofs.lemmas.List.{map-set, length-map}
use Rattle.std.proofs.lemmas.Option.{slice_get-map, slice_get_read}
use Rattle.gcd_plan.specs.declared.parts.ObjPart.{ObjPart}
use Rattle.gcd_plan.specs.PlanView.{ObjView, view_of, obj_view}
use Rattle.gcd_builder.proofs.additions.set_cancel.Goals as goal

pub returns : goal.returns
returns c =
    let items = c.args.parts.now.objects.items in
    let plan = view_of c.args.parts.now in
    let s = c.args.s.0 in
    let old = c.index_mut.result.now in
    let new : ObjPart = record old { cancel = Some c.args.b } in
    let within : s < length items = subst (λ n. s < n) (length-map items obj_view) c.requires in
    let stands : slice_get plan.objects s ≡ Some (obj_view old) =
    slice_get-map obj_view items s ∙ ap (option_map obj_view) (slice_get_read items (length items) s old refl within c.index_mut.ensures.value)
    in
    ap (λ os. record plan { objects = os }) (map-set obj_view items s new)
    ∙ sym (ap (λ found. option_map_or (λ (object : ObjView). record plan { objects = slice_set plan.objects s (record object { cancel = Some c.args.b }) }) found plan) stands)
