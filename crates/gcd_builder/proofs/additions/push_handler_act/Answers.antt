use Rattle.std.proofs.Common.{◌≡◌, ◌<◌, length, map, set, Some, option_map, slice_get, slice_set, refl, sym, ap, ◌∙◌, subst}
use Rattle.std.specs.Option.{option_map_or}
use Rattle.std.proofs.lemmas.List.{map-set, length-map}
use Rattle.std.proofs.lemmas.Option.{slice_get-map, slice_get_read}
use Rattle.gcd_plan.specs.declared.parts.ObjPart.{ObjPart}
use Rattle.gcd_plan.specs.PlanView.{ObjView, view_of, obj_view}
use Rattle.gcd_builder.specs.Changes.{object_with_act}
use Rattle.gcd_builder.proofs.additions.push_handler_act.Goals as goal

pub returns : goal.returns
returns c =
    let items = c.args.parts.now.objects.items in
    let plan = view_of c.args.parts.now in
    let s = c.args.s.0 in
    let old = c.index_mut.result.now in
    let new : ObjPart = record old { handler = c.push.new.self } in
    let within : s < length items = subst (λ n. s < n) (length-map items obj_view) c.requires in
    let stands : slice_get plan.objects s ≡ Some (obj_view old) =
    slice_get-map obj_view items s ∙ ap (option_map obj_view) (slice_get_read items (length items) s old refl within c.index_mut.ensures.value)
    in
    let objects : map obj_view (set items s new) ≡ set plan.objects s (object_with_act c.args.act (obj_view old)) =
    map-set obj_view items s new ∙ ap (λ acts. set plan.objects s (record (obj_view old) { handler = acts })) c.in_ok-push.ensures.items
    in
    ap (λ os. record plan { objects = os }) objects
    ∙ sym (ap (λ found. option_map_or (λ (object : ObjView). record plan { objects = slice_set plan.objects s (object_with_act c.args.act object) }) found plan) stands)
