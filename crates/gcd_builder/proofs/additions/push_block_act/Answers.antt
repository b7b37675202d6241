use Rattle.std.proofs.Common.{◌≡◌, ◌<◌, length, map, set, Some, option_map, slice_get, slice_set, refl, sym, ap, ◌∙◌, subst}
use Rattle.std.specs.Option.{option_map_or}
use Rattle.std.proofs.lemmas.List.{map-set, length-map}
use Rattle.std.proofs.lemmas.Option.{slice_get-map, slice_get_read}
use Rattle.gcd_plan.specs.declared.parts.BlkPart.{BlkPart}
use Rattle.gcd_plan.specs.PlanView.{BlkView, view_of, blk_view}
use Rattle.gcd_builder.specs.Changes.{block_with_act}
use Rattle.gcd_builder.proofs.additions.push_block_act.Goals as goal

pub returns : goal.returns
returns c =
    let items = c.args.parts.now.blocks.items in
    let plan = view_of c.args.parts.now in
    let b = c.args.b.0 in
    let old = c.index_mut.result.now in
    let new : BlkPart = record { name = old.name; acts = c.push.new.self; work = old.work } in
    let within : b < length items = subst (λ n. b < n) (length-map items blk_view) c.requires in
    let stands : slice_get plan.blocks b ≡ Some (blk_view old) =
    slice_get-map blk_view items b ∙ ap (option_map blk_view) (slice_get_read items (length items) b old refl within c.index_mut.ensures.value)
    in
    let blocks : map blk_view (set items b new) ≡ set plan.blocks b (block_with_act c.args.act (blk_view old)) =
    map-set blk_view items b new ∙ ap (λ acts. set plan.blocks b (record (blk_view old) { acts = acts })) c.in_ok-push.ensures.items
    in
    ap (λ bs. record plan { blocks = bs }) blocks
    ∙ sym (ap (λ found. option_map_or (λ (block : BlkView). record plan { blocks = slice_set plan.blocks b (block_with_act c.args.act block) }) found plan) stands)
