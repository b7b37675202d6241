-- Parts and the plan that they are seen as.
use Rattle.std.proofs.Common.{◌≡◌, ℕ, ◌+◌, ◌==◌, Bool, cond, List, ◌++◌, length, map, ap, ◌∙◌}
use Rattle.std.specs.List.{count_by, sum_by, flat_map}
use Rattle.std.specs.Option.{option_to_list}
use Rattle.std.proofs.lemmas.List.Sums.{sum_by-append}
use Rattle.gcd_plan.specs.declared.parts.Parts.{Parts}
use Rattle.gcd_plan.specs.declared.numbers.Blk.{Blk}
use Rattle.gcd_plan.specs.PlanView.{BlkView, ObjView, view_of, obj_view, blk_view}
use Rattle.gcd_plan.specs.Validity.{act_count, submitted_blocks, blocks_of}
use Rattle.gcd_plan.proofs.Sums.{sum_by-map, count_by-flat_map}

-- the acts of the plan are those of the parts
pub acts_seen : (p : Parts) → act_count (view_of p)
    ≡ sum_by (λ b. length b.acts.items) p.blocks.items + sum_by (λ o. length o.handler.items) p.objects.items
acts_seen p =
    ap (λ n. n + sum_by (λ o. length o.handler) (map obj_view p.objects.items)) (sum_by-map (λ b. length b.acts) blk_view p.blocks.items)
    ∙ ap (λ n. sum_by (λ b. length b.acts.items) p.blocks.items + n) (sum_by-map (λ o. length o.handler) obj_view p.objects.items)

-- how often a block stands among those that the plan submits
pub submissions_counted : (p : Parts) (b : ℕ) → count_by (λ c. c.0 == b) (submitted_blocks (view_of p))
    ≡ sum_by (λ q. count_by (λ c. c.0 == b) (blocks_of (view_of p) q.acts.items)) p.blocks.items
    + sum_by (λ o. count_by (λ c. c.0 == b) (blocks_of (view_of p) o.handler.items ++ option_to_list o.cancel)) p.objects.items
submissions_counted p b =
    let is_b : Blk → Bool = λ c. c.0 == b in
    let own : BlkView → List Blk = λ q. blocks_of (view_of p) q.acts in
    let others : ObjView → List Blk = λ o. blocks_of (view_of p) o.handler ++ option_to_list o.cancel in
    sum_by-append (λ c. cond (is_b c) 1 0) (flat_map own (map blk_view p.blocks.items)) (flat_map others (map obj_view p.objects.items))
    ∙ ap (λ n. n + count_by is_b (flat_map others (map obj_view p.objects.items)))
    (count_by-flat_map is_b own (map blk_view p.blocks.items) ∙ sum_by-map (λ q. count_by is_b (own q)) blk_view p.blocks.items)
    ∙ ap (λ n. sum_by (λ q. count_by is_b (blocks_of (view_of p) q.acts.items)) p.blocks.items + n)
    (count_by-flat_map is_b others (map obj_view p.objects.items) ∙ sum_by-map (λ o. count_by is_b (others o)) obj_view p.objects.items)
