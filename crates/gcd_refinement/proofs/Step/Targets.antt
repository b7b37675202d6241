-- The tree after an event.
use Rattle.std.proofs.Common.{◌≡◌, ℕ, ◌+◌, ◌<◌, cond, List, ◌∷◌, length, Option, Some, None, refl, ap, sym, ◌∙◌, arith, nat_lt}
use Rattle.std.proofs.lemmas.Bool.{and_parts}
use Rattle.gcd_plan.specs.PlanView.{PlanView}
use Rattle.gcd_plan.specs.Kinds.{is_source, is_source_kind, is_queue, has_kind, is_node_kind}
use Rattle.gcd_plan.specs.Validity.{IsPlan, is_held_object}
use Rattle.gcd_plan.specs.declared.act.Act.{Act}
use Rattle.gcd_plan.specs.declared.act.Act.TheVariants.{Target}
use Rattle.gcd_plan.specs.declared.numbers.Obj.{Obj}
use Rattle.gcd_plan.specs.declared.numbers.Run.TheVariants.{Block, Source}
use Rattle.gcd_plan.proofs.Within.{has_object}
use Rattle.gcd_event.specs.declared.event.Event.{Event}
use Rattle.gcd_event.specs.declared.event.Event.TheVariants.{Start, End, Deliver, DeliverEnd}
use Rattle.gcd_history.specs.Runs.{act_of}
use Rattle.gcd_history.specs.Tree.{aim, asked, open_on}
use Rattle.gcd_history.specs.Permitted.{IsLawful, is_worker}
use Rattle.gcd_history.proofs.Permitted.Reasons.{allowed, at_end, at_deliver_end}
use Rattle.gcd_history.proofs.Runs.Open.{same_run-refl}
use Rattle.gcd_history.proofs.Blocks.StartedOnce.{open_from_has_run}
use Rattle.gcd_history.proofs.Blocks.SubmittedOnNodes.{recorded_fits}
use Rattle.gcd_tree.specs.TreeView.{TreeView}
use Rattle.gcd_refinement.specs.MachineView.{MachineView, block_at}
use Rattle.gcd_refinement.specs.Shape.{PartsFit, OwnFit}
use Rattle.gcd_refinement.specs.Ties.{TreeIs, BlocksAre, aim_at}
use Rattle.gcd_refinement.specs.After.{opened, closed, targeted, tree_after, after}
use Rattle.gcd_refinement.proofs.Step.Runs.{kept_on, on_begun, on_ended}
use Rattle.gcd_refinement.proofs.Step.Tree.{is_obj, node_told, runs_step}
use Rattle.gcd_refinement.proofs.Step.Aims.{kept_aim, target_aims, close_aims}

opened_aim : (tree : TreeView) (node : Option Obj) (o : ℕ) → aim_at (opened tree node) o ≡ aim_at tree o
opened_aim tree None o = refl
opened_aim tree (Some q) o = refl

targeted_aims : (plan : PlanView) (past : List Event) (e : Event) (v : MachineView) (act : Option Act) (o : ℕ) → IsPlan plan → PartsFit plan v → act_of plan e ≡ act → ((k : ℕ) → open_on plan (e ∷ past) k ≡ open_on plan past k)
    → TreeIs plan past v → aim_at (targeted v.tree act) o ≡ aim plan (e ∷ past) o
targeted_aims plan past e v (Some (Target p t)) o valid fit at same ties =
    let parts = and_parts (is_held_object plan p) (is_queue plan t.0) (recorded_fits plan e (Target p t) valid at) in
    let low = has_object is_node_kind plan p.0 (and_parts (nat_lt 0 p.0) (has_kind is_node_kind plan p.0) parts.0).1 in
    let long = fit.targets in
    let wide = fit.requests in
    target_aims plan past e v.tree p t o (omega (arith, low, long)) (omega (arith, low, wide)) at ties.runs same ties.aims
targeted_aims plan past e v _ o valid fit at same ties = ties.aims o ∙ sym (kept_aim plan past e o (ap (asked o) at) (λ z. sym (same o) ∙ z))

aims_step : (plan : PlanView) (past : List Event) (e : Event) (v : MachineView) (o : ℕ) → IsPlan plan → IsLawful plan (e ∷ past) → PartsFit plan v → OwnFit plan v → BlocksAre plan past v → TreeIs plan past v
    → aim_at (tree_after plan v e) o ≡ aim plan (e ∷ past) o
aims_step plan past (Start w b) v o valid lawful fit own blocks ties =
    let h = on_begun plan past (Start w b) (Block b) o lawful (same_run-refl (Block b)) in
    opened_aim v.tree (block_at v b.0).node o ∙ (ties.aims o ∙ sym (kept_aim plan past (Start w b) o refl (λ z. omega (arith, h, z))))
aims_step plan past (Deliver w s) v o valid lawful fit own blocks ties =
    let h = on_begun plan past (Deliver w s) (Source s) o lawful (same_run-refl (Source s)) in
    ties.aims o ∙ sym (kept_aim plan past (Deliver w s) o refl (λ z. omega (arith, h, z)))
aims_step plan past (End w b) v o valid lawful fit own blocks ties =
    let live = open_from_has_run plan past w (Block b) (at_end plan past w b lawful.1).own in
    let long = fit.targets in
    let wide = fit.requests in
    elim (block_at v b.0).node as (λ node. ((q : Obj) → node ≡ Some q → q.0 < length plan.objects) → ((k : ℕ) → open_on plan (End w b ∷ past) k + cond {A = ℕ} (is_obj k node) 1 0 ≡ open_on plan past k) → aim_at (closed v.tree node) o ≡ aim plan (End w b ∷ past) o) [
      | None ↦ λ low less. ties.aims o ∙ sym (kept_aim plan past (End w b) o refl (λ z. let l = less o in omega (arith, l, z)))
      | Some q ↦ λ low less. let l = low q refl in close_aims plan past (End w b) v.tree q o (omega (arith, l, long)) (omega (arith, l, wide)) refl ties.runs less ties.aims
    ] (own.nodes b.0) (λ k. let h = on_ended plan past (End w b) (Block b) k lawful.0 live in let t = ap (λ u. cond {A = ℕ} u 1 0) (node_told plan past v b k blocks) in omega (arith, h, t))
aims_step plan past (DeliverEnd w s) v o valid lawful fit own blocks ties =
    let source = (and_parts (is_worker w) (is_source plan s.0) (allowed plan past (DeliverEnd w s) lawful.1).known).1 in
    let live = open_from_has_run plan past w (Source s) (at_deliver_end plan past w s lawful.1).own in
    let low = has_object is_source_kind plan s.0 source in
    let long = fit.targets in
    let wide = fit.requests in
    close_aims plan past (DeliverEnd w s) v.tree s o (omega (arith, low, long)) (omega (arith, low, wide)) refl ties.runs
    (λ k. on_ended plan past (DeliverEnd w s) (Source s) k lawful.0 live) ties.aims
aims_step plan past e v o valid lawful fit own blocks ties = targeted_aims plan past e v (act_of plan e) o valid fit refl (λ k. kept_on plan past e k lawful.0) ties

pub tree_step : (plan : PlanView) (past : List Event) (e : Event) (v : MachineView) → IsPlan plan → IsLawful plan (e ∷ past) → PartsFit plan v → OwnFit plan v → BlocksAre plan past v → TreeIs plan past v → TreeIs plan (e ∷ past) (after plan v e)
tree_step plan past e v valid lawful fit own blocks ties = record {
  aims = λ o. aims_step plan past e v o valid lawful fit own blocks ties;
  runs = λ o. runs_step plan past e v o lawful fit own blocks ties.runs;
}
