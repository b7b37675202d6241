-- How many runs are open on each object after an event.
use Rattle.std.proofs.Common.{◌≡◌, ℕ, ◌+◌, ◌-◌, ◌<◌, ◌==◌, Bool, true, false, cond, List, ◌∷◌, length, Option, Some, None, refl, ap, sym, ◌∙◌, subst, arith, ⊎_elim, eq-eqb, ne_eqb}
use Rattle.std.specs.List.{slice_index, slice_set, slice_index_or}
use Rattle.std.specs.Option.{option_map, option_map_or, option_and_then}
use Rattle.std.proofs.lemmas.Bool.{cases_eq, and_parts}
use Rattle.std.proofs.lemmas.Option.{same_Some}
use Rattle.gcd_plan.specs.PlanView.{PlanView}
use Rattle.gcd_plan.specs.Kinds.{is_source, is_source_kind}
use Rattle.gcd_plan.specs.declared.act.Act.{Act}
use Rattle.gcd_plan.specs.declared.act.Act.TheVariants.{Target}
use Rattle.gcd_plan.specs.declared.numbers.Blk.{Blk}
use Rattle.gcd_plan.specs.declared.numbers.Obj.{Obj}
use Rattle.gcd_plan.specs.declared.numbers.Run.TheVariants.{Block, Source}
use Rattle.gcd_plan.proofs.Within.{has_object}
use Rattle.gcd_event.specs.declared.event.Event.{Event}
use Rattle.gcd_event.specs.declared.event.Event.TheVariants.{Start, End, Deliver, DeliverEnd}
use Rattle.gcd_history.specs.Runs.{act_of}
use Rattle.gcd_history.specs.Submitted.{submission_of}
use Rattle.gcd_history.specs.Tree.{is_run_on, open_on}
use Rattle.gcd_history.specs.Permitted.{IsLawful, is_worker}
use Rattle.gcd_history.proofs.Permitted.Reasons.{allowed, at_end, at_deliver_end}
use Rattle.gcd_history.proofs.Blocks.StartedOnce.{open_from_has_run}
use Rattle.gcd_history.proofs.Runs.Open.{same_run-refl}
use Rattle.gcd_tree.specs.TreeView.{TreeView, open_on_at, with_open, settled, settled_to}
use Rattle.gcd_refinement.specs.MachineView.{MachineView, block_at}
use Rattle.gcd_refinement.specs.Shape.{PartsFit, OwnFit}
use Rattle.gcd_refinement.specs.Ties.{BlocksAre}
use Rattle.gcd_refinement.specs.After.{opened, closed, targeted, tree_after}
use Rattle.gcd_refinement.proofs.Lists.Writes.{one_more, one_less}
use Rattle.gcd_refinement.proofs.Step.Runs.{kept_on, on_begun, on_ended}

-- the object is o
abbrev pub is_obj : ℕ → Option Obj → Bool
is_obj o found = option_map_or (λ p. p.0 == o) found false

opened_on : (tree : TreeView) (node : Option Obj) (o n : ℕ) → ((q : Obj) → node ≡ Some q → q.0 < length tree.open_on) → open_on_at tree o ≡ n → open_on_at (opened tree node) o ≡ n + cond {A = ℕ} (is_obj o node) 1 0
opened_on tree None o n low e = omega (arith, e)
opened_on tree (Some q) o n low e = let m = one_more tree.open_on q.0 o n (low q refl) e in omega (arith, m)

settled_on : (tree : TreeView) (k : ℕ) (request : Option Obj) (o : ℕ) → open_on_at (settled_to tree k request) o ≡ open_on_at tree o
settled_on tree k None o = refl
settled_on tree k (Some t) o = refl

closed_on : (tree : TreeView) (node : Option Obj) (o n : ℕ) → ((q : Obj) → node ≡ Some q → (q.0 < length tree.open_on) × (0 < open_on_at tree q.0)) → open_on_at tree o ≡ n
    → open_on_at (closed tree node) o + cond {A = ℕ} (is_obj o node) 1 0 ≡ n
closed_on tree None o n low e = omega (arith, e)
closed_on tree (Some q) o n low e =
    let f = low q refl in
    let less = one_less tree.open_on q.0 o n f.0 f.1 e in
    ⊎_elim
    (λ (last : open_on_at tree q.0 ≡ 1).
    let t = eq-eqb (open_on_at tree q.0) 1 last in
    let view = with_open tree q.0 0 in
    let c : open_on_at (closed tree (Some q)) o ≡ open_on_at (settled view q.0) o = ap (λ u. open_on_at (cond u (settled view q.0) (with_open tree q.0 (open_on_at tree q.0 - 1))) o) t in
    let s = settled_on view q.0 (slice_index_or view.requests q.0 None) o in
    let z : slice_index (slice_set tree.open_on q.0 (slice_index tree.open_on q.0 - 1)) o ≡ slice_index (slice_set tree.open_on q.0 0) o = ap (λ k. slice_index (slice_set tree.open_on q.0 (k - 1)) o) last in
    omega (arith, less, c, s, z))
    (λ (more : open_on_at tree q.0 ≡ 1 → ⊥).
    let t = ne_eqb (open_on_at tree q.0) 1 more in
    let c : open_on_at (closed tree (Some q)) o ≡ open_on_at (with_open tree q.0 (open_on_at tree q.0 - 1)) o = ap (λ u. open_on_at (cond u (settled (with_open tree q.0 0) q.0) (with_open tree q.0 (open_on_at tree q.0 - 1))) o) t in
    omega (arith, less, c))
    (cases_eq (open_on_at tree q.0) 1)

targeted_on : (tree : TreeView) (act : Option Act) (o : ℕ) → open_on_at (targeted tree act) o ≡ open_on_at tree o
targeted_on tree (Some (Target p t)) o = elim (open_on_at tree p.0 == 0) as (λ u. open_on_at (cond u (record tree { targets = slice_set tree.targets p.0 t }) (record tree { requests = slice_set tree.requests p.0 (Some t) })) o ≡ open_on_at tree o) [ true ↦ refl | false ↦ refl ]
targeted_on tree _ o = refl

-- the node of a block, told by the view
pub node_told : (plan : PlanView) (past : List Event) (v : MachineView) (b : Blk) (o : ℕ) → BlocksAre plan past v → is_obj o (block_at v b.0).node ≡ is_run_on plan past o (Block b)
node_told plan past v b o blocks = ap (is_obj o) (blocks.node b.0) ∙ as_number (option_and_then (λ s. s.node) (submission_of plan past b.0))
  where
    as_number : (node : Option Obj) → is_obj o node ≡ option_map_or (λ n. n == o) (option_map (λ p. p.0) node) false
    as_number None = refl
    as_number (Some q) = refl

pub source_low : (plan : PlanView) (v : MachineView) (s : Obj) → PartsFit plan v → is_source plan s.0 ≡ true → s.0 < length v.tree.open_on
source_low plan v s fit source = let low = has_object is_source_kind plan s.0 source in let long = fit.runs_on in omega (arith, low, long)

pub runs_step : (plan : PlanView) (past : List Event) (e : Event) (v : MachineView) (o : ℕ) → IsLawful plan (e ∷ past) → PartsFit plan v → OwnFit plan v → BlocksAre plan past v → ((k : ℕ) → open_on_at v.tree k ≡ open_on plan past k)
    → open_on_at (tree_after plan v e) o ≡ open_on plan (e ∷ past) o
runs_step plan past (Start w b) v o lawful fit own blocks ties =
    let long = fit.runs_on in
    let m = opened_on v.tree (block_at v b.0).node o _ (λ q at. let low = own.nodes b.0 q at in omega (arith, low, long)) (ties o) in
    let h = on_begun plan past (Start w b) (Block b) o lawful (same_run-refl (Block b)) in
    let t = ap (λ u. cond {A = ℕ} u 1 0) (node_told plan past v b o blocks) in
    omega (arith, m, h, t)
runs_step plan past (Deliver w s) v o lawful fit own blocks ties =
    let source = (and_parts (is_worker w) (is_source plan s.0) (allowed plan past (Deliver w s) lawful.1).known).1 in
    let m = opened_on v.tree (Some s) o _ (λ q at. subst (λ (k : Obj). k.0 < length v.tree.open_on) (same_Some s q at) (source_low plan v s fit source)) (ties o) in
    let h = on_begun plan past (Deliver w s) (Source s) o lawful (same_run-refl (Source s)) in
    omega (arith, m, h)
runs_step plan past (End w b) v o lawful fit own blocks ties =
    let long = fit.runs_on in
    let live = open_from_has_run plan past w (Block b) (at_end plan past w b lawful.1).own in
    let h : (k : ℕ) → open_on plan (End w b ∷ past) k + cond {A = ℕ} (is_run_on plan past k (Block b)) 1 0 ≡ open_on plan past k = λ k. on_ended plan past (End w b) (Block b) k lawful.0 live in
    let m = closed_on v.tree (block_at v b.0).node o _ (λ q at.
    let low = own.nodes b.0 q at in
    let here = h q.0 in
    let on : is_run_on plan past q.0 (Block b) ≡ true = sym (node_told plan past v b q.0 blocks) ∙ (ap (is_obj q.0) at ∙ eq-eqb q.0 q.0 refl) in
    let one = ap (λ u. cond {A = ℕ} u 1 0) on in
    let tie = ties q.0 in
    (omega (arith, low, long), omega (arith, here, one, tie))) (ties o) in
    let t = ap (λ u. cond {A = ℕ} u 1 0) (node_told plan past v b o blocks) in
    let here = h o in
    omega (arith, m, t, here)
runs_step plan past (DeliverEnd w s) v o lawful fit own blocks ties =
    let source = (and_parts (is_worker w) (is_source plan s.0) (allowed plan past (DeliverEnd w s) lawful.1).known).1 in
    let live = open_from_has_run plan past w (Source s) (at_deliver_end plan past w s lawful.1).own in
    let h : (k : ℕ) → open_on plan (DeliverEnd w s ∷ past) k + cond {A = ℕ} (is_run_on plan past k (Source s)) 1 0 ≡ open_on plan past k = λ k. on_ended plan past (DeliverEnd w s) (Source s) k lawful.0 live in
    let here = h s.0 in
    let one = ap (λ u. cond {A = ℕ} u 1 0) (eq-eqb s.0 s.0 refl) in
    let tie = ties s.0 in
    let some : 0 < open_on_at v.tree s.0 = omega (arith, here, one, tie) in
    let low = source_low plan v s fit source in
    let m = closed_on v.tree (Some s) o _ (λ q at. subst (λ (k : Obj). (k.0 < length v.tree.open_on) × (0 < open_on_at v.tree k.0)) (same_Some s q at) (low, some)) (ties o) in
    let there = h o in
    omega (arith, m, there)
runs_step plan past e v o lawful fit own blocks ties = targeted_on v.tree (act_of plan e) o ∙ (ties o ∙ sym (kept_on plan past e o lawful.0))
