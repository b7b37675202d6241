-- Targets and requests after an event.
use Rattle.std.proofs.Common.{◌≡◌, ℕ, ◌+◌, ◌-◌, ◌<◌, ◌==◌, true, false, cond, List, ◌∷◌, length, Option, Some, None, refl, ap, sym, ◌∙◌, subst, arith, ⊎_elim, eq-eqb, ne_eqb}
use Rattle.std.specs.List.{slice_index_or}
use Rattle.std.specs.Option.{option_map}
use Rattle.std.proofs.lemmas.Bool.{cases_eq, both_ways, false_from_ne_true}
use Rattle.gcd_plan.specs.PlanView.{PlanView}
use Rattle.gcd_plan.specs.declared.act.Act.TheVariants.{Target}
use Rattle.gcd_plan.specs.declared.numbers.Obj.{Obj}
use Rattle.gcd_event.specs.declared.event.Event.{Event}
use Rattle.gcd_history.specs.Runs.{act_of, open_runs}
use Rattle.gcd_history.specs.Tree.{Aim, aim, aim_after, asked, settled as settled_aim, is_run_on, is_open_on, open_on}
use Rattle.gcd_plan.proofs.Sums.{count_by_none, count_by_some}
use Rattle.gcd_history.proofs.Tree.TargetActs.{aim_unasked}
use Rattle.gcd_tree.specs.TreeView.{TreeView, open_on_at, target_at, request_at, with_target, with_request, with_open, settled, settled_to}
use Rattle.gcd_refinement.specs.Ties.{aim_at}
use Rattle.gcd_refinement.specs.After.{closed, targeted}
use Rattle.gcd_refinement.proofs.Lists.Writes.{entry_set}

-- ## Open or not, by the count

pub shut_from_zero : (plan : PlanView) (past : List Event) (o : ℕ) → open_on plan past o ≡ 0 → is_open_on plan past o ≡ false
shut_from_zero plan past o zero = false_from_ne_true (is_open_on plan past o) (λ h. let some = count_by_some (is_run_on plan past o) (open_runs past) h in absurd (omega (arith, some, zero)))

pub open_from_some : (plan : PlanView) (past : List Event) (o : ℕ) → (open_on plan past o ≡ 0 → ⊥) → is_open_on plan past o ≡ true
open_from_some plan past o some =
    elim (is_open_on plan past o) as (λ v. is_open_on plan past o ≡ v → v ≡ true) [ true ↦ λ e. refl | false ↦ λ e. absurd (some (count_by_none (is_run_on plan past o) (open_runs past) e)) ] refl

-- an object on which no fewer runs are open, and that no act aims elsewhere, keeps its aim
pub kept_aim : (plan : PlanView) (past : List Event) (e : Event) (o : ℕ) → asked o (act_of plan e) ≡ None → (open_on plan (e ∷ past) o ≡ 0 → open_on plan past o ≡ 0) → aim plan (e ∷ past) o ≡ aim plan past o
kept_aim plan past e o none more =
    aim_unasked plan e past o none (λ was. open_from_some plan (e ∷ past) o (λ z. both_ways (is_open_on plan past o) (shut_from_zero plan past o (more z)) was))

-- ## A Target act

aim_by : (a b : Aim) → a.target ≡ b.target → a.request ≡ b.request → a ≡ b
aim_by a b target request = ap (λ t. record a { target = t }) target ∙ ap (λ r. record b { request = r }) request

target_set : (tree : TreeView) (p t : Obj) (o : ℕ) → p.0 < length tree.targets → aim_at (with_target tree p.0 t) o ≡ cond (p.0 == o) (record (aim_at tree o) { target = t.0 }) (aim_at tree o)
target_set tree p t o low =
    let w = ap (λ q. q.0) (entry_set tree.targets p.0 o t (record { 0 = 0 }) low) in
    elim (p.0 == o) as (λ u. target_at (with_target tree p.0 t) o ≡ (cond u t (slice_index_or tree.targets o (record { 0 = 0 }))).0 → aim_at (with_target tree p.0 t) o ≡ cond u (record (aim_at tree o) { target = t.0 }) (aim_at tree o)) [
      | true ↦ λ e. aim_by (aim_at (with_target tree p.0 t) o) (record (aim_at tree o) { target = t.0 }) e refl
      | false ↦ λ e. aim_by (aim_at (with_target tree p.0 t) o) (aim_at tree o) e refl
    ] w

request_set : (tree : TreeView) (p : Obj) (r : Option Obj) (o : ℕ) → p.0 < length tree.requests
    → aim_at (with_request tree p.0 r) o ≡ cond (p.0 == o) (record (aim_at tree o) { request = option_map (λ t. t.0) r }) (aim_at tree o)
request_set tree p r o low =
    let w = ap (option_map (λ q. q.0)) (entry_set tree.requests p.0 o r None low) in
    elim (p.0 == o) as (λ u. request_at (with_request tree p.0 r) o ≡ option_map (λ q. q.0) (cond u r (slice_index_or tree.requests o None))
    → aim_at (with_request tree p.0 r) o ≡ cond u (record (aim_at tree o) { request = option_map (λ t. t.0) r }) (aim_at tree o)) [
      | true ↦ λ e. aim_by (aim_at (with_request tree p.0 r) o) (record (aim_at tree o) { request = option_map (λ t. t.0) r }) refl e
      | false ↦ λ e. aim_by (aim_at (with_request tree p.0 r) o) (aim_at tree o) refl e
    ] w

-- the view after a Target act is what the history says, where runs stay open
pub target_aims : (plan : PlanView) (past : List Event) (e : Event) (tree : TreeView) (p t : Obj) (o : ℕ) → p.0 < length tree.targets → p.0 < length tree.requests → act_of plan e ≡ Some (Target p t)
    → ((k : ℕ) → open_on_at tree k ≡ open_on plan past k) → ((k : ℕ) → open_on plan (e ∷ past) k ≡ open_on plan past k) → ((k : ℕ) → aim_at tree k ≡ aim plan past k)
    → aim_at (targeted tree (Some (Target p t))) o ≡ aim plan (e ∷ past) o
target_aims plan past e tree p t o low wide at runs same ties =
    ⊎_elim
    (λ (here : p.0 ≡ o).
    let u = eq-eqb p.0 o here in
    let ask : asked o (act_of plan e) ≡ Some t.0 = ap (asked o) at ∙ ap (λ v. cond v (Some t.0) None) u in
    let step : aim plan (e ∷ past) o ≡ cond (is_open_on plan past o) (record (aim plan past o) { request = Some t.0 }) (record (aim plan past o) { target = t.0 }) = ap (λ k. aim_after k (is_open_on plan past o) (is_open_on plan (e ∷ past) o) (aim plan past o)) ask in
    ⊎_elim
    (λ (zero : open_on_at tree p.0 ≡ 0).
    let shut = shut_from_zero plan past o (sym (runs o) ∙ (ap (open_on_at tree) (sym here) ∙ zero)) in
    ap (λ v. aim_at (cond v (with_target tree p.0 t) (with_request tree p.0 (Some t))) o) (eq-eqb (open_on_at tree p.0) 0 zero)
    ∙ (target_set tree p t o low
    ∙ (ap (λ v. cond v (record (aim_at tree o) { target = t.0 }) (aim_at tree o)) u
    ∙ (ap (λ (a : Aim). record a { target = t.0 }) (ties o)
    ∙ sym (step ∙ ap (λ v. cond v (record (aim plan past o) { request = Some t.0 }) (record (aim plan past o) { target = t.0 })) shut)))))
    (λ (some : open_on_at tree p.0 ≡ 0 → ⊥).
    let live = open_from_some plan past o (λ z. some (ap (open_on_at tree) here ∙ (runs o ∙ z))) in
    ap (λ v. aim_at (cond v (with_target tree p.0 t) (with_request tree p.0 (Some t))) o) (ne_eqb (open_on_at tree p.0) 0 some)
    ∙ (request_set tree p (Some t) o wide
    ∙ (ap (λ v. cond v (record (aim_at tree o) { request = Some t.0 }) (aim_at tree o)) u
    ∙ (ap (λ (a : Aim). record a { request = Some t.0 }) (ties o)
    ∙ sym (step ∙ ap (λ v. cond v (record (aim plan past o) { request = Some t.0 }) (record (aim plan past o) { target = t.0 })) live)))))
    (cases_eq (open_on_at tree p.0) 0))
    (λ (other : p.0 ≡ o → ⊥).
    let u = ne_eqb p.0 o other in
    let kept = kept_aim plan past e o (ap (asked o) at ∙ ap (λ v. cond v (Some t.0) None) u) (λ z. sym (same o) ∙ z) in
    elim (open_on_at tree p.0 == 0) as (λ v. aim_at (cond v (with_target tree p.0 t) (with_request tree p.0 (Some t))) o ≡ aim plan (e ∷ past) o) [
      | true ↦ target_set tree p t o low ∙ (ap (λ v. cond v (record (aim_at tree o) { target = t.0 }) (aim_at tree o)) u ∙ (ties o ∙ sym kept))
      | false ↦ request_set tree p (Some t) o wide ∙ (ap (λ v. cond v (record (aim_at tree o) { request = Some t.0 }) (aim_at tree o)) u ∙ (ties o ∙ sym kept))
    ])
    (cases_eq p.0 o)

-- ## A close

-- the last close turns the request into the target
settle_here : (tree : TreeView) (o : ℕ) → o < length tree.targets → o < length tree.requests → aim_at (settled tree o) o ≡ settled_aim (request_at tree o) (aim_at tree o)
settle_here tree o low wide =
    let p : Obj = record { 0 = o } in
    let u = eq-eqb o o refl in
    elim (slice_index_or tree.requests o None) as (λ r. slice_index_or tree.requests o None ≡ r → aim_at (settled_to tree o r) o ≡ settled_aim (option_map (λ t. t.0) r) (aim_at tree o)) [
      | None ↦ λ e. refl
      | Some t ↦ λ e.
          request_set (with_target tree o t) p None o wide
          ∙ (ap (λ v. cond v (record (aim_at (with_target tree o t) o) { request = None }) (aim_at (with_target tree o t) o)) u
          ∙ ap (λ (a : Aim). record a { request = None }) (target_set tree p t o low ∙ ap (λ v. cond v (record (aim_at tree o) { target = t.0 }) (aim_at tree o)) u))
    ] refl

settle_there : (tree : TreeView) (q o : ℕ) → q < length tree.targets → q < length tree.requests → (q ≡ o → ⊥) → aim_at (settled tree q) o ≡ aim_at tree o
settle_there tree q o low wide other =
    let p : Obj = record { 0 = q } in
    let u = ne_eqb q o other in
    elim (slice_index_or tree.requests q None) as (λ r. aim_at (settled_to tree q r) o ≡ aim_at tree o) [
      | None ↦ refl
      | Some t ↦
          request_set (with_target tree q t) p None o wide
          ∙ (ap (λ v. cond v (record (aim_at (with_target tree q t) o) { request = None }) (aim_at (with_target tree q t) o)) u
          ∙ (target_set tree p t o low ∙ ap (λ v. cond v (record (aim_at tree o) { target = t.0 }) (aim_at tree o)) u))
    ]

-- the view after a close is what the history says, where one run less is open on the node
pub close_aims : (plan : PlanView) (past : List Event) (e : Event) (tree : TreeView) (q : Obj) (o : ℕ) → q.0 < length tree.targets → q.0 < length tree.requests → asked o (act_of plan e) ≡ None
    → ((k : ℕ) → open_on_at tree k ≡ open_on plan past k) → ((k : ℕ) → open_on plan (e ∷ past) k + cond {A = ℕ} (q.0 == k) 1 0 ≡ open_on plan past k) → ((k : ℕ) → aim_at tree k ≡ aim plan past k)
    → aim_at (closed tree (Some q)) o ≡ aim plan (e ∷ past) o
close_aims plan past e tree q o low wide none runs less ties =
    let here = less q.0 in
    let own = ap (λ v. cond {A = ℕ} v 1 0) (eq-eqb q.0 q.0 refl) in
    let tie = runs q.0 in
    ⊎_elim
    (λ (last : open_on_at tree q.0 ≡ 1).
    let start : aim_at (closed tree (Some q)) o ≡ aim_at (settled (with_open tree q.0 0) q.0) o = ap (λ v. aim_at (cond v (settled (with_open tree q.0 0) q.0) (with_open tree q.0 (open_on_at tree q.0 - 1))) o) (eq-eqb (open_on_at tree q.0) 1 last) in
    ⊎_elim
    (λ (same : q.0 ≡ o).
    let was : is_open_on plan past o ≡ true = open_from_some plan past o (λ z. absurd (one_none (open_on plan past q.0) (omega (arith, tie, last)) (ap (open_on plan past) same ∙ z))) in
    let now : is_open_on plan (e ∷ past) o ≡ false = shut_from_zero plan (e ∷ past) o (ap (open_on plan (e ∷ past)) (sym same) ∙ omega (arith, here, own, tie, last)) in
    start
    ∙ (subst (λ k. aim_at (settled (with_open tree q.0 0) q.0) k ≡ settled_aim (request_at tree k) (aim_at tree k)) same (settle_here (with_open tree q.0 0) q.0 low wide)
    ∙ (ap (λ (a : Aim). settled_aim a.request a) (ties o)
    ∙ sym (ap (λ k. aim_after k (is_open_on plan past o) (is_open_on plan (e ∷ past) o) (aim plan past o)) none
    ∙ (ap (λ v. aim_after None v (is_open_on plan (e ∷ past) o) (aim plan past o)) was ∙ ap (λ v. aim_after None true v (aim plan past o)) now)))))
    (λ (other : q.0 ≡ o → ⊥).
    let there = less o in
    let off = ap (λ v. cond {A = ℕ} v 1 0) (ne_eqb q.0 o other) in
    start ∙ (settle_there (with_open tree q.0 0) q.0 o low wide other ∙ (ties o ∙ sym (kept_aim plan past e o none (λ z. omega (arith, there, off, z))))))
    (cases_eq q.0 o))
    (λ (more : open_on_at tree q.0 ≡ 1 → ⊥).
    let start : aim_at (closed tree (Some q)) o ≡ aim_at tree o = ap (λ v. aim_at (cond v (settled (with_open tree q.0 0) q.0) (with_open tree q.0 (open_on_at tree q.0 - 1))) o) (ne_eqb (open_on_at tree q.0) 1 more) in
    start
    ∙ (ties o
    ∙ sym (kept_aim plan past e o none (λ z.
    ⊎_elim
    (λ (same : q.0 ≡ o). absurd (more (tie ∙ (sym here ∙ (ap (λ k. open_on plan (e ∷ past) k + cond {A = ℕ} (q.0 == q.0) 1 0) same ∙ (ap (λ n. n + cond {A = ℕ} (q.0 == q.0) 1 0) z ∙ ap (λ n. 0 + n) own))))))
    (λ (other : q.0 ≡ o → ⊥). let there = less o in let off = ap (λ v. cond {A = ℕ} v 1 0) (ne_eqb q.0 o other) in omega (arith, there, off, z))
    (cases_eq q.0 o)))))
    (cases_eq (open_on_at tree q.0) 1)
  where
    one_none : (n : ℕ) → n ≡ 1 → n ≡ 0 → ⊥
    one_none n one zero = absurd (omega (arith, one, zero))
