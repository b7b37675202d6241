-- Runs that exclude one another are not open at one moment.
use Rattle.std.proofs.Common.{◌≡◌, ⊎_elim, ℕ, Bool, true, false, not, ◌&&◌, ◌||◌, ◌==◌, List, [], ◌∷◌, Option, Some, None, is_some, option_and_then, option_map, refl, ap, sym, ◌∙◌, subst}
use Rattle.std.specs.Option.{option_map_or}
use Rattle.std.proofs.lemmas.Bool.{eqb-true, and_parts, and_from, both_ways, and_cases, or_parts}
use Rattle.std.proofs.lemmas.Option.{same_Some}
use Rattle.gcd_plan.specs.PlanView.{PlanView, kind_of}
use Rattle.gcd_plan.specs.Kinds.{has_kind, is_exclusive, has_barriers, is_source, is_source_kind, is_concurrent_kind}
use Rattle.gcd_plan.specs.Chains.{is_in}
use Rattle.gcd_plan.specs.StartRule.{first_of}
use Rattle.gcd_plan.specs.Validity.{IsPlan}
use Rattle.gcd_plan.specs.declared.kind.Kind.{Kind}
use Rattle.gcd_plan.specs.declared.kind.Kind.TheVariants.{Concurrent}
use Rattle.gcd_plan.specs.declared.numbers.Blk.{Blk}
use Rattle.gcd_plan.specs.declared.numbers.Obj.{Obj}
use Rattle.gcd_plan.specs.declared.numbers.Run.{Run}
use Rattle.gcd_plan.specs.declared.numbers.Run.TheVariants.{Block, Source}
use Rattle.gcd_event.specs.declared.event.Event.{Event}
use Rattle.gcd_event.specs.declared.event.Event.TheVariants.{Start, Deliver}
use Rattle.gcd_history.specs.declared.submission.Submission.{Submission}
use Rattle.gcd_history.specs.Runs.{opens, is_open}
use Rattle.gcd_history.specs.Submitted.{submission_of}
use Rattle.gcd_history.specs.Tree.{node_of_run, chain_of_run, is_open_on, is_open_beneath}
use Rattle.gcd_history.specs.Permitted.{IsLawful, why, is_on, is_barrier_on, is_barrier_open, is_fenced, node_reasons, waiting_reasons}
use Rattle.gcd_plan.proofs.Options.{some_from_is_some}
use Rattle.gcd_history.proofs.Runs.Open.{same_run-true}
use Rattle.gcd_history.proofs.Permitted.Reasons.{at_start, waiting_facts}
use Rattle.gcd_history.proofs.Blocks.StartedOnce.{started_from_open, submitted_from_started, submission_of-kept}
use Rattle.gcd_history.proofs.Runs.OpenNodes.{open_cases, any_open, open_on_from, node_kept_open, node_kept_begun, begun_source}
use Rattle.gcd_history.proofs.Tree.Stands.{stands, chain_step, chain_begun, begun_alone}

-- an event begins one run
begins_one : (e : Event) (r q : Run) → opens e r ≡ true → opens e q ≡ true → r ≡ q
begins_one (Start w b) r q h k = sym (same_run-true (Block b) r h) ∙ same_run-true (Block b) q k
begins_one (Deliver w s) r q h k = sym (same_run-true (Source s) r h) ∙ same_run-true (Source s) q k
begins_one e r q h k = cc

-- ## Beneath one serial queue or source

-- a run that begins and one that is open are not beneath one that excludes
new_and_old : (plan : PlanView) (e : Event) (past : List Event) → IsPlan plan → IsLawful plan (e ∷ past) → (o : ℕ) (r q : Run) → is_exclusive plan o ≡ true →
    opens e r ≡ true → is_open past q ≡ true → is_open (e ∷ past) q ≡ true → is_in o (chain_of_run plan (e ∷ past) r) ≡ true → is_in o (chain_of_run plan (e ∷ past) q) ≡ true → ⊥
new_and_old plan e past valid h o r q exclusive now live on r_in q_in =
    let r_there : is_in o (chain_of_run plan past r) ≡ true = sym (ap (is_in o) (chain_begun plan e past h r now)) ∙ r_in in
    let q_there : is_in o (chain_of_run plan past q) ≡ true = sym (ap (is_in o) (chain_step plan e past (valid, h, stands plan past valid h.0) q live on)) ∙ q_in in
    let beneath : is_open_beneath plan past o ≡ true = any_open past (λ run. is_in o (chain_of_run plan past run)) q live q_there in
    both_ways (is_exclusive plan o && is_open_beneath plan past o) ((begun_alone plan e past h r now).apart o r_there) (and_from (is_exclusive plan o) (is_open_beneath plan past o) exclusive beneath)

pub runs_alone : (plan : PlanView) (past : List Event) → IsPlan plan → IsLawful plan past → (o : ℕ) (r q : Run) → is_exclusive plan o ≡ true →
    is_open past r ≡ true → is_open past q ≡ true → is_in o (chain_of_run plan past r) ≡ true → is_in o (chain_of_run plan past q) ≡ true → r ≡ q
runs_alone plan [] valid h o r q exclusive r_on q_on r_in q_in = cc
runs_alone plan (e ∷ past) valid h o r q exclusive r_on q_on r_in q_in =
    ⊎_elim
    (λ r_new. ⊎_elim
    (λ q_new. begins_one e r q r_new q_new)
    (λ q_old. absurd (new_and_old plan e past valid h o r q exclusive r_new q_old q_on r_in q_in))
    (open_cases e past q q_on))
    (λ r_old. ⊎_elim
    (λ q_new. absurd (new_and_old plan e past valid h o q r exclusive q_new r_old r_on q_in r_in))
    (λ q_old.
    let standing = stands plan past valid h.0 in
    runs_alone plan past valid h.0 o r q exclusive r_old q_old
    (sym (ap (is_in o) (chain_step plan e past (valid, h, standing) r r_old r_on)) ∙ r_in)
    (sym (ap (is_in o) (chain_step plan e past (valid, h, standing) q q_old q_on)) ∙ q_in))
    (open_cases e past q q_on))
    (open_cases e past r r_on)

-- ## Barriers

-- a barrier of a node is so as long as its block is submitted
pub barrier_kept : (plan : PlanView) (e : Event) (past : List Event) (n : ℕ) (b : Blk) → is_some (submission_of plan past b.0) ≡ true → is_barrier_on plan (e ∷ past) n (Block b) ≡ is_barrier_on plan past n (Block b)
barrier_kept plan e past n b some =
    let s = some_from_is_some (submission_of plan past b.0) some in
    ap (λ o. option_map_or (λ t. t.barrier && is_on n t) o false) (submission_of-kept plan e past b.0 s.0 s.1 ∙ sym s.1)

pub barrier_kept_open : (plan : PlanView) (e : Event) (past : List Event) → IsLawful plan past → (n : ℕ) (r : Run) → is_open past r ≡ true → is_barrier_on plan (e ∷ past) n r ≡ is_barrier_on plan past n r
barrier_kept_open plan e past h n (Block b) live = barrier_kept plan e past n b (submitted_from_started plan past h b.0 (started_from_open past b live))
barrier_kept_open plan e past h n (Source s) live = refl

barrier_kept_begun : (plan : PlanView) (e : Event) (past : List Event) → IsLawful plan (e ∷ past) → (n : ℕ) (r : Run) → opens e r ≡ true → is_barrier_on plan (e ∷ past) n r ≡ is_barrier_on plan past n r
barrier_kept_begun plan (Start w c) past h n (Block b) now =
    barrier_kept plan (Start w c) past n b (subst (λ k. is_some (submission_of plan past k) ≡ true) (eqb-true c.0 b.0 now) (at_start plan past w c h.1).submitted_one)
barrier_kept_begun plan e past h n (Source s) now = refl
barrier_kept_begun plan e past h n (Block b) now = cc

-- the submission of a block that starts on node n, and that it is not fenced
record Unfenced (plan : PlanView) (past : List Event) (b n : ℕ) : Type 0 where
  pub found : Submission
  pub is : submission_of plan past b ≡ Some found
  pub free : is_fenced plan past found.barrier n ≡ false

by_its_node : (plan : PlanView) (past : List Event) (b n : ℕ) (s : Submission) → submission_of plan past b ≡ Some s → (node : Option Obj) → first_of (option_map_or (λ q. waiting_reasons plan past s.blk.0 s.barrier q.0) node []) ≡ None → option_map (λ o. o.0) node ≡ Some n → Unfenced plan past b n
by_its_node plan past b n s is None h at = cc
by_its_node plan past b n s is (Some q) h at =
    record { found = s; is = is; free = subst (λ m. is_fenced plan past s.barrier m ≡ false) (same_Some q.0 n at) (waiting_facts plan past s.blk.0 s.barrier q.0 h).fenced }

unfenced : (plan : PlanView) (past : List Event) (w : ℕ) (b : Blk) (n : ℕ) → why plan past (Start w b) ≡ None → node_of_run plan past (Block b) ≡ Some n → Unfenced plan past b.0 n
unfenced plan past w b n h node =
    elim (submission_of plan past b.0) as (λ o. submission_of plan past b.0 ≡ o → first_of (node_reasons plan past o) ≡ None → option_map (λ k. k.0) (option_and_then (λ s. s.node) o) ≡ Some n → Unfenced plan past b.0 n) [
      | None ↦ λ is waits at. cc
      | Some s ↦ λ is waits at. by_its_node plan past b.0 n s is s.node waits at
    ] refl (at_start plan past w b h).waits node

-- on a node with barriers, one that is not fenced finds no barrier open, and a barrier finds no run open
unfenced_from_barrier : (plan : PlanView) (past : List Event) (barrier : Bool) (n : ℕ) → has_barriers plan n ≡ true → is_fenced plan past barrier n ≡ false → is_barrier_open plan past n ≡ false
unfolding is_fenced
unfenced_from_barrier plan past barrier n has free =
    ⊎_elim (λ other. absurd (both_ways (has_barriers plan n) other has)) (λ none. (or_parts (is_barrier_open plan past n) (barrier && is_open_on plan past n) none).0)
    (and_cases (has_barriers plan n) (is_barrier_open plan past n || (barrier && is_open_on plan past n)) free)

barrier_from_run : (plan : PlanView) (past : List Event) (n : ℕ) → has_barriers plan n ≡ true → is_fenced plan past true n ≡ false → is_open_on plan past n ≡ false
unfolding is_fenced
barrier_from_run plan past n has free =
    ⊎_elim (λ other. absurd (both_ways (has_barriers plan n) other has)) (λ none. (or_parts (is_barrier_open plan past n) (true && is_open_on plan past n) none).1)
    (and_cases (has_barriers plan n) (is_barrier_open plan past n || (true && is_open_on plan past n)) free)

barrier_open_from : (plan : PlanView) (past : List Event) (n : ℕ) (r : Run) → is_open past r ≡ true → is_barrier_on plan past n r ≡ true → is_barrier_open plan past n ≡ true
unfolding is_barrier_open
barrier_open_from plan past n r live barrier = any_open past (is_barrier_on plan past n) r live barrier

-- a source is no concurrent queue
no_source_kind : (kind : Kind) → is_concurrent_kind kind ≡ true → is_source_kind kind ≡ true → ⊥
no_source_kind Concurrent h k = both_ways (is_source_kind Concurrent) refl k
no_source_kind kind h k = both_ways (is_concurrent_kind kind) refl h

no_source : (plan : PlanView) (n : ℕ) → has_barriers plan n ≡ true → is_source plan n ≡ true → ⊥
no_source plan n has source =
    elim (kind_of plan n) as (λ o. option_map_or is_concurrent_kind o false ≡ true → option_map_or is_source_kind o false ≡ true → ⊥) [
      | None ↦ λ a b. both_ways false refl a
      | Some kind ↦ λ a b. no_source_kind kind a b
    ] (and_parts (not (n == 0)) (has_kind is_concurrent_kind plan n) has).1 source

-- the block of a barrier of node n was submitted there, as a barrier
barrier_of : (plan : PlanView) (past : List Event) (n : ℕ) (b : Blk) (s : Submission) → submission_of plan past b.0 ≡ Some s → is_barrier_on plan past n (Block b) ≡ true → (s.barrier ≡ true) × (is_on n s ≡ true)
barrier_of plan past n b s is barrier =
    let here : (s.barrier && is_on n s) ≡ true = sym (ap (λ o. option_map_or (λ t. t.barrier && is_on n t) o false) is) ∙ barrier in
    and_parts s.barrier (is_on n s) here

node_on : (s : Submission) (n : ℕ) → is_on n s ≡ true → option_map (λ o. o.0) s.node ≡ Some n
node_on s n h =
    elim s.node as (λ o. option_map_or (λ q. q.0 == n) o false ≡ true → option_map (λ q. q.0) o ≡ Some n) [
      | None ↦ λ k. cc
      | Some q ↦ λ k. ap Some (eqb-true q.0 n k)
    ] h

-- a barrier that begins finds no run open on its node
new_barrier : (plan : PlanView) (e : Event) (past : List Event) → IsLawful plan (e ∷ past) → (n : ℕ) (r q : Run) → has_barriers plan n ≡ true → opens e r ≡ true → is_barrier_on plan past n r ≡ true → is_open past q ≡ true → node_of_run plan past q ≡ Some n → ⊥
new_barrier plan (Start w c) past h n (Block b) q has now barrier live node =
    let same : c.0 ≡ b.0 = eqb-true c.0 b.0 now in
    let begun : why plan past (Start w b) ≡ None = subst (λ k. why plan past (Start w (record { 0 = k })) ≡ None) same h.1 in
    let s = some_from_is_some (submission_of plan past b.0) (at_start plan past w b begun).submitted_one in
    let parts = barrier_of plan past n b s.0 s.1 barrier in
    let its_node : node_of_run plan past (Block b) ≡ Some n = ap (λ o. option_map (λ k. k.0) (option_and_then (λ t. t.node) o)) s.1 ∙ node_on s.0 n parts.1 in
    let free = unfenced plan past w b n begun its_node in
    let it : free.found.barrier ≡ true = ap (λ t. t.barrier) (same_Some free.found s.0 (sym free.is ∙ s.1)) ∙ parts.0 in
    let fenced : is_fenced plan past true n ≡ false = subst (λ v. is_fenced plan past v n ≡ false) it free.free in
    both_ways (is_open_on plan past n) (barrier_from_run plan past n has fenced) (open_on_from plan past q n live node)
new_barrier plan e past h n (Source s) q has now barrier live node = both_ways false refl barrier
new_barrier plan e past h n (Block b) q has now barrier live node = both_ways false refl now

-- a run that begins finds no barrier open on its node
new_beside_barrier : (plan : PlanView) (e : Event) (past : List Event) → IsLawful plan (e ∷ past) → (n : ℕ) (r q : Run) → has_barriers plan n ≡ true → opens e q ≡ true → node_of_run plan past q ≡ Some n → is_open past r ≡ true → is_barrier_on plan past n r ≡ true → ⊥
new_beside_barrier plan (Start w c) past h n r (Block b) has now node live barrier =
    let same : c.0 ≡ b.0 = eqb-true c.0 b.0 now in
    let begun : why plan past (Start w b) ≡ None = subst (λ k. why plan past (Start w (record { 0 = k })) ≡ None) same h.1 in
    let free = unfenced plan past w b n begun node in
    both_ways (is_barrier_open plan past n) (unfenced_from_barrier plan past free.found.barrier n has free.free) (barrier_open_from plan past n r live barrier)
new_beside_barrier plan e past h n r (Source s) has now node live barrier =
    no_source plan n has (subst (λ m. is_source plan m ≡ true) (same_Some s.0 n node) (begun_source plan past e s h now))
new_beside_barrier plan e past h n r (Block b) has now node live barrier = both_ways false refl now

-- a barrier of a node and a run on it that are open at one moment are one
pub barriers_alone : (plan : PlanView) (past : List Event) → IsLawful plan past → (n : ℕ) (r q : Run) → has_barriers plan n ≡ true → is_open past r ≡ true → is_open past q ≡ true →
    is_barrier_on plan past n r ≡ true → node_of_run plan past q ≡ Some n → r ≡ q
barriers_alone plan [] h n r q has r_on q_on barrier node = cc
barriers_alone plan (e ∷ past) h n r q has r_on q_on barrier node =
    ⊎_elim
    (λ r_new.
    let there : is_barrier_on plan past n r ≡ true = sym (barrier_kept_begun plan e past h n r r_new) ∙ barrier in
    ⊎_elim
    (λ q_new. begins_one e r q r_new q_new)
    (λ q_old. absurd (new_barrier plan e past h n r q has r_new there q_old (sym (node_kept_open plan e past h.0 q q_old) ∙ node)))
    (open_cases e past q q_on))
    (λ r_old.
    let there : is_barrier_on plan past n r ≡ true = sym (barrier_kept_open plan e past h.0 n r r_old) ∙ barrier in
    ⊎_elim
    (λ q_new. absurd (new_beside_barrier plan e past h n r q has q_new (sym (node_kept_begun plan e past h q q_new) ∙ node) r_old there))
    (λ q_old. barriers_alone plan past h.0 n r q has r_old q_old there (sym (node_kept_open plan e past h.0 q q_old) ∙ node))
    (open_cases e past q q_on))
    (open_cases e past r r_on)
