-- Only what was created active moves, and nothing is open beneath an object when its target has changed.
use Rattle.std.proofs.Common.{◌≡◌, ⊎_elim, ℕ, true, List, [], ◌∷◌, length, Some, ap, sym, ◌∙◌, subst}
use Rattle.std.proofs.lemmas.Bool.{cases_Bool}
use Rattle.gcd_plan.specs.PlanView.{PlanView, starts_active}
use Rattle.gcd_plan.specs.Chains.{is_in}
use Rattle.gcd_plan.specs.Validity.{IsPlan}
use Rattle.gcd_plan.specs.declared.numbers.Run.{Run}
use Rattle.gcd_event.specs.declared.event.Event.{Event}
use Rattle.gcd_history.specs.Runs.{open_runs, is_open}
use Rattle.gcd_history.specs.Tree.{target, is_moving, node_of_run, chain_of_run, open_beneath}
use Rattle.gcd_history.specs.Permitted.{IsLawful}
use Rattle.gcd_plan.proofs.Sums.{count_by_none}
use Rattle.gcd_history.proofs.Runs.OpenNodes.{open_cases, open_any, open_on_to}
use Rattle.gcd_history.proofs.Tree.TargetActs.{made_active, nodes_at}
use Rattle.gcd_plan.proofs.Walks.{in_own}
use Rattle.gcd_history.proofs.Tree.Stands.{Step, stands, some_objects, asks, moving_before, was_open, kept_at, chain_step, begun_aim}

-- a run is beneath its own node
pub beneath_own : (plan : PlanView) (past : List Event) (q : Run) (o : ℕ) → IsPlan plan → node_of_run plan past q ≡ Some o → is_in o (chain_of_run plan past q) ≡ true
beneath_own plan past q o valid node = subst (λ l. is_in o l ≡ true) (sym (nodes_at plan past q o node)) (in_own (target plan past) (length plan.objects) o (some_objects plan valid))

pub moving_made_active : (plan : PlanView) (past : List Event) → IsPlan plan → IsLawful plan past → (o : ℕ) → is_moving plan past o ≡ true → starts_active plan o ≡ true
moving_made_active plan [] valid h o moving = cc
moving_made_active plan (e ∷ past) valid h o moving =
    ⊎_elim
    (λ before. moving_made_active plan past valid h.0 o before)
    (λ new.
    let standing = stands plan past valid h.0 in
    let q = open_on_to plan past o (was_open plan e past (valid, h, standing) o moving) in
    let active = standing.active o q.0 q.1 (beneath_own plan past q.0 o valid q.2) in
    made_active plan past o new.0 (asks plan e past o new.0 valid h new.1).facts active)
    (moving_before plan e past o moving)

-- a run that is open beneath an object after the event was so before, and keeps its target
kept_beneath : (plan : PlanView) (e : Event) (past : List Event) → IsPlan plan → IsLawful plan (e ∷ past) → (o : ℕ) (q : Run) → is_open (e ∷ past) q ≡ true → is_in o (chain_of_run plan (e ∷ past) q) ≡ true → target plan (e ∷ past) o ≡ target plan past o
kept_beneath plan e past valid h o q on inside =
    ⊎_elim
    (λ now. ap (λ a. a.target) (begun_aim plan e past h.0 q o now))
    (λ live.
    let step : Step plan e past = (valid, h, stands plan past valid h.0) in
    kept_at plan e past step q o live on (sym (ap (is_in o) (chain_step plan e past step q live on)) ∙ inside))
    (open_cases e past q on)

pub changes_alone : (plan : PlanView) (e : Event) (past : List Event) → IsPlan plan → IsLawful plan (e ∷ past) → (o : ℕ) → (target plan (e ∷ past) o ≡ target plan past o → ⊥) → open_beneath plan (e ∷ past) o ≡ 0
changes_alone plan e past valid h o changed =
    count_by_none (λ run. is_in o (chain_of_run plan (e ∷ past) run)) (open_runs (e ∷ past))
    (⊎_elim
    (λ some.
    let q = open_any (e ∷ past) (λ run. is_in o (chain_of_run plan (e ∷ past) run)) some in
    absurd (changed (kept_beneath plan e past valid h o q.0 q.1 q.2)))
    (λ none. none)
    (cases_Bool _))
