-- Targets, chains, and what is open beneath a node (dispatch_set_target_queue(3)).
use Rattle.std.specs.Prelude.{ℕ, ◌==◌, Bool, not, false, ◌&&◌, ◌||◌, if◌then◌else◌, List, [], ◌∷◌, length, Option, Some, None, is_some, option_and_then, option_map, unwrap_or, count_by}
use Rattle.std.specs.Option.{option_map_or}
use Rattle.std.specs.List.{list_any, range_with_len}
use Rattle.gcd_plan.specs.Effects.{effects_of}
use Rattle.gcd_plan.specs.PlanView.{PlanView, first_target}
use Rattle.gcd_plan.specs.Kinds.{is_node}
use Rattle.gcd_plan.specs.Chains.{chain_by, is_in}
use Rattle.gcd_plan.specs.declared.act.Act.{Act}
use Rattle.gcd_plan.specs.declared.numbers.Run.{Run}
use Rattle.gcd_plan.specs.declared.numbers.Run.TheVariants.{Block, Source}
use Rattle.gcd_event.specs.declared.event.Event.{Event}
use Rattle.gcd_history.specs.Runs.{act_of, open_runs}
use Rattle.gcd_history.specs.Submitted.{submission_of}

-- the node of a run: a block's queue or source, a handler's source; main has none
abbrev pub node_of_run : PlanView → List Event → Run → Option ℕ
node_of_run plan past (Block b) = option_map (λ o. o.0) (option_and_then (λ s. s.node) (submission_of plan past b.0))
node_of_run plan past (Source s) = Some s.0

-- the run's node is o
abbrev pub is_run_on : PlanView → List Event → ℕ → Run → Bool
is_run_on plan past o run = option_map_or (λ n. n == o) (node_of_run plan past run) false

-- how many runs are open on node o itself
abbrev pub open_on : PlanView → List Event → ℕ → ℕ
open_on plan past o = count_by (is_run_on plan past o) (open_runs past)

-- a run is open on node o itself
abbrev pub is_open_on : PlanView → List Event → ℕ → Bool
is_open_on plan past o = list_any (is_run_on plan past o) (open_runs past)

-- an object's target, and the target that waits until no run is open on the object
pub record Aim : Type 0 where
  pub target : ℕ
  pub request : Option ℕ

-- the target that the act asks for object o (dispatch_set_target_queue(3))
abbrev pub asked : ℕ → Option Act → Option ℕ
asked o act = option_map_or (λ t. if t.0.0 == o then Some t.1.0 else None) (effects_of act).targets None

-- the request, if there is one, is the target now
abbrev pub settled : Option ℕ → Aim → Aim
settled None aim = aim
settled (Some t) aim = record { target = t; request = None }

-- after an event: a Target act sets the target where no run is open on the object, and else the request; the event that
-- closes the last run open on it turns the request into the target (dispatch_set_target_queue(3))
abbrev pub aim_after : Option ℕ → (was_open is_now : Bool) → Aim → Aim
aim_after (Some t) was_open is_now aim = if was_open then record aim { request = Some t } else record aim { target = t }
aim_after None was_open is_now aim = if was_open && not is_now then settled aim.request aim else aim

-- the target and the request of object o
abbrev pub aim : PlanView → List Event → ℕ → Aim
aim plan [] o = record { target = first_target plan o; request = None }
aim plan (e ∷ past) o =
    aim_after (asked o (act_of plan e)) (is_open_on plan past o) (is_open_on plan (e ∷ past) o) (aim plan past o)

-- the target of object o
abbrev pub target : PlanView → List Event → ℕ → ℕ
target plan past o = (aim plan past o).target

-- the target of object o is about to change: it has a request
abbrev pub is_moving : PlanView → List Event → ℕ → Bool
is_moving plan past o = is_some (aim plan past o).request

-- the node, its target and so on to root (dispatch_queue_create(3))
abbrev pub chain : PlanView → List Event → ℕ → List ℕ
chain plan past o = chain_by (target plan past) (length plan.objects) o

-- the nodes that the run is beneath; main is beneath none
abbrev pub chain_of_run : PlanView → List Event → Run → List ℕ
chain_of_run plan past run = option_map_or (chain plan past) (node_of_run plan past run) []

-- how many runs are open beneath object o
abbrev pub open_beneath : PlanView → List Event → ℕ → ℕ
open_beneath plan past o = count_by (λ run. is_in o (chain_of_run plan past run)) (open_runs past)

-- a run is open beneath object o
abbrev pub is_open_beneath : PlanView → List Event → ℕ → Bool
is_open_beneath plan past o = list_any (λ run. is_in o (chain_of_run plan past run)) (open_runs past)

-- where a walk along the targets goes from object o: to its request, and to its target where it has none
abbrev pub next_on_walk : PlanView → List Event → ℕ → ℕ
next_on_walk plan past o = unwrap_or (aim plan past o).request (aim plan past o).target

-- a walk from t, t itself included, reaches o, so o with the target t would be in a cycle (dispatch_set_target_queue(3))
abbrev pub would_cycle : PlanView → List Event → ℕ → ℕ → Bool
would_cycle plan past o t = is_in o (chain_by (next_on_walk plan past) (length plan.objects) t)

-- object o is the target or the request of object p
abbrev pub aims_at : PlanView → List Event → ℕ → ℕ → Bool
aims_at plan past p o = target plan past p == o || option_map_or (λ t. t == o) (aim plan past p).request false

-- another object than root has o as target or as request
abbrev pub has_child : PlanView → List Event → ℕ → Bool
has_child plan past o =
    list_any (λ p. not (p == 0) && (is_node plan p && (not (p == o) && aims_at plan past p o)))
    (range_with_len 0 (length plan.objects))
