-- Whose the events of a history are, and that they follow worker 0's choice.
use Rattle.std.specs.Prelude.{◌≡◌, ◌≤◌, ◌<◌, ℕ, List, Some, slice_get, take, IsTrue}
use Rattle.gcd_plan.specs.PlanView.{PlanView}
use Rattle.gcd_event.specs.declared.event.Event.{Event}
use Rattle.gcd_history.specs.Choice.{is_work, worker_of}
use Rattle.gcd_history.specs.History.{choice_of}

-- each event is of one of so many workers, numbered from 0
abbrev pub IsOfWorkers : ℕ → List Event → Type 0
IsOfWorkers workers h = (i : ℕ) (e : Event) → slice_get h i ≡ Some e → worker_of e < workers

-- each event is worker 0's
abbrev pub IsAllWorker0 : List Event → Type 0
IsAllWorker0 h = (i : ℕ) (e : Event) → slice_get h i ≡ Some e → worker_of e ≡ 0

-- each event of a worker is what worker 0 chooses at its place, the nodes from number 0 on
abbrev pub FollowsChoice : PlanView → List Event → Type 0
FollowsChoice plan h = (i : ℕ) (e : Event) → slice_get h i ≡ Some e → IsTrue (is_work e) → choice_of plan (take i h) 0 0 ≡ Some e

-- each event of a worker from place n on is what worker 0 chooses at its place
abbrev pub FollowsFrom : ℕ → PlanView → List Event → Type 0
FollowsFrom n plan h = (i : ℕ) (e : Event) → slice_get h i ≡ Some e → n ≤ i → IsTrue (is_work e) → choice_of plan (take i h) 0 0 ≡ Some e
