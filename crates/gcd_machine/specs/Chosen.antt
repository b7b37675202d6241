-- What a worker records next, and how far the run has come, as what a machine keeps tells it: each word as near to the code as its
-- case split. That it is the definition's answer is proved of every machine that stands for a history.
use Rattle.std.specs.Prelude.{ℕ, zero, suc, ◌+◌, ◌-◌, ◌==◌, min, Bool, false, not, ◌&&◌, ◌||◌, if◌then◌else◌, List, length, Option, Some, None, is_none, find, slice_get, slice_index_or, count_by}
use Rattle.std.specs.Option.{option_map, option_map_or, option_or}
use Rattle.std.specs.List.{range_with_len}
use Rattle.gcd_plan.specs.Kinds.{is_source}
use Rattle.gcd_plan.specs.declared.act.Act.{Act}
use Rattle.gcd_plan.specs.declared.numbers.Blk.{Blk}
use Rattle.gcd_plan.specs.declared.numbers.Run.{Run}
use Rattle.gcd_event.specs.declared.event.Event.{Event}
use Rattle.gcd_event.specs.declared.event.Event.TheVariants.{Start, Act as Acted, Deliver, Misuse}
use Rattle.gcd_history.specs.Choice.{end_of, wake_event, expire_event}
use Rattle.gcd_history.specs.Permitted.{is_worker}
use Rattle.gcd_history.specs.declared.state.State.{State}
use Rattle.gcd_history.specs.declared.state.State.TheVariants.{Drained, Stuck, Misused, Halted, Live}
use Rattle.gcd_lists.specs.ListsView.{list_at}
use Rattle.gcd_drain.specs.Rule.{is_fenced_at}
use Rattle.gcd_drain.specs.Shut.{is_shut_by}
use Rattle.gcd_drain.specs.Held.{is_chain_held_by}
use Rattle.gcd_refinement.specs.MachineView.{MachineView, block_at, at_worker, busy_at, next_due_in}
use Rattle.gcd_machine.specs.Judged.{done_at, next_act_at, misuse_by, is_busy_at, is_pending_at, is_intake_open_at}

-- ## Of its own run

-- the act, which is the run's next, as an act or as a misuse
abbrev pub act_event_at : MachineView → ℕ → Run → Act → Event
act_event_at m w run act =
    option_map_or (λ c. Misuse w c run (done_at m run)) (misuse_by m act) (Acted w run (done_at m run))

-- the next event of the run, which worker w has: its next act, or its end
abbrev pub own_event_at : MachineView → ℕ → Run → Event
own_event_at m w run = option_map_or (act_event_at m w run) (next_act_at m run) (end_of w run)

-- ## Of no run of its own

-- the least number from `from` on whose flag is set
abbrev pub next_set : List Bool → (from : ℕ) → Option ℕ
next_set flags from = find (λ i. slice_index_or flags i false) (range_with_len from (length flags - from))

-- the Wake of the parked block with the least number that may wake
abbrev pub wake_at : MachineView → ℕ → Option Event
wake_at m w = option_map (wake_event w) (next_set m.wakeable 0)

-- the Start of main
abbrev pub main_at : MachineView → ℕ → Option Event
main_at m w = if (block_at m 0).started then None else Some (Start w (record { 0 = 0 }))

-- the Start of the block that waits on node n, as a barrier or not, if the barrier rule lets it
abbrev pub start_at : MachineView → ℕ → ℕ → Blk × Bool → Option Event
start_at m w n waiting = if is_fenced_at m.drains m.tree waiting.1 n then None else Some (Start w waiting.0)

-- the Deliver of source n, if it is one and something is pending there
abbrev pub deliver_at : MachineView → ℕ → ℕ → Option Event
deliver_at m w n = if is_source m.plan n && is_pending_at m n then Some (Deliver w (record { 0 = n })) else None

-- the Start of the first block that waits on node n, or its Deliver; where the node's chain is shut it has neither
abbrev pub node_at : MachineView → ℕ → ℕ → Option Event
node_at m w n =
    if is_shut_by m.drains m.tree m.holds n
    then None
    else option_or (option_map_or (start_at m w n) (slice_get (list_at m.lists n) 0) None) (deliver_at m w n)

-- object n has to be looked at, and its chain is not held: nothing begins on another
abbrev pub may_begin_at : MachineView → ℕ → Bool
may_begin_at m n = busy_at m n && not (is_chain_held_by m.tree m.holds n)

-- the first of these from object n on, among so many objects; one that is not marked has none
abbrev pub nodes_at : MachineView → ℕ → ℕ → ℕ → Option Event
nodes_at m w n zero = None
nodes_at m w n (suc count) = option_or (if busy_at m n then node_at m w n else None) (nodes_at m w (n + 1) count)

-- the same over all objects, from number `first` on, wrapping round
abbrev pub all_nodes_at : MachineView → ℕ → (first : ℕ) → Option Event
all_nodes_at m w first = option_or (nodes_at m w first (length m.plan.objects - first)) (nodes_at m w 0 first)

-- what a worker without a run records next
abbrev pub idle_choice_at : MachineView → ℕ → (from : ℕ) → Option Event
idle_choice_at m w from =
    option_or (wake_at m w) (option_or (main_at m w) (all_nodes_at m w (min from (length m.plan.objects))))

-- ## The whole

-- what worker w records next, the nodes from number `from` on
abbrev pub choice_by : MachineView → ℕ → (from : ℕ) → Option Event
choice_by m w from =
    if (m.misused || m.halted) || not (is_worker w)
    then None
    else option_map_or (λ run. Some (own_event_at m w run)) (at_worker m w) (idle_choice_at m w from)

-- what worker w may begin on node n, if it has no run
abbrev pub begin_by : MachineView → ℕ → ℕ → Option Event
begin_by m w n =
    if (m.misused || m.halted) || not (is_worker w)
    then None
    else (if is_busy_at m w then None else node_at m w n)

-- the Expire that worker 0 records: of the block with the least number whose wait may expire
abbrev pub expiry_by : MachineView → Option Event
expiry_by m = if m.misused || m.halted then None else option_map expire_event (next_set m.ripe 0)

-- ## How far the run has come

-- nothing but a halt can come, and the run is not halted
abbrev pub is_quiescent_at : MachineView → Bool
is_quiescent_at m =
    not (m.misused || m.halted)
    && (not (is_intake_open_at m) && (m.running == 0 && (count_by (λ b. b) m.live == 0 && (count_by (λ b. b) m.ripe == 0 && (is_none (next_due_in m) && is_none (choice_by m 0 0))))))

-- how far the run has come; where nothing can come and no block is left it is drained, and else stuck
abbrev pub state_by : MachineView → State
state_by m =
    if m.misused then Misused else (if m.halted then Halted
    else (if is_quiescent_at m then (if m.left == 0 then Drained else Stuck) else Live))
