-- Which event a worker records next, and how a run ends (this project's own rule).
use Rattle.std.specs.Prelude.{◌≡◌, ℕ, ◌-◌, Bool, true, false, if◌then◌else◌, List, [], ◌∷◌, ◌++◌, length, map, Option, None, find, option_to_list}
use Rattle.std.specs.Option.{option_map_or}
use Rattle.std.specs.List.{list_all, flat_map, range_with_len}
use Rattle.gcd_plan.specs.PlanView.{PlanView}
use Rattle.gcd_plan.specs.Kinds.{is_source}
use Rattle.gcd_plan.specs.declared.numbers.Blk.{Blk}
use Rattle.gcd_plan.specs.declared.numbers.Run.{Run}
use Rattle.gcd_plan.specs.declared.numbers.Run.TheVariants.{Block, Source}
use Rattle.gcd_event.specs.declared.event.Event.{Event}
use Rattle.gcd_event.specs.declared.event.Event.TheVariants.{Start, Act as Acted, Wake, End, Deliver, DeliverEnd, Tick, Ready, FeedEnd, Misuse, Halt, Expire, Accept, Shut}
use Rattle.gcd_event.specs.Owners.{worker_of as worker_by}
use Rattle.gcd_history.specs.Runs.{open_runs, acts_done, is_ended}
use Rattle.gcd_history.specs.Intake.{is_intake_open}
use Rattle.gcd_history.specs.Submitted.{submitted}
use Rattle.gcd_history.specs.Parked.{has_run}
use Rattle.gcd_history.specs.Due.{next_due}
use Rattle.gcd_history.specs.Sources.{is_live_feed}
use Rattle.gcd_history.specs.Permitted.{permitted, misuse_at, first_waiting, is_halted}

-- the end of the run
abbrev pub end_of : ℕ → Run → Event
end_of w (Block b) = End w b
end_of w (Source s) = DeliverEnd w s

-- the run's next act, as an act or as a misuse, or its end
abbrev pub next_events : PlanView → List Event → ℕ → Run → List Event
next_events plan past w run =
    Acted w run (acts_done past run)
    ∷ map (λ c. Misuse w c run (acts_done past run)) (option_to_list (misuse_at plan past run (acts_done past run)))
    ++ end_of w run ∷ []

-- the next event of an open run, where worker w has it
abbrev pub own_events : PlanView → List Event → ℕ → Run → List Event
own_events plan past w run = if has_run plan past w run then next_events plan past w run else []

-- the Wake of block b
abbrev pub wake_event : ℕ → ℕ → Event
wake_event w b = Wake w (record { 0 = b })

-- the Start of the first block that waits on node n, or its Deliver
abbrev pub node_events : PlanView → List Event → ℕ → ℕ → List Event
node_events plan past w n =
    option_map_or (λ s. Start w s.blk ∷ []) (first_waiting plan past n) []
    ++ (if is_source plan n then Deliver w (record { 0 = n }) ∷ [] else [])

-- what worker w may record next, in the order of choice: an event of its own run, a Wake by the block's number, the Start
-- of main, and of the nodes from number `from` on, wrapping round
abbrev pub candidates : PlanView → List Event → ℕ → (from : ℕ) → List Event
candidates plan past w from =
    flat_map (own_events plan past w) (open_runs past)
    ++ map (wake_event w) (range_with_len 0 (length plan.blocks))
    ++ Start w (record { 0 = 0 }) ∷ []
    ++ flat_map (node_events plan past w) (range_with_len from (length plan.objects - from))
    ++ flat_map (node_events plan past w) (range_with_len 0 from)

-- the first of them that is permitted
abbrev pub choice : PlanView → List Event → ℕ → (from : ℕ) → Option Event
choice plan past w from = find (permitted plan past) (candidates plan past w from)

-- the Expire of block b
abbrev pub expire_event : ℕ → Event
expire_event b = Expire (record { 0 = b })

-- the Expire that worker 0 records: that of the lowest-numbered block where it is permitted
abbrev pub expiry : PlanView → List Event → Option Event
expiry plan past = find (permitted plan past) (map expire_event (range_with_len 0 (length plan.blocks)))

-- an event of a worker, and not of the outside
abbrev pub is_work : Event → Bool
is_work (Start w b) = true
is_work (Acted w r i) = true
is_work (Wake w b) = true
is_work (End w b) = true
is_work (Deliver w s) = true
is_work (DeliverEnd w s) = true
is_work (Tick t) = false
is_work (Ready s n) = false
is_work (FeedEnd s) = false
is_work (Misuse w c r i) = true
is_work Halt = false
is_work (Expire b) = false
is_work (Accept b s) = false
is_work Shut = false

-- the event's worker; those of the outside are worker 0's
abbrev pub worker_of : Event → ℕ
worker_of e = worker_by e

-- not halted, no event of any worker and no Expire is permitted, no due time is left, no read source is live, and no intake is
-- open
pub record IsQuiescent (plan : PlanView) (past : List Event) : Type 0 where
  pub goes_on : is_halted past ≡ false
  pub no_work : (e : Event) → is_work e ≡ true → permitted plan past e ≡ false
  pub no_expiry : (b : Blk) → permitted plan past (Expire b) ≡ false
  pub no_time : next_due plan past ≡ None
  pub no_feed : (s : ℕ) → is_live_feed plan past s ≡ false
  pub no_intake : is_intake_open plan past ≡ false

-- each block that was submitted has ended
abbrev pub all_ended : PlanView → List Event → Bool
all_ended plan past = list_all (λ s. is_ended past s.blk.0) (submitted plan past)
