-- Worked rows: a lawful history in which runs are taken, given back by a park, taken again by another worker, and given back by ends.
use Rattle.std.specs.Prelude.{◌≡◌, ℕ, Bool, true, false, List, [], ◌∷◌, map, take, reverse, Some, None, codes, refl, is_none, ◌&&◌}
use Rattle.gcd_plan.specs.PlanView.{PlanView, ObjView, BlkView}
use Rattle.gcd_plan.specs.Validity.{root_view}
use Rattle.gcd_plan.specs.declared.act.Act.{Act}
use Rattle.gcd_plan.specs.declared.act.Act.TheVariants.{Async, Wait, Signal, Merge, Activate}
use Rattle.gcd_plan.specs.declared.kind.Kind.{Kind}
use Rattle.gcd_plan.specs.declared.kind.Kind.TheVariants.{Semaphore, Add}
use Rattle.gcd_plan.specs.declared.numbers.Blk.{Blk}
use Rattle.gcd_plan.specs.declared.numbers.Obj.{Obj}
use Rattle.gcd_plan.specs.declared.numbers.Run.TheVariants.{Block, Source}
use Rattle.gcd_event.specs.declared.event.Event.{Event}
use Rattle.gcd_event.specs.declared.event.Event.TheVariants.{Start, Act as Acted, Wake, End, Deliver, DeliverEnd}
use Rattle.gcd_history.specs.Holds.{is_free}
use Rattle.gcd_history.specs.Parked.{awaited, is_parked, has_run, is_busy, has_come, has_run_out, may_wake}
use Rattle.gcd_history.specs.Due.{next_due, may_tick}
use Rattle.gcd_history.specs.Sources.{is_pending, is_live_feed}
use Rattle.gcd_history.specs.Misuses.{misuse}
use Rattle.gcd_history.specs.Permitted.{why, is_ready, is_behind, knowledge, is_barrier_open, is_fenced, has_act_left, is_next, misuse_at}
use Rattle.gcd_history.specs.History.{parks}
use Rattle.gcd_history.specs.Team.{held_by}

o : ℕ → Obj
o n = record { 0 = n }

b : ℕ → Blk
b n = record { 0 = n }

object : List ℕ → Kind → Bool → ObjView
object name kind active = record { name = name; kind = kind; target = o 0; active = active; path = []; handler = []; cancel = None }

block : List ℕ → List Act → BlkView
block name acts = record { name = name; acts = acts; work = None }

-- semaphore s 0; source u add on root; block b1: wait s; main: async root b1, merge u 5, activate u, signal s
plan : PlanView
unfolding o b object block
plan = record {
  objects = root_view ∷ object (codes "s") (Semaphore 0) true ∷ object (codes "u") Add false ∷ [];
  blocks = block (codes "main") (Async (o 0) (b 1) ∷ Merge (o 2) 5 ∷ Activate (o 2) ∷ Signal (o 1) ∷ []) ∷ block (codes "b1") (Wait (o 1) ∷ []) ∷ [];
  files = [];
  until = 1000;
  intake = None;
  strips = [];
}

events : List Event
unfolding o b
events = Start 0 (b 0) ∷ Acted 0 (Block (b 0)) 0 ∷ Start 1 (b 1) ∷ Acted 1 (Block (b 1)) 0 ∷ Acted 0 (Block (b 0)) 1 ∷ Acted 0 (Block (b 0)) 2
    ∷ Deliver 1 (o 2) ∷ Acted 0 (Block (b 0)) 3 ∷ End 0 (b 0) ∷ Wake 0 (b 1) ∷ DeliverEnd 1 (o 2) ∷ End 0 (b 1) ∷ []

-- each event is permitted after those before it
all_permitted : PlanView → (past events : List Event) → Bool
all_permitted p past [] = true
all_permitted p past (e ∷ later) = is_none (why p past e) && all_permitted p (e ∷ past) later

lawful_row : all_permitted plan [] events ≡ true
unfolding all_permitted plan events o b object block is_free awaited is_parked has_run is_busy has_come has_run_out may_wake next_due may_tick is_pending is_live_feed misuse is_ready is_behind knowledge is_barrier_open is_fenced has_act_left is_next misuse_at
lawful_row = refl

-- worker 0 has main until its End, and b1 from its Wake; worker 1 has b1 until it parks, and then the handler
held_row : (map (λ i. held_by plan (take i events) 0) (0 ∷ 1 ∷ 4 ∷ 8 ∷ 9 ∷ 10 ∷ 12 ∷ []) ≡ None ∷ Some (Block (b 0)) ∷ Some (Block (b 0)) ∷ Some (Block (b 0)) ∷ None ∷ Some (Block (b 1)) ∷ None ∷ [])
    × (map (λ i. held_by plan (take i events) 1) (0 ∷ 3 ∷ 4 ∷ 6 ∷ 7 ∷ 10 ∷ 11 ∷ []) ≡ None ∷ Some (Block (b 1)) ∷ None ∷ None ∷ Some (Source (o 2)) ∷ Some (Source (o 2)) ∷ None ∷ [])
unfolding held_by plan events o b object block
held_row = (refl, refl)

-- refused: a Wake of b1 while worker 1 has it, its End by worker 1 after it has parked, and a Deliver while the handler is open
refused_row : (is_none (why plan (reverse (take 3 events)) (Wake 2 (b 1))) ≡ false) × (is_none (why plan (reverse (take 4 events)) (End 1 (b 1))) ≡ false) × (is_none (why plan (reverse (take 7 events)) (Deliver 2 (o 2))) ≡ false)
unfolding plan events o b object block is_free awaited is_parked has_run is_busy has_come has_run_out may_wake next_due may_tick is_pending is_live_feed misuse is_ready is_behind knowledge is_barrier_open is_fenced has_act_left is_next misuse_at
refused_row = (refl, refl, refl)

-- a plan that is not valid: the handler of u waits, so its act would park a run that no Wake can name
careless : PlanView
unfolding plan o
careless = record plan { objects = root_view ∷ (record (object (codes "u") Add false) { handler = Wait (o 1) ∷ [] }) ∷ [] }

handler_parks : parks careless (Acted 0 (Source (o 1)) 0) ≡ true
unfolding careless plan o b object block parks
handler_parks = refl
