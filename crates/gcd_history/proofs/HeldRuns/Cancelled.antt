-- Whether a block is cancelled does not change while a worker holds it, nor as one takes it (dispatch_block_cancel(3)).
use Rattle.std.proofs.Common.{◌≡◌, ◌++◌, ℕ, true, List, [], ◌∷◌, Some, None, reverse, refl}
use Rattle.gcd_plan.specs.PlanView.{PlanView}
use Rattle.gcd_plan.specs.declared.numbers.Blk.{Blk}
use Rattle.gcd_plan.specs.declared.numbers.Run.{Run}
use Rattle.gcd_plan.specs.declared.numbers.Run.TheVariants.{Block}
use Rattle.gcd_event.specs.declared.event.Event.{Event}
use Rattle.gcd_event.specs.declared.event.Event.TheVariants.{Start, Act as Acted, Wake, End, Deliver, DeliverEnd, Tick, Ready, FeedEnd, Misuse, Halt, Expire, Accept, Shut}
use Rattle.gcd_history.specs.Runs.{act_of}
use Rattle.gcd_history.specs.History.{IsLawful, has_run, is_block_cancelled, is_started}
use Rattle.gcd_history.proofs.Blocks.CancelledStays.{cancelled_without_act}
use Rattle.gcd_history.proofs.Blocks.StartedOnce.{open_from_has_run, started_from_open}
use Rattle.gcd_history.specs.Held.{taken}
use Rattle.gcd_history.specs.Team.{held_by}
use Rattle.gcd_history.proofs.Public.TeamLaws.{held_runs_are_open}

-- what takes a run is no act
taken_without_act : (plan : PlanView) (e : Event) (r : Run) → taken e ≡ Some r → act_of plan e ≡ None
taken_without_act plan (Start w b) r is = refl
taken_without_act plan (Acted w q i) r is = absurd (cc)
taken_without_act plan (Wake w b) r is = refl
taken_without_act plan (End w b) r is = refl
taken_without_act plan (Deliver w s) r is = refl
taken_without_act plan (DeliverEnd w s) r is = refl
taken_without_act plan (Tick t) r is = refl
taken_without_act plan (Ready s n) r is = refl
taken_without_act plan (FeedEnd s) r is = refl
taken_without_act plan (Misuse w c q i) r is = refl
taken_without_act plan Halt r is = refl
taken_without_act plan (Expire b) r is = refl
taken_without_act plan (Accept b s) r is = refl
taken_without_act plan Shut r is = refl

pub cancelled_at_taking : (plan : PlanView) (h : List Event) (e : Event) (r : Run) (b : ℕ) → taken e ≡ Some r
    → is_block_cancelled plan (h ++ e ∷ []) b ≡ is_block_cancelled plan h b
cancelled_at_taking plan h e r b is = cancelled_without_act plan h e b (taken_without_act plan e r is)

-- a block that a worker holds has begun
pub begun_where_held : (plan : PlanView) (h : List Event) (w : ℕ) (b : Blk) → IsLawful plan h → held_by plan h w ≡ Some (Block b) → is_started h b.0 ≡ true
unfolding is_started has_run
begun_where_held plan h w b lawful held =
    started_from_open (reverse h) b (open_from_has_run plan (reverse h) w (Block b) ((held_runs_are_open plan h lawful).has w (Block b) held))
