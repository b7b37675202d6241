-- Events that empty no group: what a machine's private steps change together is what the event changes. By cases on what is
-- stored, both sides compute to one state.
use Rattle.std.proofs.Common.{◌≡◌, ℕ, ◌==◌, false, Some, None, refl}
use Rattle.gcd_plan.specs.declared.numbers.Blk.{Blk}
use Rattle.gcd_plan.specs.declared.numbers.Obj.{Obj}
use Rattle.gcd_plan.specs.declared.numbers.Run.{Run}
use Rattle.gcd_event.specs.declared.event.Event.TheVariants.{Start, Wake, Deliver, DeliverEnd, Tick, Ready, FeedEnd, Misuse, Halt, Expire, Accept, Shut}
use Rattle.gcd_refinement.specs.MachineView.{MachineView, block_at}
use Rattle.gcd_refinement.specs.After.{after}
use Rattle.gcd_machine.specs.Steps.{stepped}
use Rattle.gcd_machine.proofs.Steps.Activations.{units, cancelled_is}

pub start_stepped : (m : MachineView) (w : ℕ) (b : Blk) → stepped m (Start w b) ≡ after m.plan m (Start w b)
start_stepped m w b =
    elim (block_at m b.0).node as (λ o. (block_at m b.0).node ≡ o → stepped m (Start w b) ≡ after m.plan m (Start w b)) [
      | None ↦ λ e. rw e (simp units)
      | Some n ↦ λ e. rw e (simp units)
    ] refl

pub wake_stepped : (m : MachineView) (w : ℕ) (b : Blk) → stepped m (Wake w b) ≡ after m.plan m (Wake w b)
wake_stepped m w b = simp units

pub deliver_stepped : (m : MachineView) (w : ℕ) (s : Obj) → stepped m (Deliver w s) ≡ after m.plan m (Deliver w s)
deliver_stepped m w s = simp units

pub deliver_end_stepped : (m : MachineView) (w : ℕ) (s : Obj) → stepped m (DeliverEnd w s) ≡ after m.plan m (DeliverEnd w s)
deliver_end_stepped m w s = simp units

pub tick_stepped : (m : MachineView) (t : ℕ) → stepped m (Tick t) ≡ after m.plan m (Tick t)
tick_stepped m t = simp units

-- more than nothing came
pub ready_stepped : (m : MachineView) (s : Obj) (n : ℕ) → (n == 0) ≡ false → stepped m (Ready s n) ≡ after m.plan m (Ready s n)
ready_stepped m s n some = rw some (simp units)

pub misuse_stepped : (m : MachineView) (w : ℕ) (run : Run) (i c : ℕ) → stepped m (Misuse w c run i) ≡ after m.plan m (Misuse w c run i)
misuse_stepped m w run i c = simp units

pub halt_stepped : (m : MachineView) → stepped m Halt ≡ after m.plan m Halt
halt_stepped m = simp units

pub expire_stepped : (m : MachineView) (b : Blk) → stepped m (Expire b) ≡ after m.plan m (Expire b)
expire_stepped m b = simp units

pub accept_stepped : (m : MachineView) (b : Blk) (s : ℕ) → stepped m (Accept b s) ≡ after m.plan m (Accept b s)
accept_stepped m b s =
    elim m.plan.intake as (λ o. m.plan.intake ≡ o → stepped m (Accept b s) ≡ after m.plan m (Accept b s)) [
      | None ↦ λ e. rw e (simp units)
      | Some i ↦ λ e. rw e (simp units)
    ] refl

pub shut_stepped : (m : MachineView) → stepped m Shut ≡ after m.plan m Shut
shut_stepped m = simp units

pub feed_end_stepped : (m : MachineView) (s : Obj) → stepped m (FeedEnd s) ≡ after m.plan m (FeedEnd s)
feed_end_stepped m s = rw cancelled_is (simp units)
