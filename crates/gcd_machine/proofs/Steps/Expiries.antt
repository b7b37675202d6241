-- The steps of an expiry may be made one after another: what they ask stands after those before.
use Rattle.std.proofs.Common.{◌≡◌, Option, sym, subst}
use Rattle.gcd_plan.specs.declared.numbers.Blk.{Blk}
use Rattle.gcd_plan.specs.declared.reason.Reason.{Reason}
use Rattle.gcd_sync.specs.WaitsView.{WaitsView, reason_at}
use Rattle.gcd_refinement.specs.MachineView.{MachineView}
use Rattle.gcd_machine.specs.Conditions.{CanEndWait, CanExpire}

-- the wait may end, whatever is kept of waits
end_wait_kept : {m : MachineView} {b : Blk} {awaited : Option Reason} (waits : WaitsView) → CanEndWait m b awaited → CanEndWait (record m { waits = waits }) b awaited
end_wait_kept waits can = record {
  listed = can.listed;
  objects = can.objects;
  known = can.known;
  asleep = can.asleep;
  semaphore = λ s k is.
      let waiting = can.semaphore s k is in
      record { low = waiting.low; begun = waiting.begun; not_passed = waiting.not_passed; not_expired = waiting.not_expired };
}

pub may_end_wait : (m : MachineView) {b : Blk} {awaited : Option Reason} (waits : WaitsView) → awaited ≡ reason_at m.waits b.0 → CanExpire m b → CanEndWait (record m { waits = waits }) b awaited
may_end_wait m {b} {awaited} waits is can = end_wait_kept waits (subst (CanEndWait m b) (sym is) can.ends)
