-- The conditions of an act stand once it is counted and its run is parked.
use Rattle.std.proofs.Common.{◌≡◌, ℕ, ◌+◌, ◌==◌, true, false, cond, List, Option, Some, None, length, get_or, set, refl, ap, sym, ◌∙◌, subst, arith}
use Rattle.std.proofs.lemmas.List.{length-set}
use Rattle.gcd_plan.specs.declared.act.Act.{Act}
use Rattle.gcd_plan.specs.declared.act.Act.TheVariants.{Async, Barrier, Sync, BarrierSync, GroupAsync, Notify, Enter, Leave, GroupWait, GroupWaitFor, Signal, Wait, WaitFor, Suspend, Resume, Activate, Target, Merge, Cancel, Retain, Release, Apply, CancelBlock, WaitBlock, NotifyBlock}
use Rattle.gcd_plan.specs.declared.numbers.Blk.{Blk}
use Rattle.gcd_plan.specs.declared.numbers.Obj.{Obj}
use Rattle.gcd_plan.specs.declared.numbers.Run.{Run}
use Rattle.gcd_plan.specs.declared.numbers.Run.TheVariants.{Block, Source}
use Rattle.gcd_plan.specs.declared.reason.Reason.{Reason}
use Rattle.gcd_plan.specs.declared.reason.Reason.TheVariants.{Strip}
use Rattle.gcd_apply.specs.StripsView.{left_at}
use Rattle.gcd_refinement.specs.MachineView.{MachineView, idle, block_at}
use Rattle.gcd_refinement.specs.declared.progress.BlockProgress.{BlockProgress}
use Rattle.gcd_refinement.specs.declared.progress.HandlerProgress.{HandlerProgress}
use Rattle.gcd_refinement.specs.After.{handled}
use Rattle.gcd_machine.specs.Steps.{acted, called_by, let_go, parked, parked_in}
use Rattle.gcd_machine.specs.Conditions.{CanPark, CanLayDown, CanWakeAt, CanSubmit, HaveHomes, CanComeEmpty, CanEnter, CanMakeActive, CanMakeCancelled, CanCall, CanWaitForGroup, CanWaitForSemaphore, CanWaitForStrip, CanWaitForBlock, CanSubmitStrip, HaveHomesAtEnd, CanHaveEffect, CanParkIn, CanDo}
use Rattle.gcd_machine.proofs.Conditions.Kept.{homes_kept}

-- ## Another record of blocks, as long and with the same homes, and of handlers

abbrev with_noted : MachineView → List BlockProgress → List HandlerProgress → MachineView
with_noted m blocks handlers = record m { blocks = blocks; handlers = handlers }

module _ (m : MachineView) (blocks : List BlockProgress) (handlers : List HandlerProgress) (long : length blocks ≡ length m.blocks) where
  submit_noted : {q : Obj} {b : Blk} → CanSubmit m q b → CanSubmit (with_noted m blocks handlers) q b
  submit_noted can = record { node = can.node; listed = can.listed; nowhere = can.nowhere; blk = omega (arith, long, can.blk); marked = can.marked; room = can.room }

  strip_noted : {q : Obj} {a : ℕ} → CanSubmitStrip m q a → CanSubmitStrip (with_noted m blocks handlers) q a
  strip_noted can = record {
    blocks = λ s is.
        let span = can.blocks s is in
        record { node = span.node; listed = span.listed; short = span.short; nowhere = span.nowhere; blocks = omega (arith, long, span.blocks); marked = span.marked; room = span.room };
  }

  wakes_noted : {o : Obj} → CanWakeAt m o → CanWakeAt (with_noted m blocks handlers) o
  wakes_noted can = record { object = can.object; blocks = can.blocks; ripe = can.ripe }

  enter_noted : {g : Obj} → CanEnter m g → CanEnter (with_noted m blocks handlers) g
  enter_noted can = record { group = can.group; room = can.room; position = can.position }

  active_noted : {o : Obj} → CanMakeActive m o → CanMakeActive (with_noted m blocks handlers) o
  active_noted can = record { timer = can.timer; never = can.never; known = can.known; source = can.source; live = can.live }

  cancelled_noted : {s : Obj} → CanMakeCancelled m s → CanMakeCancelled (with_noted m blocks handlers) s
  cancelled_noted can = record { source = can.source; timer = can.timer; never = can.never; known = can.known; live = can.live }

  park_noted : {w : ℕ} {b : Blk} {why : Reason} {limit : Option ℕ} → CanPark m w b why limit → CanPark (with_noted m blocks handlers) w b why limit
  park_noted can = record {
    worker = record { worker = can.worker.worker; running = can.worker.running };
    blk = can.blk;
    fits = can.fits;
    keeps = λ end is. let keeps = can.keeps end is in record { kept = keeps.kept; short = keeps.short };
  }

  sleep_noted : {o : Obj} {b : Blk} → CanLayDown m o b → CanLayDown (with_noted m blocks handlers) o b
  sleep_noted can = record { object = can.object; blk = can.blk; awake = can.awake }

  group_wait_noted : {w : ℕ} {b : Blk} {g : Obj} {limit : Option ℕ} → CanWaitForGroup m w b g limit → CanWaitForGroup (with_noted m blocks handlers) w b g limit
  group_wait_noted can = record {
    group = can.group;
    over = record { wakeable = can.over.wakeable; ripe = can.over.ripe };
    sleeps = sleep_noted can.sleeps;
    ahead = λ end is. let ahead = can.ahead end is in record { kept = ahead.kept; short = ahead.short };
    parks = park_noted can.parks;
  }

  wait_noted : {w : ℕ} {b : Blk} {s : Obj} {limit : Option ℕ} → CanWaitForSemaphore m w b s limit → CanWaitForSemaphore (with_noted m blocks handlers) w b s limit
  wait_noted can = record {
    semaphore = can.semaphore;
    room = can.room;
    over = record { wakeable = can.over.wakeable; ripe = can.over.ripe };
    sleeps = sleep_noted can.sleeps;
    ahead = λ end is. let ahead = can.ahead end is in record { kept = ahead.kept; short = ahead.short };
    parks = park_noted can.parks;
  }

  strip_wait_noted : {w : ℕ} {b : Blk} {a : ℕ} → CanWaitForStrip m w b a → CanWaitForStrip (with_noted m blocks handlers) w b a
  strip_wait_noted can = record {
    strip = can.strip;
    over = record { wakeable = can.over.wakeable; ripe = can.over.ripe };
    parks = park_noted can.parks;
  }

  block_wait_noted : {w : ℕ} {b c : Blk} → CanWaitForBlock m w b c → CanWaitForBlock (with_noted m blocks handlers) w b c
  block_wait_noted can = record {
    known = can.known;
    awaited = can.awaited;
    waiting = can.waiting;
    waits_for_none = can.waits_for_none;
    over = record { wakeable = can.over.wakeable; ripe = can.over.ripe };
    parks = park_noted can.parks;
  }

  call_noted : {w : ℕ} {b c : Blk} → CanCall m w b c → CanCall (with_noted m blocks handlers) w b c
  call_noted can = record { called = omega (arith, long, can.called); low = can.low; parks = park_noted can.parks }

  park_by_noted : (w : ℕ) (run : Run) (act : Act) → CanParkIn m w run act → CanParkIn (with_noted m blocks handlers) w run act
  park_by_noted w (Source s) act can = tt
  park_by_noted w (Block b) (Sync q c) can = call_noted can
  park_by_noted w (Block b) (BarrierSync q c) can = call_noted can
  park_by_noted w (Block b) (GroupWait g) can = group_wait_noted can
  park_by_noted w (Block b) (GroupWaitFor g ms) can = group_wait_noted can
  park_by_noted w (Block b) (Wait s) can = wait_noted can
  park_by_noted w (Block b) (WaitFor s ms) can = wait_noted can
  park_by_noted w (Block b) (Apply q a) can = strip_wait_noted can
  park_by_noted w (Block b) (WaitBlock c) can = block_wait_noted can
  park_by_noted w (Block b) act can = can

  module _ (homes : (c : ℕ) → (get_or blocks c idle).home ≡ (block_at m c).home) where
    homes_noted : HaveHomes m → HaveHomes (with_noted m blocks handlers)
    homes_noted have = record {
      homes = λ c. rw (homes c) (have.homes c);
      nowhere = have.nowhere;
      listed = have.listed;
      blocks = have.blocks ∙ sym long;
      marked = have.marked;
    }

    end_homes_noted : HaveHomesAtEnd m → HaveHomesAtEnd (with_noted m blocks handlers)
    end_homes_noted have = record {
      homes = λ c. rw (homes c) (have.homes c);
      nowhere = have.nowhere;
      listed = have.listed;
      blocks = omega (arith, long, have.blocks);
      marked = have.marked;
    }

    empty_noted : {g : Obj} → CanComeEmpty m g → CanComeEmpty (with_noted m blocks handlers) g
    empty_noted can = record { group = can.group; position = can.position; wakes = wakes_noted can.wakes; homes = homes_noted can.homes; room = can.room }

    effect_noted : (act : Act) → CanHaveEffect m act → CanHaveEffect (with_noted m blocks handlers) act
    effect_noted (Async q b) can = submit_noted can
    effect_noted (Barrier q b) can = submit_noted can
    effect_noted (Sync q b) can = submit_noted can
    effect_noted (BarrierSync q b) can = submit_noted can
    effect_noted (GroupAsync g q b) can = record { group = enter_noted can.group; low = can.low; submits = submit_noted can.submits }
    effect_noted (Notify g q b) can = record {
      group = can.group;
      homes = homes_noted can.homes;
      home = can.home;
      low = can.low;
      blk = omega (arith, long, can.blk);
      of_no_group = can.of_no_group;
      nowhere = can.nowhere;
      fired = can.fired;
      room = can.room;
    }
    effect_noted (Enter g) can = enter_noted can
    effect_noted (Leave g) can = record { entered = can.entered; comes_empty = empty_noted can.comes_empty }
    effect_noted (GroupWait g) can = tt
    effect_noted (GroupWaitFor g ms) can = tt
    effect_noted (Signal s) can = record { semaphore = can.semaphore; room = can.room; wakes = wakes_noted can.wakes }
    effect_noted (Wait s) can = tt
    effect_noted (WaitFor s ms) can = tt
    effect_noted (Suspend o) can = record { object = can.object; room = can.room }
    effect_noted (Resume o) can = record { object = can.object; no_misuse = can.no_misuse; inactive = λ none inactive. active_noted (can.inactive none inactive) }
    effect_noted (Activate o) can = record { object = can.object; inactive = λ inactive. active_noted (can.inactive inactive) }
    effect_noted (Target o t) can = record { object = can.object; target = can.target; node = can.node; no_cycle = can.no_cycle; quiet = can.quiet }
    effect_noted (Merge s n) can = record { source = can.source; room = can.room; marked = can.marked }
    effect_noted (Cancel s) can = record {
      source = can.source;
      first = λ live. cancelled_noted (can.first live);
      submits = λ live b is. submit_noted (can.submits live b is);
    }
    effect_noted (Retain o) can = record { object = can.object; live = can.live; room = can.room }
    effect_noted (Release o) can = record { object = can.object; live = can.live }
    effect_noted (Apply q a) can = strip_noted can
    effect_noted (CancelBlock c) can = tt
    effect_noted (WaitBlock c) can = tt
    effect_noted (NotifyBlock c q d) can = record {
      awaited = can.awaited;
      waiting = can.waiting;
      waits_for_none = can.waits_for_none;
      homes = end_homes_noted can.homes;
      home = can.home;
      low = can.low;
      blk = omega (arith, long, can.blk);
      nowhere = can.nowhere;
      room = can.room;
    }

-- ## An act that is counted

pub park_counted : (m : MachineView) (w : ℕ) (run : Run) (act : Act) → CanParkIn m w run act → CanParkIn (acted m run) w run act
park_counted m w (Block b) act can =
    let counted : BlockProgress = record (block_at m b.0) { done = (block_at m b.0).done + 1 } in
    park_by_noted m (set m.blocks b.0 counted) m.handlers (length-set m.blocks b.0 counted) w (Block b) act can
park_counted m w (Source s) act can = tt

pub effect_counted : (m : MachineView) (run : Run) (act : Act) → CanHaveEffect m act → CanHaveEffect (acted m run) act
effect_counted m (Block b) act can =
    let counted : BlockProgress = record (block_at m b.0) { done = (block_at m b.0).done + 1 } in
    effect_noted m (set m.blocks b.0 counted) m.handlers (length-set m.blocks b.0 counted) (homes_kept m.blocks b.0 counted refl) act can
effect_counted m (Source s) act can = effect_noted m m.blocks (handled m (Source s)) refl (λ c. refl) act can

-- ## A run that is parked

-- who waits for a block may submit it
submit_called : (m : MachineView) (w : ℕ) (b c : Blk) (q : Obj) → CanSubmit m q c → CanSubmit (called_by m w b c) q c
submit_called m w b c q can = record { node = can.node; listed = can.listed; nowhere = can.nowhere; blk = rw length-set can.blk; marked = can.marked; room = can.room }

-- and who waits for a strip may submit it
submit_applied : (m : MachineView) (w : ℕ) (b : Blk) (q : Obj) (a : ℕ) → CanSubmitStrip m q a → CanSubmitStrip (parked_in m w (Block b) (Apply q a)) q a
submit_applied m w b q a can =
    elim (left_at m.strips a == 0) as (λ t. CanSubmitStrip (parked (cond t (let_go m b) (record m { appliers = set m.appliers a (Some b) })) w b (Strip a) None) q a) [
      | true ↦ record {
        blocks = λ s is. let span = can.blocks s is in record { node = span.node; listed = span.listed; short = span.short; nowhere = span.nowhere; blocks = span.blocks; marked = span.marked; room = span.room };
      }
      | false ↦ record {
        blocks = λ s is. let span = can.blocks s is in record { node = span.node; listed = span.listed; short = span.short; nowhere = span.nowhere; blocks = span.blocks; marked = span.marked; room = span.room };
      }
    ]

pub effect_parked : (m : MachineView) (w : ℕ) (run : Run) (act : Act) → CanHaveEffect m act → CanHaveEffect (parked_in m w run act) act
effect_parked m w (Source s) act can = can
effect_parked m w (Block b) (Sync q c) can = submit_called m w b c q can
effect_parked m w (Block b) (BarrierSync q c) can = submit_called m w b c q can
effect_parked m w (Block b) (GroupWait g) can = tt
effect_parked m w (Block b) (GroupWaitFor g ms) can = tt
effect_parked m w (Block b) (Wait s) can = tt
effect_parked m w (Block b) (WaitFor s ms) can = tt
effect_parked m w (Block b) (Apply q a) can = submit_applied m w b q a can
effect_parked m w (Block b) (WaitBlock c) can = tt
effect_parked m w (Block b) act can = can

-- what the run needs for the act, once it is counted, and parked
pub may_park : {m k : MachineView} {w : ℕ} {run : Run} {act : Act} → k ≡ acted m run → CanDo m w run act → CanParkIn k w run act
may_park {m} {k} {w} {run} {act} is can = subst (λ n. CanParkIn n w run act) (sym is) (park_counted m w run act can.parks)

pub may_have_effect : {m k l : MachineView} {w : ℕ} {run : Run} {act : Act} → k ≡ acted m run → l ≡ parked_in k w run act → CanDo m w run act → CanHaveEffect l act
may_have_effect {m} {k} {l} {w} {run} {act} counted parked can =
    subst (λ n. CanHaveEffect n act) (sym (parked ∙ ap (λ n. parked_in n w run act) counted))
    (effect_parked (acted m run) w run act (effect_counted m run act can.effect))
