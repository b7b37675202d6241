-- What each act does: one row for each act, which the definitions of the rules read.
use Rattle.std.specs.Prelude.{ℕ, ◌==◌, Bool, true, false, Option, Some, None}
use Rattle.std.specs.Option.{option_map_or}
use Rattle.gcd_plan.specs.declared.act.Act.{Act}
use Rattle.gcd_plan.specs.declared.act.Act.TheVariants.{Async, Barrier, Sync, BarrierSync, GroupAsync, Notify, Enter, Leave, GroupWait, GroupWaitFor, Signal, Wait, WaitFor, Suspend, Resume, Activate, Target, Merge, Cancel, Retain, Release, Apply, CancelBlock, WaitBlock, NotifyBlock}
use Rattle.gcd_plan.specs.declared.numbers.Blk.{Blk}
use Rattle.gcd_plan.specs.declared.numbers.Obj.{Obj}

-- what an act submits: nothing; a block to a queue now, as a barrier or not; the blocks of a strip to a queue now; a block to a queue
-- once a group is empty, or once another block has ended
pub data Submits : Type 0 where
  nothing : Submits
  at_once : (queue : Obj) (block : Blk) (barrier : Bool) → Submits
  strip_to : (queue : Obj) (strip : ℕ) → Submits
  once_empty : (group queue : Obj) (block : Blk) → Submits
  once_ended : (ended : Blk) (queue : Obj) (block : Blk) → Submits

-- what an act waits for: nothing; the end of the block that it submits, or of another; a group that is empty; its turn at a semaphore;
-- the ends of a strip's blocks
pub data Awaits : Type 0 where
  goes_on : Awaits
  end_of_own : Blk → Awaits
  end_of : Blk → Awaits
  empty_group : Obj → Awaits
  turn_at : Obj → Awaits
  ends_of : (strip : ℕ) → Awaits

-- what an act does; an act that waits may have a limit, in milliseconds
pub record Effects : Type 0 where
  pub submits : Submits
  pub awaits : Awaits
  pub limit : Option ℕ
  pub joins : Option (Obj × Blk)
  pub enters : Option Obj
  pub leaves : Option Obj
  pub signals : Option Obj
  pub suspends : Option Obj
  pub resumes : Option Obj
  pub activates : Option Obj
  pub targets : Option (Obj × Obj)
  pub merges : Option (Obj × ℕ)
  pub cancels : Option Obj
  pub cancels_block : Option Blk
  pub retains : Option Obj
  pub releases : Option Obj

abbrev pub no_effects : Effects
no_effects = record { submits = nothing; awaits = goes_on; limit = None; joins = None; enters = None; leaves = None; signals = None; suspends = None; resumes = None; activates = None; targets = None; merges = None; cancels = None; cancels_block = None; retains = None; releases = None }

-- the effects of each act (the manual pages are those of the variants of `Act`)
abbrev pub effects : Act → Effects
effects (Async q b) = record no_effects { submits = at_once q b false }
effects (Barrier q b) = record no_effects { submits = at_once q b true }
effects (Sync q b) = record no_effects { submits = at_once q b false; awaits = end_of_own b }
effects (BarrierSync q b) = record no_effects { submits = at_once q b true; awaits = end_of_own b }
effects (GroupAsync g q b) = record no_effects { submits = at_once q b false; joins = Some (g, b) }
effects (Notify g q b) = record no_effects { submits = once_empty g q b }
effects (Enter g) = record no_effects { enters = Some g }
effects (Leave g) = record no_effects { leaves = Some g }
effects (GroupWait g) = record no_effects { awaits = empty_group g }
effects (GroupWaitFor g ms) = record no_effects { awaits = empty_group g; limit = Some ms }
effects (Signal s) = record no_effects { signals = Some s }
effects (Wait s) = record no_effects { awaits = turn_at s }
effects (WaitFor s ms) = record no_effects { awaits = turn_at s; limit = Some ms }
effects (Suspend o) = record no_effects { suspends = Some o }
effects (Resume o) = record no_effects { resumes = Some o }
effects (Activate o) = record no_effects { activates = Some o }
effects (Target o t) = record no_effects { targets = Some (o, t) }
effects (Merge s n) = record no_effects { merges = Some (s, n) }
effects (Cancel s) = record no_effects { cancels = Some s }
effects (Retain o) = record no_effects { retains = Some o }
effects (Release o) = record no_effects { releases = Some o }
effects (Apply q a) = record no_effects { submits = strip_to q a; awaits = ends_of a }
effects (CancelBlock b) = record no_effects { cancels_block = Some b }
effects (WaitBlock b) = record no_effects { awaits = end_of b }
effects (NotifyBlock b q c) = record no_effects { submits = once_ended b q c }

-- the effects of an act that there may be
abbrev pub effects_of : Option Act → Effects
effects_of None = no_effects
effects_of (Some act) = effects act

-- the effect is on object o
abbrev pub acts_on : ℕ → Option Obj → Bool
acts_on o effect = option_map_or (λ p. p.0 == o) effect false

-- it waits for something
abbrev pub parks_for : Awaits → Bool
parks_for goes_on = false
parks_for (end_of_own b) = true
parks_for (end_of b) = true
parks_for (empty_group g) = true
parks_for (turn_at s) = true
parks_for (ends_of a) = true

-- the act parks its block until a Wake (dispatch_sync(3), dispatch_barrier_sync(3), dispatch_group_wait(3),
-- dispatch_semaphore_wait(3), dispatch_apply(3), dispatch_block_wait(3))
abbrev pub parks : Act → Bool
parks act = parks_for (effects act).awaits

-- it waits for its turn at semaphore s
abbrev pub is_turn_at : ℕ → Awaits → Bool
is_turn_at s goes_on = false
is_turn_at s (end_of_own b) = false
is_turn_at s (end_of b) = false
is_turn_at s (empty_group g) = false
is_turn_at s (turn_at t) = t.0 == s
is_turn_at s (ends_of a) = false
