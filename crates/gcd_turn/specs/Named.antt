-- What is due at a moment, by its name.
use Rattle.std.specs.Prelude.{◌≡◌, ◌<◌, ℕ, true, List, length}
use Rattle.gcd_plan.specs.PlanView.{PlanView, name_of_obj, name_of_blk}
use Rattle.gcd_plan.specs.declared.numbers.Blk.{Blk}
use Rattle.gcd_plan.specs.declared.numbers.Obj.{Obj}
use Rattle.gcd_event.specs.declared.event.Event.{Event}
use Rattle.gcd_machine.specs.Dues.{is_due_by}
use Rattle.gcd_machine.specs.declared.due_by.DueBy.{DueBy}
use Rattle.gcd_machine.specs.declared.due_by.DueBy.TheVariants as by
use Rattle.gcd_outer.specs.declared.clock.Due.{Due}
use Rattle.gcd_outer.specs.declared.clock.Due.TheVariants.{Timer, Wait}

-- a timer of the plan has this name, and t is a due time of it
pub record IsTimerDue (plan : PlanView) (h : List Event) (t : ℕ) (name : List ℕ) : Type 0 where
  pub timer : Obj
  pub within : timer.0 < length plan.objects
  pub named : name ≡ name_of_obj plan timer.0
  pub due : is_due_by plan h t (by.Timer timer) ≡ true

-- a block of the plan has this name, and t is the limit of its wait
pub record IsWaitDue (plan : PlanView) (h : List Event) (t : ℕ) (name : List ℕ) : Type 0 where
  pub blk : Blk
  pub within : blk.0 < length plan.blocks
  pub named : name ≡ name_of_blk plan blk.0
  pub due : is_due_by plan h t (by.Wait blk) ≡ true

-- what is named is due at t
abbrev pub NamesDue : PlanView → List Event → ℕ → Due → Type 0
NamesDue plan h t (Timer name) = IsTimerDue plan h t name.now
NamesDue plan h t (Wait name) = IsWaitDue plan h t name.now
