-- What is loaded to be shown. A shelf is spoken of by its ghost members: whether it tells what it holds, and that content.
use Rattle.std.specs.Prelude.{◌≡◌, ◌≤◌, ℕ, Bool, true, List, Option, Some, length}
use Rattle.gcd_plan.specs.Limits.{max_events, max_file_bytes, max_script_bytes}
use Rattle.gcd_plan.specs.PlanView.{PlanView}
use Rattle.gcd_event.specs.declared.event.Event.{Event}
use Rattle.gcd_outer.specs.Outside.{Bytes}
use Rattle.gcd_script.specs.Faults.{IsScriptOf}
use Rattle.gcd_journal.specs.Journals.{IsJournal}

-- what a shelf holds under a name
abbrev pub Content : Type 0
Content = Bytes → Option Bytes

-- these bytes stand under the name, if the shelf tells, and are no more than the limit
pub record IsLoaded (tells : Bool) (content : Content) (name : Bytes) (most : ℕ) (bytes : Bytes) : Type 0 where
  pub holds : tells ≡ true → content name ≡ Some bytes
  pub fits : length bytes ≤ most

-- the script of this name is a script, has these bytes, and declares the plan
pub record IsScript (tells : Bool) (content : Content) (name script : Bytes) (plan : PlanView) : Type 0 where
  pub loaded : IsLoaded tells content name max_script_bytes script
  pub declares : IsScriptOf script plan

-- the journal of this name is a journal of the plan, of these events
pub record IsJournalAt (tells : Bool) (content : Content) (name : Bytes) (plan : PlanView) (h : List Event) : Type 0 where
  pub text : Bytes
  pub loaded : IsLoaded tells content name max_file_bytes text
  pub reads : IsJournal max_events plan text h
