-- Contents that are loaded from a shelf, in order.
use Rattle.std.specs.Prelude.{◌≡◌, ◌≤◌, ◌+◌, ℕ, List, [], ◌∷◌, Some, length, take, slice_get}
use Rattle.gcd_plan.specs.Limits.{max_file_bytes, max_script_bytes}
use Rattle.gcd_plan.specs.PlanView.{PlanView, FileView}
use Rattle.gcd_plan.specs.Validity.{IsPlan}
use Rattle.gcd_outer.specs.Outside.{Bytes, Seen, ShelfState, Holds, IsUnread, IsLonger}
use Rattle.gcd_script.specs.declared.cause.Cause.{Cause}
use Rattle.gcd_script.specs.declared.cause.Cause.TheVariants.{PastLimit}
use Rattle.gcd_script.specs.declared.cause.Limit.TheVariants.{Script as AllBytes, File as FileBytes}
use Rattle.gcd_script.specs.Causes.{cause_code}
use Rattle.gcd_script.specs.Faults.{IsScriptOf, fault_of}
use Rattle.gcd_commands.specs.Calls.{MadeLoads}
use Rattle.gcd_commands.specs.declared.stop.Stop.{Stop}
use Rattle.gcd_commands.specs.declared.stop.Stop.TheVariants.{Unread, Script, Memory}

-- what stands under the name was loaded: these bytes, no more than the limit
pub record IsLoaded (shelf : Seen ShelfState) (name : Bytes) (most : ℕ) (bytes : Bytes) : Type 0 where
  pub holds : Holds shelf name bytes
  pub fits : length bytes ≤ most

-- each file was loaded: these are their contents, in order
abbrev pub AreLoaded : Seen ShelfState → List FileView → List Bytes → Type 0
AreLoaded shelf [] [] = Unit {0}
AreLoaded shelf (file ∷ files) (bytes ∷ contents) = IsLoaded shelf file.path max_file_bytes bytes × AreLoaded shelf files contents
AreLoaded shelf _ _ = ⊥

-- file f of the files is next: all before it were loaded
pub record IsNextFile (shelf : Seen ShelfState) (files : List FileView) (f : ℕ) (file : FileView) : Type 0 where
  pub contents : List Bytes
  pub before : AreLoaded shelf (take f files) contents
  pub next : slice_get files f ≡ Some file

-- the script of this name is a script, and declares the plan
pub record IsScript (shelf : Seen ShelfState) (name : Bytes) (plan : PlanView) : Type 0 where
  pub script : Bytes
  pub loaded : IsLoaded shelf name max_script_bytes script
  pub declares : IsScriptOf script plan

-- the script of this name declares this plan, which is valid
pub record IsPlanOf (shelf : Seen ShelfState) (name : Bytes) (plan : PlanView) : Type 0 where
  pub valid : IsPlan plan
  pub script : IsScript shelf name plan

-- the script of this name declares this plan, and each file of the plan was loaded
pub record IsReady (shelf : Seen ShelfState) (name : Bytes) (plan : PlanView) (contents : List Bytes) : Type 0 where
  pub plan_is : IsPlanOf shelf name plan
  pub loaded : AreLoaded shelf plan.files contents

-- ## Why a call stops

-- why what stands under the name was not loaded: it can't be read, which line of the script declares; it is longer than its limit; or
-- memory ran out
pub data StopsLoad (shelf : Seen ShelfState) (name : Bytes) (most line : ℕ) (longer stop : Stop) : Type 0 where
  unread : IsUnread shelf name → stop ≡ Unread line → StopsLoad shelf name most line longer stop
  long : IsLonger shelf name most → stop ≡ longer → StopsLoad shelf name most line longer stop
  wanting : stop ≡ Memory → StopsLoad shelf name most line longer stop

-- what a script is told for that is too long, and at its line a file of it
abbrev pub long_script : Stop
long_script = Script 0 (PastLimit AllBytes)

abbrev pub long_file : (line : ℕ) → Stop
long_file line = Script line (PastLimit FileBytes)

-- why the script of this name declares no plan: it was not loaded, or it is no script; line 0 is the script as a whole
pub data StopsScript (shelf : Seen ShelfState) (name : Bytes) (stop : Stop) : Type 0 where
  unloaded : StopsLoad shelf name max_script_bytes 0 long_script stop → StopsScript shelf name stop
  refused : (script : Bytes) (line : ℕ) (cause : Cause) → IsLoaded shelf name max_script_bytes script
      → fault_of script ≡ Some (line, cause_code cause) → stop ≡ Script line cause → StopsScript shelf name stop
  wanting : stop ≡ Memory → StopsScript shelf name stop

-- file f is next, and was not loaded; a file that is too long is refused at its line of the script
pub record StopsFile (shelf : Seen ShelfState) (files : List FileView) (f : ℕ) (stop : Stop) : Type 0 where
  pub file : FileView
  pub next : IsNextFile shelf files f file
  pub unloaded : StopsLoad shelf file.path max_file_bytes file.line (long_file file.line) stop

-- why the files were not loaded: one of them was not; with one load for each file up to that
pub record StopsFiles (shelf : Seen ShelfState) (files : List FileView) (stop : Stop) : Type 0 where
  pub f : ℕ
  pub at : StopsFile shelf files f stop
  pub loads : MadeLoads shelf (f + 1)

-- why a script and its files were not loaded, after how many loads
pub data StopsReady (shelf : Seen ShelfState) (name : Bytes) (n : ℕ) (stop : Stop) : Type 0 where
  at_script : StopsScript shelf name stop → n ≡ 1 → StopsReady shelf name n stop
  at_file : (plan : PlanView) (f : ℕ) → IsPlanOf shelf name plan → StopsFile shelf plan.files f stop → n ≡ f + 2
      → StopsReady shelf name n stop

-- loads were made of whose number this holds
pub record SomeLoads (shelf : Seen ShelfState) (holds : ℕ → Type 0) : Type 0 where
  pub loads : ℕ
  pub made : MadeLoads shelf loads
  pub is : holds loads
