-- What the reader knows of a plan's names.
use Rattle.std.specs.Prelude.{◌≡◌, ℕ, List, Some, IsTrue}
use Rattle.std.specs.Str.{bytes_eq}
use Rattle.std.specs.HashMap.{HashMap, get_by}
use Rattle.std.specs.Borrow.{Bor}
use Rattle.std.specs.declared.hash.FoldHasher.{FoldHasher}
use Rattle.std.specs.declared.hash.BuildHasherDefault.{BuildHasherDefault}
use Rattle.gcd_plan.specs.PlanView.{PlanView}
use Rattle.gcd_plan.specs.declared.numbers.Run.{Run}
use Rattle.gcd_history.specs.Permitted.{is_run_of}
use Rattle.gcd_history.specs.Report.{name_of_run}
use Rattle.gcd_journal.specs.Spelling.{Look}

-- the runs by the names of their blocks and sources
abbrev pub Runs : Type 0
Runs = HashMap (Bor (List ℕ)) Run (BuildHasherDefault FoldHasher)

-- what a map of names gives
abbrev pub look_of : Runs → Look
look_of runs name = get_by (λ key. bytes_eq name key.now) runs

-- the look-up gives the plan's blocks and sources by their names, and nothing else
pub record IsLookUp (plan : PlanView) (look : Look) : Type 0 where
  pub sound : (name : List ℕ) (run : Run) → look name ≡ Some run → IsTrue (is_run_of plan run) × (name_of_run plan run ≡ name)
  pub known : (run : Run) → IsTrue (is_run_of plan run) → look (name_of_run plan run) ≡ Some run
