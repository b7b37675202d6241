-- The rule of the row, which holds between any two steps of any number of passes.
use Rattle.std.specs.Prelude.{◌≡◌, ◌≢◌, ℕ, ◌+◌, ◌<◌, ◌≤◌, Some, None, true, false, List, [], map, length}
use Rattle.std.specs.List.{list_any}
use mathlib.Core.Logic.{◌⊎◌}
use mathlib.Core.Option.{Option, some}
use lib.ListN.{get_elem?}
use Rattle.atomic_table.specs.Table.{State}
use Rattle.gcd_plan.specs.PlanView.{IsRun}
use Rattle.gcd_plan.specs.PlanView.{PlanView}
use Rattle.gcd_plan.specs.Validity.{IsPlan}
use Rattle.gcd_plan.specs.declared.numbers.Blk.{Blk}
use Rattle.gcd_plan.specs.declared.numbers.Run.{Run}
use Rattle.gcd_plan.specs.declared.numbers.Run.TheVariants.{Block}
use Rattle.gcd_event.specs.declared.event.Event.{Event}
use Rattle.gcd_event.specs.Words.{word_of}
use Rattle.gcd_history.specs.History.{IsLawful, next_of_intake}
use Rattle.gcd_history.specs.Intake.{accepts}
use Rattle.gcd_history.specs.Team.{of_worker, held_by, StartsWith}
use Rattle.gcd_history.specs.TeamFacts.{IsNobodys}
use Rattle.gcd_row.specs.Ring.{IsRing, gone, passed_word, ring}
use Rattle.gcd_row.specs.Shapes.{Shape}
use Rattle.gcd_row.specs.Jobs.{May, placed_at, jobs_of, held_jobs}
use Rattle.gcd_row.specs.Lying.{slots_of, slot_of, Lies}
use Rattle.gcd_row.specs.Views.{standing_of, given_terms}
use Rattle.gcd_row.specs.declared.view.Copies.{Copies}
use Rattle.gcd_row.specs.declared.view.Handed.{Handed}
use Rattle.gcd_row.specs.declared.view.Next.{Next}
use Rattle.gcd_row.specs.declared.view.Next.TheVariants.{Out as NextOut, Laid}
use Rattle.gcd_row.specs.declared.view.Standing.TheVariants.{Out}
use Rattle.gcd_row.specs.declared.view.Terms.{Terms}
use Rattle.gcd_row.specs.declared.view.View.{View}

module _ {S : Type 0} where
  -- a pass that is not spent has seen all events of its worker
  pub record Fits (t : Terms S) (h : List Event) (v : View S) : Type 0 where
    pub terms : v.terms ≡ t
    pub own : of_worker v.worker h ≡ of_worker v.worker v.seen

  -- worker 0's pass knows which passes are out, and has seen all events of the workers whose passes are not
  pub record Heads (h : List Event) (views : List (View S)) (v : View S) : Type 0 where
    pub fresh : (w : ℕ) → w ≢ 0 → standing_of v.hands w ≡ None → of_worker w h ≡ []
    pub home : (w : ℕ) → standing_of v.hands w ≢ Some Out → of_worker w h ≡ of_worker w v.seen
    pub out : (j : ℕ) (u : View S) → get_elem? views j ≡ some u → u.spent ≡ false → u.worker ≢ 0 → standing_of v.hands u.worker ≡ Some Out

  -- what the passes know of the history
  pub record Knows (t : Terms S) (h : List Event) (views : List (View S)) : Type 0 where
    pub seen : (by : ℕ) (v : View S) → get_elem? views by ≡ some v → StartsWith h v.seen
    pub relayed : (by : ℕ) (v : View S) → get_elem? views by ≡ some v → StartsWith h v.relayed
    pub fits : (by : ℕ) (v : View S) → get_elem? views by ≡ some v → v.spent ≡ false → Fits t h v
    -- no two passes are of one worker
    pub alone : (i j : ℕ) (v u : View S) → get_elem? views i ≡ some v → get_elem? views j ≡ some u → v.spent ≡ false → u.spent ≡ false → v.worker ≡ u.worker → i ≡ j
    pub head : (by : ℕ) (v : View S) → get_elem? views by ≡ some v → v.spent ≡ false → v.worker ≡ 0 → Heads h views v
    -- some pass has seen all
    pub whole : (by : ℕ) × (v : View S) × (get_elem? views by ≡ some v) × (v.spent ≡ false) × (v.seen ≡ h)

  -- the passed word of worker k is gone, this number of events that the row began with, or at most what its pass has seen
  abbrev pub Rests : (opened : ℕ) → List ℕ → List (View S) → ℕ → Type 0
  Rests opened words views k = (passed_word words k ≡ gone) ⊎ (passed_word words k ≡ opened) ⊎ ((by : ℕ) × (v : View S) × (get_elem? views by ≡ some v) × (v.spent ≡ false) × (v.worker ≡ k) × (passed_word words k ≤ length v.seen))

  -- the passed words
  pub record PassedWords (t : Terms S) (h : List Event) (words : List ℕ) (views : List (View S)) : Type 0 where
    -- the history is at most a lap longer than each; gone is a number above all lengths
    pub slow : (k : ℕ) → k < 64 → length h ≤ passed_word words k + ring
    pub rests : (k : ℕ) → k < 64 → Rests t.opened words views k
    -- each pass knows its own
    pub mine : (by : ℕ) (v : View S) → get_elem? views by ≡ some v → v.spent ≡ false → passed_word words v.worker ≡ v.marks.passed
    -- and that those below a number are at least another
    pub pair : (by : ℕ) (v : View S) → get_elem? views by ≡ some v → (k : ℕ) → k < v.marks.upto → v.marks.floor ≤ passed_word words k
    -- that of a number which was not given out is what the row began with, and from the number of workers on they are gone
    pub begin : (by : ℕ) (v : View S) → get_elem? views by ≡ some v → v.spent ≡ false → v.worker ≡ 0 → (k : ℕ) → k ≢ 0 → k < t.limits.workers → standing_of v.hands k ≡ None → passed_word words k ≡ t.opened
    pub beyond : (k : ℕ) → t.limits.workers ≤ k → k < 64 → passed_word words k ≡ gone

  -- worker 0 has the run's slot, to lay a body there: it is that of the next block of the intake
  pub record IsOut (plan : PlanView) (h : List Event) (next : Next S) (r : Run) : Type 0 where
    pub out : next ≡ NextOut
    pub block : Blk
    pub comes : next_of_intake plan h ≡ Some block
    pub its : r ≡ Block block

  -- the slot of a run that nobody holds is at home, with what lies there after the history, unless worker 0 has it
  pub record Homes (shape : S → Shape) (gives : S → ℕ → Type 0) (t : Terms S) (h : List Event) (n : Handed S) (homes : List (Option S)) : Type 0 where
    pub width : length homes ≡ slots_of t.plan
    pub home : (r : Run) → IsRun t.plan r → IsNobodys t.plan h r → (IsOut t.plan h n.next r → ⊥)
        → (c : S) × (get_elem? homes (slot_of t.plan r) ≡ some (some c)) × Lies shape gives (jobs_of t (placed_at n.placed)) h r c
    -- what worker 0 laid into the slot of the next block lies there
    pub laid : (b : Blk) (c : S) → next_of_intake t.plan h ≡ Some b → n.next ≡ Laid c → get_elem? homes b.0 ≡ some (some c)
    -- what was placed was so at an Accept, and at each Accept something was
    pub placed : (b : ℕ) (c : S) → placed_at n.placed b ≡ Some c → list_any (accepts b) h ≡ true
    pub accepted : (b : ℕ) → list_any (accepts b) h ≡ true → (c : S) × (placed_at n.placed b ≡ Some c)

  -- what a pass knows of the jobs of the intake's blocks: worker 0's all, and each that the body of the block that it holds may give
  -- only what that block's job may
  pub record KnowsJobs (gives : S → ℕ → Type 0) (t : Terms S) (n : Handed S) (v : View S) : Type 0 where
    pub mine : v.worker ≡ 0 → v.handed ≡ n
    pub held : (b : Blk) → held_by t.plan v.seen v.worker ≡ Some (Block b) → (x : ℕ) → May gives (held_jobs v) b.0 x → May gives (jobs_of t (placed_at n.placed)) b.0 x

  -- there is a lawful history, whose words the row has and of which each pass has seen a beginning
  pub record Kept (shape : S → Shape) (gives : S → ℕ → Type 0) (t : Terms S) (words : List ℕ) (homes : List (Option S)) (views : List (View S)) : Type 0 where
    pub history : List Event
    pub valid : IsPlan t.plan
    pub bounds : (0 < t.limits.workers) × (t.limits.workers ≤ 64) × (t.limits.most < 4294967296)
    pub ring : IsRing t.limits.most words (map word_of history)
    pub lawful : IsLawful t.plan history
    pub knows : Knows t history views
    pub passed : PassedWords t history words views
    pub handed : Handed S
    pub jobs : (by : ℕ) (v : View S) → get_elem? views by ≡ some v → v.spent ≡ false → KnowsJobs gives t handed v
    pub slots : Homes shape gives t history handed homes

  abbrev pub Holds : (S → Shape) → (S → ℕ → Type 0) → Copies S → State S (View S) → Type 0
  Holds shape gives k s = Kept shape gives (given_terms k) s.words s.homes s.views
