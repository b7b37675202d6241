-- Worked rows: strips.
use Rattle.std.specs.Prelude.{◌≡◌, ℕ, List, [], ◌∷◌, Some, None, refl, codes}
use Rattle.gcd_plan.specs.PlanView.{PlanView, StripView, FileView}
use Rattle.gcd_plan.specs.declared.act.Act.TheVariants.{Apply}
use Rattle.gcd_plan.specs.declared.why.Why.TheVariants.{Waiting}
use Rattle.gcd_plan.specs.declared.work.How.TheVariants.{Bytes}
use Rattle.gcd_event.specs.declared.event.Event.TheVariants.{Start, Act as Acted, Wake, End}
use Rattle.gcd_history.specs.declared.state.State.TheVariants.{Live}
use Rattle.gcd_history.proofs.Rows.Samples.{words, o, b, run, serial, concurrent, inactive, plan_of, with_made, journal, checked, told, reported, text}

-- strip a bytes f 4 N, whose first block is block 1
abbrev pub strip : (count : ℕ) → StripView
strip count = record { name = codes "a"; how = Bytes; file = 0; len = 4; first = 1; count = count }

abbrev pub file : FileView
file = record { name = codes "f"; path = codes "f.txt"; line = 1 }

abbrev ten_bytes : List (List ℕ)
ten_bytes = codes "0123456789" ∷ []

-- file f f.txt; queue q concurrent; strip a bytes f 4 N; main; apply q a
abbrev pub applied : (count : ℕ) → PlanView
applied count = record (with_made (plan_of (concurrent (codes "q") 0 ∷ []) (Apply (o 1) 0 ∷ []) []) None (strip count ∷ [])) { files = file ∷ [] }

strip_runs_in_order : told (applied 3) ten_bytes (journal (applied 3))
    ≡ text (codes "start 0 main;act 0 main 0;start 0 a.0;end 0 a.0;start 0 a.1;end 0 a.1;start 0 a.2;end 0 a.2;wake 0 main;end 0 main;events 10;a.0 = 4;a.1 = 4;a.2 = 2;drained;")
unfolding words
strip_runs_in_order = refl

empty_strip_wakes_at_once : told (applied 0) ten_bytes (journal (applied 0)) ≡ text (codes "start 0 main;act 0 main 0;wake 0 main;end 0 main;events 4;drained;")
unfolding words
empty_strip_wakes_at_once = refl

-- the last block has ended, and the others are open
wakes_after_all : checked (applied 3) (Start 0 (b 0) ∷ Acted 0 (run 0) 0 ∷ Start 0 (b 1) ∷ Start 1 (b 2) ∷ Start 2 (b 3) ∷ End 2 (b 3) ∷ Wake 2 (b 0) ∷ []) ≡ (Some (6, Waiting), Live)
unfolding words
wakes_after_all = refl

-- file f f.txt; queue q serial inactive; strip a bytes f 4 2; main; apply q a
strip_of_an_inactive_queue : reported (with_made (plan_of (inactive (serial (codes "q") 0) ∷ []) (Apply (o 1) 0 ∷ []) []) None (strip 2 ∷ []))
    ≡ text (codes "main waits for a;a.0 not started;a.1 not started;stuck;")
unfolding words
strip_of_an_inactive_queue = refl
