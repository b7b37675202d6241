-- Worked rows: order, concurrent queues, barriers and synchronous calls.
use Rattle.std.specs.Prelude.{◌≡◌, ℕ, List, [], ◌∷◌, Some, None, refl, codes}
use Rattle.gcd_plan.specs.PlanView.{PlanView, ObjView}
use Rattle.gcd_plan.specs.declared.act.Act.TheVariants.{Async, Barrier, Sync, BarrierSync}
use Rattle.gcd_plan.specs.declared.why.Why.TheVariants.{Excluded, Fenced}
use Rattle.gcd_plan.specs.declared.work.How.TheVariants.{Bytes, Lines}
use Rattle.gcd_event.specs.declared.event.Event.{Event}
use Rattle.gcd_event.specs.declared.event.Event.TheVariants.{Start, Act as Acted, End}
use Rattle.gcd_history.specs.declared.state.State.TheVariants.{Drained}
use Rattle.gcd_history.proofs.Rows.Samples.{words, o, b, run, serial, concurrent, block, counting, plan_of, journal, refused, checked, text, told, told_of, reported}

-- file log log.txt; queue q serial; block b1 lines log; main; async q b1
abbrev one_block : PlanView
one_block = plan_of (serial (codes "q") 0 ∷ []) (Async (o 1) (b 1) ∷ []) (counting (codes "b1") Lines 0 ∷ [])

one_block_counts_lines : told one_block (text (codes "a;bb;ccc;") ∷ []) (journal one_block)
    ≡ text (codes "start 0 main;act 0 main 0;end 0 main;start 0 b1;end 0 b1;events 5;b1 = 3;drained;")
unfolding words
one_block_counts_lines = refl

-- main
main_alone : told_of (plan_of [] [] []) ≡ text (codes "start 0 main;end 0 main;events 2;drained;")
unfolding words
main_alone = refl

-- file f e; block b1 bytes f; main; async root b1
abbrev empty_file : PlanView
empty_file = plan_of [] (Async (o 0) (b 1) ∷ []) (counting (codes "b1") Bytes 0 ∷ [])

empty_file_has_no_bytes : told empty_file ([] ∷ []) (journal empty_file)
    ≡ text (codes "start 0 main;act 0 main 0;end 0 main;start 0 b1;end 0 b1;events 5;b1 = 0;drained;")
unfolding words
empty_file_has_no_bytes = refl

-- queue q serial; queue r serial; block b3; block b1; sync r b3; block b2; main; async q b1; async q b2
abbrev pub sync_apart : PlanView
sync_apart = plan_of (serial (codes "q") 0 ∷ serial (codes "r") 0 ∷ [])
    (Async (o 1) (b 2) ∷ Async (o 1) (b 3) ∷ [])
    (block (codes "b3") [] ∷ block (codes "b1") (Sync (o 2) (b 1) ∷ []) ∷ block (codes "b2") [] ∷ [])

sync_into_another_queue_ends : told_of sync_apart
    ≡ text (codes "start 0 main;act 0 main 0;act 0 main 1;end 0 main;start 0 b1;act 0 b1 0;start 0 b3;end 0 b3;wake 0 b1;end 0 b1;start 0 b2;end 0 b2;events 12;drained;")
unfolding words
sync_into_another_queue_ends = refl

-- queue t serial; queue q serial on t; queue r serial on t; and the rest as before
abbrev sync_beneath_one : PlanView
sync_beneath_one = plan_of (serial (codes "t") 0 ∷ serial (codes "q") 1 ∷ serial (codes "r") 1 ∷ [])
    (Async (o 2) (b 2) ∷ Async (o 2) (b 3) ∷ [])
    (block (codes "b3") [] ∷ block (codes "b1") (Sync (o 3) (b 1) ∷ []) ∷ block (codes "b2") [] ∷ [])

sync_beneath_one_serial_queue_is_stuck : told_of sync_beneath_one
    ≡ text (codes "start 0 main;act 0 main 0;act 0 main 1;end 0 main;start 0 b1;act 0 b1 0;events 6;b1 waits for b3;b3 not started;b2 not started;stuck;")
unfolding words
sync_beneath_one_serial_queue_is_stuck = refl

-- queue q serial; block b2; block b1; sync q b2; main; async q b1
abbrev sync_own : PlanView
sync_own = plan_of (serial (codes "q") 0 ∷ []) (Async (o 1) (b 2) ∷ [])
    (block (codes "b2") [] ∷ block (codes "b1") (Sync (o 1) (b 1) ∷ []) ∷ [])

sync_into_its_own_queue_is_stuck : reported sync_own ≡ text (codes "b1 waits for b2;b2 not started;stuck;")
unfolding words
sync_into_its_own_queue_is_stuck = refl

-- block b1; block b2; main; async root b1; barrier root b2
abbrev pair_on : List ObjView → ℕ → PlanView
pair_on objects q = plan_of objects (Async (o q) (b 1) ∷ Barrier (o q) (b 2) ∷ [])
    (block (codes "b1") [] ∷ block (codes "b2") [] ∷ [])

abbrev side_by_side : List Event
side_by_side = Start 0 (b 0) ∷ Acted 0 (run 0) 0 ∷ Acted 0 (run 0) 1 ∷ End 0 (b 0)
    ∷ Start 0 (b 1) ∷ Start 1 (b 2) ∷ End 1 (b 2) ∷ End 0 (b 1) ∷ []

barrier_on_root_is_a_plain_block : checked (pair_on [] 0) side_by_side ≡ (None, Drained)
unfolding words
barrier_on_root_is_a_plain_block = refl

-- the same with `queue q concurrent`, on q
barrier_waits_for_open_blocks : refused (pair_on (concurrent (codes "q") 0 ∷ []) 1) side_by_side ≡ Some (5, Fenced)
unfolding words
barrier_waits_for_open_blocks = refl

-- queue t serial; queue c concurrent on t; queue d concurrent on t; block b1; block b2; main; async c b1; async d b2
abbrev beneath_serial : PlanView
beneath_serial = plan_of (serial (codes "t") 0 ∷ concurrent (codes "c") 1 ∷ concurrent (codes "d") 1 ∷ [])
    (Async (o 2) (b 1) ∷ Async (o 3) (b 2) ∷ [])
    (block (codes "b1") [] ∷ block (codes "b2") [] ∷ [])

serial_target_excludes : refused beneath_serial side_by_side ≡ Some (5, Excluded)
unfolding words
serial_target_excludes = refl

one_after_the_other_beneath_a_serial_target : checked beneath_serial
    (Start 0 (b 0) ∷ Acted 0 (run 0) 0 ∷ Acted 0 (run 0) 1 ∷ End 0 (b 0)
    ∷ Start 0 (b 1) ∷ End 0 (b 1) ∷ Start 1 (b 2) ∷ End 1 (b 2) ∷ [])
    ≡ (None, Drained)
unfolding words
one_after_the_other_beneath_a_serial_target = refl

-- block b; main; sync root b
sync_on_root : told_of (plan_of [] (Sync (o 0) (b 1) ∷ []) (block (codes "b") [] ∷ []))
    ≡ text (codes "start 0 main;act 0 main 0;start 0 b;end 0 b;wake 0 main;end 0 main;events 6;drained;")
unfolding words
sync_on_root = refl

-- queue q concurrent; block x; block b1; barrier_sync q x; main; async root b1
abbrev barrier_sync_plan : PlanView
barrier_sync_plan = plan_of (concurrent (codes "q") 0 ∷ []) (Async (o 0) (b 2) ∷ [])
    (block (codes "x") [] ∷ block (codes "b1") (BarrierSync (o 1) (b 1) ∷ []) ∷ [])

barrier_sync_wakes_after_its_block : told_of barrier_sync_plan
    ≡ text (codes "start 0 main;act 0 main 0;end 0 main;start 0 b1;act 0 b1 0;start 0 x;end 0 x;wake 0 b1;end 0 b1;events 9;drained;")
unfolding words
barrier_sync_wakes_after_its_block = refl
