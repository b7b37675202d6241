-- Worked rows: suspension, activation, targets and references.
use Rattle.std.specs.Prelude.{◌≡◌, List, [], ◌∷◌, Some, refl, codes, map, take}
use Rattle.std.specs.List.{range_with_len}
use Rattle.gcd_plan.specs.PlanView.{PlanView, ObjView}
use Rattle.gcd_plan.specs.declared.act.Act.{Act}
use Rattle.gcd_plan.specs.declared.act.Act.TheVariants.{Async, Suspend, Resume, Activate, Target, Retain, Release}
use Rattle.gcd_plan.specs.declared.why.Why.TheVariants.{Excluded, NotFree}
use Rattle.gcd_event.specs.declared.event.Event.TheVariants.{Start, Act as Acted, End}
use Rattle.gcd_history.specs.History.{target_of}
use Rattle.gcd_history.proofs.Rows.Samples.{words, o, b, run, serial, inactive, block, plan_of, journal, refused, text, told_of, reported}

-- queue g serial; queue p serial on g; queue c serial on p; block b1; main; suspend g; async c b1; and more acts
abbrev held_below : List Act → PlanView
held_below more = plan_of (serial (codes "g") 0 ∷ serial (codes "p") 1 ∷ serial (codes "c") 2 ∷ [])
    (Suspend (o 1) ∷ Async (o 3) (b 1) ∷ more)
    (block (codes "b1") [] ∷ [])

suspended_far_below_is_stuck : reported (held_below []) ≡ text (codes "b1 not started;stuck;")
unfolding words
suspended_far_below_is_stuck = refl

resumed_far_below_is_drained : reported (held_below (Resume (o 1) ∷ [])) ≡ text (codes "drained;")
unfolding words
resumed_far_below_is_drained = refl

suspended_far_below_may_not_start : refused (held_below (Resume (o 1) ∷ []))
    (Start 0 (b 0) ∷ Acted 0 (run 0) 0 ∷ Acted 0 (run 0) 1 ∷ Start 1 (b 1) ∷ [])
    ≡ Some (3, NotFree)
unfolding words
suspended_far_below_may_not_start = refl

-- queue q serial; block b1; suspend q; block b2; main; async q b1; async q b2
abbrev suspends_itself : PlanView
suspends_itself = plan_of (serial (codes "q") 0 ∷ []) (Async (o 1) (b 1) ∷ Async (o 1) (b 2) ∷ [])
    (block (codes "b1") (Suspend (o 1) ∷ []) ∷ block (codes "b2") [] ∷ [])

suspension_lets_the_running_block_end : told_of suspends_itself
    ≡ text (codes "start 0 main;act 0 main 0;act 0 main 1;end 0 main;start 0 b1;act 0 b1 0;end 0 b1;events 7;b2 not started;stuck;")
unfolding words
suspension_lets_the_running_block_end = refl

-- queue q serial; main; resume q
resume_of_what_is_not_held : told_of (plan_of (serial (codes "q") 0 ∷ []) (Resume (o 1) ∷ []) [])
    ≡ text (codes "start 0 main;misuse 0 main 0 M1;events 2;misuse main 0 M1;")
unfolding words
resume_of_what_is_not_held = refl

-- queue q serial inactive; main; resume q
resume_of_an_inactive_queue : reported (plan_of (inactive (serial (codes "q") 0) ∷ []) (Resume (o 1) ∷ []) [])
    ≡ text (codes "misuse main 0 M1;")
unfolding words
resume_of_an_inactive_queue = refl

-- queue t serial; queue q serial; block b1; target q t; block b2; block c; main; async q b1; async q b2; async t c
abbrev pub moved : PlanView
moved = plan_of (serial (codes "t") 0 ∷ serial (codes "q") 0 ∷ [])
    (Async (o 2) (b 1) ∷ Async (o 2) (b 2) ∷ Async (o 1) (b 3) ∷ [])
    (block (codes "b1") (Target (o 2) (o 1) ∷ []) ∷ block (codes "b2") [] ∷ block (codes "c") [] ∷ [])

target_changes_when_its_run_closes : told_of moved
    ≡ text (codes "start 0 main;act 0 main 0;act 0 main 1;act 0 main 2;end 0 main;start 0 c;end 0 c;start 0 b1;act 0 b1 0;end 0 b1;start 0 b2;end 0 b2;events 12;drained;")
unfolding words
target_changes_when_its_run_closes = refl

moved_queue_is_beneath_its_new_target : refused moved
    (Start 0 (b 0) ∷ Acted 0 (run 0) 0 ∷ Acted 0 (run 0) 1 ∷ Acted 0 (run 0) 2 ∷ End 0 (b 0)
    ∷ Start 0 (b 1) ∷ Acted 0 (run 1) 0 ∷ Start 1 (b 3) ∷ End 0 (b 1) ∷ Start 0 (b 2) ∷ [])
    ≡ Some (9, Excluded)
unfolding words
moved_queue_is_beneath_its_new_target = refl

-- queue t serial; queue a serial; queue c serial on a; and these acts of main
abbrev parent : (ObjView → ObjView) → List Act → PlanView
parent made acts = plan_of (serial (codes "t") 0 ∷ made (serial (codes "a") 0) ∷ serial (codes "c") 2 ∷ []) acts []

target_of_a_parent_is_misuse : reported (parent (λ obj. obj) (Target (o 2) (o 1) ∷ [])) ≡ text (codes "misuse main 0 M5;")
unfolding words
target_of_a_parent_is_misuse = refl

target_of_an_inactive_parent_is_none : reported (parent inactive (Target (o 2) (o 1) ∷ Activate (o 2) ∷ [])) ≡ text (codes "drained;")
unfolding words
target_of_an_inactive_parent_is_none = refl

target_of_itself_is_a_cycle : reported (parent (λ obj. obj) (Target (o 2) (o 2) ∷ [])) ≡ text (codes "misuse main 0 M3;")
unfolding words
target_of_itself_is_a_cycle = refl

-- queue t serial inactive; queue q serial; block b; target q t; target t q; main; async q b
abbrev cycle_by_request : PlanView
cycle_by_request = plan_of (inactive (serial (codes "t") 0) ∷ serial (codes "q") 0 ∷ []) (Async (o 2) (b 1) ∷ [])
    (block (codes "b") (Target (o 2) (o 1) ∷ Target (o 1) (o 2) ∷ []) ∷ [])

cycle_through_a_moving_queue : told_of cycle_by_request
    ≡ text (codes "start 0 main;act 0 main 0;end 0 main;start 0 b;act 0 b 0;misuse 0 b 1 M3;events 6;misuse b 1 M3;")
unfolding words
cycle_through_a_moving_queue = refl

-- queue t serial; queue u serial; queue q serial; block b1; target q t; target q u; main; async q b1
abbrev moved_twice : PlanView
moved_twice = plan_of (serial (codes "t") 0 ∷ serial (codes "u") 0 ∷ serial (codes "q") 0 ∷ []) (Async (o 3) (b 1) ∷ [])
    (block (codes "b1") (Target (o 3) (o 1) ∷ Target (o 3) (o 2) ∷ []) ∷ [])

second_request_replaces_the_first : told_of moved_twice
    ≡ text (codes "start 0 main;act 0 main 0;end 0 main;start 0 b1;act 0 b1 0;act 0 b1 1;end 0 b1;events 7;drained;")
unfolding words
second_request_replaces_the_first = refl

-- at each position in turn
replaced_request_is_never_the_target : map (λ i. target_of moved_twice (take i (journal moved_twice)) 3) (range_with_len 0 8)
    ≡ 0 ∷ 0 ∷ 0 ∷ 0 ∷ 0 ∷ 0 ∷ 0 ∷ 2 ∷ []
unfolding words target_of
replaced_request_is_never_the_target = refl

-- queue q serial inactive; main; activate q; target q root
target_after_activation : reported (plan_of (inactive (serial (codes "q") 0) ∷ []) (Activate (o 1) ∷ Target (o 1) (o 0) ∷ []) [])
    ≡ text (codes "misuse main 1 M4;")
unfolding words
target_after_activation = refl

-- queue q serial; block b; main; release q; async q b
async_to_what_is_released : reported (plan_of (serial (codes "q") 0 ∷ []) (Release (o 1) ∷ Async (o 1) (b 1) ∷ []) (block (codes "b") [] ∷ []))
    ≡ text (codes "misuse main 1 M6;")
unfolding words
async_to_what_is_released = refl

-- queue q serial; main; suspend q; release q
release_of_what_is_held : reported (plan_of (serial (codes "q") 0 ∷ []) (Suspend (o 1) ∷ Release (o 1) ∷ []) [])
    ≡ text (codes "misuse main 1 M7;")
unfolding words
release_of_what_is_held = refl

-- queue q serial; block b; main; async q b; release q
released_queue_does_what_was_submitted : told_of (plan_of (serial (codes "q") 0 ∷ []) (Async (o 1) (b 1) ∷ Release (o 1) ∷ []) (block (codes "b") [] ∷ []))
    ≡ text (codes "start 0 main;act 0 main 0;act 0 main 1;end 0 main;start 0 b;end 0 b;events 6;drained;")
unfolding words
released_queue_does_what_was_submitted = refl

-- queue q serial; block b; main; retain q; release q; async q b
retained_queue_goes_on : told_of (plan_of (serial (codes "q") 0 ∷ []) (Retain (o 1) ∷ Release (o 1) ∷ Async (o 1) (b 1) ∷ []) (block (codes "b") [] ∷ []))
    ≡ text (codes "start 0 main;act 0 main 0;act 0 main 1;act 0 main 2;end 0 main;start 0 b;end 0 b;events 7;drained;")
unfolding words
retained_queue_goes_on = refl

-- queue t serial; queue q serial; main; release t; target q t
target_that_is_released : reported (plan_of (serial (codes "t") 0 ∷ serial (codes "q") 0 ∷ []) (Release (o 1) ∷ Target (o 2) (o 1) ∷ []) [])
    ≡ text (codes "misuse main 1 M6;")
unfolding words
target_that_is_released = refl
