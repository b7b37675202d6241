-- Worked rows: groups and semaphores.
use Rattle.std.specs.Prelude.{◌≡◌, List, [], ◌∷◌, ◌++◌, Some, None, refl, codes}
use Rattle.gcd_plan.specs.PlanView.{PlanView}
use Rattle.gcd_plan.specs.declared.act.Act.TheVariants.{Async, GroupAsync, Notify, Enter, Leave, GroupWait, Signal, Wait, Release}
use Rattle.gcd_plan.specs.declared.why.Why.TheVariants.{Waiting}
use Rattle.gcd_event.specs.declared.event.Event.{Event}
use Rattle.gcd_event.specs.declared.event.Event.TheVariants.{Start, Act as Acted, Wake, End}
use Rattle.gcd_history.specs.declared.state.State.TheVariants.{Drained}
use Rattle.gcd_history.proofs.Rows.Samples.{words, o, b, run, serial, group, semaphore, block, plan_of, refused, checked, text, told_of, reported}

-- group g; queue q serial; block n; block b1; block b2; main; notify g q n; group_async g q b1; group_async g q b2
abbrev notified : PlanView
notified = plan_of (group (codes "g") ∷ serial (codes "q") 0 ∷ [])
    (Notify (o 1) (o 2) (b 1) ∷ GroupAsync (o 1) (o 2) (b 2) ∷ GroupAsync (o 1) (o 2) (b 3) ∷ [])
    (block (codes "n") [] ∷ block (codes "b1") [] ∷ block (codes "b2") [] ∷ [])

notify_at_an_empty_group_comes_at_once : told_of notified
    ≡ text (codes "start 0 main;act 0 main 0;act 0 main 1;act 0 main 2;end 0 main;start 0 n;end 0 n;start 0 b1;end 0 b1;start 0 b2;end 0 b2;events 11;drained;")
unfolding words
notify_at_an_empty_group_comes_at_once = refl

-- the same with the first member before the notify
abbrev notified_late : PlanView
notified_late = plan_of (group (codes "g") ∷ serial (codes "q") 0 ∷ [])
    (GroupAsync (o 1) (o 2) (b 2) ∷ Notify (o 1) (o 2) (b 1) ∷ GroupAsync (o 1) (o 2) (b 3) ∷ [])
    (block (codes "n") [] ∷ block (codes "b1") [] ∷ block (codes "b2") [] ∷ [])

notify_comes_after_the_last_member : told_of notified_late
    ≡ text (codes "start 0 main;act 0 main 0;act 0 main 1;act 0 main 2;end 0 main;start 0 b1;end 0 b1;start 0 b2;end 0 b2;start 0 n;end 0 n;events 11;drained;")
unfolding words
notify_comes_after_the_last_member = refl

-- group g; queue q serial; block b1; main; group_async g q b1; group_wait g
abbrev waits_for_group : PlanView
waits_for_group = plan_of (group (codes "g") ∷ serial (codes "q") 0 ∷ []) (GroupAsync (o 1) (o 2) (b 1) ∷ GroupWait (o 1) ∷ []) (block (codes "b1") [] ∷ [])

group_wait_wakes_at_the_last_end : told_of waits_for_group
    ≡ text (codes "start 0 main;act 0 main 0;act 0 main 1;start 0 b1;end 0 b1;wake 0 main;end 0 main;events 7;drained;")
unfolding words
group_wait_wakes_at_the_last_end = refl

-- group g; main; leave g
leave_without_an_enter : reported (plan_of (group (codes "g") ∷ []) (Leave (o 1) ∷ []) []) ≡ text (codes "misuse main 0 M2;")
unfolding words
leave_without_an_enter = refl

-- group g; queue q serial; block w; group_wait g; main; enter g; async q w; leave g; enter g
abbrev pub emptied_once : PlanView
emptied_once = plan_of (group (codes "g") ∷ serial (codes "q") 0 ∷ [])
    (Enter (o 1) ∷ Async (o 2) (b 1) ∷ Leave (o 1) ∷ Enter (o 1) ∷ [])
    (block (codes "w") (GroupWait (o 1) ∷ []) ∷ [])

abbrev pub waits_from_the_start : List Event
waits_from_the_start = Start 0 (b 0) ∷ Acted 0 (run 0) 0 ∷ Acted 0 (run 0) 1 ∷ Start 1 (b 1) ∷ Acted 1 (run 1) 0 ∷ []

group_wait_passes_by_a_moment_that_has_gone : checked emptied_once
    (waits_from_the_start ++ Acted 0 (run 0) 2 ∷ Acted 0 (run 0) 3 ∷ Wake 1 (b 1) ∷ End 1 (b 1) ∷ End 0 (b 0) ∷ [])
    ≡ (None, Drained)
unfolding words
group_wait_passes_by_a_moment_that_has_gone = refl

group_wait_does_not_pass_before_it : refused emptied_once
    (waits_from_the_start ++ Wake 1 (b 1) ∷ Acted 0 (run 0) 2 ∷ Acted 0 (run 0) 3 ∷ End 1 (b 1) ∷ End 0 (b 0) ∷ [])
    ≡ Some (5, Waiting)
unfolding words
group_wait_does_not_pass_before_it = refl

-- semaphore s 1; queue a serial; queue b serial; queue c serial; block x; wait s; block y; wait s; block z; wait s; main;
-- async a x; async b y; async c z; signal s; signal s
abbrev three_wait : PlanView
three_wait = plan_of (semaphore (codes "s") 1 ∷ serial (codes "a") 0 ∷ serial (codes "b") 0 ∷ serial (codes "c") 0 ∷ [])
    (Async (o 2) (b 1) ∷ Async (o 3) (b 2) ∷ Async (o 4) (b 3) ∷ Signal (o 1) ∷ Signal (o 1) ∷ [])
    (block (codes "x") (Wait (o 1) ∷ []) ∷ block (codes "y") (Wait (o 1) ∷ []) ∷ block (codes "z") (Wait (o 1) ∷ []) ∷ [])

three_waits_pass_in_order : told_of three_wait
    ≡ text (codes "start 0 main;act 0 main 0;act 0 main 1;act 0 main 2;act 0 main 3;act 0 main 4;end 0 main;start 0 x;act 0 x 0;wake 0 x;end 0 x;start 0 y;act 0 y 0;wake 0 y;end 0 y;start 0 z;act 0 z 0;wake 0 z;end 0 z;events 19;drained;")
unfolding words
three_waits_pass_in_order = refl

-- semaphore s 1; main; wait s; release s
release_of_a_semaphore_below_its_first_value : told_of (plan_of (semaphore (codes "s") 1 ∷ []) (Wait (o 1) ∷ Release (o 1) ∷ []) [])
    ≡ text (codes "start 0 main;act 0 main 0;wake 0 main;misuse 0 main 1 M8;events 4;misuse main 1 M8;")
unfolding words
release_of_a_semaphore_below_its_first_value = refl
