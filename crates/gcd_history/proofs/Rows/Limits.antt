-- Worked rows: waits with a limit.
use Rattle.std.specs.Prelude.{◌≡◌, ℕ, true, false, List, [], ◌∷◌, ◌++◌, map, take, Some, None, refl, codes, slice_get}
use Rattle.gcd_plan.specs.PlanView.{PlanView}
use Rattle.gcd_plan.specs.Validity.{IsPlan}
use Rattle.gcd_plan.specs.declared.act.Act.{Act}
use Rattle.gcd_plan.specs.declared.act.Act.TheVariants.{Async, Enter, Leave, Wait, WaitFor, GroupWaitFor, Signal, Release}
use Rattle.gcd_plan.specs.declared.reason.Reason.TheVariants.{Rank}
use Rattle.gcd_plan.specs.declared.why.Why.TheVariants.{NotParked, Waiting, NotDue, Came}
use Rattle.gcd_event.specs.declared.event.Event.{Event}
use Rattle.gcd_event.specs.declared.event.Event.TheVariants.{Start, Act as Acted, Wake, Tick, Expire}
use Rattle.gcd_history.specs.History.{why, IsLawful, awaited_of, is_over, has_expired, group_wait_passes, semaphore_wait_passes, semaphore_wait_expired, limit_of, expiry_of, next_due_of}
use Rattle.gcd_history.specs.Ends.{IsDrained}
use Rattle.gcd_history.proofs.Rows.Samples.{words, o, b, run, group, semaphore, block, plan_of, journal_with, refused, text, told_of, told_with}
use Rattle.gcd_history.proofs.Rows.SampleLaws.{words_of_history, plan_from, lawful_row, drained_row}

-- semaphore s N; main; and these acts
abbrev waiter : (first : ℕ) → List Act → PlanView
waiter first acts = plan_of (semaphore (codes "s") first ∷ []) acts []

-- semaphore s 0; main; wait_for s 20
wait_expires_at_its_limit : told_with (waiter 0 (WaitFor (o 1) 20 ∷ [])) (Tick 20 ∷ Expire (b 0) ∷ [])
    ≡ text (codes "start 0 main;act 0 main 0;tick 20;expire main;wake 0 main;end 0 main;events 6;drained;")
unfolding words
wait_expires_at_its_limit = refl

-- semaphore s 0; main; wait_for s 5000: no limit lies past `until`
wait_expires_at_the_end : told_with (waiter 0 (WaitFor (o 1) 5000 ∷ [])) (Tick 1000 ∷ Expire (b 0) ∷ [])
    ≡ text (codes "start 0 main;act 0 main 0;tick 1000;expire main;wake 0 main;end 0 main;events 6;drained;")
unfolding words
wait_expires_at_the_end = refl

-- semaphore s 0; main; wait_for s 0
wait_of_nothing_expires_at_once : told_with (waiter 0 (WaitFor (o 1) 0 ∷ [])) (Expire (b 0) ∷ [])
    ≡ text (codes "start 0 main;act 0 main 0;expire main;wake 0 main;end 0 main;events 5;drained;")
unfolding words
wait_of_nothing_expires_at_once = refl

-- semaphore s 1; main; wait_for s 0
wait_that_passes_does_not_expire : told_of (waiter 1 (WaitFor (o 1) 0 ∷ []))
    ≡ text (codes "start 0 main;act 0 main 0;wake 0 main;end 0 main;events 4;drained;")
unfolding words
wait_that_passes_does_not_expire = refl

-- semaphore s 1; main; wait s; wait_for s 5; signal s; release s
expired_wait_does_not_count : told_with (waiter 1 (Wait (o 1) ∷ WaitFor (o 1) 5 ∷ Signal (o 1) ∷ Release (o 1) ∷ [])) (Tick 5 ∷ Expire (b 0) ∷ [])
    ≡ text (codes "start 0 main;act 0 main 0;wake 0 main;act 0 main 1;tick 5;expire main;wake 0 main;act 0 main 2;act 0 main 3;end 0 main;events 10;drained;")
unfolding words
expired_wait_does_not_count = refl

-- the same without signal s
first_wait_counts_still : told_with (waiter 1 (Wait (o 1) ∷ WaitFor (o 1) 5 ∷ Release (o 1) ∷ [])) (Tick 5 ∷ Expire (b 0) ∷ [])
    ≡ text (codes "start 0 main;act 0 main 0;wake 0 main;act 0 main 1;tick 5;expire main;wake 0 main;misuse 0 main 2 M8;events 8;misuse main 2 M8;")
unfolding words
first_wait_counts_still = refl

-- group g; main; enter g; group_wait_for g 7
group_wait_expires : told_with (plan_of (group (codes "g") ∷ []) (Enter (o 1) ∷ GroupWaitFor (o 1) 7 ∷ []) []) (Tick 7 ∷ Expire (b 0) ∷ [])
    ≡ text (codes "start 0 main;act 0 main 0;act 0 main 1;tick 7;expire main;wake 0 main;end 0 main;events 7;drained;")
unfolding words
group_wait_expires = refl

-- an Expire of a block that is not parked, before its limit, of a wait that has passed, and of one that has expired
expiry_refused : (refused (waiter 0 (WaitFor (o 1) 5 ∷ [])) (Start 0 (b 0) ∷ Expire (b 0) ∷ []) ≡ Some (1, NotParked))
    × (refused (waiter 0 (WaitFor (o 1) 5 ∷ [])) (Start 0 (b 0) ∷ Acted 0 (run 0) 0 ∷ Expire (b 0) ∷ []) ≡ Some (2, NotDue))
    × (refused (waiter 0 (Wait (o 1) ∷ [])) (Start 0 (b 0) ∷ Acted 0 (run 0) 0 ∷ Expire (b 0) ∷ []) ≡ Some (2, NotDue))
    × (refused (waiter 1 (WaitFor (o 1) 0 ∷ [])) (Start 0 (b 0) ∷ Acted 0 (run 0) 0 ∷ Expire (b 0) ∷ []) ≡ Some (2, Came))
    × (refused (waiter 0 (WaitFor (o 1) 0 ∷ [])) (Start 0 (b 0) ∷ Acted 0 (run 0) 0 ∷ Expire (b 0) ∷ Expire (b 0) ∷ []) ≡ Some (3, Came))
unfolding words
expiry_refused = (refl, refl, refl, refl, refl)

-- semaphore s 0; main; wait_for s 5; signal s; wait s: the expired wait has taken no signal
waits_again_after_an_expiry : told_with (waiter 0 (WaitFor (o 1) 5 ∷ Signal (o 1) ∷ Wait (o 1) ∷ [])) (Tick 5 ∷ Expire (b 0) ∷ [])
    ≡ text (codes "start 0 main;act 0 main 0;tick 5;expire main;wake 0 main;act 0 main 1;act 0 main 2;wake 0 main;end 0 main;events 9;drained;")
unfolding words
waits_again_after_an_expiry = refl

-- semaphore s 0; main; wait_for s 5; wait_for s 5: the second limit counts from the second wait
limit_counts_from_its_wait : told_with (waiter 0 (WaitFor (o 1) 5 ∷ WaitFor (o 1) 5 ∷ [])) (Tick 5 ∷ Expire (b 0) ∷ Tick 10 ∷ Expire (b 0) ∷ [])
    ≡ text (codes "start 0 main;act 0 main 0;tick 5;expire main;wake 0 main;act 0 main 1;tick 10;expire main;wake 0 main;end 0 main;events 10;drained;")
unfolding words
limit_counts_from_its_wait = refl

-- semaphore s 0; block x, y and z with these acts; main; async root x; async root y; async root z
abbrev three : (x y z : List Act) → PlanView
three x y z =
    plan_of (semaphore (codes "s") 0 ∷ []) (Async (o 0) (b 1) ∷ Async (o 0) (b 2) ∷ Async (o 0) (b 3) ∷ [])
    (block (codes "x") x ∷ block (codes "y") y ∷ block (codes "z") z ∷ [])

-- x: wait s; y: wait_for s 5, signal s, signal s; z: wait s. The wait between the others expires, and frees its rank
expired_wait_frees_its_rank : told_with (three (Wait (o 1) ∷ []) (WaitFor (o 1) 5 ∷ Signal (o 1) ∷ Signal (o 1) ∷ []) (Wait (o 1) ∷ [])) (Tick 5 ∷ Expire (b 2) ∷ [])
    ≡ text (codes "start 0 main;act 0 main 0;act 0 main 1;act 0 main 2;end 0 main;start 0 x;act 0 x 0;start 0 y;act 0 y 0;start 0 z;act 0 z 0;tick 5;expire y;wake 0 y;act 0 y 1;act 0 y 2;end 0 y;wake 0 x;end 0 x;wake 0 z;end 0 z;events 21;drained;")
unfolding words
expired_wait_frees_its_rank = refl

-- x: wait_for s 5; y: wait_for s 5, signal s; z: wait s. The one signal passes over both expired waits
signal_passes_over_expired_waits : told_with (three (WaitFor (o 1) 5 ∷ []) (WaitFor (o 1) 5 ∷ Signal (o 1) ∷ []) (Wait (o 1) ∷ [])) (Tick 5 ∷ Expire (b 1) ∷ Expire (b 2) ∷ [])
    ≡ text (codes "start 0 main;act 0 main 0;act 0 main 1;act 0 main 2;end 0 main;start 0 x;act 0 x 0;start 0 y;act 0 y 0;start 0 z;act 0 z 0;tick 5;expire x;wake 0 x;end 0 x;expire y;wake 0 y;act 0 y 1;end 0 y;wake 0 z;end 0 z;events 21;drained;")
unfolding words
signal_passes_over_expired_waits = refl

-- group g; block x; leave g; main; enter g; async root x; group_wait_for g 5
abbrev left_late : PlanView
left_late = plan_of (group (codes "g") ∷ []) (Enter (o 1) ∷ Async (o 0) (b 1) ∷ GroupWaitFor (o 1) 5 ∷ []) (block (codes "x") (Leave (o 1) ∷ []) ∷ [])

-- main waits, and its limit has come; x has started
abbrev at_the_limit : List Event
at_the_limit = Start 0 (b 0) ∷ Acted 0 (run 0) 0 ∷ Acted 0 (run 0) 1 ∷ Acted 0 (run 0) 2 ∷ Start 0 (b 1) ∷ Tick 5 ∷ []

-- the group empties at the moment of the limit: whichever comes first, the leave or the Expire, decides, and it stays so
limit_and_leave : (refused left_late (at_the_limit ++ Acted 0 (run 1) 0 ∷ Expire (b 0) ∷ []) ≡ Some (7, Came))
    × (refused left_late (at_the_limit ++ Expire (b 0) ∷ Acted 0 (run 1) 0 ∷ Expire (b 0) ∷ []) ≡ Some (8, Came))
    × (group_wait_passes left_late (at_the_limit ++ Acted 0 (run 1) 0 ∷ []) 1 3 ≡ true)
    × (group_wait_passes left_late (at_the_limit ++ Expire (b 0) ∷ Acted 0 (run 1) 0 ∷ []) 1 3 ≡ false)
    × (has_expired (at_the_limit ++ Expire (b 0) ∷ Acted 0 (run 1) 0 ∷ []) 3 ≡ true)
unfolding words words_of_history
limit_and_leave = (refl, refl, refl, refl, refl)

-- ## The law on wakes, where a wait expires: a lawful and drained history, in which its premise holds

-- semaphore s 0; main; wait_for s 20
abbrev expiring : PlanView
expiring = waiter 0 (WaitFor (o 1) 20 ∷ [])

abbrev expired_once : List Event
expired_once = journal_with expiring (Tick 20 ∷ Expire (b 0) ∷ [])

expiring_plan : IsPlan expiring
expiring_plan = plan_from expiring refl refl refl refl refl refl

expiring_lawful : IsLawful expiring expired_once
unfolding words
expiring_lawful = lawful_row expiring expired_once refl

expiring_drained : IsDrained expiring expired_once
unfolding words words_of_history
expiring_drained = drained_row expiring expired_once expiring_plan expiring_lawful refl refl refl refl refl refl refl refl

-- event 4 is the Wake of main, whose wait is over since event 3, its Expire, though it has not passed, and never does
expiring_premise : (slice_get expired_once 4 ≡ Some (Wake 0 (b 0)))
    × (awaited_of expiring (take 4 expired_once) 0 ≡ Some (Rank (o 1) 1))
    × (map (λ i. is_over expiring (take i expired_once) (Rank (o 1) 1)) (2 ∷ 3 ∷ 4 ∷ 6 ∷ []) ≡ false ∷ false ∷ true ∷ true ∷ [])
    × (map (λ i. semaphore_wait_passes expiring (take i expired_once) 1 1) (2 ∷ 4 ∷ 6 ∷ []) ≡ false ∷ false ∷ false ∷ [])
    × (semaphore_wait_expired expiring expired_once 1 1 ≡ true)
unfolding words words_of_history
expiring_premise = (refl, refl, refl, refl, refl)

-- its limit is a due time until time has come to it, and then worker 0 records its Expire
expiring_due : (limit_of expiring (take 2 expired_once) 0 ≡ Some 20)
    × (map (λ i. next_due_of expiring (take i expired_once)) (2 ∷ 3 ∷ []) ≡ Some 20 ∷ None ∷ [])
    × (map (λ i. expiry_of expiring (take i expired_once)) (2 ∷ 3 ∷ 4 ∷ []) ≡ None ∷ Some (Expire (b 0)) ∷ None ∷ [])
unfolding words words_of_history
expiring_due = (refl, refl, refl)

-- refused: a Wake of main before its Expire
expiring_refused : why expiring (take 3 expired_once) (Wake 0 (b 0)) ≡ Some Waiting
unfolding words words_of_history
expiring_refused = refl
