-- Worked rows of the laws: for each law a lawful history of a valid plan in which its premise holds, by computation.
use Rattle.std.specs.Prelude.{◌≡◌, true, false, List, [], ◌∷◌, ◌++◌, map, take, Some, None, refl, codes, slice_get, count_by}
use Rattle.std.specs.List.{range_with_len}
use Rattle.gcd_plan.specs.PlanView.{PlanView}
use Rattle.gcd_plan.specs.Validity.{IsPlan}
use Rattle.gcd_plan.specs.declared.act.Act.TheVariants.{Async, Barrier, Sync, GroupAsync, GroupWait, Signal, Wait, Suspend, Resume, Activate, Merge, Cancel}
use Rattle.gcd_plan.specs.declared.kind.Kind.{Kind}
use Rattle.gcd_plan.specs.declared.kind.Kind.TheVariants.{Add, Or, Replace, Read}
use Rattle.gcd_plan.specs.declared.reason.Reason.TheVariants.{Block as EndOf, Group, Rank}
use Rattle.gcd_plan.specs.declared.why.Why.TheVariants.{Busy, Unready, Behind, NotFree, Excluded, Fenced, Waiting, NotLive, Over}
use Rattle.gcd_event.specs.declared.event.Event.{Event}
use Rattle.gcd_event.specs.declared.event.Event.TheVariants.{Start, Act as Acted, Wake, End, Deliver, DeliverEnd, Ready, FeedEnd, Halt}
use Rattle.gcd_history.specs.Runs.{starts, ends}
use Rattle.gcd_history.specs.History.{why, IsLawful, is_submitted, is_started, submitted_of, is_open, node_of, chain_of_run, node_of_run, is_barrier_on, is_free, awaited_of, has_come, inputs_of, new_inputs_of, received_of, pending_of, merged_of, request_of, target_of, open_beneath_of, is_active, has_run, is_running, running_of, is_cancelled, is_live_feed}
use Rattle.gcd_history.specs.Ends.{IsDrained}
use Rattle.gcd_history.proofs.Rows.Samples.{words, o, b, run, handler, serial, concurrent, group, semaphore, source, block, plan_of, journal}
use Rattle.gcd_history.proofs.Rows.SampleLaws.{words_of_history, plan_from, lawful_row, drained_row}
use Rattle.gcd_history.proofs.Rows.Forged.{main_runs, whole}
use Rattle.gcd_history.proofs.Rows.Order.{sync_apart}
use Rattle.gcd_history.proofs.Rows.Objects.{moved}
use Rattle.gcd_history.proofs.Rows.Groups.{emptied_once, waits_from_the_start}
use Rattle.gcd_history.specs.Facts.{is_dead_feed}

-- ## 1 A block starts at most once, after its submission, and where all is drained it has ended once

-- queue q serial; block b1; main; async q b1
abbrev one_async : PlanView
one_async = plan_of (serial (codes "q") 0 ∷ []) (Async (o 1) (b 1) ∷ []) (block (codes "b1") [] ∷ [])

once_plan : IsPlan one_async
once_plan = plan_from one_async refl refl refl refl refl refl

once_lawful : IsLawful one_async whole
unfolding words
once_lawful = lawful_row one_async whole refl

once_drained : IsDrained one_async whole
unfolding words words_of_history
once_drained = drained_row one_async whole once_plan once_lawful refl refl refl refl refl refl refl refl

-- event 3 is the Start of b1, which is submitted then and has not started; it starts once, and ends once
once_premise : (slice_get whole 3 ≡ Some (Start 0 (b 1)))
    × (is_submitted one_async (take 3 whole) 1 ≡ true)
    × (is_started (take 3 whole) 1 ≡ false)
    × (count_by (starts 1) whole ≡ 1)
    × (count_by (ends 1) whole ≡ 1)
unfolding words
once_premise = (refl, refl, refl, refl, refl)

-- b1 may not start before its submission, nor again
once_refused : (why one_async (take 1 whole) (Start 1 (b 1)) ≡ Some Unready) × (why one_async whole (Start 0 (b 1)) ≡ Some Unready)
unfolding words words_of_history
once_refused = (refl, refl)

-- ## 2 Of two submissions on one node the later starts only after the earlier has started

-- queue q serial; queue r serial; block b3; block b1; sync r b3; block b2; main; async q b1; async q b2
order_plan : IsPlan sync_apart
order_plan = plan_from sync_apart refl refl refl refl refl refl

order_lawful : IsLawful sync_apart (journal sync_apart)
unfolding words
order_lawful = lawful_row sync_apart (journal sync_apart) refl

-- main; b1 and b2 on q; b3 on r
order_submissions : submitted_of sync_apart (journal sync_apart)
    ≡ record { blk = b 0; node = None; barrier = false }
    ∷ record { blk = b 2; node = Some (o 1); barrier = false }
    ∷ record { blk = b 3; node = Some (o 1); barrier = false }
    ∷ record { blk = b 1; node = Some (o 2); barrier = false }
    ∷ []
unfolding words words_of_history
order_submissions = refl

-- at each position in turn: b1 has started, and later b2
order_premise : (map (λ i. is_started (take i (journal sync_apart)) 2) (range_with_len 4 8) ≡ false ∷ true ∷ true ∷ true ∷ true ∷ true ∷ true ∷ true ∷ [])
    × (map (λ i. is_started (take i (journal sync_apart)) 3) (range_with_len 4 8) ≡ false ∷ false ∷ false ∷ false ∷ false ∷ false ∷ false ∷ true ∷ [])
unfolding words
order_premise = (refl, refl)

order_refused : why sync_apart (take 4 (journal sync_apart)) (Start 0 (b 3)) ≡ Some Behind
unfolding words words_of_history
order_refused = refl

-- ## 3 Runs beneath one serial queue exclude each other

-- queue t serial; queue c concurrent on t; queue d concurrent on t; block b1; block b2; block b3; main; async c b1; async d b2;
-- async root b3
abbrev beneath_and_beside : PlanView
beneath_and_beside = plan_of (serial (codes "t") 0 ∷ concurrent (codes "c") 1 ∷ concurrent (codes "d") 1 ∷ [])
    (Async (o 2) (b 1) ∷ Async (o 3) (b 2) ∷ Async (o 0) (b 3) ∷ [])
    (block (codes "b1") [] ∷ block (codes "b2") [] ∷ block (codes "b3") [] ∷ [])

abbrev two_open : List Event
two_open = Start 0 (b 0) ∷ Acted 0 (run 0) 0 ∷ Acted 0 (run 0) 1 ∷ Acted 0 (run 0) 2 ∷ End 0 (b 0) ∷ Start 0 (b 1) ∷ Start 1 (b 3) ∷ []

exclusion_plan : IsPlan beneath_and_beside
exclusion_plan = plan_from beneath_and_beside refl refl refl refl refl refl

exclusion_lawful : IsLawful beneath_and_beside two_open
unfolding words
exclusion_lawful = lawful_row beneath_and_beside two_open refl

-- b1 is open beneath t, and b3 beside it on root
exclusion_premise : (map (λ n. is_open two_open (run n)) (1 ∷ 2 ∷ 3 ∷ []) ≡ true ∷ false ∷ true ∷ [])
    × (map (λ n. chain_of_run beneath_and_beside two_open (run n)) (1 ∷ 2 ∷ 3 ∷ []) ≡ (2 ∷ 1 ∷ 0 ∷ []) ∷ (3 ∷ 1 ∷ 0 ∷ []) ∷ (0 ∷ []) ∷ [])
unfolding words words_of_history
exclusion_premise = (refl, refl)

-- b2, which is beneath t too, may not start beside b1
exclusion_refused : why beneath_and_beside two_open (Start 2 (b 2)) ≡ Some Excluded
unfolding words words_of_history
exclusion_refused = refl

-- the plan and the history are those of 2: b1 and b2 were submitted on q, and are open one after the other
one_queue_premise : (map (node_of sync_apart (journal sync_apart)) (2 ∷ 3 ∷ []) ≡ Some (o 1) ∷ Some (o 1) ∷ [])
    × (map (λ i. is_open (take i (journal sync_apart)) (run 2)) (5 ∷ 10 ∷ 11 ∷ []) ≡ true ∷ false ∷ false ∷ [])
    × (map (λ i. is_open (take i (journal sync_apart)) (run 3)) (5 ∷ 10 ∷ 11 ∷ []) ≡ false ∷ false ∷ true ∷ [])
unfolding words words_of_history
one_queue_premise = (refl, refl, refl)

-- ## 4 No run of a concurrent queue overlaps a barrier of it

-- queue q concurrent; queue r concurrent; block b1; block b2; block b3; block b4; main; async q b1; barrier q b2; async q b3;
-- async r b4
abbrev with_barrier : PlanView
with_barrier = plan_of (concurrent (codes "q") 0 ∷ concurrent (codes "r") 0 ∷ [])
    (Async (o 1) (b 1) ∷ Barrier (o 1) (b 2) ∷ Async (o 1) (b 3) ∷ Async (o 2) (b 4) ∷ [])
    (block (codes "b1") [] ∷ block (codes "b2") [] ∷ block (codes "b3") [] ∷ block (codes "b4") [] ∷ [])

abbrev barrier_open : List Event
barrier_open = Start 0 (b 0) ∷ Acted 0 (run 0) 0 ∷ Acted 0 (run 0) 1 ∷ Acted 0 (run 0) 2 ∷ Acted 0 (run 0) 3 ∷ End 0 (b 0)
    ∷ Start 0 (b 1) ∷ End 0 (b 1) ∷ Start 0 (b 2) ∷ Start 1 (b 4) ∷ []

barrier_plan : IsPlan with_barrier
barrier_plan = plan_from with_barrier refl refl refl refl refl refl

barrier_lawful : IsLawful with_barrier barrier_open
unfolding words
barrier_lawful = lawful_row with_barrier barrier_open refl

-- the barrier b2 is open on q, and beside it b4 on r
barrier_premise : (map (λ n. is_open barrier_open (run n)) (2 ∷ 3 ∷ 4 ∷ []) ≡ true ∷ false ∷ true ∷ [])
    × (map (λ n. is_barrier_on with_barrier barrier_open 1 (run n)) (2 ∷ 3 ∷ 4 ∷ []) ≡ true ∷ false ∷ false ∷ [])
    × (map (λ n. node_of_run with_barrier barrier_open (run n)) (2 ∷ 3 ∷ 4 ∷ []) ≡ Some 1 ∷ Some 1 ∷ Some 2 ∷ [])
unfolding words words_of_history
barrier_premise = (refl, refl, refl)

-- the barrier does not start beside b1, nor b3 beside the barrier
barrier_refused : (why with_barrier (take 7 barrier_open) (Start 1 (b 2)) ≡ Some Fenced) × (why with_barrier barrier_open (Start 2 (b 3)) ≡ Some Fenced)
unfolding words words_of_history
barrier_refused = (refl, refl)

-- ## 5 What begins, begins with its whole chain free

-- queue g serial; queue p serial on g; queue c serial on p; source s add on p; block b1; main; activate s; suspend g; async c b1;
-- merge s 5; resume g
abbrev far_above : PlanView
far_above = plan_of (serial (codes "g") 0 ∷ serial (codes "p") 1 ∷ serial (codes "c") 2 ∷ record (source (codes "s") Add []) { target = o 2 } ∷ [])
    (Activate (o 4) ∷ Suspend (o 1) ∷ Async (o 3) (b 1) ∷ Merge (o 4) 5 ∷ Resume (o 1) ∷ [])
    (block (codes "b1") [] ∷ [])

free_plan : IsPlan far_above
free_plan = plan_from far_above refl refl refl refl refl refl

free_lawful : IsLawful far_above (journal far_above)
unfolding words
free_lawful = lawful_row far_above (journal far_above) refl

-- event 7 is the Start of b1, and event 9 the Deliver of s, each with a chain of four free objects
free_premise : (slice_get (journal far_above) 7 ≡ Some (Start 0 (b 1)))
    × (chain_of_run far_above (take 7 (journal far_above)) (run 1) ≡ 3 ∷ 2 ∷ 1 ∷ 0 ∷ [])
    × (map (is_free far_above (take 7 (journal far_above))) (3 ∷ 2 ∷ 1 ∷ 0 ∷ []) ≡ true ∷ true ∷ true ∷ true ∷ [])
unfolding words words_of_history
free_premise = (refl, refl, refl)

free_at_the_deliver : (slice_get (journal far_above) 9 ≡ Some (Deliver 0 (o 4)))
    × (chain_of_run far_above (take 9 (journal far_above)) (handler 4) ≡ 4 ∷ 2 ∷ 1 ∷ 0 ∷ [])
    × (map (is_free far_above (take 9 (journal far_above))) (4 ∷ 2 ∷ 1 ∷ 0 ∷ []) ≡ true ∷ true ∷ true ∷ true ∷ [])
unfolding words words_of_history
free_at_the_deliver = (refl, refl, refl)

-- before g is resumed neither may begin
free_refused : (why far_above (take 5 (journal far_above)) (Start 1 (b 1)) ≡ Some NotFree) × (why far_above (take 5 (journal far_above)) (Deliver 1 (o 4)) ≡ Some NotFree)
unfolding words words_of_history
free_refused = (refl, refl)

-- ## 6 A Wake stands only where what was waited for had come

-- semaphore s 0; group g; queue q serial; block x; block y; block z; signal s; main; sync q x; group_async g q y; group_wait g;
-- async q z; wait s
abbrev waits_thrice : PlanView
waits_thrice = plan_of (semaphore (codes "s") 0 ∷ group (codes "g") ∷ serial (codes "q") 0 ∷ [])
    (Sync (o 3) (b 1) ∷ GroupAsync (o 2) (o 3) (b 2) ∷ GroupWait (o 2) ∷ Async (o 3) (b 3) ∷ Wait (o 1) ∷ [])
    (block (codes "x") [] ∷ block (codes "y") [] ∷ block (codes "z") (Signal (o 1) ∷ []) ∷ [])

waits_plan : IsPlan waits_thrice
waits_plan = plan_from waits_thrice refl refl refl refl refl refl

waits_lawful : IsLawful waits_thrice (journal waits_thrice)
unfolding words
waits_lawful = lawful_row waits_thrice (journal waits_thrice) refl

waits_drained : IsDrained waits_thrice (journal waits_thrice)
unfolding words words_of_history
waits_drained = drained_row waits_thrice (journal waits_thrice) waits_plan waits_lawful refl refl refl refl refl refl refl refl

-- events 4, 9 and 15 are Wakes of main, for the end of x, for group g and for the first wait on s
waits_premise : (map (slice_get (journal waits_thrice)) (4 ∷ 9 ∷ 15 ∷ []) ≡ Some (Wake 0 (b 0)) ∷ Some (Wake 0 (b 0)) ∷ Some (Wake 0 (b 0)) ∷ [])
    × (map (λ i. awaited_of waits_thrice (take i (journal waits_thrice)) 0) (4 ∷ 9 ∷ 15 ∷ []) ≡ Some (EndOf (b 1)) ∷ Some (Group (o 2) 6) ∷ Some (Rank (o 1) 1) ∷ [])
unfolding words words_of_history
waits_premise = (refl, refl)

-- what is waited for comes with the end of x, with the end of y and with the signal
waits_come : (map (λ i. has_come waits_thrice (take i (journal waits_thrice)) (EndOf (b 1))) (3 ∷ 4 ∷ []) ≡ false ∷ true ∷ [])
    × (map (λ i. has_come waits_thrice (take i (journal waits_thrice)) (Group (o 2) 6)) (8 ∷ 9 ∷ []) ≡ false ∷ true ∷ [])
    × (map (λ i. has_come waits_thrice (take i (journal waits_thrice)) (Rank (o 1) 1)) (13 ∷ 14 ∷ []) ≡ false ∷ true ∷ [])
unfolding words words_of_history
waits_come = (refl, refl, refl)

waits_refused : why waits_thrice (take 7 (journal waits_thrice)) (Wake 1 (b 0)) ≡ Some Waiting
unfolding words words_of_history
waits_refused = refl

-- ## 7 What was merged was handed over, or is pending

-- source s on root; block b1; merge s 12; main; activate s; merge s 3; merge s 6; async root b1
abbrev merged_twice : Kind → PlanView
merged_twice kind = plan_of (source (codes "s") kind [] ∷ [])
    (Activate (o 1) ∷ Merge (o 1) 3 ∷ Merge (o 1) 6 ∷ Async (o 0) (b 1) ∷ [])
    (block (codes "b1") (Merge (o 1) 12 ∷ []) ∷ [])

-- b1 merges while the handler runs
abbrev delivered_twice : List Event
delivered_twice = Start 0 (b 0) ∷ Acted 0 (run 0) 0 ∷ Acted 0 (run 0) 1 ∷ Acted 0 (run 0) 2 ∷ Acted 0 (run 0) 3 ∷ End 0 (b 0)
    ∷ Deliver 0 (o 1) ∷ Start 1 (b 1) ∷ Acted 1 (run 1) 0 ∷ End 1 (b 1) ∷ DeliverEnd 0 (o 1) ∷ Deliver 0 (o 1) ∷ DeliverEnd 0 (o 1) ∷ []

merged_plan : IsPlan (merged_twice Add)
merged_plan = plan_from (merged_twice Add) refl refl refl refl refl refl

merged_lawful : IsLawful (merged_twice Add) delivered_twice
unfolding words
merged_lawful = lawful_row (merged_twice Add) delivered_twice refl

-- received, pending and merged: before the first Deliver, after it, after b1's merge, and at the end
merged_premise : (map (λ i. received_of (merged_twice Add) (take i delivered_twice) 1) (6 ∷ 7 ∷ 9 ∷ 13 ∷ []) ≡ 0 ∷ 9 ∷ 9 ∷ 21 ∷ [])
    × (map (λ i. pending_of (merged_twice Add) (take i delivered_twice) 1) (6 ∷ 7 ∷ 9 ∷ 13 ∷ []) ≡ 9 ∷ 0 ∷ 12 ∷ 0 ∷ [])
    × (map (λ i. merged_of (merged_twice Add) (take i delivered_twice) 1) (6 ∷ 7 ∷ 9 ∷ 13 ∷ []) ≡ 9 ∷ 9 ∷ 21 ∷ 21 ∷ [])
unfolding words words_of_history
merged_premise = (refl, refl, refl)

-- the same of an or source
or_lawful : IsLawful (merged_twice Or) delivered_twice
unfolding words
or_lawful = lawful_row (merged_twice Or) delivered_twice refl

or_premise : (map (λ i. received_of (merged_twice Or) (take i delivered_twice) 1) (6 ∷ 7 ∷ 9 ∷ 13 ∷ []) ≡ 0 ∷ 7 ∷ 7 ∷ 15 ∷ [])
    × (map (λ i. pending_of (merged_twice Or) (take i delivered_twice) 1) (6 ∷ 7 ∷ 9 ∷ 13 ∷ []) ≡ 7 ∷ 0 ∷ 12 ∷ 0 ∷ [])
    × (map (λ i. merged_of (merged_twice Or) (take i delivered_twice) 1) (6 ∷ 7 ∷ 9 ∷ 13 ∷ []) ≡ 7 ∷ 7 ∷ 15 ∷ 15 ∷ [])
unfolding words words_of_history
or_premise = (refl, refl, refl)

-- the same of a replace source: pending, received, the inputs and those after the last Deliver
replace_lawful : IsLawful (merged_twice Replace) delivered_twice
unfolding words
replace_lawful = lawful_row (merged_twice Replace) delivered_twice refl

replace_premise : (map (λ i. received_of (merged_twice Replace) (take i delivered_twice) 1) (6 ∷ 7 ∷ 9 ∷ 13 ∷ []) ≡ 0 ∷ 6 ∷ 6 ∷ 12 ∷ [])
    × (map (λ i. pending_of (merged_twice Replace) (take i delivered_twice) 1) (6 ∷ 7 ∷ 9 ∷ 13 ∷ []) ≡ 6 ∷ 0 ∷ 12 ∷ 0 ∷ [])
    × (map (λ i. inputs_of (merged_twice Replace) (take i delivered_twice) 1) (6 ∷ 13 ∷ []) ≡ (3 ∷ 6 ∷ []) ∷ (3 ∷ 6 ∷ 12 ∷ []) ∷ [])
    × (map (λ i. new_inputs_of (merged_twice Replace) (take i delivered_twice) 1) (6 ∷ 7 ∷ 9 ∷ 13 ∷ []) ≡ (3 ∷ 6 ∷ []) ∷ [] ∷ (12 ∷ []) ∷ [] ∷ [])
unfolding words words_of_history inputs_of new_inputs_of
replace_premise = (refl, refl, refl, refl)

-- ## 8 While a run is open the chain of its node does not change

-- queue t serial; queue q serial; block b1; target q t; block b2; block c; main; async q b1; async q b2; async t c
tree_plan : IsPlan moved
tree_plan = plan_from moved refl refl refl refl refl refl

tree_lawful : IsLawful moved (journal moved)
unfolding words
tree_lawful = lawful_row moved (journal moved) refl

-- b1 is open on q, whose target it asks to be t: its chain stays, and each object of it is active
tree_premise : (slice_get (journal moved) 8 ≡ Some (Acted 0 (run 1) 0))
    × (map (λ i. is_open (take i (journal moved)) (run 1)) (8 ∷ 9 ∷ []) ≡ true ∷ true ∷ [])
    × (map (λ i. request_of moved (take i (journal moved)) 2) (8 ∷ 9 ∷ []) ≡ None ∷ Some 1 ∷ [])
    × (map (λ i. chain_of_run moved (take i (journal moved)) (run 1)) (8 ∷ 9 ∷ []) ≡ (2 ∷ 0 ∷ []) ∷ (2 ∷ 0 ∷ []) ∷ [])
    × (map (is_active moved (take 9 (journal moved))) (2 ∷ 0 ∷ []) ≡ true ∷ true ∷ [])
unfolding words words_of_history
tree_premise = (refl, refl, refl, refl, refl)

-- when it has ended q is on t, with nothing open beneath q; and b2 starts beneath t
tree_moved : (map (λ i. target_of moved (take i (journal moved)) 2) (9 ∷ 10 ∷ 11 ∷ []) ≡ 0 ∷ 1 ∷ 1 ∷ [])
    × (map (λ i. open_beneath_of moved (take i (journal moved)) 2) (9 ∷ 10 ∷ 11 ∷ []) ≡ 1 ∷ 0 ∷ 1 ∷ [])
    × (chain_of_run moved (take 11 (journal moved)) (run 2) ≡ 2 ∷ 1 ∷ 0 ∷ [])
unfolding words words_of_history
tree_moved = (refl, refl, refl)

-- ## 9 A Deliver finds no run of its source open

-- the plan and the history are those of 7: events 6 and 11 are the Delivers of s, whose handler is open between them
delivers_premise : (map (slice_get delivered_twice) (6 ∷ 11 ∷ []) ≡ Some (Deliver 0 (o 1)) ∷ Some (Deliver 0 (o 1)) ∷ [])
    × (map (λ i. is_open (take i delivered_twice) (handler 1)) (6 ∷ 7 ∷ 10 ∷ 11 ∷ []) ≡ false ∷ true ∷ true ∷ false ∷ [])
unfolding words words_of_history
delivers_premise = (refl, refl)

-- while it is open no other worker delivers what b1 merged
delivers_refused : why (merged_twice Add) (take 9 delivered_twice) (Deliver 2 (o 1)) ≡ Some Excluded
unfolding words words_of_history
delivers_refused = refl

-- ## The facts beside the laws

-- main is open, worker 1 has started w and waits for g, which is empty for a moment at event 5
facts_plan : IsPlan emptied_once
facts_plan = plan_from emptied_once refl refl refl refl refl refl

abbrev emptied : List Event
emptied = waits_from_the_start ++ Acted 0 (run 0) 2 ∷ Acted 0 (run 0) 3 ∷ []

facts_lawful : IsLawful emptied_once emptied
unfolding words
facts_lawful = lawful_row emptied_once emptied refl

-- worker 0 has main, which is open and not parked; w is open and parked, and worker 1 has no run
one_run_premise : (has_run emptied_once emptied 0 (run 0) ≡ true)
    × (is_running emptied_once emptied (run 0) ≡ true)
    × (is_open emptied (run 1) ≡ true)
    × (is_running emptied_once emptied (run 1) ≡ false)
    × (has_run emptied_once emptied 1 (run 1) ≡ false)
unfolding words words_of_history
one_run_premise = (refl, refl, refl, refl, refl)

-- w may wake from event 5 on, though g is entered again, and its Wake is permitted to each worker that is free
wake_premise : (awaited_of emptied_once (take 6 emptied) 1 ≡ Some (Group (o 1) 4))
    × (map (λ i. has_come emptied_once (take i emptied) (Group (o 1) 4)) (5 ∷ 6 ∷ 7 ∷ []) ≡ false ∷ true ∷ true ∷ [])
    × (map (λ w. why emptied_once emptied (Wake w (b 1))) (0 ∷ 1 ∷ 2 ∷ []) ≡ Some Busy ∷ None ∷ None ∷ [])
unfolding words words_of_history
wake_premise = (refl, refl, refl)

-- where no run is open and unparked, each worker may start b1
free_workers : (running_of one_async main_runs ≡ 0) × (map (λ w. why one_async main_runs (Start w (b 1))) (0 ∷ 1 ∷ 63 ∷ []) ≡ None ∷ None ∷ None ∷ [])
unfolding words words_of_history
free_workers = (refl, refl)

-- source r read d on root; main; activate r; cancel r: bytes come between the two acts
abbrev reads_once : PlanView
reads_once = plan_of (record (source (codes "r") Read []) { path = codes "d" } ∷ []) (Activate (o 1) ∷ Cancel (o 1) ∷ []) []

abbrev fed : List Event
fed = Start 0 (b 0) ∷ Acted 0 (run 0) 0 ∷ Ready (o 1) 4 ∷ Acted 0 (run 0) 1 ∷ End 0 (b 0) ∷ []

fed_plan : IsPlan reads_once
fed_plan = plan_from reads_once refl refl refl refl refl refl

fed_lawful : IsLawful reads_once fed
unfolding words
fed_lawful = lawful_row reads_once fed refl

-- r is active from its activation on, and cancelled from its cancellation on; its feed is live between the two, and then dead
feed_premise : (map (λ i. is_active reads_once (take i fed) 1) (1 ∷ 2 ∷ 4 ∷ 5 ∷ []) ≡ false ∷ true ∷ true ∷ true ∷ [])
    × (map (λ i. is_cancelled reads_once (take i fed) 1) (2 ∷ 3 ∷ 4 ∷ 5 ∷ []) ≡ false ∷ false ∷ true ∷ true ∷ [])
    × (map (λ i. is_live_feed reads_once (take i fed) 1) (1 ∷ 2 ∷ 3 ∷ 4 ∷ []) ≡ false ∷ true ∷ true ∷ false ∷ [])
    × (map (λ i. is_dead_feed reads_once (take i fed) 1) (1 ∷ 2 ∷ 3 ∷ 4 ∷ 5 ∷ []) ≡ false ∷ false ∷ false ∷ true ∷ true ∷ [])
unfolding words words_of_history is_cancelled is_dead_feed
feed_premise = (refl, refl, refl, refl)

-- of a dead feed nothing is told any more, and after a halt of no feed
feed_refused : (map (why reads_once (take 4 fed)) (Ready (o 1) 4 ∷ FeedEnd (o 1) ∷ []) ≡ Some NotLive ∷ Some NotLive ∷ [])
    × (map (why reads_once (take 2 fed ++ Halt ∷ [])) (Ready (o 1) 4 ∷ FeedEnd (o 1) ∷ []) ≡ Some Over ∷ Some Over ∷ [])
unfolding words words_of_history
feed_refused = (refl, refl)
