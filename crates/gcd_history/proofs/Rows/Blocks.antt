-- Worked rows: blocks that are cancelled, awaited, or noted.
use Rattle.std.specs.Prelude.{◌≡◌, ℕ, List, [], ◌∷◌, Some, refl, codes}
use Rattle.gcd_plan.specs.PlanView.{PlanView}
use Rattle.gcd_plan.specs.declared.act.Act.TheVariants.{Async, Sync, GroupAsync, Notify, CancelBlock, WaitBlock, NotifyBlock}
use Rattle.gcd_plan.specs.declared.why.Why.TheVariants.{NotNext}
use Rattle.gcd_plan.specs.declared.work.How.TheVariants.{Bytes}
use Rattle.gcd_event.specs.declared.event.Event.TheVariants.{Start, Act as Acted}
use Rattle.gcd_history.specs.declared.state.State.TheVariants.{Live}
use Rattle.gcd_history.proofs.Rows.Samples.{words, o, b, run, serial, group, block, counting, plan_of, journal, checked, told, told_of, text}

abbrev three_bytes : List (List ℕ)
three_bytes = codes "abc" ∷ []

-- file f f; queue q serial; block b1 bytes f; block b2 bytes f; block c; main; async q b1; async q b2; cancel_block b2;
-- notify_block b2 q c
abbrev pub cancelled_second : PlanView
cancelled_second = plan_of (serial (codes "q") 0 ∷ [])
    (Async (o 1) (b 1) ∷ Async (o 1) (b 2) ∷ CancelBlock (b 2) ∷ NotifyBlock (b 2) (o 1) (b 3) ∷ [])
    (counting (codes "b1") Bytes 0 ∷ counting (codes "b2") Bytes 0 ∷ block (codes "c") [] ∷ [])

cancelled_block_ends_without_a_value : told cancelled_second three_bytes (journal cancelled_second)
    ≡ text (codes "start 0 main;act 0 main 0;act 0 main 1;act 0 main 2;act 0 main 3;end 0 main;start 0 b1;end 0 b1;start 0 b2;end 0 b2;start 0 c;end 0 c;events 12;b1 = 3;b2 cancelled;drained;")
unfolding words
cancelled_block_ends_without_a_value = refl

-- block b; main; wait_block b
wait_for_a_block_that_never_comes : told_of (plan_of [] (WaitBlock (b 1) ∷ []) (block (codes "b") [] ∷ []))
    ≡ text (codes "start 0 main;act 0 main 0;events 2;main waits for b;stuck;")
unfolding words
wait_for_a_block_that_never_comes = refl

-- queue q serial; block b; main; async q b; wait_block b; wait_block b
wait_for_a_block : told_of (plan_of (serial (codes "q") 0 ∷ []) (Async (o 1) (b 1) ∷ WaitBlock (b 1) ∷ WaitBlock (b 1) ∷ []) (block (codes "b") [] ∷ []))
    ≡ text (codes "start 0 main;act 0 main 0;act 0 main 1;start 0 b;end 0 b;wake 0 main;act 0 main 2;wake 0 main;end 0 main;events 9;drained;")
unfolding words
wait_for_a_block = refl

-- a block that cancels itself has started: file f f; queue q serial; block b bytes f; cancel_block b; main; async q b
abbrev pub cancels_itself : PlanView
cancels_itself = plan_of (serial (codes "q") 0 ∷ []) (Async (o 1) (b 1) ∷ []) (record (counting (codes "b") Bytes 0) { acts = CancelBlock (b 1) ∷ [] } ∷ [])

cancelled_too_late : told cancels_itself three_bytes (journal cancels_itself)
    ≡ text (codes "start 0 main;act 0 main 0;end 0 main;start 0 b;act 0 b 0;end 0 b;events 6;b = 3;drained;")
unfolding words
cancelled_too_late = refl

-- block c; block b; sync root c; main; cancel_block b; async root b
abbrev pub cancelled_first : PlanView
cancelled_first = plan_of [] (CancelBlock (b 2) ∷ Async (o 0) (b 2) ∷ []) (block (codes "c") [] ∷ block (codes "b") (Sync (o 0) (b 1) ∷ []) ∷ [])

cancelled_block_makes_no_act : told_of cancelled_first ≡ text (codes "start 0 main;act 0 main 0;act 0 main 1;end 0 main;start 0 b;end 0 b;events 6;drained;")
unfolding words
cancelled_block_makes_no_act = refl

act_of_a_cancelled_block : checked cancelled_first (Start 0 (b 0) ∷ Acted 0 (run 0) 0 ∷ Acted 0 (run 0) 1 ∷ Start 1 (b 2) ∷ Acted 1 (run 2) 0 ∷ []) ≡ (Some (4, NotNext), Live)
unfolding words
act_of_a_cancelled_block = refl

-- block b; block c; main; sync root b; notify_block b root c
noted_after_the_end : told_of (plan_of [] (Sync (o 0) (b 1) ∷ NotifyBlock (b 1) (o 0) (b 2) ∷ []) (block (codes "b") [] ∷ block (codes "c") [] ∷ []))
    ≡ text (codes "start 0 main;act 0 main 0;start 0 b;end 0 b;wake 0 main;act 0 main 1;end 0 main;start 0 c;end 0 c;events 9;drained;")
unfolding words
noted_after_the_end = refl

-- an End submits the notify blocks of its block, in the order of registration, and then those of its group:
-- group g; queue q serial; block b; block c; block d; block n; main; group_async g q b; notify g q n; notify_block b q d;
-- notify_block b q c
end_submits_both_kinds : told_of (plan_of (group (codes "g") ∷ serial (codes "q") 0 ∷ [])
    (GroupAsync (o 1) (o 2) (b 1) ∷ Notify (o 1) (o 2) (b 4) ∷ NotifyBlock (b 1) (o 2) (b 3) ∷ NotifyBlock (b 1) (o 2) (b 2) ∷ [])
    (block (codes "b") [] ∷ block (codes "c") [] ∷ block (codes "d") [] ∷ block (codes "n") [] ∷ []))
    ≡ text (codes "start 0 main;act 0 main 0;act 0 main 1;act 0 main 2;act 0 main 3;end 0 main;start 0 b;end 0 b;start 0 d;end 0 d;start 0 c;end 0 c;start 0 n;end 0 n;events 14;drained;")
unfolding words
end_submits_both_kinds = refl

-- a block that no End comes of: block b; block c; main; notify_block b root c
noted_of_a_block_that_never_comes : told_of (plan_of [] (NotifyBlock (b 1) (o 0) (b 2) ∷ []) (block (codes "b") [] ∷ block (codes "c") [] ∷ []))
    ≡ text (codes "start 0 main;act 0 main 0;end 0 main;events 3;drained;")
unfolding words
noted_of_a_block_that_never_comes = refl

-- one before the End and one after it: block b; block c; block d; main; notify_block b root c; async root b;
-- notify_block b root d
abbrev pub noted_twice : PlanView
noted_twice = plan_of [] (NotifyBlock (b 1) (o 0) (b 2) ∷ Async (o 0) (b 1) ∷ NotifyBlock (b 1) (o 0) (b 3) ∷ [])
    (block (codes "b") [] ∷ block (codes "c") [] ∷ block (codes "d") [] ∷ [])

noted_before_and_after : told_of noted_twice
    ≡ text (codes "start 0 main;act 0 main 0;act 0 main 1;act 0 main 2;end 0 main;start 0 b;end 0 b;start 0 c;end 0 c;start 0 d;end 0 d;events 11;drained;")
unfolding words
noted_before_and_after = refl
