-- Worked rows: sources, timers and feeds.
use Rattle.std.specs.Prelude.{◌≡◌, List, [], ◌∷◌, Some, None, refl, codes}
use Rattle.gcd_plan.specs.PlanView.{PlanView}
use Rattle.gcd_plan.specs.declared.act.Act.TheVariants.{Async, Suspend, Resume, Activate, Merge, Cancel, Release}
use Rattle.gcd_plan.specs.declared.kind.Kind.TheVariants.{Add, Or, Timer, Read}
use Rattle.gcd_plan.specs.declared.work.How.TheVariants.{Lines}
use Rattle.gcd_event.specs.declared.event.Event.{Event}
use Rattle.gcd_event.specs.declared.event.Event.TheVariants.{Start, Act as Acted, End, Deliver, DeliverEnd, Tick, Ready, FeedEnd, Halt}
use Rattle.gcd_history.proofs.Rows.Samples.{words, o, b, run, source, block, counting, plan_of, journal_with, refused, text, told, told_of, told_with, reported}

-- source s add on root; main; merge s 5; resume s
resume_activates_a_source : reported (plan_of (source (codes "s") Add [] ∷ []) (Merge (o 1) 5 ∷ Resume (o 1) ∷ []) [])
    ≡ text (codes "s received 5 in 1 pending 0;drained;")
unfolding words
resume_activates_a_source = refl

-- source s add on root; main; activate s; suspend s; merge s 5; merge s 0; merge s 7; resume s
abbrev held_source : PlanView
held_source = plan_of (source (codes "s") Add [] ∷ [])
    (Activate (o 1) ∷ Suspend (o 1) ∷ Merge (o 1) 5 ∷ Merge (o 1) 0 ∷ Merge (o 1) 7 ∷ Resume (o 1) ∷ [])
    []

merges_coalesce_while_a_source_is_held : told_of held_source
    ≡ text (codes "start 0 main;act 0 main 0;act 0 main 1;act 0 main 2;act 0 main 3;act 0 main 4;act 0 main 5;end 0 main;deliver 0 s;deliver_end 0 s;events 10;s received 12 in 1 pending 0;drained;")
unfolding words
merges_coalesce_while_a_source_is_held = refl

-- source s or on root; main; merge s 3; merge s 6; activate s
or_source_joins_bits : reported (plan_of (source (codes "s") Or [] ∷ []) (Merge (o 1) 3 ∷ Merge (o 1) 6 ∷ Activate (o 1) ∷ []) [])
    ≡ text (codes "s received 7 in 1 pending 0;drained;")
unfolding words
or_source_joins_bits = refl

-- source u add on root; source s add on root; handler s; merge u 2; main; activate s; activate u; merge s 3
abbrev merges_on : PlanView
merges_on = plan_of (source (codes "u") Add [] ∷ source (codes "s") Add (Merge (o 1) 2 ∷ []) ∷ [])
    (Activate (o 2) ∷ Activate (o 1) ∷ Merge (o 2) 3 ∷ [])
    []

handler_merges_into_another_source : told_of merges_on
    ≡ text (codes "start 0 main;act 0 main 0;act 0 main 1;act 0 main 2;end 0 main;deliver 0 s;act 0 s 0;deliver_end 0 s;deliver 0 u;deliver_end 0 u;events 10;u received 2 in 1 pending 0;s received 3 in 1 pending 0;drained;")
unfolding words
handler_merges_into_another_source = refl

-- source s add on root; main; release s
release_of_an_inactive_source : reported (plan_of (source (codes "s") Add [] ∷ []) (Release (o 1) ∷ []) [])
    ≡ text (codes "s received 0 in 0 pending 0;misuse main 0 M7;")
unfolding words
release_of_an_inactive_source = refl

-- source t timer 10 5 on root; until 21; main; activate t
abbrev timed : PlanView
timed = record (plan_of (source (codes "t") (Timer 10 5) [] ∷ []) (Activate (o 1) ∷ []) []) { until = 21 }

timer_ticks_until_the_end : told_with timed (Tick 10 ∷ Tick 15 ∷ Tick 20 ∷ [])
    ≡ text (codes "start 0 main;act 0 main 0;end 0 main;tick 10;deliver 0 t;deliver_end 0 t;tick 15;deliver 0 t;deliver_end 0 t;tick 20;deliver 0 t;deliver_end 0 t;events 12;t received 3 in 3 pending 0;drained;")
unfolding words
timer_ticks_until_the_end = refl

-- the same with a clock that goes on by 6 at each question
abbrev ticks_of_six : List Event
ticks_of_six = Start 0 (b 0) ∷ Acted 0 (run 0) 0 ∷ End 0 (b 0) ∷ Tick 12 ∷ Tick 18 ∷ Tick 21 ∷ Deliver 0 (o 1) ∷ DeliverEnd 0 (o 1) ∷ []

due_times_coalesce : told timed [] ticks_of_six
    ≡ text (codes "start 0 main;act 0 main 0;end 0 main;tick 12;tick 18;tick 21;deliver 0 t;deliver_end 0 t;events 8;t received 3 in 1 pending 0;drained;")
unfolding words
due_times_coalesce = refl

due_times_may_coalesce : refused timed ticks_of_six ≡ None
unfolding words
due_times_may_coalesce = refl

-- source t timer 10 5 on root; handler t; cancel t; block c; cancelled t c; until 21; main; activate t
abbrev cancels_itself : PlanView
cancels_itself = record (plan_of (record (source (codes "t") (Timer 10 5) (Cancel (o 1) ∷ [])) { cancel = Some (b 1) } ∷ []) (Activate (o 1) ∷ []) (block (codes "c") [] ∷ [])) { until = 21 }

cancelled_timer_has_no_further_due_time : told_with cancels_itself (Tick 10 ∷ [])
    ≡ text (codes "start 0 main;act 0 main 0;end 0 main;tick 10;deliver 0 t;act 0 t 0;deliver_end 0 t;start 0 c;end 0 c;events 9;t received 1 in 1 pending 0;drained;")
unfolding words
cancelled_timer_has_no_further_due_time = refl

-- source r read d on root; main; activate r
abbrev reads : PlanView
reads = plan_of (record (source (codes "r") Read []) { path = codes "d" } ∷ []) (Activate (o 1) ∷ []) []

feed_tells_twice_and_ends : told_with reads (Ready (o 1) 4 ∷ Ready (o 1) 6 ∷ FeedEnd (o 1) ∷ [])
    ≡ text (codes "start 0 main;act 0 main 0;end 0 main;ready r 4;deliver 0 r;deliver_end 0 r;ready r 6;deliver 0 r;deliver_end 0 r;feed_end r;events 10;r received 10 in 2 pending 0;drained;")
unfolding words
feed_tells_twice_and_ends = refl

failing_feed_halts : told_with reads (Ready (o 1) 4 ∷ Halt ∷ [])
    ≡ text (codes "start 0 main;act 0 main 0;end 0 main;ready r 4;deliver 0 r;deliver_end 0 r;halt;events 7;r received 4 in 1 pending 0;read fault;")
unfolding words
failing_feed_halts = refl

feed_that_falls_silent_ends : told_with reads (Ready (o 1) 5 ∷ FeedEnd (o 1) ∷ [])
    ≡ text (codes "start 0 main;act 0 main 0;end 0 main;ready r 5;deliver 0 r;deliver_end 0 r;feed_end r;events 7;r received 5 in 1 pending 0;drained;")
unfolding words
feed_that_falls_silent_ends = refl

-- the first tell ends the feed
abbrev ended_at_once : List Event
ended_at_once = Start 0 (b 0) ∷ Acted 0 (run 0) 0 ∷ End 0 (b 0) ∷ Ready (o 1) 5 ∷ FeedEnd (o 1) ∷ []

ended_feed_keeps_what_is_pending : told reads [] ended_at_once
    ≡ text (codes "start 0 main;act 0 main 0;end 0 main;ready r 5;feed_end r;events 5;r received 0 in 0 pending 5;drained;")
unfolding words
ended_feed_keeps_what_is_pending = refl

feed_may_end_at_once : refused reads ended_at_once ≡ None
unfolding words
feed_may_end_at_once = refl

-- the watch fails
abbrev unwatched : List Event
unwatched = Start 0 (b 0) ∷ Acted 0 (run 0) 0 ∷ Halt ∷ []

failing_watch_halts : told reads [] unwatched
    ≡ text (codes "start 0 main;act 0 main 0;halt;events 3;r received 0 in 0 pending 0;read fault;")
unfolding words
failing_watch_halts = refl

halt_may_come_at_any_time : refused reads unwatched ≡ None
unfolding words
halt_may_come_at_any_time = refl

-- file f f.txt; source r read d on root; block b lines f; main; async root b; activate r
abbrev reads_beside_a_block : PlanView
reads_beside_a_block = plan_of (record (source (codes "r") Read []) { path = codes "d" } ∷ [])
    (Async (o 0) (b 1) ∷ Activate (o 1) ∷ [])
    (counting (codes "b") Lines 0 ∷ [])

feed_beside_a_block : told reads_beside_a_block (text (codes "a;") ∷ []) (journal_with reads_beside_a_block (Ready (o 1) 4 ∷ FeedEnd (o 1) ∷ []))
    ≡ text (codes "start 0 main;act 0 main 0;act 0 main 1;end 0 main;start 0 b;end 0 b;ready r 4;deliver 0 r;deliver_end 0 r;feed_end r;events 10;b = 1;r received 4 in 1 pending 0;drained;")
unfolding words
feed_beside_a_block = refl
