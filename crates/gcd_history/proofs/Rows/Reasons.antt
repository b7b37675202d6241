-- Worked rows: each reason why an event may not come, and of two reasons that both hold which is told.
use Rattle.std.specs.Prelude.{◌≡◌, List, [], ◌∷◌, ◌++◌, map, Option, Some, None, refl, codes}
use Rattle.gcd_plan.specs.PlanView.{PlanView}
use Rattle.gcd_plan.specs.declared.act.Act.TheVariants.{Async, Barrier, Suspend, Resume, Activate, Merge, Retain}
use Rattle.gcd_plan.specs.declared.kind.Kind.TheVariants.{Add, Read}
use Rattle.gcd_plan.specs.declared.why.Why.{Why}
use Rattle.gcd_plan.specs.declared.why.Why.TheVariants.{Over, NoSuch, Busy, Unready, Behind, NotFree, Excluded, NotOwn, NotNext, IsMisuse, NotParked, NotLive, NotMisuse}
use Rattle.gcd_event.specs.declared.event.Event.{Event}
use Rattle.gcd_event.specs.declared.event.Event.TheVariants.{Start, Act as Acted, Wake, End, Deliver, DeliverEnd, Tick, Ready, FeedEnd, Misuse, Halt}
use Rattle.gcd_history.specs.History.{why}
use Rattle.gcd_history.proofs.Rows.Samples.{words, o, b, run, serial, concurrent, source, block, plan_of, refused}
use Rattle.gcd_history.proofs.Rows.SampleLaws.{words_of_history}

-- queue q serial; source s add on q; source f read; queue t serial; queue c concurrent on t; blocks b1 to b5;
-- main; async c b1; barrier c b2; async q b3; async q b4; async q b5; suspend q; activate s; merge s 5; resume t
abbrev many_reasons : PlanView
many_reasons = plan_of
    (serial (codes "q") 0
    ∷ record (source (codes "s") Add (Retain (o 1) ∷ [])) { target = o 1 }
    ∷ record (source (codes "f") Read []) { path = codes "f" }
    ∷ serial (codes "t") 0 ∷ concurrent (codes "c") 4 ∷ [])
    (Async (o 5) (b 1) ∷ Barrier (o 5) (b 2) ∷ Async (o 1) (b 3) ∷ Async (o 1) (b 4) ∷ Async (o 1) (b 5)
    ∷ Suspend (o 1) ∷ Activate (o 2) ∷ Merge (o 2) 5 ∷ Resume (o 4) ∷ [])
    (block (codes "b1") [] ∷ block (codes "b2") [] ∷ block (codes "b3") [] ∷ block (codes "b4") [] ∷ block (codes "b5") [] ∷ [])

-- why each of the events may not come next
abbrev told : List Event → List Event → List (Option Why)
told h events = map (why many_reasons h) events

-- main runs, by worker 0
abbrev begun : List Event
begun = Start 0 (b 0) ∷ []

-- main has made its acts but the last, worker 1 runs b3 on q, which is suspended, and worker 2 runs b1 on c
abbrev busy : List Event
busy = begun ++ Acted 0 (run 0) 0 ∷ Acted 0 (run 0) 1 ∷ Acted 0 (run 0) 2 ∷ Acted 0 (run 0) 3 ∷ Acted 0 (run 0) 4
    ∷ Start 1 (b 3) ∷ Start 2 (b 1) ∷ Acted 0 (run 0) 5 ∷ Acted 0 (run 0) 6 ∷ Acted 0 (run 0) 7 ∷ []

busy_is_lawful : refused many_reasons busy ≡ None
unfolding words
busy_is_lawful = refl

-- ## Reasons that stand alone

no_such_block : told [] (Start 0 (b 6) ∷ []) ≡ Some NoSuch ∷ []
unfolding words words_of_history
no_such_block = refl

-- the act is a misuse now, and the misuse's code is another
misuse_or_act : told busy (Acted 0 (run 0) 8 ∷ Misuse 0 2 (run 0) 8 ∷ Misuse 0 1 (run 0) 8 ∷ []) ≡ Some IsMisuse ∷ Some NotMisuse ∷ None ∷ []
unfolding words words_of_history
misuse_or_act = refl

-- main runs, so it is not parked; f is not active, so no byte of it comes
not_parked_not_live : told begun (Wake 1 (b 0) ∷ Ready (o 3) 5 ∷ FeedEnd (o 3) ∷ []) ≡ Some NotParked ∷ Some NotLive ∷ Some NotLive ∷ []
unfolding words words_of_history
not_parked_not_live = refl

-- ## Of two that hold the first is told

-- over before no such
over_first : told (begun ++ Halt ∷ []) (Start 0 (b 6) ∷ []) ≡ Some Over ∷ []
unfolding words words_of_history
over_first = refl

-- no such before busy, not own, not due and not live
no_such_first : told begun (Start 0 (b 6) ∷ Acted 1 (run 6) 0 ∷ Tick 0 ∷ Ready (o 1) 5 ∷ []) ≡ Some NoSuch ∷ Some NoSuch ∷ Some NoSuch ∷ Some NoSuch ∷ []
unfolding words words_of_history
no_such_first = refl

-- busy before unready, and before not parked
busy_first : told begun (Start 0 (b 1) ∷ Deliver 0 (o 2) ∷ Wake 0 (b 0) ∷ []) ≡ Some Busy ∷ Some Busy ∷ Some Busy ∷ []
unfolding words words_of_history
busy_first = refl

-- unready before not free, since unready and behind never hold together in a lawful history: b3 has started on the suspended q, and nothing is pending at s, which is inactive
unready_first : (told busy (Start 3 (b 3) ∷ []) ≡ Some Unready ∷ []) × (told begun (Deliver 1 (o 2) ∷ []) ≡ Some Unready ∷ [])
unfolding words words_of_history
unready_first = (refl, refl)

-- behind before not free: b4 stands before b5 on the suspended q
behind_first : told busy (Start 3 (b 5) ∷ []) ≡ Some Behind ∷ []
unfolding words words_of_history
behind_first = refl

-- not free before excluded: q is suspended, and b3 is open on it
not_free_first : told busy (Start 3 (b 4) ∷ Deliver 3 (o 2) ∷ []) ≡ Some NotFree ∷ Some NotFree ∷ []
unfolding words words_of_history
not_free_first = refl

-- excluded before fenced: b1 is open on c, beneath t, and b2 is a barrier
excluded_first : told busy (Start 3 (b 2) ∷ []) ≡ Some Excluded ∷ []
unfolding words words_of_history
excluded_first = refl

-- not own before not next
not_own_first : told begun (Acted 1 (run 0) 1 ∷ End 1 (b 0) ∷ DeliverEnd 0 (o 2) ∷ Misuse 1 1 (run 0) 1 ∷ []) ≡ Some NotOwn ∷ Some NotOwn ∷ Some NotOwn ∷ Some NotOwn ∷ []
unfolding words words_of_history
not_own_first = refl

-- not next before is misuse, and before not misuse
not_next_first : told begun (Acted 0 (run 0) 8 ∷ Misuse 0 1 (run 0) 1 ∷ []) ≡ Some NotNext ∷ Some NotNext ∷ []
unfolding words words_of_history
not_next_first = refl
