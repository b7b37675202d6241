-- Worked rows: journals that others wrote, of one block on a serial queue.
use Rattle.std.specs.Prelude.{◌≡◌, List, [], ◌∷◌, ◌++◌, Some, None, refl, codes}
use Rattle.gcd_plan.specs.PlanView.{PlanView}
use Rattle.gcd_plan.specs.declared.act.Act.TheVariants.{Async}
use Rattle.gcd_plan.specs.declared.why.Why.TheVariants.{Over, Busy, NotOwn, NotNext, NotDue}
use Rattle.gcd_plan.specs.declared.work.How.TheVariants.{Lines}
use Rattle.gcd_event.specs.declared.event.Event.{Event}
use Rattle.gcd_event.specs.declared.event.Event.TheVariants.{Start, Act as Acted, End, Tick, Halt}
use Rattle.gcd_history.specs.declared.state.State.TheVariants.{Drained, Halted, Live}
use Rattle.gcd_history.proofs.Rows.Samples.{words, o, b, run, serial, counting, plan_of, refused, checked}

-- file log log.txt; queue q serial; block b1 lines log; main; async q b1
abbrev one_block : PlanView
one_block = plan_of (serial (codes "q") 0 ∷ []) (Async (o 1) (b 1) ∷ []) (counting (codes "b1") Lines 0 ∷ [])

-- main's three events, and all five that one worker makes of it
abbrev pub main_runs : List Event
main_runs = Start 0 (b 0) ∷ Acted 0 (run 0) 0 ∷ End 0 (b 0) ∷ []

abbrev pub whole : List Event
whole = main_runs ++ Start 0 (b 1) ∷ End 0 (b 1) ∷ []

without_the_first_event : refused one_block (Acted 0 (run 0) 0 ∷ End 0 (b 0) ∷ Start 0 (b 1) ∷ End 0 (b 1) ∷ []) ≡ Some (0, NotOwn)
unfolding words
without_the_first_event = refl

first_event_twice : refused one_block (Start 0 (b 0) ∷ whole) ≡ Some (1, Busy)
unfolding words
first_event_twice = refl

without_the_act : refused one_block (Start 0 (b 0) ∷ End 0 (b 0) ∷ Start 0 (b 1) ∷ End 0 (b 1) ∷ []) ≡ Some (1, NotNext)
unfolding words
without_the_act = refl

act_that_main_has_not : refused one_block (Start 0 (b 0) ∷ Acted 0 (run 0) 0 ∷ Acted 0 (run 0) 1 ∷ End 0 (b 0) ∷ []) ≡ Some (2, NotNext)
unfolding words
act_that_main_has_not = refl

end_by_another_worker : refused one_block (main_runs ++ Start 0 (b 1) ∷ End 1 (b 1) ∷ []) ≡ Some (4, NotOwn)
unfolding words
end_by_another_worker = refl

two_workers_side_by_side : checked one_block (Start 0 (b 0) ∷ Acted 0 (run 0) 0 ∷ Start 1 (b 1) ∷ End 0 (b 0) ∷ End 1 (b 1) ∷ []) ≡ (None, Drained)
unfolding words
two_workers_side_by_side = refl

front_is_live : checked one_block (main_runs ++ Start 0 (b 1) ∷ []) ≡ (None, Live)
unfolding words
front_is_live = refl

tick_without_a_timer : refused one_block (whole ++ Tick 5 ∷ []) ≡ Some (5, NotDue)
unfolding words
tick_without_a_timer = refl

halt_at_the_end : checked one_block (whole ++ Halt ∷ []) ≡ (None, Halted)
unfolding words
halt_at_the_end = refl

halt_twice : refused one_block (whole ++ Halt ∷ Halt ∷ []) ≡ Some (6, Over)
unfolding words
halt_twice = refl

end_before_start : refused one_block (main_runs ++ End 0 (b 1) ∷ Start 0 (b 1) ∷ []) ≡ Some (3, NotOwn)
unfolding words
end_before_start = refl
