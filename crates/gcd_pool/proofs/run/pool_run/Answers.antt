use Rattle.std.proofs.Common.{rules, sym, ap, subst, ◌∙◌, ◌≡◌, ◌<◌, ℕ, true, length}
use Rattle.std.specs.Prelude.{slice_index_or}
use Rattle.gcd_facts.proofs.Lists.{one_of}
use Rattle.gcd_machine.specs.Stands.{StandsFor}
use Rattle.gcd_refinement.specs.MachineView.{MachineView}
use Rattle.gcd_row.specs.Shapes.{shape_of, gives_of}
use Rattle.gcd_pool.specs.Hands.{Serving}
use Rattle.gcd_pool.specs.Admitted.{LedWithFront}
use Rattle.gcd_pool.proofs.Ends.{HandEnded, all_served}
use Rattle.gcd_pool.proofs.Leading.{led_front_where}
use Rattle.gcd_pool.proofs.Recording.{never_ok}
use Rattle.gcd_pool.proofs.Serves.{exit_served, other_way, ready_in, served_in, serving_in}
use Rattle.gcd_pool.proofs.Splices.{each_same, first_machine, spliced, spliced_length}
use Rattle.gcd_pool.proofs.run.pool_run.Goals as goal

pub run_hands-done-requires-clause-hands : goal.run_hands-done-requires-clause-hands
run_hands-done-requires-clause-hands g c lifetimes outlive k d low =
    ready_in (shape_of g.H.Handler.kind g.H.Handler.times g.H.Handler.total) (gives_of g.J.Job.gives) c.args.pool.now c.for_hands-team.result c.for_hands-team.ensures.same _
    (rw c.as_mut_slice.ensures.value (c.requires.hands k d (rw (sym c.as_mut_slice.ensures.value) low)))

pub run_hands-done-requires-clause-asks : goal.run_hands-done-requires-clause-asks
run_hands-done-requires-clause-asks g c lifetimes outlive d = rw c.as_mut_slice.ensures.value (c.requires.asks d)

pub returns-then-not-done-clause-hands : goal.returns-then-not-done-clause-hands
returns-then-not-done-clause-hands g c k d h =
    let shape = shape_of g.H.Handler.kind g.H.Handler.times g.H.Handler.total in let gives = gives_of g.J.Job.gives in let team = c.for_hands-team.result in
    serving_in shape gives team c.args.pool.now (other_way c.args.pool.now team c.for_hands-team.ensures.same) _ _
    (each_same (Serving shape gives team) c.args.hands.now.items c.as_mut_slice.result.now _ c.run_hands-done.new.hands c.as_mut_slice.ensures.value
    (spliced c.args.hands.now.len c.args.hands.now.items c.run_hands-done.new.hands (search rules) (search rules)) c.run_hands-done.ensures.hands k d h)

pub returns-then-not-done-clause-led : goal.returns-then-not-done-clause-led
returns-then-not-done-clause-led g c d =
    let same = spliced c.args.hands.now.len c.args.hands.now.items c.run_hands-done.new.hands (search rules) (search rules) in
    led_front_where g.P.Poller.tells g.C.Clock.tells g.P.Poller.state g.C.Clock.state (gives_of g.J.Job.gives) g.X.Sent.gives c.args.front.now _ (length c.args.hands.now.items ≡ 1) _ _ _ _ (λ one. c.for_hands-team.ensures.alone (search rules))
    (λ is. never_ok is.1)
    (subst (λ h. LedWithFront g.P.Poller.tells g.C.Clock.tells g.P.Poller.state g.C.Clock.state (gives_of g.J.Job.gives) g.X.Sent.gives c.args.front.now (c.for_hands-team.result.alone ≡ true) (c.run_hands-done.result ≡ true)
    (slice_index_or c.args.hands.now.items 0 d, c.args.intake.now, c.args.outside.now) (h, c.run_hands-done.new.intake, c.run_hands-done.new.outside))
    (sym (ap (λ l. slice_index_or l 0 d) same)) (rw (sym c.as_mut_slice.ensures.value) (c.run_hands-done.ensures.led d)))

pub see_the_ends-requires : goal.see_the_ends-requires
see_the_ends-requires g c k d low =
    let shape = shape_of g.H.Handler.kind g.H.Handler.times g.H.Handler.total in let gives = gives_of g.J.Job.gives in let team = c.for_hands-team.result in
    (each_same (Serving shape gives team) c.args.hands.now.items c.as_mut_slice.result.now _ c.run_hands-done.new.hands c.as_mut_slice.ensures.value
    (spliced c.args.hands.now.len c.args.hands.now.items c.run_hands-done.new.hands (search rules) (search rules)) c.run_hands-done.ensures.hands k d
    (subst (λ (n : ℕ). k < n) (spliced_length c.args.hands.now.len c.args.hands.now.items c.run_hands-done.new.hands (search rules) (search rules)) low)).of

pub returns-clause-served : goal.returns-clause-served
returns-clause-served g c k d h =
    let same = spliced c.args.hands.now.len c.args.hands.now.items c.run_hands-done.new.hands (search rules) (search rules) in
    let shape = shape_of g.H.Handler.kind g.H.Handler.times g.H.Handler.total in let gives = gives_of g.J.Job.gives in let team = c.for_hands-team.result in
    served_in shape gives team c.args.pool.now (other_way c.args.pool.now team c.for_hands-team.ensures.same) _ _
    (all_served shape gives team c.args.hands.now.items _ c.see_the_ends.new.hands.items
    (each_same (Serving shape gives team) c.args.hands.now.items c.as_mut_slice.result.now _ c.run_hands-done.new.hands c.as_mut_slice.ensures.value same c.run_hands-done.ensures.hands)
    c.see_the_ends.ensures.first (spliced_length c.args.hands.now.len c.args.hands.now.items c.run_hands-done.new.hands (search rules) (search rules))
    (λ e. subst (λ l. HandEnded (slice_index_or l 0 e)) (sym same) ((c.run_hands-done.ensures.led e).led.ended c.if-not-done.false)) c.see_the_ends.ensures.rest k d h)

pub returns-clause-hands : goal.returns-clause-hands
returns-clause-hands g c k d h = (returns-clause-served g c k d h).serving

pub returns-clause-led : goal.returns-clause-led
returns-clause-led g c d =
    let same = spliced c.args.hands.now.len c.args.hands.now.items c.run_hands-done.new.hands (search rules) (search rules) in
    led_front_where g.P.Poller.tells g.C.Clock.tells g.P.Poller.state g.C.Clock.state (gives_of g.J.Job.gives) g.X.Sent.gives c.args.front.now _ (length c.args.hands.now.items ≡ 1) _ _ _ _ (λ one. c.for_hands-team.ensures.alone (search rules))
    (λ is. c.if-not-done.false)
    (subst (λ h. LedWithFront g.P.Poller.tells g.C.Clock.tells g.P.Poller.state g.C.Clock.state (gives_of g.J.Job.gives) g.X.Sent.gives c.args.front.now (c.for_hands-team.result.alone ≡ true) (c.run_hands-done.result ≡ true)
    (slice_index_or c.args.hands.now.items 0 d, c.args.intake.now, c.args.outside.now) (h, c.run_hands-done.new.intake, c.run_hands-done.new.outside))
    (sym (c.see_the_ends.ensures.first d ∙ ap (λ l. slice_index_or l 0 d) same)) (rw (sym c.as_mut_slice.ensures.value) (c.run_hands-done.ensures.led d)))

pub returns-clause-exit : goal.returns-clause-exit
returns-clause-exit g c d =
    exit_served (shape_of g.H.Handler.kind g.H.Handler.times g.H.Handler.total) (gives_of g.J.Job.gives) c.args.pool.now _ _ c.exit_of.result (returns-clause-served g c 0 d (search rules))
    (λ most plan h stands ended.
    c.exit_of.ensures most plan h
    (subst (λ (m : MachineView). StandsFor m plan h)
    (first_machine c.see_the_ends.new.hands.items d c.index.result.now c.machine.result.now
    (subst (λ (n : ℕ). 0 < n)
    (sym (c.see_the_ends.ensures.count ∙ spliced_length c.args.hands.now.len c.args.hands.now.items c.run_hands-done.new.hands (search rules) (search rules)))
    (search rules)) c.index.ensures c.machine.ensures) stands) ended)

pub returns-then-not-done-clause-same : goal.returns-then-not-done-clause-same
returns-then-not-done-clause-same g c = (returns-then-not-done-clause-led g c (one_of c.args.hands.now.items (search rules))).led.same

pub returns-clause-same : goal.returns-clause-same
returns-clause-same g c = (returns-clause-led g c (one_of c.args.hands.now.items (search rules))).led.same
