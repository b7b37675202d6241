use Rattle.std.proofs.Common.{◌∙◌, [], ℕ, List, ap, rules, subst}
use Rattle.gcd_event.specs.declared.event.Event.{Event}
use Rattle.gcd_outer.specs.Outside.{ClockState, Seen}
use Rattle.gcd_outer.specs.Tells.{PollerState}
use Rattle.gcd_history.specs.Ends.{HasEnded}
use Rattle.gcd_loop.specs.Going.{GoesOn}
use Rattle.gcd_loop.specs.Recorded.{Bounds}
use Rattle.gcd_loop.proofs.Steps.{kept_as, on_as, run_on}
use Rattle.gcd_turn.specs.Asked.{KeepsListens}
use Rattle.gcd_turn.specs.Outsides.{Faced}
use Rattle.gcd_rounds.proofs.Rans.{rounds_ran}
use Rattle.gcd_rounds.proofs.rounds.ran.Goals as goal

pub returns-clause-ran : goal.returns-clause-ran
returns-clause-ran g c =
    let pt = g.P.Poller.tells in let ct = g.C.Clock.tells in let ps = g.P.Poller.state in let cs = g.C.Clock.state in
    let plan = c.args.plan.now in
    let first_run = c.in_ok-run.run' in
    let bounds : Bounds = record { plan = plan; most = first_run.terms.most } in
    let o = c.go_round-gone.new.round in let h = o.run.journal.items in
    let first = c.new-outside.result in let after = c.go_round-gone.new.outside in
    let told : g.row.P.Denot → Seen PollerState = λ (p : g.row.P.Denot). record { tells = pt; before = ps p; after = ps after.poller.now } in
    let timed : Seen ClockState = record { tells = ct; before = cs first.clock.now; after = cs after.clock.now } in
    let face : g.row.P.Denot → Faced = λ (p : g.row.P.Denot). record { poller = told p; clock = timed; before = first.outlook; after = after.outlook } in
    let goes : GoesOn bounds [] h (face first.poller.now) =
    subst (λ (s : List Event). GoesOn bounds s h (face first.poller.now)) c.in_ok-run.ensures.journal c.in_ok-gone.ensures.going in
    let going : GoesOn bounds [] h (face c.args.poller.now) = subst (λ (p : g.row.P.Denot). GoesOn bounds [] h (face p)) c.new-outside.ensures.poller goes in
    let most = c.in_ok-run.ensures.most in
    let all : GoesOn (record { plan = plan; most = c.args.most }) [] h (face c.args.poller.now) =
    subst (λ (n : ℕ). GoesOn (record { plan = plan; most = n }) [] h (face c.args.poller.now)) most going in
    let ended : HasEnded c.args.most plan h = subst (λ (n : ℕ). HasEnded n plan h) most c.in_ok-gone.ensures.ended in
    rounds_ran g.J.Job.gives g.H.Handler.kind g.H.Handler.times g.H.Handler.total o c.args.most plan c.args.workers c.end_of-end.result.journal.items _ _
    (ap (λ v. v.items) c.end_of-end.ensures.journal)
    (ap (λ t. t.most) c.go_round-gone.ensures.terms ∙ most) c.go_round-gone.ensures.plan
    (ap (λ t. t.workers) c.go_round-gone.ensures.terms ∙ c.in_ok-run.ensures.workers) c.in_ok-gone.ensures.ready c.requires.unwatched
    (on_as ps cs c.args.most plan [] h pt ct c.args.poller.now after.poller.now c.args.clock.now after.clock.now (search rules) (search rules)
    (run_on (record { plan = plan; most = c.args.most }) [] h (face c.args.poller.now) (cs c.args.clock.now) c.new-outside.ensures.first ended all))

pub returns-clause-listens : goal.returns-clause-listens
returns-clause-listens g c =
    kept_as g.P.Poller.state g.P.Poller.tells c.args.poller.now c.go_round-gone.new.outside.poller.now (search rules)
    (subst (λ (p : g.row.P.Denot). KeepsListens g.P.Poller.tells (g.P.Poller.state p) (g.P.Poller.state c.go_round-gone.new.outside.poller.now)) c.new-outside.ensures.poller
    c.go_round-gone.ensures.listens)

pub returns-in_err-gone-clause-listens : goal.returns-in_err-gone-clause-listens
returns-in_err-gone-clause-listens g c =
    kept_as g.P.Poller.state g.P.Poller.tells c.args.poller.now c.go_round-gone.new.outside.poller.now (search rules)
    (subst (λ (p : g.row.P.Denot). KeepsListens g.P.Poller.tells (g.P.Poller.state p) (g.P.Poller.state c.go_round-gone.new.outside.poller.now)) c.new-outside.ensures.poller
    c.go_round-gone.ensures.listens)
