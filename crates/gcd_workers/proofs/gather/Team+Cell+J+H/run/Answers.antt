use Rattle.std.proofs.Common.{length, ap, rules, subst}
use Rattle.std.specs.List.{list_any}
use Rattle.std.specs.Prelude.{slice_index_or}
use Rattle.gcd_facts.proofs.Lists.{one_of}
use Rattle.gcd_history.specs.Ends.{HasEnded}
use Rattle.gcd_history.specs.Facts.{is_of_callers}
use Rattle.gcd_history.specs.Intake.{AcceptsOf}
use Rattle.gcd_outer.specs.Outside.{ClockState, Seen}
use Rattle.gcd_outer.specs.Tells.{PollerState}
use Rattle.gcd_turn.specs.Asked.{KeepsListens}
use Rattle.gcd_turn.specs.Outsides.{Faced}
use Rattle.gcd_loop.specs.Going.{GoesOn}
use Rattle.gcd_loop.proofs.Steps.{kept_as, on_as, run_on}
use Rattle.gcd_row.specs.Passes.{view}
use Rattle.gcd_row.specs.Shapes.{gives_of, shape_of}
use Rattle.gcd_row.specs.declared.view.Terms.{Terms}
use Rattle.gcd_pool.proofs.Admitting.{none_admitted}
use Rattle.gcd_workers.specs.Teams.{bounds_on}
use Rattle.gcd_workers.proofs.Runs.{team_ran}
use Rattle.gcd_workers.proofs.gather.Team+Cell+J+H.run.Goals as goal

pub go_on-requires-clause-admitted : goal.go_on-requires-clause-admitted
go_on-requires-clause-admitted g c = λ lifetimes outlive d.
    none_admitted (gives_of g.J.Job.gives) g.X.Sent.gives c.args.front.now (view (slice_index_or c.args.self.hands.items 0 d).pass) c.args.intake.now
    (ap (list_any is_of_callers) (c.requires.first d)) c.requires.untaken

pub returns-in-Ok-clause-ran : goal.returns-in-Ok-clause-ran
returns-in-Ok-clause-ran g c =
    let d = one_of c.args.self.hands.items c.requires.some.0 in
    let board = c.args.self.pool.now.board.now in let bounds = bounds_on board in
    let pass = c.in-Ok.left.0 in
    let h = (view (slice_index_or c.args.self.hands.items 0 d).pass).seen in let k = (view pass).seen in
    let first = c.new-outside.result in let after = c.go_on.new.outside in
    let told : g.row.P.Denot → Seen PollerState = λ (p : g.row.P.Denot). record { tells = g.P.Poller.tells; before = g.P.Poller.state p; after = g.P.Poller.state after.poller.now } in
    let timed : Seen ClockState = record { tells = g.C.Clock.tells; before = g.C.Clock.state first.clock.now; after = g.C.Clock.state after.clock.now } in
    let face : g.row.P.Denot → Faced = λ (p : g.row.P.Denot). record { poller = told p; clock = timed; before = first.outlook; after = after.outlook } in
    let going : GoesOn bounds h k (face c.args.poller.now) =
    subst (λ (p : g.row.P.Denot). GoesOn bounds h k (face p)) c.new-outside.ensures.poller (c.in-Ok.ensures.going d) in
    let ended : HasEnded bounds.most bounds.plan k = subst (λ (t : Terms _). HasEnded t.limits.most t.plan k) c.in-Ok.ensures.pass.terms c.in-Ok.ensures.led.ended in
    team_ran (shape_of g.H.Handler.kind g.H.Handler.times g.H.Handler.total) (gives_of g.J.Job.gives) board (length c.args.self.hands.items)
    (AcceptsOf c.args.front.now.senders) h pass _ _ c.in-Ok.ensures.pass c.in-Ok.ensures.led (c.requires.first d)
    (on_as g.P.Poller.state g.C.Clock.state bounds.most bounds.plan h k g.P.Poller.tells g.C.Clock.tells c.args.poller.now after.poller.now c.args.clock.now after.clock.now
    (search rules) (search rules)
    (run_on bounds h k (face c.args.poller.now) (g.C.Clock.state c.args.clock.now) c.new-outside.ensures.first ended going))
    (λ one. c.in-Ok.ensures.follows one d) c.in-Ok.ensures.admitted.senders c.requires.unwatched

pub returns-in-Ok-clause-kept : goal.returns-in-Ok-clause-kept
returns-in-Ok-clause-kept g c =
    kept_as g.P.Poller.state g.P.Poller.tells c.args.poller.now c.go_on.new.outside.poller.now (search rules)
    (subst (λ (p : g.row.P.Denot). KeepsListens g.P.Poller.tells (g.P.Poller.state p) (g.P.Poller.state c.go_on.new.outside.poller.now)) c.new-outside.ensures.poller
    c.go_on.ensures.kept)

pub returns-in-Err-clause-kept : goal.returns-in-Err-clause-kept
returns-in-Err-clause-kept g c =
    kept_as g.P.Poller.state g.P.Poller.tells c.args.poller.now c.go_on.new.outside.poller.now (search rules)
    (subst (λ (p : g.row.P.Denot). KeepsListens g.P.Poller.tells (g.P.Poller.state p) (g.P.Poller.state c.go_on.new.outside.poller.now)) c.new-outside.ensures.poller
    c.go_on.ensures.kept)
