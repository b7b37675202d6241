use Rattle.std.proofs.Common.{[], rules, subst}
use Rattle.gcd_outer.specs.Outside.{ClockState, Seen}
use Rattle.gcd_outer.specs.Tells.{PollerState}
use Rattle.gcd_turn.specs.Asked.{KeepsListens}
use Rattle.gcd_turn.specs.Outsides.{Faced}
use Rattle.gcd_loop.proofs.Steps.{kept_as}
use Rattle.gcd_workers.specs.Ran.{GoesOnOverFiles}
use Rattle.gcd_workers.specs.declared.over.Over.{Over}
use Rattle.gcd_workers.proofs.GoingOn.{ran_as, went_whole}
use Rattle.gcd_workers.proofs.workers.run_workers.Goals as goal

pub returns-in-Ok-run_on-clause-ran : goal.returns-in-Ok-run_on-clause-ran
returns-in-Ok-run_on-clause-ran g c =
    let over = c.args.over in let o = c.in-Ok-run_on.outcome in
    let first = c.new-outside.result in let after = c.run_on.new.outside in
    let told : g.row.P.Denot → Seen PollerState = λ (p : g.row.P.Denot). record { tells = g.P.Poller.tells; before = g.P.Poller.state p; after = g.P.Poller.state after.poller.now } in
    let timed : Seen ClockState = record { tells = g.C.Clock.tells; before = g.C.Clock.state first.clock.now; after = g.C.Clock.state after.clock.now } in
    let face : g.row.P.Denot → Faced = λ (p : g.row.P.Denot). record { poller = told p; clock = timed; before = first.outlook; after = after.outlook } in
    let went : GoesOnOverFiles over c.args.workers [] (face c.args.poller.now) o =
    subst (λ (p : g.row.P.Denot). GoesOnOverFiles over c.args.workers [] (face p) o) c.new-outside.ensures.poller
    (subst (λ (x : Over). GoesOnOverFiles x c.args.workers [] (face first.poller.now) o) c.in-Ok.ensures.over c.in-Ok-run_on.ensures.went) in
    ran_as g.P.Poller.state g.C.Clock.state over c.args.workers o g.P.Poller.tells g.C.Clock.tells c.args.poller.now after.poller.now c.args.clock.now after.clock.now
    (search rules) (search rules)
    (went_whole over c.args.workers (face c.args.poller.now) o (g.C.Clock.state c.args.clock.now) c.new-outside.ensures.first c.requires.unwatched went)

pub returns-in-Ok-run_on-clause-kept : goal.returns-in-Ok-run_on-clause-kept
returns-in-Ok-run_on-clause-kept g c =
    kept_as g.P.Poller.state g.P.Poller.tells c.args.poller.now c.run_on.new.outside.poller.now (search rules)
    (subst (λ (p : g.row.P.Denot). KeepsListens g.P.Poller.tells (g.P.Poller.state p) (g.P.Poller.state c.run_on.new.outside.poller.now)) c.new-outside.ensures.poller
    c.run_on.ensures.kept)

pub returns-in-Err-clause-kept : goal.returns-in-Err-clause-kept
returns-in-Err-clause-kept g c =
    kept_as g.P.Poller.state g.P.Poller.tells c.args.poller.now c.run_on.new.outside.poller.now (search rules)
    (subst (λ (p : g.row.P.Denot). KeepsListens g.P.Poller.tells (g.P.Poller.state p) (g.P.Poller.state c.run_on.new.outside.poller.now)) c.new-outside.ensures.poller
    c.run_on.ensures.kept)
