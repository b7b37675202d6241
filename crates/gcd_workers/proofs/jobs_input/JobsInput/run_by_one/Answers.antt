use Rattle.std.proofs.Common.{List, [], rules, refl, sym, subst}
use Rattle.gcd_event.specs.declared.event.Event.{Event}
use Rattle.gcd_outer.specs.Outside.{ClockState, Seen}
use Rattle.gcd_outer.specs.Tells.{PollerState}
use Rattle.gcd_turn.specs.Asked.{KeepsListens}
use Rattle.gcd_turn.specs.Outsides.{Faced}
use Rattle.gcd_loop.specs.Going.{GoesOn}
use Rattle.gcd_loop.proofs.Steps.{kept_as, run_on}
use Rattle.gcd_workers.specs.AloneCalls.{HaveCalls}
use Rattle.gcd_workers.specs.declared.jobs_kept.JobsGiven.{JobsGiven}
use Rattle.gcd_workers.proofs.AloneEnd.{alone_as, alone_front}
use Rattle.gcd_workers.proofs.Calls.{calls_first}
use Rattle.gcd_workers.proofs.jobs_input.JobsInput.run_by_one.Goals as goal

pub run_kept-requires : goal.run_kept-requires
run_kept-requires g c = record {
  ready =
      let kept = c.in-Ok.kept in let plan = c.args.self.plan.now in
      record {
        run = c.in-Ok.ensures.run;
        few = c.requires.few;
        of_front = c.requires.intake;
        calls = subst (λ (h : List Event). HaveCalls g.J.Job.gives g.X.Sent.gives c.args.front.now c.args.intake.now plan h kept.states.items) (sym c.in-Ok.ensures.journal)
            (calls_first g.J.Job.gives g.X.Sent.gives c.args.front.now plan c.args.intake.now kept.states.items c.requires.untaken);
      };
}

pub returns-in-Ok-run_kept-clause-ran : goal.returns-in-Ok-run_kept-clause-ran
returns-in-Ok-run_kept-clause-ran g c =
    let d = c.args.self in let plan = d.plan.now in
    let given : JobsGiven g.row.J.Denot = record { plan = d.plan; most = d.most; jobs = c.of.result } in
    let kept = c.in-Ok.kept in let last = c.run_kept.new.kept in
    let first = c.new-outside.result in let after = c.run_kept.new.outside in
    let told : g.row.P.Denot → Seen PollerState = λ (p : g.row.P.Denot). record { tells = g.P.Poller.tells; before = g.P.Poller.state p; after = g.P.Poller.state after.poller.now } in
    let timed : Seen ClockState = record { tells = g.C.Clock.tells; before = g.C.Clock.state first.clock.now; after = g.C.Clock.state after.clock.now } in
    let face : g.row.P.Denot → Faced = λ (p : g.row.P.Denot). record { poller = told p; clock = timed; before = first.outlook; after = after.outlook } in
    let went = c.in-Ok-run_kept.ensures.went in
    let h = last.journal.items in
    let going : GoesOn (record { plan = plan; most = d.most }) [] h (face c.args.poller.now) =
    subst (λ (p : g.row.P.Denot). GoesOn (record { plan = plan; most = d.most }) [] h (face p)) c.new-outside.ensures.poller
    (subst (λ (k : List Event). GoesOn (record { plan = plan; most = d.most }) k h (face first.poller.now)) c.in-Ok.ensures.journal went.going) in
    alone_as g.J.Job.gives g.X.Sent.gives given c.args.front.now g.P.Poller.state g.C.Clock.state c.run_kept.new.intake d c.in-Ok-ran_of.ran g.P.Poller.tells g.C.Clock.tells
    c.args.poller.now after.poller.now c.args.clock.now after.clock.now (search rules) (search rules) (search rules)
    (alone_front g.J.Job.gives g.X.Sent.gives given c.args.front.now last c.run_kept.new.intake d _ _ c.in-Ok-ran_of.ran refl refl (sym c.of.ensures) c.requires.workers went.alone
    c.in-Ok-ran_of.ensures.journal c.in-Ok-ran_of.ensures.values (c.in-Ok-ran_of.ensures.state plan h went.alone.run.stands) c.requires.unwatched
    (run_on (record { plan = plan; most = d.most }) [] h (face c.args.poller.now) (g.C.Clock.state c.args.clock.now) c.new-outside.ensures.first went.ended going))

pub returns-in-Ok-run_kept-clause-kept : goal.returns-in-Ok-run_kept-clause-kept
returns-in-Ok-run_kept-clause-kept g c =
    kept_as g.P.Poller.state g.P.Poller.tells c.args.poller.now c.run_kept.new.outside.poller.now (search rules)
    (subst (λ (p : g.row.P.Denot). KeepsListens g.P.Poller.tells (g.P.Poller.state p) (g.P.Poller.state c.run_kept.new.outside.poller.now)) c.new-outside.ensures.poller
    c.run_kept.ensures.kept)
