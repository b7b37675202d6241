use Rattle.std.proofs.Common.{◌∙◌, ap, refl, subst, sym}
use Rattle.std.proofs.lemmas.Result.{on_ok_weaker}
use Rattle.gcd_machine.proofs.Choice.Calls.{choice_stands}
use Rattle.gcd_turn.specs.Asked.{MayIdle}
use Rattle.gcd_turn.specs.Turns.{OutlookView}
use Rattle.gcd_loop.proofs.Events.{put_is_outside}
use Rattle.gcd_loop.proofs.Goings.{going_on}
use Rattle.gcd_loop.proofs.Steps.{going_put, later_listens, same_going}
use Rattle.gcd_loop.proofs.turns.later.Goals as goal

pub ask_on-requires-clause-chosen : goal.ask_on-requires-clause-chosen
ask_on-requires-clause-chosen g c = λ h stands.
    let b = g.T.Recorder.bounds c.args.run.now in
    let m = c.machine.result.now in
    let sight = g.met.T.Recorder.stands c.args.run.now c.requires.ready in
    rw c.plan.ensures
    (sym (choice_stands m b.plan h 0 0 (rw c.plan.ensures at stands))
    ∙ choice_stands m b.plan (g.T.Recorder.seen c.args.run.now) 0 0 (rw c.machine.ensures sight.stands)
    ∙ c.requires.may.choice)

pub unreachable-requires : goal.unreachable-requires
unreachable-requires g c =
    let b = g.T.Recorder.bounds c.args.run.now in let h = g.T.Recorder.seen c.args.run.now in
    let pt = g.P.Poller.tells in let ct = g.C.Clock.tells in
    let old = c.args.outside.now in let p = g.P.Poller.state old.poller.now in let a = g.C.Clock.state old.clock.now in
    let new = c.ask_on.new.self in let q = g.P.Poller.state new.poller.now in let d = g.C.Clock.state new.clock.now in
    let sight = g.met.T.Recorder.stands c.args.run.now c.requires.ready in
    let asked = (rw c.plan.ensures at c.in-Leave.ensures.asked) b.most h p p (rw c.machine.ensures sight.stands) c.requires.room c.requires.may.watched refl in
    asked

pub unreachable-requires-in-Told : goal.unreachable-requires-in-Told
unreachable-requires-in-Told g c =
    let b = g.T.Recorder.bounds c.args.run.now in let h = g.T.Recorder.seen c.args.run.now in
    let pt = g.P.Poller.tells in let ct = g.C.Clock.tells in
    let old = c.args.outside.now in let p = g.P.Poller.state old.poller.now in let a = g.C.Clock.state old.clock.now in
    let new = c.ask_on.new.self in let q = g.P.Poller.state new.poller.now in let d = g.C.Clock.state new.clock.now in
    let sight = g.met.T.Recorder.stands c.args.run.now c.requires.ready in
    let asked = (rw c.plan.ensures at c.in-Told.ensures.asked) b.most h p p (rw c.machine.ensures sight.stands) c.requires.room c.requires.may.watched refl in
    asked

pub unreachable-requires-in-Open : goal.unreachable-requires-in-Open
unreachable-requires-in-Open g c =
    let b = g.T.Recorder.bounds c.args.run.now in let h = g.T.Recorder.seen c.args.run.now in
    let pt = g.P.Poller.tells in let ct = g.C.Clock.tells in
    let old = c.args.outside.now in let p = g.P.Poller.state old.poller.now in let a = g.C.Clock.state old.clock.now in
    let new = c.ask_on.new.self in let q = g.P.Poller.state new.poller.now in let d = g.C.Clock.state new.clock.now in
    let sight = g.met.T.Recorder.stands c.args.run.now c.requires.ready in
    let asked = (rw c.plan.ensures at c.in-Open.ensures.asked) b.most h p p (rw c.machine.ensures sight.stands) c.requires.room c.requires.may.watched refl in
    asked

pub put-requires-clause-outside : goal.put-requires-clause-outside
put-requires-clause-outside g c =
    let b = g.T.Recorder.bounds c.args.run.now in let h = g.T.Recorder.seen c.args.run.now in
    let pt = g.P.Poller.tells in let ct = g.C.Clock.tells in
    let old = c.args.outside.now in let p = g.P.Poller.state old.poller.now in let a = g.C.Clock.state old.clock.now in
    let new = c.ask_on.new.self in let q = g.P.Poller.state new.poller.now in let d = g.C.Clock.state new.clock.now in
    let sight = g.met.T.Recorder.stands c.args.run.now c.requires.ready in
    let asked = (rw c.plan.ensures at c.in-Put.ensures.asked) b.most h p p (rw c.machine.ensures sight.stands) c.requires.room c.requires.may.watched refl in
    put_is_outside b.plan h old.outlook.start d.present p p c.in-Put.due asked.1

pub act-requires-clause-idle : goal.act-requires-clause-idle
act-requires-clause-idle g c =
    let b = g.T.Recorder.bounds c.args.run.now in let h = g.T.Recorder.seen c.args.run.now in
    let pt = g.P.Poller.tells in let ct = g.C.Clock.tells in
    let old = c.args.outside.now in let p = g.P.Poller.state old.poller.now in let a = g.C.Clock.state old.clock.now in
    let new = c.ask_on.new.self in let q = g.P.Poller.state new.poller.now in let d = g.C.Clock.state new.clock.now in
    let sight = g.met.T.Recorder.stands c.args.run.now c.requires.ready in
    let asked = (rw c.plan.ensures at c.in-Work.ensures.asked) b.most h p p (rw c.machine.ensures sight.stands) c.requires.room c.requires.may.watched refl in
    subst (λ (o : OutlookView). MayIdle b.plan h o.news q c.in-Work.left) (sym c.ask_on.ensures.outlook)
    (subst (λ (x : g.row.P.Denot). MayIdle b.plan h old.outlook.news (g.P.Poller.state x) c.in-Work.left) (sym c.ask_on.ensures.poller) asked.1)

pub act-requires-clause-chosen : goal.act-requires-clause-chosen
act-requires-clause-chosen g c =
    let b = g.T.Recorder.bounds c.args.run.now in let h = g.T.Recorder.seen c.args.run.now in
    let pt = g.P.Poller.tells in let ct = g.C.Clock.tells in
    let old = c.args.outside.now in let p = g.P.Poller.state old.poller.now in let a = g.C.Clock.state old.clock.now in
    let new = c.ask_on.new.self in let q = g.P.Poller.state new.poller.now in let d = g.C.Clock.state new.clock.now in
    let sight = g.met.T.Recorder.stands c.args.run.now c.requires.ready in
    let asked = (rw c.plan.ensures at c.in-Work.ensures.asked) b.most h p p (rw c.machine.ensures sight.stands) c.requires.room c.requires.may.watched refl in
    asked.3

pub returns-in_ok-placed-in-Put-clause-going : goal.returns-in_ok-placed-in-Put-clause-going
returns-in_ok-placed-in-Put-clause-going g c = λ stood before early going.
    let b = g.T.Recorder.bounds c.args.run.now in let h = g.T.Recorder.seen c.args.run.now in
    let pt = g.P.Poller.tells in let ct = g.C.Clock.tells in
    let old = c.args.outside.now in let p = g.P.Poller.state old.poller.now in let a = g.C.Clock.state old.clock.now in
    let new = c.ask_on.new.self in let q = g.P.Poller.state new.poller.now in let d = g.C.Clock.state new.clock.now in
    let sight = g.met.T.Recorder.stands c.args.run.now c.requires.ready in
    let asked = (rw c.plan.ensures at c.in-Put.ensures.asked) b.most h p p (rw c.machine.ensures sight.stands) c.requires.room c.requires.may.watched refl in
    let k = g.T.Recorder.seen c.put.new.run in
    let was = c.in_ok-placed-in-Put.ensures.said in
    same_going b.most pt ct b.plan stood before early p q d d k old.outlook new.outlook (ap g.P.Poller.state c.ask_on.ensures.poller) refl c.ask_on.ensures.outlook
    (going_put b.most pt ct b.plan stood before early p p a d h k old.outlook c.in-Put.due was.answer was.lawful was.few asked.1 was.said
    (later_listens b.most pt ct b.plan stood before early h p a d old.outlook c.ask_on.ensures.goes_on c.ask_on.ensures.waited) going)

pub returns-in-Work-clause-going : goal.returns-in-Work-clause-going
returns-in-Work-clause-going g c =
    let b = g.T.Recorder.bounds c.args.run.now in let h = g.T.Recorder.seen c.args.run.now in
    let pt = g.P.Poller.tells in let ct = g.C.Clock.tells in
    let old = c.args.outside.now in let p = g.P.Poller.state old.poller.now in let a = g.C.Clock.state old.clock.now in
    let new = c.ask_on.new.self in let q = g.P.Poller.state new.poller.now in let d = g.C.Clock.state new.clock.now in
    let sight = g.met.T.Recorder.stands c.args.run.now c.requires.ready in
    on_ok_weaker c.act.result
    (λ goes. λ stood before early going. goes stood before early
    (same_going b.most pt ct b.plan stood before early p q d d h old.outlook new.outlook (ap g.P.Poller.state c.ask_on.ensures.poller) refl c.ask_on.ensures.outlook
    (going_on b.most pt ct b.plan stood before early p p a d h old.outlook old.outlook
    (later_listens b.most pt ct b.plan stood before early h p a d old.outlook c.ask_on.ensures.goes_on c.ask_on.ensures.waited) refl going)))
    c.act.ensures.going
