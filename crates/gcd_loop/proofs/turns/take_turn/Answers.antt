use Rattle.std.proofs.Common.{◌≡◌, Some, ap, refl, subst, sym}
use Rattle.std.proofs.lemmas.Result.{on_ok_weaker}
use Rattle.gcd_turn.specs.Outsides.{faced}
use Rattle.gcd_turn.specs.Turns.{OutlookView, first_event}
use Rattle.gcd_loop.proofs.Goings.{going_on, going_told}
use Rattle.gcd_loop.proofs.Rushes.{turn_goes}
use Rattle.gcd_loop.proofs.Steps.{asked_listens, going_put, same_going}
use Rattle.gcd_loop.proofs.turns.take_turn.Goals as goal

pub returns-in-Leave-clause-going : goal.returns-in-Leave-clause-going
returns-in-Leave-clause-going g c =
    let looked = c.look.new.self in let run = c.rush.new.self in
    let b = g.T.Recorder.bounds run in let h = g.T.Recorder.seen run in
    let pt = g.P.Poller.tells in let ct = g.C.Clock.tells in
    let old = c.args.outside.now in let p = g.P.Poller.state old.poller.now in let a = g.C.Clock.state old.clock.now in
    let new = c.ask.new.self in let q = g.P.Poller.state new.poller.now in let d = g.C.Clock.state new.clock.now in
    let sight = g.met.T.Recorder.stands run c.in_ok-rush.ensures.ready in
    let asked = (rw (c.plan.ensures, c.most.ensures) at c.in-Leave.ensures.asked) h (rw c.machine.ensures sight.stands) sight.few in
    turn_goes (g.T.Recorder.bounds c.args.run.now) (g.T.Recorder.bounds looked) b (g.T.Recorder.seen c.args.run.now) (g.T.Recorder.seen looked) h h
    (g.T.Recorder.sight looked) (g.T.Recorder.sight run) (faced pt ct g.P.Poller.state g.C.Clock.state old new)
    c.look.ensures.bounds c.in_ok-rush.ensures.bounds (g.met.T.Recorder.stands looked c.look.ensures.ready) sight c.look.ensures.grows c.in_ok-rush.ensures.rushed
    (λ stood before early going.
    same_going b.most pt ct b.plan stood before early q q d d h old.outlook new.outlook refl refl c.ask.ensures.outlook
    (going_on b.most pt ct b.plan stood before early p q a d h old.outlook old.outlook
    (asked_listens b.most pt ct b.plan stood before early c.machine.result.now h p q a d old.outlook new.outlook c.ask.ensures.outlook (rw c.machine.ensures sight.stands)
    (rw c.plan.ensures at c.ask.ensures.heard) c.ask.ensures.kept c.ask.ensures.goes_on c.ask.ensures.waited)
    asked.1 going))

pub returns-in_ok-placed-in-Told-clause-going : goal.returns-in_ok-placed-in-Told-clause-going
returns-in_ok-placed-in-Told-clause-going g c =
    let looked = c.look.new.self in let run = c.rush.new.self in
    let b = g.T.Recorder.bounds run in let h = g.T.Recorder.seen run in
    let pt = g.P.Poller.tells in let ct = g.C.Clock.tells in
    let old = c.args.outside.now in let p = g.P.Poller.state old.poller.now in let a = g.C.Clock.state old.clock.now in
    let new = c.ask.new.self in let q = g.P.Poller.state new.poller.now in let d = g.C.Clock.state new.clock.now in
    let sight = g.met.T.Recorder.stands run c.in_ok-rush.ensures.ready in
    let asked = (rw (c.plan.ensures, c.most.ensures) at c.in-Told.ensures.asked) h (rw c.machine.ensures sight.stands) sight.few in
    let last = c.tell.new.outside in let k = g.T.Recorder.seen c.tell.new.run in
    let e = c.in-Told.e in let told = c.in_ok-placed-in-Told.ensures.said in let was = told.put in
    turn_goes (g.T.Recorder.bounds c.args.run.now) (g.T.Recorder.bounds looked) b (g.T.Recorder.seen c.args.run.now) (g.T.Recorder.seen looked) h k
    (g.T.Recorder.sight looked) (g.T.Recorder.sight run) (faced pt ct g.P.Poller.state g.C.Clock.state old last)
    c.look.ensures.bounds c.in_ok-rush.ensures.bounds (g.met.T.Recorder.stands looked c.look.ensures.ready) sight c.look.ensures.grows c.in_ok-rush.ensures.rushed
    (λ stood before early going.
    same_going b.most pt ct b.plan stood before early q (g.P.Poller.state last.poller.now) d (g.C.Clock.state last.clock.now) k last.outlook last.outlook
    (ap g.P.Poller.state c.tell.ensures.poller) (ap g.C.Clock.state c.tell.ensures.clock) refl
    (going_told b.most pt ct b.plan stood before early q d h k new.outlook last.outlook e was.answer was.lawful was.few
    (subst (λ (o : OutlookView). first_event o.news ≡ Some e) (sym c.ask.ensures.outlook) asked.1) was.said told.kept
    (same_going b.most pt ct b.plan stood before early q q d d h old.outlook new.outlook refl refl c.ask.ensures.outlook
    (going_on b.most pt ct b.plan stood before early p q a d h old.outlook old.outlook
    (asked_listens b.most pt ct b.plan stood before early c.machine.result.now h p q a d old.outlook new.outlook c.ask.ensures.outlook (rw c.machine.ensures sight.stands)
    (rw c.plan.ensures at c.ask.ensures.heard) c.ask.ensures.kept c.ask.ensures.goes_on c.ask.ensures.waited)
    asked.2 going))))

pub returns-in-Open-clause-going : goal.returns-in-Open-clause-going
returns-in-Open-clause-going g c =
    let looked = c.look.new.self in let run = c.rush.new.self in
    let b = g.T.Recorder.bounds run in let h = g.T.Recorder.seen run in
    let pt = g.P.Poller.tells in let ct = g.C.Clock.tells in
    let old = c.args.outside.now in let p = g.P.Poller.state old.poller.now in let a = g.C.Clock.state old.clock.now in
    let new = c.ask.new.self in let q = g.P.Poller.state new.poller.now in let d = g.C.Clock.state new.clock.now in
    let sight = g.met.T.Recorder.stands run c.in_ok-rush.ensures.ready in
    let asked = (rw (c.plan.ensures, c.most.ensures) at c.in-Open.ensures.asked) h (rw c.machine.ensures sight.stands) sight.few in
    let last = c.admit.new.outside in let k = g.T.Recorder.seen c.admit.new.run in
    on_ok_weaker c.admit.result
    (λ goes.
    turn_goes (g.T.Recorder.bounds c.args.run.now) (g.T.Recorder.bounds looked) b (g.T.Recorder.seen c.args.run.now) (g.T.Recorder.seen looked) h k
    (g.T.Recorder.sight looked) (g.T.Recorder.sight run) (faced pt ct g.P.Poller.state g.C.Clock.state old last)
    c.look.ensures.bounds c.in_ok-rush.ensures.bounds (g.met.T.Recorder.stands looked c.look.ensures.ready) sight c.look.ensures.grows c.in_ok-rush.ensures.rushed
    (λ stood before early going. goes stood before early
    (same_going b.most pt ct b.plan stood before early q q d d h old.outlook new.outlook refl refl c.ask.ensures.outlook
    (going_on b.most pt ct b.plan stood before early p q a d h old.outlook old.outlook
    (asked_listens b.most pt ct b.plan stood before early c.machine.result.now h p q a d old.outlook new.outlook c.ask.ensures.outlook (rw c.machine.ensures sight.stands)
    (rw c.plan.ensures at c.ask.ensures.heard) c.ask.ensures.kept c.ask.ensures.goes_on c.ask.ensures.waited)
    asked.2 going))))
    c.admit.ensures.going

pub returns-in_ok-placed-in-Put-clause-going : goal.returns-in_ok-placed-in-Put-clause-going
returns-in_ok-placed-in-Put-clause-going g c =
    let looked = c.look.new.self in let run = c.rush.new.self in
    let b = g.T.Recorder.bounds run in let h = g.T.Recorder.seen run in
    let pt = g.P.Poller.tells in let ct = g.C.Clock.tells in
    let old = c.args.outside.now in let p = g.P.Poller.state old.poller.now in let a = g.C.Clock.state old.clock.now in
    let new = c.ask.new.self in let q = g.P.Poller.state new.poller.now in let d = g.C.Clock.state new.clock.now in
    let sight = g.met.T.Recorder.stands run c.in_ok-rush.ensures.ready in
    let asked = (rw (c.plan.ensures, c.most.ensures) at c.in-Put.ensures.asked) h (rw c.machine.ensures sight.stands) sight.few in
    let k = g.T.Recorder.seen c.put.new.run in
    let was = c.in_ok-placed-in-Put.ensures.said in
    turn_goes (g.T.Recorder.bounds c.args.run.now) (g.T.Recorder.bounds looked) b (g.T.Recorder.seen c.args.run.now) (g.T.Recorder.seen looked) h k
    (g.T.Recorder.sight looked) (g.T.Recorder.sight run) (faced pt ct g.P.Poller.state g.C.Clock.state old new)
    c.look.ensures.bounds c.in_ok-rush.ensures.bounds (g.met.T.Recorder.stands looked c.look.ensures.ready) sight c.look.ensures.grows c.in_ok-rush.ensures.rushed
    (λ stood before early going.
    same_going b.most pt ct b.plan stood before early q q d d k old.outlook new.outlook refl refl c.ask.ensures.outlook
    (going_put b.most pt ct b.plan stood before early p q a d h k old.outlook c.in-Put.e was.answer was.lawful was.few asked.1 was.said
    (asked_listens b.most pt ct b.plan stood before early c.machine.result.now h p q a d old.outlook new.outlook c.ask.ensures.outlook (rw c.machine.ensures sight.stands)
    (rw c.plan.ensures at c.ask.ensures.heard) c.ask.ensures.kept c.ask.ensures.goes_on c.ask.ensures.waited) going))

pub returns-in-Work-clause-going : goal.returns-in-Work-clause-going
returns-in-Work-clause-going g c =
    let looked = c.look.new.self in let run = c.rush.new.self in
    let b = g.T.Recorder.bounds run in let h = g.T.Recorder.seen run in
    let pt = g.P.Poller.tells in let ct = g.C.Clock.tells in
    let old = c.args.outside.now in let p = g.P.Poller.state old.poller.now in let a = g.C.Clock.state old.clock.now in
    let new = c.ask.new.self in let q = g.P.Poller.state new.poller.now in let d = g.C.Clock.state new.clock.now in
    let sight = g.met.T.Recorder.stands run c.in_ok-rush.ensures.ready in
    let asked = (rw (c.plan.ensures, c.most.ensures) at c.in-Work.ensures.asked) h (rw c.machine.ensures sight.stands) sight.few in
    let last = c.act.new.outside in let k = g.T.Recorder.seen c.act.new.run in
    on_ok_weaker c.act.result
    (λ goes.
    turn_goes (g.T.Recorder.bounds c.args.run.now) (g.T.Recorder.bounds looked) b (g.T.Recorder.seen c.args.run.now) (g.T.Recorder.seen looked) h k
    (g.T.Recorder.sight looked) (g.T.Recorder.sight run) (faced pt ct g.P.Poller.state g.C.Clock.state old last)
    c.look.ensures.bounds c.in_ok-rush.ensures.bounds (g.met.T.Recorder.stands looked c.look.ensures.ready) sight c.look.ensures.grows c.in_ok-rush.ensures.rushed
    (λ stood before early going. goes stood before early
    (same_going b.most pt ct b.plan stood before early q q d d h old.outlook new.outlook refl refl c.ask.ensures.outlook
    (going_on b.most pt ct b.plan stood before early p q a d h old.outlook old.outlook
    (asked_listens b.most pt ct b.plan stood before early c.machine.result.now h p q a d old.outlook new.outlook c.ask.ensures.outlook (rw c.machine.ensures sight.stands)
    (rw c.plan.ensures at c.ask.ensures.heard) c.ask.ensures.kept c.ask.ensures.goes_on c.ask.ensures.waited)
    asked.2 going))))
    c.act.ensures.going
