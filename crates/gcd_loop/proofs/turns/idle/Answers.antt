use Rattle.std.proofs.Common.{subst}
use Rattle.std.proofs.lemmas.Result.{on_ok_weaker}
use Rattle.gcd_event.specs.declared.event.Event.{Event}
use Rattle.gcd_loop.specs.Recorded.{Says}
use Rattle.gcd_loop.proofs.Goings.{going_halt, going_on}
use Rattle.gcd_loop.proofs.Steps.{idle_listens}
use Rattle.gcd_loop.proofs.turns.idle.Goals as goal

pub returns-in-None-clause-going : goal.returns-in-None-clause-going
returns-in-None-clause-going g c = λ stood before early going.
    let b = g.T.Recorder.bounds c.args.run.now in let h = g.T.Recorder.seen c.args.run.now in
    let pt = g.P.Poller.tells in let ct = g.C.Clock.tells in
    let old = c.args.outside.now in let p = g.P.Poller.state old.poller.now in let a = g.C.Clock.state old.clock.now in
    let new = c.idle.new.self in let q = g.P.Poller.state new.poller.now in let d = g.C.Clock.state new.clock.now in
    let sight = g.met.T.Recorder.stands c.args.run.now c.requires.ready in
    going_on b.most pt ct b.plan stood before early p q a d h old.outlook new.outlook
    (idle_listens b.most pt ct b.plan stood before early c.machine.result.now h p q a d old.outlook new.outlook (rw c.machine.ensures sight.stands)
    c.requires.room.going_on.unhalted c.requires.idle.watched (rw c.plan.ensures at c.idle.ensures.heard) c.idle.ensures.start c.idle.ensures.kept c.idle.ensures.goes_on
    (rw c.plan.ensures at c.idle.ensures.waited))
    c.in-None.ensures.unfailed going

pub returns-in-Some-clause-going : goal.returns-in-Some-clause-going
returns-in-Some-clause-going g c =
    let b = g.T.Recorder.bounds c.args.run.now in let h = g.T.Recorder.seen c.args.run.now in
    let pt = g.P.Poller.tells in let ct = g.C.Clock.tells in
    let old = c.args.outside.now in let p = g.P.Poller.state old.poller.now in let a = g.C.Clock.state old.clock.now in
    let new = c.idle.new.self in let q = g.P.Poller.state new.poller.now in let d = g.C.Clock.state new.clock.now in
    let sight = g.met.T.Recorder.stands c.args.run.now c.requires.ready in
    let k = g.T.Recorder.seen c.put.new.run in
    on_ok_weaker c.put.result
    (λ was. λ stood before early going.
    going_halt b.most pt ct b.plan stood before early p q a d h k old.outlook new.outlook was.answer was.lawful was.few
    (subst (λ (e : Event). Says b.most b.plan e h k was.answer) c.in-Some.ensures.halt was.said)
    (idle_listens b.most pt ct b.plan stood before early c.machine.result.now h p q a d old.outlook new.outlook (rw c.machine.ensures sight.stands)
    c.requires.room.going_on.unhalted c.requires.idle.watched (rw c.plan.ensures at c.idle.ensures.heard) c.idle.ensures.start c.idle.ensures.kept c.idle.ensures.goes_on
    (rw c.plan.ensures at c.idle.ensures.waited))
    c.in-Some.ensures.failed going)
    c.put.ensures.said
