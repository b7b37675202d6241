use Rattle.gcd_loop.proofs.Goings.{going_grown}
use Rattle.gcd_loop.proofs.turns.rest.Goals as goal

pub returns-in-Placed-clause-going : goal.returns-in-Placed-clause-going
returns-in-Placed-clause-going g c = λ stood before early going.
    let b = g.T.Recorder.bounds c.args.run.now in let h = g.T.Recorder.seen c.args.run.now in
    let pt = g.P.Poller.tells in let ct = g.C.Clock.tells in
    let old = c.args.outside.now in let p = g.P.Poller.state old.poller.now in let a = g.C.Clock.state old.clock.now in
    let grown = c.in_ok-rest.ensures.grown in
    going_grown b.most pt ct b.plan stood before early p a h (g.T.Recorder.seen c.rest.new.self) old.outlook grown.lawful grown.few grown.grows going

pub returns-in-Over-clause-going : goal.returns-in-Over-clause-going
returns-in-Over-clause-going g c = λ stood before early going.
    let b = g.T.Recorder.bounds c.args.run.now in let h = g.T.Recorder.seen c.args.run.now in
    let pt = g.P.Poller.tells in let ct = g.C.Clock.tells in
    let old = c.args.outside.now in let p = g.P.Poller.state old.poller.now in let a = g.C.Clock.state old.clock.now in
    let grown = c.in_ok-rest.ensures.grown in
    going_grown b.most pt ct b.plan stood before early p a h (g.T.Recorder.seen c.rest.new.self) old.outlook grown.lawful grown.few grown.grows going
