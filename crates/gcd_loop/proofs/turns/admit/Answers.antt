use Rattle.std.proofs.Common.{Option, subst}
use Rattle.gcd_loop.specs.Recorded.{Admits}
use Rattle.gcd_machine.specs.declared.put.Put.{Put}
use Rattle.gcd_loop.proofs.Goings.{going_admitted}
use Rattle.gcd_loop.proofs.Steps.{sight_kept, sight_lawful}
use Rattle.gcd_loop.proofs.turns.admit.Goals as goal

pub returns-in-Some-clause-going : goal.returns-in-Some-clause-going
returns-in-Some-clause-going g c = λ stood before early going.
    let b = g.T.Recorder.bounds c.args.run.now in let h = g.T.Recorder.seen c.args.run.now in
    let pt = g.P.Poller.tells in let ct = g.C.Clock.tells in
    let old = c.args.outside.now in let p = g.P.Poller.state old.poller.now in let a = g.C.Clock.state old.clock.now in
    let k = g.T.Recorder.seen c.admit.new.self in let m = g.T.Recorder.sight c.admit.new.self in
    let sight = sight_kept b (g.T.Recorder.bounds c.admit.new.self) k m c.in_ok-answer.ensures.bounds (g.met.T.Recorder.stands c.admit.new.self c.in_ok-answer.ensures.ready) in
    going_admitted b.most pt ct b.plan stood before early p a h k old.outlook c.in-Some.answer (sight_lawful b.most b.plan k m sight) sight.few
    (subst (λ (r : Option Put). Admits b.most b.plan h k r) c.in-Some.is c.in_ok-answer.ensures.said) going
