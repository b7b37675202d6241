use Rattle.gcd_loop.proofs.Steps.{sight_kept, sight_lawful}
use Rattle.gcd_loop.proofs.turns.put.Goals as goal

pub returns-clause-said : goal.returns-clause-said
returns-clause-said g c =
    let b = g.T.Recorder.bounds c.args.run.now in
    let k = g.T.Recorder.seen c.put.new.self in
    let sight = sight_kept b (g.T.Recorder.bounds c.put.new.self) k (g.T.Recorder.sight c.put.new.self) c.in_ok-answer.ensures.bounds
    (g.met.T.Recorder.stands c.put.new.self c.in_ok-answer.ensures.ready) in
    record {
      answer = c.in_ok-answer.answer;
      said = c.in_ok-answer.ensures.said;
      lawful = sight_lawful b.most b.plan k (g.T.Recorder.sight c.put.new.self) sight;
      few = sight.few;
    }
