use Rattle.std.proofs.Common.{refl, subst}
use Rattle.gcd_loop.specs.Recorded.{Says}
use Rattle.gcd_machine.specs.declared.put.Put.{Put}
use Rattle.gcd_machine.specs.declared.put.Put.TheVariants.{Placed, Barred, Held, Full}
use Rattle.gcd_loop.proofs.Steps.{sight_kept, sight_lawful}
use Rattle.gcd_loop.proofs.turns.tell.Goals as goal

pub returns-in-Placed-clause-said : goal.returns-in-Placed-clause-said
returns-in-Placed-clause-said g c =
    let b = g.T.Recorder.bounds c.args.run.now in
    let h = g.T.Recorder.seen c.args.run.now in let k = g.T.Recorder.seen c.put.new.self in
    let sight = sight_kept b (g.T.Recorder.bounds c.put.new.self) k (g.T.Recorder.sight c.put.new.self) c.in_ok-put.ensures.bounds
    (g.met.T.Recorder.stands c.put.new.self c.in_ok-put.ensures.ready) in
    record {
      put = record {
        answer = Placed c.in-Placed.field-0;
        said = subst (λ (r : Put). Says b.most b.plan c.args.e h k r) c.in-Placed.is c.in_ok-put.ensures.said;
        lawful = sight_lawful b.most b.plan k (g.T.Recorder.sight c.put.new.self) sight;
        few = sight.few;
      };
      kept = c.settle.ensures.outlook;
    }

pub returns-in-Barred-clause-said : goal.returns-in-Barred-clause-said
returns-in-Barred-clause-said g c =
    let b = g.T.Recorder.bounds c.args.run.now in
    let h = g.T.Recorder.seen c.args.run.now in let k = g.T.Recorder.seen c.put.new.self in
    let sight = sight_kept b (g.T.Recorder.bounds c.put.new.self) k (g.T.Recorder.sight c.put.new.self) c.in_ok-put.ensures.bounds
    (g.met.T.Recorder.stands c.put.new.self c.in_ok-put.ensures.ready) in
    record {
      put = record {
        answer = Barred c.in-Barred.at c.in-Barred.why;
        said = subst (λ (r : Put). Says b.most b.plan c.args.e h k r) c.in-Barred.is c.in_ok-put.ensures.said;
        lawful = sight_lawful b.most b.plan k (g.T.Recorder.sight c.put.new.self) sight;
        few = sight.few;
      };
      kept = c.settle-in-Barred.ensures.outlook;
    }

pub returns-in-Held-clause-said : goal.returns-in-Held-clause-said
returns-in-Held-clause-said g c =
    let b = g.T.Recorder.bounds c.args.run.now in
    let h = g.T.Recorder.seen c.args.run.now in let k = g.T.Recorder.seen c.put.new.self in
    let sight = sight_kept b (g.T.Recorder.bounds c.put.new.self) k (g.T.Recorder.sight c.put.new.self) c.in_ok-put.ensures.bounds
    (g.met.T.Recorder.stands c.put.new.self c.in_ok-put.ensures.ready) in
    record {
      put = record {
        answer = Held c.in-Held.by c.in-Held.passed;
        said = subst (λ (r : Put). Says b.most b.plan c.args.e h k r) c.in-Held.is c.in_ok-put.ensures.said;
        lawful = sight_lawful b.most b.plan k (g.T.Recorder.sight c.put.new.self) sight;
        few = sight.few;
      };
      kept = refl;
    }

pub returns-in-Full-clause-said : goal.returns-in-Full-clause-said
returns-in-Full-clause-said g c =
    let b = g.T.Recorder.bounds c.args.run.now in
    let h = g.T.Recorder.seen c.args.run.now in let k = g.T.Recorder.seen c.put.new.self in
    let sight = sight_kept b (g.T.Recorder.bounds c.put.new.self) k (g.T.Recorder.sight c.put.new.self) c.in_ok-put.ensures.bounds
    (g.met.T.Recorder.stands c.put.new.self c.in_ok-put.ensures.ready) in
    record {
      put = record {
        answer = Full;
        said = subst (λ (r : Put). Says b.most b.plan c.args.e h k r) c.in-Full.is c.in_ok-put.ensures.said;
        lawful = sight_lawful b.most b.plan k (g.T.Recorder.sight c.put.new.self) sight;
        few = sight.few;
      };
      kept = refl;
    }
