use Rattle.std.proofs.Common.{refl}
use Rattle.gcd_loop.proofs.Steps.{grown_same}
use Rattle.gcd_rounds.specs.Running.{run_sight}
use Rattle.gcd_rounds.proofs.round.RoundRecorder.rest.Goals as goal

pub returns-clause-grown : goal.returns-clause-grown
returns-clause-grown g c =
    let plan = c.args.self.now.plan.now in let r = c.args.self.now.run in
    grown_same r.terms.most plan r.journal.items r.journal.items r.machine (run_sight g.H.Handler.kind g.H.Handler.times g.H.Handler.total plan r c.requires.ready.run) refl
