use Rattle.std.proofs.Common.{refl}
use Rattle.gcd_loop.proofs.Steps.{grown_same}
use Rattle.gcd_workers.specs.ListRuns.{kept_sight}
use Rattle.gcd_workers.proofs.list_run.ListRunRecorder.rest.Goals as goal

pub returns-clause-grown : goal.returns-clause-grown
returns-clause-grown g c =
    let run = c.args.self.now in
    let h = run.kept.journal.items in
    grown_same run.over.most run.over.plan.now h h run.kept.machine (kept_sight run.over run.kept c.requires.ready) refl
