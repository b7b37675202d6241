use Rattle.std.proofs.Common.{subst, sym}
use Rattle.gcd_workers.specs.ListRuns.{IsKept}
use Rattle.gcd_workers.specs.declared.over.Over.{Over}
use Rattle.gcd_workers.proofs.list_run.ListRun.new.Goals as goal

pub returns-clause-run : goal.returns-clause-run
returns-clause-run c =
    let run = c.alone.result in
    subst (λ (o : Over). IsKept o run.kept) (sym c.alone.ensures.parts.0) (subst (IsKept c.args.over) (sym c.alone.ensures.parts.1) c.in_ok-kept.ensures.run)
