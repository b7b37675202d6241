use Rattle.std.proofs.lemmas.Result.{IfOk-weaker}
use Rattle.gcd_workers.proofs.dispatch.Dispatch.run.Goals as goal

pub returns-clause-ran : goal.returns-clause-ran
returns-clause-ran g c =
    IfOk-weaker c.run_list.result _ _ (λ run is. record { jobs = c.in-Ok.jobs.items; count = c.in-Ok.ensures.count; made = c.in-Ok.ensures.jobs; runs = is })
    c.run_list.ensures.ran
