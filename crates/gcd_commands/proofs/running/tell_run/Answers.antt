use Rattle.std.proofs.lemmas.Result.{IfOk-weaker}
use Rattle.gcd_commands.specs.Runs.RunEnds.{stopped}
use Rattle.gcd_commands.proofs.Hands.{stopped_run}
use Rattle.gcd_commands.proofs.Loading.{on_any_err}
use Rattle.gcd_commands.proofs.Stories.{stops_calls}
use Rattle.gcd_commands.proofs.running.tell_run.Goals as goal

pub returns-in-Err-clause-reported : goal.returns-in-Err-clause-reported
returns-in-Err-clause-reported g c =
    let why = c.in-Err.ensures.stopped in
    IfOk-weaker c.stopped.result _ _ (λ s is. record { calls = why.calls; made = why.made; is = stopped c.in-Err.stop why.is is }) c.stopped.ensures.told

pub returns-in-Err-clause-wanting : goal.returns-in-Err-clause-wanting
returns-in-Err-clause-wanting g c =
    let why = c.in-Err.ensures.stopped in
    on_any_err c.stopped.result (record { calls = why.calls; made = why.made; is = stops_calls _ _ why.calls c.in-Err.stop why.is })

pub returns-in-Err-clause-found : goal.returns-in-Err-clause-found
returns-in-Err-clause-found g c =
    stopped_run _ _ c.in-Err.stop c.stopped.result c.in-Err.ensures.stopped c.stopped.ensures.told c.stopped.ensures.found
