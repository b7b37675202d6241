use Rattle.std.proofs.lemmas.Result.{IfOk-weaker}
use Rattle.gcd_commands.specs.Fronts.FrontEnds.{stopped}
use Rattle.gcd_commands.proofs.Hands.{stopped_run}
use Rattle.gcd_commands.proofs.Loading.{on_any_err}
use Rattle.gcd_commands.proofs.Stories.{front_stops_count}
use Rattle.gcd_commands.proofs.front.tell_front.Goals as goal

pub returns-in-Err-clause-told : goal.returns-in-Err-clause-told
returns-in-Err-clause-told g c =
    let why = c.in-Err.ensures.stopped in
    IfOk-weaker c.stopped.result _ _ (λ s is. record { loads = why.loads; made = why.made; is = stopped c.in-Err.stop why.is is }) c.stopped.ensures.told

pub returns-in-Err-clause-wanting : goal.returns-in-Err-clause-wanting
returns-in-Err-clause-wanting g c =
    let why = c.in-Err.ensures.stopped in
    on_any_err c.stopped.result (record { loads = why.loads; made = why.made; is = front_stops_count _ _ why.loads c.in-Err.stop why.is })

pub returns-in-Err-clause-found : goal.returns-in-Err-clause-found
returns-in-Err-clause-found g c =
    stopped_run _ _ c.in-Err.stop c.stopped.result c.in-Err.ensures.stopped c.stopped.ensures.told c.stopped.ensures.found
