use Rattle.gcd_history.proofs.Permitted.Fitting.{permitted_fits}
use Rattle.gcd_history.proofs.lawful.permitted_events_fit.Goals as goal

pub returns : goal.returns
returns c = permitted_fits
