use Rattle.gcd_history.proofs.MadeBlocks.AcceptsStay.{uncalled_accepts_none}
use Rattle.gcd_rounds.proofs.round.RoundRecorder.put.Goals as goal

pub put-requires-clause-no_job : goal.put-requires-clause-no_job
put-requires-clause-no_job g c = uncalled_accepts_none c.args.e c.requires.outside.uncalled
