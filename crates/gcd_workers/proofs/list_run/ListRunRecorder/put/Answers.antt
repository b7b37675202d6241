use Rattle.gcd_history.proofs.MadeBlocks.AcceptsStay.{uncalled_accepts_none}
use Rattle.gcd_workers.proofs.list_run.ListRunRecorder.put.Goals as goal

pub put_one-requires-clause-no_job : goal.put_one-requires-clause-no_job
put_one-requires-clause-no_job g c = uncalled_accepts_none c.args.e c.requires.outside.uncalled
