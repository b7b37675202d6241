use Rattle.gcd_history.proofs.Public.Laws.{runs_once, starts_after_submission, all_end_once}
use Rattle.gcd_history.proofs.laws.blocks_run_once.Goals as goal

pub returns : goal.returns
returns c = record { once = runs_once; after = starts_after_submission; drained = all_end_once }
