use Rattle.gcd_history.proofs.Public.Facts.{only_active_move, targets_change_alone}
use Rattle.gcd_history.proofs.facts.targets_change_alone.Goals as goal

pub returns : goal.returns
returns c = record { moving = only_active_move; alone = targets_change_alone }
