use Rattle.gcd_history.proofs.Public.Laws.{choice_is_permitted, no_choice_is_none}
use Rattle.gcd_history.proofs.laws.choices_are_complete.Goals as goal

pub returns : goal.returns
returns c = record { chosen = choice_is_permitted; none = no_choice_is_none }
