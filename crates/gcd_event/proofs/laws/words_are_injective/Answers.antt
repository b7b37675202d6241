use Rattle.gcd_event.proofs.WordLemmas.{same_from_word}
use Rattle.gcd_event.proofs.laws.words_are_injective.Goals as goal

pub returns : goal.returns
returns c = same_from_word
