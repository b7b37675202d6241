use Rattle.gcd_history.proofs.WordsBegin.{words_are_places}
use Rattle.gcd_history.proofs.laws.words_are_places_where_one_begins.Goals as goal

pub returns : goal.returns
returns c = words_are_places
