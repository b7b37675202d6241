use Rattle.gcd_text.proofs.FirstPlaces.{first_place}
use Rattle.gcd_text.proofs.lines.end_of_line.Goals as goal

pub returns : goal.returns
returns c = first_place 10 c.args.text.now c.memchr.result c.memchr.ensures
