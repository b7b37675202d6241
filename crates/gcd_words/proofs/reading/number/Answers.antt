use Rattle.std.proofs.Common.{◌∙◌}
use Rattle.gcd_words.proofs.Numbers.{number_read}
use Rattle.gcd_words.proofs.reading.number.Goals as goal

pub returns : goal.returns
returns c = c.unwrap_or.ensures ∙ number_read c.args.text.now c.parse.result c.parse.ensures.value.0
