use Rattle.std.proofs.Common.{sym, ◌∙◌}
use Rattle.std.proofs.lemmas.Str.{IsUtf8-from_ascii}
use Rattle.gcd_text.proofs.FirstLines.{ascii_line}
use Rattle.gcd_text.proofs.lines.printable.Goals as goal

pub from_utf8_unchecked-requires : goal.from_utf8_unchecked-requires
from_utf8_unchecked-requires c = IsUtf8-from_ascii c.args.line.now (ascii_line c.args.line.now (sym c.is_printable.ensures ∙ c.if-is_printable.true))
