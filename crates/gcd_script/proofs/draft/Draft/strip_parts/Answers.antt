use Rattle.std.proofs.Common.{refl}
use Rattle.gcd_script.proofs.draft.Draft.strip_parts.Goals as goal

pub returns : goal.returns
returns c =
    rw (c.both-2.ensures, c.count.ensures, c.both.ensures, c.file.ensures, c.both-parts.ensures, c.number.ensures.value, c.number-2.ensures.value) refl
