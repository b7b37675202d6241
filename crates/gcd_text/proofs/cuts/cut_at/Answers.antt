use Rattle.std.proofs.Common.{sym, ◌∙◌}
use Rattle.std.proofs.lemmas.List.{take_rest}
use Rattle.gcd_text.proofs.Parts.{cut_here, cut_nowhere}
use Rattle.gcd_text.proofs.cuts.cut_at.Goals as goal

pub returns-in-Some-clause-cut : goal.returns-in-Some-clause-cut
returns-in-Some-clause-cut c = rw take_rest (cut_here c.args.byte c.args.text.now c.in-Some.place (sym c.place_of.ensures ∙ c.in-Some.is)).0

pub returns-in-Some-clause-first : goal.returns-in-Some-clause-first
returns-in-Some-clause-first c = (cut_here c.args.byte c.args.text.now c.in-Some.place (sym c.place_of.ensures ∙ c.in-Some.is)).1

pub returns-in-None-clause-uncut : goal.returns-in-None-clause-uncut
returns-in-None-clause-uncut c = cut_nowhere c.args.byte c.args.text.now (sym c.place_of.ensures ∙ c.in-None.is)
