use Rattle.std.proofs.Common.{◌≡◌, arith, rules}
use Rattle.gcd_event.specs.Fits.{IsFitting}
use Rattle.gcd_event.proofs.WordLemmas.{event_from_parts}
use Rattle.gcd_event.proofs.words.of_word.Goals as goal

pub returns-in-Some-clause-found : goal.returns-in-Some-clause-found
returns-in-Some-clause-found c e f is = let at = event_from_parts e c.args.w (omega arith) f is in cc

pub returns-in_default-clause-silent : goal.returns-in_default-clause-silent
returns-in_default-clause-silent c e f is =
    let at = event_from_parts e c.args.w (omega arith) f is in
    let same : c.in-Some.event ≡ e = cc in
    let fits : IsFitting c.in-Some.event = rw same f in
    search rules

pub returns-in_default-clause-found : goal.returns-in_default-clause-found
returns-in_default-clause-found c e f is = absurd (returns-in_default-clause-silent c e f is)

pub returns-in_default-2-clause-silent : goal.returns-in_default-2-clause-silent
returns-in_default-2-clause-silent c e f is = let at = event_from_parts e c.args.w (omega arith) f is in cc

pub returns-in_default-2-clause-found : goal.returns-in_default-2-clause-found
returns-in_default-2-clause-found c e f is = absurd (returns-in_default-2-clause-silent c e f is)
