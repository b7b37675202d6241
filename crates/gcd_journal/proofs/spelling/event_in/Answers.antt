use Rattle.std.proofs.Common.{◌∙◌, ap, sym, subst, Some, IfErr, ◌≡◌}
use Rattle.gcd_text.proofs.Parts.{first_field, only_field}
use Rattle.gcd_journal.specs.Forms.{fault_in}
use Rattle.gcd_journal.specs.Named.{look_of}
use Rattle.gcd_journal.specs.Spelling.{event_in}
use Rattle.gcd_journal.proofs.spelling.event_in.Goals as goal

pub returns-in-None-clause-event : goal.returns-in-None-clause-event
returns-in-None-clause-event c = c.by_one.ensures.event ∙ ap (λ fields. event_in (look_of c.args.names.now.runs) fields) (sym (only_field c.args.line.now c.in-None.ensures.uncut))

pub returns-in-None-clause-cause : goal.returns-in-None-clause-cause
returns-in-None-clause-cause c =
    subst (λ fields. IfErr c.by_one.result (λ why. fault_in (look_of c.args.names.now.runs) fields ≡ Some why))
    (sym (only_field c.args.line.now c.in-None.ensures.uncut)) (c.by_one.ensures.cause (look_of c.args.names.now.runs))

pub returns-in-Some-clause-event : goal.returns-in-Some-clause-event
returns-in-Some-clause-event c =
    c.from_two.ensures.event ∙ ap (λ fields. event_in (look_of c.args.names.now.runs) fields)
    (sym (first_field c.args.line.now c.in-Some.kind.now c.in-Some.rest.now c.in-Some.ensures.cut c.in-Some.ensures.first))

pub returns-in-Some-clause-cause : goal.returns-in-Some-clause-cause
returns-in-Some-clause-cause c =
    subst (λ fields. IfErr c.from_two.result (λ why. fault_in (look_of c.args.names.now.runs) fields ≡ Some why))
    (sym (first_field c.args.line.now c.in-Some.kind.now c.in-Some.rest.now c.in-Some.ensures.cut c.in-Some.ensures.first)) c.from_two.ensures.cause
