use Rattle.std.proofs.Common.{◌≡◌, ◌∷◌, Some, IfErr, ◌∙◌, ap, sym, subst}
use Rattle.gcd_text.proofs.Parts.{first_field, only_field}
use Rattle.gcd_journal.specs.Forms.{fault_in}
use Rattle.gcd_journal.specs.Named.{look_of}
use Rattle.gcd_journal.specs.Spelling.{event_in}
use Rattle.gcd_journal.proofs.spelling.from_four.Goals as goal

pub returns-in-None-clause-event : goal.returns-in-None-clause-event
returns-in-None-clause-event c = c.by_four.ensures.event ∙ ap (λ fields. event_in (look_of c.args.names.now.runs) (c.args.kind.now ∷ c.args.a.now ∷ c.args.b.now ∷ fields)) (sym (only_field c.args.rest.now c.in-None.ensures.uncut))

pub returns-in-None-clause-cause : goal.returns-in-None-clause-cause
returns-in-None-clause-cause c =
    subst (λ fields. IfErr c.by_four.result (λ why. fault_in (look_of c.args.names.now.runs) (c.args.kind.now ∷ c.args.a.now ∷ c.args.b.now ∷ fields) ≡ Some why))
    (sym (only_field c.args.rest.now c.in-None.ensures.uncut)) c.by_four.ensures.cause

pub returns-in-Some-clause-event : goal.returns-in-Some-clause-event
returns-in-Some-clause-event c =
    c.from_five.ensures.event ∙ ap (λ fields. event_in (look_of c.args.names.now.runs) (c.args.kind.now ∷ c.args.a.now ∷ c.args.b.now ∷ fields))
    (sym (first_field c.args.rest.now c.in-Some.c.now c.in-Some.more.now c.in-Some.ensures.cut c.in-Some.ensures.first))

pub returns-in-Some-clause-cause : goal.returns-in-Some-clause-cause
returns-in-Some-clause-cause c =
    subst (λ fields. IfErr c.from_five.result (λ why. fault_in (look_of c.args.names.now.runs) (c.args.kind.now ∷ c.args.a.now ∷ c.args.b.now ∷ fields) ≡ Some why))
    (sym (first_field c.args.rest.now c.in-Some.c.now c.in-Some.more.now c.in-Some.ensures.cut c.in-Some.ensures.first)) c.from_five.ensures.cause
