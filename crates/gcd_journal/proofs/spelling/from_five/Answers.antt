use Rattle.std.proofs.Common.{◌≡◌, ◌∷◌, Some, IfErr, ◌∙◌, ap, sym, subst}
use Rattle.gcd_text.proofs.Parts.{first_field, only_field}
use Rattle.gcd_journal.specs.Forms.{fault_in}
use Rattle.gcd_journal.specs.Named.{look_of}
use Rattle.gcd_journal.specs.Spelling.{event_in}
use Rattle.gcd_journal.proofs.Formed.{six_unformed}
use Rattle.gcd_journal.proofs.Spelled.{six_spell_nothing}
use Rattle.gcd_journal.proofs.spelling.from_five.Goals as goal

pub returns-in-None-clause-event : goal.returns-in-None-clause-event
returns-in-None-clause-event c =
    c.by_five.ensures.event
    ∙ ap (λ fields. event_in (look_of c.args.names.now.runs) (c.args.kind.now ∷ c.args.a.now ∷ c.args.b.now ∷ c.args.c.now ∷ fields)) (sym (only_field c.args.rest.now c.in-None.ensures.uncut))

pub returns-in-Some-clause-event : goal.returns-in-Some-clause-event
returns-in-Some-clause-event c =
    let cut = first_field c.args.rest.now c.in-Some.field-0.0.now c.in-Some.field-0.1.now c.in-Some.ensures.cut c.in-Some.ensures.first in
    sym (ap (λ fields. event_in (look_of c.args.names.now.runs) (c.args.kind.now ∷ c.args.a.now ∷ c.args.b.now ∷ c.args.c.now ∷ fields)) cut
    ∙ six_spell_nothing (look_of c.args.names.now.runs) c.args.kind.now c.args.a.now c.args.b.now c.args.c.now c.in-Some.field-0.0.now c.in-Some.field-0.1.now)

pub returns-in-None-clause-cause : goal.returns-in-None-clause-cause
returns-in-None-clause-cause c =
    subst (λ fields. IfErr c.by_five.result (λ why. fault_in (look_of c.args.names.now.runs) (c.args.kind.now ∷ c.args.a.now ∷ c.args.b.now ∷ c.args.c.now ∷ fields) ≡ Some why))
    (sym (only_field c.args.rest.now c.in-None.ensures.uncut)) c.by_five.ensures.cause

pub returns-in-Some-clause-cause : goal.returns-in-Some-clause-cause
returns-in-Some-clause-cause c =
    let cut = first_field c.args.rest.now c.in-Some.field-0.0.now c.in-Some.field-0.1.now c.in-Some.ensures.cut c.in-Some.ensures.first in
    ap (λ fields. fault_in (look_of c.args.names.now.runs) (c.args.kind.now ∷ c.args.a.now ∷ c.args.b.now ∷ c.args.c.now ∷ fields)) cut
    ∙ six_unformed (look_of c.args.names.now.runs) c.args.kind.now c.args.a.now c.args.b.now c.args.c.now c.in-Some.field-0.0.now c.in-Some.field-0.1.now
