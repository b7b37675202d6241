use Rattle.std.proofs.Common.{◌≡◌, ◌++◌, ◌∷◌, [], List, ℕ, Bor, length, map, sym, ap, ◌∙◌, arith}
use Rattle.std.proofs.lemmas.Bool.{eqb-true}
use Rattle.gcd_text.proofs.Parts.{first_field, only_field, one_pushed, one_last, past_all}
use Rattle.gcd_text.specs.Fields.{fields_of}
use Rattle.gcd_text.proofs.cuts.fields.Goals as goal

pub returns-then-is_full-clause-many : goal.returns-then-is_full-clause-many
returns-then-is_full-clause-many c =
    let next = first_field c.loop-field.rest.now c.in-Some.field.now c.in-Some.more.now c.in-Some.ensures.cut c.in-Some.ensures.first in
    let full : length c.loop-field.fields.items ≡ 5 = eqb-true (length c.loop-field.fields.items) 5 (sym c.is_full.ensures.value ∙ c.if-is_full.true) in
    past_all c.loop-field.fields.items (c.in-Some.field.now ∷ fields_of c.in-Some.more.now) (fields_of c.args.line.now) 5 full (omega arith)
    (ap (λ ys. map (λ (f : Bor (List ℕ)). f.now) c.loop-field.fields.items ++ ys) (sym next) ∙ c.loop-field.invariant)

pub loop-field-preserved : goal.loop-field-preserved
loop-field-preserved c =
    let next = first_field c.loop-field.rest.now c.in-Some.field.now c.in-Some.more.now c.in-Some.ensures.cut c.in-Some.ensures.first in
    rw c.push.ensures.items
    (one_pushed c.loop-field.fields.items c.in-Some.field (fields_of c.in-Some.more.now)
    ∙ ap (λ ys. map (λ (f : Bor (List ℕ)). f.now) c.loop-field.fields.items ++ ys) (sym next) ∙ c.loop-field.invariant)

pub returns-then-is_full-2-clause-many : goal.returns-then-is_full-2-clause-many
returns-then-is_full-2-clause-many c =
    let last = only_field c.loop-field.rest.now c.in_default.ensures.uncut in
    let full : length c.loop-field.fields.items ≡ 5 = eqb-true (length c.loop-field.fields.items) 5 (sym c.is_full-2.ensures.value ∙ c.if-is_full-2.true) in
    past_all c.loop-field.fields.items (c.loop-field.rest.now ∷ []) (fields_of c.args.line.now) 5 full (omega arith)
    (ap (λ ys. map (λ (f : Bor (List ℕ)). f.now) c.loop-field.fields.items ++ ys) (sym last) ∙ c.loop-field.invariant)

pub returns-clause-all : goal.returns-clause-all
returns-clause-all c =
    let last = only_field c.loop-field.rest.now c.in_default.ensures.uncut in
    rw c.push-2.ensures.items
    (one_last c.loop-field.fields.items c.loop-field.rest
    ∙ ap (λ ys. map (λ (f : Bor (List ℕ)). f.now) c.loop-field.fields.items ++ ys) (sym last) ∙ c.loop-field.invariant)
