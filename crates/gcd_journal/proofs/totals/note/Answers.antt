use Rattle.std.proofs.Common.{◌∙◌, ◌++◌, ◌∷◌, [], length, ap, arith}
use Rattle.gcd_machine.proofs.Views.Calls.{plan_stands, valid_stands}
use Rattle.gcd_journal.specs.declared.totals.Total.{Total}
use Rattle.gcd_journal.proofs.TotalsOf.{delivered_source, delivery_of, other_event}
use Rattle.gcd_journal.proofs.totals.note.Goals as goal

pub kind-requires : goal.kind-requires
kind-requires c =
    delivered_source c.args.plan.now c.requires.history c.args.e c.in-Some.ensures.0 c.in-Some.src
    (valid_stands c.args.machine.now c.args.plan.now (c.requires.history ++ c.args.e ∷ []) c.requires.stands) c.requires.permitted c.in-Some.ensures.1

pub index-requires : goal.index-requires
index-requires c =
    let within =
    delivered_source c.args.plan.now c.requires.history c.args.e c.in-Some.ensures.0 c.in-Some.src
    (valid_stands c.args.machine.now c.args.plan.now (c.requires.history ++ c.args.e ∷ []) c.requires.stands) c.requires.permitted c.in-Some.ensures.1 in
    let count = c.requires.totals_are.count in
    omega arith

pub index_mut-requires : goal.index_mut-requires
index_mut-requires c =
    let within =
    delivered_source c.args.plan.now c.requires.history c.args.e c.in-Some.ensures.0 c.in-Some.src
    (valid_stands c.args.machine.now c.args.plan.now (c.requires.history ++ c.args.e ∷ []) c.requires.stands) c.requires.permitted c.in-Some.ensures.1 in
    let count = c.requires.totals_are.count in
    omega arith

pub data_of-requires : goal.data_of-requires
data_of-requires c =
    let within =
    delivered_source c.args.plan.now c.requires.history c.args.e c.in-Some.ensures.0 c.in-Some.src
    (valid_stands c.args.machine.now c.args.plan.now (c.requires.history ++ c.args.e ∷ []) c.requires.stands) c.requires.permitted c.in-Some.ensures.1 in
    let own = ap (λ p. length p.objects) (plan_stands c.args.machine.now c.args.plan.now (c.requires.history ++ c.args.e ∷ []) c.requires.stands) in
    omega arith

pub with_delivery-requires-clause-times : goal.with_delivery-requires-clause-times
with_delivery-requires-clause-times c =
    let within =
    delivered_source c.args.plan.now c.requires.history c.args.e c.in-Some.ensures.0 c.in-Some.src
    (valid_stands c.args.machine.now c.args.plan.now (c.requires.history ++ c.args.e ∷ []) c.requires.stands) c.requires.permitted c.in-Some.ensures.1 in
    let total = c.index.ensures ∙ c.requires.totals_are.each c.in-Some.src.0 c.index.result.now within in
    let times = ap (λ (t : Total). t.times) total in
    let few = c.requires.totals_are.few c.in-Some.src.0 within in
    let room = c.requires.room in
    omega arith

pub with_delivery-requires-clause-value : goal.with_delivery-requires-clause-value
with_delivery-requires-clause-value c =
    let within =
    delivered_source c.args.plan.now c.requires.history c.args.e c.in-Some.ensures.0 c.in-Some.src
    (valid_stands c.args.machine.now c.args.plan.now (c.requires.history ++ c.args.e ∷ []) c.requires.stands) c.requires.permitted c.in-Some.ensures.1 in
    let total = c.index.ensures ∙ c.requires.totals_are.each c.in-Some.src.0 c.index.result.now within in
    let value = ap (λ (t : Total). t.value) total in
    let low = c.requires.totals_are.low c.in-Some.src.0 within in
    let room = c.requires.room in
    omega arith

pub returns-in-None : goal.returns-in-None
returns-in-None c = λ h stands permitted are. other_event c.args.plan.now h c.args.e c.args.totals.now.items c.in-None.ensures are

pub returns-in-Some : goal.returns-in-Some
returns-in-Some c = λ h stands permitted are.
    let within = delivered_source c.args.plan.now h c.args.e c.in-Some.ensures.0 c.in-Some.src
    (valid_stands c.args.machine.now c.args.plan.now (h ++ c.args.e ∷ []) stands) permitted c.in-Some.ensures.1 in
    delivery_of c.args.plan.now h c.args.e c.in-Some.ensures.0 c.in-Some.src c.args.totals.now.items c.kind.result c.data_of.result c.index.result.now c.with_delivery.result
    c.in-Some.ensures.1 within c.kind.ensures (c.data_of.ensures c.args.plan.now (h ++ c.args.e ∷ []) stands) (omega arith) are c.index.ensures c.with_delivery.ensures
