use Rattle.std.proofs.Common.{◌≡◌, ◌++◌, ◌∷◌, ◌∙◌, [], None, take, length, ap, sym, subst, arith}
use Rattle.std.proofs.lemmas.List.{take_more, length-take-le}
use Rattle.gcd_event.specs.declared.event.Event.{Event}
use Rattle.gcd_history.specs.History.{why}
use Rattle.gcd_machine.specs.Stands.{StandsFor}
use Rattle.gcd_journal.specs.Totals.{AreTotals}
use Rattle.gcd_journal.proofs.TotalsOf.{none_delivered, allowed_at}
use Rattle.gcd_journal.proofs.totals.replayed.Goals as goal

pub loop-e-init : goal.loop-e-init
loop-e-init c = record {
  stands = c.in_ok-machine.ensures.stands;
  totals = none_delivered c.args.plan.now c.in_ok-totals.totals.items (rw c.objects.ensures.count at c.in_ok-totals.ensures);
}

pub apply-requires : goal.apply-requires
apply-requires c =
    let h = take c.loop-e.e-index c.args.events.now in
    let short : length h ≡ c.loop-e.e-index = length-take-le c.loop-e.e-index c.args.events.now (omega arith) in
    let few = c.requires.few in
    record {
      plan = c.args.plan.now;
      history = h;
      stands = c.loop-e.invariant.stands;
      permitted = subst (λ (e : Event). why c.args.plan.now h e ≡ None) (sym (c.event-event.ensures.exact ∙ c.e-item.is)) (allowed_at c.args.plan.now c.args.events.now c.loop-e.e-index _ c.requires.lawful c.loop-e-test.true);
      room = omega arith;
    }

pub note-requires : goal.note-requires
note-requires c =
    let plan = c.args.plan.now in
    let h = take c.loop-e.e-index c.args.events.now in
    let short : length h ≡ c.loop-e.e-index = length-take-le c.loop-e.e-index c.args.events.now (omega arith) in
    let few = c.requires.few in
    let permitted : why plan h c.event-event.result ≡ None = subst (λ (e : Event). why plan h e ≡ None) (sym (c.event-event.ensures.exact ∙ c.e-item.is)) (allowed_at plan c.args.events.now c.loop-e.e-index _ c.requires.lawful c.loop-e-test.true) in
    record {
      history = h;
      stands = c.apply.ensures.stands plan h c.loop-e.invariant.stands permitted;
      permitted = permitted;
      totals_are = c.loop-e.invariant.totals;
      room = omega arith;
    }

pub loop-e-preserved : goal.loop-e-preserved
loop-e-preserved c =
    let plan = c.args.plan.now in
    let h = take c.loop-e.e-index c.args.events.now in
    let permitted : why plan h c.event-event.result ≡ None = subst (λ (e : Event). why plan h e ≡ None) (sym (c.event-event.ensures.exact ∙ c.e-item.is)) (allowed_at plan c.args.events.now c.loop-e.e-index _ c.requires.lawful c.loop-e-test.true) in
    let stands = c.apply.ensures.stands plan h c.loop-e.invariant.stands permitted in
    let more = ap (λ (e : Event). h ++ e ∷ []) (c.event-event.ensures.exact ∙ c.e-item.is) ∙ sym (take_more c.args.events.now c.loop-e.e-index _ c.loop-e-test.true) in
    record {
      stands = subst (StandsFor c.apply.new.self plan) more stands;
      totals = subst (λ g. AreTotals plan g c.note.new.totals.items) more (c.note.ensures h stands permitted c.loop-e.invariant.totals);
    }
