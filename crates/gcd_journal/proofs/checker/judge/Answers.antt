use Rattle.std.proofs.Common.{◌≡◌, ◌++◌, ◌∷◌, ◌∙◌, [], true, take, length, get_or, is_some, ap, sym, subst, arith}
use Rattle.std.proofs.lemmas.List.{take_more, take_all, length-take-le}
use Rattle.std.proofs.lemmas.Option.{slice_get-get_or}
use Rattle.gcd_plan.proofs.Options.{none_from_is_some}
use Rattle.gcd_event.specs.declared.event.Event.{Event}
use Rattle.gcd_history.specs.History.{why}
use Rattle.gcd_machine.specs.Stands.{StandsFor}
use Rattle.gcd_machine.proofs.Views.Calls.{lawful_stands}
use Rattle.gcd_journal.proofs.checker.judge.Goals as goal

pub apply-requires : goal.apply-requires
apply-requires c =
    let plan = c.args.plan.now in
    let h = take c.loop-index.index c.args.events.now in
    let short : length h ≡ c.loop-index.index = length-take-le c.loop-index.index c.args.events.now (omega arith) in
    let few = c.requires.few in
    record {
      plan = plan;
      history = h;
      stands = c.loop-index.invariant;
      permitted = sym (c.permits.ensures plan h c.loop-index.invariant) ∙ none_from_is_some c.permits.result (sym c.is_some.ensures ∙ c.if-is_some.false);
      room = omega arith;
    }

pub loop-index-preserved : goal.loop-index-preserved
loop-index-preserved c =
    let plan = c.args.plan.now in
    let h = take c.loop-index.index c.args.events.now in
    let none = sym (c.permits.ensures plan h c.loop-index.invariant) ∙ none_from_is_some c.permits.result (sym c.is_some.ensures ∙ c.if-is_some.false) in
    subst (StandsFor c.apply.new.self plan)
    (ap (λ (e : Event). h ++ e ∷ []) (c.event-event.ensures.exact ∙ c.index-events-index.is) ∙ sym (take_more c.args.events.now c.loop-index.index _ c.loop-index-test.true))
    (c.apply.ensures.stands plan h c.loop-index.invariant none)

pub returns-then-is_some : goal.returns-then-is_some
returns-then-is_some c =
    let plan = c.args.plan.now in
    let h = take c.loop-index.index c.args.events.now in (
      record {
        event = get_or c.args.events.now c.loop-index.index _;
        there = slice_get-get_or c.args.events.now c.loop-index.index _ c.loop-index-test.true;
        front = lawful_stands c.loop-index.machine plan h c.loop-index.invariant;
        barred =
            subst (λ (e : Event). is_some (why plan h e) ≡ true) (c.event-event.ensures.exact ∙ c.index-events-index.is)
            (ap is_some (sym (c.permits.ensures plan h c.loop-index.invariant)) ∙ sym c.is_some.ensures ∙ c.if-is_some.true);
      },
      c.loop-index.invariant,
    )

pub returns : goal.returns
returns c =
    let plan = c.args.plan.now in
    let h = take c.loop-index.index c.args.events.now in
    let all : h ≡ c.args.events.now = take_all c.loop-index.index c.args.events.now c.loop-index-test.false in
    let stands = subst (StandsFor c.loop-index.machine plan) all c.loop-index.invariant in
    (lawful_stands c.loop-index.machine plan c.args.events.now stands, stands)
