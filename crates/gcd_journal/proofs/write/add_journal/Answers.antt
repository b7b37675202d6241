use Rattle.std.proofs.Common.{◌≡◌, ◌++◌, ◌∙◌, take, length, ap, append_assoc, subst, sym}
use Rattle.std.specs.List.{flat_map}
use Rattle.std.proofs.lemmas.List.{take_all}
use Rattle.std.proofs.lemmas.Result.{on_ok_weaker}
use Rattle.std.proofs.lemmas.Option.{slice_get-get_or}
use Rattle.gcd_history.specs.JournalText.{event_line, count_line, journal_text}
use Rattle.gcd_journal.specs.Spoken.{IsNamed}
use Rattle.gcd_journal.proofs.write.add_journal.Goals as goal

pub add_event-requires : goal.add_event-requires
add_event-requires c =
    subst (IsNamed c.args.plan.now) (sym (c.event.ensures.exact ∙ c.e-item.is))
    (c.requires c.loop-e.e-index _ (slice_get-get_or c.args.events.now c.loop-e.e-index _ c.loop-e-test.true)).named

pub returns-clause-ok : goal.returns-clause-ok
unfolding journal_text
returns-clause-ok c =
    let all : take c.loop-e.e-index c.args.events.now ≡ c.args.events.now = take_all c.loop-e.e-index c.args.events.now c.loop-e-test.false in
    let before : c.loop-e.into.items ≡ c.args.into.now.items ++ flat_map (event_line c.args.plan.now) c.args.events.now =
    c.loop-e.invariant ∙ ap (λ h. c.args.into.now.items ++ flat_map (event_line c.args.plan.now) h) all in
    on_ok_weaker c.add_count.result
    (λ (is : c.add_count.new.into.items ≡ c.loop-e.into.items ++ count_line (length c.args.events.now)).
    is ∙ ap (λ l. l ++ count_line (length c.args.events.now)) before ∙ append_assoc c.args.into.now.items (flat_map (event_line c.args.plan.now) c.args.events.now) (count_line (length c.args.events.now)))
    c.add_count.ensures.ok
