use Rattle.std.proofs.Common.{◌≡◌, ◌++◌, length, string_bytes}
use Rattle.std.specs.List.{flat_map, range_with_len}
use Rattle.std.proofs.lemmas.Result.{on_ok_weaker}
use Rattle.gcd_history.specs.Report.{source_line, stuck_lines, last_line}
use Rattle.gcd_machine.proofs.Views.Calls.{plan_stands, valid_stands, lawful_stands}
use Rattle.gcd_journal.proofs.LawfulSpoken.{lawful_spoken}
use Rattle.gcd_journal.proofs.ReportLines.{three_parts}
use Rattle.gcd_journal.proofs.ending.push_ending.Goals as goal

pub push_sources-requires-clause-own : goal.push_sources-requires-clause-own
push_sources-requires-clause-own c = plan_stands c.args.machine.now c.args.plan.now c.args.events.now c.requires.stands

pub push_left-requires : goal.push_left-requires
push_left-requires c = plan_stands c.args.machine.now c.args.plan.now c.args.events.now c.requires.stands

pub push_last-requires : goal.push_last-requires
push_last-requires c =
    lawful_spoken c.args.plan.now c.args.events.now
    (valid_stands c.args.machine.now c.args.plan.now c.args.events.now c.requires.stands)
    (lawful_stands c.args.machine.now c.args.plan.now c.args.events.now c.requires.stands)

pub returns : goal.returns
returns c =
    let plan = c.args.plan.now in
    let h = c.args.events.now in
    let state = c.args.state in
    let stands = c.requires.stands in
    on_ok_weaker c.push_last.result
    (λ (last : string_bytes c.push_last.new.text ≡ string_bytes c.push_left.new.text ++ last_line plan state h).
    three_parts (string_bytes c.args.text.now) (string_bytes c.push_sources.new.text) (string_bytes c.push_left.new.text) (string_bytes c.push_last.new.text)
    (flat_map (source_line plan h) (range_with_len 0 (length plan.objects))) (stuck_lines plan state h) (last_line plan state h)
    (c.in_ok-push_sources.ensures h stands c.requires.totals) (c.in_ok-push_left.ensures h stands) last)
    c.push_last.ensures
