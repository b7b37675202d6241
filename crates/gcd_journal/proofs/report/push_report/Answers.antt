use Rattle.std.proofs.Common.{◌≡◌, ◌∙◌, ◌++◌, length, ap, string_bytes}
use Rattle.std.specs.List.{flat_map, range_with_len}
use Rattle.std.proofs.lemmas.Result.{on_ok_weaker}
use Rattle.gcd_history.specs.Report.{result_line, report_by}
use Rattle.gcd_history.proofs.Permitted.OneState.{one_state}
use Rattle.gcd_machine.proofs.Views.Calls.{plan_stands}
use Rattle.gcd_journal.specs.JobsReport.{ending}
use Rattle.gcd_journal.proofs.ReportLines.{two_parts}
use Rattle.gcd_journal.proofs.report.push_report.Goals as goal

pub push_results-requires-clause-own : goal.push_results-requires-clause-own
push_results-requires-clause-own c = plan_stands c.args.machine.now c.args.plan.now c.args.events.now c.requires.stands

pub returns : goal.returns
unfolding report_by
returns c = λ value state has are.
    let plan = c.args.plan.now in
    let h = c.args.events.now in
    let stands = c.requires.stands in
    let same : c.state.result ≡ state = one_state plan h c.state.result state (c.state.ensures plan h stands) has in
    on_ok_weaker c.push_ending.result
    (λ (last : string_bytes c.push_ending.new.text ≡ string_bytes c.push_results.new.text ++ ending plan c.state.result h).
    two_parts (string_bytes c.args.text.now) (string_bytes c.push_results.new.text) (string_bytes c.push_ending.new.text)
    (flat_map (result_line plan value h) (range_with_len 0 (length plan.blocks))) (ending plan state h)
    (c.in_ok-push_results.ensures h value stands are)
    (last ∙ ap (λ s. string_bytes c.push_results.new.text ++ ending plan s h) same))
    c.push_ending.ensures
