use Rattle.std.proofs.Common.{◌≡◌, ◌++◌, length, string_bytes}
use Rattle.std.specs.List.{flat_map, range_with_len}
use Rattle.std.proofs.lemmas.Result.{on_ok_weaker}
use Rattle.gcd_machine.proofs.Views.Calls.{plan_stands}
use Rattle.gcd_journal.specs.JobsReport.{ending, job_line, job_value, jobs_report}
use Rattle.gcd_journal.proofs.ReportLines.{two_parts}
use Rattle.gcd_journal.proofs.report_of_jobs.push_jobs_report.Goals as goal

pub push_job_lines-requires : goal.push_job_lines-requires
push_job_lines-requires c = plan_stands c.args.machine.now c.args.plan.now c.args.events.now c.requires.stands

pub returns : goal.returns
unfolding jobs_report
returns c =
    let plan = c.args.plan.now in
    let h = c.args.events.now in
    on_ok_weaker c.push_ending.result
    (λ (last : string_bytes c.push_ending.new.text ≡ string_bytes c.push_job_lines.new.text ++ ending plan c.args.state h).
    two_parts (string_bytes c.args.text.now) (string_bytes c.push_job_lines.new.text) (string_bytes c.push_ending.new.text)
    (flat_map (job_line plan (job_value c.args.values.now) h) (range_with_len 0 (length plan.blocks))) (ending plan c.args.state h)
    (c.in_ok-push_job_lines.ensures h c.requires.stands) last)
    c.push_ending.ensures
