use Rattle.std.proofs.Common.{length, arith, string_bytes}
use Rattle.gcd_journal.specs.JobsReport.{job_line, job_value}
use Rattle.gcd_journal.proofs.ReportLines.{lines_none, line_more, lines_all}
use Rattle.gcd_journal.proofs.report_of_jobs.push_job_lines.Goals as goal

pub loop-b-init : goal.loop-b-init
loop-b-init c = λ h stands. lines_none (job_line c.args.plan.now (job_value c.args.values.now) h) (string_bytes c.args.text.now)

pub loop-b-preserved : goal.loop-b-preserved
loop-b-preserved c = λ h stands.
    line_more (job_line c.args.plan.now (job_value c.args.values.now) h) c.loop-b.b (string_bytes c.args.text.now) (string_bytes c.loop-b.text) (string_bytes c.push_job_line.new.text) (c.loop-b.invariant h stands) (c.in_ok-push_job_line.ensures h stands)

pub returns : goal.returns
returns c = λ h stands.
    lines_all (job_line c.args.plan.now (job_value c.args.values.now) h) c.loop-b.b (length c.args.plan.now.blocks) (string_bytes c.args.text.now) (string_bytes c.loop-b.text) (omega arith) (c.loop-b.invariant h stands)
