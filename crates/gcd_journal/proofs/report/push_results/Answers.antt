use Rattle.std.proofs.Common.{length, arith, string_bytes}
use Rattle.gcd_history.specs.Report.{result_line}
use Rattle.gcd_journal.proofs.ReportLines.{lines_none, line_more, lines_all}
use Rattle.gcd_journal.proofs.report.push_results.Goals as goal

pub loop-b-init : goal.loop-b-init
loop-b-init c = λ h value stands are. lines_none (result_line c.args.plan.now value h) (string_bytes c.args.text.now)

pub loop-b-preserved : goal.loop-b-preserved
loop-b-preserved c = λ h value stands are.
    line_more (result_line c.args.plan.now value h) c.loop-b.b (string_bytes c.args.text.now) (string_bytes c.loop-b.text) (string_bytes c.push_result_line.new.text) (c.loop-b.invariant h value stands are) (c.in_ok-push_result_line.ensures h value stands are)

pub returns : goal.returns
returns c = λ h value stands are.
    lines_all (result_line c.args.plan.now value h) c.loop-b.b (length c.args.plan.now.blocks) (string_bytes c.args.text.now) (string_bytes c.loop-b.text) (omega arith) (c.loop-b.invariant h value stands are)
