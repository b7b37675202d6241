use Rattle.std.proofs.Common.{length, arith, string_bytes}
use Rattle.gcd_history.specs.Report.{unstarted_line}
use Rattle.gcd_journal.proofs.ReportLines.{lines_none, line_more, lines_all}
use Rattle.gcd_journal.proofs.ending.push_all_unstarted.Goals as goal

pub loop-b-init : goal.loop-b-init
loop-b-init c = λ h stands. lines_none (unstarted_line c.args.plan.now h) (string_bytes c.args.text.now)

pub loop-b-preserved : goal.loop-b-preserved
loop-b-preserved c = λ h stands.
    line_more (unstarted_line c.args.plan.now h) c.loop-b.b (string_bytes c.args.text.now) (string_bytes c.loop-b.text) (string_bytes c.push_unstarted_line.new.text) (c.loop-b.invariant h stands) (c.in_ok-push_unstarted_line.ensures h stands)

pub returns : goal.returns
returns c = λ h stands.
    lines_all (unstarted_line c.args.plan.now h) c.loop-b.b (length c.args.plan.now.blocks) (string_bytes c.args.text.now) (string_bytes c.loop-b.text) (omega arith) (c.loop-b.invariant h stands)
