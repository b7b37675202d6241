use Rattle.std.proofs.Common.{length, arith, string_bytes}
use Rattle.gcd_history.specs.Report.{source_line}
use Rattle.gcd_journal.proofs.ReportLines.{lines_none, line_more, lines_all}
use Rattle.gcd_journal.proofs.ending.push_sources.Goals as goal

pub loop-s-init : goal.loop-s-init
loop-s-init c = λ h stands are. lines_none (source_line c.args.plan.now h) (string_bytes c.args.text.now)

pub loop-s-preserved : goal.loop-s-preserved
loop-s-preserved c = λ h stands are.
    line_more (source_line c.args.plan.now h) c.loop-s.s (string_bytes c.args.text.now) (string_bytes c.loop-s.text) (string_bytes c.push_source_line.new.text) (c.loop-s.invariant h stands are) (c.in_ok-push_source_line.ensures h stands are)

pub returns : goal.returns
returns c = λ h stands are.
    lines_all (source_line c.args.plan.now h) c.loop-s.s (length c.args.plan.now.objects) (string_bytes c.args.text.now) (string_bytes c.loop-s.text) (omega arith) (c.loop-s.invariant h stands are)
