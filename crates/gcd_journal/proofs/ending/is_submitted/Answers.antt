use Rattle.std.proofs.Common.{◌∙◌, ap, sym, is_some}
use Rattle.gcd_history.specs.History.{is_submitted}
use Rattle.gcd_machine.proofs.Views.Calls.{valid_stands}
use Rattle.gcd_journal.proofs.ReportLines.{main_submitted, others_submitted}
use Rattle.gcd_journal.proofs.ending.is_submitted.Goals as goal

pub returns-then-b-eq0 : goal.returns-then-b-eq0
returns-then-b-eq0 c = λ plan h stands. sym (ap (is_submitted plan h) c.if-b-eq0.true ∙ main_submitted plan h)

pub returns : goal.returns
returns c = λ plan h stands.
    c.is_some.ensures ∙ ap is_some (c.node_of.ensures plan h stands) ∙ others_submitted plan h c.args.b.0 (valid_stands c.args.machine.now plan h stands) c.if-b-eq0.false
