use Rattle.std.proofs.Common.{◌∙◌, ap, sym, is_some}
use Rattle.gcd_history.specs.History.{is_submitted}
use Rattle.gcd_machine.proofs.Views.Calls.{valid_stands}
use Rattle.gcd_journal.proofs.ReportLines.{main_submitted, others_submitted}
use Rattle.gcd_timeline.proofs.BlockCases.{that_started, that_waits, that_is_not_submitted}
use Rattle.gcd_timeline.proofs.standing.standing_after.Goals as goal

pub returns-then-is_started : goal.returns-then-is_started
returns-then-is_started c = λ plan h stands. sym (that_started plan h c.args.b.0 (sym (c.is_started.ensures plan h stands) ∙ c.if-is_started.true))

pub returns-then-b-eq0 : goal.returns-then-b-eq0
returns-then-b-eq0 c = λ plan h stands.
    sym
    (that_waits plan h c.args.b.0 (sym (c.is_started.ensures plan h stands) ∙ c.if-is_started.false)
    (ap (is_submitted plan h) c.if-b-eq0.true ∙ main_submitted plan h))

pub returns-then-is_some : goal.returns-then-is_some
returns-then-is_some c = λ plan h stands.
    let submitted = sym (others_submitted plan h c.args.b.0 (valid_stands c.args.machine.now plan h stands) c.if-b-eq0.false)
    ∙ sym (ap is_some (c.node_of.ensures plan h stands)) ∙ sym c.is_some.ensures ∙ c.if-is_some.true in
    sym (that_waits plan h c.args.b.0 (sym (c.is_started.ensures plan h stands) ∙ c.if-is_started.false) submitted)

pub returns : goal.returns
returns c = λ plan h stands.
    let submitted = sym (others_submitted plan h c.args.b.0 (valid_stands c.args.machine.now plan h stands) c.if-b-eq0.false)
    ∙ sym (ap is_some (c.node_of.ensures plan h stands)) ∙ sym c.is_some.ensures ∙ c.if-is_some.false in
    sym (that_is_not_submitted plan h c.args.b.0 (sym (c.is_started.ensures plan h stands) ∙ c.if-is_started.false) submitted)
