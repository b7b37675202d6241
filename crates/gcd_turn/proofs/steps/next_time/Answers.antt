use Rattle.std.proofs.Common.{◌≡◌, ◌∙◌, Some, ap, sym, arith, min}
use Rattle.gcd_history.specs.History.{next_due_of}
use Rattle.gcd_turn.proofs.TimeLemmas.{due_is_ahead}
use Rattle.gcd_turn.proofs.steps.next_time.Goals as goal

pub returns-clause-time : goal.returns-clause-time
returns-clause-time g c = λ h stands.
    let is_due : next_due_of c.args.plan.now h ≡ Some c.in-Some.due = sym (c.in-Some.ensures c.args.plan.now h stands) in
    let ahead = due_is_ahead c.args.plan.now h c.in-Some.due is_due in
    record {
      passed = c.saturating_sub-passed.result;
      due = c.in-Some.due;
      is_due = is_due;
      has_come = omega arith;
      not_ahead = omega (arith, c.now.ensures.goes_on, ahead);
      at = c.min.ensures ∙ ap (min c.saturating_sub-passed.result) (c.from.ensures ∙ c.until.ensures);
    }
