use Rattle.std.proofs.Common.{◌∙◌, ap, sym, arith}
use Rattle.std.proofs.lemmas.Bool.{lt-leb}
use Rattle.gcd_timer.specs.Listed.{is_reached}
use Rattle.gcd_timer.proofs.Nexts.{none_reached, is_there}
use Rattle.gcd_timer.proofs.timers.reached.Goals as goal

pub returns-in_err-least-clause-none : goal.returns-in_err-least-clause-none
returns-in_err-least-clause-none c = λ none s.
    none_reached c.args.t c.args.nexts.now (ap (is_reached c.args.t) (sym c.least.ensures ∙ c.in_err-least.was)) s

pub returns-then-branch-t-clause-none : goal.returns-then-branch-t-clause-none
returns-then-branch-t-clause-none c = λ none s.
    none_reached c.args.t c.args.nexts.now
    (ap (is_reached c.args.t) (sym c.least.ensures ∙ c.in_ok-least.was) ∙ lt-leb c.in_ok-least.field-0 c.args.t (omega (arith, c.if-branch-t.true))) s

pub returns-clause-there : goal.returns-clause-there
returns-clause-there c =
    is_there c.args.t c.args.nexts.now c.in_ok-s.s c.in_ok-least.field-0 c.in_ok-s.ensures.there (sym c.least.ensures ∙ c.in_ok-least.was)
    (omega (arith, c.if-branch-t.false))
