use Rattle.std.proofs.Common.{◌∙◌, arith, sym}
use Rattle.gcd_turn.proofs.HistoryMore.{unquiet_at_choice}
use Rattle.gcd_turn.proofs.steps.is_over.Goals as goal

pub returns-then-is_some-clause-goes_on : goal.returns-then-is_some-clause-goes_on
returns-then-is_some-clause-goes_on c = λ plan h stands same.
    record {
      going_on = record {
        unhalted = sym (c.is_halted.ensures plan h stands) ∙ c.if-is_halted.false;
        unquiet = unquiet_at_choice plan h c.args.chosen (c.requires plan h stands) (sym c.is_some.ensures ∙ c.if-is_some.true);
      };
      room = omega (arith, c.if-len-most.false, c.len.ensures plan h stands);
    }
