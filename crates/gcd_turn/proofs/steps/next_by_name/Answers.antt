use Rattle.std.proofs.Common.{◌≡◌, true, arith, subst}
use Rattle.gcd_machine.specs.Dues.{is_due_by}
use Rattle.gcd_turn.proofs.steps.next_by_name.Goals as goal

pub returns-else-s-objects : goal.returns-else-s-objects
returns-else-s-objects c = record {
  due = λ h t stands next. record {
    timer = c.in-Timer.s;
    within = omega (arith, c.if-s-objects.false, c.objects.ensures.count);
    named = c.name_of_obj.ensures;
    due = subst (λ d. is_due_by c.args.plan.now h t d ≡ true) c.in-Timer.is (c.in_ok-s.ensures.due c.args.plan.now h t stands next);
  };
}

pub returns-else-b-blocks : goal.returns-else-b-blocks
returns-else-b-blocks c = record {
  due = λ h t stands next. record {
    blk = c.in-Wait.b;
    within = omega (arith, c.if-b-blocks.false, c.blocks-in-Wait.ensures.count);
    named = c.name_of_blk.ensures;
    due = subst (λ d. is_due_by c.args.plan.now h t d ≡ true) c.in-Wait.is (c.in_ok-s.ensures.due c.args.plan.now h t stands next);
  };
}
