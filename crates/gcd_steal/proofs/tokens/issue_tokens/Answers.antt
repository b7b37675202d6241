use Rattle.std.proofs.Common.{◌∷◌, [], length, rules, ap, sym, subst}
use Rattle.gcd_steal.specs.Tokens.{AreTokens}
use Rattle.gcd_steal.proofs.Issuing.{opens, splits, one_more, next_issued}
use Rattle.gcd_steal.proofs.tokens.issue_tokens.Goals as goal

pub of_words-requires : goal.of_words-requires
of_words-requires c = opens {S = Unit {0}} (0 ∷ []) [] (length c.args.plan.now.objects)

pub split_seat-requires : goal.split_seat-requires
split_seat-requires c = (search rules, search rules, splits _ _)

pub loop-number-preserved : goal.loop-number-preserved
loop-number-preserved c = let split = c.split_seat.ensures in
    let next = next_issued c.loop-number._number c.objects-count.result c.loop-number.issuer.me c.split_seat.new.seat.me c.split_seat.result.me.0 c.loop-number-test.true c.loop-number.invariant.left split.2 (ap (λ m. m.0) split.4) in
    record {
      table = search rules;
      left = next.0;
      count = search rules;
      each = subst (AreTokens _) (sym c.in_ok-push.ensures.items) (one_more _ c.loop-number.each.items c.into_badge.result c.loop-number.invariant.each (search rules, search (rules, next.1)));
    }
