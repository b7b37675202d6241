use Rattle.std.proofs.Common.{◌≡◌, ℕ, ◌+◌, get_or, length, replicate, rules, arith, ap, ◌∙◌, sym, subst}
use Rattle.gcd_steal.specs.Tokens.{AreTokens}
use Rattle.gcd_steal.proofs.Placing.{all_sleep, twins, ones}
use Rattle.gcd_steal.proofs.lay.lay_all.Goals as goal

pub new-requires : goal.new-requires
new-requires c = let n : ℕ = length c.args.plan.now.objects + 8 in let w = c.in_ok-words.ensures in let issued = c.in_ok-table.ensures in let e = c.deref.ensures.value in
    let r : c.deref.result.now ≡ replicate n 1 = search (rules, w, e) in
    all_sleep _ c.deref.result.now _ (omega (arith, c.deref.ensures.len, w.len, issued.count)) (λ i near. ap (λ l. get_or l i 0) r ∙ ones n i (omega (arith, ap length r))) (subst (λ z. AreTokens z c.in_ok-table.field-0.each.items) (sym issued.issuer) issued.each)

pub split_seat-requires : goal.split_seat-requires
split_seat-requires c = (search rules, search rules, twins _ _ _)
