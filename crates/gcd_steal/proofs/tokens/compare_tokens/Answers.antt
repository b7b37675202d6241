use Rattle.std.proofs.Common.{◌≡◌, ◌≤◌, ◌∷◌, [], ℕ, rules, ap, subst}
use Rattle.gcd_steal.specs.declared.tokens.Rights.{Rights}
use Rattle.gcd_steal.specs.Tokens.{rights, times_in}
use Rattle.gcd_steal.proofs.Issuing.{joins, looks, splits, two_nodes}
use Rattle.gcd_steal.proofs.tokens.compare_tokens.Goals as goal

pub join_seat-requires : goal.join_seat-requires
join_seat-requires c = (search rules, search rules, search rules, search rules, joins _ _ _ _)

pub load-requires : goal.load-requires
load-requires c = (search rules, search rules, looks _ _ _)

pub split_seat-first-requires : goal.split_seat-first-requires
split_seat-first-requires c = (search rules, search rules, splits _ _)

pub returns-clause-apart : goal.returns-clause-apart
returns-clause-apart c = λ same.
    let both : c.join_seat.new.seat.me.0 ≡ rights (c.args.node.0 ∷ c.args.far.0 ∷ []) = search rules in
    two_nodes c.args.node.0 c.args.far.0 (subst (λ (v : Rights). (node : ℕ) → times_in node v ≤ 1) both c.load.ensures.2.1) (ap (λ o. o.0) same)
