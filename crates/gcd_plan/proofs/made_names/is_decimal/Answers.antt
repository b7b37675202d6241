use Rattle.std.proofs.Common.{ap, sym, ◌∙◌, decimal, arith}
use Rattle.std.proofs.lemmas.Bool.{eq-eqb, eqb-true}
use Rattle.std.proofs.lemmas.Fmt.{decimal_injective}
use Rattle.gcd_plan.proofs.made_names.is_decimal.Goals as goal

pub returns-in-Some : goal.returns-in-Some
returns-in-Some c =
    rw c.from.ensures (
      λ same. c.in-Some.ensures.written ∙ ap decimal (eqb-true c.in-Some.m c.args.n same),
      λ is. eq-eqb c.in-Some.m c.args.n (decimal_injective c.in-Some.m c.args.n (omega (arith, c.in-Some.ensures.low)) (omega arith) (sym c.in-Some.ensures.written ∙ is)),
    )
