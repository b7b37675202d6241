-- What a step of worker 0 keeps, whose pool is as it was.
use Rattle.std.proofs.Common.{◌≡◌, ℕ, subst, sym}
use Rattle.gcd_row.specs.Shapes.{Shape}
use Rattle.gcd_pool.specs.Leads.{Leads}
use Rattle.gcd_pool.specs.declared.hand.Hand.{Hand}
use Rattle.gcd_pool.specs.declared.hand.Pool.{Pool}

pub leads_in : {S : Type 0} (shape : S → Shape) (gives : S → ℕ → Type 0) (first now : Pool S) (a b c : Hand S) → now ≡ first
    → (Leads shape gives now a b → Leads shape gives now a c) → Leads shape gives first a b → Leads shape gives first a c
leads_in {S} shape gives first now a b c same step led =
    subst (λ (p : Pool S). Leads shape gives p a c) same (step (subst (λ (p : Pool S). Leads shape gives p a b) (sym same) led))
