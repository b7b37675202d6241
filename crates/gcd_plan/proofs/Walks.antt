-- Walks along a chain.
use Rattle.std.proofs.Common.{◌≡◌, ◌≢◌, ◌⊎◌, inl, inr, ⊎_elim, ℕ, zero, suc, ◌+◌, ◌-◌, ◌<◌, ◌≤◌, ◌==◌, true, false, cond, [], ◌∷◌, refl, ap, ◌∙◌, subst, arith}
use Rattle.std.proofs.lemmas.Bool.{eqb-true, eq-eqb, eqb-false, ne_eqb, or_cases, or_left, or_right}
use Rattle.gcd_plan.specs.Chains.{chain_by, is_in}

-- ## What stands in a chain

-- n itself, where there is a step
pub in_first : (next : ℕ → ℕ) (bound n : ℕ) → is_in n (chain_by next (suc bound) n) ≡ true
in_first next bound n = or_left (n == n) _ (eq-eqb n n refl)

pub in_own : (next : ℕ → ℕ) (bound n : ℕ) → 0 < bound → is_in n (chain_by next bound n) ≡ true
in_own next zero n h = absurd (omega arith)
in_own next (suc bound) n h = in_first next bound n

-- what stands in the rest of the chain stands in the chain
pub in_rest : (next : ℕ → ℕ) (bound n o : ℕ) → (n ≡ 0 → ⊥) → is_in o (chain_by next bound (next n)) ≡ true → is_in o (chain_by next (suc bound) n) ≡ true
in_rest next bound n o other inside =
    let on : (n == 0) ≡ false = ne_eqb n 0 other in
    or_right (n == o) _ (ap (λ v. is_in o (cond v [] (chain_by next bound (next n)))) on ∙ inside)

-- what stands in the chain is n, or in the rest, and then n is not 0
pub in_cases : (next : ℕ → ℕ) (bound n o : ℕ) → is_in o (chain_by next (suc bound) n) ≡ true → (n ≡ o) ⊎ ((n ≡ 0 → ⊥) × (is_in o (chain_by next bound (next n)) ≡ true))
in_cases next bound n o inside =
    ⊎_elim
    (λ here. inl (eqb-true n o here))
    (λ there. elim (n == 0) as (λ v. n == 0 ≡ v → is_in o (cond v [] (chain_by next bound (next n))) ≡ true → (n ≡ o) ⊎ ((n ≡ 0 → ⊥) × (is_in o (chain_by next bound (next n)) ≡ true))) [
      | true ↦ λ e k. cc
      | false ↦ λ e k. inr (eqb-false n 0 e, k)
    ] refl there)
    (or_cases (n == o) _ inside)

-- a longer chain has more
pub in_longer : (next : ℕ → ℕ) (short long n o : ℕ) → short ≤ long → is_in o (chain_by next short n) ≡ true → is_in o (chain_by next long n) ≡ true
in_longer next zero long n o le inside = cc
in_longer next (suc short) zero n o le inside = absurd (omega arith)
in_longer next (suc short) (suc long) n o le inside =
    ⊎_elim
    (λ here. subst (λ m. is_in m (chain_by next (suc long) n) ≡ true) here (in_first next long n))
    (λ later. in_rest next long n o later.0 (in_longer next short long (next n) o (omega arith) later.1))
    (in_cases next short n o inside)

-- chains along functions that agree on the nodes of one of them
pub chain_agree : (next other : ℕ → ℕ) (bound n : ℕ) → ((o : ℕ) → is_in o (chain_by next bound n) ≡ true → other o ≡ next o) → chain_by other bound n ≡ chain_by next bound n
chain_agree next other zero n same = refl
chain_agree next other (suc bound) n same =
    elim (n == 0) as (λ v. n == 0 ≡ v → n ∷ cond v [] (chain_by other bound (other n)) ≡ n ∷ cond v [] (chain_by next bound (next n))) [
      | true ↦ λ e. refl
      | false ↦ λ e.
          let step : other n ≡ next n = same n (in_first next bound n) in
          let rest : chain_by other bound (next n) ≡ chain_by next bound (next n) =
          chain_agree next other bound (next n) (λ o inside. same o (in_rest next bound n o (eqb-false n 0 e) inside)) in
          ap (λ l. n ∷ l) (ap (chain_by other bound) step ∙ rest)
    ] refl

-- ## Walks to root

-- a walk to root that does not stand at root goes on at the next object
pub walk_on : (next : ℕ → ℕ) (n i at : ℕ) → i < n → at ≢ 0
    → is_in 0 (chain_by next (n - i) at) ≡ is_in 0 (chain_by next (n - (i + 1)) (next at))
walk_on next n i at h away =
    let more : n - i ≡ suc (n - (i + 1)) = omega arith in
    let e : (at == 0) ≡ false = ne_eqb _ _ away in
    rw (more, e) refl
