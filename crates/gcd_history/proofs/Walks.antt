-- Walks along a function on numbers, up to 0.
use Rattle.std.proofs.Common.{◌≡◌, ◌⊎◌, inl, inr, ⊎_elim, ℕ, zero, suc, ◌+◌, ◌-◌, ◌<◌, ◌≤◌, Bool, true, false, ◌||◌, cond, ◌==◌, [], length, count_by, refl, ap, sym, ◌∙◌, subst, arith}
use Rattle.std.specs.List.{range_with_len}
use Rattle.std.proofs.lemmas.Bool.{eqb-true, or_cases, or_parts, or_left, or_right, both_ways, cases_eq, cases_Bool}
use Rattle.std.proofs.lemmas.List.FromFn.{length-range_with_len}
use Rattle.std.proofs.lemmas.List.Sums.{count_by-le-length}
use Rattle.gcd_plan.specs.Chains.{chain_by, is_in}
use Rattle.gcd_plan.proofs.Walks.{in_first, in_rest, in_cases, in_longer, chain_agree}
use Rattle.gcd_history.proofs.Sums.{sum_range_less}
use Rattle.gcd_plan.proofs.Quantifiers.{list_any_in_range}
use Rattle.gcd_plan.proofs.Sums.{count_by_some}

-- ## What stands above in a chain

-- what stands in the chain above n has a child there
pub record Child (next : ℕ → ℕ) (bound n o : ℕ) : Type 0 where
  pub child : ℕ
  pub inside : is_in child (chain_by next bound n) ≡ true
  pub parent : next child ≡ o
  pub other : child ≡ o → ⊥
  pub below_root : child ≡ 0 → ⊥

pub child_in : (next : ℕ → ℕ) (bound n o : ℕ) → is_in o (chain_by next bound n) ≡ true → (n ≡ o → ⊥) → Child next bound n o
child_in next zero n o inside apart = cc
child_in next (suc bound) n o inside apart =
    ⊎_elim
    (λ here. absurd (apart here))
    (λ later. ⊎_elim
    (λ at. record { child = n; inside = in_first next bound n; parent = at; other = apart; below_root = later.0 })
    (λ on.
    let found = child_in next bound (next n) o later.1 on in
    record { child = found.child; inside = in_rest next bound n found.child later.0 found.inside; parent = found.parent; other = found.other; below_root = found.below_root })
    (cases_eq (next n) o))
    (in_cases next bound n o inside)

-- what holds of n, and of each that follows one, holds of the chain
pub all_in : (P : ℕ → Bool) (next : ℕ → ℕ) (bound n o : ℕ) → P n ≡ true → ((m : ℕ) → P (next m) ≡ true) → is_in o (chain_by next bound n) ≡ true → P o ≡ true
all_in P next zero n o first follows inside = cc
all_in P next (suc bound) n o first follows inside =
    ⊎_elim
    (λ here. subst (λ m. P m ≡ true) here first)
    (λ later. all_in P next bound (next n) o (follows n) follows later.1)
    (in_cases next bound n o inside)

-- ## Reaching 0

-- at most so many steps from n lead to 0
abbrev pub reaches : (ℕ → ℕ) → ℕ → ℕ → Bool
reaches next zero n = n == 0
reaches next (suc k) n = n == 0 || reaches next k (next n)

pub reaches-in : (next : ℕ → ℕ) (k n : ℕ) → is_in 0 (chain_by next (suc k) n) ≡ reaches next k n
reaches-in next zero n = elim (n == 0) as (λ v. (v || is_in 0 (cond v [] [])) ≡ v) [ true ↦ refl | false ↦ refl ]
reaches-in next (suc k) n =
    elim (n == 0) as (λ v. (v || is_in 0 (cond v [] (chain_by next (suc k) (next n)))) ≡ (v || reaches next k (next n))) [
      | true ↦ refl
      | false ↦ reaches-in next k (next n)
    ]

pub reaches_more : (next : ℕ → ℕ) (k m n : ℕ) → k ≤ m → reaches next k n ≡ true → reaches next m n ≡ true
reaches_more next zero zero n le h = h
reaches_more next zero (suc m) n le h = or_left (n == 0) (reaches next m (next n)) h
reaches_more next (suc k) zero n le h = absurd (omega arith)
reaches_more next (suc k) (suc m) n le h =
    ⊎_elim
    (λ here. or_left (n == 0) (reaches next m (next n)) here)
    (λ later. or_right (n == 0) (reaches next m (next n)) (reaches_more next k m (next n) (omega arith) later))
    (or_cases (n == 0) (reaches next k (next n)) h)

-- functions that agree reach alike
pub reaches_agree : (next other : ℕ → ℕ) (k n : ℕ) → ((m : ℕ) → other m ≡ next m) → reaches next k n ≡ true → reaches other k n ≡ true
reaches_agree next other zero n same h = h
reaches_agree next other (suc k) n same h =
    ⊎_elim
    (λ here. or_left (n == 0) (reaches other k (other n)) here)
    (λ later. or_right (n == 0) (reaches other k (other n)) (subst (λ m. reaches other k m ≡ true) (sym (same n)) (reaches_agree next other k (next n) same later)))
    (or_cases (n == 0) (reaches next k (next n)) h)

-- how many numbers below the bound reach 0 in k steps
abbrev reaching : (ℕ → ℕ) → (size k : ℕ) → ℕ
reaching next size k = count_by (reaches next k) (range_with_len 0 size)

one_at_least : (v w : Bool) → (v ≡ true → w ≡ true) → cond {A = ℕ} v 1 0 ≤ cond w 1 0
one_at_least true true h = omega arith
one_at_least true false h = let k = h refl in cc
one_at_least false w h = elim w as (λ u. 0 ≤ cond {A = ℕ} u 1 0) [ true ↦ omega arith | false ↦ omega arith ]

-- where n needs k steps, at each count of steps up to k there is a number more
levels : (next : ℕ → ℕ) (size k n : ℕ) → n < size → ((m : ℕ) → next m < size) → reaches next k n ≡ true → ((j : ℕ) → j < k → reaches next j n ≡ false) → k + 1 ≤ reaching next size k
levels next size zero n within below h least =
    let some : 1 ≤ reaching next size 0 = count_by_some (reaches next 0) (range_with_len 0 size) (list_any_in_range (reaches next 0) size n within h) in
    omega arith
levels next size (suc k) n within below h least =
    let on : (n == 0) ≡ false = least 0 (omega arith) in
    let rest : reaches next k (next n) ≡ true = ap (λ v. v || reaches next k (next n)) (sym on) ∙ h in
    let old : k + 1 ≤ reaching next size k = levels next size k (next n) (below n) below rest (λ j l. (or_parts (n == 0) (reaches next j (next n)) (least (suc j) (omega arith))).1) in
    let not_yet : cond {A = ℕ} (reaches next k n) 1 0 ≡ 0 = ap (λ v. cond v 1 0) (least k (omega arith)) in
    let now : cond {A = ℕ} (reaches next (suc k) n) 1 0 ≡ 1 = ap (λ v. cond v 1 0) h in
    let more : reaching next size k + 1 ≤ reaching next size (suc k) =
    sum_range_less (λ m. cond (reaches next k m) 1 0) (λ m. cond (reaches next (suc k) m) 1 0) 0 size n 1
    (λ m. one_at_least (reaches next k m) (reaches next (suc k) m) (reaches_more next k (suc k) m (omega arith)))
    (omega arith) (omega arith) (omega arith) in
    omega arith

-- what reaches 0 does so in fewer steps than there are numbers
pub reaches_within : (next : ℕ → ℕ) (size k n : ℕ) → n < size → ((m : ℕ) → next m < size) → reaches next k n ≡ true → reaches next (size - 1) n ≡ true
reaches_within next size zero n within below h = reaches_more next 0 (size - 1) n (omega arith) h
reaches_within next size (suc k) n within below h =
    ⊎_elim
    (λ sooner. reaches_within next size k n within below sooner)
    (λ not_yet.
    let least : (j : ℕ) → j < suc k → reaches next j n ≡ false = λ j l. ⊎_elim
    (λ early. absurd (both_ways (reaches next k n) not_yet (reaches_more next j k n (omega arith) early)))
    (λ late. late)
    (cases_Bool (reaches next j n)) in
    let many = levels next size (suc k) n within below h least in
    let few : reaching next size (suc k) ≤ length (range_with_len 0 size) = count_by-le-length (reaches next (suc k)) (range_with_len 0 size) in
    let long = length-range_with_len 0 size in
    reaches_more next (suc k) (size - 1) n (omega arith) h)
    (cases_Bool (reaches next k n))

-- ## Another way from one number

-- the functions are one but at o, and there the other leads to t, from where the walk does not come back to o
pub record Rerouted (next other : ℕ → ℕ) (size o t : ℕ) : Type 0 where
  pub same : (m : ℕ) → (m ≡ o → ⊥) → other m ≡ next m
  pub led : other o ≡ t
  pub away : is_in o (chain_by next size t) ≡ false

-- so the walk from t is as it was
pub away_same : (next other : ℕ → ℕ) (size o t : ℕ) → Rerouted next other size o t → chain_by other size t ≡ chain_by next size t
away_same next other size o t way =
    chain_agree next other size t (λ m inside. way.same m (λ at. both_ways (is_in o (chain_by next size t)) way.away (subst (λ k. is_in k (chain_by next size t) ≡ true) at inside)))

rerouted_on : (next other : ℕ → ℕ) (size o t k n : ℕ) → Rerouted next other size o t → reaches other size t ≡ true → reaches next k n ≡ true → reaches other (k + suc size) n ≡ true
rerouted_on next other size o t zero n way goal h = reaches_more other 0 (0 + suc size) n (omega arith) h
rerouted_on next other size o t (suc k) n way goal h =
    ⊎_elim
    (λ here. reaches_more other 0 (suc k + suc size) n (omega arith) here)
    (λ later.
    let follow : reaches other (k + suc size) (other n) ≡ true = ⊎_elim
    (λ at.
    let there : other n ≡ t = ap other at ∙ way.led in
    reaches_more other size (k + suc size) (other n) (omega arith) (subst (λ m. reaches other size m ≡ true) (sym there) goal))
    (λ apart. subst (λ m. reaches other (k + suc size) m ≡ true) (sym (way.same n apart)) (rerouted_on next other size o t k (next n) way goal later))
    (cases_eq n o) in
    reaches_more other (suc (k + suc size)) (suc k + suc size) n (omega arith) (or_right (n == 0) (reaches other (k + suc size) (other n)) follow))
    (or_cases (n == 0) (reaches next k (next n)) h)

-- all that reached 0 still does
pub rerouted_reaches : (next other : ℕ → ℕ) (size o t n : ℕ) → 0 < size → Rerouted next other size o t → ((m : ℕ) → other m < size) → t < size → n < size →
    reaches next (size - 1) t ≡ true → reaches next (size - 1) n ≡ true → reaches other (size - 1) n ≡ true
rerouted_reaches next other size o t n some way below t_within within t_goal h =
    let one : size ≡ suc (size - 1) = omega arith in
    let in_next : is_in 0 (chain_by next size t) ≡ true = subst (λ k. is_in 0 (chain_by next k t) ≡ true) (sym one) (reaches-in next (size - 1) t ∙ t_goal) in
    let in_other : is_in 0 (chain_by other size t) ≡ true = ap (is_in 0) (away_same next other size o t way) ∙ in_next in
    let goal : reaches other (size - 1) t ≡ true = sym (reaches-in other (size - 1) t) ∙ subst (λ k. is_in 0 (chain_by other k t) ≡ true) one in_other in
    reaches_within other size (size - 1 + suc size) n within below
    (rerouted_on next other size o t (size - 1) n way (reaches_more other (size - 1) size t (omega arith) goal) h)

-- ## No way back

-- what stands in the chain reaches 0 in no more steps
reaches_from : (next : ℕ → ℕ) (bound k n o : ℕ) → reaches next k n ≡ true → is_in o (chain_by next bound n) ≡ true → (j : ℕ) × (j ≤ k) × (reaches next j o ≡ true)
reaches_from next zero k n o h inside = cc
reaches_from next (suc bound) zero n o h inside =
    ⊎_elim
    (λ here. (0, omega arith, subst (λ m. reaches next 0 m ≡ true) here h))
    (λ later. absurd (later.0 (eqb-true n 0 h)))
    (in_cases next bound n o inside)
reaches_from next (suc bound) (suc k) n o h inside =
    ⊎_elim
    (λ here. (suc k, omega arith, subst (λ m. reaches next (suc k) m ≡ true) here h))
    (λ later. ⊎_elim
    (λ root. absurd (later.0 (eqb-true n 0 root)))
    (λ on.
    let found = reaches_from next bound k (next n) o on later.1 in
    let le : found.0 ≤ k = found.1 in
    (found.0, omega arith, found.2))
    (or_cases (n == 0) (reaches next k (next n)) h))
    (in_cases next bound n o inside)

no_way_in : (next : ℕ → ℕ) (bound fuel k o : ℕ) → k ≤ fuel → reaches next k o ≡ true → (o ≡ 0 → ⊥) → is_in o (chain_by next bound (next o)) ≡ true → ⊥
no_way_in next bound fuel zero o le h other inside = other (eqb-true o 0 h)
no_way_in next bound zero (suc k) o le h other inside = absurd (omega arith)
no_way_in next bound (suc fuel) (suc k) o le h other inside =
    ⊎_elim
    (λ root. other (eqb-true o 0 root))
    (λ on.
    let found = reaches_from next bound k (next o) o on inside in
    let sooner : found.0 ≤ k = found.1 in
    no_way_in next bound fuel found.0 o (omega arith) found.2 other inside)
    (or_cases (o == 0) (reaches next k (next o)) h)

-- what reaches 0 does not come back to itself
pub no_way_back : (next : ℕ → ℕ) (bound k o : ℕ) → reaches next k o ≡ true → (o ≡ 0 → ⊥) → is_in o (chain_by next bound (next o)) ≡ true → ⊥
no_way_back next bound k o h other inside = no_way_in next bound k k o (omega arith) h other inside

-- ## Two functions on one walk

-- the second way is the first, or leaves it at a number other than o, from where the first leads to o
pub record Leaves (next other : ℕ → ℕ) (bound o : ℕ) : Type 0 where
  pub at : ℕ
  pub differs : other at ≡ next at → ⊥
  pub apart : at ≡ o → ⊥
  pub inside : is_in o (chain_by next bound at) ≡ true

pub same_or_leaves : (next other : ℕ → ℕ) (bound n o : ℕ) → is_in o (chain_by next bound n) ≡ true → (is_in o (chain_by other bound n) ≡ true) ⊎ Leaves next other bound o
same_or_leaves next other zero n o inside = cc
same_or_leaves next other (suc bound) n o inside =
    ⊎_elim
    (λ here. inl (subst (λ m. is_in m (chain_by other (suc bound) n) ≡ true) here (in_first other bound n)))
    (λ later. ⊎_elim
    (λ at. inl (subst (λ m. is_in m (chain_by other (suc bound) n) ≡ true) at (in_first other bound n)))
    (λ apart. ⊎_elim
    (λ step. ⊎_elim
    (λ on. inl (in_rest other bound n o later.0 (subst (λ m. is_in o (chain_by other bound m) ≡ true) (sym step) on)))
    (λ leaves. inr (record { at = leaves.at; differs = leaves.differs; apart = leaves.apart; inside = in_longer next bound (suc bound) leaves.at o (omega arith) leaves.inside }))
    (same_or_leaves next other bound (next n) o later.1))
    (λ differs. inr (record { at = n; differs = differs; apart = apart; inside = inside }))
    (cases_eq (other n) (next n)))
    (cases_eq n o))
    (in_cases next bound n o inside)
