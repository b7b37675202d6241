-- Counts that rise or fall along a list of numbers.
use Rattle.std.proofs.Common.{◌≡◌, ℕ, ◌+◌, ◌-◌, ◌<◌, ◌≤◌, ◌==◌, cond, inl, inr, List, ◌∷◌, length, get_or, set, refl, ap, sym, ◌∙◌, subst, arith, get_or-set_other, get_or-set_same}
use Rattle.std.specs.List.{count_by}
use Rattle.std.proofs.lemmas.Bool.{cases_eq, eq-eqb, ne_eqb}
use Rattle.std.proofs.lemmas.List.Sums.{sum_by-cons}

-- how often x stands in the numbers
abbrev pub times : ℕ → List ℕ → ℕ
times x numbers = count_by (λ y. y == x) numbers

times-same : (x o : ℕ) (rest : List ℕ) → o ≡ x → times x (o ∷ rest) ≡ 1 + times x rest
times-same x o rest e =
    sum_by-cons (λ y. cond (y == x) 1 0) o rest
    ∙ ap (λ b. cond b 1 0 + times x rest) (eq-eqb o x e)

times-other : (x o : ℕ) (rest : List ℕ) → (o ≡ x → ⊥) → times x (o ∷ rest) ≡ times x rest
times-other x o rest ne =
    sum_by-cons (λ y. cond (y == x) 1 0) o rest
    ∙ ap (λ b. cond b 1 0 + times x rest) (ne_eqb o x ne)
    ∙ omega arith

-- the first of the numbers stands among them
times-first : (o : ℕ) (numbers rest : List ℕ) → numbers ≡ o ∷ rest → 1 ≤ times o numbers
times-first o numbers rest e = let more = ap (times o) e ∙ times-same o o rest refl in omega (arith, more)

-- while a number is still to come, its count has 1 left
pub some_left : (counts before numbers rest : List ℕ) (o total : ℕ) → numbers ≡ o ∷ rest
    → get_or counts o 0 + total ≡ get_or before o 0 + times o numbers → total ≤ get_or before o 0 → 1 ≤ get_or counts o 0
some_left counts before numbers rest o total e counted enough =
    let one = times-first o numbers rest e in omega (arith, one, counted, enough)

-- one step of a loop that adds 1 at each of the numbers
pub raise_step : (counts numbers rest : List ℕ) (o x : ℕ) → numbers ≡ o ∷ rest → o < length counts
    → get_or (set counts o (get_or counts o 0 + 1)) x 0 + times x rest ≡ get_or counts x 0 + times x numbers
raise_step counts numbers rest o x e lt = elim (cases_eq o x) [
  | inl same ↦
      let at : get_or (set counts o (get_or counts o 0 + 1)) x 0 ≡ get_or counts x 0 + 1 =
      subst (λ y. get_or (set counts o (get_or counts o 0 + 1)) y 0 ≡ get_or counts y 0 + 1) same (get_or-set_same counts o _ 0 lt) in
      let more = ap (times x) e ∙ times-same x o rest same in
      omega (arith, at, more)
  | inr other ↦
      let at = get_or-set_other counts o x (get_or counts o 0 + 1) 0 (λ s. other (sym s)) in
      let more = ap (times x) e ∙ times-other x o rest other in
      omega (arith, at, more)
]

-- one step of a loop that takes 1 off at each of the numbers
pub lower_step : (counts numbers rest : List ℕ) (o x : ℕ) → numbers ≡ o ∷ rest → o < length counts → 1 ≤ get_or counts o 0
    → get_or (set counts o (get_or counts o 0 - 1)) x 0 + times x numbers ≡ get_or counts x 0 + times x rest
lower_step counts numbers rest o x e lt some = elim (cases_eq o x) [
  | inl same ↦
      let at : get_or (set counts o (get_or counts o 0 - 1)) x 0 + 1 ≡ get_or counts x 0 =
      subst (λ y. get_or (set counts o (get_or counts o 0 - 1)) y 0 + 1 ≡ get_or counts y 0) same
      (let own = get_or-set_same counts o (get_or counts o 0 - 1) 0 lt in omega (arith, own)) in
      let more = ap (times x) e ∙ times-same x o rest same in
      omega (arith, at, more)
  | inr other ↦
      let at = get_or-set_other counts o x (get_or counts o 0 - 1) 0 (λ s. other (sym s)) in
      let more = ap (times x) e ∙ times-other x o rest other in
      omega (arith, at, more)
]
