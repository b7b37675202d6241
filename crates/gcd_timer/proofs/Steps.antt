-- The due times of one timer: which is the first after a moment, and how many there are up to it.
use Rattle.std.proofs.Common.{◌≡◌, ℕ, ◌+◌, ◌-◌, ◌*◌, ◌/◌, ◌%◌, ◌<◌, ◌≤◌, ◌==◌, min, true, false, cond, ◌&&◌, inl, inr, Some, None, ap, sym, ◌∙◌, arith}
use Rattle.std.specs.List.{count_by, find, range_with_len}
use Rattle.std.proofs.lemmas.Bool.{cases_lt, cond-true, cond-false, and_from, and_left, and_right, eq-eqb, ne_eqb, le-leb, lt-leb, lt-ltb, le-ltb}
use Rattle.std.proofs.Math.Bool.{and-true}
use Rattle.std.proofs.Math.Nat.{zero-div, zero-mod}
use Rattle.std.proofs.lemmas.Nat.{div-add-mod', div-mul-add, mod-mul-add, mod_below}
use Rattle.gcd_timer.specs.Intervals.{IsSpaced, falls_on, is_due_in, due_after, due_up_to}
use Rattle.gcd_timer.specs.declared.due_times.DueTimes.{DueTimes}
use Rattle.gcd_sets.proofs.Ranges.{find_none, find_first}
use Rattle.gcd_timer.proofs.Numbers.{counted}

-- one number more: the quotient goes up where nothing is left over
quotient_more : (d e : ℕ) → 0 < e → (d + 1) / e ≡ d / e + cond ((d + 1) % e == 0) 1 0
quotient_more d e some =
    let parts = div-add-mod' d e in
    let below = mod_below d e some in
    elim (cases_lt (d % e + 1) e) [
      | inl short ↦
          let same : d / e * e + (d % e + 1) ≡ d + 1 = omega arith in
          let left = ap (λ n. n % e) (sym same) ∙ mod-mul-add (d / e) e (d % e + 1) short in
          let more : ◌≡◌ {A = ℕ} (cond ((d + 1) % e == 0) 1 0) 0 = cond-false _ 1 0 (ne_eqb _ 0 (λ (none : (d + 1) % e ≡ 0). omega arith)) in
          let quotient = ap (λ n. n / e) (sym same) ∙ div-mul-add (d / e) e (d % e + 1) short in
          omega (arith, more, quotient)
      | inr full ↦
          let same : (d / e + 1) * e + 0 ≡ d + 1 = omega arith in
          let left = ap (λ n. n % e) (sym same) ∙ mod-mul-add (d / e + 1) e 0 some in
          let more : ◌≡◌ {A = ℕ} (cond ((d + 1) % e == 0) 1 0) 1 = cond-true _ 1 0 (eq-eqb _ 0 left) in
          let quotient = ap (λ n. n / e) (sym same) ∙ div-mul-add (d / e + 1) e 0 some in
          omega (arith, more, quotient)
    ]

falls_here : (first every t : ℕ) → first ≤ t → (t - first) % every ≡ 0 → falls_on first every t ≡ true
falls_here first every t low rest = and_from _ _ (le-leb first t low) (eq-eqb _ 0 rest)

none_before : (first every t : ℕ) → t < first → falls_on first every t ≡ false
none_before first every t low = and_left _ _ (lt-leb first t low)

none_between : (first every t : ℕ) → ((t - first) % every ≡ 0 → ⊥) → falls_on first every t ≡ false
none_between first every t rest = and_right _ _ (ne_eqb _ 0 rest)

-- what is d whole intervals and a rest after the first due time
placed : (q r e t first : ℕ) → r < e → first ≤ t → t - first ≡ q * e + r → (t - first) % e ≡ r
placed q r e t first short low is = ap (λ n. n % e) is ∙ mod-mul-add q e r short

-- the first due time after the moment, as if there were no last
pub record IsNext (times : DueTimes) (moment next : ℕ) : Type 0 where
  pub later : moment < next
  pub due : falls_on times.first times.every next ≡ true
  pub least : (t : ℕ) → moment < t → t < next → falls_on times.first times.every t ≡ false

next_at : (times : DueTimes) (moment next : ℕ) → next ≡ due_after times moment → IsSpaced times → IsNext times moment next
next_at times moment next is ok =
    elim (cases_lt moment times.first) [
      | inl early ↦
          let first : next ≡ times.first = is ∙ cond-true _ _ _ (lt-ltb moment times.first early) in
          let none : next - times.first ≡ 0 * times.every + 0 = omega arith in
          record {
            later = omega arith;
            due = falls_here times.first times.every next (omega arith) (placed 0 0 times.every next times.first ok.every (omega arith) none);
            least = λ t low high. none_before times.first times.every t (omega arith);
          }
      | inr late ↦
          let e = times.every in
          let d = moment - times.first in
          let parts : d / e * e + d % e ≡ d = div-add-mod' d e in
          let below : d % e < e = mod_below d e ok.every in
          let after : next ≡ moment + (e - d % e) = is ∙ cond-false _ _ _ (le-ltb moment times.first late) in
          let whole : next - times.first ≡ (d / e + 1) * e + 0 = omega arith in
          record {
            later = omega arith;
            due = falls_here times.first e next (omega arith) (placed (d / e + 1) 0 e next times.first ok.every (omega arith) whole);
            least =
                λ t low high.
                let rest : t - times.first ≡ d / e * e + (d % e + (t - moment)) = omega arith in
                let short : d % e + (t - moment) < e = omega arith in
                let left = placed (d / e) (d % e + (t - moment)) e t times.first short (omega arith) rest in
                none_between times.first e t (λ zero'. omega arith);
          }
    ]

-- the first due time after the moment, if it is not past the last
pub next_found : (times : DueTimes) (moment next n : ℕ) → next ≡ due_after times moment → IsSpaced times → next ≤ times.last → times.last ≤ moment + n
    → find (is_due_in times) (range_with_len (moment + 1) n) ≡ Some next
next_found times moment next n is ok within room =
    let found = next_at times moment next is ok in
    find_first (is_due_in times) (moment + 1) n next (omega (arith, found.later)) (omega arith)
    (and_from _ _ found.due (le-leb next times.last within))
    (λ t low high. and_left _ _ (found.least t (omega arith) high))

pub none_found : (times : DueTimes) (moment next n : ℕ) → next ≡ due_after times moment → IsSpaced times → times.last < next
    → find (is_due_in times) (range_with_len (moment + 1) n) ≡ None
none_found times moment next n is ok past =
    let found = next_at times moment next is ok in
    find_none (is_due_in times) (moment + 1) n
    (λ t low high.
    elim (cases_lt t next) [
      | inl before ↦ and_left _ _ (found.least t (omega arith) before)
      | inr from ↦ and_right _ _ (lt-leb t times.last (omega arith))
    ])

-- the first due time itself
first_counted : (first every t : ℕ) → 0 < every → t ≡ first → ((t - first) / every ≡ 0) × ((t - first) % every ≡ 0)
first_counted first every t some is =
    let none : t - first ≡ 0 = omega arith in
    (ap (λ n. n / every) none ∙ zero-div every, ap (λ n. n % every) none ∙ zero-mod every)

-- one number more: a due time more where it is one
up_to_more : (first every t : ℕ) → 0 < every → due_up_to first every (t + 1) ≡ due_up_to first every t + cond (falls_on first every (t + 1)) 1 0
up_to_more first every t some =
    elim (cases_lt (t + 1) first) [
      | inl early ↦
          let none : due_up_to first every (t + 1) ≡ 0 = cond-true _ 0 _ (lt-ltb (t + 1) first early) in
          let before : due_up_to first every t ≡ 0 = cond-true _ 0 _ (lt-ltb t first (omega arith)) in
          let here : ◌≡◌ {A = ℕ} (cond (falls_on first every (t + 1)) 1 0) 0 = cond-false _ 1 0 (none_before first every (t + 1) early) in
          omega (arith, none, before, here)
      | inr late ↦
          let now : due_up_to first every (t + 1) ≡ (t + 1 - first) / every + 1 = cond-false _ 0 _ (le-ltb (t + 1) first late) in
          elim (cases_lt t first) [
            | inl at ↦
                let none = first_counted first every (t + 1) some (omega arith) in
                let before : due_up_to first every t ≡ 0 = cond-true _ 0 _ (lt-ltb t first at) in
                let here : ◌≡◌ {A = ℕ} (cond (falls_on first every (t + 1)) 1 0) 1 = cond-true _ 1 0 (falls_here first every (t + 1) late none.1) in
                omega (arith, now, none.0, before, here)
            | inr past ↦
                let before : due_up_to first every t ≡ (t - first) / every + 1 = cond-false _ 0 _ (le-ltb t first past) in
                let here : falls_on first every (t + 1) ≡ (t + 1 - first) % every == 0 =
                ap (λ b. b && (t + 1 - first) % every == 0) (le-leb first (t + 1) late) in
                let same : t + 1 - first ≡ t - first + 1 = omega arith in
                let more = quotient_more (t - first) every some in
                let quotient = ap (λ n. n / every) same in
                let counts = ap (λ b. cond {A = ℕ} b 1 0) here ∙ ap (λ n. cond {A = ℕ} (n % every == 0) 1 0) same in
                omega (arith, now, before, quotient, counts, more)
          ]
    ]

counts_more : (times : DueTimes) (t : ℕ) → IsSpaced times → due_up_to times.first times.every (min (t + 1) times.last)
    ≡ due_up_to times.first times.every (min t times.last) + cond (is_due_in times (t + 1)) 1 0
counts_more times t ok =
    elim (cases_lt t times.last) [
      | inl within ↦
          let next : min (t + 1) times.last ≡ t + 1 = omega arith in
          let now : min t times.last ≡ t = omega arith in
          let left = ap (due_up_to times.first times.every) next in
          let right = ap (due_up_to times.first times.every) now in
          let here : is_due_in times (t + 1) ≡ falls_on times.first times.every (t + 1) =
          ap (λ b. falls_on times.first times.every (t + 1) && b) (le-leb (t + 1) times.last (omega arith)) ∙ and-true _ in
          let counts = ap (λ b. cond {A = ℕ} b 1 0) here in
          let more = up_to_more times.first times.every t ok.every in
          omega (arith, left, right, counts, more)
      | inr past ↦
          let same : min (t + 1) times.last ≡ min t times.last = omega arith in
          let left = ap (due_up_to times.first times.every) same in
          let here : ◌≡◌ {A = ℕ} (cond (is_due_in times (t + 1)) 1 0) 0 = cond-false _ 1 0 (and_right _ _ (lt-leb (t + 1) times.last (omega arith))) in
          omega (arith, left, here)
    ]

-- how many due times there are up to the moment
pub count_found : (times : DueTimes) (moment end : ℕ) → end ≡ min moment times.last → IsSpaced times
    → due_up_to times.first times.every end ≡ count_by (is_due_in times) (range_with_len 1 moment)
count_found times moment end is ok =
    let g = λ (t : ℕ). due_up_to times.first times.every (min t times.last) in
    let all = counted (is_due_in times) g (λ t. counts_more times t ok) 0 moment in
    let first : min 0 times.last ≡ 0 = omega arith in
    let none : g 0 ≡ 0 = ap (due_up_to times.first times.every) first ∙ cond-true _ 0 _ (lt-ltb 0 times.first ok.first) in
    let same = ap (due_up_to times.first times.every) is in
    let to : 0 + moment ≡ moment = omega arith in
    let whole = ap g to in
    omega (arith, all, none, same, whole)
