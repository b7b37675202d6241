-- The first number of a range that passes a test.
use Rattle.std.proofs.Common.{◌≡◌, ℕ, zero, suc, ◌+◌, ◌<◌, ◌≤◌, Bool, true, false, inl, inr, Some, None, refl, ap, sym, ◌∙◌, arith}
use Rattle.std.specs.List.{find, range_with_len}
use Rattle.std.proofs.lemmas.Bool.{cases_eq, cases_Bool, cond-true, cond-false}
use Rattle.std.proofs.lemmas.Option.{none-some, same_Some}

-- none passes
pub find_none : (p : ℕ → Bool) (a n : ℕ) → ((k : ℕ) → a ≤ k → k < a + n → p k ≡ false) → find p (range_with_len a n) ≡ None
find_none p a zero fails = refl
find_none p a (suc n) fails =
    cond-false (p a) _ _ (fails a (omega arith) (omega arith))
    ∙ find_none p (a + 1) n (λ k low high. fails k (omega arith) (omega arith))

-- x passes, and none before it
pub find_first : (p : ℕ → Bool) (a n x : ℕ) → a ≤ x → x < a + n → p x ≡ true → ((k : ℕ) → a ≤ k → k < x → p k ≡ false)
    → find p (range_with_len a n) ≡ Some x
find_first p a zero x low high passes before = absurd (omega arith)
find_first p a (suc n) x low high passes before =
    elim (cases_eq a x) [
      | inl here ↦ cond-true (p a) _ _ (ap p here ∙ passes) ∙ ap Some here
      | inr later ↦
          cond-false (p a) _ _ (before a (omega arith) (omega arith))
          ∙ find_first p (a + 1) n x (omega arith) (omega arith) passes (λ k low' high'. before k (omega arith) high')
    ]

-- what is found passes, is in the range, and is the first
pub record IsFirst (p : ℕ → Bool) (a n x : ℕ) : Type 0 where
  pub from : a ≤ x
  pub to : x < a + n
  pub passes : p x ≡ true
  pub before : (k : ℕ) → a ≤ k → k < x → p k ≡ false

-- by what was found
pub found_first : (p : ℕ → Bool) (a n x : ℕ) → find p (range_with_len a n) ≡ Some x → IsFirst p a n x
found_first p a zero x found = absurd (none-some x found)
found_first p a (suc n) x found =
    elim (cases_Bool (p a)) [
      | inl passes ↦
          let here : a ≡ x = same_Some a x (sym (cond-true (p a) _ _ passes) ∙ found) in
          record {
            from = omega arith;
            to = omega arith;
            passes = ap p (sym here) ∙ passes;
            before = λ k low high. absurd (omega arith);
          }
      | inr fails ↦
          let later = found_first p (a + 1) n x (sym (cond-false (p a) _ _ fails) ∙ found) in
          record {
            from = omega (arith, later.from);
            to = omega (arith, later.to);
            passes = later.passes;
            before = λ k low high. elim (cases_eq a k) [
              | inl here ↦ ap p (sym here) ∙ fails
              | inr after ↦ later.before k (omega arith) high
            ];
          }
    ]

-- by what was not found
pub found_none : (p : ℕ → Bool) (a n : ℕ) → find p (range_with_len a n) ≡ None → (k : ℕ) → a ≤ k → k < a + n → p k ≡ false
found_none p a zero found k low high = absurd (omega arith)
found_none p a (suc n) found k low high =
    elim (cases_Bool (p a)) [
      | inl passes ↦ absurd (none-some a (sym found ∙ cond-true (p a) _ _ passes))
      | inr fails ↦ elim (cases_eq a k) [
        | inl here ↦ ap p (sym here) ∙ fails
        | inr after ↦ found_none p (a + 1) n (sym (cond-false (p a) _ _ fails) ∙ found) k (omega arith) (omega arith)
      ]
    ]
