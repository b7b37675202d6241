-- Flags that are set one after the other, and flags more that are not set.
use Rattle.std.proofs.Common.{ℕ, zero, suc, ◌≡◌, ◌<◌, ◌+◌, Bool, true, false, ◌||◌, List, [], ◌∷◌, ◌++◌, length, set, get_or, refl, sym, ap, ◌∙◌, ⊎_elim, arith}
use Rattle.std.specs.Cmp.Derive.{one_truth}
use Rattle.std.proofs.Math.Bool.{or-false}
use Rattle.std.proofs.lemmas.Bool.{cases_eq, or_right}
use Rattle.std.proofs.lemmas.List.{get_or-set_other, get_or-set_same, length-set, length_push}
use Rattle.gcd_plan.specs.Made.{Span, is_within}
use Rattle.gcd_plan.proofs.MadeBlocks.{within_from, within_parts, without}
use Rattle.gcd_builder.specs.Agreement.{AreSetToo, AreMore}

abbrev span_of : ℕ → ℕ → Span
span_of first count = record { first = first; count = count }

-- no flag is set yet
pub none_set : (flags : List Bool) (first : ℕ) → AreSetToo flags flags (λ q. is_within q (record { first = first; count = 0 }))
none_set flags first = record {
  size = refl;
  each = λ q.
      sym (ap (λ v. get_or flags q false || v) (without q (span_of first 0) (λ low high. absurd (omega (arith, low, high)))) ∙ or-false (get_or flags q false));
}

-- another number is of the longer span where it is of the shorter
within_before : (q first k : ℕ) → (first + k ≡ q → ⊥) → is_within q (span_of first k) ≡ is_within q (span_of first (k + 1))
within_before q first k other =
    one_truth (is_within q (span_of first k)) (is_within q (span_of first (k + 1)))
    (λ is. let parts = within_parts q (span_of first k) is in within_from q (span_of first (k + 1)) parts.0 (omega (arith, parts.1)))
    (λ is.
    let parts = within_parts q (span_of first (k + 1)) is in
    within_from q (span_of first k) parts.0 (⊎_elim (λ same. absurd (other same)) (λ less. grind (arith, less, parts.1)) (cases_eq (first + k) q)))

-- one flag more is set
pub one_set : (old flags : List Bool) (first k : ℕ) → AreSetToo old flags (λ q. is_within q (record { first = first; count = k })) → first + k < length flags
    → AreSetToo old (set flags (first + k) true) (λ q. is_within q (record { first = first; count = k + 1 }))
one_set old flags first k before within = record {
  size = length-set flags (first + k) true ∙ before.size;
  each = λ q.
      ⊎_elim
      (λ (same : first + k ≡ q).
      ap (λ n. get_or (set flags (first + k) true) n false) (sym same)
      ∙ get_or-set_same flags (first + k) true false within
      ∙ sym (or_right (get_or old q false) (is_within q (span_of first (k + 1))) (within_from q (span_of first (k + 1)) (omega (arith, same)) (omega (arith, same)))))
      (λ (other : first + k ≡ q → ⊥).
      get_or-set_other flags (first + k) q true false (λ is. other (sym is))
      ∙ before.each q
      ∙ ap (λ v. get_or old q false || v) (within_before q first k other))
      (cases_eq (first + k) q);
}

-- one flag more that is not set
pub push_unset : (flags : List Bool) (q : ℕ) → get_or (flags ++ false ∷ []) q false ≡ get_or flags q false
push_unset [] zero = refl
push_unset [] (suc q) = refl
push_unset (flag ∷ flags) zero = refl
push_unset (flag ∷ flags) (suc q) = push_unset flags q

pub none_more : (flags : List Bool) → AreMore flags flags 0
none_more flags = record { size = omega arith; each = λ q. refl }

pub one_unset : (old flags : List Bool) (k : ℕ) → AreMore old flags k → AreMore old (flags ++ false ∷ []) (k + 1)
one_unset old flags k before = record {
  size = let more = length_push flags false in omega (arith, more, before.size);
  each = λ q. push_unset flags q ∙ before.each q;
}
