-- Parts of a list, where one element of the list is written.
use Rattle.std.proofs.Common.{◌≡◌, ℕ, ◌+◌, ◌-◌, ◌<◌, ◌≤◌, List, [], ◌∷◌, ◌++◌, length, get_or, set, take, drop, slice_range, ap, sym, ◌∙◌, arith}
use Rattle.std.proofs.Math.Seq.{take-set-lt}
use Rattle.std.proofs.lemmas.List.{drop-set-lt, drop-set-add, take-set-le, take_more_set, length-drop, length-take-le, get_or-take, get_or-drop}

module _ {X : Type 0} (xs : List X) where
  pub part_length : (a n : ℕ) → a + n ≤ length xs → length (slice_range xs a (a + n)) ≡ n
  part_length a n le =
      let long = length-drop a xs in
      let same : a + n - a ≡ n = omega arith in
      ap (λ m. length (take m (drop a xs))) same ∙ length-take-le n (drop a xs) (omega (arith, long, le))

  -- an element of it
  pub part_read : (a n i : ℕ) (d : X) → i < n → get_or (slice_range xs a (a + n)) i d ≡ get_or xs (a + i) d
  part_read a n i d lt = get_or-take (a + n - a) (drop a xs) i d (omega (arith, lt)) ∙ get_or-drop a xs i d

module _ {X : Type 0} (xs : List X) (y : X) where
  -- before the part, or behind it
  pub part_after : (a b place : ℕ) → place < a → slice_range (set xs place y) a b ≡ slice_range xs a b
  part_after a b place lt = ap (take (b - a)) (drop-set-lt a xs place y lt)

  pub part_before : (a b place : ℕ) → a ≤ b → b ≤ place → slice_range (set xs place y) a b ≡ slice_range xs a b
  part_before a b place le past =
      let at : a + (place - a) ≡ place = omega (arith, le, past) in
      ap (λ n. take (b - a) (drop a (set xs n y))) (sym at)
      ∙ ap (take (b - a)) (drop-set-add a xs (place - a) y)
      ∙ take-set-le (b - a) (drop a xs) (place - a) y (omega (arith, le, past))

  -- within it
  pub part_within : (a n i : ℕ) → i < n → slice_range (set xs (a + i) y) a (a + n) ≡ set (slice_range xs a (a + n)) i y
  part_within a n i lt =
      ap (take (a + n - a)) (drop-set-add a xs i y) ∙ take-set-lt (a + n - a) (drop a xs) i y (omega (arith, lt))

  -- right behind it, and the part one longer
  pub part_pushed : (a n : ℕ) → a + n < length xs → slice_range (set xs (a + n) y) a (a + (n + 1)) ≡ slice_range xs a (a + n) ++ y ∷ []
  part_pushed a n lt =
      let long = length-drop a xs in
      let short : a + (n + 1) - a ≡ n + 1 = omega arith in
      let same : a + n - a ≡ n = omega arith in
      ap (take (a + (n + 1) - a)) (drop-set-add a xs n y)
      ∙ ap (λ m. take m (set (drop a xs) n y)) short
      ∙ take_more_set (drop a xs) n y (omega (arith, long, lt))
      ∙ ap (λ m. take m (drop a xs) ++ y ∷ []) (sym same)
