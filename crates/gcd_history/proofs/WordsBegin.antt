-- The words of a text are as many as the places where one begins.
use Rattle.std.proofs.Common.{◌≡◌, ℕ, zero, suc, ◌+◌, ◌-◌, Bool, true, false, not, ◌&&◌, ◌||◌, cond, List, [], ◌∷◌, length, refl, ap, sym, ◌∙◌, arith}
use Rattle.std.specs.List.{count_by, range_with_len, slice_get}
use Rattle.std.specs.Option.{option_map_or}
use Rattle.std.proofs.Math.Path.{fun_ext}
use Rattle.std.proofs.lemmas.Bool.{ne_eqb}
use Rattle.gcd_history.specs.Values.{is_space, words_begun, begins_word}
use Rattle.gcd_plan.proofs.Sums.{count_by-cons}

-- the byte at place i is no space
abbrev is_letter : List ℕ → ℕ → Bool
is_letter bytes i = option_map_or (λ c. not (is_space c)) (slice_get bytes i) false

-- a word begins at place i, where one goes on from before the bytes or not
abbrev begins_from : (inside : Bool) → List ℕ → ℕ → Bool
begins_from inside bytes zero = is_letter bytes 0 && not inside
begins_from inside bytes (suc i) = is_letter bytes (suc i) && option_map_or is_space (slice_get bytes i) false

-- the same, a place further
further : (inside : Bool) (c : ℕ) (bytes : List ℕ) (i : ℕ) → begins_from inside (c ∷ bytes) (suc i) ≡ begins_from (not (is_space c)) bytes i
further inside c bytes zero = elim (is_space c) as (λ v. (is_letter bytes 0 && v) ≡ (is_letter bytes 0 && not (not v))) [ true ↦ refl | false ↦ refl ]
further inside c bytes (suc i) = refl

-- a count over numbers from 1 on more
count_further : (p : ℕ → Bool) (a n : ℕ) → count_by p (range_with_len (a + 1) n) ≡ count_by (λ i. p (suc i)) (range_with_len a n)
count_further p a zero = refl
count_further p a (suc n) =
    let next : a + 1 ≡ suc a = omega arith in
    let head : cond {A = ℕ} (p (a + 1)) 1 0 ≡ cond (p (suc a)) 1 0 = ap (λ k. cond {A = ℕ} (p k) 1 0) next in
    let one = count_by-cons p (a + 1) (range_with_len ((a + 1) + 1) n) in
    let other = count_by-cons (λ i. p (suc i)) a (range_with_len (a + 1) n) in
    let rest = count_further p (a + 1) n in
    omega (arith, head, one, other, rest)

-- what the first byte adds
by_first : (inside space : Bool) (rest : Bool → ℕ) → cond space (rest false) (cond inside (rest true) (rest true + 1)) ≡ cond {A = ℕ} (not space && not inside) 1 0 + rest (not space)
by_first true true rest = omega arith
by_first true false rest = omega arith
by_first false true rest = omega arith
by_first false false rest = omega arith

begun_from : (inside : Bool) (bytes : List ℕ) → words_begun inside bytes ≡ count_by (begins_from inside bytes) (range_with_len 0 (length bytes))
begun_from inside [] = refl
begun_from inside (c ∷ bytes) =
    by_first inside (is_space c) (λ v. words_begun v bytes)
    ∙ ap (λ n. cond {A = ℕ} (not (is_space c) && not inside) 1 0 + n)
    (begun_from (not (is_space c)) bytes
    ∙ (ap (λ p. count_by p (range_with_len 0 (length bytes))) (sym (fun_ext (λ i. further inside c bytes i)))
    ∙ sym (count_further (begins_from inside (c ∷ bytes)) 0 (length bytes))))
    ∙ sym (count_by-cons (begins_from inside (c ∷ bytes)) 0 (range_with_len 1 (length bytes)))

begins_same : (bytes : List ℕ) (i : ℕ) → begins_from false bytes i ≡ begins_word bytes i
begins_same bytes zero = refl
begins_same bytes (suc i) =
    let before : suc i - 1 ≡ i = omega arith in
    ap (λ k. is_letter bytes (suc i) && option_map_or is_space (slice_get bytes k) false) (sym before)
    ∙ ap (λ v. is_letter bytes (suc i) && (v || option_map_or is_space (slice_get bytes (suc i - 1)) false)) (sym (ne_eqb (suc i) 0 (λ same. omega arith)))

pub words_are_places : (bytes : List ℕ) → words_begun false bytes ≡ count_by (begins_word bytes) (range_with_len 0 (length bytes))
words_are_places bytes = begun_from false bytes ∙ ap (λ p. count_by p (range_with_len 0 (length bytes))) (fun_ext (λ i. begins_same bytes i))
