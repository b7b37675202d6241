-- The hands of a team, and the numbers that worker 0's pass has given out.
use Rattle.std.proofs.Common.{◌≡◌, ◌≢◌, ◌<◌, ◌≤◌, ◌∙◌, ℕ, List, [], ◌∷◌, ◌++◌, Some, ap, sym, subst, arith, ⊎_elim, refl}
use Rattle.std.specs.Prelude.{All}
use Rattle.std.proofs.lemmas.Bool.{cases_lt}
use Rattle.std.proofs.lemmas.List.Elements.{All-append, All-cons, All-nil}
use Rattle.gcd_row.specs.Views.{standing_of}
use Rattle.gcd_row.specs.declared.view.Standing.{Standing}
use Rattle.gcd_row.specs.declared.view.Standing.TheVariants.{Out, Back}
use Rattle.gcd_row.proofs.Parting.{standing_other, standing_same, back_out}

-- one more at the end, and one more in front
module _ {T : Type 0} (P : T → Type 0) (old new : List T) (x : T) where
  pub all_pushed : new ≡ old ++ x ∷ [] → All P old → P x → All P new
  all_pushed is all last = subst (All P) (sym is) (All-append P old (x ∷ []) all (All-cons P x [] last (All-nil P)))

  pub all_led : new ≡ x ∷ old → All P old → P x → All P new
  all_led is all first = subst (All P) (sym is) (All-cons P x old first all)

-- number n comes back: then none from n on is out, where none above n was
pub back_next : (n : ℕ) (old new : List (ℕ × Standing)) → new ≡ (n, Back) ∷ old → ((w : ℕ) → n < w → standing_of old w ≢ Some Out) → (w : ℕ) → n ≤ w → standing_of new w ≢ Some Out
back_next n old new is home w high out =
    let here : standing_of new w ≡ standing_of ((n, Back) ∷ old) w = ap (λ (h : List (ℕ × Standing)). standing_of h w) is in
    ⊎_elim
    (λ (above : n < w).
    let differ : n ≢ w = λ same. omega (arith, above, same) in
    home w above (sym (standing_other old n Back w differ) ∙ sym here ∙ out))
    (λ (below : w ≤ n).
    let same : n ≡ w = omega (arith, below, high) in
    back_out (sym (subst (λ (k : ℕ). standing_of ((n, Back) ∷ old) k ≡ Some Back) same (standing_same old n Back n refl)) ∙ sym here ∙ out))
    (cases_lt n w)

-- no number is out, where none from 1 on is, nor 0
pub all_home : (hands : List (ℕ × Standing)) → standing_of hands 0 ≢ Some Out → ((w : ℕ) → 1 ≤ w → standing_of hands w ≢ Some Out) → (w : ℕ) → standing_of hands w ≢ Some Out
all_home hands home high w =
    ⊎_elim
    (λ (above : 0 < w). high w (omega (arith, above)))
    (λ (below : w ≤ 0).
    let same : 0 ≡ w = omega (arith, below) in
    subst (λ (k : ℕ). standing_of hands k ≢ Some Out) same home)
    (cases_lt 0 w)
