-- The news, piece by piece.
use Rattle.std.proofs.Common.{◌≡◌, ◌≤◌, ◌<◌, ◌+◌, ◌∙◌, ◌++◌, ℕ, Bool, true, false, List, [], ◌∷◌, zero, suc, map, filter, if◌then◌else◌, ap, sym, refl, arith, append-nil, add-one, inl, inr}
use Rattle.std.specs.List.{range_with_len}
use Rattle.std.proofs.lemmas.Bool.{cases_eq}
use Rattle.std.proofs.lemmas.List.{map-append}
use Rattle.std.proofs.lemmas.List.Elements.{filter-append}
use Rattle.gcd_facts.proofs.Ranges.{range_push}
use Rattle.gcd_outer.specs.declared.tell.Tell.{Tell}
use Rattle.gcd_turn.specs.Turns.{end_of}

-- the ends of those that pass, with one more that may
ends_more : (p : ℕ → Bool) (n : ℕ)
    → map end_of (filter p (range_with_len 0 (n + 1))) ≡ map end_of (filter p (range_with_len 0 n)) ++ (if p n then end_of n ∷ [] else [])
ends_more p n =
    let numbers = range_with_len 0 n in
    let range : range_with_len 0 (n + 1) ≡ numbers ++ n ∷ [] = ap (range_with_len 0) (add-one n) ∙ range_push 0 n ∙ ap (λ (k : ℕ). numbers ++ k ∷ []) (omega arith) in
    let last : map end_of (filter p (n ∷ [])) ≡ (if p n then end_of n ∷ [] else []) =
    elim (p n) as (λ v. map end_of (if v then n ∷ [] else []) ≡ (if v then end_of n ∷ [] else [])) [ true ↦ refl | false ↦ refl ] in
    ap (λ (ks : List ℕ). map end_of (filter p ks)) range
    ∙ ap (map end_of) (filter-append p numbers (n ∷ []))
    ∙ map-append end_of (filter p numbers) (filter p (n ∷ []))
    ∙ ap (λ (ts : List Tell). map end_of (filter p numbers) ++ ts) last

-- none that passes is passed over
pub ends_on : (p : ℕ → Bool) (a n : ℕ) → a ≤ n → ((k : ℕ) → a ≤ k → k < n → p k ≡ false)
    → map end_of (filter p (range_with_len 0 n)) ≡ map end_of (filter p (range_with_len 0 a))
ends_on p a zero low none = let same : 0 ≡ a = omega arith in ap (λ (k : ℕ). map end_of (filter p (range_with_len 0 k))) same
ends_on p a (suc n) low none =
    elim (cases_eq a (suc n)) [
      | inl same ↦ ap (λ (k : ℕ). map end_of (filter p (range_with_len 0 k))) (sym same)
      | inr differ ↦
          let ends : List Tell = map end_of (filter p (range_with_len 0 n)) in
          ap (λ (k : ℕ). map end_of (filter p (range_with_len 0 k))) (sym (add-one n))
          ∙ ends_more p n
          ∙ ap (λ (b : Bool). ends ++ (if b then end_of n ∷ [] else [])) (none n (omega arith) (omega arith))
          ∙ append-nil ends
          ∙ ends_on p a n (omega arith) (λ k from to. none k from (omega arith))
    ]

-- the ends with the next that passes
pub ends_next : (p : ℕ → Bool) (a n : ℕ) → a ≤ n → p n ≡ true → ((k : ℕ) → a ≤ k → k < n → p k ≡ false)
    → map end_of (filter p (range_with_len 0 (n + 1))) ≡ map end_of (filter p (range_with_len 0 a)) ++ end_of n ∷ []
ends_next p a n low passes none =
    ends_more p n
    ∙ ap (λ (b : Bool). map end_of (filter p (range_with_len 0 n)) ++ (if b then end_of n ∷ [] else [])) passes
    ∙ ap (λ (ts : List Tell). ts ++ end_of n ∷ []) (ends_on p a n low none)
