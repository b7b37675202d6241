-- What was kept back, and the values that its jobs gave.
use Rattle.std.proofs.Common.{suc, zero, ◌≡◌, ◌<◌, ◌+◌, ◌∙◌, ℕ, List, [], ◌∷◌, length, Some, ap, sym, subst, arith, refl, drop, get_or}
use Rattle.std.specs.Prelude.{Vec, slice_get, vec_len}
use Rattle.std.specs.declared.alloc.Global.{Global}
use Rattle.std.specs.List.{AllZip}
use Rattle.std.proofs.lemmas.Option.{get_or_from_slice_get, same_Some, slice_get_within}
use Rattle.gcd_rounds.specs.declared.kept.Done.{Done}
use Rattle.gcd_rounds.specs.declared.kept.Ending.{Ending}
use Rattle.gcd_rounds.specs.declared.kept.Kept.{Kept}
use Rattle.gcd_rounds.specs.Kept.{EndBefore, HasValue, HaveJobs, HaveValues, IsDone, dones_of, endings_of}

-- place by place
pub zip_from : {A B : Type 0} → (R : A → B → Type 0) (xs : List A) (ys : List B) → length ys ≡ length xs
    → ((i : ℕ) (x : A) (y : B) → slice_get xs i ≡ Some x → slice_get ys i ≡ Some y → R x y) → AllZip R xs ys
zip_from R [] [] len each = tt
zip_from R [] (y ∷ ys) len each = absurd (omega (arith, len))
zip_from R (x ∷ xs) [] len each = absurd (omega (arith, len))
zip_from R (x ∷ xs) (y ∷ ys) len each =
    let rest : length ys ≡ length xs = omega (arith, len) in
    (each 0 x y refl refl, zip_from R xs ys rest (λ i a b p q. each (suc i) a b p q))

module _ {J : Type 0} (gives : J → ℕ → ℕ → Type 0) where
  -- what the jobs of these gave
  pub all_done : (kept : Vec (Kept J) Global) (dones : Vec Done Global) → vec_len dones ≡ vec_len kept
      → ((i : ℕ) (k : Kept J) (d : Done) → i < vec_len kept → IsDone gives (get_or kept.items i k) (get_or dones.items i d))
      → AllZip (IsDone gives) kept.items dones.items
  all_done kept dones count each =
      zip_from (IsDone gives) kept.items dones.items (sym dones.ok.0 ∙ count ∙ kept.ok.0) (λ i k d at_k at_d.
      let low : i < length kept.items = slice_get_within kept.items i k at_k in
      subst (λ (y : Done). IsDone gives k y) (get_or_from_slice_get dones.items i d d at_d)
      (subst (λ (x : Kept J). IsDone gives x (get_or dones.items i d)) (get_or_from_slice_get kept.items i k k at_k)
      (each i k d (subst (λ (n : ℕ). i < n) (sym kept.ok.0) low))))

  -- the Ends are those that were kept back
  pub same_endings : (kept : List (Kept J)) (dones : List Done) → AllZip (IsDone gives) kept dones → dones_of dones ≡ endings_of kept
  same_endings [] [] zip = refl
  same_endings [] (d ∷ ds) zip = absurd zip
  same_endings (k ∷ ks) [] zip = absurd zip
  same_endings (k ∷ ks) (d ∷ ds) zip =
      ap (λ (e : Ending). e ∷ dones_of ds) zip.0.same ∙ ap (λ (es : List Ending). k.ending ∷ es) (same_endings ks ds zip.1)

  -- and each value is one that the job of its block may give
  pub values_given : (first : List J) (kept : List (Kept J)) (dones : List Done) → AllZip (IsDone gives) kept dones → HaveJobs first kept
      → HaveValues gives first dones
  values_given first [] [] zip jobs i d at = cc
  values_given first [] (e ∷ ds) zip jobs i d at = absurd zip
  values_given first (k ∷ ks) [] zip jobs i d at = absurd zip
  values_given first (k ∷ ks) (e ∷ ds) zip jobs zero d at =
      subst (HasValue gives first) (same_Some e d at) (record {
        job = k.job;
        job_of = ap (λ (x : Ending). slice_get first x.blk.0) zip.0.same ∙ jobs 0 k refl;
        given = zip.0.given;
      })
  values_given first (k ∷ ks) (e ∷ ds) zip jobs (suc i) d at =
      values_given first ks ds zip.1 (λ n x there. jobs (suc n) x there) i d at

-- the Ends from place i on
pub dones_from : (dones : List Done) (i : ℕ) (d : Done) → slice_get dones i ≡ Some d → dones_of (drop i dones) ≡ d.ending ∷ dones_of (drop (i + 1) dones)
dones_from [] i d at = cc
dones_from (e ∷ ds) zero d at = ap (λ (x : Done). x.ending ∷ dones_of ds) (same_Some e d at)
dones_from (e ∷ ds) (suc i) d at = dones_from ds i d at ∙ ap (λ (n : ℕ). d.ending ∷ dones_of (drop n (e ∷ ds))) next
  where
    next : suc (i + 1) ≡ suc i + 1
    next = omega arith

-- an empty list of Ends is before every worker
pub before_more : (w : ℕ) (ends : List Ending) → EndBefore w ends → EndBefore (w + 1) ends
before_more w ends before i e at = let less : e.worker < w = before i e at in omega (arith, less)
