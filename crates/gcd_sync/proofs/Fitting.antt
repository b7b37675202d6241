-- That each reason fits, and that only parked blocks have a limit, from before the first event on.
use Rattle.std.proofs.Common.{◌≡◌, ℕ, ◌<◌, ◌≤◌, Bool, true, false, is_some, List, length, get_or, replicate, set, Option, Some, None, IfSome, inl, inr, refl, sym, ap, ◌∙◌, subst, arith}
use Rattle.std.proofs.lemmas.Bool.{both_ways, cases_eq, cases_lt}
use Rattle.std.proofs.lemmas.List.{length-set, length-replicate, get_or-set_same, get_or-set_other, get_or_past}
use Rattle.std.proofs.lemmas.Option.{none-some}
use Rattle.gcd_plan.specs.declared.reason.Reason.{Reason}
use Rattle.gcd_plan.specs.declared.reason.Reason.TheVariants.{Block, Group, Strip, Rank}
use Rattle.gcd_plan.proofs.Places.{get_or-replicate_same}
use Rattle.gcd_sync.specs.WaitsView.{WaitsView, reason_at, limit_at, has_expired_at, Fits, AllFit}

abbrev seen : List (Option Reason) → List (Option ℕ) → List Bool → (objects strips : ℕ) → WaitsView
seen reasons limits expired objects strips = record { reasons = reasons; limits = limits; expired = expired; objects = objects; strips = strips }

-- before the first event none is parked
module _ (n kept room objects strips : ℕ) (low : kept ≤ n) (reasons : List (Option Reason)) (limits : List (Option ℕ)) (expired : List Bool)
    (reasons_are : reasons ≡ replicate kept None) (limits_are : limits ≡ replicate room None) (expired_are : expired ≡ replicate n false) where
  few : length reasons ≤ length expired
  few = omega (arith, low, ap length reasons_are, length-replicate {A = Option Reason} kept None, ap length expired_are, length-replicate n false)

  none_at : (b : ℕ) → reason_at (seen reasons limits expired objects strips) b ≡ None
  none_at b = ap (λ xs. get_or xs b None) reasons_are ∙ get_or-replicate_same kept b None

  pub none_fit : AllFit (seen reasons limits expired objects strips)
  none_fit = record {
    fits = λ b why found. absurd (none-some why (sym (none_at b) ∙ found));
    expired = few;
    awake = λ b none. ap (λ xs. get_or xs b None) limits_are ∙ get_or-replicate_same room b None;
    kept = λ b none. ap (λ xs. get_or xs b false) expired_are ∙ get_or-replicate_same n b false;
  }

-- where the blocks are as many, the same fits
fits_still : (before after : WaitsView) → length after.expired ≡ length before.expired → after.objects ≡ before.objects → after.strips ≡ before.strips
    → (why : Reason) → Fits before why → Fits after why
fits_still before after same objects strips (Block b) fits = subst (λ n. b.0 < n) (sym same) fits
fits_still before after same objects strips (Group g position) fits = (subst (λ n. g.0 < n) (sym objects) fits.0, fits.1)
fits_still before after same objects strips (Strip a) fits = subst (λ n. a < n) (sym strips) fits
fits_still before after same objects strips (Rank s rank) fits = (subst (λ n. s.0 < n) (sym objects) fits.0, fits.1)

module _ (reasons : List (Option Reason)) (limits : List (Option ℕ)) (expired : List Bool) (objects strips b : ℕ) (all : AllFit (seen reasons limits expired objects strips))
    (within : b < length reasons) where
  -- one block waits for what fits from now on, or for nothing, and has no limit then
  module _ (reason : Option Reason) (limit : Option ℕ) (fits : IfSome reason (Fits (seen reasons limits expired objects strips))) (bare : reason ≡ None → limit ≡ None) where
    abbrev after : WaitsView
    after = seen (set reasons b reason) (set limits b limit) (set expired b false) objects strips

    fits_as_before : (x : ℕ) (why : Reason) → reason_at after x ≡ Some why → Fits (seen reasons limits expired objects strips) why
    fits_as_before x why found =
        elim (cases_eq x b) [
          | inl at ↦
              let here = subst (λ y. reason_at after y ≡ Some why) at found in
              subst (λ o. IfSome o (Fits (seen reasons limits expired objects strips))) (sym (get_or-set_same reasons b reason None within) ∙ here) fits
          | inr apart ↦ all.fits x why (sym (get_or-set_other reasons b x reason None apart) ∙ found)
        ]

    -- a limit that is none, where limits are kept of the block and where they are not
    limit_here : limit ≡ None → get_or (set limits b limit) b None ≡ None
    limit_here none =
        elim (cases_lt b (length limits)) [
          | inl kept ↦ get_or-set_same limits b limit None kept ∙ none
          | inr past ↦ get_or_past (set limits b limit) b None (subst (λ n. n ≤ b) (sym (length-set limits b limit)) past)
        ]

    awake_still : (x : ℕ) → reason_at after x ≡ None → limit_at after x ≡ None
    awake_still x none =
        elim (cases_eq x b) [
          | inl at ↦
              let here = subst (λ y. reason_at after y ≡ None) at none in
              let no_limit = bare (sym (get_or-set_same reasons b reason None within) ∙ here) in
              ap (limit_at after) at ∙ limit_here no_limit
          | inr apart ↦ get_or-set_other limits b x limit None apart ∙ all.awake x (sym (get_or-set_other reasons b x reason None apart) ∙ none)
        ]

    kept_still : (x : ℕ) → reason_at after x ≡ None → has_expired_at after x ≡ false
    kept_still x none =
        elim (cases_eq x b) [
          | inl at ↦ ap (has_expired_at after) at ∙ get_or-set_same expired b false false (omega (arith, within, all.expired))
          | inr apart ↦ get_or-set_other expired b x false false apart ∙ all.kept x (sym (get_or-set_other reasons b x reason None apart) ∙ none)
        ]

    -- each reason fits still
    one_changed : AllFit (seen (set reasons b reason) (set limits b limit) (set expired b false) objects strips)
    one_changed = record {
      fits = λ x why found. fits_still (seen reasons limits expired objects strips) after (length-set expired b false) refl refl why (fits_as_before x why found);
      expired = omega (arith, length-set expired b false, all.expired, length-set reasons b reason);
      awake = awake_still;
      kept = kept_still;
    }

    -- the same, as the arrays are seen
    pub changed_fit : (kept : List (Option ℕ)) → kept ≡ set limits b limit → (flags : List Bool) → flags ≡ set expired b false → AllFit (seen (set reasons b reason) kept flags objects strips)
    changed_fit kept kept_is flags is =
        subst (λ ls. AllFit (seen (set reasons b reason) ls flags objects strips)) (sym kept_is)
        (subst (λ xs. AllFit (seen (set reasons b reason) (set limits b limit) xs objects strips)) (sym is) one_changed)

-- a wait with a limit has expired
module _ (reasons : List (Option Reason)) (limits : List (Option ℕ)) (expired : List Bool) (objects strips b : ℕ) (all : AllFit (seen reasons limits expired objects strips))
    (limited : is_some (limit_at (seen reasons limits expired objects strips) b) ≡ true) where
  abbrev then : WaitsView
  then = seen reasons limits (set expired b true) objects strips

  kept_then : (x : ℕ) → reason_at then x ≡ None → has_expired_at then x ≡ false
  kept_then x none =
      elim (cases_eq x b) [
        | inl at ↦ absurd (both_ways (is_some (limit_at then b)) (ap is_some (all.awake b (subst (λ y. reason_at then y ≡ None) at none))) limited)
        | inr apart ↦ get_or-set_other expired b x true false apart ∙ all.kept x none
      ]

  pub expired_fit : (flags : List Bool) → flags ≡ set expired b true → AllFit (seen reasons limits flags objects strips)
  expired_fit flags is =
      subst (λ xs. AllFit (seen reasons limits xs objects strips)) (sym is)
      (record {
        fits = λ x why found. fits_still (seen reasons limits expired objects strips) then (length-set expired b true) refl refl why (all.fits x why found);
        expired = omega (arith, length-set expired b true, all.expired);
        awake = all.awake;
        kept = kept_then;
      })

-- what the arrays are seen as has the blocks, and asks the same of reasons
pub within_view : {reasons : List (Option Reason)} {limits : List (Option ℕ)} {expired : List Bool} {objects strips : ℕ} {v : WaitsView} → seen reasons limits expired objects strips ≡ v
    → (b : ℕ) → b < length v.reasons → b < length reasons
within_view is b lt = subst (λ w. b < length w.reasons) (sym is) lt

pub fits_view : {reasons : List (Option Reason)} {limits : List (Option ℕ)} {expired : List Bool} {objects strips : ℕ} {v : WaitsView} → seen reasons limits expired objects strips ≡ v
    → (why : Reason) → Fits v why → Fits (seen reasons limits expired objects strips) why
fits_view is why fits = subst (λ w. Fits w why) (sym is) fits
