-- The large script's file, byte by byte, and the values of a run, added up.
use Rattle.std.proofs.Common.{◌≡◌, ◌<◌, ◌∙◌, ◌+◌, ◌*◌, ◌%◌, ◌++◌, ℕ, zero, suc, Bool, true, false, List, [], ◌∷◌, Some, length, map, sum, slice_get, get_or, replicate, zero-add, if◌then◌else◌, ap, refl, sym, arith}
use Rattle.std.specs.List.{range_with_len}
use Rattle.std.proofs.lemmas.List.{same_lists}
use Rattle.std.proofs.lemmas.Option.{same_Some, slice_get-get_or, slice_get_within}
use Rattle.std.proofs.lemmas.List.FromFn.{get_or-map-range_with_len, length-map-range_with_len, map-range_with_len_more}
use Rattle.gcd_plan.specs.PlanView.{PlanView}
use Rattle.gcd_event.specs.declared.event.Event.{Event}
use Rattle.gcd_history.specs.Values.{value_of}
use Rattle.gcd_jobs.specs.BlockValues.{has_given}
use Rattle.gcd_outer.specs.Outside.{Bytes}
use Rattle.gcd_commands.specs.End.{total_of}

pub one_byte_more : (i : ℕ) → map (λ i. (7 * i + 3) % 256) (range_with_len 0 (i + 1))
    ≡ map (λ i. (7 * i + 3) % 256) (range_with_len 0 i) ++ ((7 * i + 3) % 256) ∷ []
one_byte_more i = map-range_with_len_more (λ i. (7 * i + 3) % 256) 0 i i (zero-add i)

-- what the slice has at a place, as the list has it
got : {A : Type 0} (xs : List A) (k : ℕ) (x d : A) → slice_get xs k ≡ Some x → get_or xs k d ≡ x
got xs k x d at = same_Some _ _ (sym (slice_get-get_or xs k d (slice_get_within xs k x at)) ∙ at)

-- the values of a run, added up
pub total_is : (plan : PlanView) (contents : List Bytes) (h : List Event) (given : List ℕ) → length given ≡ length plan.blocks
    → ((b : ℕ) → has_given plan h b ≡ true → slice_get given b ≡ Some (value_of plan contents b))
    → ((b : ℕ) → b < length plan.blocks → has_given plan h b ≡ false → slice_get given b ≡ Some 0)
    → sum given ≡ total_of plan contents h
unfolding total_of
total_is plan contents h given long values others =
    ap sum (same_lists given _ (long ∙ sym (length-map-range_with_len _ 0 (length plan.blocks)))
    (λ k d within. at k d (omega (arith, long, within)) ∙ sym (get_or-map-range_with_len _ 0 (length plan.blocks) k k d (omega (arith, long, within)) (zero-add k))))
  where
    value : ℕ → ℕ
    value b = if has_given plan h b then value_of plan contents b else 0

    by : (k d : ℕ) (ended : Bool) → has_given plan h k ≡ ended → k < length plan.blocks
        → get_or given k d ≡ (if ended then value_of plan contents k else 0)
    by k d true is within = got given k _ d (values k is)
    by k d false is within = got given k 0 d (others k within is)

    at : (k d : ℕ) → k < length plan.blocks → get_or given k d ≡ (if has_given plan h k then value_of plan contents k else 0)
    at k d within = by k d (has_given plan h k) refl within

-- a list of one value, as long as another list
pub all_same : {A B : Type 0} (x : B) (xs : List A) → map (λ a. x) xs ≡ replicate (length xs) x
all_same x [] = refl
all_same x (a ∷ xs) = ap (λ ys. x ∷ ys) (all_same x xs)

pub one_more : {A : Type 0} (n : ℕ) (x : A) → replicate (n + 1) x ≡ replicate n x ++ x ∷ []
one_more n x = let e : n + 1 ≡ suc n = omega arith in rw e (at n x)
  where
    at : {A : Type 0} (n : ℕ) (x : A) → replicate (suc n) x ≡ replicate n x ++ x ∷ []
    at zero x = refl
    at (suc n) x = ap (λ ys. x ∷ ys) (at n x)
