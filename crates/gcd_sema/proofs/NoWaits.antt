-- Where no object is a group or a semaphore, no act of a valid plan waits for one.
use Rattle.std.proofs.Common.{◌≡◌, ℕ, ◌+◌, ◌<◌, Bool, true, false, ◌||◌, cond, List, [], ◌∷◌, length, take, replicate, slice_index, count_by, Option, None, Some, refl, sym, ap, ◌∙◌, arith}
use Rattle.std.specs.List.{list_any, list_all, slice_get, flat_map}
use Rattle.std.specs.Option.{option_map, option_map_or}
use Rattle.std.proofs.lemmas.Bool.{or_left, or_right, and_parts, both_ways, false_from_ne_true}
use Rattle.std.proofs.lemmas.List.{length-replicate}
use Rattle.std.proofs.lemmas.Map.Keys.{any_passes_from_place}
use Rattle.gcd_facts.proofs.Lists.{any_more, any_taken}
use Rattle.gcd_plan.specs.Kinds.{has_kind, is_group_kind, is_semaphore_kind}
use Rattle.gcd_plan.specs.PlanView.{PlanView, ObjView, BlkView, kind_of}
use Rattle.gcd_plan.specs.Validity.{is_act, is_block, waits_on}
use Rattle.gcd_plan.specs.declared.act.Act.{Act}
use Rattle.gcd_plan.specs.declared.act.Act.TheVariants.{Wait, WaitFor}
use Rattle.gcd_plan.specs.declared.kind.Kind.{Kind}
use Rattle.gcd_plan.proofs.Places.{get_or-replicate_same}
use Rattle.gcd_plan.proofs.Sums.{count_by-cons, count_by-append}
use Rattle.gcd_sema.specs.Awaited.{is_awaited, has_awaited}
use Rattle.gcd_sema.specs.Rooms.{AreRooms}

-- ## One object more

module _ (plan : PlanView) (o : ℕ) (k : Kind) (lt : o < length plan.objects) (is : kind_of plan o ≡ Some k) where
  object_more : list_any is_awaited (take (o + 1) plan.objects) ≡ (list_any is_awaited (take o plan.objects) || (is_group_kind k || is_semaphore_kind k))
  object_more = any_more is_awaited plan.objects o lt ∙ ap (λ v. list_any is_awaited (take o plan.objects) || v) (by (slice_get plan.objects o) is)
    where
      by : (x : Option ObjView) → option_map (λ (obj : ObjView). obj.kind) x ≡ Some k → option_map_or is_awaited x false ≡ (is_group_kind k || is_semaphore_kind k)
      by None at = cc
      by (Some obj) at = let same : obj.kind ≡ k = cc in ap (λ j. is_group_kind j || is_semaphore_kind j) same

  pub object_found : (is_group_kind k || is_semaphore_kind k) ≡ true → true ≡ has_awaited plan
  object_found found =
      sym (any_taken is_awaited (o + 1) plan.objects (object_more ∙ or_right (list_any is_awaited (take o plan.objects)) (is_group_kind k || is_semaphore_kind k) found))

  pub object_passed : list_any is_awaited (take o plan.objects) ≡ false → (is_group_kind k || is_semaphore_kind k) ≡ false → list_any is_awaited (take (o + 1) plan.objects) ≡ false
  object_passed before now = object_more ∙ (ap (λ v. v || (is_group_kind k || is_semaphore_kind k)) before ∙ now)

-- ## No act waits

module _ (plan : PlanView) (none : has_awaited plan ≡ false) where
  no_such : (test : Kind → Bool) → ((k : Kind) → test k ≡ true → (is_group_kind k || is_semaphore_kind k) ≡ true) → (o : ℕ) → has_kind test plan o ≡ false
  no_such test awaited o = false_from_ne_true (has_kind test plan o) (λ h. by (slice_get plan.objects o) refl h)
    where
      by : (x : Option ObjView) → slice_get plan.objects o ≡ x → option_map_or test (option_map (λ (obj : ObjView). obj.kind) x) false ≡ true → ⊥
      by None at h = cc
      by (Some obj) at h = both_ways (has_awaited plan) none (any_passes_from_place is_awaited plan.objects o obj at (awaited obj.kind h))

  pub no_group : (o : ℕ) → has_kind is_group_kind plan o ≡ false
  no_group o = no_such is_group_kind (λ k h. or_left (is_group_kind k) (is_semaphore_kind k) h) o

  pub no_semaphore : (o : ℕ) → has_kind is_semaphore_kind plan o ≡ false
  no_semaphore o = no_such is_semaphore_kind (λ k h. or_right (is_group_kind k) (is_semaphore_kind k) h) o

  no_wait : (s : ℕ) (act : Act) → is_act plan act ≡ true → waits_on s act ≡ false
  no_wait s (Wait t) fits = absurd (both_ways (has_kind is_semaphore_kind plan t.0) (no_semaphore t.0) fits)
  no_wait s (WaitFor t ms) fits = absurd (both_ways (has_kind is_semaphore_kind plan t.0) (no_semaphore t.0) (and_parts (has_kind is_semaphore_kind plan t.0) _ fits).0)
  no_wait s act fits = refl

  none_counted : (s : ℕ) (acts : List Act) → list_all (is_act plan) acts ≡ true → count_by (waits_on s) acts ≡ 0
  none_counted s [] fit = refl
  none_counted s (act ∷ acts) fit =
      let parts = and_parts (is_act plan act) (list_all (is_act plan) acts) fit in
      let here = ap (λ v. cond {A = ℕ} v 1 0) (no_wait s act parts.0) in
      let rest = none_counted s acts parts.1 in
      let more = count_by-cons (waits_on s) act acts in
      omega (arith, here, rest, more)

  none_in : (s : ℕ) (blocks : List BlkView) → list_all (is_block plan) blocks ≡ true → count_by (waits_on s) (flat_map (λ (b : BlkView). b.acts) blocks) ≡ 0
  none_in s [] fit = refl
  none_in s (b ∷ blocks) fit =
      let parts = and_parts (is_block plan b) (list_all (is_block plan) blocks) fit in
      let here = none_counted s b.acts (and_parts _ (list_all (is_act plan) b.acts) parts.0).1 in
      let rest = none_in s blocks parts.1 in
      let both = count_by-append (waits_on s) b.acts (flat_map (λ (c : BlkView). c.acts) blocks) in
      omega (arith, here, rest, both)

  -- so no object has room for a wait
  pub no_rooms : list_all (is_block plan) plan.blocks ≡ true → (counts : List ℕ) (n : ℕ) → counts ≡ replicate n 0 → n ≡ length plan.objects → AreRooms plan counts
  no_rooms fit counts n are many = record {
    long = ap length are ∙ length-replicate n 0 ∙ many;
    counted = λ s lt. ap (λ xs. slice_index xs s) are ∙ get_or-replicate_same n s 0 ∙ sym (none_in s plan.blocks fit);
  }
