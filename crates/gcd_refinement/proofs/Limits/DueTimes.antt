-- How many due times a timer has had: what is due up to the present changes only with the time.
use Rattle.std.proofs.Common.{◌≡◌, ℕ, zero, suc, ◌+◌, ◌-◌, ◌<◌, ◌≤◌, ◌==◌, ◌%◌, leb, ltb, Bool, true, false, not, ◌&&◌, ◌||◌, cond, List, [], ◌∷◌, Option, Some, None, refl, ap, sym, ◌∙◌, subst, arith, option_map}
use Rattle.std.specs.List.{count_by, range_with_len, slice_get}
use Rattle.std.specs.Option.{option_map_or}
use Rattle.std.proofs.lemmas.Bool.{and_parts, or_parts, le-leb, leb-true, ltb-true, false_from_ne_true}
use Rattle.std.proofs.lemmas.Option.{same_Some}
use Rattle.gcd_plan.specs.PlanView.{PlanView, ObjView, kind_of}
use Rattle.gcd_plan.specs.Kinds.{has_kind, is_source, is_timer_kind}
use Rattle.gcd_plan.specs.KindValues.{is_on_interval}
use Rattle.gcd_plan.specs.Validity.{IsPlan, is_kind, is_object, has_path, has_fields}
use Rattle.gcd_plan.specs.declared.kind.Kind.{Kind}
use Rattle.gcd_plan.specs.declared.kind.Kind.TheVariants.{Timer}
use Rattle.gcd_event.specs.declared.event.Event.{Event}
use Rattle.gcd_event.specs.declared.event.Event.TheVariants.{Tick}
use Rattle.gcd_history.specs.Runs.{act_of}
use Rattle.gcd_history.specs.Submitted.{cancels, is_cancelled}
use Rattle.gcd_history.specs.Holds.{hold, is_active, activates}
use Rattle.gcd_history.specs.Timers.{now, activated_at, cancelled_at, is_due}
use Rattle.gcd_history.specs.Due.{may_tick}
use Rattle.gcd_history.specs.Permitted.{IsLawful}
use Rattle.gcd_plan.proofs.Quantifiers.{list_all_get}
use Rattle.gcd_plan.proofs.Sums.{count_by-cons}
use Rattle.gcd_history.proofs.Permitted.Reasons.{at_tick}
use Rattle.gcd_plan.specs.Limits.{max_time}
use Rattle.gcd_history.proofs.Sums.{none_in}

-- how many due times timer s has had
abbrev pub dues : PlanView → List Event → ℕ → ℕ
dues plan past s = count_by (is_due plan past s) (range_with_len 1 (now past))

-- ## Counts over a range

pub alike_range : (p q : ℕ → Bool) (a n : ℕ) → ((t : ℕ) → t < a + n → p t ≡ q t) → count_by p (range_with_len a n) ≡ count_by q (range_with_len a n)
alike_range p q a zero same = refl
alike_range p q a (suc n) same =
    let here = ap (λ v. cond {A = ℕ} v 1 0) (same a (omega arith)) in
    let rest = alike_range p q (a + 1) n (λ t low. same t (omega (arith, low))) in
    let left = count_by-cons p a (range_with_len (a + 1) n) in
    let right = count_by-cons q a (range_with_len (a + 1) n) in
    omega (arith, here, rest, left, right)

-- a range in two
range_in_two : (p : ℕ → Bool) (a m n : ℕ) → count_by p (range_with_len a (m + n)) ≡ count_by p (range_with_len a m) + count_by p (range_with_len (a + m) n)
range_in_two p a zero n =
    let same : a + zero ≡ a = omega arith in
    let c : count_by p (range_with_len (a + zero) n) ≡ count_by p (range_with_len a n) = ap (λ k. count_by p (range_with_len k n)) same in
    let front : zero + n ≡ n = omega arith in
    let d : count_by p (range_with_len a (zero + n)) ≡ count_by p (range_with_len a n) = ap (λ k. count_by p (range_with_len a k)) front in
    omega (arith, c, d)
range_in_two p a (suc m) n =
    let rest = range_in_two p (a + 1) m n in
    let one : suc m + n ≡ suc (m + n) = omega arith in
    let whole = ap (λ k. count_by p (range_with_len a k)) one in
    let left = count_by-cons p a (range_with_len (a + 1) (m + n)) in
    let right = count_by-cons p a (range_with_len (a + 1) m) in
    let same : a + 1 + m ≡ a + suc m = omega arith in
    let c = ap (λ k. count_by p (range_with_len k n)) same in
    omega (arith, rest, whole, left, right, c)

-- ## Kinds

-- the kind of an object of a plan is one that a plan may have
kind_fits : (plan : PlanView) (s : ℕ) (kind : Kind) → IsPlan plan → kind_of plan s ≡ Some kind → is_kind kind ≡ true
kind_fits plan s kind valid at =
    elim (slice_get plan.objects s) as (λ o. slice_get plan.objects s ≡ o → option_map (λ (obj : ObjView). obj.kind) o ≡ Some kind → is_kind kind ≡ true) [
      | None ↦ λ none k. cc
      | Some obj ↦ λ some k.
          subst (λ c. is_kind c ≡ true) (same_Some obj.kind kind k)
          (and_parts (is_kind obj.kind) (has_path obj.kind obj.path && has_fields plan obj.kind obj) (list_all_get (is_object plan) plan.objects s obj valid.objects some)).0
    ] refl at

-- no time up to the one from which a timer counts is due
early_interval : (kind : Kind) (from t : ℕ) → is_kind kind ≡ true → t ≤ from → is_on_interval kind from t ≡ false
early_interval (Timer start every) from t fits early =
    let some = leb-true 1 start (and_parts (leb 1 start) (leb start max_time && (leb 1 every && leb every max_time)) fits).0 in
    let late : leb (from + start) t ≡ false = false_from_ne_true (leb (from + start) t) (λ h. let l = leb-true (from + start) t h in absurd (omega (arith, l, some, early))) in
    ap (λ v. v && (t - (from + start)) % every == 0) late
early_interval kind from t fits early = refl

no_interval : (kind : Kind) (from t : ℕ) → is_timer_kind kind ≡ false → is_on_interval kind from t ≡ false
no_interval (Timer start every) from t h = cc
no_interval kind from t h = refl

-- ## What is due

-- the first half of is_due: the time is a multiple of the interval after the start
abbrev on_interval_since : PlanView → ℕ → ℕ → Option ℕ → Bool
on_interval_since plan s t on = option_map_or (λ from. option_map_or (λ kind. is_on_interval kind from t) (kind_of plan s) false) on false

early_none : (plan : PlanView) (s t from : ℕ) → IsPlan plan → t ≤ from → on_interval_since plan s t (Some from) ≡ false
early_none plan s t from valid early =
    elim (kind_of plan s) as (λ o. kind_of plan s ≡ o → option_map_or (λ kind. is_on_interval kind from t) o false ≡ false) [
      | None ↦ λ k. refl
      | Some kind ↦ λ k. early_interval kind from t (kind_fits plan s kind valid k) early
    ] refl

-- what is no timer has no due time, whenever it was activated
pub never_due : (kind : Option Kind) (on : Option ℕ) (t : ℕ) → option_map_or is_timer_kind kind false ≡ false
    → option_map_or (λ from. option_map_or (λ k. is_on_interval k from t) kind false) on false ≡ false
never_due kind None t idle = refl
never_due None (Some from) t idle = refl
never_due (Some kind) (Some from) t idle = no_interval kind from t idle

pub no_due : (plan : PlanView) (past : List Event) (s t : ℕ) → has_kind is_timer_kind plan s ≡ false → is_due plan past s t ≡ false
no_due plan past s t idle =
    ap (λ v. v && (leb t plan.until && option_map_or (λ end. leb t end) (cancelled_at plan past s) true)) (never_due (kind_of plan s) (activated_at plan past s) t idle)

pub no_dues : (plan : PlanView) (past : List Event) (s a n : ℕ) → has_kind is_timer_kind plan s ≡ false → count_by (is_due plan past s) (range_with_len a n) ≡ 0
no_dues plan past s a n idle = none_in (is_due plan past s) a n (λ t. no_due plan past s t idle)

-- what is not active was not activated, and what is not cancelled was not
pub inactive_never : (plan : PlanView) (past : List Event) (s : ℕ) → is_active plan past s ≡ false → activated_at plan past s ≡ None
inactive_never plan [] s idle = refl
inactive_never plan (e ∷ past) s idle =
    let parts = or_parts (is_active plan past s) (activates s (is_source plan s && hold plan past s == 0) (act_of plan e)) idle in
    ap (λ v. cond (v && not (is_active plan past s)) (Some (now past)) (activated_at plan past s)) idle ∙ inactive_never plan past s parts.0

pub uncancelled_never : (plan : PlanView) (past : List Event) (s : ℕ) → is_cancelled plan past s ≡ false → cancelled_at plan past s ≡ None
uncancelled_never plan [] s idle = refl
uncancelled_never plan (e ∷ past) s idle =
    let parts = or_parts (option_map_or (λ t. t.0 == s) (cancels plan e) false) (is_cancelled plan past s) idle in
    ap (λ v. cond (v && not (is_cancelled plan past s)) (Some (now past)) (cancelled_at plan past s)) idle ∙ uncancelled_never plan past s parts.1

-- an activation, and a cancellation, changes nothing that was due up to the present
activation_later : (plan : PlanView) (past : List Event) (s t : ℕ) (on was : Bool) → IsPlan plan → t ≤ now past → (was ≡ false → activated_at plan past s ≡ None)
    → on_interval_since plan s t (cond (on && not was) (Some (now past)) (activated_at plan past s)) ≡ on_interval_since plan s t (activated_at plan past s)
activation_later plan past s t true true valid low never = refl
activation_later plan past s t true false valid low never = early_none plan s t (now past) valid low ∙ ap (on_interval_since plan s t) (sym (never refl))
activation_later plan past s t false was valid low never = refl

cancellation_later : (plan : PlanView) (past : List Event) (s t : ℕ) (off was : Bool) → t ≤ now past → (was ≡ false → cancelled_at plan past s ≡ None)
    → option_map_or (λ end. leb t end) (cond (off && not was) (Some (now past)) (cancelled_at plan past s)) true ≡ option_map_or (λ end. leb t end) (cancelled_at plan past s) true
cancellation_later plan past s t true true low never = refl
cancellation_later plan past s t true false low never = le-leb t (now past) low ∙ ap (λ o. option_map_or (λ end. leb t end) o true) (sym (never refl))
cancellation_later plan past s t false was low never = refl

-- what is due up to the present stays so
pub due_kept : (plan : PlanView) (e : Event) (past : List Event) (s t : ℕ) → IsPlan plan → t ≤ now past → is_due plan (e ∷ past) s t ≡ is_due plan past s t
due_kept plan e past s t valid low =
    ap (λ v. v && (leb t plan.until && option_map_or (λ end. leb t end) (cancelled_at plan (e ∷ past) s) true))
    (activation_later plan past s t (is_active plan (e ∷ past) s) (is_active plan past s) valid low (inactive_never plan past s))
    ∙ ap (λ v. on_interval_since plan s t (activated_at plan past s) && (leb t plan.until && v))
    (cancellation_later plan past s t (is_cancelled plan (e ∷ past) s) (is_cancelled plan past s) low (uncancelled_never plan past s))

-- while time stands still
pub dues_kept : (plan : PlanView) (e : Event) (past : List Event) (s : ℕ) → IsPlan plan → now (e ∷ past) ≡ now past → dues plan (e ∷ past) s ≡ dues plan past s
dues_kept plan e past s valid still =
    ap (λ n. count_by (is_due plan (e ∷ past) s) (range_with_len 1 n)) still
    ∙ alike_range (is_due plan (e ∷ past) s) (is_due plan past s) 1 (now past) (λ t low. due_kept plan e past s t valid (omega (arith, low)))

-- at a Tick nothing is activated or cancelled
due_ticked : (plan : PlanView) (past : List Event) (s t k : ℕ) → is_due plan (Tick t ∷ past) s k ≡ is_due plan past s k
due_ticked plan past s t k =
    ap (λ o. on_interval_since plan s k o && (leb k plan.until && option_map_or (λ end. leb k end) (cancelled_at plan (Tick t ∷ past) s) true)) (on (is_active plan past s))
    ∙ ap (λ o. on_interval_since plan s k (activated_at plan past s) && (leb k plan.until && option_map_or (λ end. leb k end) o true)) (off (is_cancelled plan past s))
  where
    on : (a : Bool) → cond ((a || false) && not a) (Some (now past)) (activated_at plan past s) ≡ activated_at plan past s
    on true = refl
    on false = refl

    off : (a : Bool) → cond (a && not a) (Some (now past)) (cancelled_at plan past s) ≡ cancelled_at plan past s
    off true = refl
    off false = refl

pub dues_ticked : (plan : PlanView) (past : List Event) (s t : ℕ) → IsLawful plan (Tick t ∷ past)
    → dues plan (Tick t ∷ past) s ≡ dues plan past s + count_by (is_due plan past s) (range_with_len (now past + 1) (t - now past))
unfolding may_tick
dues_ticked plan past s t lawful =
    let later = ltb-true (now past) t (and_parts (ltb (now past) t) _ (at_tick plan past t lawful.1)).0 in
    let split : t ≡ now past + (t - now past) = omega (arith, later) in
    let same : 1 + now past ≡ now past + 1 = omega arith in
    alike_range (is_due plan (Tick t ∷ past) s) (is_due plan past s) 1 t (λ k low. due_ticked plan past s t k)
    ∙ (ap (λ n. count_by (is_due plan past s) (range_with_len 1 n)) split
    ∙ (range_in_two (is_due plan past s) 1 (now past) (t - now past)
    ∙ ap (λ n. dues plan past s + count_by (is_due plan past s) (range_with_len n (t - now past))) same))
