-- The due times of the view, by the numbers that the code has of each timer.
use Rattle.std.proofs.Common.{◌≡◌, ℕ, ◌+◌, ◌-◌, min, nat_le, Bool, true, false, cond, ◌&&◌, List, [], ◌∷◌, map, length, replicate, Option, Some, None, refl, ap, sym, ◌∙◌, arith}
use Rattle.std.specs.Option.{option_map_or, option_and_then}
use Rattle.std.specs.List.{list_all, count_by, find, list_any, range_with_len, slice_get}
use Rattle.std.proofs.Math.Bool.{and-true}
use Rattle.std.proofs.Math.Path.{fun_ext}
use Rattle.std.proofs.lemmas.Bool.{and_parts, and_from}
use Rattle.std.proofs.lemmas.Bool.Decides.{nat_tests}
use Rattle.std.proofs.lemmas.List.{length-map, length-replicate}
use Rattle.std.proofs.lemmas.List.Sums.{sum_by-cons}
use Rattle.gcd_plan.specs.PlanView.{PlanView, ObjView}
use Rattle.gcd_plan.specs.Validity.{IsPlan, is_kind, is_object}
use Rattle.gcd_plan.specs.KindValues.{is_on_interval}
use Rattle.gcd_plan.specs.declared.kind.Kind.{Kind}
use Rattle.gcd_plan.specs.declared.kind.Kind.TheVariants.{Timer}
use Rattle.gcd_timer.specs.TimersView.{TimersView, is_due_at, activated_at, cancelled_at, next_due_at, due_count_at}
use Rattle.gcd_timer.specs.Intervals.{is_due_in, last_due, due_times_of}
use Rattle.gcd_timer.specs.Listed.{IsClock, due_times_at, next_due_of, nexts_of}
use Rattle.gcd_sets.specs.Least.{earlier, least}
use Rattle.gcd_timer.specs.declared.due_times.DueTimes.{DueTimes}
use Rattle.gcd_sets.proofs.Ranges.{find_none}
use Rattle.gcd_timer.proofs.Numbers.{find_either}

-- no later than `until` and the cancellation
within : (until t : ℕ) (c : Option ℕ) → (nat_le t until && option_map_or (λ end. nat_le t end) c true) ≡ nat_le t (last_due until c)
within until t None = and-true (nat_le t until)
within until t (Some end) = both until t end
  where
    both : (until t end : ℕ) → (nat_le t until && nat_le t end) ≡ nat_le t (min end until)
    both until t end = grind (arith, nat_tests)

due_of_kind : (kind : Kind) (from until t : ℕ) (c : Option ℕ)
    → (is_on_interval kind from t && (nat_le t until && option_map_or (λ end. nat_le t end) c true))
    ≡ option_map_or (λ times. is_due_in times t) (due_times_of kind from (last_due until c)) false
due_of_kind (Timer start every) from until t c = ap (λ b. is_on_interval (Timer start every) from t && b) (within until t c)
due_of_kind _ from until t c = refl

due_of_found : (a : Option ℕ) (k : Option Kind) (until t : ℕ) (c : Option ℕ)
    → (option_map_or (λ from. option_map_or (λ kind. is_on_interval kind from t) k false) a false && (nat_le t until && option_map_or (λ end. nat_le t end) c true))
    ≡ option_map_or (λ times. is_due_in times t) (option_and_then (λ from. option_and_then (λ kind. due_times_of kind from (last_due until c)) k) a) false
due_of_found None k until t c = refl
due_of_found (Some from) None until t c = refl
due_of_found (Some from) (Some kind) until t c = due_of_kind kind from until t c

-- t is a due time where the numbers of the timer say so
due_by_times : (view : TimersView) (s t : ℕ) → is_due_at view s t ≡ option_map_or (λ times. is_due_in times t) (due_times_at view s) false
due_by_times view s t = due_of_found (activated_at view s) (slice_get view.kinds s) view.until t (cancelled_at view s)

due_none : (view : TimersView) (s t : ℕ) → due_times_at view s ≡ None → is_due_at view s t ≡ false
due_none view s t none = due_by_times view s t ∙ ap (λ o. option_map_or (λ times. is_due_in times t) o false) none

due_some : (view : TimersView) (s : ℕ) (times : DueTimes) → due_times_at view s ≡ Some times → is_due_at view s ≡ is_due_in times
due_some view s times some = fun_ext (λ t. due_by_times view s t ∙ ap (λ o. option_map_or (λ b. is_due_in b t) o false) some)

pub next_none : (view : TimersView) (s : ℕ) → due_times_at view s ≡ None → next_due_of view s ≡ None
next_none view s none = find_none (is_due_at view s) (view.moment + 1) (view.until - view.moment) (λ t low high. due_none view s t none)

pub next_some : (view : TimersView) (s : ℕ) (times : DueTimes) → due_times_at view s ≡ Some times
    → next_due_of view s ≡ find (is_due_in times) (range_with_len (view.moment + 1) (view.until - view.moment))
next_some view s times some = ap (λ p. find p (range_with_len (view.moment + 1) (view.until - view.moment))) (due_some view s times some)

pub count_some : (view : TimersView) (s : ℕ) (times : DueTimes) → due_times_at view s ≡ Some times
    → due_count_at view s ≡ count_by (is_due_in times) (range_with_len 1 view.moment)
count_some view s times some = ap (λ p. count_by p (range_with_len 1 view.moment)) (due_some view s times some)

count_fails : (p : ℕ → Bool) (xs : List ℕ) → ((t : ℕ) → p t ≡ false) → count_by p xs ≡ 0
count_fails p [] fails = refl
count_fails p (x ∷ xs) fails =
    sum_by-cons (λ t. cond {A = ℕ} (p t) 1 0) x xs ∙ ap (λ b. cond b 1 0 + count_by p xs) (fails x) ∙ (let rest = count_fails p xs fails in omega (arith, rest))

pub count_none : (view : TimersView) (s : ℕ) → due_times_at view s ≡ None → due_count_at view s ≡ 0
count_none view s none = count_fails (is_due_at view s) (range_with_len 1 view.moment) (λ t. due_none view s t none)

-- the least of the next due times of some objects
least_any : (q : ℕ → ℕ → Bool) (a n : ℕ) (ss : List ℕ)
    → least (map (λ s. find (q s) (range_with_len a n)) ss) ≡ find (λ t. list_any (λ s. q s t) ss) (range_with_len a n)
least_any q a n [] = sym (find_none (λ t. false) a n (λ t low high. refl))
least_any q a n (s ∷ ss) =
    ap (earlier (find (q s) (range_with_len a n))) (least_any q a n ss) ∙ sym (find_either (q s) (λ t. list_any (λ o. q o t) ss) a n)

pub least_of_all : (view : TimersView) → least (nexts_of view) ≡ next_due_at view
least_of_all view = least_any (is_due_at view) (view.moment + 1) (view.until - view.moment) (range_with_len 0 (length view.kinds))

-- the numbers that a plan's kinds carry are in range
objects_kinds : (plan : PlanView) (objects : List ObjView) → list_all (is_object plan) objects ≡ true → list_all is_kind (map (λ o. o.kind) objects) ≡ true
objects_kinds plan [] valid = refl
objects_kinds plan (o ∷ objects) valid =
    let parts = and_parts (is_object plan o) _ valid in
    and_from _ _ (and_parts (is_kind o.kind) _ parts.0).0 (objects_kinds plan objects parts.1)

pub kinds_valid : (plan : PlanView) (kinds : List Kind) → IsPlan plan → kinds ≡ map (λ o. o.kind) plan.objects → list_all is_kind kinds ≡ true
kinds_valid plan kinds valid is = ap (list_all is_kind) is ∙ objects_kinds plan plan.objects valid.objects

-- what a plan's timers keep before the first event
pub clock_first : (plan : PlanView) (view : TimersView) (n : ℕ) → IsPlan plan → n ≡ length plan.objects
    → view.kinds ≡ map (λ o. o.kind) plan.objects → view.activated ≡ replicate n None → view.cancelled ≡ replicate n None
    → view.until ≡ plan.until → IsClock view
clock_first plan view n valid objects kinds activated cancelled until =
    let same : length view.kinds ≡ n = ap length kinds ∙ length-map plan.objects (λ o. o.kind) ∙ sym objects in
    record {
      activated = ap length activated ∙ length-replicate n None ∙ sym same;
      cancelled = ap length cancelled ∙ length-replicate n None ∙ sym same;
      kinds = kinds_valid plan view.kinds valid kinds;
      until_short = rw until valid.until_high;
    }
