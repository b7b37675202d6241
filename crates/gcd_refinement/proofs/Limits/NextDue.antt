-- The next due time that the view tells is that of the history: the earlier of the timers' next one and of the least limit that is
-- ahead.
use Rattle.std.proofs.Common.{◌≡◌, ⊎_elim, ℕ, zero, suc, ◌+◌, ◌-◌, ◌<◌, ◌≤◌, ◌==◌, nat_lt, Bool, true, false, not, ◌&&◌, ◌||◌, cond, List, [], ◌∷◌, length, get_or, find, Option, Some, None, option_and_then, refl, ap, sym, ◌∙◌, arith, eq-eqb, ne_eqb}
use Rattle.std.specs.List.{list_any, range_with_len}
use Rattle.std.specs.Option.{option_map_or}
use Rattle.std.proofs.Math.Bool.{and-true, and-false}
use Rattle.std.proofs.Math.Path.{fun_ext}
use Rattle.std.proofs.lemmas.Bool.{cases_eq, both_ways, eqb-true, lt-ltb, ltb-true, false_from_ne_true}
use Rattle.std.proofs.lemmas.List.{length-map, get_or_past}
use Rattle.std.proofs.lemmas.Option.{same_Some}
use Rattle.gcd_plan.specs.PlanView.{PlanView}
use Rattle.gcd_event.specs.declared.event.Event.{Event}
use Rattle.gcd_history.specs.Parked.{may_wake}
use Rattle.gcd_history.specs.Timers.{now, is_any_due}
use Rattle.gcd_history.specs.Due.{limit, is_limit_of, is_any_limit, next_due}
use Rattle.gcd_sets.specs.Least.{earlier, least}
use Rattle.gcd_timer.specs.TimersView.{is_due_at, is_any_due_at, next_due_at}
use Rattle.gcd_timer.proofs.Numbers.{find_either}
use Rattle.gcd_refinement.specs.MachineView.{MachineView, next_due_in}
use Rattle.gcd_refinement.specs.Shape.{PartsFit}
use Rattle.gcd_refinement.specs.Sleepers.{if_ahead, limit_ahead}
use Rattle.gcd_refinement.specs.Stands.{IsTied}
use Rattle.gcd_refinement.specs.Ties.{TimersAre}
use Rattle.gcd_plan.specs.Needs.{has_limit, limit_room}
use Rattle.gcd_plan.proofs.Needed.{room_cases}
use Rattle.gcd_refinement.proofs.Step.Sources.{due_is}

-- ## Searches over a range

-- what is found is no number before the range
pub found_low : (p : ℕ → Bool) (a n d : ℕ) → find p (range_with_len a n) ≡ Some d → a ≤ d
found_low p a zero d found = cc
found_low p a (suc n) d found =
    elim (p a) as (λ v. cond v (Some a) (find p (range_with_len (a + 1) n)) ≡ Some d → a ≤ d) [
      | true ↦ λ here. let same = same_Some a d here in omega (arith, same)
      | false ↦ λ later. let low = found_low p (a + 1) n d later in omega (arith, low)
    ] found

-- tests that agree in the range
find_agree : (p q : ℕ → Bool) (a n : ℕ) → ((t : ℕ) → a ≤ t → p t ≡ q t) → find p (range_with_len a n) ≡ find q (range_with_len a n)
find_agree p q a zero same = refl
find_agree p q a (suc n) same =
    ap (λ v. cond v (Some a) (find p (range_with_len (a + 1) n))) (same a (omega arith))
    ∙ ap (λ o. cond (q a) (Some a) o) (find_agree p q (a + 1) n (λ t low. same t (omega (arith, low))))

none_found : (a n : ℕ) → find (λ t. false) (range_with_len a n) ≡ None
none_found a zero = refl
none_found a (suc n) = none_found (a + 1) n

number_found : (x a n : ℕ) → a ≤ x → x < a + n → find (λ t. x == t) (range_with_len a n) ≡ Some x
number_found x a zero low high = absurd (omega (arith, low, high))
number_found x a (suc n) low high =
    ⊎_elim
    (λ (same : x ≡ a). ap (λ v. cond v (Some a) (find (λ t. x == t) (range_with_len (a + 1) n))) (eq-eqb x a same) ∙ ap Some (sym same))
    (λ (other : x ≡ a → ⊥).
    ap (λ v. cond v (Some a) (find (λ t. x == t) (range_with_len (a + 1) n))) (ne_eqb x a other)
    ∙ number_found x (a + 1) n (let above : a < x = omega (arith, low, other) in omega (arith, above)) (omega (arith, high)))
    (cases_eq x a)

-- ## The least of times

abbrev is_time : ℕ → Option ℕ → Bool
is_time t o = option_map_or (λ x. x == t) o false

time_found : (o : Option ℕ) (a n : ℕ) → ((x : ℕ) → o ≡ Some x → (a ≤ x) × (x < a + n)) → find (λ t. is_time t o) (range_with_len a n) ≡ o
time_found None a n within = none_found a n
time_found (Some x) a n within = let w = within x refl in number_found x a n w.0 w.1

-- the first number that is a time of the list is the least time, where all are in the range
least_found : (os : List (Option ℕ)) (a n : ℕ) → ((k x : ℕ) → get_or os k None ≡ Some x → (a ≤ x) × (x < a + n)) → find (λ t. list_any (is_time t) os) (range_with_len a n) ≡ least os
least_found [] a n within = none_found a n
least_found (o ∷ os) a n within =
    find_either (λ t. is_time t o) (λ t. list_any (is_time t) os) a n
    ∙ (ap (λ k. earlier k (find (λ t. list_any (is_time t) os) (range_with_len a n))) (time_found o a n (λ x at. within 0 x at))
    ∙ ap (earlier o) (least_found os a n (λ k x at. within (suc k) x at)))

-- a test of the numbers of a list's places, against a test of its elements
places_any : (os : List (Option ℕ)) (f : ℕ → Bool) (g : Option ℕ → Bool) (a : ℕ) → ((k : ℕ) → f (a + k) ≡ g (get_or os k None)) → list_any f (range_with_len a (length os)) ≡ list_any g os
places_any [] f g a same = refl
places_any (o ∷ os) f g a same =
    let here : a + 0 ≡ a = omega arith in
    ap (λ u. u || list_any f (range_with_len (a + 1) (length os))) (ap f (sym here) ∙ same 0)
    ∙ ap (λ u. g o || u) (places_any os f g (a + 1) (λ k. let next : a + 1 + k ≡ a + suc k = omega arith in ap f next ∙ same (suc k)))

-- ## Timers

pub any_due_is : (plan : PlanView) (past : List Event) (v : MachineView) (t : ℕ) → PartsFit plan v → TimersAre plan past v → is_any_due_at v.timers t ≡ is_any_due plan past t
any_due_is plan past v t fit ties =
    ap (λ n. list_any (λ s. is_due_at v.timers s t) (range_with_len 0 n)) (ap length fit.timer_kinds ∙ length-map plan.objects (λ o. o.kind))
    ∙ ap (λ p. list_any p (range_with_len 0 (length plan.objects)))
    (fun_ext (λ s. due_is plan past v.timers s t (record { kinds = fit.timer_kinds; until = fit.until }) (ties.activated s) (ties.cancelled s)))

timers_next : (plan : PlanView) (past : List Event) (v : MachineView) → PartsFit plan v → TimersAre plan past v → next_due_at v.timers ≡ find (is_any_due plan past) (range_with_len (now past + 1) (plan.until - now past))
timers_next plan past v fit ties =
    ap (λ p. find p (range_with_len (v.timers.moment + 1) (v.timers.until - v.timers.moment))) (fun_ext (λ t. any_due_is plan past v t fit ties))
    ∙ (ap (λ n. find (is_any_due plan past) (range_with_len (n + 1) (v.timers.until - n))) ties.moment
    ∙ ap (λ n. find (is_any_due plan past) (range_with_len (now past + 1) (n - now past))) fit.until)

-- ## Limits

-- a limit that is ahead is the limit of a wait that is not over, above the time
record IsAhead (plan : PlanView) (past : List Event) (b x : ℕ) : Type 0 where
  is : limit plan past b ≡ Some x
  later : now past < x

ahead_parts : (plan : PlanView) (past : List Event) (b x : ℕ) → limit_ahead plan past b ≡ Some x → IsAhead plan past b x
ahead_parts plan past b x h = by (may_wake plan past b) (limit plan past b) refl h
  where
    above : (n : ℕ) (u : Bool) → nat_lt (now past) n ≡ u → limit plan past b ≡ Some n → cond u (Some n) None ≡ Some x → IsAhead plan past b x
    above n true is at k = let same = same_Some n x k in let l = ltb-true (now past) n is in record { is = at ∙ ap Some same; later = omega (arith, same, l) }
    above n false is at k = cc

    by : (m : Bool) (o : Option ℕ) → limit plan past b ≡ o → cond m None (option_and_then (if_ahead (now past)) o) ≡ Some x → IsAhead plan past b x
    by true o at k = cc
    by false None at k = cc
    by false (Some n) at k = above n (nat_lt (now past) n) refl at k

-- above the time, the limit of a wait that is not over is one that is ahead
limit_told : (plan : PlanView) (past : List Event) (b t : ℕ) → now past < t → is_limit_of plan past t b ≡ is_time t (limit_ahead plan past b)
limit_told plan past b t later = by (may_wake plan past b) (limit plan past b)
  where
    reached : (n : ℕ) (u : Bool) → nat_lt (now past) n ≡ u → ((n == t) && true) ≡ is_time t (cond u (Some n) None)
    reached n true is = and-true (n == t)
    reached n false is =
        ap (λ u. u && true) (false_from_ne_true (n == t) (λ same. both_ways (nat_lt (now past) n) is (lt-ltb (now past) n (let e = eqb-true n t same in omega (arith, e, later)))))

    by : (m : Bool) (o : Option ℕ) → (option_map_or (λ end. end == t) o false && not m) ≡ is_time t (cond m None (option_and_then (if_ahead (now past)) o))
    by true o = and-false (option_map_or (λ end. end == t) o false)
    by false None = refl
    by false (Some n) = reached n (nat_lt (now past) n) refl

-- where no limits are kept there are none
unlimited : (plan : PlanView) (past : List Event) (v : MachineView) (b t : ℕ) → IsTied plan past v → limit_room plan ≡ 0 → is_limit_of plan past t b ≡ false
unlimited plan past v b t tied none =
    let long = tied.parts.limits in
    ap (λ o. option_map_or (λ end. end == t) o false && not (may_wake plan past b)) (sym (tied.waits.limits b) ∙ get_or_past v.waits.limits b None (omega (arith, long, none)))

none_in : (p : ℕ → Bool) (n a : ℕ) → ((k : ℕ) → p k ≡ false) → list_any p (range_with_len a n) ≡ false
none_in p zero a none = refl
none_in p (suc n) a none = ap (λ u. u || list_any p (range_with_len (a + 1) n)) (none a) ∙ none_in p n (a + 1) none

any_limit_told : (plan : PlanView) (past : List Event) (v : MachineView) (t : ℕ) → IsTied plan past v → now past < t → is_any_limit plan past t ≡ list_any (is_time t) v.ahead
any_limit_told plan past v t tied later =
    ⊎_elim
    (λ all.
    ap (λ n. list_any (is_limit_of plan past t) (range_with_len 0 n)) (sym (tied.own.ahead ∙ all))
    ∙ places_any v.ahead (is_limit_of plan past t) (is_time t) 0 (λ k. let front : 0 + k ≡ k = omega arith in ap (is_limit_of plan past t) front ∙ (limit_told plan past k t later ∙ ap (is_time t) (sym (tied.limits.ahead k)))))
    (λ none.
    none_in (is_limit_of plan past t) (length plan.blocks) 0 (λ k. unlimited plan past v k t tied none)
    ∙ sym (ap (list_any (is_time t)) (empty v.ahead (tied.own.ahead ∙ none))))
    (room_cases has_limit plan)
  where
    empty : (xs : List (Option ℕ)) → length xs ≡ 0 → xs ≡ []
    empty [] none = refl
    empty (x ∷ xs) some = cc

limits_next : (plan : PlanView) (past : List Event) (v : MachineView) → IsTied plan past v → find (is_any_limit plan past) (range_with_len (now past + 1) (plan.until - now past)) ≡ least v.ahead
limits_next plan past v tied =
    find_agree (is_any_limit plan past) (λ t. list_any (is_time t) v.ahead) (now past + 1) (plan.until - now past) (λ t low. any_limit_told plan past v t tied (omega (arith, low)))
    ∙ least_found v.ahead (now past + 1) (plan.until - now past) (λ k x at.
    let ahead = ahead_parts plan past k x (sym (tied.limits.ahead k) ∙ at) in
    let later = ahead.later in
    let high = tied.small.limits k x (tied.waits.limits k ∙ ahead.is) in
    (omega (arith, later), omega (arith, later, high)))

-- ## Both

pub next_due_is : (plan : PlanView) (past : List Event) (v : MachineView) → IsTied plan past v → next_due_in v ≡ next_due plan past
unfolding next_due
next_due_is plan past v tied =
    ap (λ o. earlier o (least v.ahead)) (timers_next plan past v tied.parts tied.timers)
    ∙ (ap (earlier (find (is_any_due plan past) (range_with_len (now past + 1) (plan.until - now past)))) (sym (limits_next plan past v tied))
    ∙ sym (find_either (is_any_due plan past) (is_any_limit plan past) (now past + 1) (plan.until - now past)))
