-- The next due times: what a change of one object, and a tick, leave of them.
use Rattle.std.proofs.Common.{◌≡◌, ◌≢◌, ℕ, zero, suc, ◌+◌, ◌-◌, ◌<◌, ◌≤◌, min, nat_le, true, false, cond, ◌&&◌, List, [], ◌∷◌, map, length, get_or, set, replicate, Option, Some, None, IfSome, is_some, refl, ap, sym, ◌∙◌, subst, inl, inr, arith}
use Rattle.std.specs.Option.{option_map_or}
use Rattle.std.specs.List.{find, range_with_len, slice_get, count_by}
use Rattle.std.proofs.lemmas.Bool.{cases_eq, cases_lt, leb-false, lt-leb, le-leb}
use Rattle.std.proofs.lemmas.Option.{get_or_from_slice_get, slice_get_past}
use Rattle.std.proofs.lemmas.List.{ext_get_or, get_or_past, get_or-set_same, get_or-set_other, length-set, length-map, length-replicate, get_or-replicate}
use Rattle.std.proofs.lemmas.List.Sums.{sum_by-set}
use Rattle.std.proofs.lemmas.List.FromFn.{get_or-map-range_with_len, length-map-range_with_len}
use Rattle.gcd_plan.proofs.Places.{get_or-replicate_same}
use Rattle.gcd_plan.specs.PlanView.{PlanView}
use Rattle.gcd_plan.specs.Limits.{max_time}
use Rattle.gcd_plan.specs.KindValues.{is_on_interval}
use Rattle.gcd_sets.proofs.Ranges.{find_none, find_first, found_first, found_none}
use Rattle.gcd_sets.specs.Least.{earlier, least, no_time}
use Rattle.gcd_timer.specs.TimersView.{TimersView, timers_of, activated_at, cancelled_at, is_due_at, next_due_at, with_activated, with_cancelled}
use Rattle.gcd_timer.specs.Listed.{AreBehind, next_due_of, nexts_of, is_reached}
use Rattle.gcd_timer.proofs.Views.{least_of_all}

-- a next due time is no later than the last
pub if_short : (o : Option ℕ) (view : TimersView) (s : ℕ) → o ≡ next_due_of view s → view.until ≤ max_time → IfSome o (λ t. t < no_time)
if_short None view s is short = tt
if_short (Some x) view s is short =
    let first = found_first (is_due_at view s) (view.moment + 1) (view.until - view.moment) x (sym is) in
    omega (arith, first.from, first.to, short)

pub long : (view : TimersView) → length (nexts_of view) ≡ length view.kinds
long view = length-map-range_with_len (next_due_of view) 0 (length view.kinds)

pub next_read : (view : TimersView) (s : ℕ) → s < length view.kinds → get_or (nexts_of view) s None ≡ next_due_of view s
next_read view s lt = get_or-map-range_with_len (next_due_of view) 0 (length view.kinds) s s None lt (omega arith)

-- an object that is past the end is never due
pub next_past : (view : TimersView) (s : ℕ) → length view.kinds ≤ s → next_due_of view s ≡ None
next_past view s past = find_none (is_due_at view s) (view.moment + 1) (view.until - view.moment) (λ t low high. never (activated_at view s) t)
  where
    kind : (from : ℕ) (t : ℕ) → option_map_or (λ k. is_on_interval k from t) (slice_get view.kinds s) false ≡ false
    kind from t = ap (λ o. option_map_or (λ k. is_on_interval k from t) o false) (slice_get_past view.kinds s past)

    never : (a : Option ℕ) (t : ℕ) → (option_map_or (λ from. option_map_or (λ k. is_on_interval k from t) (slice_get view.kinds s) false) a false && (nat_le t view.until && option_map_or (λ end. nat_le t end) (cancelled_at view s) true)) ≡ false
    never None t = refl
    never (Some from) t = ap (λ b. b && (nat_le t view.until && option_map_or (λ end. nat_le t end) (cancelled_at view s) true)) (kind from t)

-- lists of next due times
pub nexts_are : (view : TimersView) (nexts : List (Option ℕ)) → length nexts ≡ length view.kinds
    → ((s : ℕ) → s < length view.kinds → get_or nexts s None ≡ next_due_of view s) → nexts ≡ nexts_of view
nexts_are view nexts same each =
    ext_get_or None nexts (nexts_of view) (same ∙ sym (long view))
    (λ s lt. let within : s < length view.kinds = omega (arith, lt, same) in each s within ∙ sym (next_read view s within))

-- before the first event nothing is due
pub nexts_first : (plan : PlanView) (nexts : List (Option ℕ)) (n : ℕ) → nexts ≡ replicate n None → n ≡ length plan.objects → nexts ≡ nexts_of (timers_of plan)
nexts_first plan nexts n none count =
    let kinds : length (map (λ o. o.kind) plan.objects) ≡ length plan.objects = length-map plan.objects (λ o. o.kind) in
    nexts_are (timers_of plan) nexts (ap length none ∙ length-replicate n None ∙ count ∙ sym kinds)
    (λ s lt.
    ap (λ xs. get_or xs s None) none ∙ get_or-replicate n s None None (omega (arith, lt, kinds, count))
    ∙ sym (find_none (is_due_at (timers_of plan) s) 1 (plan.until - 0) (λ t low high. never s t)))
  where
    never : (s t : ℕ) → is_due_at (timers_of plan) s t ≡ false
    never s t =
        ap (λ a. option_map_or (λ from. option_map_or (λ k. is_on_interval k from t) (slice_get (map (λ o. o.kind) plan.objects) s) false) a false
        && (nat_le t plan.until && option_map_or (λ end. nat_le t end) (cancelled_at (timers_of plan) s) true))
        (get_or-replicate_same (length plan.objects) s None)

-- what a change of one object leaves of the others
pub record Elsewhere (old new : TimersView) (s : ℕ) : Type 0 where
  pub kinds : length new.kinds ≡ length old.kinds
  pub others : (i : ℕ) → i ≢ s → next_due_of new i ≡ next_due_of old i

pub activated_alone : (old new : TimersView) (s : ℕ) → (activated_at old s ≡ None → new ≡ with_activated old s)
    → (is_some (activated_at old s) ≡ true → new ≡ old) → Elsewhere old new s
activated_alone old new s first again = split (activated_at old s) refl
  where
    split : (a : Option ℕ) → activated_at old s ≡ a → Elsewhere old new s
    split None e = subst (λ v. Elsewhere old v s) (sym (first e)) (record {
      kinds = refl;
      others = λ i ne. ap
          (λ a. find (λ t. option_map_or (λ from. option_map_or (λ k. is_on_interval k from t) (slice_get old.kinds i) false) a false
          && (nat_le t old.until && option_map_or (λ end. nat_le t end) (cancelled_at old i) true))
          (range_with_len (old.moment + 1) (old.until - old.moment)))
          (get_or-set_other old.activated s i (Some old.moment) None ne);
    })
    split (Some x) e = subst (λ v. Elsewhere old v s) (sym (again (ap is_some e))) (record { kinds = refl; others = λ i ne. refl })

pub cancelled_alone : (old new : TimersView) (s : ℕ) → (cancelled_at old s ≡ None → new ≡ with_cancelled old s)
    → (is_some (cancelled_at old s) ≡ true → new ≡ old) → Elsewhere old new s
cancelled_alone old new s first again = split (cancelled_at old s) refl
  where
    split : (a : Option ℕ) → cancelled_at old s ≡ a → Elsewhere old new s
    split None e = subst (λ v. Elsewhere old v s) (sym (first e)) (record {
      kinds = refl;
      others = λ i ne. ap
          (λ c. find (λ t. option_map_or (λ from. option_map_or (λ k. is_on_interval k from t) (slice_get old.kinds i) false) (activated_at old i) false
          && (nat_le t old.until && option_map_or (λ end. nat_le t end) c true))
          (range_with_len (old.moment + 1) (old.until - old.moment)))
          (get_or-set_other old.cancelled s i (Some old.moment) None ne);
    })
    split (Some x) e = subst (λ v. Elsewhere old v s) (sym (again (ap is_some e))) (record { kinds = refl; others = λ i ne. refl })

pub nexts_changed : (old new : TimersView) (nexts : List (Option ℕ)) (s : ℕ) (next : Option ℕ) → nexts ≡ nexts_of old → s < length old.kinds
    → Elsewhere old new s → next ≡ next_due_of new s → set nexts s next ≡ nexts_of new
nexts_changed old new nexts s next are within e is =
    let count : length nexts ≡ length old.kinds = ap length are ∙ long old in
    nexts_are new (set nexts s next) (length-set nexts s next ∙ count ∙ sym e.kinds)
    (λ i lt. elim (cases_eq i s) [
      | inl here ↦ rw here (get_or-set_same nexts s next None (omega (arith, within, count)) ∙ is)
      | inr ne ↦
          get_or-set_other nexts s i next None ne ∙ ap (λ xs. get_or xs i None) are ∙ next_read old i (omega (arith, lt, e.kinds)) ∙ sym (e.others i ne)
    ])

-- ## A tick

-- the least that is not reached is of none that are
not_reached : (t : ℕ) (a b : Option ℕ) → is_reached t (earlier a b) ≡ false → (is_reached t a ≡ false) × (is_reached t b ≡ false)
not_reached t None b not = (refl, not)
not_reached t (Some x) None not = (not, refl)
not_reached t (Some x) (Some y) not =
    let past = leb-false (min x y) t not in
    (lt-leb x t (omega (arith, past)), lt-leb y t (omega (arith, past)))

pub none_reached : (t : ℕ) (nexts : List (Option ℕ)) → is_reached t (least nexts) ≡ false → (s : ℕ) → is_reached t (get_or nexts s None) ≡ false
none_reached t [] not s = refl
none_reached t (o ∷ nexts) not zero = (not_reached t o (least nexts) not).0
none_reached t (o ∷ nexts) not (suc s) = none_reached t nexts (not_reached t o (least nexts) not).1 s

pub is_there : (t : ℕ) (nexts : List (Option ℕ)) (s m : ℕ) → slice_get nexts s ≡ Some (least nexts) → least nexts ≡ Some m → m ≤ t
    → is_reached t (get_or nexts s None) ≡ true
is_there t nexts s m there is low =
    ap (is_reached t) (get_or_from_slice_get nexts s (least nexts) None there ∙ is) ∙ le-leb m t low

-- what was not reached is the first after the tick too
next_later : (view : TimersView) (t s : ℕ) → view.moment ≤ t → t ≤ view.until → is_reached t (next_due_of view s) ≡ false
    → next_due_of view s ≡ next_due_of (record view { moment = t }) s
next_later view t s forward within not = by_first (next_due_of view s) refl not
  where
    by_first : (o : Option ℕ) → next_due_of view s ≡ o → is_reached t o ≡ false → next_due_of view s ≡ next_due_of (record view { moment = t }) s
    by_first None e not' =
        e ∙ sym (find_none (is_due_at view s) (t + 1) (view.until - t)
        (λ k low high. found_none (is_due_at view s) (view.moment + 1) (view.until - view.moment) e k (omega (arith, low, forward)) (omega (arith, high, within, forward))))
    by_first (Some x) e not' =
        let first = found_first (is_due_at view s) (view.moment + 1) (view.until - view.moment) x e in
        let ahead = leb-false x t not' in
        e ∙ sym (find_first (is_due_at view s) (t + 1) (view.until - t) x (omega (arith, ahead)) (omega (arith, first.to, within, forward)) first.passes
        (λ k low high. first.before k (omega (arith, low, forward)) high))

pub behind_after : (old new : TimersView) (t : ℕ) (nexts : List (Option ℕ)) → nexts ≡ nexts_of old → new ≡ record old { moment = t }
    → old.moment ≤ t → t ≤ old.until → AreBehind new nexts
behind_after old new t nexts are is forward within = subst (λ v. AreBehind v nexts) (sym is) (record {
  long = ap length are ∙ long old;
  ahead = λ s not. elim (cases_lt s (length old.kinds)) [
    | inl lt ↦
        let read : get_or nexts s None ≡ next_due_of old s = ap (λ xs. get_or xs s None) are ∙ next_read old s lt in
        read ∙ next_later old t s forward within (sym (ap (is_reached t) read) ∙ not)
    | inr past ↦
        get_or_past nexts s None (let count : length nexts ≡ length old.kinds = ap length are ∙ long old in omega (arith, count, past))
        ∙ sym (next_past (record old { moment = t }) s past)
  ];
})

pub behind_still : (view : TimersView) (nexts : List (Option ℕ)) (s : ℕ) (next : Option ℕ) → AreBehind view nexts → s < length nexts
    → next ≡ next_due_of view s → AreBehind view (set nexts s next)
behind_still view nexts s next b lt is = record {
  long = length-set nexts s next ∙ b.long;
  ahead = λ i not. elim (cases_eq i s) [
    | inl e ↦ rw e (get_or-set_same nexts s next None lt ∙ is)
    | inr ne ↦
        let old = get_or-set_other nexts s i next None ne in
        old ∙ b.ahead i (sym (ap (is_reached view.moment) old) ∙ not)
  ];
}

-- one less is reached
pub next_ahead : (view : TimersView) (s : ℕ) → is_reached view.moment (next_due_of view s) ≡ false
next_ahead view s = by_first (next_due_of view s) refl
  where
    by_first : (o : Option ℕ) → next_due_of view s ≡ o → is_reached view.moment o ≡ false
    by_first None e = refl
    by_first (Some x) e =
        let first = found_first (is_due_at view s) (view.moment + 1) (view.until - view.moment) x e in
        lt-leb x view.moment (omega (arith, first.from))

pub one_less : (view : TimersView) (nexts : List (Option ℕ)) (s : ℕ) (next : Option ℕ) → s < length nexts → is_reached view.moment (get_or nexts s None) ≡ true
    → next ≡ next_due_of view s → count_by (is_reached view.moment) (set nexts s next) < count_by (is_reached view.moment) nexts
one_less view nexts s next lt here is =
    let value : Option ℕ → ℕ = λ o. cond (is_reached view.moment o) 1 0 in
    let less = sum_by-set value nexts s next None lt in
    let old : value (get_or nexts s None) ≡ 1 = ap (λ b. cond b 1 0) here in
    let new : value next ≡ 0 = ap (λ b. cond b 1 0) (ap (is_reached view.moment) is ∙ next_ahead view s) in
    omega (arith, less, old, new)

pub all_ahead : (view : TimersView) (nexts : List (Option ℕ)) → AreBehind view nexts → ((s : ℕ) → is_reached view.moment (get_or nexts s None) ≡ false)
    → nexts ≡ nexts_of view
all_ahead view nexts b none = nexts_are view nexts b.long (λ s lt. b.ahead s (none s))

-- a number whose next due time is the least is due at the least of all
pub due_soonest : (view : TimersView) (nexts : List (Option ℕ)) (s t : ℕ) → nexts ≡ nexts_of view → s < length nexts
    → slice_get nexts s ≡ Some (least nexts) → next_due_at view ≡ Some t → is_due_at view s t ≡ true
due_soonest view nexts s t all within there next =
    let n : s < length view.kinds = (let count = ap length all ∙ long view in omega (arith, within, count)) in
    let own : next_due_of view s ≡ least nexts =
    sym (next_read view s n) ∙ ap (λ ns. get_or ns s None) (sym all) ∙ get_or_from_slice_get nexts s (least nexts) None there in
    let found : next_due_of view s ≡ Some t = own ∙ ap least all ∙ least_of_all view ∙ next in
    (found_first (is_due_at view s) (view.moment + 1) (view.until - view.moment) t found).passes
