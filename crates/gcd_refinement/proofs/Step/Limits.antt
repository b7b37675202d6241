-- Which limits are ahead, and which waits may expire, after an event: the tie of the limits, one event on.
use Rattle.std.proofs.Common.{◌≡◌, ⊎_elim, ℕ, ◌<◌, ◌≤◌, ◌==◌, nat_le, nat_lt, Bool, true, false, not, ◌&&◌, ◌||◌, cond, List, [], ◌∷◌, ◌++◌, length, get_or, set, Option, Some, None, is_some, option_and_then, refl, ap, sym, ◌∙◌, subst, arith, eq-eqb, ne_eqb}
use Rattle.std.specs.List.{fold}
use Rattle.std.specs.Option.{option_map_or}
use Rattle.std.proofs.Math.Bool.{and-true, and-false}
use Rattle.std.proofs.Math.ListN.{get_or-eq_default, get_or-map}
use Rattle.std.proofs.lemmas.Bool.{cases_eq, cases_lt, both_ways, le-leb, leb-true, lt-ltb, ltb-true, and_parts, or_left, or_parts, false_from_ne_true}
use Rattle.std.proofs.lemmas.List.{get_or-set_same, get_or-set_other}
use Rattle.std.proofs.lemmas.List.Folds.{list_any-append}
use Rattle.std.proofs.lemmas.List.FromFn.{get_or-map-range_with_len}
use Rattle.gcd_plan.specs.PlanView.{PlanView}
use Rattle.gcd_plan.specs.declared.act.Act.{Act}
use Rattle.gcd_plan.specs.declared.act.Act.TheVariants.{Sync, BarrierSync, GroupWait, GroupWaitFor, Wait, WaitFor, Apply, WaitBlock}
use Rattle.gcd_plan.specs.declared.numbers.Blk.{Blk}
use Rattle.gcd_plan.specs.declared.numbers.Run.TheVariants.{Block, Source}
use Rattle.gcd_plan.specs.declared.reason.Reason.{Reason}
use Rattle.gcd_event.specs.declared.event.Event.{Event}
use Rattle.gcd_event.specs.declared.event.Event.TheVariants.{Act as Acted, Wake, Tick}
use Rattle.gcd_history.specs.Runs.{act_at}
use Rattle.gcd_history.specs.Parked.{awaited, is_over, is_parked, may_wake}
use Rattle.gcd_history.specs.Timers.{now}
use Rattle.gcd_history.specs.Due.{last_limit, limit, is_at_limit, may_tick}
use Rattle.gcd_history.specs.Permitted.{IsLawful}
use Rattle.gcd_history.specs.Facts.{wakes}
use Rattle.gcd_history.proofs.Permitted.Reasons.{at_act, at_wake, at_tick}
use Rattle.gcd_group.specs.GroupsView.{count_at}
use Rattle.gcd_sema.specs.SemasView.{has_value_at}
use Rattle.gcd_apply.specs.StripsView.{left_at}
use Rattle.gcd_plan.specs.Needs.{has_limit, limit_room}
use Rattle.gcd_sync.specs.WaitsView.{WaitsView, limit_at}
use Rattle.gcd_refinement.specs.MachineView.{MachineView, ended_at, ahead_at, is_ripe_at}
use Rattle.gcd_refinement.specs.Shape.{PartsFit, OwnFit}
use Rattle.gcd_refinement.specs.Sleepers.{if_ahead, limit_ahead, may_expire}
use Rattle.gcd_refinement.specs.Ties.{TimersAre, WaitsAre, WakesAre, LimitsAre}
use Rattle.gcd_refinement.specs.Submits.{emptied_by, sleepers_at, come_at_once, signalled, come_by}
use Rattle.gcd_refinement.specs.AfterLimits.{limit_in_view, laid_ahead, laid_ripe, still_ahead, is_ripe_by, limit_asleep, ahead_at_event, ripe_at_event}
use Rattle.gcd_refinement.specs.After.{awaited_in_view, parked_for, woken, waits_after, after}
use Rattle.gcd_refinement.proofs.Lists.Writes.{entry_cleared, option_set}
use Rattle.gcd_plan.proofs.Needed.{room_low}
use Rattle.gcd_refinement.proofs.Rooms.{room_of_limit}
use Rattle.gcd_refinement.proofs.Step.Waits.{unparked_awaited}
use Rattle.gcd_refinement.proofs.Lists.Among.{among}
use Rattle.gcd_refinement.proofs.Step.Wakeable.{wakeable_fold, woken_wakeable, woken_long}

-- ## Lists

-- cleared at each of these blocks
cleared : {X : Type 0} (d : X) (xs : List X) (cs : List Blk) (b : Blk) → get_or (fold (λ l c. set l c.0 d) xs cs) b.0 d ≡ cond (among b cs) d (get_or xs b.0 d)
cleared d xs [] b = refl
cleared d xs (c ∷ cs) b =
    cleared d (set xs c.0 d) cs b ∙ (ap (λ x. cond (among b cs) d x) (entry_cleared xs c.0 b.0 d) ∙ either (c.0 == b.0) (among b cs))
  where
    either : (t u : Bool) → cond u d (cond t d (get_or xs b.0 d)) ≡ cond (t || u) d (get_or xs b.0 d)
    either true true = refl
    either true false = refl
    either false true = refl
    either false false = refl

-- ## By whether the block may wake, its limit, and the time

abbrev ahead_of : Bool → Option ℕ → ℕ → Option ℕ
ahead_of may end time = cond may None (option_and_then (if_ahead time) end)

abbrev ripe_of : Bool → Option ℕ → ℕ → Bool
ripe_of may end time = option_map_or (λ n. nat_le n time) end false && not may

ripe_is : (plan : PlanView) (past : List Event) (b : ℕ) → may_expire plan past b ≡ ripe_of (may_wake plan past b) (limit plan past b) (now past)
unfolding is_at_limit
ripe_is plan past b = refl

none_ahead : (may : Bool) (time : ℕ) → ahead_of may None time ≡ None
none_ahead true time = refl
none_ahead false time = refl

-- when time comes to t
ticked_ahead : (may : Bool) (end : Option ℕ) (time t : ℕ) → time < t → option_and_then (if_ahead t) (ahead_of may end time) ≡ ahead_of may end t
ticked_ahead true end time t later = refl
ticked_ahead false None time t later = refl
ticked_ahead false (Some n) time t later =
    ⊎_elim
    (λ (more : time < n). ap (λ u. option_and_then (if_ahead t) (cond u (Some n) None)) (lt-ltb time n more))
    (λ (reached : n ≤ time).
    ap (λ u. option_and_then (if_ahead t) (cond u (Some n) None)) (false_from_ne_true (nat_lt time n) (λ h. let l = ltb-true time n h in omega (arith, l, reached)))
    ∙ sym (ap (λ u. cond u (Some n) None) (false_from_ne_true (nat_lt t n) (λ h. let l = ltb-true t n h in omega (arith, l, reached, later)))))
    (cases_lt time n)

ticked_ripe : (may : Bool) (end : Option ℕ) (time t : ℕ) → time < t → (ripe_of may end time || option_map_or (λ n. nat_le n t) (ahead_of may end time) false) ≡ ripe_of may end t
ticked_ripe may None time t later = by may
  where
    by : (m : Bool) → option_map_or (λ n. nat_le n t) (ahead_of m None time) false ≡ false
    by true = refl
    by false = refl
ticked_ripe true (Some n) time t later = ap (λ u. u || false) (and-false (nat_le n time)) ∙ sym (and-false (nat_le n t))
ticked_ripe false (Some n) time t later =
    ⊎_elim
    (λ (more : time < n).
    ap (λ u. (u && true) || option_map_or (λ k. nat_le k t) (cond (nat_lt time n) (Some n) None) false) (false_from_ne_true (nat_le n time) (λ h. let l = leb-true n time h in omega (arith, l, more)))
    ∙ (ap (λ u. option_map_or (λ k. nat_le k t) (cond u (Some n) None) false) (lt-ltb time n more) ∙ sym (and-true (nat_le n t))))
    (λ (reached : n ≤ time).
    ap (λ u. (u && true) || option_map_or (λ k. nat_le k t) (cond (nat_lt time n) (Some n) None) false) (le-leb n time reached)
    ∙ sym (ap (λ u. u && true) (le-leb n t (omega (arith, reached, later)))))
    (cases_lt time n)

-- ## Around an event

-- what is known of a block before and after the event
record Around (plan : PlanView) (past : List Event) (e : Event) (v : MachineView) (b : Blk) : Type 0 where
  lawful : IsLawful plan (e ∷ past)
  low : b.0 < length plan.blocks
  ahead_long : length v.ahead ≡ limit_room plan
  ripe_long : length v.ripe ≡ length plan.blocks
  limits_long : length v.waits.limits ≡ limit_room plan
  moment : v.timers.moment ≡ now past
  was : limit_at v.waits b.0 ≡ limit plan past b.0
  is : limit_at (waits_after plan v e) b.0 ≡ limit plan (e ∷ past) b.0
  may : may_wake plan (e ∷ past) b.0 ≡ (among b (come_by plan v e) || (not (wakes b.0 e) && may_wake plan past b.0))
  ahead : ahead_at v b.0 ≡ ahead_of (may_wake plan past b.0) (limit plan past b.0) (now past)
  ripe : is_ripe_at v b.0 ≡ ripe_of (may_wake plan past b.0) (limit plan past b.0) (now past)

-- the two arrays, before those whose wait is over are taken away
record Told (plan : PlanView) (e : Event) (v : MachineView) (b : Blk) (may : Bool) (end : Option ℕ) (time : ℕ) : Type 0 where
  ahead : get_or (ahead_at_event plan v e) b.0 None ≡ ahead_of may end time
  ripe : get_or (ripe_at_event plan v e) b.0 false ≡ ripe_of may end time

-- what was so stays so
kept : (plan : PlanView) (e : Event) (v : MachineView) (b : Blk) (may was_may : Bool) (end was_end : Option ℕ) (time was_time : ℕ) → may ≡ was_may → end ≡ was_end → time ≡ was_time
    → get_or (ahead_at_event plan v e) b.0 None ≡ ahead_of was_may was_end was_time → get_or (ripe_at_event plan v e) b.0 false ≡ ripe_of was_may was_end was_time → Told plan e v b may end time
kept plan e v b may was_may end was_end time was_time m n t ahead ripe = record {
  ahead = ahead ∙ sym (ap (λ u. ahead_of u end time) m ∙ (ap (λ o. ahead_of was_may o time) n ∙ ap (λ k. ahead_of was_may was_end k) t));
  ripe = ripe ∙ sym (ap (λ u. ripe_of u end time) m ∙ (ap (λ o. ripe_of was_may o time) n ∙ ap (λ k. ripe_of was_may was_end k) t));
}

abbrev ToldAfter : PlanView → List Event → Event → MachineView → Blk → Type 0
ToldAfter plan past e v b = Told plan e v b (may_wake plan (e ∷ past) b.0) (limit plan (e ∷ past) b.0) (now (e ∷ past))

-- ## A Wake

woken_limit : (waits : WaitsView) (c b : ℕ) → c ≡ b → get_or (set waits.limits c None) b None ≡ None
woken_limit waits c b same = entry_cleared waits.limits c b None ∙ ap (λ u. cond u None (limit_at waits b)) (eq-eqb c b same)

told_wake : (plan : PlanView) (past : List Event) (w : ℕ) (c : Blk) (v : MachineView) (b : Blk) → Around plan past (Wake w c) v b → ToldAfter plan past (Wake w c) v b
told_wake plan past w c v b a =
    ⊎_elim
    (λ (same : c.0 ≡ b.0).
    let came : may_wake plan past b.0 ≡ true = subst (λ n. may_wake plan past n ≡ true) same (at_wake plan past w c a.lawful.1).came in
    let none : limit plan (Wake w c ∷ past) b.0 ≡ None = sym a.is ∙ woken_limit v.waits c.0 b.0 same in
    record {
      ahead = a.ahead ∙ (ap (λ u. ahead_of u (limit plan past b.0) (now past)) came ∙ sym (ap (λ o. ahead_of (may_wake plan (Wake w c ∷ past) b.0) o (now past)) none ∙ none_ahead (may_wake plan (Wake w c ∷ past) b.0) (now past)));
      ripe = a.ripe ∙ (ap (λ u. ripe_of u (limit plan past b.0) (now past)) came ∙ (and-false (option_map_or (λ n. nat_le n (now past)) (limit plan past b.0) false) ∙ sym (ap (λ o. ripe_of (may_wake plan (Wake w c ∷ past) b.0) o (now past)) none)));
    })
    (λ (other : c.0 ≡ b.0 → ⊥).
    let off = ne_eqb c.0 b.0 other in
    kept plan (Wake w c) v b (may_wake plan (Wake w c ∷ past) b.0) (may_wake plan past b.0) (limit plan (Wake w c ∷ past) b.0) (limit plan past b.0) (now past) (now past)
    (a.may ∙ ap (λ u. not u && may_wake plan past b.0) off)
    (sym a.is ∙ (entry_cleared v.waits.limits c.0 b.0 None ∙ (ap (λ u. cond u None (limit_at v.waits b.0)) off ∙ a.was)))
    refl a.ahead a.ripe)
    (cases_eq c.0 b.0)

-- ## A Tick

told_tick : (plan : PlanView) (past : List Event) (t : ℕ) (v : MachineView) (b : Blk) → Around plan past (Tick t) v b → ToldAfter plan past (Tick t) v b
unfolding may_tick
told_tick plan past t v b a =
    let low = a.low in
    let long = a.ripe_long in
    let may : may_wake plan (Tick t ∷ past) b.0 ≡ may_wake plan past b.0 = a.may in
    let end : limit plan (Tick t ∷ past) b.0 ≡ limit plan past b.0 = sym a.is ∙ a.was in
    let later = ltb-true (now past) t (and_parts (nat_lt (now past) t) _ (at_tick plan past t a.lawful.1)).0 in
    let was_may = may_wake plan past b.0 in
    let was_end = limit plan past b.0 in
    kept plan (Tick t) v b (may_wake plan (Tick t ∷ past) b.0) was_may (limit plan (Tick t ∷ past) b.0) was_end t t may end refl
    (get_or-map (still_ahead t) v.ahead b.0 None ∙ (ap (still_ahead t) a.ahead ∙ ticked_ahead was_may was_end (now past) t later))
    (get_or-map-range_with_len (is_ripe_by v t) 0 (length v.ripe) b.0 b.0 false (omega (arith, low, long)) (omega arith)
    ∙ (ap (λ o. is_ripe_at v b.0 || option_map_or (λ n. nat_le n t) o false) a.ahead
    ∙ (ap (λ u. u || option_map_or (λ n. nat_le n t) (ahead_of was_may was_end (now past)) false) a.ripe ∙ ticked_ripe was_may was_end (now past) t later)))

-- ## An act

no_limit : (plan : PlanView) (past : List Event) (b : Blk) → awaited plan past (Block b) ≡ None → limit plan past b.0 ≡ None
unfolding is_parked
no_limit plan past b none = ap (λ o. cond (is_some o) (last_limit plan past b.0) None) none

no_wake : (plan : PlanView) (past : List Event) (b : Blk) → awaited plan past (Block b) ≡ None → may_wake plan past b.0 ≡ false
unfolding may_wake
no_wake plan past b none = ap (λ o. option_map_or (is_over plan past) o false) none

-- what does not come at once goes to sleep
goes_to_sleep : (v : MachineView) (b : Blk) (act : Option Act) → among b (come_at_once v b act) ≡ false → (length (come_at_once v b act) == 0) ≡ true
goes_to_sleep v b act none = by act none
  where
    either : (u : Bool) → among b (cond u (b ∷ []) []) ≡ false → (length (cond u (b ∷ []) []) == 0) ≡ true
    either true k = absurd (both_ways (among b (b ∷ [])) k (or_left (b.0 == b.0) false (eq-eqb b.0 b.0 refl)))
    either false k = refl

    by : (a : Option Act) → among b (come_at_once v b a) ≡ false → (length (come_at_once v b a) == 0) ≡ true
    by (Some (GroupWait g)) k = either (count_at v.groups g.0 == 0) k
    by (Some (GroupWaitFor g ms)) k = either (count_at v.groups g.0 == 0) k
    by (Some (Wait s)) k = either (has_value_at v.semas s.0) k
    by (Some (WaitFor s ms)) k = either (has_value_at v.semas s.0) k
    by (Some (Apply q a)) k = either (left_at v.strips a == 0) k
    by (Some (WaitBlock c)) k = either (ended_at v c.0) k
    by _ k = refl

-- the limit with which the act parks its block
parked_limit : (v : MachineView) (b : Blk) (act : Option Act) → ((n : ℕ) → limit_in_view v act ≡ Some n → b.0 < length v.waits.limits) → limit_at v.waits b.0 ≡ None → limit_at (parked_for v.waits (Block b) (awaited_in_view v act) (limit_in_view v act)) b.0 ≡ limit_in_view v act
parked_limit v b (Some (Sync q c)) room none = option_set v.waits.limits b.0 None room
parked_limit v b (Some (BarrierSync q c)) room none = option_set v.waits.limits b.0 None room
parked_limit v b (Some (GroupWait g)) room none = option_set v.waits.limits b.0 None room
parked_limit v b (Some (GroupWaitFor g ms)) room none = option_set v.waits.limits b.0 (limit_in_view v (Some (GroupWaitFor g ms))) room
parked_limit v b (Some (Wait s)) room none = option_set v.waits.limits b.0 None room
parked_limit v b (Some (WaitFor s ms)) room none = option_set v.waits.limits b.0 (limit_in_view v (Some (WaitFor s ms))) room
parked_limit v b (Some (Apply q a)) room none = option_set v.waits.limits b.0 None room
parked_limit v b (Some (WaitBlock c)) room none = option_set v.waits.limits b.0 None room
parked_limit v b _ room none = none

other_limit : (v : MachineView) (c : Blk) (b : ℕ) (why : Option Reason) (end : Option ℕ) → (c.0 ≡ b → ⊥) → limit_at (parked_for v.waits (Block c) why end) b ≡ limit_at v.waits b
other_limit v c b None end other = refl
other_limit v c b (Some why) end other = get_or-set_other v.waits.limits c.0 b end None (λ e. other (sym e))

-- what is laid down at the acting block
laid_here : (v : MachineView) (b : Blk) (end : Option ℕ) (time : ℕ) → ((n : ℕ) → end ≡ Some n → b.0 < length v.ahead) → v.timers.moment ≡ time → ahead_at v b.0 ≡ None → get_or (laid_ahead v b end) b.0 None ≡ ahead_of false end time
laid_here v b None time room moment none = none
laid_here v b (Some n) time room moment none =
    ap (λ k. get_or (cond (nat_lt k n) (set v.ahead b.0 (Some n)) v.ahead) b.0 None) moment
    ∙ elim (nat_lt time n) as (λ u. get_or (cond u (set v.ahead b.0 (Some n)) v.ahead) b.0 None ≡ cond u (Some n) None) [
      | true ↦ get_or-set_same v.ahead b.0 (Some n) None (room n refl)
      | false ↦ none
    ]

laid_ripe_here : (v : MachineView) (b : Blk) (end : Option ℕ) (time : ℕ) → b.0 < length v.ripe → v.timers.moment ≡ time → is_ripe_at v b.0 ≡ false → get_or (laid_ripe v b end) b.0 false ≡ ripe_of false end time
laid_ripe_here v b None time low moment none = none
laid_ripe_here v b (Some n) time low moment none =
    ap (λ k. get_or (cond (nat_lt k n) v.ripe (set v.ripe b.0 true)) b.0 false) moment
    ∙ ⊎_elim
    (λ (more : time < n).
    ap (λ u. get_or (cond u v.ripe (set v.ripe b.0 true)) b.0 false) (lt-ltb time n more)
    ∙ (none ∙ sym (ap (λ u. u && true) (false_from_ne_true (nat_le n time) (λ h. let l = leb-true n time h in omega (arith, l, more))))))
    (λ (reached : n ≤ time).
    ap (λ u. get_or (cond u v.ripe (set v.ripe b.0 true)) b.0 false) (false_from_ne_true (nat_lt time n) (λ h. let l = ltb-true time n h in omega (arith, l, reached)))
    ∙ (get_or-set_same v.ripe b.0 true false low ∙ sym (ap (λ u. u && true) (le-leb n time reached))))
    (cases_lt time n)

-- and elsewhere
laid_there : (v : MachineView) (c : Blk) (b : ℕ) (end : Option ℕ) → (c.0 ≡ b → ⊥) → get_or (laid_ahead v c end) b None ≡ ahead_at v b
laid_there v c b None other = refl
laid_there v c b (Some n) other =
    elim (nat_lt v.timers.moment n) as (λ u. get_or (cond u (set v.ahead c.0 (Some n)) v.ahead) b None ≡ ahead_at v b) [
      | true ↦ get_or-set_other v.ahead c.0 b (Some n) None (λ e. other (sym e))
      | false ↦ refl
    ]

laid_ripe_there : (v : MachineView) (c : Blk) (b : ℕ) (end : Option ℕ) → (c.0 ≡ b → ⊥) → get_or (laid_ripe v c end) b false ≡ is_ripe_at v b
laid_ripe_there v c b None other = refl
laid_ripe_there v c b (Some n) other =
    elim (nat_lt v.timers.moment n) as (λ u. get_or (cond u v.ripe (set v.ripe c.0 true)) b false ≡ is_ripe_at v b) [
      | true ↦ refl
      | false ↦ get_or-set_other v.ripe c.0 b true false (λ e. other (sym e))
    ]

told_own : (plan : PlanView) (past : List Event) (w : ℕ) (b : Blk) (i : ℕ) (v : MachineView) → Around plan past (Acted w (Block b) i) v b → among b (come_by plan v (Acted w (Block b) i)) ≡ false → ToldAfter plan past (Acted w (Block b) i) v b
told_own plan past w b i v a none =
    let e = Acted w (Block b) i in
    let act = act_at plan (Block b) i in
    let free = unparked_awaited plan past w b.0 (at_act plan past w (Block b) i a.lawful.1).own in
    let unlimited = no_limit plan past b free in
    let still = no_wake plan past b free in
    let low = a.low in
    let ahead_fit = a.ahead_long in
    let ripe_fit = a.ripe_long in
    let limits_long = a.limits_long in
    let no_ahead : ahead_at v b.0 ≡ None = a.ahead ∙ (ap (λ o. ahead_of (may_wake plan past b.0) o (now past)) unlimited ∙ none_ahead (may_wake plan past b.0) (now past)) in
    let no_ripe : is_ripe_at v b.0 ≡ false = a.ripe ∙ ap (λ o. ripe_of (may_wake plan past b.0) o (now past)) unlimited in
    let once = (or_parts (among b (come_at_once v b act)) (among b (signalled v act)) (sym (list_any-append (λ c. c.0 == b.0) (come_at_once v b act) (signalled v act))
    ∙ (or_parts (among b (come_at_once v b act ++ signalled v act)) (among b (sleepers_at v (emptied_by plan v e))) (sym (list_any-append (λ c. c.0 == b.0) (come_at_once v b act ++ signalled v act) (sleepers_at v (emptied_by plan v e))) ∙ none)).0)).0 in
    let asleep : limit_asleep v b act ≡ limit_in_view v act = ap (λ u. cond u (limit_in_view v act) None) (goes_to_sleep v b act once) in
    let may : may_wake plan (e ∷ past) b.0 ≡ false = a.may ∙ (ap (λ u. u || may_wake plan past b.0) none ∙ still) in
    let end : limit plan (e ∷ past) b.0 ≡ limit_in_view v act = sym a.is ∙ parked_limit v b act (λ n told. let room = room_of_limit plan v b i n told in omega (arith, low, limits_long, room)) (a.was ∙ unlimited) in
    kept plan e v b (may_wake plan (e ∷ past) b.0) false (limit plan (e ∷ past) b.0) (limit_in_view v act) (now past) (now past) may end refl
    (ap (λ o. get_or (laid_ahead v b o) b.0 None) asleep ∙ laid_here v b (limit_in_view v act) (now past) (λ n told. let room = room_of_limit plan v b i n told in omega (arith, low, ahead_fit, room)) a.moment no_ahead)
    (ap (λ o. get_or (laid_ripe v b o) b.0 false) asleep ∙ laid_ripe_here v b (limit_in_view v act) (now past) (omega (arith, low, ripe_fit)) a.moment no_ripe)

told_act : (plan : PlanView) (past : List Event) (w : ℕ) (c : Blk) (i : ℕ) (v : MachineView) (b : Blk) → Around plan past (Acted w (Block c) i) v b → among b (come_by plan v (Acted w (Block c) i)) ≡ false → ToldAfter plan past (Acted w (Block c) i) v b
told_act plan past w c i v b a none =
    let e = Acted w (Block c) i in
    let act = act_at plan (Block c) i in
    ⊎_elim
    (λ (same : c.0 ≡ b.0).
    subst (λ n. Around plan past (Acted w (Block (record { 0 = n })) i) v b → among b (come_by plan v (Acted w (Block (record { 0 = n })) i)) ≡ false → ToldAfter plan past (Acted w (Block (record { 0 = n })) i) v b) (sym same)
    (λ here k. told_own plan past w b i v here k) a none)
    (λ (other : c.0 ≡ b.0 → ⊥).
    kept plan e v b (may_wake plan (e ∷ past) b.0) (may_wake plan past b.0) (limit plan (e ∷ past) b.0) (limit plan past b.0) (now past) (now past)
    (a.may ∙ ap (λ u. u || may_wake plan past b.0) none)
    (sym a.is ∙ (other_limit v c b.0 (awaited_in_view v act) (limit_in_view v act) other ∙ a.was))
    refl
    (laid_there v c b.0 (limit_asleep v c act) other ∙ a.ahead)
    (laid_ripe_there v c b.0 (limit_asleep v c act) other ∙ a.ripe))
    (cases_eq c.0 b.0)

-- ## Each event

told_by : (plan : PlanView) (past : List Event) (e : Event) (v : MachineView) (b : Blk) → Around plan past e v b → among b (come_by plan v e) ≡ false → ToldAfter plan past e v b
told_by plan past (Acted w (Block c) i) v b a none = told_act plan past w c i v b a none
told_by plan past (Acted w (Source s) i) v b a none =
    let e = Acted w (Source s) i in
    kept plan e v b (may_wake plan (e ∷ past) b.0) (may_wake plan past b.0) (limit plan (e ∷ past) b.0) (limit plan past b.0) (now past) (now past) (a.may ∙ ap (λ u. u || may_wake plan past b.0) none) (sym a.is ∙ a.was) refl a.ahead a.ripe
told_by plan past (Wake w c) v b a none = told_wake plan past w c v b a
told_by plan past (Tick t) v b a none = told_tick plan past t v b a
told_by plan past e v b a none =
    kept plan e v b (may_wake plan (e ∷ past) b.0) (may_wake plan past b.0) (limit plan (e ∷ past) b.0) (limit plan past b.0) (now past) (now past) (a.may ∙ ap (λ u. u || may_wake plan past b.0) none) (sym a.is ∙ a.was) refl a.ahead a.ripe

-- ## The step

-- whether the block may wake, by the two ties of the wakes
wake_is : (plan : PlanView) (past : List Event) (e : Event) (v : MachineView) (b : Blk) → b.0 < length v.wakeable → WakesAre plan past v → WakesAre plan (e ∷ past) (after plan v e)
    → may_wake plan (e ∷ past) b.0 ≡ (among b (come_by plan v e) || (not (wakes b.0 e) && may_wake plan past b.0))
wake_is plan past e v b low old new =
    let long = woken_long v.wakeable e in
    sym (new.wakeable b.0)
    ∙ (wakeable_fold (woken v.wakeable e) (come_by plan v e) b (omega (arith, low, long))
    ∙ ap (λ u. among b (come_by plan v e) || u) (woken_wakeable v.wakeable e b low ∙ ap (λ u. not (wakes b.0 e) && u) (old.wakeable b.0)))

record LimitIs (plan : PlanView) (past : List Event) (v : MachineView) (b : ℕ) : Type 0 where
  ahead : ahead_at v b ≡ limit_ahead plan past b
  ripe : is_ripe_at v b ≡ may_expire plan past b

-- a block of the plan
limit_within : (plan : PlanView) (past : List Event) (e : Event) (v : MachineView) (b : Blk) → Around plan past e v b → LimitIs plan (e ∷ past) (after plan v e) b.0
limit_within plan past e v b a =
    let come = come_by plan v e in
    let may = may_wake plan (e ∷ past) b.0 in
    let end = limit plan (e ∷ past) b.0 in
    let time = now (e ∷ past) in
    let clear_ahead = cleared None (ahead_at_event plan v e) come b in
    let clear_ripe = cleared false (ripe_at_event plan v e) come b in
    elim (among b come) as (λ u. among b come ≡ u → LimitIs plan (e ∷ past) (after plan v e) b.0) [
      | true ↦ λ over.
          let wakes_now : may ≡ true = a.may ∙ ap (λ u. u || (not (wakes b.0 e) && may_wake plan past b.0)) over in
          record {
            ahead = clear_ahead ∙ (ap (λ u. cond u None (get_or (ahead_at_event plan v e) b.0 None)) over ∙ sym (ap (λ u. ahead_of u end time) wakes_now));
            ripe = clear_ripe ∙ (ap (λ u. cond u false (get_or (ripe_at_event plan v e) b.0 false)) over ∙ sym (ripe_is plan (e ∷ past) b.0 ∙ (ap (λ u. ripe_of u end time) wakes_now ∙ and-false (option_map_or (λ n. nat_le n time) end false))));
          }
      | false ↦ λ other.
          let told = told_by plan past e v b a other in
          record {
            ahead = clear_ahead ∙ (ap (λ u. cond u None (get_or (ahead_at_event plan v e) b.0 None)) other ∙ told.ahead);
            ripe = clear_ripe ∙ (ap (λ u. cond u false (get_or (ripe_at_event plan v e) b.0 false)) other ∙ (told.ripe ∙ sym (ripe_is plan (e ∷ past) b.0)));
          }
    ] refl

-- and one that is not
limit_beyond : (plan : PlanView) (past : List Event) (v : MachineView) (b : ℕ) → length plan.blocks ≤ b → PartsFit plan v → OwnFit plan v → WaitsAre plan past v → LimitIs plan past v b
limit_beyond plan past v b high fit own waits =
    let ahead_fit = own.ahead in
    let ripe_fit = own.ripe in
    let limits_long = fit.limits in
    let room = room_low has_limit plan in
    let none : limit plan past b ≡ None = sym (waits.limits b) ∙ get_or-eq_default v.waits.limits None (omega (arith, high, limits_long, room)) in
    record {
      ahead = get_or-eq_default v.ahead None (omega (arith, high, ahead_fit, room)) ∙ sym (ap (λ o. ahead_of (may_wake plan past b) o (now past)) none ∙ none_ahead (may_wake plan past b) (now past));
      ripe = get_or-eq_default v.ripe false (omega (arith, high, ripe_fit)) ∙ sym (ripe_is plan past b ∙ ap (λ o. ripe_of (may_wake plan past b) o (now past)) none);
    }

pub limits_step : (plan : PlanView) (past : List Event) (e : Event) (v : MachineView) → IsLawful plan (e ∷ past) → PartsFit plan v → OwnFit plan v → PartsFit plan (after plan v e) → OwnFit plan (after plan v e)
    → TimersAre plan past v → WaitsAre plan past v → WaitsAre plan (e ∷ past) (after plan v e) → WakesAre plan past v → WakesAre plan (e ∷ past) (after plan v e) → LimitsAre plan past v → LimitsAre plan (e ∷ past) (after plan v e)
limits_step plan past e v lawful fit own new_fit new_own timers waits new_waits wakes new_wakes ties = record { ahead = λ b. (each b).ahead; ripe = λ b. (each b).ripe }
  where
    each : (b : ℕ) → LimitIs plan (e ∷ past) (after plan v e) b
    each b =
        let wakeable = own.wakeable in
        ⊎_elim
        (λ (low : b < length plan.blocks).
        limit_within plan past e v (record { 0 = b })
        (record {
          lawful = lawful;
          low = low;
          ahead_long = own.ahead;
          ripe_long = own.ripe;
          limits_long = fit.limits;
          moment = timers.moment;
          was = waits.limits b;
          is = new_waits.limits b;
          may = wake_is plan past e v (record { 0 = b }) (omega (arith, low, wakeable)) wakes new_wakes;
          ahead = ties.ahead b;
          ripe = ties.ripe b ∙ ripe_is plan past b;
        }))
        (λ (high : length plan.blocks ≤ b). limit_beyond plan (e ∷ past) (after plan v e) b high new_fit new_own new_waits)
        (cases_lt b (length plan.blocks))
