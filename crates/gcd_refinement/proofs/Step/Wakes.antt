-- Which parked blocks may wake after an event, and which sleep: the tie of the wakes, one event on.
use Rattle.std.proofs.Common.{◌≡◌, ⊎_elim, ℕ, ◌+◌, ◌<◌, ◌≤◌, ◌==◌, nat_lt, Bool, true, false, not, ◌&&◌, ◌||◌, cond, List, [], ◌∷◌, ◌++◌, length, map, Option, Some, None, is_some, refl, ap, sym, ◌∙◌, arith, eq-eqb, option_to_list}
use Rattle.std.specs.Option.{option_and_then}
use Rattle.std.specs.Cmp.Derive.{one_truth}
use Rattle.std.proofs.Math.ListN.{get_or-eq_default}
use Rattle.std.proofs.lemmas.Bool.{cases_lt, cases_Bool, both_ways, not-true, eqb-true, and_parts, and_from, or_left, or_right, or_cases, or_parts, false_from_ne_true}
use Rattle.std.proofs.lemmas.Option.{same_Some}
use Rattle.gcd_plan.specs.PlanView.{PlanView}
use Rattle.gcd_plan.specs.Validity.{IsPlan}
use Rattle.gcd_plan.specs.declared.act.Act.{Act}
use Rattle.gcd_plan.specs.declared.act.Act.TheVariants.{Sync, BarrierSync, GroupWait, GroupWaitFor, Wait, WaitFor, Apply, WaitBlock}
use Rattle.gcd_plan.specs.declared.numbers.Blk.{Blk}
use Rattle.gcd_plan.specs.declared.numbers.Obj.{Obj}
use Rattle.gcd_plan.specs.declared.numbers.Run.TheVariants.{Block}
use Rattle.gcd_plan.specs.declared.reason.Reason.{Reason}
use Rattle.gcd_plan.specs.declared.reason.Reason.TheVariants.{Block as EndOf, Group as Empty, Strip, Rank}
use Rattle.gcd_event.specs.declared.event.Event.{Event}
use Rattle.gcd_event.specs.declared.event.Event.TheVariants.{Act as Acted, End}
use Rattle.gcd_history.specs.Runs.{act_at, is_ended, ends}
use Rattle.gcd_history.specs.Expired.{has_expired}
use Rattle.gcd_history.specs.Groups.{count, is_empty_above}
use Rattle.gcd_history.specs.Semas.{waits, wait_count}
use Rattle.gcd_history.specs.Parked.{awaited_by, awaited, has_come, has_run_out, is_over, may_wake}
use Rattle.gcd_history.specs.Permitted.{IsLawful}
use Rattle.gcd_history.specs.Facts.{wakes}
use Rattle.gcd_history.proofs.Lists.{any_left, any_right}
use Rattle.gcd_history.proofs.Waits.StaysOver.{over_kept}
use Rattle.gcd_history.proofs.Waits.Woken.{given_awaited, parked_kept}
use Rattle.gcd_lists.specs.ListsView.{list_at}
use Rattle.gcd_apply.specs.StripsView.{left_at}
use Rattle.gcd_group.specs.GroupsView.{count_at}
use Rattle.gcd_sema.specs.SemasView.{has_value_at}
use Rattle.gcd_refinement.specs.MachineView.{MachineView, block_at, ended_at, applier_at, is_wakeable_at}
use Rattle.gcd_refinement.specs.Shape.{PartsFit, OwnFit}
use Rattle.gcd_refinement.specs.Sleepers.{calls, caller_of, waits_for_end, block_if, end_waiters, is_done, strip_sleepers, waits_for_group, sema_sleepers, group_sleepers}
use Rattle.gcd_refinement.specs.Ties.{GroupsAre, SemasAre, WaitsAre, BlocksAre, WakesAre, WaitersAre, StripsAre}
use Rattle.gcd_refinement.specs.Submits.{emptied_by, sleepers_at, come_at_once, signalled, done_by, let_go_by, come_by}
use Rattle.gcd_refinement.specs.After.{woken, after}
use Rattle.gcd_refinement.specs.AfterSleepers.{sleepers_after}
use Rattle.gcd_refinement.proofs.Sleepers.NewlyParked.{parked_now, parked_new, still_parked, parked_within, gone_at_wake}
use Rattle.gcd_refinement.proofs.Sleepers.Callers.{now_called, called_goes_on, awaits_end}
use Rattle.gcd_refinement.proofs.Limits.Expiries.{not_expired_yet}
use Rattle.gcd_refinement.proofs.Semas.Ranks.{sleeps_at_sema}
use Rattle.gcd_refinement.proofs.Semas.Ends.{begun_over}
use Rattle.gcd_refinement.proofs.Groups.Sleepers.{none_above, sleeps_from}
use Rattle.gcd_refinement.proofs.Lists.Among.{among, itself}
use Rattle.gcd_refinement.proofs.Sleepers.Parked.{asleep_parked}
use Rattle.gcd_refinement.proofs.Blocks.StripBlocks.{is_its_strip}
use Rattle.gcd_refinement.proofs.Step.Strips.{end_within}
use Rattle.gcd_refinement.proofs.Sleepers.Strips.{awaits_strip}
use Rattle.gcd_refinement.proofs.Step.Waiters.{done_is, done_after, done_by_last}
use Rattle.gcd_refinement.proofs.Sleepers.LetGo.{let_go}
use Rattle.gcd_refinement.proofs.Step.SemaSleepers.{blocks_at}
use Rattle.gcd_refinement.proofs.Step.Asleep.{value_is, waits_count, sleepers_step}
use Rattle.gcd_refinement.proofs.Step.Wakeable.{Before, wakeable_fold, woken_wakeable, woken_long, may_from, may_parts, come_may, wakeable_long}

-- ## A wait that the event ends

-- whom the end of a block lets go
let_go_at : (plan : PlanView) (w : ℕ) (d : Blk) (v : MachineView) (b : Blk) → among b (let_go_by v d) ≡ true → among b (come_by plan v (End w d)) ≡ true
let_go_at plan w d v b h = any_left (λ k. k.0 == b.0) (let_go_by v d) (sleepers_at v (emptied_by plan v (End w d))) h

ended_in : (plan : PlanView) (past : List Event) (e : Event) (v : MachineView) (b c : Blk) → BlocksAre plan past v → ends c.0 e ≡ true → caller_of plan past c.0 ≡ Some b → among b (come_by plan v e) ≡ true
ended_in plan past (End w d) v b c blocks h called =
    let is : (block_at v d.0).caller ≡ Some b = blocks.caller d.0 ∙ (ap (caller_of plan past) (eqb-true d.0 c.0 h) ∙ called) in
    let caller = option_to_list (block_at v d.0).caller in
    let waiters = map (λ k. k.0) (list_at v.waiters d.0) in
    let_go_at plan w d v b
    (any_left (λ k. k.0 == b.0) (caller ++ waiters) (option_to_list (option_and_then (applier_at v) (done_by v d)))
    (any_left (λ k. k.0 == b.0) caller waiters (ap (λ o. among b (option_to_list o)) is ∙ itself b b refl)))
ended_in plan past e v b c blocks h called = cc

waited_in : (plan : PlanView) (past : List Event) (e : Event) (v : MachineView) (b c : Blk) → WaitersAre plan past v → ends c.0 e ≡ true → among b (end_waiters plan past c.0) ≡ true → among b (come_by plan v e) ≡ true
waited_in plan past (End w d) v b c ties h waits =
    let caller = option_to_list (block_at v d.0).caller in
    let waiters = map (λ k. k.0) (list_at v.waiters d.0) in
    let_go_at plan w d v b
    (any_left (λ k. k.0 == b.0) (caller ++ waiters) (option_to_list (option_and_then (applier_at v) (done_by v d)))
    (any_right (λ k. k.0 == b.0) caller waiters (ap (among b) (ties.of_block d.0 ∙ ap (end_waiters plan past) (eqb-true d.0 c.0 h)) ∙ waits)))
waited_in plan past e v b c ties h waits = cc

-- who applied the strip of which the event ends the last block
strip_in : (plan : PlanView) (past : List Event) (e : Event) (v : MachineView) (b : Blk) (a : ℕ) → Before plan past e v → among b (strip_sleepers plan past a) ≡ true → is_done plan past a ≡ false → is_done plan (e ∷ past) a ≡ true → among b (come_by plan v e) ≡ true
strip_in plan past (End w d) v b a bf slept on done =
    let caller = option_to_list (block_at v d.0).caller in
    let waiters = map (λ k. k.0) (list_at v.waiters d.0) in
    let last : (is_its_strip plan d.0 a && left_at v.strips a == 1) ≡ true =
    either (is_its_strip plan d.0 a && left_at v.strips a == 1) (ap (λ t. (is_its_strip plan d.0 a && left_at v.strips a == 1) || t) (sym on) ∙ (sym (done_after plan past w d v a bf.valid bf.lawful bf.strips) ∙ done)) in
    let parts = and_parts (is_its_strip plan d.0 a) (left_at v.strips a == 1) last in
    let by_end = done_by_last plan v d a bf.fit (end_within plan past w d bf.lawful) parts.0 parts.1 in
    let_go_at plan w d v b
    (any_right (λ k. k.0 == b.0) (caller ++ waiters) (option_to_list (option_and_then (applier_at v) (done_by v d)))
    (ap (λ o. among b (option_to_list (option_and_then (applier_at v) o))) by_end ∙ (ap (among b) (bf.waiters.of_strip a) ∙ slept)))
  where
    either : (t : Bool) → (t || false) ≡ true → t ≡ true
    either true h = refl
    either false h = cc
strip_in plan past e v b a bf slept on done = absurd (both_ways (is_done plan past a) on done)

-- who slept, and whose wait is over after the event, is let go
woken_up : (plan : PlanView) (past : List Event) (e : Event) (v : MachineView) (b : Blk) (r : Reason) (s : ℕ) → Before plan past e v → awaited plan past (Block b) ≡ Some r → is_over plan past r ≡ false → is_over plan (e ∷ past) r ≡ true
    → among b (sema_sleepers plan past s ++ group_sleepers plan past s) ≡ true → among b (come_by plan v e) ≡ true
woken_up plan past e v b r s bf is before now any =
    let_go plan e v b s (ap (among b) (bf.wakes.of_sema s) ∙ any)
    (false_from_ne_true (among b (blocks_at (sleepers_after plan v e) s)) (λ h.
    let asleep = asleep_parked plan (e ∷ past) b s bf.valid bf.lawful (ap (among b) (sym (sleepers_step plan past e v s bf.valid bf.lawful bf.fit bf.own bf.semas bf.groups bf.blocks bf.waits bf.wakes)) ∙ h) in
    let same : asleep.why ≡ r = same_Some asleep.why r (sym asleep.is ∙ still_parked plan past e b r bf.lawful is before) in
    both_ways (is_over plan (e ∷ past) asleep.why) asleep.waits (ap (is_over plan (e ∷ past)) same ∙ now)))

-- what was parked, and is waited for no more
come_old : (plan : PlanView) (past : List Event) (e : Event) (v : MachineView) (b : Blk) (r : Reason) → Before plan past e v → awaited plan past (Block b) ≡ Some r → is_over plan past r ≡ false → is_over plan (e ∷ past) r ≡ true
    → among b (come_by plan v e) ≡ true
unfolding has_come has_run_out
come_old plan past e v b (EndOf c) bf is before now =
    let going = (or_parts (is_ended past c.0) false before).0 in
    ⊎_elim
    (λ ended.
    ⊎_elim
    (λ h.
    ⊎_elim
    (λ called. ended_in plan past e v b c bf.blocks h called)
    (λ waits. waited_in plan past e v b c bf.waiters h waits)
    (awaits_end plan past b c bf.valid bf.lawful.0 is going))
    (λ h. absurd (both_ways (is_ended past c.0) going h))
    (or_cases (ends c.0 e) (is_ended past c.0) ended))
    (λ never. cc)
    (or_cases (is_ended (e ∷ past) c.0) false now)
come_old plan past e v b (Empty g p) bf is before now =
    let parts = neither (is_empty_above plan past g.0 p) (has_expired past p) before in
    woken_up plan past e v b (Empty g p) g.0 bf is before now
    (any_right (λ k. k.0 == b.0) (sema_sleepers plan past g.0) (group_sleepers plan past g.0) (sleeps_from plan past b g p is parts.0 parts.1))
  where
    neither : (empty out : Bool) → ((not out && empty) || out) ≡ false → (empty ≡ false) × (out ≡ false)
    neither empty true h = let never : true ≡ false = sym (or_right (not true && empty) true refl) ∙ h in cc
    neither true false h = cc
    neither false false h = (refl, refl)
come_old plan past e v b (Strip a) bf is before now =
    let on = (or_parts (is_done plan past a) false before).0 in
    ⊎_elim
    (λ done. strip_in plan past e v b a bf (awaits_strip plan past b a bf.lawful.0 is on) on done)
    (λ never. cc)
    (or_cases (is_done plan (e ∷ past) a) false now)
come_old plan past e v b (Rank s k) bf is before now =
    woken_up plan past e v b (Rank s k) s.0 bf is before now
    (any_left (λ c. c.0 == b.0) (sema_sleepers plan past s.0) (group_sleepers plan past s.0) (sleeps_at_sema plan past b s k bf.valid is before))

-- ## A wait for what has come already

end_calls_none : (plan : PlanView) (e : Event) (c : ℕ) (b : Blk) → ends c e ≡ true → calls plan c e ≡ Some b → ⊥
end_calls_none plan (End w d) c b h k = cc
end_calls_none plan e c b h k = cc

-- a wait for a group that is over at once
none_at_once : (plan : PlanView) (past : List Event) (w : ℕ) (d : Blk) (i : ℕ) (v : MachineView) (b : Blk) (g : Obj) (act : Option Act) → Before plan past (Acted w (Block d) i) v → d ≡ b → act_at plan (Block d) i ≡ act → waits_for_group g.0 act ≡ true
    → is_over plan (Acted w (Block d) i ∷ past) (Empty g (length past)) ≡ true → among b (cond (count_at v.groups g.0 == 0) (d ∷ []) []) ≡ true
unfolding has_come has_run_out
none_at_once plan past w d i v b g act bf same at is now =
    let e = Acted w (Block d) i in
    let p = length past in
    let out : has_expired (e ∷ past) p ≡ false = not_expired_yet past p (omega arith) in
    let above : is_empty_above plan (e ∷ past) g.0 p ≡ true = whole (is_empty_above plan (e ∷ past) g.0 p) (ap (λ u. (not u && is_empty_above plan (e ∷ past) g.0 p) || u) (sym out) ∙ now) in
    let empty : (count plan (e ∷ past) g.0 == 0) ≡ true =
    ⊎_elim
    (λ t. (and_parts (nat_lt p (length (e ∷ past))) (count plan (e ∷ past) g.0 == 0) t).1)
    (λ t. absurd (both_ways (is_empty_above plan past g.0 p) (none_above plan past g.0 p (omega arith)) t))
    (or_cases (nat_lt p (length (e ∷ past)) && count plan (e ∷ past) g.0 == 0) (is_empty_above plan past g.0 p) above) in
    let counted : count_at v.groups g.0 ≡ count plan (e ∷ past) g.0 =
    bf.groups.counts g.0 ∙ sym (waits_count plan past w d i v g.0 bf.valid bf.lawful bf.fit bf.own bf.groups bf.blocks g.0 (ap (waits_for_group g.0) at ∙ is)) in
    ap (λ n. among b (cond (n == 0) (d ∷ []) [])) counted ∙ (ap (λ u. among b (cond u (d ∷ []) [])) empty ∙ itself d b same)
  where
    whole : (u : Bool) → (u || false) ≡ true → u ≡ true
    whole true h = refl
    whole false h = cc

-- and one for a semaphore
value_at_once : (plan : PlanView) (past : List Event) (w : ℕ) (d : Blk) (i : ℕ) (v : MachineView) (b : Blk) (s : Obj) (act : Option Act) → Before plan past (Acted w (Block d) i) v → d ≡ b → act_at plan (Block d) i ≡ act → waits s.0 act ≡ true
    → is_over plan (Acted w (Block d) i ∷ past) (Rank s (wait_count plan past s.0 + 1)) ≡ true → among b (cond (has_value_at v.semas s.0) (d ∷ []) []) ≡ true
value_at_once plan past w d i v b s act bf same at is now =
    let value : has_value_at v.semas s.0 ≡ true = value_is plan past v s.0 bf.fit bf.semas ∙ (sym (begun_over plan past (Acted w (Block d) i) s (ap (waits s.0) at ∙ is)) ∙ now) in
    ap (λ u. among b (cond u (d ∷ []) [])) value ∙ itself d b same

-- and one for the blocks of a strip
strip_done : (plan : PlanView) (past : List Event) (w : ℕ) (d : Blk) (i a : ℕ) → is_over plan (Acted w (Block d) i ∷ past) (Strip a) ≡ true → is_done plan past a ≡ true
unfolding has_come has_run_out
strip_done plan past w d i a now = ⊎_elim (λ done. done) (λ never. cc) (or_cases (is_done plan past a) false now)

over_at_once : (plan : PlanView) (past : List Event) (w : ℕ) (d : Blk) (i : ℕ) (v : MachineView) (b : Blk) (r : Reason) (act : Option Act) → Before plan past (Acted w (Block d) i) v → d ≡ b → act_at plan (Block d) i ≡ act
    → awaited_by plan past act ≡ Some r → is_over plan (Acted w (Block d) i ∷ past) r ≡ true → ((c : Blk) → r ≡ EndOf c → ⊥) → among b (come_at_once v d act) ≡ true
over_at_once plan past w d i v b r (Some (GroupWait g)) bf same at is now call =
    none_at_once plan past w d i v b g (Some (GroupWait g)) bf same at (eq-eqb g.0 g.0 refl) (ap (is_over plan (Acted w (Block d) i ∷ past)) (same_Some (Empty g (length past)) r is) ∙ now)
over_at_once plan past w d i v b r (Some (GroupWaitFor g ms)) bf same at is now call =
    none_at_once plan past w d i v b g (Some (GroupWaitFor g ms)) bf same at (eq-eqb g.0 g.0 refl) (ap (is_over plan (Acted w (Block d) i ∷ past)) (same_Some (Empty g (length past)) r is) ∙ now)
over_at_once plan past w d i v b r (Some (Wait s)) bf same at is now call =
    value_at_once plan past w d i v b s (Some (Wait s)) bf same at (eq-eqb s.0 s.0 refl) (ap (is_over plan (Acted w (Block d) i ∷ past)) (same_Some (Rank s (wait_count plan past s.0 + 1)) r is) ∙ now)
over_at_once plan past w d i v b r (Some (WaitFor s ms)) bf same at is now call =
    value_at_once plan past w d i v b s (Some (WaitFor s ms)) bf same at (eq-eqb s.0 s.0 refl) (ap (is_over plan (Acted w (Block d) i ∷ past)) (same_Some (Rank s (wait_count plan past s.0 + 1)) r is) ∙ now)
over_at_once plan past w d i v b r (Some (Sync q c)) bf same at is now call = absurd (call c (sym (same_Some (EndOf c) r is)))
over_at_once plan past w d i v b r (Some (BarrierSync q c)) bf same at is now call = absurd (call c (sym (same_Some (EndOf c) r is)))
over_at_once plan past w d i v b r (Some (WaitBlock c)) bf same at is now call = absurd (call c (sym (same_Some (EndOf c) r is)))
over_at_once plan past w d i v b r (Some (Apply q a)) bf same at is now call =
    let done : is_done plan past a ≡ true = strip_done plan past w d i a (ap (is_over plan (Acted w (Block d) i ∷ past)) (same_Some (Strip a) r is) ∙ now) in
    ap (λ u. among b (cond u (d ∷ []) [])) (done_is plan past v a bf.strips ∙ done) ∙ itself d b same
over_at_once plan past w d i v b r act bf same at is now call = cc

-- a wait for the end of a block that has ended
ended_at_once : (plan : PlanView) (past : List Event) (w : ℕ) (d : Blk) (i : ℕ) (v : MachineView) (b c : Blk) (act : Option Act) → Before plan past (Acted w (Block d) i) v → among b (cond (waits_for_end c.0 act) (d ∷ []) []) ≡ true → is_ended past c.0 ≡ true
    → among b (come_at_once v d act) ≡ true
ended_at_once plan past w d i v b c (Some (WaitBlock f)) bf any ended =
    elim (f.0 == c.0) as (λ t. f.0 == c.0 ≡ t → among b (cond t (d ∷ []) []) ≡ true → among b (cond (ended_at v f.0) (d ∷ []) []) ≡ true) [
      | true ↦ λ same h. ap (λ u. among b (cond u (d ∷ []) [])) (bf.blocks.ended f.0 ∙ (ap (is_ended past) (eqb-true f.0 c.0 same) ∙ ended)) ∙ h
      | false ↦ λ other h. cc
    ] refl any
ended_at_once plan past w d i v b c act bf any ended = cc

once_in : (plan : PlanView) (past : List Event) (w : ℕ) (d : Blk) (i : ℕ) (v : MachineView) (b : Blk) → among b (come_at_once v d (act_at plan (Block d) i)) ≡ true → among b (come_by plan v (Acted w (Block d) i)) ≡ true
once_in plan past w d i v b h =
    any_left (λ k. k.0 == b.0) (come_at_once v d (act_at plan (Block d) i) ++ signalled v (act_at plan (Block d) i)) (sleepers_at v (emptied_by plan v (Acted w (Block d) i)))
    (any_left (λ k. k.0 == b.0) (come_at_once v d (act_at plan (Block d) i)) (signalled v (act_at plan (Block d) i)) h)

waits_once_in : (plan : PlanView) (past : List Event) (e : Event) (v : MachineView) (b c : Blk) → Before plan past e v → among b (block_if (waits_for_end c.0) plan e) ≡ true → is_ended past c.0 ≡ true → among b (come_by plan v e) ≡ true
waits_once_in plan past (Acted w (Block d) i) v b c bf any ended = once_in plan past w d i v b (ended_at_once plan past w d i v b c (act_at plan (Block d) i) bf any ended)
waits_once_in plan past e v b c bf any ended = cc

-- who acts, and that the act parks it
record NowActs (plan : PlanView) (past : List Event) (d b : Blk) (i : ℕ) (r : Reason) : Type 0 where
  same : d ≡ b
  parks : awaited_by plan past (act_at plan (Block d) i) ≡ Some r

now_acts : (plan : PlanView) (past : List Event) (w : ℕ) (d b : Blk) (i : ℕ) (r : Reason) → parked_now plan past (Acted w (Block d) i) b.0 ≡ Some r → NowActs plan past d b i r
now_acts plan past w d b i r h =
    elim (d.0 == b.0) as (λ u. d.0 == b.0 ≡ u → cond u (awaited_by plan past (act_at plan (Block d) i)) None ≡ Some r → NowActs plan past d b i r) [
      | true ↦ λ same by. record { same = ap (λ n. record { 0 = n }) (eqb-true d.0 b.0 same); parks = by }
      | false ↦ λ other by. cc
    ] refl h

new_in : (plan : PlanView) (past : List Event) (w : ℕ) (d : Blk) (i : ℕ) (v : MachineView) (b : Blk) (r : Reason) → Before plan past (Acted w (Block d) i) v → parked_now plan past (Acted w (Block d) i) b.0 ≡ Some r
    → is_over plan (Acted w (Block d) i ∷ past) r ≡ true → ((c : Blk) → r ≡ EndOf c → ⊥) → among b (come_by plan v (Acted w (Block d) i)) ≡ true
new_in plan past w d i v b r bf new now call =
    let acts = now_acts plan past w d b i r new in
    once_in plan past w d i v b (over_at_once plan past w d i v b r (act_at plan (Block d) i) bf acts.same refl acts.parks now call)

-- who comes to wait for an end that has come waits for one that came before
ended_before : (plan : PlanView) (past : List Event) (e : Event) (b c : Blk) → among b (block_if (waits_for_end c.0) plan e) ≡ true → is_over plan (e ∷ past) (EndOf c) ≡ true → is_ended past c.0 ≡ true
unfolding has_come has_run_out
ended_before plan past (Acted w (Block d) i) b c waits now = ⊎_elim (λ ended. ended) (λ never. cc) (or_cases (is_ended past c.0) false now)
ended_before plan past e b c waits now = cc

come_new : (plan : PlanView) (past : List Event) (e : Event) (v : MachineView) (b : Blk) (r : Reason) → Before plan past e v → parked_now plan past e b.0 ≡ Some r → is_over plan (e ∷ past) r ≡ true → among b (come_by plan v e) ≡ true
unfolding has_come has_run_out
come_new plan past e v b (EndOf c) bf new now =
    ⊎_elim
    (λ called.
    ⊎_elim
    (λ ended.
    ⊎_elim
    (λ h. absurd (end_calls_none plan e c.0 b h called))
    (λ h. absurd (both_ways (is_ended past c.0) (called_goes_on plan past e c.0 bf.valid bf.lawful (ap is_some called)) h))
    (or_cases (ends c.0 e) (is_ended past c.0) ended))
    (λ never. cc)
    (or_cases (is_ended (e ∷ past) c.0) false now))
    (λ waits. waits_once_in plan past e v b c bf waits (ended_before plan past e b c waits now))
    (now_called plan past e b c new)
come_new plan past (Acted w (Block d) i) v b (Strip a) bf new now = new_in plan past w d i v b (Strip a) bf new now (λ c same. cc)
come_new plan past (Acted w (Block d) i) v b (Empty g p) bf new now = new_in plan past w d i v b (Empty g p) bf new now (λ c same. cc)
come_new plan past (Acted w (Block d) i) v b (Rank s k) bf new now = new_in plan past w d i v b (Rank s k) bf new now (λ c same. cc)
come_new plan past e v b r bf new now = cc

-- ## The step

-- whose wait the event ends, or who might wake before it and is not woken, may wake after it
pub due_to : (plan : PlanView) (past : List Event) (e : Event) (v : MachineView) (b : Blk) → Before plan past e v → (among b (come_by plan v e) || (not (wakes b.0 e) && may_wake plan past b.0)) ≡ true → may_wake plan (e ∷ past) b.0 ≡ true
due_to plan past e v b bf h =
    ⊎_elim
    (λ come. come_may plan past e v b bf come)
    (λ old.
    let parts = and_parts (not (wakes b.0 e)) (may_wake plan past b.0) old in
    let may = may_parts plan past b parts.1 in
    may_from plan (e ∷ past) b may.why (parked_kept plan e past bf.lawful b may.why may.is (not-true (wakes b.0 e) parts.0)) (over_kept plan e past may.why (given_awaited plan past b may.why may.is) may.over))
    (or_cases (among b (come_by plan v e)) (not (wakes b.0 e) && may_wake plan past b.0) h)

-- and nobody else
pub due_from : (plan : PlanView) (past : List Event) (e : Event) (v : MachineView) (b : Blk) → Before plan past e v → may_wake plan (e ∷ past) b.0 ≡ true → (among b (come_by plan v e) || (not (wakes b.0 e) && may_wake plan past b.0)) ≡ true
due_from plan past e v b bf h =
    let may = may_parts plan (e ∷ past) b h in
    let old_part = not (wakes b.0 e) && may_wake plan past b.0 in
    ⊎_elim
    (λ new. or_left (among b (come_by plan v e)) old_part (come_new plan past e v b may.why bf new may.over))
    (λ was.
    ⊎_elim
    (λ now. absurd (gone_at_wake plan past e b may.why now may.is))
    (λ asleep.
    ⊎_elim
    (λ over. or_right (among b (come_by plan v e)) old_part (and_from (not (wakes b.0 e)) (may_wake plan past b.0) (ap not asleep) (may_from plan past b may.why was over)))
    (λ waits. or_left (among b (come_by plan v e)) old_part (come_old plan past e v b may.why bf was waits may.over))
    (cases_Bool (is_over plan past may.why)))
    (cases_Bool (wakes b.0 e)))
    (parked_new plan past e b may.why may.is)

wakeable_by : (plan : PlanView) (past : List Event) (e : Event) (v : MachineView) (b : Blk) → Before plan past e v → is_wakeable_at (after plan v e) b.0 ≡ may_wake plan (e ∷ past) b.0
wakeable_by plan past e v b bf =
    let long = woken_long v.wakeable e in
    ⊎_elim
    (λ (low : b.0 < length v.wakeable).
    wakeable_fold (woken v.wakeable e) (come_by plan v e) b (omega (arith, low, long))
    ∙ (ap (λ u. among b (come_by plan v e) || u) (woken_wakeable v.wakeable e b low ∙ ap (λ u. not (wakes b.0 e) && u) (bf.wakes.wakeable b.0))
    ∙ one_truth (among b (come_by plan v e) || (not (wakes b.0 e) && may_wake plan past b.0)) (may_wake plan (e ∷ past) b.0) (due_to plan past e v b bf) (due_from plan past e v b bf)))
    (λ (high : length v.wakeable ≤ b.0).
    let whole = wakeable_long (woken v.wakeable e) (come_by plan v e) in
    let own = bf.own.wakeable in
    get_or-eq_default (after plan v e).wakeable false (omega (arith, high, whole, long))
    ∙ sym (false_from_ne_true (may_wake plan (e ∷ past) b.0) (λ h.
    let may = may_parts plan (e ∷ past) b h in
    let within = parked_within plan (e ∷ past) b may.why bf.lawful may.is in
    absurd (omega (arith, within, high, own)))))
    (cases_lt b.0 (length v.wakeable))

pub wakes_step : (plan : PlanView) (past : List Event) (e : Event) (v : MachineView) → IsPlan plan → IsLawful plan (e ∷ past) → PartsFit plan v → OwnFit plan v → SemasAre plan past v → GroupsAre plan past v → BlocksAre plan past v
    → WaitsAre plan past v → WaitersAre plan past v → StripsAre plan past v → WakesAre plan past v → WakesAre plan (e ∷ past) (after plan v e)
wakes_step plan past e v valid lawful fit own semas groups blocks waiting waiters strips ties =
    let bf : Before plan past e v = record { valid = valid; lawful = lawful; fit = fit; own = own; semas = semas; groups = groups; blocks = blocks; waits = waiting; wakes = ties; waiters = waiters; strips = strips } in
    record {
      wakeable = λ b. wakeable_by plan past e v (record { 0 = b }) bf;
      of_sema = λ s. sleepers_step plan past e v s valid lawful fit own semas groups blocks waiting ties;
    }
