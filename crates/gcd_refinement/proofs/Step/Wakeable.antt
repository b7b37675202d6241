-- Which parked blocks may wake after an event: those that might before and were not woken, and those whose wait it ends.
use Rattle.std.proofs.Common.{◌≡◌, ⊎_elim, ℕ, zero, suc, ◌+◌, ◌<◌, ◌==◌, nat_lt, Bool, true, false, not, ◌&&◌, ◌||◌, cond, List, [], ◌∷◌, ◌++◌, length, map, drop, take, set, get_or, Option, Some, None, refl, ap, sym, ◌∙◌, subst, arith, eq-eqb, option_to_list}
use Rattle.std.specs.List.{fold, slice_get, slice_index_or}
use Rattle.std.specs.Option.{option_map_or, option_and_then}
use Rattle.std.proofs.lemmas.Bool.{cases_Bool, both_ways, not-true, lt-ltb, and_parts, or_left, or_right}
use Rattle.std.proofs.lemmas.List.{length-set}
use Rattle.std.proofs.lemmas.Option.{same_Some}
use Rattle.gcd_plan.specs.PlanView.{PlanView}
use Rattle.gcd_plan.specs.Kinds.{has_kind, is_group_kind, is_semaphore_kind}
use Rattle.gcd_plan.specs.Validity.{IsPlan}
use Rattle.gcd_plan.specs.declared.act.Act.{Act}
use Rattle.gcd_plan.specs.declared.act.Act.TheVariants.{GroupWait, GroupWaitFor, Signal, Wait, WaitFor, Apply, WaitBlock}
use Rattle.gcd_plan.specs.declared.numbers.Blk.{Blk}
use Rattle.gcd_plan.specs.declared.numbers.Obj.{Obj}
use Rattle.gcd_plan.specs.declared.numbers.Run.{Run}
use Rattle.gcd_plan.specs.declared.numbers.Run.TheVariants.{Block, Source}
use Rattle.gcd_plan.specs.declared.reason.Reason.{Reason}
use Rattle.gcd_plan.specs.declared.reason.Reason.TheVariants.{Block as EndOf, Group as Empty, Strip, Rank}
use Rattle.gcd_event.specs.declared.event.Event.{Event}
use Rattle.gcd_event.specs.declared.event.Event.TheVariants.{Act as Acted, Wake, End, Expire}
use Rattle.gcd_history.specs.Runs.{act_at, act_of, is_ended}
use Rattle.gcd_history.specs.Expired.{has_expired}
use Rattle.gcd_history.specs.Groups.{count, is_empty_above}
use Rattle.gcd_history.specs.Semas.{signals, waits, first_value, signal_count, wait_count}
use Rattle.gcd_history.specs.Parked.{awaited_by, awaited, has_come, has_run_out, is_over, may_wake}
use Rattle.gcd_history.specs.Permitted.{IsLawful}
use Rattle.gcd_history.specs.Facts.{wakes}
use Rattle.gcd_history.proofs.Blocks.StartedOnce.{at_its_end, open_not_ended}
use Rattle.gcd_history.proofs.Blocks.SubmittedOnNodes.{recorded_fits}
use Rattle.gcd_lists.specs.ListsView.{list_at}
use Rattle.gcd_apply.specs.StripsView.{strip_of, left_at}
use Rattle.gcd_group.specs.GroupsView.{count_at}
use Rattle.gcd_sema.specs.SemasView.{has_value_at}
use Rattle.gcd_refinement.specs.MachineView.{MachineView, block_at, ended_at, applier_at}
use Rattle.gcd_refinement.specs.Shape.{PartsFit, OwnFit}
use Rattle.gcd_refinement.specs.Sleepers.{caller_of, waits_for_group, is_done, unexpired_blocks, sema_waits}
use Rattle.gcd_refinement.specs.Ties.{GroupsAre, SemasAre, WaitsAre, BlocksAre, WakesAre, WaitersAre, StripsAre}
use Rattle.gcd_refinement.specs.Submits.{emptied_by, sleepers_at, come_at_once, come_to_run, signalled, done_by, let_go_by, come_by}
use Rattle.gcd_refinement.specs.After.{with_wakeable, woken}
use Rattle.gcd_refinement.proofs.Lists.Writes.{entry_within}
use Rattle.gcd_refinement.proofs.Groups.Members.{is_group}
use Rattle.gcd_refinement.proofs.Sleepers.NewlyParked.{now_parked, still_parked}
use Rattle.gcd_refinement.proofs.Sleepers.Callers.{awaited_from_caller, waiter_parked}
use Rattle.gcd_refinement.proofs.Limits.Expiring.{expires_now, expired_now}
use Rattle.gcd_refinement.proofs.Semas.Ends.{signal_over, begun_over, over_from}
use Rattle.gcd_refinement.proofs.Lists.Among.{among, split, alone}
use Rattle.gcd_refinement.proofs.Groups.Sleepers.{parked_since, not_over, sleeper_parked}
use Rattle.gcd_refinement.proofs.Sleepers.Kinds.{group_is_no_semaphore}
use Rattle.gcd_refinement.proofs.Groups.NoCount.{no_count}
use Rattle.gcd_refinement.proofs.Groups.Emptied.{is_emptied, emptied_is}
use Rattle.gcd_refinement.proofs.Blocks.StripBlocks.{is_its_strip, strip_at_is}
use Rattle.gcd_refinement.proofs.Step.Strips.{end_within}
use Rattle.gcd_refinement.proofs.Sleepers.Strips.{strip_sleeper_parked}
use Rattle.gcd_refinement.proofs.Step.Waiters.{done_is, done_after}
use Rattle.gcd_refinement.proofs.Step.Asleep.{value_is, sema_tie, group_tie, waits_count}

-- what stands before the event
pub record Before (plan : PlanView) (past : List Event) (e : Event) (v : MachineView) : Type 0 where
  pub valid : IsPlan plan
  pub lawful : IsLawful plan (e ∷ past)
  pub fit : PartsFit plan v
  pub own : OwnFit plan v
  pub semas : SemasAre plan past v
  pub groups : GroupsAre plan past v
  pub blocks : BlocksAre plan past v
  pub waits : WaitsAre plan past v
  pub wakes : WakesAre plan past v
  pub waiters : WaitersAre plan past v
  pub strips : StripsAre plan past v

-- ## Truth values and lists

-- the first of a list without its front
first_dropped : (n : ℕ) (xs : List Blk) (b : Blk) → among b (take 1 (drop n xs)) ≡ true → slice_get xs n ≡ Some b
first_dropped zero [] b h = cc
first_dropped zero (x ∷ xs) b h = ap Some (alone x b h)
first_dropped (suc n) [] b h = cc
first_dropped (suc n) (x ∷ xs) b h = first_dropped n xs b h

-- ## The view

pub wakeable_fold : (wakeable : List Bool) (xs : List Blk) (b : Blk) → b.0 < length wakeable → slice_index_or (fold with_wakeable wakeable xs) b.0 false ≡ (among b xs || slice_index_or wakeable b.0 false)
wakeable_fold wakeable [] b low = refl
wakeable_fold wakeable (x ∷ xs) b low =
    let long = length-set wakeable x.0 true in
    wakeable_fold (set wakeable x.0 true) xs b (omega (arith, low, long))
    ∙ (ap (λ u. among b xs || u) (entry_within wakeable x.0 b.0 true false low) ∙ shuffle (among b xs) (x.0 == b.0) (get_or wakeable b.0 false))
  where
    shuffle : (u t d : Bool) → (u || cond t true d) ≡ ((t || u) || d)
    shuffle true true d = refl
    shuffle true false d = refl
    shuffle false true d = refl
    shuffle false false d = refl

pub woken_wakeable : (wakeable : List Bool) (e : Event) (b : Blk) → b.0 < length wakeable → slice_index_or (woken wakeable e) b.0 false ≡ (not (wakes b.0 e) && slice_index_or wakeable b.0 false)
woken_wakeable wakeable (Wake w c) b low = entry_within wakeable c.0 b.0 false false low ∙ off (c.0 == b.0)
  where
    off : (t : Bool) → cond t false (get_or wakeable b.0 false) ≡ (not t && get_or wakeable b.0 false)
    off true = refl
    off false = refl
woken_wakeable wakeable e b low = refl

pub woken_long : (wakeable : List Bool) (e : Event) → length (woken wakeable e) ≡ length wakeable
woken_long wakeable (Wake w c) = length-set wakeable c.0 false
woken_long wakeable e = refl

pub wakeable_long : (wakeable : List Bool) (xs : List Blk) → length (fold with_wakeable wakeable xs) ≡ length wakeable
wakeable_long wakeable [] = refl
wakeable_long wakeable (x ∷ xs) = wakeable_long (set wakeable x.0 true) xs ∙ length-set wakeable x.0 true

-- ## May wake

pub may_from : (plan : PlanView) (past : List Event) (b : Blk) (r : Reason) → awaited plan past (Block b) ≡ Some r → is_over plan past r ≡ true → may_wake plan past b.0 ≡ true
unfolding may_wake
may_from plan past b r is over = ap (λ o. option_map_or (is_over plan past) o false) is ∙ over

pub record MayWake (plan : PlanView) (past : List Event) (b : Blk) : Type 0 where
  pub why : Reason
  pub is : awaited plan past (Block b) ≡ Some why
  pub over : is_over plan past why ≡ true

pub may_parts : (plan : PlanView) (past : List Event) (b : Blk) → may_wake plan past b.0 ≡ true → MayWake plan past b
unfolding may_wake
may_parts plan past b may =
    elim (awaited plan past (Block b)) as (λ o. awaited plan past (Block b) ≡ o → option_map_or (is_over plan past) o false ≡ true → MayWake plan past b) [
      | None ↦ λ is h. cc
      | Some r ↦ λ is h. record { why = r; is = is; over = h }
    ] refl may

empty_over : (plan : PlanView) (past : List Event) (g : Obj) (p : ℕ) → is_empty_above plan past g.0 p ≡ true → is_over plan past (Empty g p) ≡ true
unfolding has_come has_run_out
empty_over plan past g p empty = over_from (has_expired past p) (is_empty_above plan past g.0 p) empty

empty_now : (plan : PlanView) (past : List Event) (e : Event) (g : Obj) (p : ℕ) → p < length (e ∷ past) → (count plan (e ∷ past) g.0 == 0) ≡ true → is_over plan (e ∷ past) (Empty g p) ≡ true
empty_now plan past e g p low none =
    empty_over plan (e ∷ past) g p
    (or_left (nat_lt p (length (e ∷ past)) && count plan (e ∷ past) g.0 == 0) (is_empty_above plan past g.0 p)
    (ap (λ u. u && count plan (e ∷ past) g.0 == 0) (lt-ltb p (length (e ∷ past)) low) ∙ none))

-- ## What the event ends, of sleepers at a group

group_of_emptied : (plan : PlanView) (past : List Event) (e : Event) (g : ℕ) → IsPlan plan → is_emptied plan past e g ≡ true → has_kind is_semaphore_kind plan g ≡ false
group_of_emptied plan past e g valid h =
    ⊎_elim
    (λ (yes_group : has_kind is_group_kind plan g ≡ true). group_is_no_semaphore plan g yes_group)
    (λ (no_group : has_kind is_group_kind plan g ≡ false).
    absurd (both_ways (count plan past g == 0)
    (not-true (count plan past g == 0) (and_parts (count plan (e ∷ past) g == 0) (not (count plan past g == 0)) h).1)
    (eq-eqb (count plan past g) 0 (no_count plan past g valid no_group))))
    (cases_Bool (has_kind is_group_kind plan g))

emptied_wakes : (plan : PlanView) (past : List Event) (e : Event) (v : MachineView) (b : Blk) → Before plan past e v → among b (sleepers_at v (emptied_by plan v e)) ≡ true → may_wake plan (e ∷ past) b.0 ≡ true
emptied_wakes plan past e v b bf any =
    elim (emptied_by plan v e) as (λ o. emptied_by plan v e ≡ o → among b (sleepers_at v o) ≡ true → may_wake plan (e ∷ past) b.0 ≡ true) [
      | None ↦ λ at h. cc
      | Some g ↦ λ at h.
          let is : is_emptied plan past e g.0 ≡ true = sym (emptied_is plan past e v g.0 bf.valid bf.lawful bf.fit bf.own bf.groups bf.blocks) ∙ (ap (is_group g.0) at ∙ eq-eqb g.0 g.0 refl) in
          let s = sleeper_parked plan past b g bf.lawful.0 (ap (among b) (sym (group_tie plan past v g.0 bf.valid bf.wakes (group_of_emptied plan past e g.0 bf.valid is))) ∙ h) in
          let low = parked_since plan past b g s.position s.is in
          let now = (and_parts (count plan (e ∷ past) g.0 == 0) (not (count plan past g.0 == 0)) is).0 in
          may_from plan (e ∷ past) b (Empty g s.position) (still_parked plan past e b (Empty g s.position) bf.lawful s.is (not_over plan past g s.position s.waits s.unexpired))
          (empty_now plan past e g s.position (omega (arith, low)) now)
    ] refl any

-- ## What the event ends, of a wait for an end

caller_wakes : (plan : PlanView) (past : List Event) (w : ℕ) (c : Blk) (v : MachineView) (b : Blk) → Before plan past (End w c) v → among b (option_to_list (block_at v c.0).caller) ≡ true → may_wake plan (End w c ∷ past) b.0 ≡ true
unfolding has_come has_run_out
caller_wakes plan past w c v b bf any =
    let live = at_its_end plan past c.0 (End w c) bf.lawful.1 (eq-eqb c.0 c.0 refl) in
    let goes = open_not_ended plan past bf.lawful.0 c live in
    elim (block_at v c.0).caller as (λ o. (block_at v c.0).caller ≡ o → among b (option_to_list o) ≡ true → may_wake plan (End w c ∷ past) b.0 ≡ true) [
      | None ↦ λ at h. cc
      | Some d ↦ λ at h.
          let called : caller_of plan past c.0 ≡ Some b = sym (bf.blocks.caller c.0) ∙ (at ∙ ap Some (alone d b h)) in
          let is = awaited_from_caller plan past b c bf.valid bf.lawful.0 called goes in
          may_from plan (End w c ∷ past) b (EndOf c) (still_parked plan past (End w c) b (EndOf c) bf.lawful is (ap (λ u. u || false) goes))
          (or_left (is_ended (End w c ∷ past) c.0) false (or_left (c.0 == c.0) (is_ended past c.0) (eq-eqb c.0 c.0 refl)))
    ] refl any

waiter_wakes : (plan : PlanView) (past : List Event) (w : ℕ) (c : Blk) (v : MachineView) (b : Blk) → Before plan past (End w c) v → among b (map (λ k. k.0) (list_at v.waiters c.0)) ≡ true → may_wake plan (End w c ∷ past) b.0 ≡ true
unfolding has_come has_run_out
waiter_wakes plan past w c v b bf any =
    let waits = waiter_parked plan past b c bf.lawful.0 (ap (among b) (sym (bf.waiters.of_block c.0)) ∙ any) in
    may_from plan (End w c ∷ past) b (EndOf c) (still_parked plan past (End w c) b (EndOf c) bf.lawful waits.is (ap (λ u. u || false) waits.goes))
    (or_left (is_ended (End w c ∷ past) c.0) false (or_left (c.0 == c.0) (is_ended past c.0) (eq-eqb c.0 c.0 refl)))

-- what is known of the strip of which the block that ends is the last
record IsLast (plan : PlanView) (v : MachineView) (c : Blk) (a : ℕ) : Type 0 where
  own : is_its_strip plan c.0 a ≡ true
  one : (left_at v.strips a == 1) ≡ true

last_of_strip : (plan : PlanView) (v : MachineView) (c : Blk) (a : ℕ) → PartsFit plan v → c.0 < length plan.blocks → done_by v c ≡ Some a → IsLast plan v c a
last_of_strip plan v c a fit low at =
    by (strip_of plan c.0) refl (ap (option_and_then (λ k. cond (left_at v.strips k == 1) (Some k) None)) (sym (strip_at_is plan v c.0 fit low)) ∙ at)
  where
    by : (o : Option ℕ) → strip_of plan c.0 ≡ o → option_and_then (λ k. cond (left_at v.strips k == 1) (Some k) None) o ≡ Some a → IsLast plan v c a
    by None is h = cc
    by (Some k) is h =
        elim (left_at v.strips k == 1) as (λ t. (left_at v.strips k == 1) ≡ t → cond t (Some k) None ≡ Some a → IsLast plan v c a) [
          | true ↦ λ one j.
              let same : k ≡ a = same_Some k a j in
              record { own = ap (λ o. option_map_or (λ n. n == a) o false) is ∙ eq-eqb k a same; one = subst (λ n. (left_at v.strips n == 1) ≡ true) same one }
          | false ↦ λ more j. cc
        ] refl h

applier_wakes : (plan : PlanView) (past : List Event) (w : ℕ) (c : Blk) (v : MachineView) (b : Blk) → Before plan past (End w c) v → among b (option_to_list (option_and_then (applier_at v) (done_by v c))) ≡ true → may_wake plan (End w c ∷ past) b.0 ≡ true
unfolding has_come has_run_out
applier_wakes plan past w c v b bf any =
    elim (done_by v c) as (λ o. done_by v c ≡ o → among b (option_to_list (option_and_then (applier_at v) o)) ≡ true → may_wake plan (End w c ∷ past) b.0 ≡ true) [
      | None ↦ λ at h. cc
      | Some a ↦ λ at h.
          let last = last_of_strip plan v c a bf.fit (end_within plan past w c bf.lawful) at in
          let slept = strip_sleeper_parked plan past b a bf.lawful.0 (ap (among b) (sym (bf.waiters.of_strip a)) ∙ h) in
          let done : is_done plan (End w c ∷ past) a ≡ true =
          done_after plan past w c v a bf.valid bf.lawful bf.strips ∙ or_left (is_its_strip plan c.0 a && left_at v.strips a == 1) (is_done plan past a) (ap (λ t. t && left_at v.strips a == 1) last.own ∙ last.one) in
          may_from plan (End w c ∷ past) b (Strip a) (still_parked plan past (End w c) b (Strip a) bf.lawful slept.is (ap (λ u. u || false) slept.on)) (or_left (is_done plan (End w c ∷ past) a) false done)
    ] refl any

-- ## What the event ends, of waits for a semaphore

signal_wakes : (plan : PlanView) (past : List Event) (e : Event) (v : MachineView) (b : Blk) (act : Option Act) → Before plan past e v → act_of plan e ≡ act → among b (signalled v act) ≡ true → may_wake plan (e ∷ past) b.0 ≡ true
signal_wakes plan past e v b (Some (Signal s)) bf at any =
    let here = sema_tie plan past v s.0 bf.valid bf.wakes (recorded_fits plan e (Signal s) bf.valid at) in
    let first = first_dropped (first_value plan s.0 + signal_count plan past s.0) (unexpired_blocks past (sema_waits plan past s.0)) b (ap (λ l. among b (take 1 l)) (sym here) ∙ any) in
    let ends = signal_over plan past e b s bf.valid bf.lawful.0 (ap (signals s.0) at ∙ eq-eqb s.0 s.0 refl) first in
    may_from plan (e ∷ past) b (Rank s ends.rank) (still_parked plan past e b (Rank s ends.rank) bf.lawful ends.is ends.waits) ends.over
signal_wakes plan past e v b _ bf at any = cc

-- ## What has come already

-- the act parks its block
parks_here : (plan : PlanView) (past : List Event) (w : ℕ) (d : Blk) (i : ℕ) (b : Blk) (act : Option Act) (r : Reason) → IsLawful plan (Acted w (Block d) i ∷ past) → act_at plan (Block d) i ≡ act → awaited_by plan past act ≡ Some r → d ≡ b
    → awaited plan (Acted w (Block d) i ∷ past) (Block b) ≡ Some r
parks_here plan past w d i b act r lawful at by same =
    now_parked plan past (Acted w (Block d) i) b r lawful
    (ap (λ u. cond u (awaited_by plan past (act_at plan (Block d) i)) None) (eq-eqb d.0 b.0 (ap (λ k. k.0) same)) ∙ (ap (awaited_by plan past) at ∙ by))

-- only it may have come at once
one_or_none : (u : Bool) (d b : Blk) → among b (cond u (d ∷ []) []) ≡ true → (u ≡ true) × (d ≡ b)
one_or_none true d b h = (refl, alone d b h)
one_or_none false d b h = cc

value_wakes : (plan : PlanView) (past : List Event) (w : ℕ) (d : Blk) (i : ℕ) (v : MachineView) (b : Blk) (s : Obj) (act : Option Act) → Before plan past (Acted w (Block d) i) v → act_at plan (Block d) i ≡ act
    → awaited_by plan past act ≡ Some (Rank s (wait_count plan past s.0 + 1)) → waits s.0 act ≡ true → among b (cond (has_value_at v.semas s.0) (d ∷ []) []) ≡ true → may_wake plan (Acted w (Block d) i ∷ past) b.0 ≡ true
value_wakes plan past w d i v b s act bf at by is any =
    let e = Acted w (Block d) i in
    let one = one_or_none (has_value_at v.semas s.0) d b any in
    may_from plan (e ∷ past) b (Rank s (wait_count plan past s.0 + 1)) (parks_here plan past w d i b act (Rank s (wait_count plan past s.0 + 1)) bf.lawful at by one.1)
    (begun_over plan past e s (ap (waits s.0) at ∙ is) ∙ (sym (value_is plan past v s.0 bf.fit bf.semas) ∙ one.0))

none_wakes : (plan : PlanView) (past : List Event) (w : ℕ) (d : Blk) (i : ℕ) (v : MachineView) (b : Blk) (g : Obj) (act : Option Act) → Before plan past (Acted w (Block d) i) v → act_at plan (Block d) i ≡ act
    → awaited_by plan past act ≡ Some (Empty g (length past)) → waits_for_group g.0 act ≡ true → among b (cond (count_at v.groups g.0 == 0) (d ∷ []) []) ≡ true → may_wake plan (Acted w (Block d) i ∷ past) b.0 ≡ true
none_wakes plan past w d i v b g act bf at by is any =
    let e = Acted w (Block d) i in
    let one = one_or_none (count_at v.groups g.0 == 0) d b any in
    let counted : count_at v.groups g.0 ≡ count plan (e ∷ past) g.0 =
    bf.groups.counts g.0 ∙ sym (waits_count plan past w d i v g.0 bf.valid bf.lawful bf.fit bf.own bf.groups bf.blocks g.0 (ap (waits_for_group g.0) at ∙ is)) in
    may_from plan (e ∷ past) b (Empty g (length past)) (parks_here plan past w d i b act (Empty g (length past)) bf.lawful at by one.1)
    (empty_now plan past e g (length past) (omega arith) (ap (λ n. n == 0) (sym counted) ∙ one.0))

-- what has come is over
strip_over : (plan : PlanView) (past : List Event) (w : ℕ) (d : Blk) (i a : ℕ) → is_done plan past a ≡ true → is_over plan (Acted w (Block d) i ∷ past) (Strip a) ≡ true
unfolding has_come has_run_out
strip_over plan past w d i a done = or_left (is_done plan past a) false done

end_over : (plan : PlanView) (past : List Event) (w : ℕ) (d : Blk) (i : ℕ) (c : Blk) → is_ended past c.0 ≡ true → is_over plan (Acted w (Block d) i ∷ past) (EndOf c) ≡ true
unfolding has_come has_run_out
end_over plan past w d i c ended = or_left (is_ended past c.0) false ended

once_wakes : (plan : PlanView) (past : List Event) (w : ℕ) (d : Blk) (i : ℕ) (v : MachineView) (b : Blk) (act : Option Act) → Before plan past (Acted w (Block d) i) v → act_at plan (Block d) i ≡ act → among b (come_at_once v d act) ≡ true
    → may_wake plan (Acted w (Block d) i ∷ past) b.0 ≡ true
once_wakes plan past w d i v b (Some (Wait s)) bf at any = value_wakes plan past w d i v b s (Some (Wait s)) bf at refl (eq-eqb s.0 s.0 refl) any
once_wakes plan past w d i v b (Some (WaitFor s ms)) bf at any = value_wakes plan past w d i v b s (Some (WaitFor s ms)) bf at refl (eq-eqb s.0 s.0 refl) any
once_wakes plan past w d i v b (Some (GroupWait g)) bf at any = none_wakes plan past w d i v b g (Some (GroupWait g)) bf at refl (eq-eqb g.0 g.0 refl) any
once_wakes plan past w d i v b (Some (GroupWaitFor g ms)) bf at any = none_wakes plan past w d i v b g (Some (GroupWaitFor g ms)) bf at refl (eq-eqb g.0 g.0 refl) any
once_wakes plan past w d i v b (Some (Apply q a)) bf at any =
    let one = one_or_none (left_at v.strips a == 0) d b any in
    may_from plan (Acted w (Block d) i ∷ past) b (Strip a) (parks_here plan past w d i b (Some (Apply q a)) (Strip a) bf.lawful at refl one.1) (strip_over plan past w d i a (sym (done_is plan past v a bf.strips) ∙ one.0))
once_wakes plan past w d i v b (Some (WaitBlock c)) bf at any =
    let one = one_or_none (ended_at v c.0) d b any in
    may_from plan (Acted w (Block d) i ∷ past) b (EndOf c) (parks_here plan past w d i b (Some (WaitBlock c)) (EndOf c) bf.lawful at refl one.1) (end_over plan past w d i c (sym (bf.blocks.ended c.0) ∙ one.0))
once_wakes plan past w d i v b _ bf at any = cc

run_wakes : (plan : PlanView) (past : List Event) (w : ℕ) (run : Run) (i : ℕ) (v : MachineView) (b : Blk) → Before plan past (Acted w run i) v → among b (come_to_run v run (act_at plan run i)) ≡ true → may_wake plan (Acted w run i ∷ past) b.0 ≡ true
run_wakes plan past w (Block d) i v b bf any = once_wakes plan past w d i v b (act_at plan (Block d) i) bf refl any
run_wakes plan past w (Source s) i v b bf any = cc

-- ## An expired wait

expire_wakes : (plan : PlanView) (past : List Event) (b : Blk) (v : MachineView) → Before plan past (Expire b) v → may_wake plan (Expire b ∷ past) b.0 ≡ true
expire_wakes plan past b v bf =
    let now = expires_now plan past b bf.lawful in
    may_from plan (Expire b ∷ past) b now.why (still_parked plan past (Expire b) b now.why bf.lawful now.is now.waits)
    (or_right (has_come plan (Expire b ∷ past) now.why) (has_run_out plan (Expire b ∷ past) now.why) (expired_now plan past b now.why bf.lawful now.is))

-- whose wait the event ends may wake
pub come_may : (plan : PlanView) (past : List Event) (e : Event) (v : MachineView) (b : Blk) → Before plan past e v → among b (come_by plan v e) ≡ true → may_wake plan (e ∷ past) b.0 ≡ true
come_may plan past (End w c) v b bf any =
    let caller = option_to_list (block_at v c.0).caller in
    let waiters = map (λ k. k.0) (list_at v.waiters c.0) in
    ⊎_elim
    (λ h.
    ⊎_elim
    (λ k. ⊎_elim (λ m. caller_wakes plan past w c v b bf m) (λ m. waiter_wakes plan past w c v b bf m) (split b caller waiters k))
    (λ k. applier_wakes plan past w c v b bf k)
    (split b (caller ++ waiters) (option_to_list (option_and_then (applier_at v) (done_by v c))) h))
    (λ h. emptied_wakes plan past (End w c) v b bf h)
    (split b (let_go_by v c) (sleepers_at v (emptied_by plan v (End w c))) any)
come_may plan past (Acted w run i) v b bf any =
    ⊎_elim
    (λ h.
    ⊎_elim
    (λ k. run_wakes plan past w run i v b bf k)
    (λ k. signal_wakes plan past (Acted w run i) v b (act_at plan run i) bf refl k)
    (split b (come_to_run v run (act_at plan run i)) (signalled v (act_at plan run i)) h))
    (λ h. emptied_wakes plan past (Acted w run i) v b bf h)
    (split b (come_to_run v run (act_at plan run i) ++ signalled v (act_at plan run i)) (sleepers_at v (emptied_by plan v (Acted w run i))) any)
come_may plan past (Expire c) v b bf any =
    let same : c ≡ b = alone c b any in
    subst (λ d. Before plan past (Expire d) v → may_wake plan (Expire d ∷ past) b.0 ≡ true) (sym same) (λ now. expire_wakes plan past b v now) bf
come_may plan past e v b bf any = cc
