-- What an act asks: its effect may be had, its block may be parked, and its run may count it.
use Rattle.std.proofs.Common.{◌≡◌, ℕ, ◌+◌, ◌^◌, ◌<◌, ◌==◌, ltb, leb, ◌≤◌, Bool, true, false, not, ◌&&◌, cond, List, [], ◌∷◌, length, ◌++◌, get_or, min, Option, Some, None, is_none, refl, ap, sym, ◌∙◌, subst, arith, eq-eqb, ne_eqb}
use Rattle.std.specs.List.{list_any, slice_get}
use Rattle.std.proofs.lemmas.Bool.{and_parts, ltb-true, leb-true, or_parts, both_ways}
use Rattle.std.proofs.lemmas.List.{get_or-set_same, length-append}
use Rattle.std.specs.Option.{option_map_or}
use Rattle.std.proofs.lemmas.List.Sums.{get_or-le-sum_by}
use Rattle.std.proofs.lemmas.Option.{none-some, same_Some, slice_get_within, slice_get-get_or}
use Rattle.gcd_plan.specs.PlanView.{PlanView, BlkView}
use Rattle.gcd_plan.specs.Kinds.{has_kind, is_queue, is_queue_kind, is_node_kind, is_source_kind, is_merge_kind, is_group_kind, is_semaphore_kind}
use Rattle.gcd_plan.specs.Validity.{IsPlan, is_act, is_declared, is_held_object}
use Rattle.gcd_plan.specs.declared.act.Act.{Act}
use Rattle.gcd_plan.specs.declared.act.Act.TheVariants.{Async, Barrier, Sync, BarrierSync, GroupAsync, Notify, Enter, Leave, GroupWait, GroupWaitFor, Signal, Wait, WaitFor, Suspend, Resume, Activate, Target, Merge, Cancel, Retain, Release, Apply, CancelBlock, WaitBlock, NotifyBlock}
use Rattle.gcd_plan.specs.declared.numbers.Blk.{Blk}
use Rattle.gcd_plan.specs.declared.numbers.Obj.{Obj}
use Rattle.gcd_plan.specs.declared.numbers.Run.{Run}
use Rattle.gcd_plan.specs.declared.numbers.Run.TheVariants.{Block, Source}
use Rattle.gcd_plan.specs.declared.reason.Reason.{Reason}
use Rattle.gcd_plan.specs.declared.reason.Reason.TheVariants.{Block as EndOf, Group as Empty, Strip, Rank}
use Rattle.gcd_plan.proofs.Within.{declared_within, has_object}
use Rattle.gcd_event.specs.declared.event.Event.{Event}
use Rattle.gcd_event.specs.declared.event.Event.TheVariants.{Act as Acted}
use Rattle.gcd_history.specs.Runs.{open_runs, is_open, act_at, act_of, acts_done}
use Rattle.gcd_history.specs.Submitted.{on_node, submitted_by, cancelled_by}
use Rattle.gcd_history.specs.Parked.{parked_by, awaited, has_run}
use Rattle.gcd_history.specs.Misuses.{refs, is_released, named}
use Rattle.gcd_history.specs.Permitted.{IsLawful, is_worker, is_run_of}
use Rattle.gcd_plan.proofs.Sums.{count_by_some}
use Rattle.gcd_history.proofs.Runs.OpenNodes.{any_open}
use Rattle.gcd_history.proofs.Permitted.Reasons.{allowed, at_act}
use Rattle.gcd_history.proofs.Blocks.StartedOnce.{open_from_has_run}
use Rattle.gcd_history.proofs.Blocks.SubmittedOnNodes.{recorded_fits}
use Rattle.gcd_sema.specs.SemasView.{waits_at, room_at, expiries_at, with_wait}
use Rattle.gcd_sync.specs.WaitsView.{Fits}
use Rattle.gcd_refinement.specs.MachineView.{MachineView, refs_at}
use Rattle.gcd_refinement.specs.After.{semas_by, after}
use Rattle.gcd_refinement.specs.AfterLimits.{limit_in_view}
use Rattle.gcd_refinement.specs.Stands.{IsTied}
use Rattle.gcd_refinement.proofs.LawfulActs.{proper, proper_parts}
use Rattle.gcd_refinement.proofs.Step.Waits.{unparked}
use Rattle.gcd_refinement.proofs.Rooms.{room_of_act, room_of_limit}
use Rattle.gcd_refinement.proofs.Tied.{tied_step}
use Rattle.gcd_machine.specs.Conditions.{CanKeepLimit, CanBeAhead, CanSetFree, CanPark, CanLayDown, CanSubmit, CanSignal, CanRetain, CanRelease, CanHaveEffect, CanCall, CanWaitForGroup, CanWaitForSemaphore, CanWaitForStrip, CanWaitForBlock, CanSubmitStrip, CanParkBy, CanParkIn, CanCount, CanAct}
use Rattle.gcd_plan.specs.Effects.{parks}
use Rattle.gcd_plan.specs.Needs.{is_of_block, mark_room, park_room}
use Rattle.gcd_machine.proofs.Conditions.NewBlocks.{unsubmitted, by_act, by_strip, by_notify, by_end_notify, nowhere}
use Rattle.gcd_machine.proofs.Conditions.Groups.{can_let_go, can_submit, can_wake_at, position_low, can_enter, can_submit_member, can_leave_by_act, can_register, can_tell_of}
use Rattle.gcd_machine.proofs.Conditions.Activity.{can_activate, can_resume, can_suspend, can_cancel, can_merge}
use Rattle.gcd_machine.proofs.Conditions.Targets.{can_target}
use Rattle.gcd_plan.specs.Limits.{max_acts, max_workers, max_value}

-- a block whose run goes on waits for nothing
awake_now : (plan : PlanView) (past : List Event) (run : Run) → parked_by plan past run ≡ None → awaited plan past run ≡ None
unfolding awaited
awake_now plan past run none =
    elim (is_open past run) as (λ t. cond t (parked_by plan past run) None ≡ None) [ true ↦ none | false ↦ refl ]

-- an object that is named is not released
unreleased : (plan : PlanView) (past : List Event) (o : ℕ) → 0 < o → is_released plan past o ≡ false → refs plan past o ≡ 0 → ⊥
unreleased plan past o some live none =
    both_ways (is_released plan past o) live
    (ap (λ t. not t && refs plan past o == 0) (ne_eqb o 0 (λ zero. omega (arith, some, zero))) ∙ eq-eqb (refs plan past o) 0 none)

above : (n : ℕ) → (n ≡ 0 → ⊥) → 0 < n
above n h = omega (arith, h)

-- a block's act has a place below the most acts of a plan
place_low : (plan : PlanView) → IsPlan plan → (b : Blk) (i : ℕ) (act : Act) → act_at plan (Block b) i ≡ Some act → i < max_acts
place_low plan valid b i act at = placed (slice_get plan.blocks b.0) refl at
  where
    placed : (o : Option BlkView) → slice_get plan.blocks b.0 ≡ o → slice_get (option_map_or (λ blk. blk.acts) o []) i ≡ Some act → i < max_acts
    placed None is there = absurd (none-some act there)
    placed (Some blk) is there =
        let low = slice_get_within blk.acts i act there in
        let within = slice_get_within plan.blocks b.0 blk is in
        let same = ap (λ (x : BlkView). length x.acts) (same_Some (get_or plan.blocks b.0 blk) blk (sym (slice_get-get_or plan.blocks b.0 blk within) ∙ is)) in
        let few = get_or-le-sum_by (λ (x : BlkView). length x.acts) plan.blocks b.0 blk within in
        let all = valid.few_acts in
        omega (arith, low, same, few, all)

module _ (past : List Event) (m : MachineView) (t : IsTied m.plan past m) (room : length past + 1 < 2 ^ 32) where
  -- ## The run

  pub can_set_free : (w : ℕ) (run : Run) → is_worker w ≡ true → has_run m.plan past w run ≡ true → CanSetFree m w
  can_set_free w run worker own =
      let low = ltb-true w max_workers worker in
      let workers = t.own.workers in
      let live = open_from_has_run m.plan past w run own in
      let goes = ap is_none (unparked m.plan past w run own) in
      let some = count_by_some (λ r. is_none (parked_by m.plan past r)) (open_runs past) (any_open past (λ r. is_none (parked_by m.plan past r)) run live goes) in
      let is = t.totals.running in
      record { worker = omega (arith, low, workers); running = omega (arith, some, is) }

  can_count : (run : Run) (i : ℕ) (act : Act) → is_run_of m.plan run ≡ true → act_at m.plan run i ≡ Some act → i ≡ acts_done past run → CanCount m run
  can_count (Block b) i act of at next =
      let low = ltb-true b.0 (length m.plan.blocks) of in
      let long = t.own.blocks in
      let place = place_low m.plan t.valid b i act at in
      let done = t.blocks.done b.0 in
      record { blk = omega (arith, low, long); room = omega (arith, place, done, next) }
  can_count (Source s) i act of at next =
      let low = has_object is_source_kind m.plan s.0 of in
      let long = t.own.handlers in
      let few = t.small.handler_acts s.0 in
      record { source = omega (arith, low, long); room = omega (arith, few, room) }

  -- ## Waits

  can_park : (w : ℕ) (b : Blk) (why : Reason) (limit : Option ℕ) → park_room m.plan ≡ length m.plan.blocks → CanSetFree m w → b.0 < length m.plan.blocks → Fits m.waits why → ((end : ℕ) → limit ≡ Some end → CanKeepLimit m b end) → CanPark m w b why limit
  can_park w b why limit all worker low fits keeps = let long = t.parts.reasons in record { worker = worker; blk = omega (arith, low, long, all); fits = fits; keeps = keeps }

  can_lay_down : (o : Obj) (b : Blk) (w : ℕ) → park_room m.plan ≡ length m.plan.blocks → has_run m.plan past w (Block b) ≡ true → o.0 < length m.plan.objects → b.0 < length m.plan.blocks → CanLayDown m o b
  can_lay_down o b w all own object block =
      let long = t.own.sleepers in
      let blocks = t.own.sleeper_blocks in
      record {
        object = omega (arith, object, long);
        blk = omega (arith, block, blocks, all);
        awake = t.places.awake b.0 (t.waits.reasons b.0 ∙ awake_now m.plan past (Block b) (unparked m.plan past w (Block b) own));
      }

  -- a limit is no later than the last due time
  short_limit : (act : Act) (end : ℕ) → limit_in_view m (Some act) ≡ Some end → end + 1 < 2 ^ 32
  short_limit (GroupWaitFor g ms) end is = let high = t.valid.until_high in let same = same_Some (min (m.timers.moment + ms) m.plan.until) end is in omega (arith, high, same)
  short_limit (WaitFor s ms) end is = let high = t.valid.until_high in let same = same_Some (min (m.timers.moment + ms) m.plan.until) end is in omega (arith, high, same)
  short_limit act end is = cc

  -- limits are kept where an act of the plan has one
  can_keep : (b : Blk) (i : ℕ) (act : Act) → act_at m.plan (Block b) i ≡ Some act → b.0 < length m.plan.blocks → (end : ℕ) → limit_in_view m (Some act) ≡ Some end → CanKeepLimit m b end
  can_keep b i act at block end is =
      let limits = t.parts.limits in
      let all = room_of_limit m.plan m b i end (ap (limit_in_view m) at ∙ is) in
      record { kept = omega (arith, block, limits, all); short = short_limit act end is }

  can_be_ahead : (b : Blk) (i : ℕ) (act : Act) → act_at m.plan (Block b) i ≡ Some act → b.0 < length m.plan.blocks → (end : ℕ) → limit_in_view m (Some act) ≡ Some end → CanBeAhead m b end
  can_be_ahead b i act at block end is =
      let ahead = t.own.ahead in
      let all = room_of_limit m.plan m b i end (ap (limit_in_view m) at ∙ is) in
      record { kept = omega (arith, block, ahead, all); short = short_limit act end is }

  can_call : (w : ℕ) (b c : Blk) → park_room m.plan ≡ length m.plan.blocks → CanSetFree m w → b.0 < length m.plan.blocks → c.0 < length m.plan.blocks → CanCall m w b c
  can_call w b c all worker block called =
      let long = t.own.blocks in
      let expired = t.parts.expired in
      let few = t.valid.few_blocks in
      record { called = omega (arith, called, long); low = omega (arith, block, few); parks = can_park w b (EndOf c) None all worker block (omega (arith, called, expired)) (λ end is. cc) }

  can_wait_for_group : (w : ℕ) (b : Blk) (i : ℕ) (act : Act) (g : Obj) → act_at m.plan (Block b) i ≡ Some act → parks act ≡ true → has_run m.plan past w (Block b) ≡ true → CanSetFree m w → b.0 < length m.plan.blocks → g.0 < length m.plan.objects
      → CanWaitForGroup m w b g (limit_in_view m (Some act))
  can_wait_for_group w b i act g at parking own worker block group =
      let all = room_of_act parks m.plan (Block b) i act at parking in
      let counts = t.parts.counts in
      let objects = t.parts.wait_objects in
      record {
        group = omega (arith, group, counts);
        over = can_let_go past m t room b block;
        sleeps = can_lay_down g b w all own group block;
        ahead = can_be_ahead b i act at block;
        parks = can_park w b (Empty g m.len) (limit_in_view m (Some act)) all worker block (omega (arith, group, objects), position_low past m t room) (can_keep b i act at block);
      }

  -- the plan has room for each wait that its acts begin
  has_room : (e : Event) (s : Obj) → IsLawful m.plan (e ∷ past) → (after m.plan m e).semas ≡ with_wait m.semas s.0 → s.0 < length m.plan.objects → waits_at m.semas s.0 < room_at m.semas s.0
  has_room e s lawful is low =
      let long = t.parts.waits in
      let now : waits_at (with_wait m.semas s.0) s.0 ≤ room_at m.semas s.0 = subst (λ v. waits_at v s.0 ≤ room_at v s.0) is ((tied_step m.plan past e m lawful t).small.waits s.0) in
      let one_more = ap length (get_or-set_same m.semas.waits s.0 (expiries_at m.semas s.0 ++ false ∷ []) [] (omega (arith, low, long))) in
      let split = length-append (expiries_at m.semas s.0) (false ∷ []) in
      omega (arith, now, one_more, split)

  can_wait_for_semaphore : (w : ℕ) (b : Blk) (i : ℕ) (act : Act) (s : Obj) → act_at m.plan (Block b) i ≡ Some act → parks act ≡ true → has_run m.plan past w (Block b) ≡ true → CanSetFree m w → b.0 < length m.plan.blocks → s.0 < length m.plan.objects → waits_at m.semas s.0 < room_at m.semas s.0
      → CanWaitForSemaphore m w b s (limit_in_view m (Some act))
  can_wait_for_semaphore w b i act s at parking own worker block semaphore has =
      let all = room_of_act parks m.plan (Block b) i act at parking in
      let waits = t.parts.waits in
      let objects = t.parts.wait_objects in
      record {
        semaphore = omega (arith, semaphore, waits);
        room = has;
        over = can_let_go past m t room b block;
        sleeps = can_lay_down s b w all own semaphore block;
        ahead = can_be_ahead b i act at block;
        parks = can_park w b (Rank s (waits_at m.semas s.0 + 1)) (limit_in_view m (Some act)) all worker block (omega (arith, semaphore, objects), omega arith) (can_keep b i act at block);
      }

  -- a block that applies a strip waits for it
  can_wait_for_strip : (w : ℕ) (b : Blk) (a : ℕ) → park_room m.plan ≡ length m.plan.blocks → CanSetFree m w → b.0 < length m.plan.blocks → a < length m.plan.strips → CanWaitForStrip m w b a
  can_wait_for_strip w b a all worker block strip =
      let appliers = t.own.appliers in
      let strips = t.parts.wait_strips in
      record {
        strip = omega (arith, strip, appliers);
        over = can_let_go past m t room b block;
        parks = can_park w b (Strip a) None all worker block (omega (arith, strip, strips)) (λ end is. cc);
      }

  can_wait_for_block : (w : ℕ) (b c : Blk) → park_room m.plan ≡ length m.plan.blocks → has_run m.plan past w (Block b) ≡ true → CanSetFree m w → b.0 < length m.plan.blocks → c.0 < length m.plan.blocks → mark_room m.plan ≡ length m.plan.blocks → CanWaitForBlock m w b c
  can_wait_for_block w b c all own worker block awaited whole =
      let ended = t.own.ended in
      let waiters = t.own.waiters in
      let waiting = t.own.waiter_blocks in
      let expired = t.parts.expired in
      record {
        known = omega (arith, awaited, ended);
        awaited = omega (arith, awaited, waiters, whole);
        waiting = omega (arith, block, waiting, whole);
        waits_for_none = t.places.patient b.0 (t.waits.reasons b.0 ∙ awake_now m.plan past (Block b) (unparked m.plan past w (Block b) own));
        over = can_let_go past m t room b block;
        parks = can_park w b (EndOf c) None all worker block (omega (arith, awaited, expired)) (λ end is. cc);
      }

  can_park_by : (w : ℕ) (b : Blk) (i : ℕ) (act : Act) → IsLawful m.plan (Acted w (Block b) i ∷ past) → act_at m.plan (Block b) i ≡ Some act → has_run m.plan past w (Block b) ≡ true → CanSetFree m w → b.0 < length m.plan.blocks → is_act m.plan act ≡ true
      → CanParkBy m w b act
  can_park_by w b i (Sync q c) lawful at own worker block fits = can_call w b c (room_of_act parks m.plan (Block b) i (Sync q c) at refl) worker block (declared_within m.plan c (and_parts (is_queue m.plan q.0) _ fits).1)
  can_park_by w b i (BarrierSync q c) lawful at own worker block fits = can_call w b c (room_of_act parks m.plan (Block b) i (BarrierSync q c) at refl) worker block (declared_within m.plan c (and_parts (is_queue m.plan q.0) _ fits).1)
  can_park_by w b i (GroupWait g) lawful at own worker block fits = can_wait_for_group w b i (GroupWait g) g at refl own worker block (has_object is_group_kind m.plan g.0 fits)
  can_park_by w b i (GroupWaitFor g ms) lawful at own worker block fits =
      can_wait_for_group w b i (GroupWaitFor g ms) g at refl own worker block (has_object is_group_kind m.plan g.0 (and_parts (has_kind is_group_kind m.plan g.0) _ fits).0)
  can_park_by w b i (Wait s) lawful at own worker block fits =
      let low = has_object is_semaphore_kind m.plan s.0 fits in
      can_wait_for_semaphore w b i (Wait s) s at refl own worker block low (has_room (Acted w (Block b) i) s lawful (ap (semas_by m.semas) at) low)
  can_park_by w b i (WaitFor s ms) lawful at own worker block fits =
      let low = has_object is_semaphore_kind m.plan s.0 (and_parts (has_kind is_semaphore_kind m.plan s.0) _ fits).0 in
      can_wait_for_semaphore w b i (WaitFor s ms) s at refl own worker block low (has_room (Acted w (Block b) i) s lawful (ap (semas_by m.semas) at) low)
  can_park_by w b i (Apply q a) lawful at own worker block fits = can_wait_for_strip w b a (room_of_act parks m.plan (Block b) i (Apply q a) at refl) worker block (ltb-true a (length m.plan.strips) (and_parts (is_queue m.plan q.0) _ fits).1)
  can_park_by w b i (WaitBlock c) lawful at own worker block fits = can_wait_for_block w b c (room_of_act parks m.plan (Block b) i (WaitBlock c) at refl) own worker block (declared_within m.plan c fits) (room_of_act is_of_block m.plan (Block b) i (WaitBlock c) at refl)
  can_park_by w b i act lawful at own worker block fits = tt

  can_park_in : (w : ℕ) (run : Run) (i : ℕ) (act : Act) → IsLawful m.plan (Acted w run i ∷ past) → act_at m.plan run i ≡ Some act → has_run m.plan past w run ≡ true → CanSetFree m w → is_run_of m.plan run ≡ true → is_act m.plan act ≡ true → CanParkIn m w run act
  can_park_in w (Block b) i act lawful at own worker of fits = can_park_by w b i act lawful at own worker (ltb-true b.0 (length m.plan.blocks) of) fits
  can_park_in w (Source s) i act lawful at own worker of fits = tt

  -- ## References and semaphores

  some_refs : (e : Event) (act : Act) (o : Obj) → IsLawful m.plan (e ∷ past) → act_of m.plan e ≡ Some act → named act ≡ o.0 ∷ [] → 0 < o.0 → o.0 < length m.plan.objects → 0 < refs_at m o.0
  some_refs e act o lawful at names some low =
      let parts = proper_parts m.plan past act (proper m.plan past e act lawful at) in
      let live = (or_parts (is_released m.plan past o.0) false (ap (list_any (is_released m.plan past)) (sym names) ∙ parts.0)).0 in
      let is = t.references.counted o.0 low in
      let more = above (refs m.plan past o.0) (unreleased m.plan past o.0 some live) in
      omega (arith, is, more)

  can_retain : (e : Event) (o : Obj) → IsLawful m.plan (e ∷ past) → act_of m.plan e ≡ Some (Retain o) → 0 < o.0 → o.0 < length m.plan.objects → CanRetain m o
  can_retain e o lawful at some low =
      let long = t.parts.refs in
      let few = t.small.refs o.0 in
      record { object = omega (arith, low, long); live = some_refs e (Retain o) o lawful at refl some low; room = omega (arith, few, room) }

  can_release : (e : Event) (o : Obj) → IsLawful m.plan (e ∷ past) → act_of m.plan e ≡ Some (Release o) → 0 < o.0 → o.0 < length m.plan.objects → CanRelease m o
  can_release e o lawful at some low = let long = t.parts.refs in record { object = omega (arith, low, long); live = some_refs e (Release o) o lawful at refl some low }

  can_signal : (s : Obj) → s.0 < length m.plan.objects → CanSignal m s
  can_signal s low =
      let waits = t.parts.waits in
      let few = t.small.signals s.0 in
      record { semaphore = omega (arith, low, waits); room = omega (arith, few, room); wakes = can_wake_at past m t room s low }

  -- ## Effects

  can_submit_by_act : (e : Event) (n : Obj) (b : Blk) (barrier : Bool) → IsLawful m.plan (e ∷ past) → submitted_by m.plan (act_of m.plan e) ≡ on_node n b barrier → is_queue m.plan n.0 ≡ true → is_declared m.plan b ≡ true → CanSubmit m n b
  can_submit_by_act e n b barrier lawful is node block =
      can_submit past m t room n b (has_object is_queue_kind m.plan n.0 node) (declared_within m.plan b block)
      (nowhere past m t b.0 (unsubmitted m.plan past e b.0 t.valid lawful (by_act m.plan past e n b barrier is)))

  held_low : (o : Obj) → is_held_object m.plan o ≡ true → o.0 < length m.plan.objects
  held_low o fits = has_object is_node_kind m.plan o.0 (and_parts (ltb 0 o.0) _ fits).1

  counted_low : (o : Obj) → (ltb 0 o.0 && ltb o.0 (length m.plan.objects)) ≡ true → (0 < o.0) × (o.0 < length m.plan.objects)
  counted_low o fits = let parts = and_parts (ltb 0 o.0) _ fits in (ltb-true 0 o.0 parts.0, ltb-true o.0 (length m.plan.objects) parts.1)

  -- the blocks of a strip are of the plan, and were not submitted
  can_submit_strip : (e : Event) (q : Obj) (a : ℕ) → IsLawful m.plan (e ∷ past) → act_of m.plan e ≡ Some (Apply q a) → q.0 < length m.plan.objects → CanSubmitStrip m q a
  can_submit_strip e q a lawful at node =
      let lists = t.parts.lists in
      let listed = t.parts.list_blocks in
      let blocks = t.own.blocks in
      let busy = t.own.busy in
      let left = t.small.left in
      let few = t.valid.few_blocks in
      record {
        blocks = λ s of.
            let among = leb-true (s.first + s.count) (length m.plan.blocks) (and_parts (leb 1 s.first) _ (t.valid.strips a s of).among).1 in
            record {
              node = omega (arith, node, lists);
              listed = omega (arith, among, listed);
              short = omega (arith, among, few);
              nowhere = λ b low high. nowhere past m t b (unsubmitted m.plan past e b t.valid lawful (by_strip m.plan past e q a s b at of low high));
              blocks = omega (arith, among, blocks);
              marked = omega (arith, node, busy);
              room = omega (arith, left, among, few);
            };
      }

  have_effect : (w : ℕ) (run : Run) (i : ℕ) (act : Act) → IsLawful m.plan (Acted w run i ∷ past) → act_at m.plan run i ≡ Some act → is_act m.plan act ≡ true → CanHaveEffect m act
  have_effect w run i (Async q b) lawful at fits =
      let parts = and_parts (is_queue m.plan q.0) _ fits in
      can_submit_by_act (Acted w run i) q b false lawful (ap (submitted_by m.plan) at) parts.0 parts.1
  have_effect w run i (Barrier q b) lawful at fits =
      let parts = and_parts (is_queue m.plan q.0) _ fits in
      can_submit_by_act (Acted w run i) q b true lawful (ap (submitted_by m.plan) at) parts.0 parts.1
  have_effect w run i (Sync q b) lawful at fits =
      let parts = and_parts (is_queue m.plan q.0) _ fits in
      can_submit_by_act (Acted w run i) q b false lawful (ap (submitted_by m.plan) at) parts.0 parts.1
  have_effect w run i (BarrierSync q b) lawful at fits =
      let parts = and_parts (is_queue m.plan q.0) _ fits in
      can_submit_by_act (Acted w run i) q b true lawful (ap (submitted_by m.plan) at) parts.0 parts.1
  have_effect w run i (GroupAsync g q b) lawful at fits =
      let group = and_parts (has_kind is_group_kind m.plan g.0) _ fits in
      let parts = and_parts (is_queue m.plan q.0) _ group.1 in
      can_submit_member past m t room g q b (has_object is_group_kind m.plan g.0 group.0) (can_submit_by_act (Acted w run i) q b false lawful (ap (submitted_by m.plan) at) parts.0 parts.1)
  have_effect w run i (Notify g q b) lawful at fits =
      let group = and_parts (has_kind is_group_kind m.plan g.0) _ fits in
      let parts = and_parts (is_queue m.plan q.0) _ group.1 in
      can_register past m t room g q b (by_notify m.plan past (Acted w run i) g q b t.valid lawful at) (has_object is_group_kind m.plan g.0 group.0) (has_object is_queue_kind m.plan q.0 parts.0) (declared_within m.plan b parts.1)
  have_effect w run i (Enter g) lawful at fits = can_enter past m t room g (has_object is_group_kind m.plan g.0 fits)
  have_effect w run i (Leave g) lawful at fits = can_leave_by_act past m t room (Acted w run i) g lawful at (has_object is_group_kind m.plan g.0 fits)
  have_effect w run i (GroupWait g) lawful at fits = tt
  have_effect w run i (GroupWaitFor g ms) lawful at fits = tt
  have_effect w run i (Signal s) lawful at fits = can_signal s (has_object is_semaphore_kind m.plan s.0 fits)
  have_effect w run i (Wait s) lawful at fits = tt
  have_effect w run i (WaitFor s ms) lawful at fits = tt
  have_effect w run i (Suspend o) lawful at fits = can_suspend past m t room o (held_low o fits)
  have_effect w run i (Resume o) lawful at fits = can_resume past m t room (Acted w run i) o lawful at (held_low o fits)
  have_effect w run i (Activate o) lawful at fits = can_activate past m t room o (held_low o fits)
  have_effect w run i (Target o q) lawful at fits = can_target past m t (Acted w run i) o q lawful at
  have_effect w run i (Merge s n) lawful at fits =
      let parts = and_parts (has_kind is_merge_kind m.plan s.0) _ fits in
      can_merge past m t room s n (has_object is_merge_kind m.plan s.0 parts.0) (leb-true n max_value parts.1)
  have_effect w run i (Cancel s) lawful at fits = can_cancel past m t room (Acted w run i) s lawful (ap cancelled_by at) (has_object is_source_kind m.plan s.0 fits)
  have_effect w run i (Retain o) lawful at fits = let low = counted_low o fits in can_retain (Acted w run i) o lawful at low.0 low.1
  have_effect w run i (Apply q a) lawful at fits = can_submit_strip (Acted w run i) q a lawful at (has_object is_queue_kind m.plan q.0 (and_parts (is_queue m.plan q.0) _ fits).0)
  have_effect w run i (CancelBlock c) lawful at fits = tt
  have_effect w run i (WaitBlock c) lawful at fits = tt
  have_effect w run i (NotifyBlock c q d) lawful at fits =
      let parts = and_parts (is_declared m.plan c) _ fits in
      let rest = and_parts (is_queue m.plan q.0) _ parts.1 in
      let whole = room_of_act is_of_block m.plan run i (NotifyBlock c q d) at refl in
      can_tell_of past m t room c q d (by_end_notify m.plan past (Acted w run i) c q d t.valid lawful at) whole (declared_within m.plan c parts.0) (has_object is_queue_kind m.plan q.0 rest.0) (declared_within m.plan d rest.1)
  have_effect w run i (Release o) lawful at fits = let low = counted_low o fits in can_release (Acted w run i) o lawful at low.0 low.1

  -- ## The act

  pub can_act : (w : ℕ) (run : Run) (i : ℕ) → IsLawful m.plan (Acted w run i ∷ past) → CanAct m w run i
  can_act w run i lawful =
      let known = and_parts (is_worker w) _ (allowed m.plan past (Acted w run i) lawful.1).known in
      let of = (and_parts (is_run_of m.plan run) _ known.1).0 in
      let facts = at_act m.plan past w run i lawful.1 in
      record {
        acts = λ act at.
            let fits = recorded_fits m.plan (Acted w run i) act t.valid at in
            record {
              counts = can_count run i act of at facts.next;
              parks = can_park_in w run i act lawful at facts.own (can_set_free w run known.0 facts.own) of fits;
              effect = have_effect w run i act lawful at fits;
            };
      }
