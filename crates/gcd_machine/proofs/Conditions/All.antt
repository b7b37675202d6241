-- An event that is permitted may be taken: whatever its private steps ask holds of a machine that is tied to the history.
use Rattle.std.proofs.Common.{◌≡◌, ⊎_elim, ℕ, ◌+◌, ◌^◌, ◌<◌, ◌≤◌, ◌==◌, ltb, leb, true, false, cond, List, [], length, get_or, reverse, Option, Some, None, option_and_then, refl, ap, sym, ◌∙◌, subst, arith}
use Rattle.std.specs.Option.{option_map_or}
use Rattle.std.proofs.lemmas.Bool.{and_parts, cases_lt, eqb-true, ltb-true, leb-true}
use Rattle.std.proofs.lemmas.Option.{same_Some}
use Rattle.std.specs.Prelude.{IfSome}
use Rattle.std.proofs.lemmas.List.{length-reverse, length-map, get_or_past}
use Rattle.gcd_plan.specs.PlanView.{PlanView, IntakeView}
use Rattle.gcd_plan.specs.Made.{is_within, intake_span, is_of_intake}
use Rattle.gcd_plan.specs.Validity.{IsPlan, IsIntake}
use Rattle.gcd_plan.specs.Kinds.{is_source, is_queue, is_queue_kind, is_source_kind, is_read_kind}
use Rattle.gcd_plan.specs.StartRule.{first_of, is_held}
use Rattle.gcd_plan.specs.declared.numbers.Blk.{Blk}
use Rattle.gcd_plan.specs.declared.numbers.Obj.{Obj}
use Rattle.gcd_plan.specs.declared.numbers.Run.TheVariants.{Block, Source}
use Rattle.gcd_plan.specs.Needs.{has_limit, is_of_block}
use Rattle.gcd_plan.proofs.Needed.{room_low}
use Rattle.gcd_plan.proofs.Within.{has_object}
use Rattle.gcd_event.specs.declared.event.Event.{Event}
use Rattle.gcd_event.specs.declared.event.Event.TheVariants.{Start, Act as Acted, Wake, End, Deliver, DeliverEnd, Tick, Ready, FeedEnd, Misuse, Halt, Expire, Accept, Shut}
use Rattle.gcd_history.specs.declared.submission.Submission.{Submission}
use Rattle.gcd_history.specs.Submitted.{on_node, accepted_by, submission_of}
use Rattle.gcd_history.specs.Tree.{chain}
use Rattle.gcd_history.specs.Timers.{now}
use Rattle.gcd_history.specs.Due.{may_tick}
use Rattle.gcd_history.specs.Permitted.{is_worker, has_block, is_feed, knowledge, waiting_reasons, node_reasons, why}
use Rattle.gcd_history.specs.History.{why as why_after}
use Rattle.gcd_history.proofs.Permitted.Reasons.{allowed, at_start, at_wake, at_end, at_deliver, at_deliver_end, at_tick, waiting_facts}
use Rattle.gcd_history.proofs.Blocks.StartedOnce.{open_from_has_run}
use Rattle.gcd_refinement.specs.MachineView.{MachineView, block_at}
use Rattle.gcd_refinement.specs.Stands.{IsTied}
use Rattle.gcd_refinement.proofs.Rooms.{kept_within}
use Rattle.gcd_apply.specs.StripsView.{StripsView, left_at, strip_at}
use Rattle.gcd_machine.specs.Conditions.{CanTakeUp, CanStart, CanWake, CanEnd, CanEndWaits, CanAccept, CanDeliver, CanEndDelivery, CanTick, CanChange, CanTake}
use Rattle.gcd_machine.specs.Stands.{StandsFor, MayApply}
use Rattle.gcd_machine.proofs.Steps.All.{left_at_end}
use Rattle.gcd_machine.proofs.Conditions.Nodes.{has_list, has_pending, can_open, can_close, can_begin, can_close_on}
use Rattle.gcd_machine.proofs.Conditions.NewBlocks.{unsubmitted, by_accept, nowhere}
use Rattle.gcd_machine.proofs.Conditions.Groups.{can_submit, can_let_go, position_low, can_leave_told, can_tell}
use Rattle.gcd_machine.proofs.Conditions.Activity.{can_cancel, can_merge}
use Rattle.gcd_machine.proofs.Conditions.Acts.{can_set_free, can_act}
use Rattle.gcd_machine.proofs.Conditions.Expiries.{waits_for, can_expire}
use Rattle.gcd_plan.specs.Limits.{max_workers, max_value, max_intake}

-- nothing on the chain of a block that may start is held
chain_free : (plan : PlanView) (past : List Event) (o : Option Submission) (n : Obj) → option_and_then (λ s. s.node) o ≡ Some n → first_of (node_reasons plan past o) ≡ None → is_held (knowledge plan past) (chain plan past n.0) ≡ false
chain_free plan past None n on none = cc
chain_free plan past (Some s) n on none =
    (waiting_facts plan past s.blk.0 s.barrier n.0 (ap (λ k. first_of (option_map_or (λ o. waiting_reasons plan past s.blk.0 s.barrier o.0) k [])) (sym on) ∙ none)).held

-- the time to which a Tick may come
tick_within : (plan : PlanView) (past : List Event) (u : ℕ) → may_tick plan past u ≡ true → (now past < u) × (u ≤ plan.until)
unfolding may_tick
tick_within plan past u may =
    let parts = and_parts (ltb (now past) u) _ may in
    (ltb-true (now past) u parts.0, leb-true u plan.until (and_parts (leb u plan.until) _ parts.1).0)

-- no more are accepted than an intake may have
few_accepted : (plan : PlanView) (accepted : ℕ) → IsPlan plan → accepted ≤ option_map_or (λ i. i.count) plan.intake 0 → accepted + 1 < 2 ^ 32
few_accepted plan accepted valid few = at plan.intake valid.intake few
  where
    at : (o : Option IntakeView) → IfSome o (IsIntake plan) → accepted ≤ option_map_or (λ i. i.count) o 0 → accepted + 1 < 2 ^ 32
    at None is few = omega (arith, few)
    at (Some i) is few =
        let most = leb-true i.count max_intake (and_parts (leb 1 i.count) _ (and_parts (is_queue plan i.queue.0) _ is.fits).1).1 in
        omega (arith, few, most)

-- a strip of which some block has not ended is one of the plan
last_within : (strips : StripsView) (b a : ℕ) → option_and_then (λ k. cond (left_at strips k == 1) (Some k) None) (strip_at strips b) ≡ Some a → a < length strips.left
last_within strips b a =
    elim (strip_at strips b) as (λ o. option_and_then (λ k. cond (left_at strips k == 1) (Some k) None) o ≡ Some a → a < length strips.left) [
      | None ↦ λ is. cc
      | Some k ↦
          elim (left_at strips k == 1) as (λ v. (left_at strips k == 1) ≡ v → cond v (Some k) None ≡ Some a → a < length strips.left) [
            | true ↦ λ one is. subst (λ n. n < length strips.left) (same_Some k a is) (some_within strips.left k (eqb-true (left_at strips k) 1 one))
            | false ↦ λ more is. cc
          ] refl
    ]
  where
    some_within : (left : List ℕ) (k : ℕ) → get_or left k 0 ≡ 1 → k < length left
    some_within left k one =
        ⊎_elim
        (λ (low : k < length left). low)
        (λ (high : length left ≤ k). let none = get_or_past left k 0 high in absurd (omega (arith, none, one)))
        (cases_lt k (length left))

module _ (past : List Event) (m : MachineView) (t : IsTied m.plan past m) (room : length past + 1 < 2 ^ 32) where
  can_take_up : (w : ℕ) → is_worker w ≡ true → CanTakeUp m w
  can_take_up w worker =
      let low = ltb-true w max_workers worker in
      let workers = t.own.workers in
      let few = t.small.running in
      record { worker = omega (arith, low, workers); room = omega (arith, few, room) }

  can_start : (w : ℕ) (b : Blk) → why m.plan past (Start w b) ≡ None → CanStart m w b
  can_start w b may =
      let known = and_parts (is_worker w) (has_block m.plan b.0) (allowed m.plan past (Start w b) may).known in
      let low = ltb-true b.0 (length m.plan.blocks) known.1 in
      let long = t.own.blocks in
      record {
        worker = can_take_up w known.0;
        blk = omega (arith, low, long);
        node = λ n on.
            can_begin past m t room n (block_at m b.0).barrier (t.own.nodes b.0 n on)
            (chain_free m.plan past (submission_of m.plan past b.0) n (sym (t.blocks.node b.0) ∙ on) (at_start m.plan past w b may).waits);
      }

  can_wake : (w : ℕ) (b : Blk) → why m.plan past (Wake w b) ≡ None → CanWake m w b
  can_wake w b may =
      let known = and_parts (is_worker w) (has_block m.plan b.0) (allowed m.plan past (Wake w b) may).known in
      let low = ltb-true b.0 (length m.plan.blocks) known.1 in
      let for = waits_for m.plan past b.0 (at_wake m.plan past w b may).parked in
      let wakeable = t.own.wakeable in
      record {
        worker = can_take_up w known.0;
        blk = kept_within m.waits.reasons b.0 for.0 (t.waits.reasons b.0 ∙ for.1);
        wakeable = omega (arith, low, wakeable);
      }

  can_end_waits : (b : Blk) → CanEndWaits m b (block_at m b.0).caller
  can_end_waits b =
      let waiting = t.own.waiter_blocks in
      let wakeable = t.own.wakeable in
      let ripe = t.own.ripe in
      let few = room_low is_of_block m.plan in
      let left = t.parts.strips in
      let appliers = t.own.appliers in
      record {
        caller = λ c of. can_let_go past m t room c (t.own.callers b.0 c of);
        waiters = record { blocks = omega (arith, waiting, wakeable, few); ripe = omega (arith, waiting, ripe, few) };
        applier = record {
          strip = λ a is. let low = last_within m.strips b.0 a is in omega (arith, low, left, appliers);
          applier = λ a c is of. can_let_go past m t room c (t.own.applied_by a c of);
        };
      }

  can_end : (w : ℕ) (b : Blk) → why m.plan past (End w b) ≡ None → CanEnd m w b
  can_end w b may =
      let known = and_parts (is_worker w) (has_block m.plan b.0) (allowed m.plan past (End w b) may).known in
      let low = ltb-true b.0 (length m.plan.blocks) known.1 in
      let own = (at_end m.plan past w b may).own in
      let live = open_from_has_run m.plan past w (Block b) own in
      let blocks = t.own.blocks in
      let ended = t.own.ended in
      record {
        closes = record {
          worker = can_set_free past m t room w (Block b) known.0 own;
          blk = omega (arith, low, blocks);
          ended = omega (arith, low, ended);
          left = left_at_end past m t w b may;
          node = λ n on. can_close_on past m t room n b live on;
        };
        tells = can_tell past m t room b;
        waits = can_end_waits b;
        group = λ g of. can_leave_told past m t room w b g (t.lawful, may) of;
      }

  can_deliver : (w : ℕ) (s : Obj) → why m.plan past (Deliver w s) ≡ None → CanDeliver m w s
  can_deliver w s may =
      let known = and_parts (is_worker w) (is_source m.plan s.0) (allowed m.plan past (Deliver w s) may).known in
      let low = has_object is_source_kind m.plan s.0 known.1 in
      let busy = t.own.busy in
      record {
        worker = can_take_up w known.0;
        list = has_list past m t room s low;
        opens = can_open past m t room s low (at_deliver m.plan past w s may).held;
        marked = omega (arith, low, busy);
        pending = has_pending past m t room s low;
      }

  can_end_delivery : (w : ℕ) (s : Obj) → why m.plan past (DeliverEnd w s) ≡ None → CanEndDelivery m w s
  can_end_delivery w s may =
      let known = and_parts (is_worker w) (is_source m.plan s.0) (allowed m.plan past (DeliverEnd w s) may).known in
      let low = has_object is_source_kind m.plan s.0 known.1 in
      let own = (at_deliver_end m.plan past w s may).own in
      record {
        worker = can_set_free past m t room w (Source s) known.0 own;
        closes = can_close past m t room s (Source s) low (open_from_has_run m.plan past w (Source s) own) refl;
      }

  can_tick : (u : ℕ) → why m.plan past (Tick u) ≡ None → CanTick m u
  can_tick u may =
      let within = tick_within m.plan past u (at_tick m.plan past u may) in
      let moment = t.timers.moment in
      let until = t.parts.until in
      let kinds = t.parts.timer_kinds in
      let busy = t.own.busy in
      let ahead = t.own.ahead in
      let ripe = t.own.ripe in
      record {
        forward = omega (arith, within, moment);
        within = omega (arith, within, until);
        limits = let room = room_low has_limit m.plan in omega (arith, ahead, ripe, room);
        marked = busy ∙ sym (ap length kinds ∙ length-map m.plan.objects (λ o. o.kind));
      }

  -- the blocks of the intake are of the plan, and it accepts no block twice
  can_accept : (b : Blk) (s : ℕ) → why m.plan past (Accept b s) ≡ None → CanAccept m b
  can_accept b s may =
      let few = t.small.accepted in
      let of = (and_parts (is_of_intake m.plan b.0) _ (allowed m.plan past (Accept b s) may).known).0 in
      record {
        room = few_accepted m.plan m.accepted t.valid few;
        submits = λ i is.
            let intake : IsIntake m.plan i = subst (λ o. IfSome o (IsIntake m.plan)) is t.valid.intake in
            let node = has_object is_queue_kind m.plan i.queue.0 (and_parts (is_queue m.plan i.queue.0) _ intake.fits).0 in
            let within : is_within b.0 (intake_span i) ≡ true = sym (ap (λ o. option_map_or (λ k. is_within b.0 (intake_span k)) o false) is) ∙ of in
            let high = ltb-true b.0 (i.first + i.count) (and_parts (leb i.first b.0) _ within).1 in
            let among = leb-true (i.first + i.count) (length m.plan.blocks) (and_parts (leb 1 i.first) _ intake.among).1 in
            let submitted : accepted_by m.plan (Accept b s) ≡ on_node i.queue b false = ap (λ o. option_map_or (λ k. on_node k.queue b false) o []) is in
            can_submit past m t room i.queue b node (omega (arith, high, among))
            (nowhere past m t b.0 (unsubmitted m.plan past (Accept b s) b.0 t.valid (t.lawful, may) (by_accept m.plan past (Accept b s) i.queue b submitted)));
      }

  can_change : (e : Event) → why m.plan past e ≡ None → CanChange m e
  can_change (Start w b) may = can_start w b may
  can_change (Acted w run i) may = can_act past m t room w run i (t.lawful, may)
  can_change (Wake w b) may = can_wake w b may
  can_change (End w b) may = can_end w b may
  can_change (Deliver w s) may = can_deliver w s may
  can_change (DeliverEnd w s) may = can_end_delivery w s may
  can_change (Tick u) may = can_tick u may
  can_change (Ready s n) may =
      let known = and_parts (is_feed m.plan s.0) _ (allowed m.plan past (Ready s n) may).known in
      can_merge past m t room s n (has_object is_read_kind m.plan s.0 known.0) (leb-true n max_value (and_parts (ltb 0 n) _ known.1).1)
  can_change (FeedEnd s) may = can_cancel past m t room (FeedEnd s) s (t.lawful, may) refl (has_object is_read_kind m.plan s.0 (allowed m.plan past (FeedEnd s) may).known)
  can_change (Misuse w c run i) may = tt
  can_change Halt may = tt
  can_change (Expire b) may = can_expire past m t room b may
  can_change (Accept b s) may = can_accept b s may
  can_change Shut may = tt

  can_take_here : (e : Event) → why m.plan past e ≡ None → CanTake m e
  can_take_here e may = record { room = position_low past m t room; changes = can_change e may }

-- whatever the plan is called
pub can_take : (plan : PlanView) (past : List Event) (m : MachineView) (e : Event) → IsTied plan past m → why plan past e ≡ None → length past + 1 < 2 ^ 32 → CanTake m e
can_take plan past m e t may room =
    subst (λ p. IsTied p past m → why p past e ≡ None → CanTake m e) t.same_plan (λ tied may. can_take_here past m tied room e may) t may

-- the oldest event first
pub may_take : (m : MachineView) (e : Event) → MayApply m e → CanTake m e
unfolding StandsFor why_after
may_take m e may =
    let long = length-reverse may.history in
    let room = may.room in
    can_take may.plan (reverse may.history) m e may.stands may.permitted (omega (arith, long, room))
