-- The private steps of a machine together make what an event changes, where the machine is tied to a history after which the
-- event is permitted.
use Rattle.std.proofs.Common.{◌≡◌, ℕ, ◌<◌, ◌==◌, ltb, true, false, not, List, Some, None, is_some, refl, ap, sym, ◌∙◌, subst, arith, ne_eqb}
use Rattle.std.proofs.lemmas.Bool.{and_parts, ltb-true, eqb-true}
use Rattle.gcd_plan.specs.PlanView.{PlanView}
use Rattle.gcd_plan.specs.Kinds.{has_kind, is_group_kind, is_queue, is_queue_kind}
use Rattle.gcd_plan.specs.Validity.{is_act, is_declared}
use Rattle.gcd_plan.specs.declared.act.Act.{Act}
use Rattle.gcd_plan.specs.declared.numbers.Blk.{Blk}
use Rattle.gcd_plan.specs.declared.numbers.Run.{Run}
use Rattle.gcd_plan.specs.declared.numbers.Run.TheVariants.{Block, Source}
use Rattle.gcd_plan.proofs.Within.{declared_within, has_object}
use Rattle.gcd_event.specs.declared.event.Event.{Event}
use Rattle.gcd_event.specs.declared.event.Event.TheVariants.{Start, Act as Acted, Wake, End, Deliver, DeliverEnd, Tick, Ready, FeedEnd, Misuse, Halt, Expire, Accept, Shut}
use Rattle.gcd_history.specs.Runs.{act_at, is_ended}
use Rattle.gcd_history.specs.Submitted.{submitted, submission_of}
use Rattle.gcd_history.specs.Permitted.{why, is_feed}
use Rattle.gcd_history.proofs.Lists.{found_is}
use Rattle.gcd_history.proofs.Counts.{counted_found}
use Rattle.gcd_history.proofs.Permitted.Reasons.{allowed, at_act, at_end}
use Rattle.gcd_history.proofs.Blocks.StartedOnce.{open_from_has_run, open_not_ended, started_from_open, submitted_from_started}
use Rattle.gcd_history.proofs.Blocks.SubmittedOnce.{handler_act}
use Rattle.gcd_history.proofs.Blocks.SubmittedOnNodes.{act_fits}
use Rattle.gcd_refinement.specs.MachineView.{MachineView}
use Rattle.gcd_refinement.specs.Stands.{IsTied}
use Rattle.gcd_refinement.specs.After.{after}
use Rattle.gcd_machine.specs.Steps.{stepped}
use Rattle.gcd_machine.proofs.Steps.Plain.{start_stepped, wake_stepped, deliver_stepped, deliver_end_stepped, tick_stepped, ready_stepped, misuse_stepped, halt_stepped, expire_stepped, accept_stepped, shut_stepped, feed_end_stepped}
use Rattle.gcd_machine.proofs.Steps.Ends.{end_stepped}
use Rattle.gcd_machine.proofs.Steps.Acts.{HasPlaces, block_stepped, handler_stepped}

module _ (past : List Event) (m : MachineView) (t : IsTied m.plan past m) where
  -- the block of an open run has not ended, so some are left
  pub open_left : (b : Blk) → is_some (submission_of m.plan past b.0) ≡ true → is_ended past b.0 ≡ false → 0 < m.left
  open_left b some goes =
      elim (submission_of m.plan past b.0) as (λ o. submission_of m.plan past b.0 ≡ o → is_some o ≡ true → 0 < m.left) [
        | None ↦ λ at h. cc
        | Some s ↦ λ at h.
            let same = eqb-true s.blk.0 b.0 (found_is (λ x. x.blk.0 == b.0) (submitted m.plan past) s at) in
            let left = ap not (subst (λ n. is_ended past n ≡ false) (sym same) goes) in
            let one = counted_found (λ x. x.blk.0 == b.0) (λ x. not (is_ended past x.blk.0)) (submitted m.plan past) s at left in
            let is = t.totals.left in
            omega (arith, one, is)
      ] refl some

  pub left_at_end : (w : ℕ) (b : Blk) → why m.plan past (End w b) ≡ None → 0 < m.left
  left_at_end w b may =
      let live = open_from_has_run m.plan past w (Block b) (at_end m.plan past w b may).own in
      open_left b (submitted_from_started m.plan past t.lawful b.0 (started_from_open past b live)) (open_not_ended m.plan past t.lawful b live)

  -- an act of the plan names what the arrays have
  places_of : (act : Act) → is_act m.plan act ≡ true → HasPlaces m act
  places_of act fits =
      let due = t.parts.due in
      let lists = t.parts.notify in
      let blocks = t.own.blocks in
      let nodes = t.parts.lists in
      record {
        leave = λ g is. let low = has_object is_group_kind m.plan g.0 (subst (λ a. is_act m.plan a ≡ true) is fits) in omega (arith, low, due);
        notify = λ g q c is.
            let parts = and_parts (has_kind is_group_kind m.plan g.0) _ (subst (λ a. is_act m.plan a ≡ true) is fits) in
            let low = has_object is_group_kind m.plan g.0 parts.0 in
            let blk = declared_within m.plan c (and_parts (is_queue m.plan q.0) _ parts.1).1 in
            (omega (arith, low, lists), omega (arith, low, due), omega (arith, blk, blocks));
        apply = λ q a is.
            let parts = and_parts (is_queue m.plan q.0) _ (subst (λ a. is_act m.plan a ≡ true) is fits) in
            let low = has_object is_queue_kind m.plan q.0 parts.0 in
            omega (arith, low, nodes);
        notify_block = λ c q d is.
            let parts = and_parts (is_declared m.plan c) _ (subst (λ a. is_act m.plan a ≡ true) is fits) in
            let low = declared_within m.plan d (and_parts (is_queue m.plan q.0) _ parts.1).1 in
            omega (arith, low, blocks);
        kept = t.parts.ended_blocks;
        listed = t.parts.ended_blocks ∙ sym t.parts.told;
      }

  act_stepped : (w : ℕ) (run : Run) (i : ℕ) (act : Act) → act_at m.plan run i ≡ Some act → stepped m (Acted w run i) ≡ after m.plan m (Acted w run i)
  act_stepped w (Block b) i act at = block_stepped m.plan past m w b i act t.groups t.block_marks (places_of act (act_fits m.plan (Block b) i act t.valid at)) at
  act_stepped w (Source s) i act at =
      let fits = handler_act m.plan s i act t.valid at in
      handler_stepped m.plan past m w s i act t.groups t.block_marks (places_of act fits.1) fits.0 at

  pub stepped_here : (e : Event) → why m.plan past e ≡ None → stepped m e ≡ after m.plan m e
  stepped_here (Start w b) may = start_stepped m w b
  stepped_here (Acted w run i) may =
      elim (act_at m.plan run i) as (λ o. act_at m.plan run i ≡ o → is_some o ≡ true → stepped m (Acted w run i) ≡ after m.plan m (Acted w run i)) [
        | None ↦ λ at h. cc
        | Some act ↦ λ at h. act_stepped w run i act at
      ] refl (at_act m.plan past w run i may).there
  stepped_here (Wake w b) may = wake_stepped m w b
  stepped_here (End w b) may =
      let due = t.parts.due in
      let long = t.parts.ended_blocks ∙ sym t.parts.told in
      end_stepped m.plan past m w b t.groups t.block_marks long (λ g is. let low = t.own.groups b.0 g is in omega (arith, low, due)) (left_at_end w b may)
  stepped_here (Deliver w s) may = deliver_stepped m w s
  stepped_here (DeliverEnd w s) may = deliver_end_stepped m w s
  stepped_here (Tick u) may = tick_stepped m u
  stepped_here (Ready s n) may =
      let known = (allowed m.plan past (Ready s n) may).known in
      let some = ltb-true 0 n (and_parts (ltb 0 n) _ (and_parts (is_feed m.plan s.0) _ known).1).0 in
      ready_stepped m s n (ne_eqb n 0 (λ none. omega (arith, some, none)))
  stepped_here (FeedEnd s) may = feed_end_stepped m s
  stepped_here (Misuse w c run i) may = misuse_stepped m w run i c
  stepped_here Halt may = halt_stepped m
  stepped_here (Expire b) may = expire_stepped m b
  stepped_here (Accept b s) may = accept_stepped m b s
  stepped_here Shut may = shut_stepped m

-- whatever the plan is called
pub stepped_is : (plan : PlanView) (past : List Event) (m : MachineView) (e : Event) → IsTied plan past m → why plan past e ≡ None → stepped m e ≡ after plan m e
stepped_is plan past m e t may =
    subst (λ p. IsTied p past m → why p past e ≡ None → stepped m e ≡ after p m e) t.same_plan (λ tied may. stepped_here past m tied e may) t may
