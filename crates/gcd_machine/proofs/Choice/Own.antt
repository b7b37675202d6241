-- A worker with a run has one event that is permitted, the run's next, and records that.
use Rattle.std.proofs.Common.{◌≡◌, ℕ, ◌==◌, true, false, not, cond, List, [], ◌∷◌, Some, None, is_some, refl, ap, sym, ◌∙◌, subst}
use Rattle.std.specs.Option.{option_map_or, option_and_then}
use Rattle.std.proofs.lemmas.Bool.{both_ways, and_parts, not-false}
use Rattle.gcd_plan.specs.PlanView.{PlanView}
use Rattle.gcd_plan.specs.declared.act.Act.{Act}
use Rattle.gcd_plan.specs.declared.numbers.Run.{Run}
use Rattle.gcd_plan.specs.declared.numbers.Run.TheVariants.{Block, Source}
use Rattle.gcd_event.specs.declared.event.Event.{Event}
use Rattle.gcd_event.specs.declared.event.Event.TheVariants.{Start, Act as Acted, Wake, End, Deliver, DeliverEnd, Tick, Ready, FeedEnd, Misuse, Halt, Expire, Accept, Shut}
use Rattle.gcd_plan.specs.declared.why.Why.TheVariants.{NotOwn, NotNext, NotMisuse}
use Rattle.gcd_history.specs.Runs.{act_at, acts_done}
use Rattle.gcd_history.specs.Cancelled.{act_due, is_cancelled_run}
use Rattle.gcd_history.specs.Parked.{parked_by, has_run, is_busy}
use Rattle.gcd_history.specs.Permitted.{why, is_halted, is_next, misuse_at}
use Rattle.gcd_history.specs.Choice.{end_of, choice, is_work, worker_of}
use Rattle.gcd_plan.proofs.Options.{some_from_is_some, none_from_is_some, none_from_is_none}
use Rattle.gcd_history.proofs.Permitted.Reasons.{first_none, allowed, due_parts, at_start, at_act, at_wake, at_end, at_deliver, at_deliver_end, at_misuse}
use Rattle.gcd_history.proofs.Runs.Open.{same_run-true, same_run-refl}
use Rattle.gcd_history.proofs.Runs.OneRun.{run_facts}
use Rattle.gcd_history.proofs.Permitted.Choices.{chosen_where_permitted, chosen_is}
use Rattle.gcd_history.proofs.Permitted.Quiet.{own_event}
use Rattle.gcd_history.proofs.HeldRuns.Taking.{one_worker}
use Rattle.gcd_refinement.specs.MachineView.{MachineView, at_worker}
use Rattle.gcd_refinement.specs.Stands.{IsTied}
use Rattle.gcd_refinement.specs.Ties.{is_run, WorkersAre}
use Rattle.gcd_machine.specs.Judged.{done_at, is_cancelled_run_at, next_act_at, misuse_by, misuse_of_run}
use Rattle.gcd_machine.specs.Chosen.{act_event_at, own_event_at}
use Rattle.gcd_machine.proofs.Views.Workers.{busy_is, done_is, left_is}
use Rattle.gcd_machine.proofs.Reasons.Misuses.{misuse_at_is}

-- ## The worker's run

-- a run of the worker's is the one that it has
only_run : (plan : PlanView) (past : List Event) (m : MachineView) (w : ℕ) (r own : Run) → WorkersAre plan past m → at_worker m w ≡ Some own → has_run plan past w r ≡ true → r ≡ own
only_run plan past m w r own workers at has = sym (same_run-true own r (sym (workers.runs w r ∙ ap (is_run r) at) ∙ has))

it_has : (plan : PlanView) (past : List Event) (m : MachineView) (w : ℕ) (own : Run) → WorkersAre plan past m → at_worker m w ≡ Some own → has_run plan past w own ≡ true
it_has plan past m w own workers at = workers.runs w own ∙ (ap (is_run own) at ∙ same_run-refl own)

not_idle : (plan : PlanView) (past : List Event) (m : MachineView) (w : ℕ) (own : Run) → WorkersAre plan past m → at_worker m w ≡ Some own → is_busy plan past w ≡ true
not_idle plan past m w own workers at = sym (busy_is plan past m w workers) ∙ ap is_some at

-- ## Its next event

-- by the act that is next
with_act : (m : MachineView) (w : ℕ) (r : Run) (act : Act) → next_act_at m r ≡ Some act → own_event_at m w r ≡ act_event_at m w r act
with_act m w r act next = ap (λ o. option_map_or (act_event_at m w r) o (end_of w r)) next

misuse_now : (m : MachineView) (r : Run) (i : ℕ) (act : Act) → act_at m.plan r i ≡ Some act → misuse_of_run m r i ≡ misuse_by m act
misuse_now m r i act at = ap (option_and_then (misuse_by m)) at

-- the act of a run that is no cancelled block's is due
due_now : (m : MachineView) (r : Run) (i : ℕ) → i ≡ done_at m r → is_cancelled_run_at m r ≡ false → next_act_at m r ≡ act_at m.plan r i
due_now m r i next active = ap (λ t. cond t None (act_at m.plan r (done_at m r))) active ∙ ap (act_at m.plan r) (sym next)

-- a run is a cancelled block's, as what a machine keeps tells it
cancelled_is : (m : MachineView) (past : List Event) (r : Run) → IsTied m.plan past m → is_cancelled_run_at m r ≡ is_cancelled_run m.plan past r
cancelled_is m past (Block b) tied = tied.block_marks.cancelled b.0
cancelled_is m past (Source s) tied = refl

-- an act that is next, and no misuse
next_is_act : (m : MachineView) (w : ℕ) (r : Run) (i : ℕ) → i ≡ done_at m r → is_cancelled_run_at m r ≡ false → is_some (act_at m.plan r i) ≡ true → misuse_of_run m r i ≡ None → Acted w r i ≡ own_event_at m w r
next_is_act m w r i next active there proper =
    let act = some_from_is_some (act_at m.plan r i) there in
    let follows : next_act_at m r ≡ Some act.0 = due_now m r i next active ∙ act.1 in
    let fine : misuse_by m act.0 ≡ None = sym (misuse_now m r i act.0 act.1) ∙ proper in
    ap (Acted w r) next
    ∙ sym (with_act m w r act.0 follows ∙ ap (λ o. option_map_or (λ c. Misuse w c r (done_at m r)) o (Acted w r (done_at m r))) fine)

-- one that is next, and a misuse
next_is_misuse : (m : MachineView) (w : ℕ) (r : Run) (i c : ℕ) → i ≡ done_at m r → is_cancelled_run_at m r ≡ false → misuse_of_run m r i ≡ Some c → Misuse w c r i ≡ own_event_at m w r
next_is_misuse m w r i c next active code =
    elim (act_at m.plan r i) as (λ o. act_at m.plan r i ≡ o → Misuse w c r i ≡ own_event_at m w r) [
      | None ↦ λ none. let no_code : misuse_of_run m r i ≡ None = ap (option_and_then (misuse_by m)) none in cc
      | Some act ↦ λ at.
          let follows : next_act_at m r ≡ Some act = due_now m r i next active ∙ at in
          let wrong : misuse_by m act ≡ Some c = sym (misuse_now m r i act at) ∙ code in
          ap (λ n. Misuse w c r n) next
          ∙ sym (with_act m w r act follows ∙ ap (λ o. option_map_or (λ c. Misuse w c r (done_at m r)) o (Acted w r (done_at m r))) wrong)
    ] refl

-- none is left
next_is_end : (m : MachineView) (w : ℕ) (r : Run) → is_some (next_act_at m r) ≡ false → end_of w r ≡ own_event_at m w r
next_is_end m w r made = sym (ap (λ o. option_map_or (act_event_at m w r) o (end_of w r)) (none_from_is_some (next_act_at m r) made))

-- ## It is the only one

-- a misuse is none of a cancelled block's
misuse_active : (plan : PlanView) (past : List Event) (w : ℕ) (r : Run) (i c : ℕ) → why plan past (Misuse w c r i) ≡ None → is_cancelled_run plan past r ≡ false
unfolding is_next
misuse_active plan past w r i c may =
    let other = not (option_map_or (λ code. code == c) (misuse_at plan past r i) false) in
    let rest = (NotNext, not (is_next plan past r i)) ∷ (NotMisuse, other) ∷ [] in
    let own = first_none NotOwn (not (has_run plan past w r)) rest (allowed plan past (Misuse w c r i) may).kind in
    let following = first_none NotNext (not (is_next plan past r i)) ((NotMisuse, other) ∷ []) own.1 in
    let parts = and_parts (i == acts_done past r) (is_some (act_due plan past r i)) (not-false (is_next plan past r i) following.0) in
    (due_parts (is_cancelled_run plan past r) (act_at plan r i) parts.1).0

-- the event of a run is told by its worker and run
of_own : (m : MachineView) (v w : ℕ) (r own : Run) (e : Event) → v ≡ w → r ≡ own → e ≡ own_event_at m v r → e ≡ own_event_at m w own
of_own m v w r own e same_worker same_run is = is ∙ (ap (λ k. own_event_at m k r) same_worker ∙ ap (own_event_at m w) same_run)

own_only : (m : MachineView) (past : List Event) (w : ℕ) (own : Run) (e : Event) → IsTied m.plan past m → at_worker m w ≡ Some own
    → why m.plan past e ≡ None → is_work e ≡ true → worker_of e ≡ w → e ≡ own_event_at m w own
own_only m past w own (Start v b) tied at may work by =
    absurd (both_ways (is_busy m.plan past w) (subst (λ k. is_busy m.plan past k ≡ false) by (at_start m.plan past v b may).idle) (not_idle m.plan past m w own tied.workers at))
own_only m past w own (Wake v b) tied at may work by =
    absurd (both_ways (is_busy m.plan past w) (subst (λ k. is_busy m.plan past k ≡ false) by (at_wake m.plan past v b may).idle) (not_idle m.plan past m w own tied.workers at))
own_only m past w own (Deliver v s) tied at may work by =
    absurd (both_ways (is_busy m.plan past w) (subst (λ k. is_busy m.plan past k ≡ false) by (at_deliver m.plan past v s may).idle) (not_idle m.plan past m w own tied.workers at))
own_only m past w own (Acted v r i) tied at may work by =
    let facts = at_act m.plan past v r i may in
    let same = only_run m.plan past m w r own tied.workers at (subst (λ k. has_run m.plan past k r ≡ true) by facts.own) in
    let next : i ≡ done_at m r = facts.next ∙ sym (done_is m.plan past m r tied.blocks tied.handlers) in
    let proper : misuse_of_run m r i ≡ None = misuse_at_is m past r i tied ∙ none_from_is_some (misuse_at m.plan past r i) facts.proper in
    of_own m v w r own (Acted v r i) by same (next_is_act m v r i next (cancelled_is m past r tied ∙ facts.active) facts.there proper)
own_only m past w own (Misuse v c r i) tied at may work by =
    let facts = at_misuse m.plan past v r i c may in
    let same = only_run m.plan past m w r own tied.workers at (subst (λ k. has_run m.plan past k r ≡ true) by facts.own) in
    let next : i ≡ done_at m r = facts.next ∙ sym (done_is m.plan past m r tied.blocks tied.handlers) in
    let active = cancelled_is m past r tied ∙ misuse_active m.plan past v r i c may in
    of_own m v w r own (Misuse v c r i) by same (next_is_misuse m v r i c next active (misuse_at_is m past r i tied ∙ facts.code))
own_only m past w own (End v b) tied at may work by =
    let facts = at_end m.plan past v b may in
    let same = only_run m.plan past m w (Block b) own tied.workers at (subst (λ k. has_run m.plan past k (Block b) ≡ true) by facts.own) in
    of_own m v w (Block b) own (End v b) by same (next_is_end m v (Block b) (left_is m past (Block b) tied ∙ facts.made))
own_only m past w own (DeliverEnd v s) tied at may work by =
    let facts = at_deliver_end m.plan past v s may in
    let same = only_run m.plan past m w (Source s) own tied.workers at (subst (λ k. has_run m.plan past k (Source s) ≡ true) by facts.own) in
    of_own m v w (Source s) own (DeliverEnd v s) by same (next_is_end m v (Source s) (left_is m past (Source s) tied ∙ facts.made))
own_only m past w own (Tick t) tied at may work by = absurd (both_ways false refl work)
own_only m past w own (Ready s n) tied at may work by = absurd (both_ways false refl work)
own_only m past w own (FeedEnd s) tied at may work by = absurd (both_ways false refl work)
own_only m past w own Halt tied at may work by = absurd (both_ways false refl work)
own_only m past w own (Expire b) tied at may work by = absurd (both_ways false refl work)
own_only m past w own (Accept b s) tied at may work by = absurd (both_ways false refl work)
own_only m past w own Shut tied at may work by = absurd (both_ways false refl work)

-- and one is permitted, so it is chosen
pub own_choice_is : (m : MachineView) (past : List Event) (w from : ℕ) (own : Run) → IsTied m.plan past m → is_halted past ≡ false → at_worker m w ≡ Some own
    → choice m.plan past w from ≡ Some (own_event_at m w own)
own_choice_is m past w from own tied going at =
    let has = it_has m.plan past m w own tied.workers at in
    let facts = run_facts m.plan past w own has in
    let one = own_event m.plan past tied.valid tied.lawful going own facts.live (none_from_is_none (parked_by m.plan past own) facts.unparked) in
    let by = one_worker m.plan past (worker_of one.event) w own one.by has in
    let some : is_some (choice m.plan past w from) ≡ true =
    subst (λ k. is_some (choice m.plan past k from) ≡ true) by (chosen_where_permitted m.plan past from one.event tied.valid one.work one.permitted_now) in
    let e = some_from_is_some (choice m.plan past w from) some in
    let chosen = chosen_is m.plan past w from e.0 e.1 in
    e.1 ∙ ap Some (own_only m past w own e.0 tied at chosen.permitted_now chosen.work chosen.by)
