-- Activation and cancellation, as what they change of each part.
use Rattle.std.proofs.Common.{◌≡◌, ◌+◌, ◌-◌, ◌==◌, true, false, List, [], length, Some, None, refl, ap, sym, ◌∙◌}
use Rattle.std.specs.List.{fold, slice_set}
use Rattle.std.specs.Option.{option_map_or}
use Rattle.std.proofs.Math.Nat.{add-zero, sub-zero}
use Rattle.std.proofs.Math.Bool.{or-false, or-true}
use Rattle.std.proofs.lemmas.List.{append-nil, set-get_or}
use Rattle.gcd_plan.specs.PlanView.{cancel_block}
use Rattle.gcd_plan.specs.declared.act.Act.TheVariants.{Resume}
use Rattle.gcd_plan.specs.declared.numbers.Obj.{Obj}
use Rattle.gcd_history.specs.declared.submission.Submission.{Submission}
use Rattle.gcd_history.specs.Submitted.{on_node}
use Rattle.gcd_hold.specs.HoldsView.{hold_at, is_active_at, with_active}
use Rattle.gcd_source.specs.SourcesView.{SourcesView, is_cancelled_at}
use Rattle.gcd_refinement.specs.MachineView.{MachineView}
use Rattle.gcd_refinement.specs.Submits.{at_cancel, if_inactive, activated_by, newly_cancelled}
use Rattle.gcd_refinement.specs.After.{pushed, noted, marked, source_cancelled, timer_cancelled, holds_by, activated as timer_activated}
use Rattle.gcd_refinement.specs.AfterTotals.{live_begun, live_ended}
use Rattle.gcd_machine.specs.Steps.{activated, resumed, cancelled, cancel_submitted}

-- what does not compute at a variable
pub ruleset units = (add-zero, sub-zero, or-false, or-true, append-nil)

-- the machine after all these submissions
abbrev pub all_submitted : MachineView → List Submission → MachineView
all_submitted m subs = record m {
  lists = fold pushed m.lists subs;
  blocks = fold noted m.blocks subs;
  busy = fold marked m.busy subs;
  left = m.left + length subs;
}

-- one event more has come
abbrev pub counted : MachineView → MachineView → MachineView
counted m x = record x { len = m.len + 1 }

-- ## Activation

pub activated_is : (m : MachineView) (o : Obj)
    → activated m o ≡ record m {
      holds = with_active m.holds o.0;
      timers = timer_activated m.timers (if_inactive m o);
      live = live_begun m.plan m (if_inactive m o);
    }
activated_is m o =
    elim (is_active_at m.holds o.0) as (λ a. is_active_at m.holds o.0 ≡ a → activated m o ≡ record m { holds = with_active m.holds o.0; timers = timer_activated m.timers (if_inactive m o); live = live_begun m.plan m (if_inactive m o) }) [
      | true ↦ λ e. rw e
      | false ↦ λ e. rw e
    ] refl

-- a resume
abbrev pub with_resumed : MachineView → Obj → MachineView
with_resumed m o = record m {
  holds = holds_by m.holds (Some (Resume o));
  timers = timer_activated m.timers (activated_by m (Some (Resume o)));
  live = live_begun m.plan m (activated_by m (Some (Resume o)));
}

pub resumed_is : (m : MachineView) (o : Obj) → resumed m o ≡ with_resumed m o
resumed_is m o =
    elim (hold_at m.holds o.0 == 0) as (λ t. (hold_at m.holds o.0 == 0) ≡ t → resumed m o ≡ with_resumed m o) [
      | true ↦ λ e. rw e (activated_is m o)
      | false ↦ λ e. rw e
    ] refl

-- ## Cancellation

-- what is cancelled already stays as it is
pub still_cancelled : (sources : SourcesView) (s : Obj) → is_cancelled_at sources s.0 ≡ true → slice_set sources.cancelled s.0 true ≡ sources.cancelled
still_cancelled sources s e = ap (slice_set sources.cancelled s.0) (sym e) ∙ set-get_or sources.cancelled s.0 false

-- what a first cancellation changes beside what it submits
abbrev pub with_cancelled : MachineView → Obj → MachineView
with_cancelled m s = record m {
  sources = source_cancelled m.sources (Some s);
  timers = timer_cancelled m.timers (newly_cancelled m (Some s));
  live = live_ended m.live (newly_cancelled m (Some s));
}

cancel_submitted_is : (m : MachineView) (s : Obj) → cancel_submitted m s ≡ all_submitted m (option_map_or (λ b. on_node s b false) (cancel_block m.plan s.0) [])
cancel_submitted_is m s =
    elim (cancel_block m.plan s.0) as (λ o. cancel_block m.plan s.0 ≡ o → cancel_submitted m s ≡ all_submitted m (option_map_or (λ b. on_node s b false) (cancel_block m.plan s.0) [])) [
      | None ↦ λ e. rw e (simp units)
      | Some b ↦ λ e. rw e
    ] refl

pub cancelled_is : (m : MachineView) (s : Obj) → cancelled m s ≡ all_submitted (with_cancelled m s) (at_cancel m.plan m (Some s))
cancelled_is m s =
    elim (is_cancelled_at m.sources s.0) as (λ a. is_cancelled_at m.sources s.0 ≡ a → cancelled m s ≡ all_submitted (with_cancelled m s) (at_cancel m.plan m (Some s))) [
      | true ↦ λ e. rw (e, still_cancelled m.sources s e) (simp units)
      | false ↦ λ e. rw (e, cancel_submitted_is)
    ] refl
