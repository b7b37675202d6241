-- What the steps of activation, cancellation and merging ask.
use Rattle.std.proofs.Common.{◌≡◌, ⊎_elim, ℕ, ◌+◌, ◌^◌, ◌<◌, ◌≤◌, ◌==◌, false, not, ◌&&◌, cond, List, [], ◌∷◌, length, Some, None, ap, sym, ◌∙◌, arith, ne_eqb}
use Rattle.std.specs.List.{count_by, slice_get, slice_index_or}
use Rattle.std.specs.Option.{option_map_or}
use Rattle.std.proofs.lemmas.Bool.{cases_lt}
use Rattle.std.proofs.lemmas.List.{length-map}
use Rattle.gcd_plan.specs.PlanView.{PlanView}
use Rattle.gcd_plan.specs.Kinds.{is_source, is_source_kind}
use Rattle.gcd_plan.specs.KindValues.{folded}
use Rattle.gcd_plan.specs.Validity.{IsPlan}
use Rattle.gcd_plan.specs.declared.act.Act.TheVariants.{Resume}
use Rattle.gcd_plan.specs.declared.numbers.Obj.{Obj}
use Rattle.gcd_plan.proofs.Folded.{folded_low}
use Rattle.gcd_event.specs.declared.event.Event.{Event}
use Rattle.gcd_history.specs.Runs.{act_of}
use Rattle.gcd_history.specs.Submitted.{new_submissions, submitted, cancels}
use Rattle.gcd_history.specs.Holds.{hold}
use Rattle.gcd_history.specs.Timers.{now}
use Rattle.gcd_history.specs.Misuses.{is_over_resumed}
use Rattle.gcd_history.specs.Permitted.{IsLawful}
use Rattle.gcd_plan.proofs.Sums.{count_by-append}
use Rattle.gcd_history.proofs.Blocks.SubmittedOnce.{is_of, submitted_within}
use Rattle.gcd_hold.specs.HoldsView.{is_active_at, is_source_at, is_over_resumed_at}
use Rattle.gcd_source.specs.SourcesView.{is_cancelled_at, merged_at, pending_at}
use Rattle.gcd_refinement.specs.MachineView.{MachineView}
use Rattle.gcd_refinement.specs.Stands.{IsTied}
use Rattle.gcd_refinement.proofs.LawfulActs.{proper, proper_parts}
use Rattle.gcd_machine.specs.Conditions.{CanMakeActive, CanActivate, CanResume, CanSuspend, CanMakeCancelled, CanCancel, CanMerge}
use Rattle.gcd_machine.proofs.Views.Kinds.{kind_told}
use Rattle.gcd_machine.proofs.Conditions.NewBlocks.{by_cancel, unsubmitted, nowhere}
use Rattle.gcd_machine.proofs.Conditions.Groups.{can_submit}
use Rattle.gcd_history.proofs.Tree.TargetActs.{code_none}
use Rattle.gcd_plan.specs.Limits.{max_value}
use Rattle.gcd_refinement.proofs.Limits.DueTimes.{inactive_never, uncancelled_never}
use Rattle.gcd_refinement.proofs.Bounds.Sums.{some_blocks}

-- ## Over histories

-- what an event submits is a block of the plan
pub new_of_plan : (plan : PlanView) (past : List Event) (e : Event) (b : ℕ) → IsPlan plan → IsLawful plan (e ∷ past) → 1 ≤ count_by (is_of b) (new_submissions plan past e) → b < length plan.blocks
new_of_plan plan past e b valid lawful new =
    ⊎_elim
    (λ (low : b < length plan.blocks). low)
    (λ (high : length plan.blocks ≤ b).
    let some = some_blocks plan valid in
    let within = submitted_within plan (e ∷ past) valid lawful b high in
    let split = count_by-append (is_of b) (submitted plan past) (new_submissions plan past e) in
    let other = ap (λ v. cond {A = ℕ} v 1 0) (ne_eqb 0 b (λ same. omega (arith, same, some, high))) in
    absurd (omega (arith, new, within, split, other)))
    (cases_lt b (length plan.blocks))

-- ## In the machine

module _ (past : List Event) (m : MachineView) (t : IsTied m.plan past m) (room : length past + 1 < 2 ^ 32) where
  kinds_long : length m.sources.kinds ≡ length m.plan.objects
  kinds_long = ap length t.parts.source_kinds ∙ length-map m.plan.objects (λ o. o.kind)

  timers_long : length m.timers.kinds ≡ length m.plan.objects
  timers_long = ap length t.parts.timer_kinds ∙ length-map m.plan.objects (λ o. o.kind)

  pub can_make_active : (o : Obj) → o.0 < length m.plan.objects → is_active_at m.holds o.0 ≡ false → CanMakeActive m o
  can_make_active o low inactive =
      let sources = kinds_long in
      let timers = timers_long in
      let live = t.own.live in
      record {
        timer = omega (arith, low, timers);
        never = t.timers.activated o.0 ∙ inactive_never m.plan past o.0 (sym (t.holds.active o.0) ∙ inactive);
        known = low;
        source = omega (arith, low, sources);
        live = omega (arith, low, live);
      }

  pub can_activate : (o : Obj) → o.0 < length m.plan.objects → CanActivate m o
  can_activate o low = let holds = t.parts.holds in record { object = omega (arith, low, holds); inactive = can_make_active o low }

  source_told : (o : ℕ) → is_source_at m.holds o ≡ is_source m.plan o
  source_told o = ap (λ xs. slice_index_or xs o false) t.parts.sources ∙ kind_told is_source_kind m.plan o

  over_resumed_told : (o : ℕ) → is_over_resumed_at m.holds o ≡ is_over_resumed m.plan past o
  over_resumed_told o =
      ap (λ h. h == 0 && not (is_source_at m.holds o && not (is_active_at m.holds o))) (t.holds.holds o)
      ∙ (ap (λ s. hold m.plan past o == 0 && not (s && not (is_active_at m.holds o))) (source_told o)
      ∙ ap (λ a. hold m.plan past o == 0 && not (is_source m.plan o && not a)) (t.holds.active o))

  pub can_resume : (e : Event) (o : Obj) → IsLawful m.plan (e ∷ past) → act_of m.plan e ≡ Some (Resume o) → o.0 < length m.plan.objects → CanResume m o
  can_resume e o lawful at low =
      let holds = t.parts.holds in
      let none = (proper_parts m.plan past (Resume o) (proper m.plan past e (Resume o) lawful at)).1 in
      record {
        object = omega (arith, low, holds);
        no_misuse = over_resumed_told o.0 ∙ (code_none 1 (is_over_resumed m.plan past o.0) [] none).0;
        inactive = λ zero inactive. can_make_active o low inactive;
      }

  pub can_suspend : (o : Obj) → o.0 < length m.plan.objects → CanSuspend m o
  can_suspend o low = let holds = t.parts.holds in let few = t.small.holds o.0 in record { object = omega (arith, low, holds); room = omega (arith, few, room) }

  pub can_make_cancelled : (s : Obj) → s.0 < length m.plan.objects → is_cancelled_at m.sources s.0 ≡ false → CanMakeCancelled m s
  can_make_cancelled s low on =
      let sources = kinds_long in
      let timers = timers_long in
      let live = t.own.live in
      record {
        source = omega (arith, low, sources);
        timer = omega (arith, low, timers);
        never = t.timers.cancelled s.0 ∙ uncancelled_never m.plan past s.0 (sym (t.sources.cancelled s.0) ∙ on);
        known = low;
        live = omega (arith, low, live);
      }

  pub can_cancel : (e : Event) (s : Obj) → IsLawful m.plan (e ∷ past) → cancels m.plan e ≡ Some s → s.0 < length m.plan.objects → CanCancel m s
  can_cancel e s lawful now low =
      let sources = kinds_long in
      record {
        source = omega (arith, low, sources);
        first = can_make_cancelled s low;
        submits = λ on b block.
            let new = by_cancel m.plan past e s b now (sym (t.sources.cancelled s.0) ∙ on) block in
            can_submit past m t room s b low (new_of_plan m.plan past e b.0 t.valid lawful new) (nowhere past m t b.0 (unsubmitted m.plan past e b.0 t.valid lawful new));
      }

  merged_low : (s n : ℕ) → merged_at m.sources s n ≤ pending_at m.sources s + n
  merged_low s n =
      elim (slice_get m.sources.kinds s) as (λ o. option_map_or (λ kind. folded kind (pending_at m.sources s) n) o 0 ≤ pending_at m.sources s + n) [
        | None ↦ omega arith
        | Some kind ↦ folded_low kind (pending_at m.sources s) n
      ]

  pub can_merge : (s : Obj) (n : ℕ) → s.0 < length m.plan.objects → n ≤ max_value → CanMerge m s n
  can_merge s n low small =
      let sources = kinds_long in
      let busy = t.own.busy in
      let few = t.small.pending s.0 in
      let merged = merged_low s.0 n in
      record { source = omega (arith, low, sources); room = omega (arith, few, merged, small, room); marked = omega (arith, low, busy) }
