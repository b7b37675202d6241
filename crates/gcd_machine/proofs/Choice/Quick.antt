-- Quick steps.
use Rattle.std.proofs.Common.{◌≡◌, ℕ, true, false, not, ◌||◌, cond, Option, Some, None, refl, ap, ◌∙◌}
use Rattle.std.specs.Option.{option_map_or}
use Rattle.gcd_plan.specs.declared.act.Act.{Act}
use Rattle.gcd_plan.specs.declared.numbers.Blk.{Blk}
use Rattle.gcd_plan.specs.declared.numbers.Run.{Run}
use Rattle.gcd_plan.specs.declared.numbers.Run.TheVariants.{Block}
use Rattle.gcd_event.specs.declared.event.Event.{Event}
use Rattle.gcd_event.specs.declared.event.Event.TheVariants.{Start, Act as Acted, Misuse}
use Rattle.gcd_blockobj.specs.MarksView.{with_begun}
use Rattle.gcd_history.specs.Choice.{end_of}
use Rattle.gcd_history.specs.Permitted.{is_worker}
use Rattle.gcd_refinement.specs.MachineView.{MachineView, at_worker, block_at}
use Rattle.gcd_refinement.specs.After.{with_block}
use Rattle.gcd_machine.specs.Calm.{is_calm_at}
use Rattle.gcd_machine.specs.Chosen.{act_event_at, choice_by, idle_choice_at, own_event_at}
use Rattle.gcd_machine.specs.Judged.{done_at, misuse_by, next_act_at}
use Rattle.gcd_machine.specs.Steps.{run_begun, stepped, taken_up}

-- ## What is chosen

-- of a run that goes on
pub choice_going : (m : MachineView) (w : ℕ) → (m.misused || m.halted) ≡ false → is_worker w ≡ true
    → choice_by m w 0 ≡ option_map_or (λ run. Some (own_event_at m w run)) (at_worker m w) (idle_choice_at m w 0)
choice_going m w going worker =
    let chosen : Option Event = option_map_or (λ run. Some (own_event_at m w run)) (at_worker m w) (idle_choice_at m w 0) in
    ap (λ v. cond (v || not (is_worker w)) None chosen) going ∙ ap (λ v. cond (not v) None chosen) worker

pub choice_own : (m : MachineView) (w : ℕ) (run : Run) → (m.misused || m.halted) ≡ false → is_worker w ≡ true → at_worker m w ≡ Some run
    → choice_by m w 0 ≡ Some (own_event_at m w run)
choice_own m w run going worker own =
    choice_going m w going worker ∙ ap (λ o. option_map_or (λ r. Some (own_event_at m w r)) o (idle_choice_at m w 0)) own

pub choice_idle : (m : MachineView) (w : ℕ) → (m.misused || m.halted) ≡ false → is_worker w ≡ true → at_worker m w ≡ None
    → choice_by m w 0 ≡ idle_choice_at m w 0
choice_idle m w going worker free =
    choice_going m w going worker ∙ ap (λ o. option_map_or (λ r. Some (own_event_at m w r)) o (idle_choice_at m w 0)) free

-- an act that is no misuse
pub act_chosen : (m : MachineView) (w : ℕ) (run : Run) (act : Act) → next_act_at m run ≡ Some act → misuse_by m act ≡ None
    → own_event_at m w run ≡ Acted w run (done_at m run)
act_chosen m w run act next proper =
    ap (λ o. option_map_or (act_event_at m w run) o (end_of w run)) next
    ∙ ap (λ o. option_map_or (λ c. Misuse w c run (done_at m run)) o (Acted w run (done_at m run))) proper

-- ## What can come of the outside

-- as much as before, after the Start of a block
pub calm_at_start : (m : MachineView) (w : ℕ) (b : Blk) → is_calm_at (stepped m (Start w b)) ≡ is_calm_at m
calm_at_start m w b =
    let noted : MachineView = record m { blocks = with_block m.blocks b.0 (λ x. record x { started = true }); marks = with_begun m.marks b.0 } in
    elim (block_at m b.0).node as (λ node. is_calm_at (taken_up (run_begun noted node (block_at m b.0).barrier) w (Block b)) ≡ is_calm_at m) [
      | None ↦ refl
      | Some n ↦ refl
    ]
