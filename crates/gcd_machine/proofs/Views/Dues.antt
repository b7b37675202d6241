-- What is due by what a machine keeps is due by each history that it stands for.
use Rattle.std.proofs.Common.{◌≡◌, ℕ, ◌==◌, nat_lt, Bool, true, false, not, ◌&&◌, cond, List, reverse, Option, Some, None, IfSome, option_and_then, ap, sym, ◌∙◌, subst, eq-eqb}
use Rattle.std.specs.Option.{option_map_or}
use Rattle.std.proofs.lemmas.Option.{same_Some}
use Rattle.gcd_plan.specs.PlanView.{PlanView}
use Rattle.gcd_event.specs.declared.event.Event.{Event}
use Rattle.gcd_history.specs.Due.{limit, is_limit_of}
use Rattle.gcd_history.specs.History.{next_due_of}
use Rattle.gcd_history.specs.Parked.{may_wake}
use Rattle.gcd_history.specs.Timers.{now}
use Rattle.gcd_refinement.specs.MachineView.{MachineView, next_due_in}
use Rattle.gcd_refinement.specs.Sleepers.{if_ahead, limit_ahead}
use Rattle.gcd_refinement.proofs.Step.Sources.{due_is}
use Rattle.gcd_machine.specs.Dues.{IsDueIn, is_due_by}
use Rattle.gcd_machine.specs.Stands.{StandsFor}
use Rattle.gcd_machine.specs.declared.due_by.DueBy.{DueBy}
use Rattle.gcd_machine.specs.declared.due_by.DueBy.TheVariants.{Timer, Wait}
use Rattle.gcd_machine.proofs.Views.Calls.{tied_by, next_due_stands}

-- a limit that is ahead is the limit of a wait that is not over
ahead_is_limit : (plan : PlanView) (past : List Event) (b x : ℕ) → limit_ahead plan past b ≡ Some x → is_limit_of plan past x b ≡ true
ahead_is_limit plan past b x ahead = by (may_wake plan past b) (limit plan past b) ahead
  where
    same : (n : ℕ) (u : Bool) → cond u (Some n) None ≡ Some x → ((n == x) && true) ≡ true
    same n true k = ap (λ u. u && true) (eq-eqb n x (same_Some n x k))
    same n false k = cc

    by : (m : Bool) (o : Option ℕ) → cond m None (option_and_then (if_ahead (now past)) o) ≡ Some x → (option_map_or (λ end. end == x) o false && not m) ≡ true
    by true o k = cc
    by false None k = cc
    by false (Some n) k = same n (nat_lt (now past) n) k

due_stands : (m : MachineView) (plan : PlanView) (h : List Event) (t : ℕ) (d : DueBy) → StandsFor m plan h → IsDueIn m t d → is_due_by plan h t d ≡ true
due_stands m plan h t (Timer s) stands due =
    let tied = tied_by m plan h stands in
    sym (due_is plan (reverse h) m.timers s.0 t (record { kinds = tied.parts.timer_kinds; until = tied.parts.until }) (tied.timers.activated s.0) (tied.timers.cancelled s.0)) ∙ due
due_stands m plan h t (Wait b) stands due =
    ahead_is_limit plan (reverse h) b.0 t (sym ((tied_by m plan h stands).limits.ahead b.0) ∙ due)

pub dues_stand : (m inside : MachineView) (plan : PlanView) (h : List Event) (t : ℕ) (o : Option DueBy) → inside ≡ m → StandsFor m plan h → next_due_of plan h ≡ Some t
    → ((t : ℕ) → next_due_in inside ≡ Some t → IfSome o (IsDueIn inside t)) → IfSome o (λ d. is_due_by plan h t d ≡ true)
dues_stand m inside plan h t None same stands next due = tt
dues_stand m inside plan h t (Some d) same stands next due =
    due_stands m plan h t d stands
    (subst (λ (v : MachineView). IsDueIn v t d) same (due t (ap (λ (v : MachineView). next_due_in v) same ∙ (next_due_stands m plan h stands ∙ next))))
