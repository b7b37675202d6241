-- What a machine says that a worker may begin on a node is the definition's answer.
use Rattle.std.proofs.Common.{◌≡◌, ℕ, Bool, true, false, not, ◌&&◌, ◌||◌, cond, List, [], ◌∷◌, reverse, Option, Some, None, is_some, is_none, find, option_map, refl, ap, sym, ◌∙◌}
use Rattle.std.specs.Option.{option_map_or, option_or}
use Rattle.gcd_plan.specs.PlanView.{PlanView}
use Rattle.gcd_plan.specs.Kinds.{is_source}
use Rattle.gcd_plan.specs.declared.numbers.Blk.{Blk}
use Rattle.gcd_plan.specs.declared.numbers.Obj.{Obj}
use Rattle.gcd_plan.specs.declared.numbers.Run.{Run}
use Rattle.gcd_plan.specs.declared.why.Why.{Why}
use Rattle.gcd_plan.specs.declared.why.Why.TheVariants.{Over, NoSuch, Busy}
use Rattle.gcd_event.specs.declared.event.Event.{Event}
use Rattle.gcd_event.specs.declared.event.Event.TheVariants.{Start, Deliver}
use Rattle.gcd_history.specs.Permitted.{first_waiting, has_block, is_worker, permitted}
use Rattle.gcd_history.specs.History.{first_waiting_of, why}
use Rattle.gcd_refinement.specs.MachineView.{MachineView, at_worker}
use Rattle.gcd_refinement.specs.Stands.{IsTied}
use Rattle.gcd_machine.specs.Begins.{begin_of, start_of, deliver_of}
use Rattle.gcd_machine.specs.Chosen.{begin_by, node_at}
use Rattle.gcd_machine.specs.Judged.{block_fault_at, is_busy_at, source_fault_at}
use Rattle.gcd_machine.specs.Stands.{StandsFor}
use Rattle.gcd_machine.proofs.Choice.IdlePermitted.{IsIdle}
use Rattle.gcd_machine.proofs.Reasons.First.{of_plan, why_is}
use Rattle.gcd_machine.proofs.Choice.AtNodes.{begins_are, delivers_on, starts_on}
use Rattle.gcd_machine.proofs.Views.Calls.{tied_by}
use Rattle.gcd_machine.proofs.Views.Workers.{over_is}

-- ## Where nothing begins

-- the run is over, or it is no worker, or one that has a run
abbrev is_barred : MachineView → ℕ → Bool
is_barred m w = cond ((m.misused || m.halted) || not (is_worker w)) true (is_busy_at m w)

refused : (over worker busy known : Bool) (fault : Option Why) → cond (over || not worker) true busy ≡ true
    → is_none (cond over (Some Over) (cond (worker && known) (cond busy (Some Busy) fault) (Some NoSuch))) ≡ false
refused true worker busy known fault barred = refl
refused false false busy known fault barred = refl
refused false true true true fault barred = refl
refused false true true false fault barred = refl
refused false true false known fault barred = cc

barred_start : (m : MachineView) (past : List Event) (w : ℕ) (b : Blk) → IsTied m.plan past m → is_barred m w ≡ true → permitted m.plan past (Start w b) ≡ false
barred_start m past w b tied barred =
    ap is_none (sym (why_is m.plan past m (Start w b) tied))
    ∙ refused (m.misused || m.halted) (is_worker w) (is_busy_at m w) (has_block m.plan b.0) (block_fault_at m b.0) barred

barred_deliver : (m : MachineView) (past : List Event) (w : ℕ) (s : Obj) → IsTied m.plan past m → is_barred m w ≡ true → permitted m.plan past (Deliver w s) ≡ false
barred_deliver m past w s tied barred =
    ap is_none (sym (why_is m.plan past m (Deliver w s) tied))
    ∙ refused (m.misused || m.halted) (is_worker w) (is_busy_at m w) (is_source m.plan s.0) (source_fault_at m s.0) barred

no_starts : (m : MachineView) (past : List Event) (w n : ℕ) → IsTied m.plan past m → is_barred m w ≡ true → find (permitted m.plan past) (starts_on m.plan past w n) ≡ None
no_starts m past w n tied barred =
    elim (first_waiting m.plan past n) as (λ o. find (permitted m.plan past) (option_map_or (λ s. Start w s.blk ∷ []) o []) ≡ None) [
      | None ↦ refl
      | Some s ↦ ap (λ v. cond v (Some (Start w s.blk)) None) (barred_start m past w s.blk tied barred)
    ]

no_delivers : (m : MachineView) (past : List Event) (w n : ℕ) → IsTied m.plan past m → is_barred m w ≡ true → find (permitted m.plan past) (delivers_on m.plan w n) ≡ None
no_delivers m past w n tied barred =
    elim (is_source m.plan n) as (λ v. find (permitted m.plan past) (cond v (Deliver w (record { 0 = n }) ∷ []) []) ≡ None) [
      | true ↦ ap (λ v. cond v (Some (Deliver w (record { 0 = n }))) None) (barred_deliver m past w (record { 0 = n }) tied barred)
      | false ↦ refl
    ]

-- the one or the other that is permitted
abbrev begun_by : PlanView → List Event → ℕ → ℕ → Option Event
begun_by plan past w n = option_or (find (permitted plan past) (starts_on plan past w n)) (find (permitted plan past) (delivers_on plan w n))

none_begun : (m : MachineView) (past : List Event) (w n : ℕ) → IsTied m.plan past m → is_barred m w ≡ true → begun_by m.plan past w n ≡ None
none_begun m past w n tied barred =
    ap (λ o. option_or o (find (permitted m.plan past) (delivers_on m.plan w n))) (no_starts m past w n tied barred) ∙ no_delivers m past w n tied barred

-- ## Where the worker has no run

no_run : (own : Option Run) → is_some own ≡ false → own ≡ None
no_run None free = refl
no_run (Some run) free = cc

goes_on : (over worker : Bool) → (over || not worker) ≡ false → (over ≡ false) × (worker ≡ true)
goes_on false true open_run = (refl, refl)
goes_on true worker open_run = cc
goes_on false false open_run = cc

is_idle : (m : MachineView) (past : List Event) (w : ℕ) → IsTied m.plan past m → ((m.misused || m.halted) || not (is_worker w)) ≡ false → is_busy_at m w ≡ false → IsIdle m past w
is_idle m past w tied going free =
    let parts = goes_on (m.misused || m.halted) (is_worker w) going in
    record { going = sym (over_is m.plan past m tied.totals) ∙ parts.0; worker = parts.1; free = no_run (at_worker m w) free }

begun_is : (m : MachineView) (past : List Event) (w n : ℕ) → IsTied m.plan past m → begun_by m.plan past w n ≡ begin_by m w n
begun_is m past w n tied =
    let over = (m.misused || m.halted) || not (is_worker w) in
    elim over as (λ v. over ≡ v → begun_by m.plan past w n ≡ cond v None (cond (is_busy_at m w) None (node_at m w n))) [
      | true ↦ λ barred. none_begun m past w n tied (ap (λ v. cond v true (is_busy_at m w)) barred)
      | false ↦ λ going. elim (is_busy_at m w) as (λ v. is_busy_at m w ≡ v → begun_by m.plan past w n ≡ cond v None (node_at m w n)) [
        | true ↦ λ busy. none_begun m past w n tied (ap (λ v. cond v true (is_busy_at m w)) going ∙ busy)
        | false ↦ λ free. begins_are m past w n tied (is_idle m past w tied going free)
      ] refl
    ] refl

-- ## The whole

starts_told : (plan : PlanView) (h : List Event) (w n : ℕ) → find (permitted plan (reverse h)) (starts_on plan (reverse h) w n) ≡ start_of plan h w n
unfolding why first_waiting_of
starts_told plan h w n =
    let may = permitted plan (reverse h) in
    elim (first_waiting plan (reverse h) n) as (λ o. find may (option_map_or (λ s. Start w s.blk ∷ []) o []) ≡ option_map_or (λ b. cond (may (Start w b)) (Some (Start w b)) None) (option_map (λ s. s.blk) o) None) [
      | None ↦ refl
      | Some s ↦ refl
    ]

delivers_told : (plan : PlanView) (h : List Event) (w n : ℕ) → find (permitted plan (reverse h)) (delivers_on plan w n) ≡ deliver_of plan h w n
unfolding why
delivers_told plan h w n =
    let may = permitted plan (reverse h) in
    let e : Event = Deliver w (record { 0 = n }) in
    elim (is_source plan n) as (λ v. find may (cond v (e ∷ []) []) ≡ cond v (cond (may e) (Some e) None) None) [
      | true ↦ refl
      | false ↦ refl
    ]

pub begin_stands : (m : MachineView) (plan : PlanView) (h : List Event) (w n : ℕ) → StandsFor m plan h → begin_by m w n ≡ begin_of plan h w n
begin_stands m plan h w n stands =
    let tied = tied_by m plan h stands in
    sym (begun_is m (reverse h) w n (of_plan plan (reverse h) m tied))
    ∙ (ap (λ p. begun_by p (reverse h) w n) tied.same_plan
    ∙ (ap (λ o. option_or o (find (permitted plan (reverse h)) (delivers_on plan w n))) (starts_told plan h w n)
    ∙ ap (option_or (start_of plan h w n)) (delivers_told plan h w n)))
