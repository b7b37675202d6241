-- What a worker records next, as what a machine keeps tells it, is the definition's choice.
use Rattle.std.proofs.Common.{◌≡◌, ℕ, zero, suc, ◌+◌, ◌-◌, ◌==◌, min, Bool, true, false, not, ◌&&◌, ◌||◌, cond, List, Option, Some, None, option_map, length, refl, ap, sym, ◌∙◌, subst}
use Rattle.std.specs.List.{slice_get}
use Rattle.std.specs.Option.{option_map_or, option_or, IfSome}
use Rattle.std.proofs.lemmas.Bool.{and_parts, both_ways, eq-eqb, eqb-true}
use Rattle.gcd_plan.specs.PlanView.{PlanView}
use Rattle.gcd_plan.specs.Kinds.{is_source}
use Rattle.gcd_plan.specs.declared.act.Act.{Act}
use Rattle.gcd_plan.specs.declared.numbers.Run.{Run}
use Rattle.gcd_plan.specs.declared.numbers.Run.TheVariants.{Block, Source}
use Rattle.gcd_event.specs.declared.event.Event.{Event}
use Rattle.gcd_event.specs.declared.event.Event.TheVariants.{Start, Act as Acted, Wake, End, Deliver, DeliverEnd, Misuse}
use Rattle.gcd_history.specs.Permitted.{is_halted, is_known, is_worker}
use Rattle.gcd_history.specs.Choice.{end_of, wake_event, choice, is_work, worker_of}
use Rattle.gcd_history.proofs.Permitted.Reasons.{allowed}
use Rattle.gcd_history.proofs.Permitted.Choices.{is_by, chosen_is}
use Rattle.gcd_lists.specs.ListsView.{list_at}
use Rattle.gcd_drain.specs.Rule.{is_fenced_at}
use Rattle.gcd_drain.specs.Shut.{is_shut_by}
use Rattle.gcd_refinement.specs.MachineView.{MachineView, block_at, at_worker, busy_at}
use Rattle.gcd_refinement.specs.Stands.{IsTied}
use Rattle.gcd_machine.specs.Judged.{done_at, next_act_at, misuse_by, is_pending_at}
use Rattle.gcd_machine.specs.Chosen.{next_set, act_event_at, own_event_at, wake_at, main_at, start_at, deliver_at, node_at, nodes_at, all_nodes_at, idle_choice_at, choice_by}
use Rattle.gcd_machine.proofs.Choice.Idle.{idle_choice_is}
use Rattle.gcd_machine.proofs.Reasons.First.{of_plan}
use Rattle.gcd_machine.proofs.Choice.Own.{own_choice_is}
use Rattle.gcd_machine.proofs.Views.Workers.{over_is}

-- ## Where there is none

-- after the end of the run
over_chooses : (plan : PlanView) (past : List Event) (w from : ℕ) → is_halted past ≡ true → choice plan past w from ≡ None
over_chooses plan past w from over =
    elim (choice plan past w from) as (λ o. choice plan past w from ≡ o → o ≡ None) [
      | None ↦ λ none. refl
      | Some e ↦ λ some.
          absurd (both_ways (is_halted past) (allowed plan past e (chosen_is plan past w from e some).permitted_now).goes_on over)
    ] refl

-- what the plan knows of a worker has a worker's number
known_worker : (plan : PlanView) (e : Event) → is_known plan e ≡ true → is_work e ≡ true → is_worker (worker_of e) ≡ true
known_worker plan (Start w b) known work = (and_parts (is_worker w) _ known).0
known_worker plan (Acted w run i) known work = (and_parts (is_worker w) _ known).0
known_worker plan (Wake w b) known work = (and_parts (is_worker w) _ known).0
known_worker plan (End w b) known work = (and_parts (is_worker w) _ known).0
known_worker plan (Deliver w s) known work = (and_parts (is_worker w) _ known).0
known_worker plan (DeliverEnd w s) known work = (and_parts (is_worker w) _ known).0
known_worker plan (Misuse w c run i) known work = (and_parts (is_worker w) _ known).0
known_worker plan e known work = absurd (both_ways false refl work)

-- a number past the last worker's
no_worker_chooses : (plan : PlanView) (past : List Event) (w from : ℕ) → is_worker w ≡ false → choice plan past w from ≡ None
no_worker_chooses plan past w from other =
    elim (choice plan past w from) as (λ o. choice plan past w from ≡ o → o ≡ None) [
      | None ↦ λ none. refl
      | Some e ↦ λ some.
          let chosen = chosen_is plan past w from e some in
          absurd (both_ways (is_worker w) other
          (subst (λ k. is_worker k ≡ true) chosen.by (known_worker plan e (allowed plan past e chosen.permitted_now).known chosen.work)))
    ] refl

-- ## The whole

going_choice_is : (m : MachineView) (past : List Event) (w from : ℕ) → IsTied m.plan past m → is_halted past ≡ false → is_worker w ≡ true
    → choice m.plan past w from ≡ option_map_or (λ run. Some (own_event_at m w run)) (at_worker m w) (idle_choice_at m w from)
going_choice_is m past w from tied going worker =
    elim (at_worker m w) as (λ o. at_worker m w ≡ o → choice m.plan past w from ≡ option_map_or (λ run. Some (own_event_at m w run)) o (idle_choice_at m w from)) [
      | None ↦ λ free. idle_choice_is m past w from tied (record { going = going; worker = worker; free = free })
      | Some own ↦ λ at. own_choice_is m past w from own tied going at
    ] refl

by_tests : (over worker : Bool) (c known : Option Event) → (over ≡ true → known ≡ None) → (worker ≡ false → known ≡ None) → (over ≡ false → worker ≡ true → known ≡ c)
    → cond (over || not worker) None c ≡ known
by_tests true worker c known a b d = sym (a refl)
by_tests false false c known a b d = sym (b refl)
by_tests false true c known a b d = sym (d refl refl)

own_plan_choice_is : (m : MachineView) (past : List Event) (w from : ℕ) → IsTied m.plan past m → choice_by m w from ≡ choice m.plan past w from
own_plan_choice_is m past w from tied =
    let over = over_is m.plan past m tied.totals in
    by_tests (m.misused || m.halted) (is_worker w) (option_map_or (λ run. Some (own_event_at m w run)) (at_worker m w) (idle_choice_at m w from)) (choice m.plan past w from)
    (λ ended. over_chooses m.plan past w from (sym over ∙ ended))
    (no_worker_chooses m.plan past w from)
    (λ going worker. going_choice_is m past w from tied (sym over ∙ going) worker)

-- what a worker records next, as what a machine keeps tells it
pub choice_is : (plan : PlanView) (past : List Event) (m : MachineView) (w from : ℕ) → IsTied plan past m → choice_by m w from ≡ choice plan past w from
choice_is plan past m w from tied =
    own_plan_choice_is m past w from (of_plan plan past m tied) ∙ ap (λ p. choice p past w from) tied.same_plan

-- ## It is the worker's, of whatever state

-- an event of worker w, where there is one
abbrev IsOf : ℕ → Option Event → Type 0
IsOf w o = IfSome o (λ e. is_by w e ≡ true)

either_of : (w : ℕ) (a b : Option Event) → IsOf w a → IsOf w b → IsOf w (option_or a b)
either_of w None b of_a of_b = of_b
either_of w (Some x) b of_a of_b = of_a

if_of : (w : ℕ) (t : Bool) (a b : Option Event) → IsOf w a → IsOf w b → IsOf w (cond t a b)
if_of w true a b of_a of_b = of_a
if_of w false a b of_a of_b = of_b

by_itself : (w : ℕ) → (true && w == w) ≡ true
by_itself w = eq-eqb w w refl

end_of_own : (w : ℕ) (run : Run) → is_by w (end_of w run) ≡ true
end_of_own w (Block b) = by_itself w
end_of_own w (Source s) = by_itself w

act_of_own : (m : MachineView) (w : ℕ) (run : Run) (act : Act) → is_by w (act_event_at m w run act) ≡ true
act_of_own m w run act =
    elim (misuse_by m act) as (λ o. is_by w (option_map_or (λ c. Misuse w c run (done_at m run)) o (Acted w run (done_at m run))) ≡ true) [
      | None ↦ by_itself w
      | Some code ↦ by_itself w
    ]

event_of_own : (m : MachineView) (w : ℕ) (run : Run) → is_by w (own_event_at m w run) ≡ true
event_of_own m w run =
    elim (next_act_at m run) as (λ o. is_by w (option_map_or (act_event_at m w run) o (end_of w run)) ≡ true) [
      | None ↦ end_of_own w run
      | Some act ↦ act_of_own m w run act
    ]

wake_of : (m : MachineView) (w : ℕ) → IsOf w (wake_at m w)
wake_of m w = elim (next_set m.wakeable 0) as (λ o. IsOf w (option_map (wake_event w) o)) [ None ↦ tt | Some b ↦ by_itself w ]

main_of : (m : MachineView) (w : ℕ) → IsOf w (main_at m w)
main_of m w = if_of w (block_at m 0).started None (Some (Start w (record { 0 = 0 }))) tt (by_itself w)

node_of : (m : MachineView) (w n : ℕ) → IsOf w (node_at m w n)
node_of m w n =
    let starts = option_map_or (start_at m w n) (slice_get (list_at m.lists n) 0) None in
    if_of w (is_shut_by m.drains m.tree m.holds n) None (option_or starts (deliver_at m w n)) tt
    (either_of w starts (deliver_at m w n)
    (elim (slice_get (list_at m.lists n) 0) as (λ o. IsOf w (option_map_or (start_at m w n) o None)) [
      | None ↦ tt
      | Some x ↦ if_of w (is_fenced_at m.drains m.tree x.1 n) None (Some (Start w x.0)) tt (by_itself w)
    ])
    (if_of w (is_source m.plan n && is_pending_at m n) (Some (Deliver w (record { 0 = n }))) None (by_itself w) tt))

nodes_of : (m : MachineView) (w n count : ℕ) → IsOf w (nodes_at m w n count)
nodes_of m w n zero = tt
nodes_of m w n (suc count) =
    either_of w (cond (busy_at m n) (node_at m w n) None) (nodes_at m w (n + 1) count)
    (if_of w (busy_at m n) (node_at m w n) None (node_of m w n) tt) (nodes_of m w (n + 1) count)

all_nodes_of : (m : MachineView) (w first : ℕ) → IsOf w (all_nodes_at m w first)
all_nodes_of m w first =
    either_of w (nodes_at m w first (length m.plan.objects - first)) (nodes_at m w 0 first)
    (nodes_of m w first (length m.plan.objects - first)) (nodes_of m w 0 first)

idle_of : (m : MachineView) (w from : ℕ) → IsOf w (idle_choice_at m w from)
idle_of m w from =
    let nodes = all_nodes_at m w (min from (length m.plan.objects)) in
    either_of w (wake_at m w) (option_or (main_at m w) nodes) (wake_of m w)
    (either_of w (main_at m w) nodes (main_of m w) (all_nodes_of m w (min from (length m.plan.objects))))

choice_of : (m : MachineView) (w from : ℕ) → IsOf w (choice_by m w from)
choice_of m w from =
    if_of w ((m.misused || m.halted) || not (is_worker w)) None (option_map_or (λ run. Some (own_event_at m w run)) (at_worker m w) (idle_choice_at m w from)) tt
    (elim (at_worker m w) as (λ o. IsOf w (option_map_or (λ run. Some (own_event_at m w run)) o (idle_choice_at m w from))) [
      | None ↦ idle_of m w from
      | Some run ↦ event_of_own m w run
    ])

-- so its worker is told, and it is none of the outside's
of_parts : (w : ℕ) (o : Option Event) → IsOf w o → (IfSome o (λ e. worker_of e ≡ w)) × (IfSome o (λ e. is_work e ≡ true))
of_parts w None of = (tt, tt)
of_parts w (Some e) of = let parts = and_parts (is_work e) (worker_of e == w) of in (eqb-true (worker_of e) w parts.1, parts.0)

pub choice_own : (m : MachineView) (w from : ℕ) → IfSome (choice_by m w from) (λ e. worker_of e ≡ w)
choice_own m w from = (of_parts w (choice_by m w from) (choice_of m w from)).0

pub choice_work : (m : MachineView) (w from : ℕ) → IfSome (choice_by m w from) (λ e. is_work e ≡ true)
choice_work m w from = (of_parts w (choice_by m w from) (choice_of m w from)).1
