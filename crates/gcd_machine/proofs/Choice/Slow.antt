-- What a quick step leaves to be chosen.
use Rattle.std.proofs.Common.{◌≡◌, ℕ, zero, suc, ◌+◌, ◌-◌, ◌==◌, nat_lt, min, Bool, true, false, not, ◌&&◌, cond, List, length, reverse, Option, Some, None, is_some, inl, inr, refl, ap, sym, ◌∙◌, arith}
use Rattle.std.specs.List.{slice_get}
use Rattle.std.specs.Option.{IfSome, option_and_then, option_map, option_map_or, option_or}
use Rattle.std.proofs.lemmas.Bool.{cases_lt, lt-ltb, ne_eqb}
use Rattle.std.proofs.lemmas.Option.{same_Some}
use Rattle.gcd_plan.specs.PlanView.{PlanView}
use Rattle.gcd_plan.specs.declared.act.Act.{Act}
use Rattle.gcd_plan.specs.declared.act.Act.TheVariants.{Async}
use Rattle.gcd_plan.specs.declared.numbers.Blk.{Blk}
use Rattle.gcd_plan.specs.declared.numbers.Obj.{Obj}
use Rattle.gcd_plan.specs.declared.numbers.Run.{Run}
use Rattle.gcd_plan.specs.declared.numbers.Run.TheVariants.{Block, Source}
use Rattle.gcd_plan.specs.Chains.{is_in}
use Rattle.gcd_plan.specs.Kinds.{is_source}
use Rattle.gcd_event.specs.Owners.{begun}
use Rattle.gcd_event.specs.declared.event.Event.{Event}
use Rattle.gcd_event.specs.declared.event.Event.TheVariants.{Start, Act as Acted, Wake, Deliver, Misuse}
use Rattle.gcd_drain.specs.Rule.{is_fenced_at}
use Rattle.gcd_drain.specs.Shut.{is_shut_by}
use Rattle.gcd_history.specs.Choice.{end_of, wake_event}
use Rattle.gcd_history.specs.History.{open_beneath_of}
use Rattle.gcd_history.specs.Runs.{act_at, open_runs}
use Rattle.gcd_history.specs.Tree.{chain_of_run}
use Rattle.gcd_tree.specs.TreeView.{open_beneath_at}
use Rattle.gcd_lists.specs.ListsView.{list_at}
use Rattle.gcd_refinement.specs.MachineView.{MachineView, block_at, busy_at}
use Rattle.gcd_machine.specs.Chosen.{act_event_at, deliver_at, idle_choice_at, main_at, next_set, node_at, nodes_at, own_event_at, start_at, wake_at}
use Rattle.gcd_machine.specs.Judged.{done_at, is_pending_at, misuse_by, next_act_at}
use Rattle.gcd_machine.specs.Quick.{async_of, is_quick, is_quick_at}
use Rattle.gcd_machine.specs.Stands.{StandsFor}
use Rattle.gcd_machine.proofs.Views.Calls.{tied_by}
use Rattle.gcd_machine.proofs.Views.StartRule.{above_zero, beneath_is}

-- ## Of a worker without a run

-- it begins a run of worker w, or goes on with one
abbrev pub begins : ℕ → Event → Type 0
begins w (Start v b) = v ≡ w
begins w (Wake v b) = v ≡ w
begins w (Deliver v s) = v ≡ w
begins w e = ⊥

abbrev pub Begins : ℕ → Option Event → Type 0
Begins w o = IfSome o (begins w)

either : (w : ℕ) (a b : Option Event) → Begins w a → Begins w b → Begins w (option_or a b)
either w None b first second = second
either w (Some e) b first second = first

wake_begins : (m : MachineView) (w : ℕ) → Begins w (wake_at m w)
wake_begins m w = elim (next_set m.wakeable 0) as (λ o. Begins w (option_map (wake_event w) o)) [ None ↦ tt | Some b ↦ refl ]

main_begins : (m : MachineView) (w : ℕ) → Begins w (main_at m w)
main_begins m w = elim (block_at m 0).started as (λ v. Begins w (cond v None (Some (Start w (record { 0 = 0 }))))) [ true ↦ tt | false ↦ refl ]

start_begins : (m : MachineView) (w n : ℕ) (o : Option (Blk × Bool)) → Begins w (option_map_or (start_at m w n) o None)
start_begins m w n None = tt
start_begins m w n (Some b) = elim (is_fenced_at m.drains m.tree b.1 n) as (λ v. Begins w (cond v None (Some (Start w b.0)))) [ true ↦ tt | false ↦ refl ]

deliver_begins : (m : MachineView) (w n : ℕ) → Begins w (deliver_at m w n)
deliver_begins m w n =
    elim (is_source m.plan n && is_pending_at m n) as (λ v. Begins w (cond v (Some (Deliver w (record { 0 = n }))) None)) [ true ↦ refl | false ↦ tt ]

node_begins : (m : MachineView) (w n : ℕ) → Begins w (node_at m w n)
node_begins m w n =
    let start = option_map_or (start_at m w n) (slice_get (list_at m.lists n) 0) None in
    elim (is_shut_by m.drains m.tree m.holds n) as (λ v. Begins w (cond v None (option_or start (deliver_at m w n)))) [
      | true ↦ tt
      | false ↦ either w start (deliver_at m w n) (start_begins m w n (slice_get (list_at m.lists n) 0)) (deliver_begins m w n)
    ]

nodes_begin : (m : MachineView) (w n count : ℕ) → Begins w (nodes_at m w n count)
nodes_begin m w n zero = tt
nodes_begin m w n (suc count) =
    either w (cond (busy_at m n) (node_at m w n) None) (nodes_at m w (n + 1) count)
    (elim (busy_at m n) as (λ v. Begins w (cond v (node_at m w n) None)) [ true ↦ node_begins m w n | false ↦ tt ])
    (nodes_begin m w (n + 1) count)

pub idle_begins : (m : MachineView) (w : ℕ) → Begins w (idle_choice_at m w 0)
idle_begins m w =
    let first = min 0 (length m.plan.objects) in
    let before = nodes_at m w first (length m.plan.objects - first) in
    let after = nodes_at m w 0 first in
    either w (wake_at m w) (option_or (main_at m w) (option_or before after)) (wake_begins m w)
    (either w (main_at m w) (option_or before after) (main_begins m w)
    (either w before after (nodes_begin m w first (length m.plan.objects - first)) (nodes_begin m w 0 first)))

-- where a run is open
pub slow_beside : (m : MachineView) (w : ℕ) (e : Event) → begins w e → nat_lt 0 (open_beneath_at m.tree 0) ≡ true → is_quick_at m e ≡ false
slow_beside m w (Start v b) begin some = ap not some
slow_beside m w (Wake v b) begin some = refl
slow_beside m w (Deliver v s) begin some = refl
slow_beside m w e begin some = absurd begin

-- one that begins the run of a block, and one that begins none
pub start_of : (w : ℕ) (e : Event) (b : Blk) → begins w e → begun e ≡ Some (Block b) → e ≡ Start w b
start_of w (Start v c) b begin is =
    let run : Some (Block c) ≡ Some (Block b) = is in
    let same : c ≡ b = cc in
    ap (λ u. Start u c) begin ∙ ap (Start w) same
start_of w (Wake v c) b begin is = cc
start_of w (Deliver v s) b begin is = cc
start_of w e b begin is = absurd begin

pub slow_begun : (m : MachineView) (w : ℕ) (e : Event) → begins w e → ((b : Blk) → begun e ≡ Some (Block b) → ⊥) → is_quick_at m e ≡ false
slow_begun m w (Start v b) begin other = absurd (other b refl)
slow_begun m w (Wake v b) begin other = refl
slow_begun m w (Deliver v s) begin other = refl
slow_begun m w e begin other = absurd begin

-- what is slow of the event that is chosen
pub chosen_slow : (m : MachineView) (o : Option Event) (e : Event) → o ≡ Some e → is_quick_at m e ≡ false → (x : Event) → o ≡ Some x → is_quick_at m x ≡ false
chosen_slow m o e is slow x also = ap (is_quick_at m) (sym (same_Some e x (sym is ∙ also))) ∙ slow

-- ## Of a worker's own run

-- of a source
pub slow_source : (m : MachineView) (w : ℕ) (s : Obj) → is_quick_at m (own_event_at m w (Source s)) ≡ false
slow_source m w s =
    elim (next_act_at m (Source s)) as (λ o. is_quick_at m (option_map_or (act_event_at m w (Source s)) o (end_of w (Source s))) ≡ false) [
      | None ↦ refl
      | Some act ↦ elim (misuse_by m act) as (λ c. is_quick_at m (option_map_or (λ x. Misuse w x (Source s) (done_at m (Source s))) c (Acted w (Source s) (done_at m (Source s)))) ≡ false) [
        | None ↦ refl
        | Some code ↦ refl
      ]
    ]

-- an act that is an async
pub async_is : (act : Act) (queue : Obj) (b : Blk) → async_of act ≡ Some (queue, b) → act ≡ Async queue b
async_is (Async q c) queue b is = let same = same_Some (q, c) (queue, b) is in ap (λ p. Async p.0 p.1) same
async_is act queue b is = cc

-- of a block whose next act is a misuse, and is no async
pub slow_misuse : (m : MachineView) (w : ℕ) (run : Run) (act : Act) (code : ℕ) → next_act_at m run ≡ Some act → misuse_by m act ≡ Some code
    → is_quick_at m (own_event_at m w run) ≡ false
slow_misuse m w run act code next misuse =
    ap (λ o. is_quick_at m (option_map_or (act_event_at m w run) o (end_of w run))) next
    ∙ ap (λ c. is_quick_at m (option_map_or (λ x. Misuse w x run (done_at m run)) c (Acted w run (done_at m run)))) misuse

pub slow_act : (m : MachineView) (w : ℕ) (b : Blk) (act : Act) → next_act_at m (Block b) ≡ Some act → act_at m.plan (Block b) (done_at m (Block b)) ≡ Some act
    → async_of act ≡ None → is_quick_at m (own_event_at m w (Block b)) ≡ false
slow_act m w b act next at other =
    ap (λ o. is_quick_at m (option_map_or (act_event_at m w (Block b)) o (end_of w (Block b)))) next
    ∙ elim (misuse_by m act) as (λ c. is_quick_at m (option_map_or (λ x. Misuse w x (Block b) (done_at m (Block b))) c (Acted w (Block b) (done_at m (Block b)))) ≡ false) [
      | None ↦ ap (λ o. is_some (option_and_then async_of o)) at ∙ ap is_some other
      | Some code ↦ refl
    ]

-- ## For each history

-- the test asks whether the count is 0
none_open : (n : ℕ) → not (nat_lt 0 n) ≡ (n == 0)
none_open n =
    elim (cases_lt 0 n) [
      | inl some ↦ ap not (lt-ltb 0 n some) ∙ sym (ne_eqb n 0 (λ none. omega (arith, some, none)))
      | inr none ↦ let zero_is : n ≡ 0 = omega (arith, none) in ap (λ k. not (nat_lt 0 k)) zero_is ∙ sym (ap (λ k. k == 0) zero_is)
    ]

pub quick_same : (m : MachineView) (plan : PlanView) (h : List Event) → StandsFor m plan h → (e : Event) → is_quick_at m e ≡ is_quick plan h e
unfolding open_beneath_of
quick_same m plan h stands (Start w b) =
    let tied = tied_by m plan h stands in
    ap not (beneath_is plan (reverse h) m 0 tied.valid tied.lawful tied.parts tied.tree ∙ sym (above_zero (λ run. is_in 0 (chain_of_run plan (reverse h) run)) (open_runs (reverse h))))
    ∙ none_open (open_beneath_of plan h 0)
quick_same m plan h stands (Acted w (Block b) i) = ap (λ p. is_some (option_and_then async_of (act_at p (Block b) i))) (tied_by m plan h stands).same_plan
quick_same m plan h stands e = cc
