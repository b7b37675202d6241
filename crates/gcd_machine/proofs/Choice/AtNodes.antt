-- What a worker without a run finds at the nodes.
use Rattle.std.proofs.Common.{◌≡◌, ⊎_elim, ℕ, zero, suc, ◌+◌, ◌-◌, ◌<◌, ◌≤◌, ◌==◌, min, Bool, true, false, not, ◌&&◌, ◌||◌, cond, List, [], ◌∷◌, ◌++◌, length, Option, Some, None, is_none, find, option_map, refl, ap, sym, ◌∙◌, arith}
use Rattle.std.specs.List.{slice_get, slice_index_or, flat_map, range_with_len, count_by}
use Rattle.std.specs.Option.{option_map_or, option_or, option_and_then}
use Rattle.std.proofs.Math.Nat.{min-eq_left, min-eq_right}
use Rattle.std.proofs.lemmas.Bool.{both_ways, cases_lt, eq-eqb, false_from_ne_true, lt-ltb, ne_eqb, and_parts, not-true}
use Rattle.std.proofs.lemmas.Option.{none-some}
use Rattle.std.proofs.lemmas.List.Folds.{find-append}
use Rattle.gcd_plan.specs.PlanView.{PlanView}
use Rattle.gcd_plan.specs.Kinds.{is_source}
use Rattle.gcd_plan.specs.Validity.{IsPlan}
use Rattle.gcd_plan.specs.declared.numbers.Obj.{Obj}
use Rattle.gcd_plan.specs.declared.why.Why.TheVariants.{Unready}
use Rattle.gcd_plan.proofs.Numbered.{on_node}
use Rattle.gcd_event.specs.declared.event.Event.{Event}
use Rattle.gcd_event.specs.declared.event.Event.TheVariants.{Start, Deliver}
use Rattle.gcd_history.specs.declared.submission.Submission.{Submission}
use Rattle.gcd_history.specs.Runs.{is_started}
use Rattle.gcd_history.specs.Submitted.{submitted, submission_of, main_submission}
use Rattle.gcd_history.specs.Sources.{pending, is_pending}
use Rattle.gcd_history.specs.Permitted.{IsLawful, has_block, waits_on, first_waiting, permitted, why, is_on}
use Rattle.gcd_history.specs.Choice.{node_events}
use Rattle.gcd_history.proofs.Counts.{counted_found, found_alone}
use Rattle.gcd_plan.proofs.Options.{none_from_is_none}
use Rattle.gcd_history.proofs.Permitted.Reasons.{at_deliver}
use Rattle.gcd_history.proofs.Blocks.SubmittedOnce.{submitted_within, submitted_once}
use Rattle.gcd_refinement.specs.MachineView.{MachineView, block_at, busy_at}
use Rattle.gcd_refinement.specs.Stands.{IsTied}
use Rattle.gcd_refinement.specs.Ties.{waiter}
use Rattle.gcd_machine.specs.Judged.{is_pending_at}
use Rattle.gcd_machine.specs.Chosen.{start_at, deliver_at, node_at, nodes_at, all_nodes_at}
use Rattle.gcd_machine.proofs.Reasons.Starts.{first_is, main_submitted}
use Rattle.gcd_plan.specs.StartRule.{first_of}
use Rattle.gcd_history.proofs.Lists.{found_is}
use Rattle.gcd_lists.specs.ListsView.{list_at, place_of}
use Rattle.gcd_drain.specs.Rule.{is_behind_at, is_fenced_at, place_reasons, start_fault_of, run_fault_of}
use Rattle.gcd_drain.specs.Shut.{is_shut_by}
use Rattle.gcd_drain.proofs.Starts.{starts_unless_shut, runs_unless_shut}
use Rattle.gcd_refinement.specs.Bounds.{place_in}
use Rattle.gcd_machine.proofs.Choice.IdlePermitted.{IsIdle, start_is, deliver_is, has_main}

-- ## Nodes

-- what waits on a node is a block of the plan
waiting_known : (plan : PlanView) (past : List Event) (n : ℕ) (s : Submission) → IsPlan plan → IsLawful plan past → first_waiting plan past n ≡ Some s → has_block plan s.blk.0 ≡ true
waiting_known plan past n s valid lawful found =
    let b = s.blk.0 in
    ⊎_elim
    (λ (low : b < length plan.blocks). lt-ltb b (length plan.blocks) low)
    (λ (high : length plan.blocks ≤ b).
    let main = has_main plan valid in
    let none = submitted_within plan past valid lawful b high in
    let zero : cond {A = ℕ} (0 == b) 1 0 ≡ 0 = ap (λ v. cond v 1 0) (ne_eqb 0 b (λ same. omega arith)) in
    let some : 1 ≤ count_by (λ t. t.blk.0 == b) (submitted plan past) = counted_found (waits_on past n) (λ t. t.blk.0 == b) (submitted plan past) s found (eq-eqb b b refl) in
    absurd (omega (arith, none, zero, some, main)))
    (cases_lt b (length plan.blocks))

-- it waits at its place, before all others there
record IsFirst (plan : PlanView) (past : List Event) (m : MachineView) (n : ℕ) (s : Submission) : Type 0 where
  other : s.blk.0 ≡ 0 → ⊥
  place : place_of m.lists s.blk.0 ≡ Some (record { 0 = n }, s.barrier)
  front : is_behind_at m.lists s.blk.0 n ≡ false

is_first : (plan : PlanView) (past : List Event) (m : MachineView) (n : ℕ) (s : Submission) → IsTied plan past m → first_waiting plan past n ≡ Some s → IsFirst plan past m n s
is_first plan past m n s tied found =
    let b = s.blk.0 in
    let waits = and_parts (is_on n s) (not (is_started past b)) (found_is (waits_on past n) (submitted plan past) s found) in
    let node : s.node ≡ Some (record { 0 = n }) = on_node n s.node waits.0 in
    let once = submitted_once plan past tied.valid tied.lawful b in
    let here : submission_of plan past b ≡ Some s = found_alone (waits_on past n) (λ t. t.blk.0 == b) (submitted plan past) s once found (eq-eqb b b refl) in
    let first : slice_get (list_at m.lists n) 0 ≡ Some (waiter s) = first_is plan past m n tied.lists ∙ ap (option_map waiter) found in
    record {
      other = λ (main : b ≡ 0).
          let is_main : Some main_submission ≡ Some s = sym (main_submitted plan past) ∙ (ap (submission_of plan past) (sym main) ∙ here) in
          none-some (record { 0 = n }) (ap (λ o. option_and_then (λ t. t.node) o) is_main ∙ node);
      place = tied.places.waiting b
          ∙ (ap (option_and_then (place_in past)) here
          ∙ (ap (λ u. cond u None (option_map (λ q. (q, s.barrier)) s.node)) (not-true (is_started past b) waits.1)
          ∙ ap (option_map (λ q. (q, s.barrier))) node));
      front = ap (λ o. option_map_or (λ first. not (first.0.0 == b)) o false) first ∙ ap not (eq-eqb b b refl);
    }

-- so it may start exactly where the chain is not shut, and no barrier keeps it
first_starts : (m : MachineView) (past : List Event) (w n : ℕ) (s : Submission) → IsTied m.plan past m → IsIdle m past w → first_waiting m.plan past n ≡ Some s
    → permitted m.plan past (Start w s.blk) ≡ not (is_shut_by m.drains m.tree m.holds n || is_fenced_at m.drains m.tree s.barrier n)
first_starts m past w n s tied idle found =
    let first = is_first m.plan past m n s tied found in
    let b = s.blk.0 in
    start_is m past w s.blk tied idle (waiting_known m.plan past n s tied.valid tied.lawful found)
    ∙ (ap (λ u. is_none (cond u (cond (block_at m b).started (Some Unready) None) (start_fault_of m.drains m.lists m.tree m.holds b))) (ne_eqb b 0 first.other)
    ∙ (ap (λ o. is_none (first_of (place_reasons m.drains m.lists m.tree m.holds b o))) first.place
    ∙ (starts_unless_shut m.drains m.lists m.tree m.holds b (record { 0 = n }, s.barrier)
    ∙ ap (λ u. not (u || (is_shut_by m.drains m.tree m.holds n || is_fenced_at m.drains m.tree s.barrier n))) first.front)))

source_delivers : (m : MachineView) (past : List Event) (w n : ℕ) → IsTied m.plan past m → IsIdle m past w → is_source m.plan n ≡ true
    → permitted m.plan past (Deliver w (record { 0 = n })) ≡ (is_pending_at m n && not (is_shut_by m.drains m.tree m.holds n))
source_delivers m past w n tied idle source =
    deliver_is m past w (record { 0 = n }) tied idle source
    ∙ elim (is_pending_at m n) as (λ v. is_none (cond v (run_fault_of m.drains m.tree m.holds n) (Some Unready)) ≡ (v && not (is_shut_by m.drains m.tree m.holds n))) [
      | true ↦ runs_unless_shut m.drains m.tree m.holds n
      | false ↦ refl
    ]

abbrev pub starts_on : PlanView → List Event → ℕ → ℕ → List Event
starts_on plan past w n = option_map_or (λ s. Start w s.blk ∷ []) (first_waiting plan past n) []

abbrev pub delivers_on : PlanView → ℕ → ℕ → List Event
delivers_on plan w n = cond (is_source plan n) (Deliver w (record { 0 = n }) ∷ []) []

by_two : (shut fenced : Bool) (e : Event) → cond (not (shut || fenced)) (Some e) None ≡ cond shut None (cond fenced None (Some e))
by_two true fenced e = refl
by_two false true e = refl
by_two false false e = refl

by_pending : (pending shut : Bool) (e : Event) → cond (pending && not shut) (Some e) None ≡ cond shut None (cond pending (Some e) None)
by_pending true true e = refl
by_pending true false e = refl
by_pending false true e = refl
by_pending false false e = refl

abbrev nothing : Option Event
nothing = None

nothing_either : (shut : Bool) → nothing ≡ cond shut nothing nothing
nothing_either true = refl
nothing_either false = refl

starts_are : (m : MachineView) (past : List Event) (w n : ℕ) → IsTied m.plan past m → IsIdle m past w
    → find (permitted m.plan past) (starts_on m.plan past w n) ≡ cond (is_shut_by m.drains m.tree m.holds n) None (option_map_or (start_at m w n) (slice_get (list_at m.lists n) 0) None)
starts_are m past w n tied idle =
    let shut = is_shut_by m.drains m.tree m.holds n in
    elim (first_waiting m.plan past n) as (λ o. first_waiting m.plan past n ≡ o
    → find (permitted m.plan past) (option_map_or (λ s. Start w s.blk ∷ []) o []) ≡ cond shut None (option_map_or (start_at m w n) (option_map waiter o) None)) [
      | None ↦ λ none. nothing_either shut
      | Some s ↦ λ found.
          ap (λ v. cond v (Some (Start w s.blk)) None) (first_starts m past w n s tied idle found)
          ∙ by_two shut (is_fenced_at m.drains m.tree s.barrier n) (Start w s.blk)
    ] refl
    ∙ ap (λ o. cond shut None (option_map_or (start_at m w n) o None)) (sym (first_is m.plan past m n tied.lists))

delivers_are : (m : MachineView) (past : List Event) (w n : ℕ) → IsTied m.plan past m → IsIdle m past w
    → find (permitted m.plan past) (delivers_on m.plan w n) ≡ cond (is_shut_by m.drains m.tree m.holds n) None (deliver_at m w n)
delivers_are m past w n tied idle =
    let shut = is_shut_by m.drains m.tree m.holds n in
    elim (is_source m.plan n) as (λ v. is_source m.plan n ≡ v
    → find (permitted m.plan past) (cond v (Deliver w (record { 0 = n }) ∷ []) []) ≡ cond shut None (cond (v && is_pending_at m n) (Some (Deliver w (record { 0 = n }))) None)) [
      | true ↦ λ source.
          ap (λ v. cond v (Some (Deliver w (record { 0 = n }))) None) (source_delivers m past w n tied idle source)
          ∙ by_pending (is_pending_at m n) shut (Deliver w (record { 0 = n }))
      | false ↦ λ other. nothing_either shut
    ] refl

-- an object that is not marked has no event
no_data : (plan : PlanView) (past : List Event) (s : ℕ) → pending plan past s ≡ 0 → is_pending plan past s ≡ false
unfolding is_pending
no_data plan past s none = rw none refl

no_deliver : (plan : PlanView) (past : List Event) (w : ℕ) (s : Obj) → pending plan past s.0 ≡ 0 → permitted plan past (Deliver w s) ≡ false
no_deliver plan past w s none =
    false_from_ne_true (permitted plan past (Deliver w s))
    (λ may. both_ways (is_pending plan past s.0) (no_data plan past s.0 none) (at_deliver plan past w s (none_from_is_none (why plan past (Deliver w s)) may)).ready)

none_on : (plan : PlanView) (past : List Event) (w n : ℕ) → first_waiting plan past n ≡ None → pending plan past n ≡ 0 → find (permitted plan past) (node_events plan past w n) ≡ None
none_on plan past w n free none =
    ap (λ o. find (permitted plan past) (option_map_or (λ s. Start w s.blk ∷ []) o [] ++ delivers_on plan w n)) free
    ∙ elim (is_source plan n) as (λ v. find (permitted plan past) (cond v (Deliver w (record { 0 = n }) ∷ []) []) ≡ None) [
      | true ↦ ap (λ v. cond v (Some (Deliver w (record { 0 = n }))) None) (no_deliver plan past w (record { 0 = n }) none)
      | false ↦ refl
    ]

either_shut : (shut : Bool) (a b : Option Event) → option_or (cond shut None a) (cond shut None b) ≡ cond shut None (option_or a b)
either_shut true a b = refl
either_shut false a b = refl

-- the two of a node, whether it is marked or not
pub begins_are : (m : MachineView) (past : List Event) (w n : ℕ) → IsTied m.plan past m → IsIdle m past w
    → option_or (find (permitted m.plan past) (starts_on m.plan past w n)) (find (permitted m.plan past) (delivers_on m.plan w n)) ≡ node_at m w n
begins_are m past w n tied idle =
    let shut = is_shut_by m.drains m.tree m.holds n in
    let starts = option_map_or (start_at m w n) (slice_get (list_at m.lists n) 0) None in
    ap (λ o. option_or o (find (permitted m.plan past) (delivers_on m.plan w n))) (starts_are m past w n tied idle)
    ∙ (ap (option_or (cond shut None starts)) (delivers_are m past w n tied idle) ∙ either_shut shut starts (deliver_at m w n))

node_is : (m : MachineView) (past : List Event) (w n : ℕ) → IsTied m.plan past m → IsIdle m past w → find (permitted m.plan past) (node_events m.plan past w n) ≡ cond (busy_at m n) (node_at m w n) None
node_is m past w n tied idle =
    elim (busy_at m n) as (λ v. busy_at m n ≡ v → find (permitted m.plan past) (node_events m.plan past w n) ≡ cond v (node_at m w n) None) [
      | false ↦ λ unmarked. let is = tied.marks.idle n unmarked in none_on m.plan past w n is.nothing_waits is.nothing_pends
      | true ↦ λ marked.
          find-append (permitted m.plan past) (starts_on m.plan past w n) (delivers_on m.plan w n)
          ∙ begins_are m past w n tied idle
    ] refl

pub nodes_are : (m : MachineView) (past : List Event) (w n count : ℕ) → IsTied m.plan past m → IsIdle m past w
    → find (permitted m.plan past) (flat_map (node_events m.plan past w) (range_with_len n count)) ≡ nodes_at m w n count
nodes_are m past w n zero tied idle = refl
nodes_are m past w n (suc count) tied idle =
    find-append (permitted m.plan past) (node_events m.plan past w n) (flat_map (node_events m.plan past w) (range_with_len (n + 1) count))
    ∙ (ap (λ o. option_or o (find (permitted m.plan past) (flat_map (node_events m.plan past w) (range_with_len (n + 1) count)))) (node_is m past w n tied idle)
    ∙ ap (option_or (cond (busy_at m n) (node_at m w n) None)) (nodes_are m past w (n + 1) count tied idle))

-- ## No object is past the last

nodes_past : (m : MachineView) (w n count : ℕ) → length m.busy ≤ n → nodes_at m w n count ≡ None
nodes_past m w n zero past = refl
nodes_past m w n (suc count) past =
    ap (λ v. option_or (cond v (node_at m w n) None) (nodes_at m w (n + 1) count)) (unset m.busy n past)
    ∙ nodes_past m w (n + 1) count (omega arith)
  where
    unset : (flags : List Bool) (i : ℕ) → length flags ≤ i → slice_index_or flags i false ≡ false
    unset [] i high = refl
    unset (x ∷ xs) zero high = absurd (omega arith)
    unset (x ∷ xs) (suc i) high = unset xs i (omega arith)

nodes_more_past : (m : MachineView) (w n count more : ℕ) → length m.busy ≤ n + count → nodes_at m w n (count + more) ≡ nodes_at m w n count
nodes_more_past m w n zero more past = nodes_past m w n (zero + more) (omega arith)
nodes_more_past m w n (suc count) more past =
    let sum : suc count + more ≡ suc (count + more) = omega arith in
    ap (nodes_at m w n) sum
    ∙ ap (option_or (cond (busy_at m n) (node_at m w n) None)) (nodes_more_past m w (n + 1) count more (omega arith))

-- so a first number past it is the last
pub all_nodes_are : (m : MachineView) (w from : ℕ) → length m.busy ≡ length m.plan.objects
    → option_or (nodes_at m w from (length m.plan.objects - from)) (nodes_at m w 0 from) ≡ all_nodes_at m w (min from (length m.plan.objects))
all_nodes_are m w from long =
    let n = length m.plan.objects in
    ⊎_elim
    (λ (low : from < n). ap (all_nodes_at m w) (sym (min-eq_left (omega arith))))
    (λ (high : n ≤ from).
    let zero_high : n - from ≡ 0 = omega arith in
    let zero_low : n - n ≡ 0 = omega arith in
    let sum : from ≡ n + (from - n) = omega arith in
    ap (λ k. option_or (nodes_at m w from k) (nodes_at m w 0 from)) zero_high
    ∙ (ap (nodes_at m w 0) sum ∙ nodes_more_past m w 0 n (from - n) (omega (arith, long))
    ∙ (sym (ap (λ k. option_or (nodes_at m w n k) (nodes_at m w 0 n)) zero_low)
    ∙ ap (all_nodes_at m w) (sym (min-eq_right high)))))
    (cases_lt from n)
