-- What a worker without a run records next is the first permitted event of the definition's order.
use Rattle.std.proofs.Common.{◌≡◌, ℕ, ◌-◌, Bool, true, false, cond, List, [], ◌∷◌, ◌++◌, length, map, Option, Some, None, is_some, is_none, find, option_map, refl, ap, sym, ◌∙◌, arith}
use Rattle.std.specs.List.{flat_map, range_with_len}
use Rattle.std.specs.Option.{option_map_or, option_or}
use Rattle.std.specs.Cmp.Derive.{one_truth}
use Rattle.std.proofs.Math.Path.{fun_ext}
use Rattle.std.proofs.lemmas.Bool.{lt-ltb}
use Rattle.std.proofs.lemmas.List.Folds.{find-append}
use Rattle.gcd_plan.specs.declared.numbers.Run.{Run}
use Rattle.gcd_plan.specs.declared.numbers.Run.TheVariants.{Block}
use Rattle.gcd_plan.specs.declared.why.Why.TheVariants.{Unready}
use Rattle.gcd_event.specs.declared.event.Event.{Event}
use Rattle.gcd_event.specs.declared.event.Event.TheVariants.{Start}
use Rattle.gcd_history.specs.Runs.{open_runs}
use Rattle.gcd_history.specs.Parked.{awaited, is_parked, is_over, may_wake}
use Rattle.gcd_history.specs.Permitted.{permitted, why}
use Rattle.gcd_history.specs.Choice.{next_events, own_events, wake_event, node_events, choice}
use Rattle.gcd_plan.proofs.Options.{none_from_is_none}
use Rattle.gcd_history.proofs.Permitted.Quiet.{wake_permitted}
use Rattle.gcd_history.proofs.Permitted.Reasons.{at_wake}
use Rattle.gcd_history.proofs.Waits.Woken.{parked_facts}
use Rattle.gcd_refinement.specs.MachineView.{MachineView, block_at, is_wakeable_at, at_worker}
use Rattle.gcd_refinement.specs.Stands.{IsTied}
use Rattle.gcd_machine.specs.Chosen.{wake_at, main_at, nodes_at, idle_choice_at}
use Rattle.gcd_machine.proofs.Choice.IdlePermitted.{IsIdle, has_none, start_is, has_main}
use Rattle.gcd_machine.proofs.Choice.AtNodes.{nodes_are, all_nodes_are}

-- ## It has no own run

nothing_flat : (xs : List Run) → flat_map {A = Event} (λ r. []) xs ≡ []
nothing_flat [] = refl
nothing_flat (x ∷ xs) = nothing_flat xs

no_own : (m : MachineView) (past : List Event) (w : ℕ) → IsTied m.plan past m → at_worker m w ≡ None → flat_map (own_events m.plan past w) (open_runs past) ≡ []
no_own m past w tied free =
    ap (λ f. flat_map f (open_runs past)) (fun_ext (λ r. ap (λ v. cond v (next_events m.plan past w r) []) (has_none m past w tied free r)))
    ∙ nothing_flat (open_runs past)

-- ## Wakes

pub found_map : {X Y : Type 0} (p : Y → Bool) (f : X → Y) (xs : List X) → find p (map f xs) ≡ option_map f (find (λ x. p (f x)) xs)
found_map p f [] = refl
found_map p f (x ∷ xs) =
    elim (p (f x)) as (λ v. cond v (Some (f x)) (find p (map f xs)) ≡ option_map f (cond v (Some x) (find (λ y. p (f y)) xs))) [
      | true ↦ refl
      | false ↦ found_map p f xs
    ]

wakes : (m : MachineView) (past : List Event) (w b : ℕ) → IsTied m.plan past m → IsIdle m past w → may_wake m.plan past b ≡ true → permitted m.plan past (wake_event w b) ≡ true
unfolding may_wake is_parked
wakes m past w b tied idle may =
    elim (awaited m.plan past (Block (record { 0 = b }))) as (λ o. awaited m.plan past (Block (record { 0 = b })) ≡ o → option_map_or (is_over m.plan past) o false ≡ true → permitted m.plan past (wake_event w b) ≡ true) [
      | None ↦ λ none no. cc
      | Some r ↦ λ some come.
          let live = (parked_facts m.plan past (record { 0 = b }) r some).live in
          ap is_none (wake_permitted m.plan past (record { 0 = b }) w tied.lawful idle.going idle.worker (has_none m past w tied idle.free) live (ap is_some some) may)
    ] refl may

wake_is_wakeable : (m : MachineView) (past : List Event) (w b : ℕ) → IsTied m.plan past m → IsIdle m past w → permitted m.plan past (wake_event w b) ≡ is_wakeable_at m b
wake_is_wakeable m past w b tied idle =
    one_truth (permitted m.plan past (wake_event w b)) (may_wake m.plan past b)
    (λ may. (at_wake m.plan past w (record { 0 = b }) (none_from_is_none (why m.plan past (wake_event w b)) may)).came)
    (wakes m past w b tied idle)
    ∙ sym (tied.wakes.wakeable b)

wakes_are : (m : MachineView) (past : List Event) (w : ℕ) → IsTied m.plan past m → IsIdle m past w → find (permitted m.plan past) (map (wake_event w) (range_with_len 0 (length m.plan.blocks))) ≡ wake_at m w
wakes_are m past w tied idle =
    let wakeable_long = tied.own.wakeable in
    let long : length m.plan.blocks ≡ length m.wakeable - 0 = omega (arith, wakeable_long) in
    found_map (permitted m.plan past) (wake_event w) (range_with_len 0 (length m.plan.blocks))
    ∙ (ap (λ test. option_map (wake_event w) (find test (range_with_len 0 (length m.plan.blocks)))) (fun_ext (λ b. wake_is_wakeable m past w b tied idle))
    ∙ ap (λ n. option_map (wake_event w) (find (is_wakeable_at m) (range_with_len 0 n))) long)

-- ## Main

main_is : (m : MachineView) (past : List Event) (w : ℕ) → IsTied m.plan past m → IsIdle m past w → find (permitted m.plan past) (Start w (record { 0 = 0 }) ∷ []) ≡ main_at m w
main_is m past w tied idle =
    ap (λ v. cond v (Some (Start w (record { 0 = 0 }))) None)
    (start_is m past w (record { 0 = 0 }) tied idle (lt-ltb 0 (length m.plan.blocks) (has_main m.plan tied.valid)))
    ∙ turned (block_at m 0).started
  where
    turned : (started : Bool) → cond (is_none (cond started (Some Unready) None)) (Some (Start w (record { 0 = 0 }))) None ≡ cond started None (Some (Start w (record { 0 = 0 })))
    turned true = refl
    turned false = refl

-- ## All of it

found_parts : (p : Event → Bool) (a b c d e : List Event) → find p (a ++ b ++ c ++ d ++ e) ≡ option_or (option_or (option_or (option_or (find p a) (find p b)) (find p c)) (find p d)) (find p e)
found_parts p a b c d e =
    find-append p (a ++ b ++ c ++ d) e
    ∙ ap (λ o. option_or o (find p e)) (find-append p (a ++ b ++ c) d
    ∙ ap (λ o. option_or o (find p d)) (find-append p (a ++ b) c
    ∙ ap (λ o. option_or o (find p c)) (find-append p a b)))

regrouped : (b c d e : Option Event) → option_or (option_or (option_or (option_or None b) c) d) e ≡ option_or b (option_or c (option_or d e))
regrouped (Some x) c d e = refl
regrouped None (Some x) d e = refl
regrouped None None (Some x) e = refl
regrouped None None None e = refl

pub idle_choice_is : (m : MachineView) (past : List Event) (w from : ℕ) → IsTied m.plan past m → IsIdle m past w → choice m.plan past w from ≡ idle_choice_at m w from
idle_choice_is m past w from tied idle =
    let p = permitted m.plan past in
    let wakes = map (wake_event w) (range_with_len 0 (length m.plan.blocks)) in
    let main = Start w (record { 0 = 0 }) ∷ [] in
    let high = flat_map (node_events m.plan past w) (range_with_len from (length m.plan.objects - from)) in
    let low = flat_map (node_events m.plan past w) (range_with_len 0 from) in
    ap (λ own. find p (own ++ wakes ++ main ++ high ++ low)) (no_own m past w tied idle.free)
    ∙ (found_parts p [] wakes main high low
    ∙ (regrouped (find p wakes) (find p main) (find p high) (find p low)
    ∙ (ap (λ o. option_or o (option_or (find p main) (option_or (find p high) (find p low)))) (wakes_are m past w tied idle)
    ∙ (ap (λ o. option_or (wake_at m w) (option_or o (option_or (find p high) (find p low)))) (main_is m past w tied idle)
    ∙ (ap (λ o. option_or (wake_at m w) (option_or (main_at m w) (option_or o (find p low)))) (nodes_are m past w from (length m.plan.objects - from) tied idle)
    ∙ (ap (λ o. option_or (wake_at m w) (option_or (main_at m w) (option_or (nodes_at m w from (length m.plan.objects - from)) o))) (nodes_are m past w 0 from tied idle)
    ∙ ap (λ o. option_or (wake_at m w) (option_or (main_at m w) o)) (all_nodes_are m w from tied.own.busy)))))))
