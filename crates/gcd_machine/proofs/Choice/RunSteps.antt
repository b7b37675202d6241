-- A start and an end at once, for each history that the machine stands for.
use Rattle.std.proofs.Common.{◌≡◌, ℕ, ◌+◌, ◌<◌, Bool, true, false, not, ◌||◌, cond, List, [], ◌∷◌, ◌++◌, length, get_or, set, Option, Some, None, refl, ap, sym, ◌∙◌, subst, arith}
use Rattle.std.specs.Bool.{IsTrue}
use Rattle.std.specs.Option.{IfSome, option_and_then, option_map_or}
use Rattle.std.proofs.lemmas.Bool.{lt-ltb}
use Rattle.std.proofs.lemmas.List.{get_or-set_same, length_push}
use Rattle.std.proofs.lemmas.Option.{none-some, same_Some}
use Rattle.gcd_plan.specs.PlanView.{PlanView}
use Rattle.gcd_plan.specs.declared.act.Act.{Act}
use Rattle.gcd_plan.specs.declared.numbers.Blk.{Blk}
use Rattle.gcd_plan.specs.declared.numbers.Obj.{Obj}
use Rattle.gcd_plan.specs.declared.numbers.Run.{Run}
use Rattle.gcd_plan.specs.declared.numbers.Run.TheVariants.{Block, Source}
use Rattle.gcd_event.specs.declared.event.Event.{Event}
use Rattle.gcd_event.specs.declared.event.Event.TheVariants.{Start, Act as Acted, End, Misuse}
use Rattle.gcd_blockobj.specs.MarksView.{MarksView, is_cancelled_at, with_begun}
use Rattle.gcd_history.specs.Choice.{end_of}
use Rattle.gcd_history.specs.History.{choice_of}
use Rattle.gcd_history.specs.Permitted.{is_run_of, is_worker}
use Rattle.gcd_history.specs.Runs.{act_at}
use Rattle.gcd_refinement.specs.After.{with_block}
use Rattle.gcd_refinement.specs.MachineView.{MachineView, at_worker, block_at, idle}
use Rattle.gcd_refinement.specs.declared.progress.BlockProgress.{BlockProgress}
use Rattle.gcd_machine.specs.Chosen.{act_event_at, choice_by, idle_choice_at, own_event_at}
use Rattle.gcd_machine.specs.Conditions.{CanRun, CanStart, CanTake}
use Rattle.gcd_machine.specs.Judged.{done_at, misuse_by, next_act_at}
use Rattle.gcd_machine.specs.Quick.{HasRun, IsRunDue, IsRunNext, IsRunTaken, MayStep, MayStepTwice, is_quick, quick_of}
use Rattle.gcd_machine.specs.Stands.{IsShaped, MayApply, StandsFor}
use Rattle.gcd_machine.specs.Steps.{run_begun, stepped, taken_up}
use Rattle.gcd_machine.proofs.Choice.Calls.{choice_stands}
use Rattle.gcd_machine.proofs.Choice.Calm.{calm_stands, calm_told}
use Rattle.gcd_machine.proofs.Choice.Quick.{calm_at_start, choice_own}
use Rattle.gcd_machine.proofs.Choice.QuickSteps.{chosen_applies, chosen_permitted, going_from}
use Rattle.gcd_machine.proofs.Choice.Slow.{quick_same}
use Rattle.gcd_machine.proofs.Conditions.All.{may_take}
use Rattle.gcd_machine.proofs.Steps.Applied.{applied, next_plan, next_shaped}
use Rattle.gcd_machine.proofs.Steps.Passing.{cell_is}
use Rattle.gcd_machine.proofs.Views.Calls.{over_stands}

-- ## Between the start and the end

-- what the start of block b by worker w leaves of a machine that has noted it
record Kept (m : MachineView) (w : ℕ) (b : Blk) (k : MachineView) : Type 0 where
  plan : k.plan ≡ m.plan
  marks : k.marks ≡ m.marks
  workers : k.workers ≡ set m.workers w (Some (Block b))
  misused : k.misused ≡ m.misused
  halted : k.halted ≡ m.halted

kept : (m : MachineView) (w : ℕ) (b : Blk) (node : Option Obj) (barrier : Bool) (len : ℕ)
    → Kept m w b (record (taken_up (run_begun m node barrier) w (Block b)) { len = len })
kept m w b None barrier len = record { plan = refl; marks = refl; workers = refl; misused = refl; halted = refl }
kept m w b (Some n) barrier len = record { plan = refl; marks = refl; workers = refl; misused = refl; halted = refl }

abbrev noted : MachineView → Blk → MachineView
noted m b = record m { blocks = with_block m.blocks b.0 (λ x. record x { started = true }); marks = with_begun m.marks b.0 }

begun : (m : MachineView) (w : ℕ) (b : Blk) → Kept (noted m b) w b (stepped m (Start w b))
begun m w b = kept (noted m b) w b (block_at m b.0).node (block_at m b.0).barrier (m.len + 1)

-- the act that is next for the block
next_is : (m : MachineView) (w : ℕ) (b : Blk) → b.0 < length m.blocks → next_act_at (stepped m (Start w b)) (Block b) ≡ next_act_at m (Block b)
next_is m w b low =
    let k = stepped m (Start w b) in
    let same = begun m w b in
    let done = ap (λ (x : BlockProgress). x.done) (cell_is m w b idle low) in
    ap (λ (x : MarksView). cond (is_cancelled_at x b.0) None (act_at k.plan (Block b) (done_at k (Block b)))) same.marks
    ∙ (ap (λ (x : PlanView). cond (is_cancelled_at m.marks b.0) None (act_at x (Block b) (done_at k (Block b)))) same.plan
    ∙ ap (λ i. cond (is_cancelled_at m.marks b.0) None (act_at m.plan (Block b) i)) done)

-- a worker that chooses something is one
worker_from : (m : MachineView) (w : ℕ) (e : Event) → choice_by m w 0 ≡ Some e → is_worker w ≡ true
worker_from m w e some =
    let chosen : Option Event = option_map_or (λ run. Some (own_event_at m w run)) (at_worker m w) (idle_choice_at m w 0) in
    elim (is_worker w) as (λ v. cond (false || not v) None chosen ≡ Some e → v ≡ true) [
      | true ↦ λ is. refl
      | false ↦ λ none. absurd (none-some e none)
    ] (ap (λ v. cond (v || not (is_worker w)) None chosen) (sym (going_from m w e some)) ∙ some)

-- the worker records the next event of the block
own_next : (m : MachineView) (w : ℕ) (b : Blk) → choice_by m w 0 ≡ Some (Start w b) → CanStart m w b
    → choice_by (stepped m (Start w b)) w 0 ≡ Some (own_event_at (stepped m (Start w b)) w (Block b))
own_next m w b chosen can =
    let k = stepped m (Start w b) in
    let same = begun m w b in
    let going = ap (λ v. v || k.halted) same.misused ∙ (ap (λ v. m.misused || v) same.halted ∙ going_from m w (Start w b) chosen) in
    let own = ap (λ (ws : List (Option Run)). get_or ws w None) same.workers ∙ get_or-set_same m.workers w (Some (Block b)) None can.worker.worker in
    choice_own k w (Block b) going (worker_from m w (Start w b) chosen) own

ends_next : (m : MachineView) (w : ℕ) (b : Blk) → choice_by m w 0 ≡ Some (Start w b) → CanStart m w b → next_act_at m (Block b) ≡ None
    → choice_by (stepped m (Start w b)) w 0 ≡ Some (End w b)
ends_next m w b chosen can no_act =
    let k = stepped m (Start w b) in
    own_next m w b chosen can ∙ ap (λ o. Some (option_map_or (act_event_at k w (Block b)) o (end_of w (Block b)))) (next_is m w b can.blk ∙ no_act)

-- ## What may be taken

one_step : (m : MachineView) → MayStepTwice m → MayStep m
one_step m may = record { plan = may.plan; history = may.history; stands = may.stands; room = let room = may.room in omega (arith, room) }

can_start : (m : MachineView) (w : ℕ) (b : Blk) → MayStepTwice m → choice_by m w 0 ≡ Some (Start w b) → CanTake m (Start w b)
can_start m w b may chosen = may_take m (Start w b) (chosen_applies m w (Start w b) (one_step m may) chosen)

pub run_fits : (m : MachineView) (w : ℕ) (b : Blk) → IsShaped m → MayStepTwice m → choice_by m w 0 ≡ Some (Start w b) → is_run_of m.plan (Block b) ≡ true
run_fits m w b shape may chosen =
    let low = (can_start m w b may chosen).changes.blk in
    let long = shape.own.blocks in
    lt-ltb b.0 (length m.plan.blocks) (omega (arith, low, long))

-- the machine after the start, and what it may do
after_start : (m : MachineView) (w : ℕ) (b : Blk) (plan : PlanView) (h : List Event) → StandsFor m plan h → choice_by m w 0 ≡ Some (Start w b)
    → StandsFor (stepped m (Start w b)) plan (h ++ Start w b ∷ [])
after_start m w b plan h stands chosen = applied m (Start w b) plan h stands (chosen_permitted m plan h w (Start w b) stands chosen)

end_applies : (m : MachineView) (w : ℕ) (b : Blk) → MayStepTwice m → IsRunDue m w b → MayApply (stepped m (Start w b)) (End w b)
end_applies m w b may due =
    let k = stepped m (Start w b) in
    let h = may.history ++ Start w b ∷ [] in
    let stands = after_start m w b may.plan may.history may.stands due.chosen in
    let ends = ends_next m w b due.chosen (can_start m w b may due.chosen).changes due.no_act in
    let room = may.room in
    let long = length_push may.history (Start w b) in
    record {
      plan = may.plan;
      history = h;
      stands = stands;
      permitted = chosen_permitted k may.plan h w (End w b) stands ends;
      room = omega (arith, room, long);
    }

pub can_run : (m : MachineView) (w : ℕ) (b : Blk) → MayStepTwice m → IsRunDue m w b → CanRun m w b
can_run m w b may due = record {
  free = due.free;
  starts = can_start m w b may due.chosen;
  ends = may_take (stepped m (Start w b)) (End w b) (end_applies m w b may due);
}

pub run_shaped : (m k : MachineView) (w : ℕ) (taken : Option Blk) → IsShaped m → MayStepTwice m → HasRun m w taken k → IsShaped k
run_shaped m k w None shape may left = subst IsShaped (sym left.same) shape
run_shaped m k w (Some b) shape may run = next_shaped (stepped m (Start w b)) k (End w b) run.after (end_applies m w b may run.due)

pub run_plan : (m k : MachineView) (w : ℕ) (taken : Option Blk) → MayStepTwice m → HasRun m w taken k → k.plan ≡ m.plan
run_plan m k w None may left = ap (λ (x : MachineView). x.plan) left.same
run_plan m k w (Some b) may run = next_plan (stepped m (Start w b)) k (End w b) run.after (end_applies m w b may run.due) ∙ (begun m w b).plan

-- ## For each history

starts_next : (m : MachineView) (w : ℕ) (b : Blk) (plan : PlanView) (h : List Event) → StandsFor m plan h → IsRunDue m w b → quick_of plan h w ≡ Some (Start w b)
starts_next m w b plan h stands due =
    ap (option_and_then (λ e. cond (is_quick plan h e) (Some e) None)) (sym (choice_stands m plan h w 0 stands) ∙ due.chosen)
    ∙ ap (λ v. cond v (Some (Start w b)) None) (sym (quick_same m plan h stands (Start w b)) ∙ due.quick)

pub run_taken : (m k : MachineView) (w : ℕ) (taken : Option Blk) → MayStepTwice m → HasRun m w taken k → (plan : PlanView) (h : List Event) → StandsFor m plan h
    → IfSome taken (λ b. IsRunTaken plan h w b k)
run_taken m k w None may left plan h stands = tt
run_taken m k w (Some b) may run plan h stands =
    let due = run.due in
    let mid = stepped m (Start w b) in
    let started = after_start m w b plan h stands due.chosen in
    let ends = ends_next m w b due.chosen (can_start m w b may due.chosen).changes due.no_act in
    record {
      next = record {
        starts = starts_next m w b plan h stands due;
        ends = sym (choice_stands mid plan (h ++ Start w b ∷ []) w 0 started) ∙ ends;
      };
      chosen = sym (choice_stands m plan h w 0 stands) ∙ due.chosen;
      stands =
          subst (λ x. StandsFor x plan ((h ++ Start w b ∷ []) ++ End w b ∷ [])) (sym run.after)
          (applied mid (End w b) plan (h ++ Start w b ∷ []) started (chosen_permitted mid plan (h ++ Start w b ∷ []) w (End w b) started ends));
      calm = λ calm.
          let going = sym (over_stands m plan h stands) ∙ going_from m w (Start w b) due.chosen in
          calm_stands mid plan (h ++ Start w b ∷ []) started (subst (λ (v : Bool). IsTrue v) (sym (calm_at_start m w b)) (calm_told m plan h stands going calm));
    }

-- ## What is due for a history is due

-- the event that a quick step takes is the one that is chosen
record IsQuickChoice (plan : PlanView) (h : List Event) (o : Option Event) (e : Event) : Type 0 where
  chosen : o ≡ Some e
  quick : is_quick plan h e ≡ true

quick_choice : (plan : PlanView) (h : List Event) (o : Option Event) (e : Event) → option_and_then (λ x. cond (is_quick plan h x) (Some x) None) o ≡ Some e
    → IsQuickChoice plan h o e
quick_choice plan h None e is = absurd (none-some e is)
quick_choice plan h (Some x) e is =
    elim (is_quick plan h x) as (λ v. is_quick plan h x ≡ v → cond v (Some x) None ≡ Some e → IsQuickChoice plan h (Some x) e) [
      | true ↦ λ quick some. record { chosen = some; quick = ap (is_quick plan h) (sym (same_Some x e some)) ∙ quick }
      | false ↦ λ slow none. absurd (none-some e none)
    ] refl is

-- an event of a run is no start
own_no_start : (m : MachineView) (w : ℕ) (run : Run) (b : Blk) → own_event_at m w run ≡ Start w b → ⊥
own_no_start m w run b =
    elim (next_act_at m run) as (λ o. option_map_or (act_event_at m w run) o (end_of w run) ≡ Start w b → ⊥) [
      | None ↦ elim run as (λ r. end_of w r ≡ Start w b → ⊥) [ Block c ↦ λ is. cc | Source s ↦ λ is. cc ]
      | Some act ↦ elim (misuse_by m act) as (λ c. option_map_or (λ x. Misuse w x run (done_at m run)) c (Acted w run (done_at m run)) ≡ Start w b → ⊥) [
        | None ↦ λ is. cc
        | Some code ↦ λ is. cc
      ]
    ]

free_from : (m : MachineView) (w : ℕ) (b : Blk) → choice_by m w 0 ≡ Some (Start w b) → at_worker m w ≡ None
free_from m w b chosen =
    elim (at_worker m w) as (λ o. at_worker m w ≡ o → o ≡ None) [
      | None ↦ λ is. refl
      | Some run ↦ λ own.
          let event = sym (choice_own m w run (going_from m w (Start w b) chosen) (worker_from m w (Start w b) chosen) own) ∙ chosen in
          absurd (own_no_start m w run b (same_Some (own_event_at m w run) (Start w b) event))
    ] refl

-- an act is no end
act_no_end : (m : MachineView) (w : ℕ) (run : Run) (act : Act) (b : Blk) → act_event_at m w run act ≡ End w b → ⊥
act_no_end m w run act b =
    elim (misuse_by m act) as (λ c. option_map_or (λ x. Misuse w x run (done_at m run)) c (Acted w run (done_at m run)) ≡ End w b → ⊥) [
      | None ↦ λ is. cc
      | Some code ↦ λ is. cc
    ]

no_act_from : (m : MachineView) (w : ℕ) (b : Blk) (o : Option Act) → option_map_or (act_event_at m w (Block b)) o (end_of w (Block b)) ≡ End w b → o ≡ None
no_act_from m w b None is = refl
no_act_from m w b (Some act) is = absurd (act_no_end m w (Block b) act b is)

pub run_due : (m : MachineView) (w : ℕ) (b : Blk) (plan : PlanView) (h : List Event) → MayStepTwice m → StandsFor m plan h → IsRunNext plan h w b → IsRunDue m w b
run_due m w b plan h may stands next =
    let mid = stepped m (Start w b) in
    let starts = quick_choice plan h (choice_of plan h w 0) (Start w b) next.starts in
    let chosen = choice_stands m plan h w 0 stands ∙ starts.chosen in
    let can = (can_start m w b may chosen).changes in
    let started = after_start m w b plan h stands chosen in
    let ends = sym (own_next m w b chosen can) ∙ (choice_stands mid plan (h ++ Start w b ∷ []) w 0 started ∙ next.ends) in
    record {
      chosen = chosen;
      quick = quick_same m plan h stands (Start w b) ∙ starts.quick;
      free = free_from m w b chosen;
      no_act = sym (next_is m w b can.blk) ∙ no_act_from mid w b (next_act_at mid (Block b)) (same_Some (own_event_at mid w (Block b)) (End w b) ends);
    }

pub run_none : (m k : MachineView) (w : ℕ) (taken : Option Blk) → MayStepTwice m → HasRun m w taken k → taken ≡ None
    → (plan : PlanView) (h : List Event) (b : Blk) → StandsFor m plan h → IsRunNext plan h w b → ⊥
run_none m k w None may left none plan h b stands next = left.none b (run_due m w b plan h may stands next)
run_none m k w (Some c) may run none plan h b stands next = cc
