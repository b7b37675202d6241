-- Whom an event takes from the sleepers, their wait is over by it.
use Rattle.std.proofs.Common.{◌≡◌, ◌⊎◌, inl, inr, ⊎_elim, ℕ, ◌<◌, ◌≤◌, ◌==◌, Bool, true, false, not, cond, List, [], ◌∷◌, ◌++◌, length, map, drop, take, Option, Some, None, refl, ap, sym, ◌∙◌}
use Rattle.std.proofs.Math.ListN.{get_or-eq_default}
use Rattle.std.proofs.lemmas.Bool.{cases_eq, cases_lt, cases_Bool, both_ways, eqb-true, or_left, or_cases}
use Rattle.std.proofs.lemmas.Map.Views.{any-filter_same}
use Rattle.gcd_plan.specs.PlanView.{PlanView}
use Rattle.gcd_plan.specs.declared.act.Act.{Act}
use Rattle.gcd_plan.specs.declared.act.Act.TheVariants.{GroupWait, GroupWaitFor, Signal, Wait, WaitFor}
use Rattle.gcd_plan.specs.declared.numbers.Blk.{Blk}
use Rattle.gcd_plan.specs.declared.numbers.Obj.{Obj}
use Rattle.gcd_plan.specs.declared.numbers.Run.{Run}
use Rattle.gcd_plan.specs.declared.numbers.Run.TheVariants.{Block, Source}
use Rattle.gcd_event.specs.declared.event.Event.{Event}
use Rattle.gcd_event.specs.declared.event.Event.TheVariants.{Act as Acted, End, Expire}
use Rattle.gcd_history.specs.Runs.{act_at}
use Rattle.gcd_history.proofs.Lists.{any_left, any_right}
use Rattle.gcd_lists.specs.ListsView.{ListsView}
use Rattle.gcd_group.specs.GroupsView.{count_at}
use Rattle.gcd_sema.specs.SemasView.{has_value_at}
use Rattle.gcd_sync.specs.WaitsView.{reason_at}
use Rattle.gcd_refinement.specs.MachineView.{MachineView}
use Rattle.gcd_refinement.specs.Submits.{emptied_by, sleepers_at, come_to_run, signalled, let_go_by, come_by}
use Rattle.gcd_refinement.specs.AfterSleepers.{popped, pushed_on, removed, bed_of, asleep, asleep_by_handler, asleep_after, sleepers_after}
use Rattle.gcd_refinement.proofs.Groups.Members.{is_group}
use Rattle.gcd_refinement.proofs.Step.SemaSleepers.{blocks_at, pushed_here, pushed_there, popped_here, popped_there, removed_here, removed_there, woken_at}
use Rattle.gcd_refinement.proofs.Lists.Among.{among, itself}

-- ## Lists

-- where somebody sleeps is an object
within : (lists : ListsView) (b : Blk) (s : ℕ) → among b (blocks_at lists s) ≡ true → s < length lists.lists
within lists b s any =
    ⊎_elim
    (λ (low : s < length lists.lists). low)
    (λ (high : length lists.lists ≤ s). let never : false ≡ true = ap (λ l. among b (map (λ w. w.0) l)) (sym (get_or-eq_default lists.lists [] high)) ∙ any in cc)
    (cases_lt s (length lists.lists))

-- one goes to sleep behind the others
pushed_keeps : (lists : ListsView) (n : Obj) (c b : Blk) (s : ℕ) → among b (blocks_at lists s) ≡ true → among b (blocks_at (pushed_on lists n c false) s) ≡ true
pushed_keeps lists n c b s any =
    ⊎_elim
    (λ (same : n.0 ≡ s). ap (among b) (pushed_here lists n c s same (within lists b s any)) ∙ any_left (λ k. k.0 == b.0) (blocks_at lists s) (c ∷ []) any)
    (λ (other : n.0 ≡ s → ⊥). ap (among b) (pushed_there lists n c s other) ∙ any)
    (cases_eq n.0 s)

first_or_rest : (b : Blk) (xs : List Blk) → among b xs ≡ true → (among b (take 1 xs) ≡ true) ⊎ (among b (drop 1 xs) ≡ true)
first_or_rest b [] any = cc
first_or_rest b (x ∷ xs) any =
    ⊎_elim
    (λ now. inl (or_left (x.0 == b.0) false now))
    (λ later. inr later)
    (or_cases (x.0 == b.0) (among b xs) any)

-- the first is let go
popped_first : (lists : ListsView) (n : Obj) (b : Blk) (s : ℕ) → among b (blocks_at lists s) ≡ true → among b (blocks_at (popped lists (Some n)) s) ≡ false → among b (take 1 (blocks_at lists n.0)) ≡ true
popped_first lists n b s any gone =
    ⊎_elim
    (λ (same : n.0 ≡ s).
    ap (λ k. among b (take 1 (blocks_at lists k))) same
    ∙ ⊎_elim
    (λ now. now)
    (λ rest. absurd (both_ways (among b (blocks_at (popped lists (Some n)) s)) gone (ap (among b) (popped_here lists n s same (within lists b s any)) ∙ rest)))
    (first_or_rest b (blocks_at lists s) any))
    (λ (other : n.0 ≡ s → ⊥). absurd (both_ways (among b (blocks_at (popped lists (Some n)) s)) gone (ap (among b) (popped_there lists n s other) ∙ any)))
    (cases_eq n.0 s)

-- none but the one is taken out
removed_keeps : (lists : ListsView) (n : Obj) (c b : Blk) (s : ℕ) → (b.0 == c.0) ≡ false → among b (blocks_at lists s) ≡ true → among b (blocks_at (removed lists (Some n) c) s) ≡ true
removed_keeps lists n c b s apart any =
    ⊎_elim
    (λ (same : n.0 ≡ s).
    ap (among b) (removed_here lists n c s same (within lists b s any))
    ∙ (any-filter_same (λ k. k.0 == b.0) (λ k. not (k.0 == c.0)) true (λ k it. ap not (ap (λ m. m == c.0) (eqb-true k.0 b.0 it) ∙ apart)) (blocks_at lists s) ∙ any))
    (λ (other : n.0 ≡ s → ⊥). ap (among b) (removed_there lists n c s other) ∙ any)
    (cases_eq n.0 s)

removed_one : (lists : ListsView) (o : Option Obj) (c b : Blk) (s : ℕ) → among b (blocks_at lists s) ≡ true → among b (blocks_at (removed lists o c) s) ≡ false → c ≡ b
removed_one lists None c b s any gone = absurd (both_ways (among b (blocks_at lists s)) gone any)
removed_one lists (Some n) c b s any gone =
    ⊎_elim
    (λ same. ap (λ k. record { 0 = k }) (sym (eqb-true b.0 c.0 same)))
    (λ apart. absurd (both_ways (among b (blocks_at (removed lists (Some n) c) s)) gone (removed_keeps lists n c b s apart any)))
    (cases_Bool (b.0 == c.0))

-- ## By an act

-- where a block may go to sleep at an object, nobody leaves
none_left : (u : Bool) (lists : ListsView) (n : Obj) (c b : Blk) (s : ℕ) → among b (blocks_at lists s) ≡ true → among b (blocks_at (cond u lists (pushed_on lists n c false)) s) ≡ false → ⊥
none_left true lists n c b s any gone = both_ways (among b (blocks_at lists s)) gone any
none_left false lists n c b s any gone = both_ways (among b (blocks_at (pushed_on lists n c false) s)) gone (pushed_keeps lists n c b s any)

left_by_act : (v : MachineView) (d : Blk) (act : Option Act) (b : Blk) (s : ℕ) → among b (blocks_at v.sleepers s) ≡ true → among b (blocks_at (asleep v d act) s) ≡ false → among b (signalled v act) ≡ true
left_by_act v d (Some (GroupWait g)) b s any gone = absurd (none_left (count_at v.groups g.0 == 0) v.sleepers g d b s any gone)
left_by_act v d (Some (GroupWaitFor g ms)) b s any gone = absurd (none_left (count_at v.groups g.0 == 0) v.sleepers g d b s any gone)
left_by_act v d (Some (Wait t)) b s any gone = absurd (none_left (has_value_at v.semas t.0) v.sleepers t d b s any gone)
left_by_act v d (Some (WaitFor t ms)) b s any gone = absurd (none_left (has_value_at v.semas t.0) v.sleepers t d b s any gone)
left_by_act v d (Some (Signal t)) b s any gone = popped_first v.sleepers t b s any gone
left_by_act v d _ b s any gone = absurd (both_ways (among b (blocks_at v.sleepers s)) gone any)

left_by_handler : (v : MachineView) (act : Option Act) (b : Blk) (s : ℕ) → among b (blocks_at v.sleepers s) ≡ true → among b (blocks_at (asleep_by_handler v act) s) ≡ false → among b (signalled v act) ≡ true
left_by_handler v (Some (Signal t)) b s any gone = popped_first v.sleepers t b s any gone
left_by_handler v _ b s any gone = absurd (both_ways (among b (blocks_at v.sleepers s)) gone any)

-- ## By an event

signalled_in : (plan : PlanView) (w : ℕ) (run : Run) (i : ℕ) (v : MachineView) (b : Blk) → among b (signalled v (act_at plan run i)) ≡ true → among b (come_by plan v (Acted w run i)) ≡ true
signalled_in plan w run i v b h =
    any_left (λ k. k.0 == b.0) (come_to_run v run (act_at plan run i) ++ signalled v (act_at plan run i)) (sleepers_at v (emptied_by plan v (Acted w run i)))
    (any_right (λ k. k.0 == b.0) (come_to_run v run (act_at plan run i)) (signalled v (act_at plan run i)) h)

emptied_in : (plan : PlanView) (e : Event) (v : MachineView) (b : Blk) → among b (sleepers_at v (emptied_by plan v e)) ≡ true → among b (come_by plan v e) ≡ true
emptied_in plan (End w c) v b h = any_right (λ k. k.0 == b.0) (let_go_by v c) (sleepers_at v (emptied_by plan v (End w c))) h
emptied_in plan (Acted w run i) v b h = any_right (λ k. k.0 == b.0) (come_to_run v run (act_at plan run i) ++ signalled v (act_at plan run i)) (sleepers_at v (emptied_by plan v (Acted w run i))) h
emptied_in plan e v b h = cc

left_by : (plan : PlanView) (e : Event) (v : MachineView) (b : Blk) (s : ℕ) → among b (blocks_at v.sleepers s) ≡ true → among b (blocks_at (asleep_after plan v e) s) ≡ false → among b (come_by plan v e) ≡ true
left_by plan (Acted w (Block d) i) v b s any gone = signalled_in plan w (Block d) i v b (left_by_act v d (act_at plan (Block d) i) b s any gone)
left_by plan (Acted w (Source o) i) v b s any gone = signalled_in plan w (Source o) i v b (left_by_handler v (act_at plan (Source o) i) b s any gone)
left_by plan (Expire c) v b s any gone = itself c b (removed_one v.sleepers (bed_of (reason_at v.waits c.0)) c b s any gone)
left_by plan e v b s any gone = absurd (both_ways (among b (blocks_at v.sleepers s)) gone any)

-- who slept at an object, and does not after the event
pub let_go : (plan : PlanView) (e : Event) (v : MachineView) (b : Blk) (s : ℕ) → among b (blocks_at v.sleepers s) ≡ true → among b (blocks_at (sleepers_after plan v e) s) ≡ false → among b (come_by plan v e) ≡ true
let_go plan e v b s any gone =
    elim (is_group s (emptied_by plan v e)) as (λ u. is_group s (emptied_by plan v e) ≡ u → among b (cond u [] (blocks_at (asleep_after plan v e) s)) ≡ false → among b (come_by plan v e) ≡ true) [
      | true ↦ λ yes none. emptied_in plan e v b (from_emptied (emptied_by plan v e) yes)
      | false ↦ λ no left. left_by plan e v b s any left
    ] refl (ap (among b) (sym (woken_at (asleep_after plan v e) (emptied_by plan v e) s)) ∙ gone)
  where
    from_emptied : (o : Option Obj) → is_group s o ≡ true → among b (sleepers_at v o) ≡ true
    from_emptied None h = cc
    from_emptied (Some g) h = ap (λ n. among b (blocks_at v.sleepers n)) (eqb-true g.0 s h) ∙ any
