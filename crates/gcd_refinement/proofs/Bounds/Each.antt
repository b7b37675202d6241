-- That no number is too large: what follows of the ties. The sum of open runs, what is pending and how many are left are not here.
use Rattle.std.proofs.Common.{◌≡◌, ℕ, suc, ◌+◌, ◌-◌, ◌<◌, ◌≤◌, ◌==◌, leb, ltb, Bool, true, false, not, cond, List, [], ◌∷◌, length, filter, Option, Some, None, is_none, refl, ap, ◌∙◌, arith, ⊎_elim, length-append}
use Rattle.std.specs.List.{count_by, cons_option}
use Rattle.std.proofs.lemmas.Bool.{cases_lt, and_parts, leb-true}
use Rattle.std.proofs.lemmas.List.{get_or_past}
use Rattle.std.proofs.lemmas.List.Sums.{length-filter}
use Rattle.gcd_plan.specs.PlanView.{PlanView}
use Rattle.gcd_plan.specs.declared.act.Act.{Act}
use Rattle.gcd_plan.specs.declared.act.Act.TheVariants.{GroupAsync, Enter, Suspend, Resume}
use Rattle.gcd_plan.specs.declared.numbers.Run.{Run}
use Rattle.gcd_plan.specs.declared.numbers.Run.TheVariants.{Block, Source}
use Rattle.gcd_event.specs.declared.event.Event.{Event}
use Rattle.gcd_event.specs.declared.event.Event.TheVariants.{Start, Act as Acted, End, Deliver, DeliverEnd, Tick}
use Rattle.gcd_history.specs.Runs.{same_run, open_runs, acts_done, act_of, is_ended}
use Rattle.gcd_history.specs.Groups.{member_of, enters, count}
use Rattle.gcd_history.specs.Holds.{hold, hold_after}
use Rattle.gcd_history.specs.Misuses.{retains}
use Rattle.gcd_history.specs.Semas.{signals}
use Rattle.gcd_history.specs.Timers.{now}
use Rattle.gcd_history.specs.Due.{may_tick}
use Rattle.gcd_history.specs.Parked.{parked_by, has_run}
use Rattle.gcd_history.specs.Permitted.{IsLawful, is_barrier_on}
use Rattle.gcd_plan.proofs.Sums.{count_by-cons}
use Rattle.gcd_history.proofs.Permitted.Reasons.{at_act, at_tick}
use Rattle.gcd_hold.specs.HoldsView.{hold_at}
use Rattle.gcd_drain.specs.DrainsView.{barriers_at}
use Rattle.gcd_group.specs.GroupsView.{count_at, entered_at}
use Rattle.gcd_sema.specs.SemasView.{signals_at}
use Rattle.gcd_refinement.specs.MachineView.{MachineView, block_at, handler_at, refs_at}
use Rattle.gcd_refinement.proofs.Groups.Members.{members}
use Rattle.gcd_refinement.proofs.AllTies.{AllTies}

-- ## Over histories

few : {X : Type 0} (p : X → Bool) (xs : List X) → count_by p xs ≤ length xs
few p [] = omega arith
few p (x ∷ xs) =
    let rest = few p xs in
    let c = count_by-cons p x xs in
    elim (p x) as (λ t. count_by p (x ∷ xs) ≡ cond {A = ℕ} t 1 0 + count_by p xs → count_by p (x ∷ xs) ≤ suc (length xs)) [ true ↦ λ k. omega (arith, k, rest) | false ↦ λ k. omega (arith, k, rest) ] (omega (arith, c))

pub fewer : {X : Type 0} (p : X → Bool) (xs : List X) → length (filter p xs) ≤ length xs
fewer p xs = let a = length-filter p xs in let b = few p xs in omega (arith, a, b)

-- the first event of a lawful history is no act
first_retains_nothing : (plan : PlanView) (e : Event) (o : ℕ) → IsLawful plan (e ∷ []) → retains o (act_of plan e) ≡ false
unfolding has_run
first_retains_nothing plan (Acted w r i) o lawful = let own = (at_act plan [] w r i lawful.1).own in cc
first_retains_nothing plan _ o lawful = refl

-- so no more are retained than events follow it
few_after : (plan : PlanView) (e : Event) (past : List Event) (o : ℕ) → IsLawful plan (e ∷ past) → count_by (λ d. retains o (act_of plan d)) (e ∷ past) ≤ length past
few_after plan e [] o lawful =
    let none = first_retains_nothing plan e o lawful in
    let c = count_by-cons (λ d. retains o (act_of plan d)) e [] ∙ ap (λ t. cond {A = ℕ} t 1 0 + 0) none in
    omega (arith, c)
few_after plan e (d ∷ past) o lawful =
    let rest = few_after plan d past o lawful.0 in
    let c = count_by-cons (λ d. retains o (act_of plan d)) e (d ∷ past) in
    elim (retains o (act_of plan e)) as (λ t. count_by (λ d. retains o (act_of plan d)) (e ∷ d ∷ past) ≡ cond {A = ℕ} t 1 0 + count_by (λ d. retains o (act_of plan d)) (d ∷ past) → count_by (λ d. retains o (act_of plan d)) (e ∷ d ∷ past) ≤ suc (length past)) [
      | true ↦ λ k. omega (arith, k, rest)
      | false ↦ λ k. omega (arith, k, rest)
    ] c

few_retains : (plan : PlanView) (past : List Event) (o : ℕ) → IsLawful plan past → count_by (λ e. retains o (act_of plan e)) past ≤ length past - 1
few_retains plan [] o lawful = omega arith
few_retains plan (e ∷ past) o lawful = let few = few_after plan e past o lawful in omega (arith, few)

pub few_open : (past : List Event) → length (open_runs past) ≤ length past
few_open [] = omega arith
few_open (Start w b ∷ past) = let rest = few_open past in let n = length-append (open_runs past) (Block b ∷ []) in omega (arith, rest, n)
few_open (Deliver w s ∷ past) = let rest = few_open past in let n = length-append (open_runs past) (Source s ∷ []) in omega (arith, rest, n)
few_open (End w b ∷ past) = let rest = few_open past in let n = fewer (λ run. not (same_run (Block b) run)) (open_runs past) in omega (arith, rest, n)
few_open (DeliverEnd w s ∷ past) = let rest = few_open past in let n = fewer (λ run. not (same_run (Source s) run)) (open_runs past) in omega (arith, rest, n)
few_open (e ∷ past) = let rest = few_open past in omega (arith, rest)

hold_more : (o : ℕ) (act : Option Act) (n : ℕ) → hold_after o act n ≤ n + 1
hold_more o (Some (Suspend p)) n = elim (p.0 == o) as (λ t. cond t (n + 1) n ≤ n + 1) [ true ↦ omega arith | false ↦ omega arith ]
hold_more o (Some (Resume p)) n = elim (p.0 == o) as (λ t. cond t (n - 1) n ≤ n + 1) [ true ↦ omega arith | false ↦ omega arith ]
hold_more o act n = omega arith

few_holds : (plan : PlanView) (past : List Event) (o : ℕ) → hold plan past o ≤ length past
few_holds plan [] o = omega arith
few_holds plan (e ∷ past) o = let rest = few_holds plan past o in let m = hold_more o (act_of plan e) (hold plan past o) in omega (arith, rest, m)

few_acts : (past : List Event) (run : Run) → acts_done past run ≤ length past
few_acts [] run = omega arith
few_acts (Acted w r i ∷ past) run =
    let rest = few_acts past run in elim (same_run r run) as (λ t. cond t (acts_done past run + 1) (acts_done past run) ≤ suc (length past)) [ true ↦ omega (arith, rest) | false ↦ omega (arith, rest) ]
few_acts (Start w b ∷ past) run = let rest = few_acts past run in elim (same_run (Block b) run) as (λ t. cond t 0 (acts_done past run) ≤ suc (length past)) [ true ↦ omega arith | false ↦ omega (arith, rest) ]
few_acts (Deliver w s ∷ past) run = let rest = few_acts past run in elim (same_run (Source s) run) as (λ t. cond t 0 (acts_done past run) ≤ suc (length past)) [ true ↦ omega arith | false ↦ omega (arith, rest) ]
few_acts (e ∷ past) run = let rest = few_acts past run in omega (arith, rest)

-- an act adds a member, or enters, or does neither
one_member : (g : ℕ) (act : Option Act) (xs : List ℕ) → length (cons_option (member_of g act) xs) + cond {A = ℕ} (enters g act) 1 0 ≤ length xs + 1
one_member g (Some (GroupAsync h q b)) xs = elim (h.0 == g) as (λ t. length (cons_option (cond t (Some b.0) None) xs) + 0 ≤ length xs + 1) [ true ↦ omega arith | false ↦ omega arith ]
one_member g (Some (Enter h)) xs = elim (h.0 == g) as (λ t. length xs + cond {A = ℕ} t 1 0 ≤ length xs + 1) [ true ↦ omega arith | false ↦ omega arith ]
one_member g act xs = omega arith

few_members : (plan : PlanView) (past : List Event) (g : ℕ) → length (members plan past g) + count_by (λ e. enters g (act_of plan e)) past ≤ length past
few_members plan [] g = omega arith
few_members plan (e ∷ past) g =
    let rest = few_members plan past g in
    let one = one_member g (act_of plan e) (members plan past g) in
    let c = count_by-cons (λ x. enters g (act_of plan x)) e past in
    omega (arith, rest, one, c)

few_counted : (plan : PlanView) (past : List Event) (g : ℕ) → count plan past g ≤ length past
few_counted plan past g =
    let m = few_members plan past g in
    let f = fewer (λ b. not (is_ended past b)) (members plan past g) in
    omega (arith, m, f)

now_low : (plan : PlanView) (past : List Event) → IsLawful plan past → now past ≤ plan.until
unfolding may_tick
now_low plan [] lawful = omega arith
now_low plan (Tick t ∷ past) lawful = leb-true t plan.until (and_parts (leb t plan.until) _ (and_parts (ltb (now past) t) _ (at_tick plan past t lawful.1)).1).0
now_low plan (e ∷ past) lawful = now_low plan past lawful.0

-- ## The numbers of the view

pub record MostSmall (plan : PlanView) (past : List Event) (v : MachineView) : Type 0 where
  pub refs : (o : ℕ) → refs_at v o ≤ length past - 1 + 1
  pub holds : (o : ℕ) → hold_at v.holds o ≤ length past
  pub barriers : (n : ℕ) → barriers_at v.drains n ≤ length past
  pub counts : (g : ℕ) → count_at v.groups g ≤ length past
  pub entered : (g : ℕ) → entered_at v.groups g ≤ count_at v.groups g
  pub signals : (s : ℕ) → signals_at v.semas s ≤ length past
  pub moment : v.timers.moment ≤ plan.until
  pub block_acts : (b : ℕ) → (block_at v b).done ≤ length past
  pub handler_acts : (s : ℕ) → (handler_at v s).done ≤ length past
  pub running : v.running ≤ length past

pub most_small : (plan : PlanView) (past : List Event) (v : MachineView) → IsLawful plan past → AllTies plan past v → MostSmall plan past v
most_small plan past v lawful t =
    let open_few = few_open past in
    record {
      refs = λ o.
          ⊎_elim
          (λ (low : o < length plan.objects). let c = t.references.counted o low in let f = few_retains plan past o lawful in omega (arith, c, f))
          (λ (high : length plan.objects ≤ o). let long = t.parts.refs in let z : refs_at v o ≡ 0 = get_or_past v.refs o 0 (omega (arith, high, long)) in omega (arith, z))
          (cases_lt o (length plan.objects));
      holds = λ o. let h = t.holds.holds o in let f = few_holds plan past o in omega (arith, h, f);
      barriers = λ n. let h = t.drains.barriers n in let f = few (is_barrier_on plan past n) (open_runs past) in omega (arith, h, f, open_few);
      counts = λ g. let h = t.groups.counts g in let f = few_counted plan past g in omega (arith, h, f);
      entered = λ g. let h = t.groups.counts g in let x = t.groups.entered g in omega (arith, h, x);
      signals = λ s. let h = t.semas.signals s in let f = few (λ e. signals s (act_of plan e)) past in omega (arith, h, f);
      moment = let h = t.timers.moment in let f = now_low plan past lawful in omega (arith, h, f);
      block_acts = λ b. let h = t.blocks.done b in let f = few_acts past (Block (record { 0 = b })) in omega (arith, h, f);
      handler_acts = λ s. let h = t.handlers.done s in let f = few_acts past (Source (record { 0 = s })) in omega (arith, h, f);
      running = let h = t.totals.running in let f = few (λ run. is_none (parked_by plan past run)) (open_runs past) in omega (arith, h, f, open_few);
    }
