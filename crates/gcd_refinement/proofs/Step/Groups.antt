-- What groups count after an event.
use Rattle.std.proofs.Common.{◌≡◌, ℕ, zero, suc, ◌+◌, ◌-◌, ◌<◌, ◌==◌, Bool, true, false, not, ◌&&◌, ◌||◌, cond, List, [], ◌∷◌, length, filter, Option, Some, None, is_some, refl, ap, sym, ◌∙◌, arith, ⊎_elim, eq-eqb}
use Rattle.std.specs.List.{slice_index, count_by, cons_option}
use Rattle.std.proofs.lemmas.Bool.{cases_eq, and_parts, both_ways}
use Rattle.std.proofs.lemmas.List.Sums.{length-filter}
use Rattle.gcd_plan.specs.PlanView.{PlanView}
use Rattle.gcd_plan.specs.Kinds.{has_kind, is_group_kind, is_queue}
use Rattle.gcd_plan.specs.Validity.{IsPlan, is_declared}
use Rattle.gcd_plan.specs.declared.act.Act.{Act}
use Rattle.gcd_plan.specs.declared.act.Act.TheVariants.{GroupAsync, Enter, Leave, Notify}
use Rattle.gcd_plan.specs.declared.numbers.Blk.{Blk}
use Rattle.gcd_plan.specs.declared.numbers.Obj.{Obj}
use Rattle.gcd_plan.proofs.Within.{has_object}
use Rattle.gcd_event.specs.declared.event.Event.{Event}
use Rattle.gcd_event.specs.declared.event.Event.TheVariants.{End}
use Rattle.gcd_history.specs.Runs.{act_of, is_ended}
use Rattle.gcd_history.specs.Groups.{member_of, enters, leaves, entered, count}
use Rattle.gcd_history.specs.Permitted.{IsLawful}
use Rattle.gcd_plan.proofs.Sums.{count_by-cons}
use Rattle.gcd_history.proofs.Blocks.StartedOnce.{at_its_end, open_not_ended}
use Rattle.gcd_history.proofs.Blocks.SubmittedOnNodes.{recorded_fits}
use Rattle.gcd_group.specs.GroupsView.{GroupsView, count_at, entered_at, with_fired, with_one_less, with_entered, with_notify}
use Rattle.gcd_refinement.specs.MachineView.{MachineView, block_at}
use Rattle.gcd_refinement.specs.Shape.{PartsFit, OwnFit}
use Rattle.gcd_refinement.specs.Sleepers.{grouped, group_of}
use Rattle.gcd_refinement.specs.Ties.{BlocksAre}
use Rattle.gcd_refinement.specs.After.{fired_times, groups_by, member_ended, groups_after}
use Rattle.gcd_refinement.proofs.Lists.Writes.{one_more, one_less}
use Rattle.gcd_refinement.proofs.LawfulActs.{proper, proper_parts}
use Rattle.gcd_refinement.proofs.Groups.Members.{members, is_group, member_once, unended, without}
use Rattle.gcd_refinement.proofs.Groups.Moves.{fired_count}
use Rattle.gcd_history.proofs.Tree.TargetActs.{code_none}

-- ## What fires counts nothing

fired_entered : (n : ℕ) (groups : GroupsView) (g k : ℕ) → entered_at (fired_times n groups g) k ≡ entered_at groups k
fired_entered zero groups g k = refl
fired_entered (suc n) groups g k = fired_entered n (with_fired groups g) g k

-- ## The view

-- the act adds a member to group k
abbrev pub adds : ℕ → Option Act → Bool
adds k (Some (GroupAsync h q c)) = h.0 == k
adds k _ = false

-- what an act names is in the lists, and what it leaves was entered, and counts
pub record Fits (groups : GroupsView) (act : Option Act) : Type 0 where
  pub joined : (g q : Obj) (b : Blk) → act ≡ Some (GroupAsync g q b) → g.0 < length groups.counts
  pub come : (g : Obj) → act ≡ Some (Enter g) → (g.0 < length groups.counts) × (g.0 < length groups.entered)
  pub gone : (g : Obj) → act ≡ Some (Leave g) → (g.0 < length groups.counts) × (g.0 < length groups.entered) × (0 < count_at groups g.0) × (0 < entered_at groups g.0)

counts_by : (groups : GroupsView) (at : ℕ) (act : Option Act) (k n : ℕ) → Fits groups act → count_at groups k ≡ n
    → count_at (groups_by groups at act) k + cond {A = ℕ} (leaves k act) 1 0 ≡ n + (cond {A = ℕ} (adds k act) 1 0 + cond {A = ℕ} (enters k act) 1 0)
counts_by groups at (Some (GroupAsync g q b)) k n fits e = let m = one_more groups.counts g.0 k n (fits.joined g q b refl) e in omega (arith, m)
counts_by groups at (Some (Enter g)) k n fits e = let m = one_more groups.counts g.0 k n (fits.come g refl).0 e in omega (arith, m)
counts_by groups at (Some (Leave g)) k n fits e =
    let f = fits.gone g refl in
    let view = with_entered (with_one_less groups g.0 at) g.0 (entered_at groups g.0 - 1) in
    let m = one_less groups.counts g.0 k n f.0 f.2 e in
    let c = fired_count (slice_index view.due g.0) view g.0 k in omega (arith, m, c)
counts_by groups at (Some (Notify g q b)) k n fits e =
    let view = with_notify groups g.0 b in let c = fired_count (slice_index view.due g.0) view g.0 k in omega (arith, c, e)
counts_by groups at _ k n fits e = omega (arith, e)

entered_by : (groups : GroupsView) (at : ℕ) (act : Option Act) (k n : ℕ) → Fits groups act → entered_at groups k ≡ n
    → entered_at (groups_by groups at act) k + cond {A = ℕ} (leaves k act) 1 0 ≡ n + cond {A = ℕ} (enters k act) 1 0
entered_by groups at (Some (Enter g)) k n fits e = let m = one_more groups.entered g.0 k n (fits.come g refl).1 e in omega (arith, m)
entered_by groups at (Some (Leave g)) k n fits e =
    let f = fits.gone g refl in
    let view = with_entered (with_one_less groups g.0 at) g.0 (entered_at groups g.0 - 1) in
    let m = one_less groups.entered g.0 k n f.1 f.3 e in
    let c = fired_entered (slice_index view.due g.0) view g.0 k in omega (arith, m, c)
entered_by groups at (Some (Notify g q b)) k n fits e =
    let view = with_notify groups g.0 b in let c = fired_entered (slice_index view.due g.0) view g.0 k in omega (arith, c, e)
entered_by groups at _ k n fits e = omega (arith, e)

-- ## The history

-- the members that have not ended
abbrev going : List Event → List ℕ → ℕ
going past xs = length (filter (λ b. not (is_ended past b)) xs)

-- one member more, which has not ended
going_more : (past : List Event) (act : Option Act) (k : ℕ) (xs : List ℕ) → ((b : ℕ) → is_some (grouped b act) ≡ true → is_ended past b ≡ false)
    → going past (cons_option (member_of k act) xs) ≡ going past xs + cond {A = ℕ} (adds k act) 1 0
going_more past (Some (GroupAsync h q c)) k xs fresh =
    let own : is_some (grouped c.0 (Some (GroupAsync h q c))) ≡ true = ap (λ v. is_some (cond v (Some h) None)) (eq-eqb c.0 c.0 refl) in
    let goes : not (is_ended past c.0) ≡ true = ap not (fresh c.0 own) in
    elim (h.0 == k) as (λ v. going past (cons_option (cond v (Some c.0) None) xs) ≡ going past xs + cond {A = ℕ} v 1 0) [
      | true ↦
          let a = length-filter (λ b. not (is_ended past b)) (c.0 ∷ xs) in
          let d = count_by-cons (λ b. not (is_ended past b)) c.0 xs in
          let f = length-filter (λ b. not (is_ended past b)) xs in
          let g = ap (λ v. cond {A = ℕ} v 1 0) goes in
          omega (arith, a, d, f, g)
      | false ↦ omega arith
    ]
going_more past _ k xs fresh = omega arith

-- ## The step

-- the two ties of the counts
pub record CountsAre (plan : PlanView) (past : List Event) (groups : GroupsView) : Type 0 where
  pub counts : (g : ℕ) → count_at groups g ≡ count plan past g
  pub entered : (g : ℕ)
      → entered_at groups g + count_by (λ e. leaves g (act_of plan e)) past ≡ count_by (λ e. enters g (act_of plan e)) past

-- what a leave that is no misuse finds
entered_some : (plan : PlanView) (past : List Event) (groups : GroupsView) (g : ℕ) → CountsAre plan past groups → (entered plan past g == 0) ≡ false → (0 < count_at groups g) × (0 < entered_at groups g)
entered_some plan past groups g ties none =
    let c = ties.counts g in
    let x = ties.entered g in
    ⊎_elim
    (λ (z : entered plan past g ≡ 0). absurd (both_ways (entered plan past g == 0) none (eq-eqb (entered plan past g) 0 z)))
    (λ (some : entered plan past g ≡ 0 → ⊥). let p : 0 < entered plan past g = above (entered plan past g) some in (omega (arith, c, x, p), omega (arith, x, p)))
    (cases_eq (entered plan past g) 0)
  where
    above : (n : ℕ) → (n ≡ 0 → ⊥) → 0 < n
    above n h = omega (arith, h)

pub fits_at : (plan : PlanView) (past : List Event) (e : Event) (v : MachineView) → IsPlan plan → IsLawful plan (e ∷ past) → PartsFit plan v → CountsAre plan past v.groups → Fits v.groups (act_of plan e)
fits_at plan past e v valid lawful fit ties =
    let long = fit.counts in
    let wide = fit.entered in
    record {
      joined = λ g q b at.
          let low = has_object is_group_kind plan g.0 (and_parts (has_kind is_group_kind plan g.0) (is_queue plan q.0 && is_declared plan b) (recorded_fits plan e (GroupAsync g q b) valid at)).0 in
          omega (arith, low, long);
      come = λ g at. let low = has_object is_group_kind plan g.0 (recorded_fits plan e (Enter g) valid at) in (omega (arith, low, long), omega (arith, low, wide));
      gone = λ g at.
          let low = has_object is_group_kind plan g.0 (recorded_fits plan e (Leave g) valid at) in
          let none = (proper_parts plan past (Leave g) (proper plan past e (Leave g) lawful at)).1 in
          let some = entered_some plan past v.groups g.0 ties (code_none 2 (entered plan past g.0 == 0) [] none).0 in
          (omega (arith, low, long), omega (arith, low, wide), some.0, some.1);
    }

-- any event but an End
by_acts : (plan : PlanView) (past : List Event) (e : Event) (v : MachineView) → IsPlan plan → IsLawful plan (e ∷ past) → PartsFit plan v → CountsAre plan past v.groups
    → groups_after plan v e ≡ groups_by v.groups (v.len + 1) (act_of plan e)
    → ((k : ℕ) (xs : List ℕ) → going (e ∷ past) xs ≡ going past xs)
    → CountsAre plan (e ∷ past) (groups_after plan v e)
by_acts plan past e v valid lawful fit ties same goes =
    let fits = fits_at plan past e v valid lawful fit ties in
    record {
      counts = λ k.
          let r = count_by-cons (λ x. enters k (act_of plan x)) e past in
          let s = count_by-cons (λ x. leaves k (act_of plan x)) e past in
          let a = counts_by v.groups (v.len + 1) (act_of plan e) k _ fits (ties.counts k) in
          let b = entered_by v.groups (v.len + 1) (act_of plan e) k _ fits refl in
          let c = ap (λ groups. count_at groups k) same in
          let d = goes k (members plan (e ∷ past) k) in
          let f = going_more past (act_of plan e) k (members plan past k) (λ b h. unended plan past e b valid lawful h) in
          let x = ties.entered k in
          omega (arith, r, s, a, b, c, d, f, x);
      entered = λ k.
          let r = count_by-cons (λ x. enters k (act_of plan x)) e past in
          let s = count_by-cons (λ x. leaves k (act_of plan x)) e past in
          let b = entered_by v.groups (v.len + 1) (act_of plan e) k _ fits refl in
          let c = ap (λ groups. entered_at groups k) same in
          let x = ties.entered k in
          omega (arith, r, s, b, c, x);
    }

ended_counts : (groups : GroupsView) (at : ℕ) (o : Option Obj) (k n : ℕ) → ((g : Obj) → o ≡ Some g → (g.0 < length groups.counts) × (0 < count_at groups g.0)) → count_at groups k ≡ n
    → count_at (member_ended groups at o) k + cond {A = ℕ} (is_group k o) 1 0 ≡ n
ended_counts groups at None k n fits e = omega (arith, e)
ended_counts groups at (Some g) k n fits e =
    let f = fits g refl in
    let view = with_one_less groups g.0 at in
    let m = one_less groups.counts g.0 k n f.0 f.1 e in
    let c = fired_count (slice_index view.due g.0) view g.0 k in omega (arith, m, c)

ended_entered : (groups : GroupsView) (at : ℕ) (o : Option Obj) (k : ℕ) → entered_at (member_ended groups at o) k ≡ entered_at groups k
ended_entered groups at None k = refl
ended_entered groups at (Some g) k = fired_entered (slice_index (with_one_less groups g.0 at).due g.0) (with_one_less groups g.0 at) g.0 k

-- an End takes its block off the members that go on
end_goes : (plan : PlanView) (past : List Event) (w : ℕ) (b : Blk) (k : ℕ) → IsPlan plan → IsLawful plan (End w b ∷ past)
    → going (End w b ∷ past) (members plan past k) + cond {A = ℕ} (is_group k (group_of plan past b.0)) 1 0 ≡ going past (members plan past k)
end_goes plan past w b k valid lawful =
    let live = at_its_end plan past b.0 (End w b) lawful.1 (eq-eqb b.0 b.0 refl) in
    let goes = open_not_ended plan past lawful.0 b live in
    let t = without (is_ended past) (members plan past k) b.0 goes in
    let m = member_once plan past b.0 k valid lawful.0 in
    let f = length-filter (λ c. not (b.0 == c || is_ended past c)) (members plan past k) in
    let g = length-filter (λ c. not (is_ended past c)) (members plan past k) in
    omega (arith, t, m, f, g)

by_end : (plan : PlanView) (past : List Event) (w : ℕ) (b : Blk) (v : MachineView) → IsPlan plan → IsLawful plan (End w b ∷ past) → PartsFit plan v → OwnFit plan v → CountsAre plan past v.groups → BlocksAre plan past v
    → CountsAre plan (End w b ∷ past) (groups_after plan v (End w b))
by_end plan past w b v valid lawful fit own ties blocks =
    let o = (block_at v b.0).group in
    let is = blocks.group b.0 in
    let long = fit.counts in
    let fits : (g : Obj) → o ≡ Some g → (g.0 < length v.groups.counts) × (0 < count_at v.groups g.0) = λ g at.
    let low = own.groups b.0 g at in
    let t = end_goes plan past w b g.0 valid lawful in
    let one : cond {A = ℕ} (is_group g.0 (group_of plan past b.0)) 1 0 ≡ 1 = ap (λ p. cond {A = ℕ} (is_group g.0 p) 1 0) (sym is ∙ at) ∙ ap (λ v. cond {A = ℕ} v 1 0) (eq-eqb g.0 g.0 refl) in
    let c = ties.counts g.0 in
    (omega (arith, low, long), omega (arith, t, one, c)) in
    record {
      counts = λ k.
          let r = count_by-cons (λ x. enters k (act_of plan x)) (End w b) past in
          let s = count_by-cons (λ x. leaves k (act_of plan x)) (End w b) past in
          let a = ended_counts v.groups (v.len + 1) o k _ fits (ties.counts k) in
          let t = end_goes plan past w b k valid lawful in
          let m = ap (λ p. cond {A = ℕ} (is_group k p) 1 0) is in
          omega (arith, r, s, a, t, m);
      entered = λ k.
          let r = count_by-cons (λ x. enters k (act_of plan x)) (End w b) past in
          let s = count_by-cons (λ x. leaves k (act_of plan x)) (End w b) past in
          let a = ended_entered v.groups (v.len + 1) o k in
          let x = ties.entered k in
          omega (arith, r, s, a, x);
    }

pub counts_step : (plan : PlanView) (past : List Event) (e : Event) (v : MachineView) → IsPlan plan → IsLawful plan (e ∷ past) → PartsFit plan v → OwnFit plan v → CountsAre plan past v.groups → BlocksAre plan past v
    → CountsAre plan (e ∷ past) (groups_after plan v e)
counts_step plan past (End w b) v valid lawful fit own ties blocks = by_end plan past w b v valid lawful fit own ties blocks
counts_step plan past e v valid lawful fit own ties blocks = by_acts plan past e v valid lawful fit ties refl (λ k xs. refl)

-- ## Counts, from one position to the next

-- after an act
pub acts_count : (plan : PlanView) (past : List Event) (e : Event) (v : MachineView) → IsPlan plan → IsLawful plan (e ∷ past) → PartsFit plan v → CountsAre plan past v.groups
    → groups_after plan v e ≡ groups_by v.groups (v.len + 1) (act_of plan e) → CountsAre plan (e ∷ past) (groups_after plan v e) → (k : ℕ)
    → count plan (e ∷ past) k + cond {A = ℕ} (leaves k (act_of plan e)) 1 0 ≡ count plan past k + (cond {A = ℕ} (adds k (act_of plan e)) 1 0 + cond {A = ℕ} (enters k (act_of plan e)) 1 0)
acts_count plan past e v valid lawful fit ties same next k =
    let a = counts_by v.groups (v.len + 1) (act_of plan e) k _ (fits_at plan past e v valid lawful fit ties) (ties.counts k) in
    let b = next.counts k in
    let c = ap (λ groups. count_at groups k) same in
    omega (arith, a, b, c)

-- after an End
pub end_counts : (plan : PlanView) (past : List Event) (w : ℕ) (b : Blk) → IsPlan plan → IsLawful plan (End w b ∷ past) → (k : ℕ)
    → count plan (End w b ∷ past) k + cond {A = ℕ} (is_group k (group_of plan past b.0)) 1 0 ≡ count plan past k
end_counts plan past w b valid lawful k =
    let r = count_by-cons (λ x. enters k (act_of plan x)) (End w b) past in
    let s = count_by-cons (λ x. leaves k (act_of plan x)) (End w b) past in
    let t = end_goes plan past w b k valid lawful in
    omega (arith, r, s, t)
