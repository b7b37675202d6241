-- The group that an event empties, told by the view, is the one that counts none after it and counted some before.
use Rattle.std.proofs.Common.{◌≡◌, ⊎_elim, ℕ, ◌+◌, ◌≤◌, ◌==◌, Bool, true, false, not, ◌&&◌, cond, List, ◌∷◌, Option, Some, None, refl, ap, sym, ◌∙◌, arith, eq-eqb, ne_eqb}
use Rattle.std.proofs.lemmas.Bool.{cases_eq, eqb-true}
use Rattle.gcd_plan.specs.PlanView.{PlanView}
use Rattle.gcd_plan.specs.Validity.{IsPlan}
use Rattle.gcd_plan.specs.declared.act.Act.{Act}
use Rattle.gcd_plan.specs.declared.act.Act.TheVariants.{Leave}
use Rattle.gcd_plan.specs.declared.numbers.Obj.{Obj}
use Rattle.gcd_event.specs.declared.event.Event.{Event}
use Rattle.gcd_event.specs.declared.event.Event.TheVariants.{End}
use Rattle.gcd_history.specs.Runs.{act_of}
use Rattle.gcd_history.specs.Groups.{count, leaves, enters}
use Rattle.gcd_history.specs.Permitted.{IsLawful}
use Rattle.gcd_group.specs.GroupsView.{count_at}
use Rattle.gcd_refinement.specs.MachineView.{MachineView, block_at}
use Rattle.gcd_refinement.specs.Shape.{PartsFit, OwnFit}
use Rattle.gcd_refinement.specs.Ties.{GroupsAre, BlocksAre}
use Rattle.gcd_refinement.specs.Submits.{left_by, lessened, last_of, emptied_by}
use Rattle.gcd_refinement.proofs.Groups.Members.{is_group}
use Rattle.gcd_refinement.proofs.Step.Groups.{counts_step, acts_count, end_counts, adds}
use Rattle.gcd_refinement.proofs.Step.Submits.{counts_of}

-- the group counts one less after the event, and no other counts less
record Lessens (plan : PlanView) (past : List Event) (e : Event) (o : Option Obj) : Type 0 where
  less : (k : ℕ) → is_group k o ≡ true → count plan (e ∷ past) k + 1 ≡ count plan past k
  more : (k : ℕ) → is_group k o ≡ false → count plan past k ≤ count plan (e ∷ past) k

by_act : (plan : PlanView) (past : List Event) (e : Event) (act : Option Act)
    → ((k : ℕ) → count plan (e ∷ past) k + cond {A = ℕ} (leaves k act) 1 0 ≡ count plan past k + (cond {A = ℕ} (adds k act) 1 0 + cond {A = ℕ} (enters k act) 1 0))
    → Lessens plan past e (left_by act)
by_act plan past e (Some (Leave g)) by = record {
  less = λ k is. let b = by k in let one = ap (λ v. cond {A = ℕ} v 1 0) is in omega (arith, b, one);
  more = λ k is. let b = by k in let one = ap (λ v. cond {A = ℕ} v 1 0) is in omega (arith, b, one);
}
by_act plan past e _ by = record {
  less = λ k is. cc;
  more = λ k is. let b = by k in omega (arith, b);
}

by_end : (plan : PlanView) (past : List Event) (e : Event) (o : Option Obj) → ((k : ℕ) → count plan (e ∷ past) k + cond {A = ℕ} (is_group k o) 1 0 ≡ count plan past k) → Lessens plan past e o
by_end plan past e o by = record {
  less = λ k is. let b = by k in let one = ap (λ v. cond {A = ℕ} v 1 0) is in omega (arith, b, one);
  more = λ k is. let b = by k in let one = ap (λ v. cond {A = ℕ} v 1 0) is in omega (arith, b, one);
}

-- how the event changes counts, where it is no End
pub event_counts : (plan : PlanView) (past : List Event) (e : Event) (v : MachineView) → IsPlan plan → IsLawful plan (e ∷ past) → PartsFit plan v → OwnFit plan v → GroupsAre plan past v → BlocksAre plan past v
    → ((w : ℕ) (b : _) → e ≡ End w b → ⊥) → (k : ℕ)
    → count plan (e ∷ past) k + cond {A = ℕ} (leaves k (act_of plan e)) 1 0 ≡ count plan past k + (cond {A = ℕ} (adds k (act_of plan e)) 1 0 + cond {A = ℕ} (enters k (act_of plan e)) 1 0)
event_counts plan past (End w b) v valid lawful fit own ties blocks none k = absurd (none w b refl)
event_counts plan past e v valid lawful fit own ties blocks none k =
    acts_count plan past e v valid lawful fit (counts_of plan past v ties) refl (counts_step plan past e v valid lawful fit own (counts_of plan past v ties) blocks) k

lessens : (plan : PlanView) (past : List Event) (e : Event) (v : MachineView) → IsPlan plan → IsLawful plan (e ∷ past) → PartsFit plan v → OwnFit plan v → GroupsAre plan past v → BlocksAre plan past v → Lessens plan past e (lessened plan v e)
lessens plan past (End w b) v valid lawful fit own ties blocks =
    by_end plan past (End w b) (block_at v b.0).group (λ k.
    let c = end_counts plan past w b valid lawful k in let m = ap (λ p. cond {A = ℕ} (is_group k p) 1 0) (blocks.group b.0) in omega (arith, c, m))
lessens plan past e v valid lawful fit own ties blocks =
    by_act plan past e (act_of plan e) (acts_count plan past e v valid lawful fit (counts_of plan past v ties) refl (counts_step plan past e v valid lawful fit own (counts_of plan past v ties) blocks))

-- the group counts none after the event, and counted some before
abbrev pub is_emptied : PlanView → List Event → Event → ℕ → Bool
is_emptied plan past e k = count plan (e ∷ past) k == 0 && not (count plan past k == 0)

not_less : (plan : PlanView) (past : List Event) (e : Event) (k : ℕ) → count plan past k ≤ count plan (e ∷ past) k → is_emptied plan past e k ≡ false
not_less plan past e k more =
    ⊎_elim
    (λ (now : count plan (e ∷ past) k ≡ 0).
    let was : count plan past k ≡ 0 = omega (arith, now, more) in
    ap (λ v. v && not (count plan past k == 0)) (eq-eqb (count plan (e ∷ past) k) 0 now) ∙ ap not (eq-eqb (count plan past k) 0 was))
    (λ (some : count plan (e ∷ past) k ≡ 0 → ⊥). ap (λ v. v && not (count plan past k == 0)) (ne_eqb (count plan (e ∷ past) k) 0 some))
    (cases_eq (count plan (e ∷ past) k) 0)

last_is : (plan : PlanView) (past : List Event) (e : Event) (v : MachineView) (o : Option Obj) (k : ℕ) → GroupsAre plan past v → Lessens plan past e o → is_group k (last_of v o) ≡ is_emptied plan past e k
last_is plan past e v None k ties l = sym (not_less plan past e k (l.more k refl))
last_is plan past e v (Some g) k ties l =
    elim (g.0 == k) as (λ u. g.0 == k ≡ u → is_group k (cond (count_at v.groups g.0 == 1) (Some g) None) ≡ is_emptied plan past e k) [
      | true ↦ λ same.
          let d = l.less k same in
          let c : count_at v.groups g.0 ≡ count plan past k = ap (count_at v.groups) (eqb-true g.0 k same) ∙ ties.counts k in
          ⊎_elim
          (λ (one : count_at v.groups g.0 ≡ 1).
          let now : count plan (e ∷ past) k ≡ 0 = omega (arith, d, c, one) in
          ap (λ t. is_group k (cond t (Some g) None)) (eq-eqb (count_at v.groups g.0) 1 one)
          ∙ (same
          ∙ sym (ap (λ t. t && not (count plan past k == 0)) (eq-eqb (count plan (e ∷ past) k) 0 now) ∙ ap not (ne_eqb (count plan past k) 0 (λ z. omega (arith, d, z))))))
          (λ (many : count_at v.groups g.0 ≡ 1 → ⊥).
          ap (λ t. is_group k (cond t (Some g) None)) (ne_eqb (count_at v.groups g.0) 1 many)
          ∙ sym (ap (λ t. t && not (count plan past k == 0)) (ne_eqb (count plan (e ∷ past) k) 0 (λ z. many (omega (arith, d, c, z))))))
          (cases_eq (count_at v.groups g.0) 1)
      | false ↦ λ other.
          off (count_at v.groups g.0 == 1) other ∙ sym (not_less plan past e k (l.more k other))
    ] refl
  where
    off : (t : Bool) → (g.0 == k) ≡ false → is_group k (cond t (Some g) None) ≡ false
    off true h = h
    off false h = refl

pub emptied_is : (plan : PlanView) (past : List Event) (e : Event) (v : MachineView) (k : ℕ) → IsPlan plan → IsLawful plan (e ∷ past) → PartsFit plan v → OwnFit plan v → GroupsAre plan past v → BlocksAre plan past v
    → is_group k (emptied_by plan v e) ≡ is_emptied plan past e k
emptied_is plan past e v k valid lawful fit own ties blocks =
    last_is plan past e v (lessened plan v e) k ties (lessens plan past e v valid lawful fit own ties blocks)
