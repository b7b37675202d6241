-- What an event changes of who has a run: its worker takes a run that nobody had, gives one that it had, and whatever else is
-- had stays so.
use Rattle.std.proofs.Common.{◌≡◌, ℕ, Bool, true, false, not, ◌&&◌, ◌||◌, cond, ◌==◌, List, ◌∷◌, Option, Some, None, is_some, is_none, refl, ap, sym, ◌∙◌, subst}
use Rattle.std.specs.Option.{option_map_or}
use Rattle.std.proofs.lemmas.Bool.{eqb-true, or_left, both_ways}
use Rattle.std.proofs.lemmas.Option.{same_Some, none-some}
use Rattle.gcd_plan.specs.PlanView.{PlanView}
use Rattle.gcd_plan.specs.declared.act.Act.{Act}
use Rattle.gcd_plan.specs.declared.act.Act.TheVariants.{Sync, BarrierSync, GroupWait, Wait}
use Rattle.gcd_plan.specs.declared.numbers.Blk.{Blk}
use Rattle.gcd_plan.specs.declared.numbers.Obj.{Obj}
use Rattle.gcd_plan.specs.declared.numbers.Run.{Run}
use Rattle.gcd_plan.specs.declared.numbers.Run.TheVariants.{Block, Source}
use Rattle.gcd_event.specs.declared.event.Event.{Event}
use Rattle.gcd_event.specs.declared.event.Event.TheVariants.{Start, Act as Acted, Wake, End, Deliver, DeliverEnd}
use Rattle.gcd_history.specs.Runs.{same_run, is_open, act_at, last_worker, is_started}
use Rattle.gcd_history.specs.Parked.{awaited_by, is_parking, parked_by, awaited, has_run, is_busy, is_parked}
use Rattle.gcd_history.specs.Permitted.{IsLawful}
use Rattle.gcd_history.specs.Choice.{worker_of}
use Rattle.gcd_plan.proofs.Options.{some_from_is_some}
use Rattle.gcd_history.proofs.Runs.OneRun.{is_last, run_facts}
use Rattle.gcd_history.proofs.Runs.OpenOnce.{shut_at_deliver}
use Rattle.gcd_history.proofs.Runs.Open.{same_run-true, same_run-refl, is_open-step}
use Rattle.gcd_history.proofs.Permitted.Reasons.{at_start, at_act, at_wake, at_end, at_deliver, at_deliver_end}
use Rattle.gcd_history.proofs.Blocks.StartedOnce.{started_from_open}
use Rattle.gcd_history.proofs.Waits.Woken.{parked_facts}
use Rattle.gcd_history.specs.Held.{taken, given}

-- ## Who has a run

last_is : (o : Option ℕ) (w v : ℕ) → option_map_or (λ u. u == w) o false ≡ true → option_map_or (λ u. u == v) o false ≡ true → w ≡ v
last_is None w v h k = cc
last_is (Some u) w v h k = sym (eqb-true u w h) ∙ eqb-true u v k

-- a run is one worker's
pub one_worker : (plan : PlanView) (past : List Event) (w v : ℕ) (r : Run) → has_run plan past w r ≡ true → has_run plan past v r ≡ true → w ≡ v
one_worker plan past w v r h k = last_is (last_worker past r) w v (run_facts plan past w r h).last (run_facts plan past v r k).last

-- ## Taking

-- of an event that takes run r
pub record Takes (plan : PlanView) (past : List Event) (e : Event) (r : Run) : Type 0 where
  pub idle : is_busy plan past (worker_of e) ≡ false
  pub nobodys : (v : ℕ) → has_run plan past v r ≡ true → ⊥
  pub now : (v : ℕ) → has_run plan (e ∷ past) v r ≡ (worker_of e == v)

has_is : (plan : PlanView) (past : List Event) (w v : ℕ) (r : Run) → is_open past r ≡ true → parked_by plan past r ≡ None → last_worker past r ≡ Some w → has_run plan past v r ≡ (w == v)
unfolding has_run
has_is plan past w v r live unparked last =
    ap (λ b. b && (is_none (parked_by plan past r) && is_last past r v)) live
    ∙ ap (λ o. is_none o && is_last past r v) unparked
    ∙ ap (λ o. option_map_or (λ u. u == v) o false) last

starts_so : (plan : PlanView) (past : List Event) (w : ℕ) (b : Blk) → IsLawful plan (Start w b ∷ past) → Takes plan past (Start w b) (Block b)
starts_so plan past w b h =
    let facts = at_start plan past w b h.1 in
    let same = same_run-refl (Block b) in
    record {
      idle = facts.idle;
      nobodys = λ v own. both_ways (is_started past b.0) facts.fresh (started_from_open past b (run_facts plan past v (Block b) own).live);
      now = λ v. has_is plan (Start w b ∷ past) w v (Block b)
          (is_open-step (Start w b) past (Block b) ∙ or_left (same_run (Block b) (Block b)) (is_open past (Block b)) same)
          (ap (λ k. cond k None (parked_by plan past (Block b))) same)
          (ap (λ k. cond k (Some w) (last_worker past (Block b))) same);
    }

parked_awaits : (plan : PlanView) (past : List Event) (b : Blk) → is_parked plan past b.0 ≡ true → is_some (awaited plan past (Block b)) ≡ true
unfolding is_parked
parked_awaits plan past b parked = parked

wakes_so : (plan : PlanView) (past : List Event) (w : ℕ) (b : Blk) → IsLawful plan (Wake w b ∷ past) → Takes plan past (Wake w b) (Block b)
wakes_so plan past w b h =
    let facts = at_wake plan past w b h.1 in
    let same = same_run-refl (Block b) in
    let r = some_from_is_some (awaited plan past (Block b)) (parked_awaits plan past b facts.parked) in
    let parked = parked_facts plan past b r.0 r.1 in
    record {
      idle = facts.idle;
      nobodys = λ v own. both_ways (is_none (parked_by plan past (Block b))) (ap is_none parked.by) (run_facts plan past v (Block b) own).unparked;
      now = λ v. has_is plan (Wake w b ∷ past) w v (Block b)
          parked.live
          (ap (λ k. cond k None (parked_by plan past (Block b))) same)
          (ap (λ k. cond k (Some w) (last_worker past (Block b))) same);
    }

delivers_so : (plan : PlanView) (past : List Event) (w : ℕ) (s : Obj) → IsLawful plan (Deliver w s ∷ past) → Takes plan past (Deliver w s) (Source s)
delivers_so plan past w s h =
    let facts = at_deliver plan past w s h.1 in
    let same = same_run-refl (Source s) in
    record {
      idle = facts.idle;
      nobodys = λ v own. both_ways (is_open past (Source s)) (shut_at_deliver plan past w s h) (run_facts plan past v (Source s) own).live;
      now = λ v. has_is plan (Deliver w s ∷ past) w v (Source s)
          (is_open-step (Deliver w s) past (Source s) ∙ or_left (same_run (Source s) (Source s)) (is_open past (Source s)) same)
          (ap (λ k. cond k None (parked_by plan past (Source s))) same)
          (ap (λ k. cond k (Some w) (last_worker past (Source s))) same);
    }

pub takes : (plan : PlanView) (e : Event) (past : List Event) (r : Run) → IsLawful plan (e ∷ past) → taken e ≡ Some r → Takes plan past e r
takes plan (Start w b) past r h it = subst (λ k. Takes plan past (Start w b) k) (same_Some (Block b) r it) (starts_so plan past w b h)
takes plan (Wake w b) past r h it = subst (λ k. Takes plan past (Wake w b) k) (same_Some (Block b) r it) (wakes_so plan past w b h)
takes plan (Deliver w s) past r h it = subst (λ k. Takes plan past (Deliver w s) k) (same_Some (Source s) r it) (delivers_so plan past w s h)
takes plan e past r h it = absurd (none-some r it)

-- ## Giving

-- of an event that gives run r
pub record Gives (plan : PlanView) (past : List Event) (e : Event) (r : Run) : Type 0 where
  pub own : has_run plan past (worker_of e) r ≡ true
  pub nobodys : (v : ℕ) → has_run plan (e ∷ past) v r ≡ true → ⊥

ends_so : (plan : PlanView) (past : List Event) (w : ℕ) (b : Blk) → IsLawful plan (End w b ∷ past) → Gives plan past (End w b) (Block b)
ends_so plan past w b h = record {
  own = (at_end plan past w b h.1).own;
  nobodys = λ v own. both_ways (is_open (End w b ∷ past) (Block b))
      (is_open-step (End w b) past (Block b) ∙ ap (λ k. not k && is_open past (Block b)) (same_run-refl (Block b)))
      (run_facts plan (End w b ∷ past) v (Block b) own).live;
}

deliver_ends_so : (plan : PlanView) (past : List Event) (w : ℕ) (s : Obj) → IsLawful plan (DeliverEnd w s ∷ past) → Gives plan past (DeliverEnd w s) (Source s)
deliver_ends_so plan past w s h = record {
  own = (at_deliver_end plan past w s h.1).own;
  nobodys = λ v own. both_ways (is_open (DeliverEnd w s ∷ past) (Source s))
      (is_open-step (DeliverEnd w s) past (Source s) ∙ ap (λ k. not k && is_open past (Source s)) (same_run-refl (Source s)))
      (run_facts plan (DeliverEnd w s ∷ past) v (Source s) own).live;
}

-- an act that parks awaits something, and another nothing
pub awaits_where_parks : (plan : PlanView) (past : List Event) (act : Option Act) → is_none (awaited_by plan past act) ≡ not (is_parking act)
awaits_where_parks plan past (Some (Sync q b)) = refl
awaits_where_parks plan past (Some (BarrierSync q b)) = refl
awaits_where_parks plan past (Some (GroupWait g)) = refl
awaits_where_parks plan past (Some (Wait s)) = refl
awaits_where_parks plan past act = refl

parks_so : (plan : PlanView) (past : List Event) (w : ℕ) (r : Run) (i : ℕ) → IsLawful plan (Acted w r i ∷ past) → is_parking (act_at plan r i) ≡ true → Gives plan past (Acted w r i) r
parks_so plan past w r i h parking = record {
  own = (at_act plan past w r i h.1).own;
  nobodys = λ v own. both_ways (is_none (parked_by plan (Acted w r i ∷ past) r))
      (ap (λ k. is_none (cond k (awaited_by plan past (act_at plan r i)) (parked_by plan past r))) (same_run-refl r)
      ∙ awaits_where_parks plan past (act_at plan r i) ∙ ap not parking)
      (run_facts plan (Acted w r i ∷ past) v r own).unparked;
}

parking_of : (v : Bool) (q r : Run) → cond v (Some q) None ≡ Some r → (v ≡ true) × (q ≡ r)
parking_of true q r h = (refl, same_Some q r h)
parking_of false q r h = absurd (none-some r h)

pub gives : (plan : PlanView) (e : Event) (past : List Event) (r : Run) → IsLawful plan (e ∷ past) → given plan e ≡ Some r → Gives plan past e r
gives plan (End w b) past r h it = subst (λ k. Gives plan past (End w b) k) (same_Some (Block b) r it) (ends_so plan past w b h)
gives plan (DeliverEnd w s) past r h it = subst (λ k. Gives plan past (DeliverEnd w s) k) (same_Some (Source s) r it) (deliver_ends_so plan past w s h)
gives plan (Acted w q i) past r h it =
    let parts = parking_of (is_parking (act_at plan q i)) q r it in
    subst (λ k. Gives plan past (Acted w q i) k) parts.1 (parks_so plan past w q i h parts.0)
gives plan e past r h it = absurd (none-some r it)

-- ## All else stays

-- the run is r
abbrev pub is_it : Option Run → Run → Bool
is_it o r = option_map_or (λ q. same_run q r) o false

pub it_is : (o : Option Run) (r : Run) → is_it o r ≡ true → o ≡ Some r
it_is None r h = cc
it_is (Some q) r h = ap Some (same_run-true q r h)

same_has : (plan : PlanView) (past now : List Event) (v : ℕ) (r : Run) → is_open now r ≡ is_open past r → is_none (parked_by plan now r) ≡ is_none (parked_by plan past r) → last_worker now r ≡ last_worker past r → has_run plan now v r ≡ has_run plan past v r
unfolding has_run
same_has plan past now v r live unparked last =
    ap (λ b. b && (is_none (parked_by plan now r) && is_last now r v)) live
    ∙ ap (λ b. is_open past r && (b && is_last now r v)) unparked
    ∙ ap (λ o. is_open past r && (is_none (parked_by plan past r) && option_map_or (λ u. u == v) o false)) last

pub stays : (plan : PlanView) (e : Event) (past : List Event) (v : ℕ) (r : Run) → IsLawful plan (e ∷ past) → is_it (taken e) r ≡ false → is_it (given plan e) r ≡ false → has_run plan (e ∷ past) v r ≡ has_run plan past v r
stays plan (Start w b) past v r h apart other = same_has plan past (Start w b ∷ past) v r
    (is_open-step (Start w b) past r ∙ ap (λ k. k || is_open past r) apart)
    (ap (λ k. is_none (cond k None (parked_by plan past r))) apart)
    (ap (λ k. cond k (Some w) (last_worker past r)) apart)
stays plan (Wake w b) past v r h apart other = same_has plan past (Wake w b ∷ past) v r
    refl
    (ap (λ k. is_none (cond k None (parked_by plan past r))) apart)
    (ap (λ k. cond k (Some w) (last_worker past r)) apart)
stays plan (Deliver w s) past v r h apart other = same_has plan past (Deliver w s ∷ past) v r
    (is_open-step (Deliver w s) past r ∙ ap (λ k. k || is_open past r) apart)
    (ap (λ k. is_none (cond k None (parked_by plan past r))) apart)
    (ap (λ k. cond k (Some w) (last_worker past r)) apart)
stays plan (End w b) past v r h other apart = same_has plan past (End w b ∷ past) v r
    (is_open-step (End w b) past r ∙ ap (λ k. not k && is_open past r) apart)
    refl
    refl
stays plan (DeliverEnd w s) past v r h other apart = same_has plan past (DeliverEnd w s ∷ past) v r
    (is_open-step (DeliverEnd w s) past r ∙ ap (λ k. not k && is_open past r) apart)
    refl
    refl
stays plan (Acted w q i) past v r h other apart = same_has plan past (Acted w q i ∷ past) v r
    refl
    (elim (same_run q r) as (λ k. same_run q r ≡ k → is_none (cond k (awaited_by plan past (act_at plan q i)) (parked_by plan past r)) ≡ is_none (parked_by plan past r)) [
      | true ↦ λ same.
          let it = same_run-true q r same in
          let unparked = (run_facts plan past w r (subst (λ k. has_run plan past w k ≡ true) it (at_act plan past w q i h.1).own)).unparked in
          let goes_on : is_parking (act_at plan q i) ≡ false = unparking (is_parking (act_at plan q i)) q r same apart in
          awaits_where_parks plan past (act_at plan q i) ∙ ap not goes_on ∙ sym unparked
      | false ↦ λ k. refl
    ] refl)
    refl
  where
    unparking : (v : Bool) (q r : Run) → same_run q r ≡ true → is_it (cond v (Some q) None) r ≡ false → v ≡ false
    unparking true q r same apart = absurd (both_ways (same_run q r) apart same)
    unparking false q r same apart = refl
stays plan e past v r h apart other = same_has plan past (e ∷ past) v r refl refl refl
