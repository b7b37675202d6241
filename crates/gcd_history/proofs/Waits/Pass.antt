-- Where each submitted block has ended, every wait on a group or on a semaphore has passed or expired.
use Rattle.std.proofs.Common.{◌≡◌, ⊎_elim, ℕ, ◌+◌, ◌<◌, ◌≤◌, true, false, cond, List, [], ◌∷◌, ◌++◌, length, Option, Some, refl, ap, sym, ◌∙◌, subst, arith, append_assoc}
use Rattle.std.proofs.lemmas.Bool.{eqb-true, both_ways, cases_lt}
use Rattle.std.proofs.lemmas.Option.{none-some}
use Rattle.gcd_plan.specs.PlanView.{PlanView}
use Rattle.gcd_plan.specs.Validity.{IsPlan, is_handler_act}
use Rattle.gcd_plan.specs.declared.act.Act.{Act}
use Rattle.gcd_plan.specs.declared.act.Act.TheVariants.{GroupWait, GroupWaitFor, Wait, WaitFor}
use Rattle.gcd_plan.specs.declared.numbers.Blk.{Blk}
use Rattle.gcd_plan.specs.declared.numbers.Obj.{Obj}
use Rattle.gcd_plan.specs.declared.numbers.Run.TheVariants.{Block, Source}
use Rattle.gcd_plan.specs.declared.reason.Reason.{Reason}
use Rattle.gcd_plan.specs.declared.reason.Reason.TheVariants.{Group, Rank}
use Rattle.gcd_event.specs.declared.event.Event.{Event}
use Rattle.gcd_event.specs.declared.event.Event.TheVariants.{Act as Acted}
use Rattle.gcd_history.specs.Runs.{act_at, act_of, is_open}
use Rattle.gcd_history.specs.Semas.{waits, wait_count}
use Rattle.gcd_history.specs.Laws.{waits_for}
use Rattle.gcd_history.specs.Parked.{awaited_by, parked_by, awaited, is_over}
use Rattle.gcd_history.specs.Permitted.{IsLawful}
use Rattle.gcd_history.specs.Choice.{all_ended}
use Rattle.gcd_plan.proofs.Sums.{count_by-cons}
use Rattle.gcd_history.proofs.Runs.Open.{same_run-refl}
use Rattle.gcd_history.proofs.Permitted.Reasons.{at_act}
use Rattle.gcd_history.proofs.Blocks.StartedOnce.{open_from_has_run}
use Rattle.gcd_history.proofs.Blocks.SubmittedOnce.{handler_act}
use Rattle.gcd_history.proofs.Waits.Woken.{parked_from, parked_on, none_parked}

-- where all have ended, the wait of a parked block is over
pub passed : (plan : PlanView) (later past : List Event) → IsLawful plan (later ++ past) → all_ended plan (later ++ past) ≡ true → (b : Blk) (r : Reason) → awaited plan past (Block b) ≡ Some r → is_over plan (later ++ past) r ≡ true
passed plan later past h ended b r is =
    ⊎_elim
    (λ still. absurd (none-some r (sym (none_parked plan (later ++ past) h ended b) ∙ still)))
    (λ come. come)
    (parked_on plan later past h b r is)

pub front : (plan : PlanView) (later past : List Event) → IsLawful plan (later ++ past) → IsLawful plan past
front plan [] past h = h
front plan (e ∷ later) past h = front plan later past h.0

-- an act that no handler has, and that parks its block: its wait is over
act_passes : (plan : PlanView) (later past : List Event) (e : Event) (act : Act) (r : Reason) → IsPlan plan → IsLawful plan (later ++ e ∷ past) → all_ended plan (later ++ e ∷ past) ≡ true →
    act_of plan e ≡ Some act → is_handler_act act ≡ false → awaited_by plan past (Some act) ≡ Some r → is_over plan (later ++ e ∷ past) r ≡ true
act_passes plan later past (Acted w (Block b) i) act r valid h ended at waits parks =
    let one = front plan later (Acted w (Block b) i ∷ past) h in
    let live : is_open past (Block b) ≡ true = open_from_has_run plan past w (Block b) (at_act plan past w (Block b) i one.1).own in
    let by : parked_by plan (Acted w (Block b) i ∷ past) (Block b) ≡ Some r =
    ap (λ v. cond v (awaited_by plan past (act_at plan (Block b) i)) (parked_by plan past (Block b))) (same_run-refl (Block b)) ∙ (ap (awaited_by plan past) at ∙ parks) in
    passed plan later (Acted w (Block b) i ∷ past) h ended b r (parked_from plan (Acted w (Block b) i ∷ past) b r live by)
act_passes plan later past (Acted w (Source s) i) act r valid h ended at waits parks = absurd (both_ways (is_handler_act act) waits (handler_act plan s i act valid at).0)
act_passes plan later past e act r valid h ended at waits parks = cc

-- what an act of a block waits for, that no handler has
record Parks (plan : PlanView) (past : List Event) (act : Option Act) (r : Reason) : Type 0 where
  what : Act
  is : act ≡ Some what
  barred : is_handler_act what ≡ false
  parks : awaited_by plan past (Some what) ≡ Some r

group_act : (plan : PlanView) (past : List Event) (g : Obj) (act : Option Act) → waits_for g act ≡ true → Parks plan past act (Group g (length past))
group_act plan past g (Some (GroupWait h)) is =
    record { what = GroupWait h; is = refl; barred = refl; parks = ap (λ n. Some (Group (record { 0 = n }) (length past))) (eqb-true h.0 g.0 is) }
group_act plan past g (Some (GroupWaitFor h ms)) is =
    record { what = GroupWaitFor h ms; is = refl; barred = refl; parks = ap (λ n. Some (Group (record { 0 = n }) (length past))) (eqb-true h.0 g.0 is) }
group_act plan past g act is = cc

sema_act : (plan : PlanView) (past : List Event) (s : Obj) (act : Option Act) → waits s.0 act ≡ true → Parks plan past act (Rank s (wait_count plan past s.0 + 1))
sema_act plan past s (Some (Wait t)) is =
    record { what = Wait t; is = refl; barred = refl; parks = ap (λ n. Some (Rank (record { 0 = n }) (wait_count plan past n + 1))) (eqb-true t.0 s.0 is) }
sema_act plan past s (Some (WaitFor t ms)) is =
    record { what = WaitFor t ms; is = refl; barred = refl; parks = ap (λ n. Some (Rank (record { 0 = n }) (wait_count plan past n + 1))) (eqb-true t.0 s.0 is) }
sema_act plan past s act is = cc

pub group_wait_over : (plan : PlanView) (later past : List Event) (e : Event) (g : Obj) → IsPlan plan → IsLawful plan (later ++ e ∷ past) → all_ended plan (later ++ e ∷ past) ≡ true →
    waits_for g (act_of plan e) ≡ true → is_over plan (later ++ e ∷ past) (Group g (length past)) ≡ true
group_wait_over plan later past e g valid h ended waits =
    let act = group_act plan past g (act_of plan e) waits in
    act_passes plan later past e act.what (Group g (length past)) valid h ended act.is act.barred act.parks

-- each rank that is given, up to some position, is over at the end
ranks_over : (plan : PlanView) (later past : List Event) (s : Obj) (k : ℕ) → IsPlan plan → IsLawful plan (later ++ past) → all_ended plan (later ++ past) ≡ true → 1 ≤ k → k ≤ wait_count plan past s.0 →
    is_over plan (later ++ past) (Rank s k) ≡ true
ranks_over plan later [] s k valid h ended low high = absurd (omega (arith, low, high))
ranks_over plan later (e ∷ past) s k valid h ended low high =
    let step = count_by-cons (λ d. waits s.0 (act_of plan d)) e past in
    let split : (later ++ e ∷ []) ++ past ≡ later ++ e ∷ past = append_assoc later (e ∷ []) past in
    let before : k ≤ wait_count plan past s.0 → is_over plan (later ++ e ∷ past) (Rank s k) ≡ true = λ less.
    subst (λ l. is_over plan l (Rank s k) ≡ true) split
    (ranks_over plan (later ++ e ∷ []) past s k valid (subst (IsLawful plan) (sym split) h) (subst (λ l. all_ended plan l ≡ true) (sym split) ended) low less) in
    elim (waits s.0 (act_of plan e)) as (λ v. waits s.0 (act_of plan e) ≡ v → wait_count plan (e ∷ past) s.0 ≡ cond {A = ℕ} v 1 0 + wait_count plan past s.0 → is_over plan (later ++ e ∷ past) (Rank s k) ≡ true) [
      | true ↦ λ now more.
          ⊎_elim
          (λ (less : k < wait_count plan past s.0 + 1). before (omega (arith, less)))
          (λ (last : wait_count plan past s.0 + 1 ≤ k).
          let act = sema_act plan past s (act_of plan e) now in
          let same : wait_count plan past s.0 + 1 ≡ k = omega (arith, last, high, more) in
          subst (λ n. is_over plan (later ++ e ∷ past) (Rank s n) ≡ true) same
          (act_passes plan later past e act.what (Rank s (wait_count plan past s.0 + 1)) valid h ended act.is act.barred act.parks))
          (cases_lt k (wait_count plan past s.0 + 1))
      | false ↦ λ other same. before (omega (arith, high, same))
    ] refl step

pub semaphore_wait_over : (plan : PlanView) (past : List Event) (s : Obj) (k : ℕ) → IsPlan plan → IsLawful plan past → all_ended plan past ≡ true → 1 ≤ k → k ≤ wait_count plan past s.0 → is_over plan past (Rank s k) ≡ true
semaphore_wait_over plan past s k valid h ended low high = ranks_over plan [] past s k valid h ended low high
