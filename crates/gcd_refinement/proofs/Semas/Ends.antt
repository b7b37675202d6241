-- Waits on a semaphore, one event on: one that begins is over at once where the value is above 0, an Expire takes out the sleeper
-- whose wait it ends, and a signal ends the wait of the first sleeper.
use Rattle.std.proofs.Common.{◌≡◌, ℕ, suc, ◌+◌, ◌<◌, ◌==◌, nat_le, nat_lt, Bool, true, false, not, ◌&&◌, ◌||◌, cond, List, [], ◌∷◌, ◌++◌, length, map, filter, take, drop, Option, Some, None, refl, ap, sym, ◌∙◌, arith}
use Rattle.std.specs.List.{slice_get}
use Rattle.std.specs.Option.{option_map_or}
use Rattle.std.proofs.lemmas.Bool.{eqb-true, false_from_ne_true, le-leb, or_left}
use Rattle.std.proofs.lemmas.List.{append-nil, drop-map}
use Rattle.std.proofs.Math.Seq.{take-append_seam}
use Rattle.gcd_plan.specs.PlanView.{PlanView}
use Rattle.gcd_plan.specs.Validity.{IsPlan}
use Rattle.gcd_plan.specs.declared.act.Act.{Act}
use Rattle.gcd_plan.specs.declared.act.Act.TheVariants.{Signal}
use Rattle.gcd_plan.specs.declared.numbers.Blk.{Blk}
use Rattle.gcd_plan.specs.declared.numbers.Obj.{Obj}
use Rattle.gcd_plan.specs.declared.numbers.Run.TheVariants.{Block}
use Rattle.gcd_plan.specs.declared.reason.Reason.{Reason}
use Rattle.gcd_plan.specs.declared.reason.Reason.TheVariants.{Rank}
use Rattle.gcd_event.specs.declared.event.Event.{Event}
use Rattle.gcd_event.specs.declared.event.Event.TheVariants.{Act as Acted, Expire}
use Rattle.gcd_history.specs.Runs.{act_at, act_of}
use Rattle.gcd_history.specs.Expired.{last_act, expires, has_expired}
use Rattle.gcd_history.specs.Semas.{signals, waits, first_value, signal_count, wait_count, waits_on, unexpired, is_expired_wait}
use Rattle.gcd_history.specs.Parked.{awaited, has_come, has_run_out, is_over}
use Rattle.gcd_history.specs.Permitted.{IsLawful}
use Rattle.gcd_plan.proofs.Places.{slice_get-append_seam}
use Rattle.gcd_plan.proofs.Sums.{count_by-cons}
use Rattle.gcd_history.proofs.Runs.Open.{same_run-sym}
use Rattle.gcd_history.proofs.Waits.StaysOver.{waits_long}
use Rattle.gcd_history.proofs.Waits.Woken.{given_awaited}
use Rattle.gcd_refinement.specs.Sleepers.{unexpired_blocks, sema_waits, sema_sleepers}
use Rattle.gcd_refinement.proofs.Limits.Expiries.{expires_own, not_expired_yet, may_expire_parts}
use Rattle.gcd_refinement.proofs.Limits.Expiring.{run_out_new}
use Rattle.gcd_refinement.proofs.Lists.Kept.{count_taken, kept_from, slice_get-drop, drop-filter, filter_agree_at, filter-map, filter_either}
use Rattle.gcd_refinement.proofs.Semas.Ranks.{position_at, awaits_rank, last_is_rank, not_over_parts, fewer_taken, alive_in, kept_count, wait_at, sleeper_at}

-- ## Truth values

pub over_from : (out passing : Bool) → passing ≡ true → ((not out && passing) || out) ≡ true
over_from true passing h = refl
over_from false passing h = or_left passing false h

over_while : (out passing : Bool) → out ≡ false → ((not out && passing) || out) ≡ passing
over_while true passing h = cc
over_while false true h = refl
over_while false false h = refl

-- ## A wait that begins

-- a wait that begins is over at once just where the semaphore's value is above 0
pub begun_over : (plan : PlanView) (past : List Event) (e : Event) (s : Obj) → waits s.0 (act_of plan e) ≡ true
    → is_over plan (e ∷ past) (Rank s (wait_count plan past s.0 + 1)) ≡ nat_lt (unexpired past (waits_on plan past s.0)) (first_value plan s.0 + signal_count plan past s.0)
unfolding has_come has_run_out
begun_over plan past (Acted w r i) s begins =
    let e = Acted w r i in
    let old = waits_on plan past s.0 in
    let all = old ++ cond (waits s.0 (act_of plan e)) (length past ∷ []) [] in
    let long = waits_long plan past s.0 in
    let here : slice_get all (length old) ≡ Some (length past) = ap (λ v. slice_get (old ++ cond v (length past ∷ []) []) (length old)) begins ∙ slice_get-append_seam old (length past) [] in
    let more = count_taken (λ p. not (has_expired past p)) all (length old) (length past) here in
    let front = ap (unexpired past) (take-append_seam old (cond (waits s.0 (act_of plan e)) (length past ∷ []) [])) in
    let new = ap (λ v. cond {A = ℕ} (not v) 1 0) (not_expired_yet past (length past) (omega arith)) in
    let rank = ap (λ n. unexpired past (take (n + 1) all)) (sym long) in
    let count : unexpired past (take (wait_count plan past s.0 + 1) all) ≡ suc (unexpired past old) = omega (arith, more, front, new, rank) in
    let other = ap (λ v. cond {A = ℕ} v 1 0) (no_signal (act_of plan e) begins) in
    let step = count_by-cons (λ x. signals s.0 (act_of plan x)) e past in
    let same : first_value plan s.0 + signal_count plan (e ∷ past) s.0 ≡ first_value plan s.0 + signal_count plan past s.0 = omega (arith, other, step) in
    over_while (is_expired_wait plan (e ∷ past) s.0 (wait_count plan past s.0 + 1)) (nat_le (unexpired past (take (wait_count plan past s.0 + 1) all)) (first_value plan s.0 + signal_count plan (e ∷ past) s.0)) (run_out_new plan past w i r (Rank s (wait_count plan past s.0 + 1)) (awaits_rank plan past s (act_at plan r i) begins))
    ∙ (ap (λ n. nat_le n (first_value plan s.0 + signal_count plan (e ∷ past) s.0)) count ∙ ap (nat_le (suc (unexpired past old))) same)
  where
    no_signal : (act : Option Act) → waits s.0 act ≡ true → signals s.0 act ≡ false
    no_signal (Some (Signal t)) h = cc
    no_signal _ h = refl
begun_over plan past e s begins = cc

-- ## What an Expire takes out

-- the wait that an Expire makes expire is the one that its block is parked with
pub expires_rank : (plan : PlanView) (past : List Event) (c : Blk) (r : Reason) (s : Obj) (i p : ℕ) → awaited plan past (Block c) ≡ Some r → slice_get (waits_on plan past s.0) i ≡ Some p → expires past (Expire c) p ≡ true → r ≡ Rank s (i + 1)
expires_rank plan past c r s i p is there now =
    elim (last_act past c.0) as (λ o. last_act past c.0 ≡ o → option_map_or (λ q. q == p) o false ≡ true → r ≡ Rank s (i + 1)) [
      | None ↦ λ last h. cc
      | Some q ↦ λ last h. last_is_rank plan past c r p s i is (last ∙ ap Some (eqb-true q p h)) there
    ] refl now

-- it has not passed
front_stays : (plan : PlanView) (past : List Event) (c : Blk) (s : Obj) (i : ℕ) (w : ℕ × Blk) → IsPlan plan → IsLawful plan (Expire c ∷ past) → i < first_value plan s.0 + signal_count plan past s.0
    → slice_get (filter (alive_in past) (sema_waits plan past s.0)) i ≡ Some w → expires past (Expire c) w.0 ≡ false
front_stays plan past c s i w valid lawful low there =
    false_from_ne_true (expires past (Expire c) w.0) (λ now.
    let may = may_expire_parts plan past c lawful in
    let from = kept_from (alive_in past) (sema_waits plan past s.0) i w there in
    let rank = expires_rank plan past c may.why s from.place w.0 may.is (position_at plan past s.0 from.place w valid from.there) now in
    let late = (not_over_parts plan past s (from.place + 1) (sym (ap (is_over plan past) rank) ∙ may.waits)).high in
    let count = kept_count plan past s.0 i w valid from in
    absurd (omega (arith, low, late, count)))

-- the sleepers at a semaphore after an Expire: all but its block
pub expired_sleepers : (plan : PlanView) (past : List Event) (c : Blk) (s : Obj) → IsPlan plan → IsLawful plan (Expire c ∷ past) → sema_sleepers plan (Expire c ∷ past) s.0 ≡ filter (λ d. not (d.0 == c.0)) (sema_sleepers plan past s.0)
expired_sleepers plan past c s valid lawful =
    let e = Expire c in
    let n = first_value plan s.0 + signal_count plan past s.0 in
    let alive = filter (alive_in past) (sema_waits plan past s.0) in
    let keeps : ℕ × Blk → Bool = λ w. not (expires past e w.0) in
    let more = count_by-cons (λ x. signals s.0 (act_of plan x)) e past in
    let same : first_value plan s.0 + signal_count plan (e ∷ past) s.0 ≡ n = omega (arith, more) in
    ap (λ m. drop m (unexpired_blocks (e ∷ past) (sema_waits plan past s.0 ++ []))) same
    ∙ (ap (λ l. drop n (unexpired_blocks (e ∷ past) l)) (append-nil (sema_waits plan past s.0))
    ∙ (ap (λ l. drop n (map (λ w. w.1) l)) (filter_either (λ w. expires past e w.0) (λ w. has_expired past w.0) (sema_waits plan past s.0))
    ∙ (drop-map (λ w. w.1) n (filter keeps alive)
    ∙ (ap (map (λ w. w.1)) (drop-filter keeps alive n (λ i w low there. ap not (front_stays plan past c s i w valid lawful low there)))
    ∙ (ap (map (λ w. w.1)) (filter_agree_at keeps (λ w. not (w.1.0 == c.0)) (drop n alive) (λ i w there.
    let at = wait_at plan past s (n + i) w valid lawful.0 (omega arith) (sym (slice_get-drop alive n i) ∙ there) in
    ap not (expires_own past c w.1.0 w.0 at.last ∙ same_run-sym (Block c) (Block w.1))))
    ∙ (sym (filter-map (λ d. not (d.0 == c.0)) (λ w. w.1) (drop n alive))
    ∙ ap (filter (λ d. not (d.0 == c.0))) (sym (drop-map (λ w. w.1) n alive))))))))

-- ## What a signal ends

-- block b is the first that sleeps at semaphore s
abbrev pub IsFirstSleeper : PlanView → List Event → Blk → Obj → Type 0
IsFirstSleeper plan past b s = slice_get (unexpired_blocks past (sema_waits plan past s.0)) (first_value plan s.0 + signal_count plan past s.0) ≡ Some b

-- a signal ends the wait of the first sleeper
pub record SignalEnds (plan : PlanView) (past : List Event) (e : Event) (b : Blk) (s : Obj) : Type 0 where
  pub rank : ℕ
  pub is : awaited plan past (Block b) ≡ Some (Rank s rank)
  pub waits : is_over plan past (Rank s rank) ≡ false
  pub over : is_over plan (e ∷ past) (Rank s rank) ≡ true

pub signal_over : (plan : PlanView) (past : List Event) (e : Event) (b : Blk) (s : Obj) → IsPlan plan → IsLawful plan past → signals s.0 (act_of plan e) ≡ true → IsFirstSleeper plan past b s → SignalEnds plan past e b s
unfolding has_come has_run_out
signal_over plan past e b s valid lawful signalled first =
    let n = first_value plan s.0 + signal_count plan past s.0 in
    let at = sleeper_at plan past b s n valid lawful (omega arith) first in
    let given = given_awaited plan past b (Rank s at.rank) at.is in
    let high = given.1 in
    let long = waits_long plan past s.0 in
    let fewer = fewer_taken plan past e s.0 at.rank (omega (arith, high, long)) in
    let count = at.count in
    let step = count_by-cons (λ x. signals s.0 (act_of plan x)) e past in
    let one = ap (λ v. cond {A = ℕ} v 1 0) signalled in
    record {
      rank = at.rank;
      is = at.is;
      waits = at.waits;
      over = over_from (is_expired_wait plan (e ∷ past) s.0 at.rank) (nat_le (unexpired (e ∷ past) (take at.rank (waits_on plan (e ∷ past) s.0))) (first_value plan s.0 + signal_count plan (e ∷ past) s.0))
          (le-leb (unexpired (e ∷ past) (take at.rank (waits_on plan (e ∷ past) s.0))) (first_value plan s.0 + signal_count plan (e ∷ past) s.0) (omega (arith, fewer, count, step, one)));
    }
