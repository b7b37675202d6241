-- The wait of a parked block is told by its block's last act; an Expire ends that wait, and no other.
use Rattle.std.proofs.Common.{◌≡◌, ℕ, ◌+◌, ◌-◌, nat_le, Bool, true, false, ◌||◌, cond, List, [], ◌∷◌, ◌++◌, length, Option, Some, None, refl, ap, sym, ◌∙◌, subst, arith, eq-eqb}
use Rattle.std.specs.List.{slice_get}
use Rattle.std.specs.Option.{option_map_or}
use Rattle.std.proofs.lemmas.Bool.{both_ways}
use Rattle.std.proofs.lemmas.Option.{same_Some, slice_get_within}
use Rattle.gcd_plan.specs.PlanView.{PlanView}
use Rattle.gcd_plan.specs.declared.act.Act.{Act}
use Rattle.gcd_plan.specs.declared.act.Act.TheVariants.{GroupWait, GroupWaitFor, Wait, WaitFor}
use Rattle.gcd_plan.specs.declared.numbers.Blk.{Blk}
use Rattle.gcd_plan.specs.declared.numbers.Obj.{Obj}
use Rattle.gcd_plan.specs.declared.numbers.Run.{Run}
use Rattle.gcd_plan.specs.declared.numbers.Run.TheVariants.{Block}
use Rattle.gcd_plan.specs.declared.reason.Reason.{Reason}
use Rattle.gcd_plan.specs.declared.reason.Reason.TheVariants.{Block as EndOf, Group as Empty, Strip, Rank}
use Rattle.gcd_event.specs.declared.event.Event.{Event}
use Rattle.gcd_event.specs.declared.event.Event.TheVariants.{Act as Acted, Wake, Expire}
use Rattle.gcd_history.specs.Runs.{same_run, opens, act_at, act_of}
use Rattle.gcd_history.specs.Expired.{last_act, expires, has_expired}
use Rattle.gcd_history.specs.Semas.{waits, wait_count, waits_on}
use Rattle.gcd_history.specs.Parked.{awaited_by, parked_by, awaited, is_parked, has_run_out, is_over}
use Rattle.gcd_history.specs.Timers.{now}
use Rattle.gcd_history.specs.Due.{limit_by, last_limit, limit, is_at_limit}
use Rattle.gcd_history.specs.Permitted.{IsLawful}
use Rattle.gcd_plan.proofs.Places.{slice_get-append_left, slice_get-append_seam}
use Rattle.gcd_history.proofs.Permitted.Reasons.{at_expire}
use Rattle.gcd_history.proofs.Waits.StaysOver.{IsGiven, waits_long}
use Rattle.gcd_history.proofs.Waits.Woken.{parked_facts, given_awaited}
use Rattle.gcd_refinement.proofs.Limits.Expiries.{expires_own, not_expired_yet, may_expire_parts}

-- ## The act that began a wait

-- the position of the act that began the wait; a wait for the end of a block, or for the blocks of a strip, never expires, and has
-- none here
abbrev pub act_of_wait : PlanView → List Event → Reason → Option ℕ
act_of_wait plan past (EndOf b) = None
act_of_wait plan past (Empty g position) = Some position
act_of_wait plan past (Strip a) = None
act_of_wait plan past (Rank s k) = slice_get (waits_on plan past s.0) (k - 1)

-- a wait has run out where that act's has expired
run_out_is : (plan : PlanView) (past : List Event) (r : Reason) → has_run_out plan past r ≡ option_map_or (has_expired past) (act_of_wait plan past r) false
unfolding has_run_out
run_out_is plan past (EndOf b) = refl
run_out_is plan past (Empty g position) = refl
run_out_is plan past (Strip a) = refl
run_out_is plan past (Rank s k) = refl

-- what is given stays the same act's
begun_kept : (plan : PlanView) (e : Event) (past : List Event) (r : Reason) → IsGiven plan past r → act_of_wait plan (e ∷ past) r ≡ act_of_wait plan past r
begun_kept plan e past (EndOf b) given = refl
begun_kept plan e past (Empty g position) given = refl
begun_kept plan e past (Strip a) given = refl
begun_kept plan e past (Rank s k) given =
    let long = waits_long plan past s.0 in
    let low = given.0 in
    let high = given.1 in
    slice_get-append_left (waits_on plan past s.0) (cond (waits s.0 (act_of plan e)) (length past ∷ []) []) (k - 1) (omega (arith, long, low, high))

-- ## The last act of a parked block

-- the act at this position began the wait, where that is no wait for an end
abbrev pub IsActOf : PlanView → List Event → Reason → ℕ → Type 0
IsActOf plan past (EndOf b) position = Unit {0}
IsActOf plan past (Empty g p) position = act_of_wait plan past (Empty g p) ≡ Some position
IsActOf plan past (Strip a) position = Unit {0}
IsActOf plan past (Rank s k) position = act_of_wait plan past (Rank s k) ≡ Some position

-- the block's last act began its wait
pub record Begun (plan : PlanView) (past : List Event) (b : Blk) (r : Reason) : Type 0 where
  pub position : ℕ
  pub begun : IsActOf plan past r position
  pub last : last_act past b.0 ≡ Some position

-- a wait that has begun stays the same act's
act_kept : (plan : PlanView) (e : Event) (past : List Event) (r : Reason) (p : ℕ) → IsActOf plan past r p → IsActOf plan (e ∷ past) r p
act_kept plan e past (EndOf c) p was = tt
act_kept plan e past (Empty g position) p was = was
act_kept plan e past (Strip a) p was = tt
act_kept plan e past (Rank s k) p was =
    let xs = waits_on plan past s.0 in
    slice_get-append_left xs (cond (waits s.0 (act_of plan e)) (length past ∷ []) []) (k - 1) (slice_get_within xs (k - 1) p was) ∙ was

-- a wait for a semaphore is the last of those that stand
rank_new : (plan : PlanView) (past : List Event) (w i : ℕ) (q : Run) (s : Obj) (act : Option Act) → act_at plan q i ≡ act → waits s.0 act ≡ true
    → slice_get (waits_on plan (Acted w q i ∷ past) s.0) (wait_count plan past s.0 + 1 - 1) ≡ Some (length past)
rank_new plan past w i q s act at is =
    let xs = waits_on plan past s.0 in
    let k = wait_count plan past s.0 + 1 - 1 in
    let long = waits_long plan past s.0 in
    let place : k ≡ length xs = omega (arith, long) in
    ap (λ o. slice_get (xs ++ cond (waits s.0 o) (length past ∷ []) []) k) at
    ∙ (ap (λ v. slice_get (xs ++ cond v (length past ∷ []) []) k) is
    ∙ (ap (slice_get (xs ++ length past ∷ [])) place ∙ slice_get-append_seam xs (length past) []))

-- what an act has just begun is its own
act_new : (plan : PlanView) (past : List Event) (w i : ℕ) (q : Run) (act : Option Act) (r : Reason) → act_at plan q i ≡ act → awaited_by plan past act ≡ Some r → IsActOf plan (Acted w q i ∷ past) r (length past)
act_new plan past w i q (Some (Wait s)) r at h =
    subst (λ x. IsActOf plan (Acted w q i ∷ past) x (length past)) (same_Some (Rank s (wait_count plan past s.0 + 1)) r h) (rank_new plan past w i q s (Some (Wait s)) at (eq-eqb s.0 s.0 refl))
act_new plan past w i q (Some (WaitFor s ms)) r at h =
    subst (λ x. IsActOf plan (Acted w q i ∷ past) x (length past)) (same_Some (Rank s (wait_count plan past s.0 + 1)) r h) (rank_new plan past w i q s (Some (WaitFor s ms)) at (eq-eqb s.0 s.0 refl))
act_new plan past w i q (Some (GroupWait g)) r at h = subst (λ x. IsActOf plan (Acted w q i ∷ past) x (length past)) (same_Some (Empty g (length past)) r h) refl
act_new plan past w i q (Some (GroupWaitFor g ms)) r at h = subst (λ x. IsActOf plan (Acted w q i ∷ past) x (length past)) (same_Some (Empty g (length past)) r h) refl
act_new plan past w i q act (EndOf c) at h = tt
act_new plan past w i q act (Strip a) at h = tt
act_new plan past w i q act r at h = cc

begun_on : (plan : PlanView) (e : Event) (past : List Event) (b : Blk) (r : Reason) → last_act (e ∷ past) b.0 ≡ last_act past b.0 → Begun plan past b r → Begun plan (e ∷ past) b r
begun_on plan e past b r same was = record { position = was.position; begun = act_kept plan e past r was.position was.begun; last = same ∙ was.last }

begun_by : (plan : PlanView) (past : List Event) (b : Blk) (r : Reason) → parked_by plan past (Block b) ≡ Some r → Begun plan past b r
begun_by plan [] b r h = cc
begun_by plan (Acted w q i ∷ past) b r h =
    elim (same_run q (Block b)) as (λ v. same_run q (Block b) ≡ v → cond v (awaited_by plan past (act_at plan q i)) (parked_by plan past (Block b)) ≡ Some r → Begun plan (Acted w q i ∷ past) b r) [
      | true ↦ λ same now. record { position = length past; begun = act_new plan past w i q (act_at plan q i) r refl now; last = ap (λ v. cond v (Some (length past)) (last_act past b.0)) same }
      | false ↦ λ other before. begun_on plan (Acted w q i) past b r (ap (λ v. cond v (Some (length past)) (last_act past b.0)) other) (begun_by plan past b r before)
    ] refl h
begun_by plan (Wake w c ∷ past) b r h =
    elim (same_run (Block c) (Block b)) as (λ v. cond v None (parked_by plan past (Block b)) ≡ Some r → Begun plan (Wake w c ∷ past) b r) [
      | true ↦ λ now. cc
      | false ↦ λ before. begun_on plan (Wake w c) past b r refl (begun_by plan past b r before)
    ] h
begun_by plan (e ∷ past) b r h =
    elim (opens e (Block b)) as (λ v. cond v None (parked_by plan past (Block b)) ≡ Some r → Begun plan (e ∷ past) b r) [
      | true ↦ λ now. cc
      | false ↦ λ before. begun_on plan e past b r refl (begun_by plan past b r before)
    ] h

-- what a parked block waits for was begun by its last act
pub begun : (plan : PlanView) (past : List Event) (b : Blk) (r : Reason) → awaited plan past (Block b) ≡ Some r → Begun plan past b r
begun plan past b r is = begun_by plan past b r (parked_facts plan past b r is).by

pub parked_last : (plan : PlanView) (past : List Event) (b : Blk) (r : Reason) (p : ℕ) → awaited plan past (Block b) ≡ Some r → act_of_wait plan past r ≡ Some p → last_act past b.0 ≡ Some p
parked_last plan past b (EndOf c) p is at = cc
parked_last plan past b (Empty g position) p is at = let one = begun plan past b (Empty g position) is in one.last ∙ (sym one.begun ∙ at)
parked_last plan past b (Strip a) p is at = cc
parked_last plan past b (Rank s k) p is at = let one = begun plan past b (Rank s k) is in one.last ∙ (sym one.begun ∙ at)

-- ## What an event does to a wait

map_or_agree : (o : Option ℕ) (f g : ℕ → Bool) → ((p : ℕ) → o ≡ Some p → f p ≡ g p) → option_map_or f o false ≡ option_map_or g o false
map_or_agree None f g same = refl
map_or_agree (Some p) f g same = same p refl

-- an event that does not expire the block's last act leaves its wait
pub run_out_kept : (plan : PlanView) (e : Event) (past : List Event) (b : Blk) (r : Reason) → awaited plan past (Block b) ≡ Some r → ((p : ℕ) → last_act past b.0 ≡ Some p → expires past e p ≡ false)
    → has_run_out plan (e ∷ past) r ≡ has_run_out plan past r
run_out_kept plan e past b r is quiet =
    run_out_is plan (e ∷ past) r
    ∙ (ap (λ o. option_map_or (has_expired (e ∷ past)) o false) (begun_kept plan e past r (given_awaited plan past b r is))
    ∙ (map_or_agree (act_of_wait plan past r) (has_expired (e ∷ past)) (has_expired past) (λ p at. ap (λ v. v || has_expired past p) (quiet p (parked_last plan past b r p is at)))
    ∙ sym (run_out_is plan past r)))

-- what an act has just begun has not expired
pub run_out_new : (plan : PlanView) (past : List Event) (w i : ℕ) (q : Run) (r : Reason) → awaited_by plan past (act_at plan q i) ≡ Some r → has_run_out plan (Acted w q i ∷ past) r ≡ false
run_out_new plan past w i q r h = by_act r (act_new plan past w i q (act_at plan q i) r refl h)
  where
    now : List Event
    now = Acted w q i ∷ past

    unexpired : (o : Option ℕ) → o ≡ Some (length past) → option_map_or (has_expired now) o false ≡ false
    unexpired o at = ap (λ x. option_map_or (has_expired now) x false) at ∙ not_expired_yet past (length past) (omega arith)

    by_act : (r : Reason) → IsActOf plan now r (length past) → has_run_out plan now r ≡ false
    by_act (EndOf c) new = run_out_is plan now (EndOf c)
    by_act (Empty g p) new = run_out_is plan now (Empty g p) ∙ unexpired (act_of_wait plan now (Empty g p)) new
    by_act (Strip a) new = run_out_is plan now (Strip a)
    by_act (Rank s k) new = run_out_is plan now (Rank s k) ∙ unexpired (act_of_wait plan now (Rank s k)) new

-- ## An Expire

-- a wait for an end, or for the blocks of a strip, never expires
abbrev is_unlimited : Reason → Bool
is_unlimited (EndOf c) = true
is_unlimited (Empty g position) = false
is_unlimited (Strip a) = true
is_unlimited (Rank s k) = false

act_unlimited : (plan : PlanView) (past : List Event) (act : Option Act) (r : Reason) → is_unlimited r ≡ true → awaited_by plan past act ≡ Some r → limit_by plan past act ≡ None
act_unlimited plan past (Some (GroupWaitFor g ms)) r never h = absurd (both_ways (is_unlimited r) (ap is_unlimited (sym (same_Some (Empty g (length past)) r h))) never)
act_unlimited plan past (Some (WaitFor s ms)) r never h = absurd (both_ways (is_unlimited r) (ap is_unlimited (sym (same_Some (Rank s (wait_count plan past s.0 + 1)) r h))) never)
act_unlimited plan past act r never h = refl

-- so it has no limit
no_limit : (plan : PlanView) (past : List Event) (b : Blk) (r : Reason) → is_unlimited r ≡ true → parked_by plan past (Block b) ≡ Some r → last_limit plan past b.0 ≡ None
no_limit plan [] b r never h = refl
no_limit plan (Acted w q i ∷ past) b r never h =
    elim (same_run q (Block b)) as (λ v. cond v (awaited_by plan past (act_at plan q i)) (parked_by plan past (Block b)) ≡ Some r → cond v (limit_by plan past (act_at plan q i)) (last_limit plan past b.0) ≡ None) [
      | true ↦ λ now. act_unlimited plan past (act_at plan q i) r never now
      | false ↦ λ before. no_limit plan past b r never before
    ] h
no_limit plan (Wake w d ∷ past) b r never h =
    elim (same_run (Block d) (Block b)) as (λ v. cond v None (parked_by plan past (Block b)) ≡ Some r → last_limit plan past b.0 ≡ None) [
      | true ↦ λ now. cc
      | false ↦ λ before. no_limit plan past b r never before
    ] h
no_limit plan (e ∷ past) b r never h =
    elim (opens e (Block b)) as (λ v. cond v None (parked_by plan past (Block b)) ≡ Some r → last_limit plan past b.0 ≡ None) [
      | true ↦ λ now. cc
      | false ↦ λ before. no_limit plan past b r never before
    ] h

no_limit_comes : (plan : PlanView) (past : List Event) (b : Blk) (r : Reason) → is_unlimited r ≡ true → awaited plan past (Block b) ≡ Some r → is_at_limit plan past b.0 ≡ true → ⊥
unfolding is_at_limit
no_limit_comes plan past b r never is at_limit =
    let none : limit plan past b.0 ≡ None = ap (λ o. cond (is_parked plan past b.0) o None) (no_limit plan past b r never (parked_facts plan past b r is).by) ∙ either_same (is_parked plan past b.0) in
    let never_ever : false ≡ true = sym (ap (λ o. option_map_or (λ end. nat_le end (now past)) o false) none) ∙ at_limit in
    both_ways false refl never_ever
  where
    either_same : (v : Bool) → cond {A = Option ℕ} v None None ≡ None
    either_same true = refl
    either_same false = refl

-- the wait that an Expire ends
pub record ExpiresNow (plan : PlanView) (past : List Event) (b : Blk) : Type 0 where
  pub why : Reason
  pub is : awaited plan past (Block b) ≡ Some why
  pub waits : is_over plan past why ≡ false
  pub position : ℕ
  pub begun : act_of_wait plan past why ≡ Some position
  pub last : last_act past b.0 ≡ Some position

by_reason : (plan : PlanView) (past : List Event) (b : Blk) (r : Reason) → awaited plan past (Block b) ≡ Some r → is_over plan past r ≡ false → is_at_limit plan past b.0 ≡ true → ExpiresNow plan past b
by_reason plan past b (EndOf c) is waits at_limit = absurd (no_limit_comes plan past b (EndOf c) refl is at_limit)
by_reason plan past b (Strip a) is waits at_limit = absurd (no_limit_comes plan past b (Strip a) refl is at_limit)
by_reason plan past b (Empty g p) is waits at_limit =
    let one = begun plan past b (Empty g p) is in record { why = Empty g p; is = is; waits = waits; position = one.position; begun = one.begun; last = one.last }
by_reason plan past b (Rank s k) is waits at_limit =
    let one = begun plan past b (Rank s k) is in record { why = Rank s k; is = is; waits = waits; position = one.position; begun = one.begun; last = one.last }

pub expires_now : (plan : PlanView) (past : List Event) (b : Blk) → IsLawful plan (Expire b ∷ past) → ExpiresNow plan past b
expires_now plan past b lawful =
    let may = may_expire_parts plan past b lawful in by_reason plan past b may.why may.is may.waits (at_expire plan past b lawful.1).at_limit

-- and which it makes over
pub expired_now : (plan : PlanView) (past : List Event) (b : Blk) (r : Reason) → IsLawful plan (Expire b ∷ past) → awaited plan past (Block b) ≡ Some r → has_run_out plan (Expire b ∷ past) r ≡ true
expired_now plan past b r lawful is =
    let one = expires_now plan past b lawful in
    let e = Expire b in
    let same : one.why ≡ r = same_Some one.why r (sym one.is ∙ is) in
    let now : expires past e one.position ≡ true = expires_own past b b.0 one.position one.last ∙ eq-eqb b.0 b.0 refl in
    run_out_is plan (e ∷ past) r
    ∙ (ap (λ o. option_map_or (has_expired (e ∷ past)) o false) (begun_kept plan e past r (given_awaited plan past b r is) ∙ (ap (act_of_wait plan past) (sym same) ∙ one.begun))
    ∙ ap (λ v. v || has_expired past one.position) now)
