-- The k-th wait on a semaphore is of the block that is parked with rank k, until that wait passes or expires.
use Rattle.std.proofs.Common.{◌≡◌, ⊎_elim, ℕ, zero, suc, ◌+◌, ◌-◌, ◌<◌, ◌≤◌, ◌==◌, nat_le, Bool, true, false, not, ◌&&◌, ◌||◌, cond, List, [], ◌∷◌, ◌++◌, length, map, filter, take, drop, option_map, Option, Some, None, refl, ap, sym, ◌∙◌, subst, arith, eq-eqb}
use Rattle.std.specs.List.{count_by, list_any, slice_get}
use Rattle.std.specs.Option.{option_map_or}
use Rattle.std.proofs.lemmas.Bool.{eqb-true, cases_lt, both_ways, not-true, not_from_false, false_from_ne_true, leb-true, le-leb, or_cases, or_left, or_right, or_parts}
use Rattle.std.proofs.lemmas.List.{map-append, length-map, take-append-le, take-map}
use Rattle.std.proofs.lemmas.List.Sums.{length-filter}
use Rattle.std.proofs.lemmas.Option.{same_Some, slice_get-map, slice_get_within}
use Rattle.gcd_plan.specs.PlanView.{PlanView}
use Rattle.gcd_plan.specs.Validity.{IsPlan, is_handler_act}
use Rattle.gcd_plan.specs.declared.act.Act.{Act}
use Rattle.gcd_plan.specs.declared.act.Act.TheVariants.{Wait, WaitFor}
use Rattle.gcd_plan.specs.declared.numbers.Blk.{Blk}
use Rattle.gcd_plan.specs.declared.numbers.Obj.{Obj}
use Rattle.gcd_plan.specs.declared.numbers.Run.TheVariants.{Block, Source}
use Rattle.gcd_plan.specs.declared.reason.Reason.{Reason}
use Rattle.gcd_plan.specs.declared.reason.Reason.TheVariants.{Rank}
use Rattle.gcd_event.specs.declared.event.Event.{Event}
use Rattle.gcd_event.specs.declared.event.Event.TheVariants.{Act as Acted, Wake}
use Rattle.gcd_history.specs.Runs.{same_run, opens, act_at, act_of}
use Rattle.gcd_history.specs.Expired.{last_act, expires, has_expired}
use Rattle.gcd_history.specs.Semas.{signals, waits, first_value, signal_count, wait_count, waits_on, unexpired, is_expired_wait}
use Rattle.gcd_history.specs.Parked.{awaited_by, parked_by, awaited, has_come, has_run_out, is_over}
use Rattle.gcd_history.specs.Permitted.{IsLawful}
use Rattle.gcd_plan.proofs.Places.{slice_get_some}
use Rattle.gcd_plan.proofs.Sums.{count_by-cons, count_by-map}
use Rattle.gcd_history.proofs.Waits.StaysOver.{waits_long, count_fewer}
use Rattle.gcd_history.proofs.Blocks.SubmittedOnce.{handler_act}
use Rattle.gcd_history.proofs.Waits.Woken.{parked_facts, given_awaited}
use Rattle.gcd_refinement.specs.Sleepers.{wait_if, unexpired_blocks, sema_waits, sema_sleepers}
use Rattle.gcd_refinement.proofs.Limits.Expiries.{last_act_low, last_act_once}
use Rattle.gcd_refinement.proofs.Limits.Expiring.{begun, parked_last}
use Rattle.gcd_refinement.proofs.Lists.Kept.{last_or_front, count_taken, kept_there, KeptFrom, kept_from}
use Rattle.gcd_refinement.proofs.Sleepers.NewlyParked.{parked_now, now_parked, still_parked}

pub rank_of_same : (t s : Obj) (m k : ℕ) → Some (Rank t m) ≡ Some (Rank s k) → (t ≡ s) × (m ≡ k)
rank_of_same t s m k h = (cc, cc)

-- ## Positions

pub handler_waits : (s : ℕ) (act : Option Act) → ((a : Act) → act ≡ Some a → is_handler_act a ≡ true) → waits s act ≡ false
handler_waits s (Some (Wait t)) fine = let never : false ≡ true = fine (Wait t) refl in cc
handler_waits s (Some (WaitFor t ms)) fine = let never : false ≡ true = fine (WaitFor t ms) refl in cc
handler_waits s _ fine = refl

position_if : (v : Bool) (n : ℕ) (b : Blk) → map (λ (w : ℕ × Blk). w.0) (cond v ((n, b) ∷ []) []) ≡ cond v (n ∷ []) []
position_if true n b = refl
position_if false n b = refl

position_now : (plan : PlanView) (past : List Event) (e : Event) (s : ℕ) → IsPlan plan → map (λ w. w.0) (wait_if (waits s) plan past e) ≡ cond (waits s (act_of plan e)) (length past ∷ []) []
position_now plan past (Acted w (Block b) i) s valid = position_if (waits s (act_at plan (Block b) i)) (length past) b
position_now plan past (Acted w (Source o) i) s valid =
    ap (λ v. cond v (length past ∷ []) []) (sym (handler_waits s (act_at plan (Source o) i) (λ a at. (handler_act plan o i a valid at).0)))
position_now plan past e s valid = refl

-- the waits are those that were counted, each with its block
positions_are : (plan : PlanView) (past : List Event) (s : ℕ) → IsPlan plan → map (λ w. w.0) (sema_waits plan past s) ≡ waits_on plan past s
positions_are plan [] s valid = refl
positions_are plan (e ∷ past) s valid =
    map-append (λ w. w.0) (sema_waits plan past s) (wait_if (waits s) plan past e)
    ∙ (ap (λ l. l ++ map (λ w. w.0) (wait_if (waits s) plan past e)) (positions_are plan past s valid)
    ∙ ap (λ l. waits_on plan past s ++ l) (position_now plan past e s valid))

as_many_waited : (plan : PlanView) (past : List Event) (s : ℕ) → IsPlan plan → length (sema_waits plan past s) ≡ wait_count plan past s
as_many_waited plan past s valid = sym (length-map (sema_waits plan past s) (λ w. w.0)) ∙ (ap length (positions_are plan past s valid) ∙ waits_long plan past s)

-- where a wait stands, its position does
pub position_at : (plan : PlanView) (past : List Event) (s i : ℕ) (w : ℕ × Blk) → IsPlan plan → slice_get (sema_waits plan past s) i ≡ Some w → slice_get (waits_on plan past s) i ≡ Some w.0
position_at plan past s i w valid there =
    ap (λ l. slice_get l i) (sym (positions_are plan past s valid)) ∙ (slice_get-map (λ x. x.0) (sema_waits plan past s) i ∙ ap (option_map (λ x. x.0)) there)

one_if : (v : Bool) (n : ℕ) → length (cond v (n ∷ []) []) ≤ 1
one_if true n = omega arith
one_if false n = omega arith

first_if : (v : Bool) (n p : ℕ) → slice_get (cond v (n ∷ []) []) 0 ≡ Some p → (v ≡ true) × (n ≡ p)
first_if true n p h = (refl, same_Some n p h)
first_if false n p h = cc

-- the positions are of the history
waits_low : (plan : PlanView) (past : List Event) (s i p : ℕ) → slice_get (waits_on plan past s) i ≡ Some p → p < length past
waits_low plan [] s i p there = cc
waits_low plan (e ∷ past) s i p there =
    ⊎_elim
    (λ front. let low = waits_low plan past s i p front in omega (arith, low))
    (λ last. let at = (first_if (waits s (act_of plan e)) (length past) p last.1).1 in omega (arith, at))
    (last_or_front (waits_on plan past s) (cond (waits s (act_of plan e)) (length past ∷ []) []) i p (one_if (waits s (act_of plan e)) (length past)) there)

-- ## What a wait parks

-- an act that waits on a semaphore is parked with the next rank
pub awaits_rank : (plan : PlanView) (past : List Event) (s : Obj) (act : Option Act) → waits s.0 act ≡ true → awaited_by plan past act ≡ Some (Rank s (wait_count plan past s.0 + 1))
awaits_rank plan past s (Some (Wait t)) begins = ap (λ n. Some (Rank (record { 0 = n }) (wait_count plan past n + 1))) (eqb-true t.0 s.0 begins)
awaits_rank plan past s (Some (WaitFor t ms)) begins = ap (λ n. Some (Rank (record { 0 = n }) (wait_count plan past n + 1))) (eqb-true t.0 s.0 begins)
awaits_rank plan past s _ begins = cc

wait_parks : (plan : PlanView) (past : List Event) (d b : Blk) (s : Obj) (p : ℕ) (act : Option Act) → slice_get {X = ℕ × Blk} (cond (waits s.0 act) ((length past, d) ∷ []) []) 0 ≡ Some (p, b)
    → cond (d.0 == b.0) (awaited_by plan past act) None ≡ Some (Rank s (wait_count plan past s.0 + 1))
wait_parks plan past d b s p act h =
    elim (waits s.0 act) as (λ v. waits s.0 act ≡ v → slice_get {X = ℕ × Blk} (cond v ((length past, d) ∷ []) []) 0 ≡ Some (p, b) → cond (d.0 == b.0) (awaited_by plan past act) None ≡ Some (Rank s (wait_count plan past s.0 + 1))) [
      | true ↦ λ begins k.
          ap (λ v. cond v (awaited_by plan past act) None) (eq-eqb d.0 b.0 (ap (λ w. w.1.0) (same_Some (length past, d) (p, b) k))) ∙ awaits_rank plan past s act begins
      | false ↦ λ other k. cc
    ] refl h

-- what a wait that begins parks its block for
waits_now : (plan : PlanView) (past : List Event) (e : Event) (b : Blk) (s : Obj) (p : ℕ) → slice_get (wait_if (waits s.0) plan past e) 0 ≡ Some (p, b) → parked_now plan past e b.0 ≡ Some (Rank s (wait_count plan past s.0 + 1))
waits_now plan past (Acted w (Block d) i) b s p h = wait_parks plan past d b s p (act_at plan (Block d) i) h
waits_now plan past e b s p h = cc

-- an event begins one at most
few_now : (plan : PlanView) (past : List Event) (e : Event) (s : ℕ) → length (wait_if (waits s) plan past e) ≤ 1
few_now plan past (Acted w (Block b) i) s = few (waits s (act_at plan (Block b) i))
  where
    few : (v : Bool) → length {A = ℕ × Blk} (cond v ((length past, b) ∷ []) []) ≤ 1
    few true = omega arith
    few false = omega arith
few_now plan past e s = omega arith

-- ## By rank

-- the wait of a block that is parked with rank k
pub record RankAt (plan : PlanView) (past : List Event) (b : Blk) (s : Obj) (k : ℕ) : Type 0 where
  pub place : ℕ
  pub rank : k ≡ place + 1
  pub position : ℕ
  pub there : slice_get (sema_waits plan past s.0) place ≡ Some (position, b)
  pub last : last_act past b.0 ≡ Some position

-- a wait that begins is of the block that acts
new_wait : (plan : PlanView) (past : List Event) (e : Event) (s : ℕ) (w : ℕ × Blk) → slice_get (wait_if (waits s) plan past e) 0 ≡ Some w → last_act (e ∷ past) w.1.0 ≡ Some w.0
new_wait plan past (Acted u (Block d) i) s w h = by_act (waits s (act_at plan (Block d) i)) h
  where
    by_act : (v : Bool) → slice_get {X = ℕ × Blk} (cond v ((length past, d) ∷ []) []) 0 ≡ Some w → last_act (Acted u (Block d) i ∷ past) w.1.0 ≡ Some w.0
    by_act true k =
        let same = same_Some (length past, d) w k in
        ap (λ v. cond v (Some (length past)) (last_act past w.1.0)) (eq-eqb d.0 w.1.0 (ap (λ x. x.1.0) same)) ∙ ap (λ x. Some x.0) same
    by_act false k = cc
new_wait plan past e s w h = cc

-- an act that is not the newest
old_act : (past : List Event) (e : Event) (b p : ℕ) → last_act (e ∷ past) b ≡ Some p → p < length past → last_act past b ≡ Some p
old_act past (Acted u r i) b p last low = by_act (same_run r (Block (record { 0 = b }))) last
  where
    by_act : (v : Bool) → cond v (Some (length past)) (last_act past b) ≡ Some p → last_act past b ≡ Some p
    by_act true k = let at = same_Some (length past) p k in absurd (omega (arith, at, low))
    by_act false k = k
old_act past e b p last low = last

-- a wait is of the block whose last act stands at its position
waiter_is : (plan : PlanView) (past : List Event) (s i b : ℕ) (w : ℕ × Blk) → IsPlan plan → slice_get (sema_waits plan past s) i ≡ Some w → last_act past b ≡ Some w.0 → w.1.0 ≡ b
waiter_is plan [] s i b w valid there last = cc
waiter_is plan (e ∷ past) s i b w valid there last =
    ⊎_elim
    (λ front. waiter_is plan past s i b w valid front (old_act past e b w.0 last (waits_low plan past s i w.0 (position_at plan past s i w valid front))))
    (λ new. last_act_once (e ∷ past) w.1.0 b w.0 (new_wait plan past e s w new.1) last)
    (last_or_front (sema_waits plan past s) (wait_if (waits s) plan past e) i w (few_now plan past e s) there)

wait_of : (w : ℕ × Blk) (p : ℕ) (b : Blk) → w.0 ≡ p → w.1.0 ≡ b.0 → Some w ≡ Some (p, b)
wait_of w p b position block = ap (λ n. Some (n, w.1)) position ∙ ap (λ n. Some (p, record { 0 = n })) block

pub rank_at : (plan : PlanView) (past : List Event) (b : Blk) (s : Obj) (k : ℕ) → IsPlan plan → awaited plan past (Block b) ≡ Some (Rank s k) → RankAt plan past b s k
rank_at plan past b s k valid is =
    let one = begun plan past b (Rank s k) is in
    let low = (given_awaited plan past b (Rank s k) is).0 in
    let within = slice_get_within (waits_on plan past s.0) (k - 1) one.position one.begun in
    let long = as_many_waited plan past s.0 valid in
    let longer = waits_long plan past s.0 in
    let w = slice_get_some (sema_waits plan past s.0) (k - 1) (omega (arith, within, long, longer)) in
    let position : w.0.0 ≡ one.position = same_Some w.0.0 one.position (sym (position_at plan past s.0 (k - 1) w.0 valid w.1) ∙ one.begun) in
    let block = waiter_is plan past s.0 (k - 1) b.0 w.0 valid w.1 (one.last ∙ ap Some (sym position)) in
    record {
      place = k - 1;
      rank = omega (arith, low);
      position = one.position;
      there = w.1 ∙ wait_of w.0 one.position b position block;
      last = one.last;
    }

-- ## A last act that is a wait

-- a wait that an event does not begin stood before it
front_only : (plan : PlanView) (past : List Event) (e : Event) (s i p : ℕ) → slice_get (waits_on plan (e ∷ past) s) i ≡ Some p → p < length past → slice_get (waits_on plan past s) i ≡ Some p
front_only plan past e s i p there low =
    ⊎_elim
    (λ front. front)
    (λ last. let at = (first_if (waits s (act_of plan e)) (length past) p last.1).1 in absurd (omega (arith, at, low)))
    (last_or_front (waits_on plan past s) (cond (waits s (act_of plan e)) (length past ∷ []) []) i p (one_if (waits s (act_of plan e)) (length past)) there)

last_now : (plan : PlanView) (past : List Event) (r : Reason) (s : Obj) (act : Option Act) (i p : ℕ) → awaited_by plan past act ≡ Some r → length past ≡ p
    → slice_get (waits_on plan past s.0 ++ cond (waits s.0 act) (length past ∷ []) []) i ≡ Some p → r ≡ Rank s (i + 1)
last_now plan past r s act i p by end there =
    ⊎_elim
    (λ front. let low = waits_low plan past s.0 i p front in absurd (omega (arith, low, end)))
    (λ last.
    let begins = first_if (waits s.0 act) (length past) p last.1 in
    same_Some r (Rank s (wait_count plan past s.0 + 1)) (sym by ∙ awaits_rank plan past s act begins.0)
    ∙ ap (λ n. Rank s (n + 1)) (sym (waits_long plan past s.0) ∙ sym last.0))
    (last_or_front (waits_on plan past s.0) (cond (waits s.0 act) (length past ∷ []) []) i p (one_if (waits s.0 act) (length past)) there)

last_by : (plan : PlanView) (past : List Event) (b : Blk) (r : Reason) (p : ℕ) (s : Obj) (i : ℕ) → parked_by plan past (Block b) ≡ Some r → last_act past b.0 ≡ Some p → slice_get (waits_on plan past s.0) i ≡ Some p → r ≡ Rank s (i + 1)
last_by plan [] b r p s i by last there = cc
last_by plan (Acted w (Block d) j ∷ past) b r p s i by last there =
    elim (d.0 == b.0) as (λ v. cond v (awaited_by plan past (act_at plan (Block d) j)) (parked_by plan past (Block b)) ≡ Some r → cond v (Some (length past)) (last_act past b.0) ≡ Some p → r ≡ Rank s (i + 1)) [
      | true ↦ λ now here. last_now plan past r s (act_at plan (Block d) j) i p now (same_Some (length past) p here) there
      | false ↦ λ old was. last_by plan past b r p s i old was (front_only plan past (Acted w (Block d) j) s.0 i p there (last_act_low past b.0 p was))
    ] by last
last_by plan (Acted w (Source o) j ∷ past) b r p s i by last there =
    last_by plan past b r p s i by last (front_only plan past (Acted w (Source o) j) s.0 i p there (last_act_low past b.0 p last))
last_by plan (Wake w c ∷ past) b r p s i by last there =
    elim (c.0 == b.0) as (λ v. cond v None (parked_by plan past (Block b)) ≡ Some r → r ≡ Rank s (i + 1)) [
      | true ↦ λ woken. cc
      | false ↦ λ old. last_by plan past b r p s i old last (front_only plan past (Wake w c) s.0 i p there (last_act_low past b.0 p last))
    ] by
last_by plan (e ∷ past) b r p s i by last there =
    elim (opens e (Block b)) as (λ v. cond v None (parked_by plan past (Block b)) ≡ Some r → r ≡ Rank s (i + 1)) [
      | true ↦ λ begins. cc
      | false ↦ λ old. last_by plan past b r p s i old last (front_only plan past e s.0 i p there (last_act_low past b.0 p last))
    ] by

-- where a block's last act is a wait on a semaphore, the block is parked with the rank of this wait
pub last_is_rank : (plan : PlanView) (past : List Event) (b : Blk) (r : Reason) (p : ℕ) (s : Obj) (i : ℕ) → awaited plan past (Block b) ≡ Some r → last_act past b.0 ≡ Some p → slice_get (waits_on plan past s.0) i ≡ Some p → r ≡ Rank s (i + 1)
last_is_rank plan past b r p s i is last there = last_by plan past b r p s i (parked_facts plan past b r is).by last there

-- ## Whether a wait is over

expired_is : (plan : PlanView) (past : List Event) (s k i p : ℕ) → k ≡ i + 1 → slice_get (waits_on plan past s) i ≡ Some p → is_expired_wait plan past s k ≡ has_expired past p
expired_is plan past s k i p rank there =
    let place : k - 1 ≡ i = omega (arith, rank) in
    ap (λ n. option_map_or (has_expired past) (slice_get (waits_on plan past s) n) false) place
    ∙ ap (λ o. option_map_or (has_expired past) o false) there

-- a wait is not over that has not expired, and up to which more have not than can pass
not_over : (plan : PlanView) (past : List Event) (s : Obj) (k : ℕ) → is_expired_wait plan past s.0 k ≡ false → first_value plan s.0 + signal_count plan past s.0 < unexpired past (take k (waits_on plan past s.0))
    → is_over plan past (Rank s k) ≡ false
unfolding has_come has_run_out
not_over plan past s k alive high =
    let passing = nat_le (unexpired past (take k (waits_on plan past s.0))) (first_value plan s.0 + signal_count plan past s.0) in
    ap (λ v. (not v && passing) || v) alive
    ∙ ap (λ v. v || false) (false_from_ne_true passing (λ h. let l = leb-true (unexpired past (take k (waits_on plan past s.0))) (first_value plan s.0 + signal_count plan past s.0) h in absurd (omega (arith, l, high))))

-- and that is what it is not to be over
pub record NotOver (plan : PlanView) (past : List Event) (s : Obj) (k : ℕ) : Type 0 where
  pub alive : is_expired_wait plan past s.0 k ≡ false
  pub high : first_value plan s.0 + signal_count plan past s.0 < unexpired past (take k (waits_on plan past s.0))

pub not_over_parts : (plan : PlanView) (past : List Event) (s : Obj) (k : ℕ) → is_over plan past (Rank s k) ≡ false → NotOver plan past s k
unfolding has_come has_run_out
not_over_parts plan past s k waits =
    let passing = nat_le (unexpired past (take k (waits_on plan past s.0))) (first_value plan s.0 + signal_count plan past s.0) in
    let out = is_expired_wait plan past s.0 k in
    let parts = or_parts (not out && passing) out waits in
    let late : passing ≡ false = sym (ap (λ v. not v && passing) parts.1) ∙ parts.0 in
    record {
      alive = parts.1;
      high =
          ⊎_elim
          (λ (behind : first_value plan s.0 + signal_count plan past s.0 < unexpired past (take k (waits_on plan past s.0))). behind)
          (λ (ahead : unexpired past (take k (waits_on plan past s.0)) ≤ first_value plan s.0 + signal_count plan past s.0).
          absurd (both_ways passing late (le-leb (unexpired past (take k (waits_on plan past s.0))) (first_value plan s.0 + signal_count plan past s.0) ahead)))
          (cases_lt (first_value plan s.0 + signal_count plan past s.0) (unexpired past (take k (waits_on plan past s.0))));
    }

-- ## Who waits

-- of the waits up to a given one, no more have not expired after an event
pub fewer_taken : (plan : PlanView) (past : List Event) (e : Event) (s k : ℕ) → k ≤ length (waits_on plan past s) → unexpired (e ∷ past) (take k (waits_on plan (e ∷ past) s)) ≤ unexpired past (take k (waits_on plan past s))
fewer_taken plan past e s k low =
    let same = ap (unexpired (e ∷ past)) (take-append-le k (waits_on plan past s) (cond (waits s (act_of plan e)) (length past ∷ []) []) low) in
    let fewer = count_fewer (λ p. not (has_expired (e ∷ past) p)) (λ p. not (has_expired past p)) (take k (waits_on plan past s)) (λ p h. not_from_false (has_expired past p) (or_parts (expires past e p) (has_expired past p) (not-true (expires past e p || has_expired past p) h)).1) in
    omega (arith, same, fewer)

-- a wait that is not over is of a block that is parked with its rank
rank_from : (plan : PlanView) (past : List Event) (b : Blk) (s : Obj) (i p : ℕ) → IsPlan plan → IsLawful plan past → slice_get (sema_waits plan past s.0) i ≡ Some (p, b) → has_expired past p ≡ false
    → first_value plan s.0 + signal_count plan past s.0 < unexpired past (take (i + 1) (waits_on plan past s.0)) → awaited plan past (Block b) ≡ Some (Rank s (i + 1))
rank_from plan [] b s i p valid lawful there alive high = cc
rank_from plan (e ∷ past) b s i p valid lawful there alive high =
    let alive_before = (or_parts (expires past e p) (has_expired past p) alive).1 in
    ⊎_elim
    (λ front.
    let position = position_at plan past s.0 i (p, b) valid front in
    let within = slice_get_within (waits_on plan past s.0) i p position in
    let fewer = fewer_taken plan past e s.0 (i + 1) (omega (arith, within)) in
    let more = count_by-cons (λ x. signals s.0 (act_of plan x)) e past in
    let high_before : first_value plan s.0 + signal_count plan past s.0 < unexpired past (take (i + 1) (waits_on plan past s.0)) = omega (arith, high, fewer, more) in
    still_parked plan past e b (Rank s (i + 1)) lawful (rank_from plan past b s i p valid lawful.0 front alive_before high_before)
    (not_over plan past s (i + 1) (expired_is plan past s.0 (i + 1) i p refl position ∙ alive_before) high_before))
    (λ last.
    now_parked plan past e b (Rank s (i + 1)) lawful
    (waits_now plan past e b s p last.1 ∙ ap (λ n. Some (Rank s (n + 1))) (sym (as_many_waited plan past s.0 valid) ∙ sym last.0)))
    (last_or_front (sema_waits plan past s.0) (wait_if (waits s.0) plan past e) i (p, b) (few_now plan past e s.0) there)

-- ## Among those that have not expired

-- the wait has not expired
abbrev pub alive_in : List Event → ℕ × Blk → Bool
alive_in past w = not (has_expired past w.0)

counted : (plan : PlanView) (past : List Event) (s k : ℕ) → IsPlan plan → unexpired past (take k (waits_on plan past s)) ≡ count_by (alive_in past) (take k (sema_waits plan past s))
counted plan past s k valid =
    ap (λ l. unexpired past (take k l)) (sym (positions_are plan past s valid))
    ∙ (ap (unexpired past) (take-map (λ w. w.0) k (sema_waits plan past s))
    ∙ count_by-map (λ p. not (has_expired past p)) (λ w. w.0) (take k (sema_waits plan past s)))

-- as many blocks stand whose wait has not expired as there are such waits
pub all_counted : (plan : PlanView) (past : List Event) (s : ℕ) → IsPlan plan → unexpired past (waits_on plan past s) ≡ length (unexpired_blocks past (sema_waits plan past s))
all_counted plan past s valid =
    ap (unexpired past) (sym (positions_are plan past s valid))
    ∙ (count_by-map (λ p. not (has_expired past p)) (λ w. w.0) (sema_waits plan past s)
    ∙ (sym (length-filter (alive_in past) (sema_waits plan past s)) ∙ sym (length-map (filter (alive_in past) (sema_waits plan past s)) (λ w. w.1))))

-- the place of a wait that has not expired among those that have not
pub record UnexpiredAt (plan : PlanView) (past : List Event) (b : Blk) (s : Obj) (k : ℕ) : Type 0 where
  pub place : ℕ
  pub there : slice_get (unexpired_blocks past (sema_waits plan past s.0)) place ≡ Some b
  pub count : unexpired past (take k (waits_on plan past s.0)) ≡ place + 1

unexpired_at : (plan : PlanView) (past : List Event) (b : Blk) (s : Obj) (k : ℕ) → IsPlan plan → awaited plan past (Block b) ≡ Some (Rank s k) → is_expired_wait plan past s.0 k ≡ false → UnexpiredAt plan past b s k
unexpired_at plan past b s k valid is alive =
    let at = rank_at plan past b s k valid is in
    let w : ℕ × Blk = (at.position, b) in
    let waiting = sema_waits plan past s.0 in
    let yes_alive : alive_in past w ≡ true = ap not (sym (expired_is plan past s.0 k at.place at.position at.rank (position_at plan past s.0 at.place w valid at.there)) ∙ alive) in
    let kept = kept_there (alive_in past) waiting at.place (count_by (alive_in past) (take at.place waiting)) w at.there yes_alive refl in
    let more = count_taken (alive_in past) waiting at.place w at.there in
    let one = ap (λ v. cond {A = ℕ} v 1 0) yes_alive in
    let all = counted plan past s.0 (at.place + 1) valid in
    record {
      place = count_by (alive_in past) (take at.place waiting);
      there = slice_get-map (λ x. x.1) (filter (alive_in past) waiting) (count_by (alive_in past) (take at.place waiting)) ∙ ap (option_map (λ x. x.1)) kept;
      count = ap (λ n. unexpired past (take n (waits_on plan past s.0))) at.rank ∙ omega (arith, all, more, one);
    }

-- ## The sleepers

-- of the waits up to the one that stands at place j among those that have not expired, as many have not
pub kept_count : (plan : PlanView) (past : List Event) (s j : ℕ) (w : ℕ × Blk) → IsPlan plan → (from : KeptFrom (alive_in past) (sema_waits plan past s) j w) → unexpired past (take (from.place + 1) (waits_on plan past s)) ≡ j + 1
kept_count plan past s j w valid from =
    let more = count_taken (alive_in past) (sema_waits plan past s) from.place w from.there in
    let one = ap (λ v. cond {A = ℕ} v 1 0) from.passes in
    let before = from.count in
    let all = counted plan past s (from.place + 1) valid in
    omega (arith, all, more, one, before)

-- of a wait that stands at place j among those that have not expired, and is not over
pub record WaitsAt (plan : PlanView) (past : List Event) (w : ℕ × Blk) (s : Obj) (j : ℕ) : Type 0 where
  pub rank : ℕ
  pub is : awaited plan past (Block w.1) ≡ Some (Rank s rank)
  pub last : last_act past w.1.0 ≡ Some w.0
  pub waits : is_over plan past (Rank s rank) ≡ false
  pub count : unexpired past (take rank (waits_on plan past s.0)) ≡ j + 1

pub wait_at : (plan : PlanView) (past : List Event) (s : Obj) (j : ℕ) (w : ℕ × Blk) → IsPlan plan → IsLawful plan past → first_value plan s.0 + signal_count plan past s.0 ≤ j
    → slice_get (filter (alive_in past) (sema_waits plan past s.0)) j ≡ Some w → WaitsAt plan past w s j
wait_at plan past s j w valid lawful high there =
    let from = kept_from (alive_in past) (sema_waits plan past s.0) j w there in
    let count = kept_count plan past s.0 j w valid from in
    let late : first_value plan s.0 + signal_count plan past s.0 < unexpired past (take (from.place + 1) (waits_on plan past s.0)) = omega (arith, count, high) in
    let alive : has_expired past w.0 ≡ false = not-true (has_expired past w.0) from.passes in
    let is = rank_from plan past w.1 s from.place w.0 valid lawful from.there alive late in
    let position = position_at plan past s.0 from.place w valid from.there in
    let place : from.place + 1 - 1 ≡ from.place = omega arith in
    record {
      rank = from.place + 1;
      is = is;
      last = parked_last plan past w.1 (Rank s (from.place + 1)) w.0 is (ap (slice_get (waits_on plan past s.0)) place ∙ position);
      waits = not_over plan past s (from.place + 1) (expired_is plan past s.0 (from.place + 1) from.place w.0 refl position ∙ alive) late;
      count = count;
    }

-- a block of a list without its front
record Dropped (n : ℕ) (xs : List Blk) (b : Blk) : Type 0 where
  place : ℕ
  high : n ≤ place
  there : slice_get xs place ≡ Some b

one_on : (n m : ℕ) (x : Blk) (xs : List Blk) (b : Blk) → m ≤ suc n → Dropped n xs b → Dropped m (x ∷ xs) b
one_on n m x xs b low rest = let high = rest.high in record { place = suc rest.place; high = omega (arith, low, high); there = rest.there }

dropped_any : (n : ℕ) (xs : List Blk) (b : Blk) → list_any (λ c. c.0 == b.0) (drop n xs) ≡ true → Dropped n xs b
dropped_any zero [] b h = cc
dropped_any zero (x ∷ xs) b h =
    ⊎_elim
    (λ same. record { place = 0; high = omega arith; there = ap (λ n. Some (record { 0 = n })) (eqb-true x.0 b.0 same) })
    (λ later. one_on 0 0 x xs b (omega arith) (dropped_any zero xs b later))
    (or_cases (x.0 == b.0) (list_any (λ c. c.0 == b.0) xs) h)
dropped_any (suc n) [] b h = cc
dropped_any (suc n) (x ∷ xs) b h = one_on n (suc n) x xs b (omega arith) (dropped_any n xs b h)

any_dropped : (n : ℕ) (xs : List Blk) (j : ℕ) (b : Blk) → n ≤ j → slice_get xs j ≡ Some b → list_any (λ c. c.0 == b.0) (drop n xs) ≡ true
any_dropped n [] j b high there = cc
any_dropped zero (x ∷ xs) zero b high there = or_left (x.0 == b.0) (list_any (λ c. c.0 == b.0) xs) (eq-eqb x.0 b.0 (ap (λ c. c.0) (same_Some x b there)))
any_dropped zero (x ∷ xs) (suc j) b high there = or_right (x.0 == b.0) (list_any (λ c. c.0 == b.0) xs) (any_dropped zero xs j b (omega arith) there)
any_dropped (suc n) (x ∷ xs) zero b high there = absurd (omega (arith, high))
any_dropped (suc n) (x ∷ xs) (suc j) b high there = any_dropped n xs j b (omega (arith, high)) there

-- what a block is parked for that stands at place j of those whose wait has not expired, and sleeps
pub record SleepsAt (plan : PlanView) (past : List Event) (b : Blk) (s : Obj) (j : ℕ) : Type 0 where
  pub rank : ℕ
  pub is : awaited plan past (Block b) ≡ Some (Rank s rank)
  pub waits : is_over plan past (Rank s rank) ≡ false
  pub count : unexpired past (take rank (waits_on plan past s.0)) ≡ j + 1

pub sleeper_at : (plan : PlanView) (past : List Event) (b : Blk) (s : Obj) (j : ℕ) → IsPlan plan → IsLawful plan past → first_value plan s.0 + signal_count plan past s.0 ≤ j
    → slice_get (unexpired_blocks past (sema_waits plan past s.0)) j ≡ Some b → SleepsAt plan past b s j
sleeper_at plan past b s j valid lawful high there =
    let alive = filter (alive_in past) (sema_waits plan past s.0) in
    elim (slice_get alive j) as (λ o. slice_get alive j ≡ o → option_map (λ w. w.1) o ≡ Some b → SleepsAt plan past b s j) [
      | None ↦ λ at k. cc
      | Some w ↦ λ at k.
          let waits = wait_at plan past s j w valid lawful high at in
          subst (λ c. SleepsAt plan past c s j) (same_Some w.1 b k) (record { rank = waits.rank; is = waits.is; waits = waits.waits; count = waits.count })
    ] refl (sym (slice_get-map (λ w. w.1) alive j) ∙ there)

-- who sleeps at a semaphore is parked there by a wait that is not over
pub record SemaSleeper (plan : PlanView) (past : List Event) (b : Blk) (s : Obj) : Type 0 where
  pub rank : ℕ
  pub is : awaited plan past (Block b) ≡ Some (Rank s rank)
  pub waits : is_over plan past (Rank s rank) ≡ false

pub sema_sleeper_parked : (plan : PlanView) (past : List Event) (b : Blk) (s : Obj) → IsPlan plan → IsLawful plan past → list_any (λ c. c.0 == b.0) (sema_sleepers plan past s.0) ≡ true → SemaSleeper plan past b s
sema_sleeper_parked plan past b s valid lawful any =
    let at = dropped_any (first_value plan s.0 + signal_count plan past s.0) (unexpired_blocks past (sema_waits plan past s.0)) b any in
    let sleeps = sleeper_at plan past b s at.place valid lawful at.high at.there in
    record { rank = sleeps.rank; is = sleeps.is; waits = sleeps.waits }

-- and who is parked so sleeps there
pub sleeps_at_sema : (plan : PlanView) (past : List Event) (b : Blk) (s : Obj) (k : ℕ) → IsPlan plan → awaited plan past (Block b) ≡ Some (Rank s k) → is_over plan past (Rank s k) ≡ false
    → list_any (λ c. c.0 == b.0) (sema_sleepers plan past s.0) ≡ true
sleeps_at_sema plan past b s k valid is waits =
    let parts = not_over_parts plan past s k waits in
    let at = unexpired_at plan past b s k valid is parts.alive in
    let count = at.count in
    let high = parts.high in
    any_dropped (first_value plan s.0 + signal_count plan past s.0) (unexpired_blocks past (sema_waits plan past s.0)) at.place b (omega (arith, count, high)) at.there
