-- Who sleeps at a group: just the blocks that are parked for it, where it has not been empty since and their wait has not expired.
use Rattle.std.proofs.Common.{◌≡◌, ⊎_elim, ℕ, ◌<◌, ◌≤◌, ◌==◌, nat_lt, Bool, true, false, not, ◌&&◌, ◌||◌, cond, List, [], ◌∷◌, ◌++◌, length, map, filter, Option, Some, None, refl, ap, sym, ◌∙◌, arith, eq-eqb, ne_eqb}
use Rattle.std.specs.List.{list_any}
use Rattle.std.proofs.Math.Bool.{or-false, and-false}
use Rattle.std.proofs.lemmas.Bool.{eqb-true, false_from_ne_true, ltb-true, lt-ltb, or_left, or_right, or_cases, or_parts, and_parts, and_from, cases_eq}
use Rattle.std.proofs.lemmas.List.Folds.{list_any-append}
use Rattle.gcd_plan.specs.PlanView.{PlanView}
use Rattle.gcd_plan.specs.declared.act.Act.{Act}
use Rattle.gcd_plan.specs.declared.act.Act.TheVariants.{GroupWait, GroupWaitFor}
use Rattle.gcd_plan.specs.declared.numbers.Blk.{Blk}
use Rattle.gcd_plan.specs.declared.numbers.Obj.{Obj}
use Rattle.gcd_plan.specs.declared.numbers.Run.TheVariants.{Block}
use Rattle.gcd_plan.specs.declared.reason.Reason.TheVariants.{Group as Empty}
use Rattle.gcd_event.specs.declared.event.Event.{Event}
use Rattle.gcd_event.specs.declared.event.Event.TheVariants.{Act as Acted, Expire}
use Rattle.gcd_history.specs.Runs.{act_at}
use Rattle.gcd_history.specs.Expired.{last_act, expires, has_expired}
use Rattle.gcd_history.specs.Groups.{count, is_empty_above}
use Rattle.gcd_history.specs.Parked.{awaited_by, awaited, has_come, has_run_out, is_over}
use Rattle.gcd_history.specs.Permitted.{IsLawful}
use Rattle.gcd_history.proofs.Lists.{any_left, any_right}
use Rattle.gcd_history.proofs.Waits.Woken.{parked_facts}
use Rattle.gcd_refinement.specs.Sleepers.{wait_if, waits_for_group, unexpired_blocks, group_waits, group_sleepers}
use Rattle.gcd_refinement.proofs.Limits.Expiries.{expires_own}
use Rattle.gcd_refinement.proofs.Limits.Expiring.{parked_last}
use Rattle.gcd_refinement.proofs.Sleepers.NewlyParked.{parked_now, parked_new, now_parked, still_parked}

-- ## Waits, and the blocks of those that have not expired

-- it is the wait of block b that began at this position
abbrev pub is_wait : ℕ → Blk → ℕ × Blk → Bool
is_wait position b w = w.0 == position && w.1.0 == b.0

-- the wait of a block among them
record WaitIn (past : List Event) (b : Blk) (xs : List (ℕ × Blk)) : Type 0 where
  position : ℕ
  there : list_any (is_wait position b) xs ≡ true
  unexpired : has_expired past position ≡ false

wait_more : (past : List Event) (b : Blk) (w : ℕ × Blk) (xs : List (ℕ × Blk)) → WaitIn past b xs → WaitIn past b (w ∷ xs)
wait_more past b w xs r = record { position = r.position; there = or_right (is_wait r.position b w) (list_any (is_wait r.position b) xs) r.there; unexpired = r.unexpired }

wait_in : (past : List Event) (b : Blk) (xs : List (ℕ × Blk)) → list_any (λ c. c.0 == b.0) (unexpired_blocks past xs) ≡ true → WaitIn past b xs
wait_in past b [] h = cc
wait_in past b (w ∷ xs) h =
    elim (has_expired past w.0) as (λ v. has_expired past w.0 ≡ v → list_any (λ c. c.0 == b.0) (map (λ k. k.1) (cond (not v) (w ∷ filter (λ k. not (has_expired past k.0)) xs) (filter (λ k. not (has_expired past k.0)) xs))) ≡ true → WaitIn past b (w ∷ xs)) [
      | true ↦ λ out k. wait_more past b w xs (wait_in past b xs k)
      | false ↦ λ on k.
          ⊎_elim
          (λ here.
          record {
            position = w.0;
            there = or_left (is_wait w.0 b w) (list_any (is_wait w.0 b) xs) (and_from (w.0 == w.0) (w.1.0 == b.0) (eq-eqb w.0 w.0 refl) here);
            unexpired = on;
          })
          (λ more. wait_more past b w xs (wait_in past b xs more))
          (or_cases (w.1.0 == b.0) (list_any (λ c. c.0 == b.0) (unexpired_blocks past xs)) k)
    ] refl h

in_wait : (past : List Event) (b : Blk) (p : ℕ) (xs : List (ℕ × Blk)) → list_any (is_wait p b) xs ≡ true → has_expired past p ≡ false → list_any (λ c. c.0 == b.0) (unexpired_blocks past xs) ≡ true
in_wait past b p [] h on = cc
in_wait past b p (w ∷ xs) h on =
    ⊎_elim
    (λ here.
    let parts = and_parts (w.0 == p) (w.1.0 == b.0) here in
    let now : has_expired past w.0 ≡ false = ap (has_expired past) (eqb-true w.0 p parts.0) ∙ on in
    ap (λ v. list_any (λ c. c.0 == b.0) (map (λ k. k.1) (cond (not v) (w ∷ filter (λ k. not (has_expired past k.0)) xs) (filter (λ k. not (has_expired past k.0)) xs)))) now
    ∙ or_left (w.1.0 == b.0) (list_any (λ c. c.0 == b.0) (unexpired_blocks past xs)) parts.1)
    (λ more.
    let rest = in_wait past b p xs more on in
    elim (has_expired past w.0) as (λ v. list_any (λ c. c.0 == b.0) (map (λ k. k.1) (cond (not v) (w ∷ filter (λ k. not (has_expired past k.0)) xs) (filter (λ k. not (has_expired past k.0)) xs))) ≡ true) [
      | true ↦ rest
      | false ↦ or_right (w.1.0 == b.0) (list_any (λ c. c.0 == b.0) (unexpired_blocks past xs)) rest
    ])
    (or_cases (is_wait p b w) (list_any (is_wait p b) xs) h)

-- ## Who waits now

pub group_of_same : (h g : Obj) (m p : ℕ) → Some (Empty h m) ≡ Some (Empty g p) → (h ≡ g) × (m ≡ p)
group_of_same h g m p e = (cc, cc)

abbrev one_wait : ℕ → ℕ → List (ℕ × Blk)
one_wait position b = (position, record { 0 = b }) ∷ []

record NowSleeps (past : List Event) (b : Blk) (p : ℕ) (now : List (ℕ × Blk)) : Type 0 where
  position : p ≡ length past
  new : now ≡ one_wait (length past) b.0

sleep_now : (past : List Event) (d b : Blk) (h g : Obj) (p : ℕ) → (d.0 == b.0) ≡ true → Some (Empty h (length past)) ≡ Some (Empty g p) → NowSleeps past b p (cond (h.0 == g.0) (one_wait (length past) d.0) [])
sleep_now past d b h g p same e =
    let parts = group_of_same h g (length past) p e in
    record {
      position = sym parts.1;
      new = ap (λ v. cond v (one_wait (length past) d.0) []) (eq-eqb h.0 g.0 (ap (λ o. o.0) parts.0)) ∙ ap (one_wait (length past)) (eqb-true d.0 b.0 same);
    }

sleep_is : (plan : PlanView) (past : List Event) (d b : Blk) (g : Obj) (p : ℕ) (act : Option Act) → (d.0 == b.0) ≡ true → awaited_by plan past act ≡ Some (Empty g p)
    → NowSleeps past b p (cond (waits_for_group g.0 act) ((length past, d) ∷ []) [])
sleep_is plan past d b g p (Some (GroupWait h)) same e = sleep_now past d b h g p same e
sleep_is plan past d b g p (Some (GroupWaitFor h ms)) same e = sleep_now past d b h g p same e
sleep_is plan past d b g p _ same e = cc

now_sleeps : (plan : PlanView) (past : List Event) (e : Event) (b : Blk) (g : Obj) (p : ℕ) → parked_now plan past e b.0 ≡ Some (Empty g p) → NowSleeps past b p (wait_if (waits_for_group g.0) plan past e)
now_sleeps plan past (Acted w (Block d) i) b g p h =
    elim (d.0 == b.0) as (λ v. d.0 == b.0 ≡ v → cond v (awaited_by plan past (act_at plan (Block d) i)) None ≡ Some (Empty g p) → NowSleeps past b p (wait_if (waits_for_group g.0) plan past (Acted w (Block d) i))) [
      | true ↦ λ same by. sleep_is plan past d b g p (act_at plan (Block d) i) same by
      | false ↦ λ other by. cc
    ] refl h
now_sleeps plan past e b g p h = cc

group_parks : (past : List Event) (d b : Blk) (h g : Obj) (p : ℕ) → list_any (is_wait p b) (cond (h.0 == g.0) ((length past, d) ∷ []) []) ≡ true
    → cond (d.0 == b.0) (Some (Empty h (length past))) None ≡ Some (Empty g p)
group_parks past d b h g p any =
    elim (h.0 == g.0) as (λ v. h.0 == g.0 ≡ v → list_any (is_wait p b) (cond v ((length past, d) ∷ []) []) ≡ true → cond (d.0 == b.0) (Some (Empty h (length past))) None ≡ Some (Empty g p)) [
      | true ↦ λ same k.
          let parts = and_parts (length past == p) (d.0 == b.0) (sym (or-false (length past == p && d.0 == b.0)) ∙ k) in
          ap (λ v. cond v (Some (Empty h (length past))) None) parts.1
          ∙ (ap (λ n. Some (Empty (record { 0 = n }) (length past))) (eqb-true h.0 g.0 same) ∙ ap (λ n. Some (Empty g n)) (eqb-true (length past) p parts.0))
      | false ↦ λ other k. cc
    ] refl any

act_parks : (plan : PlanView) (past : List Event) (d b : Blk) (g : Obj) (p : ℕ) (act : Option Act) → list_any (is_wait p b) (cond (waits_for_group g.0 act) ((length past, d) ∷ []) []) ≡ true
    → cond (d.0 == b.0) (awaited_by plan past act) None ≡ Some (Empty g p)
act_parks plan past d b g p (Some (GroupWait h)) any = group_parks past d b h g p any
act_parks plan past d b g p (Some (GroupWaitFor h ms)) any = group_parks past d b h g p any
act_parks plan past d b g p _ any = cc

sleeps_now : (plan : PlanView) (past : List Event) (e : Event) (b : Blk) (g : Obj) (p : ℕ) → list_any (is_wait p b) (wait_if (waits_for_group g.0) plan past e) ≡ true → parked_now plan past e b.0 ≡ Some (Empty g p)
sleeps_now plan past (Acted w (Block d) i) b g p any = act_parks plan past d b g p (act_at plan (Block d) i) any
sleeps_now plan past e b g p any = cc

-- ## Positions

-- a block is parked for a group since a position of the history
pub parked_since : (plan : PlanView) (past : List Event) (b : Blk) (g : Obj) (p : ℕ) → awaited plan past (Block b) ≡ Some (Empty g p) → p < length past
parked_since plan [] b g p is = let facts = parked_facts plan [] b (Empty g p) is in let no_run : false ≡ true = facts.live in cc
parked_since plan (e ∷ past) b g p is =
    ⊎_elim
    (λ new. let at = (now_sleeps plan past e b g p new).position in omega (arith, at))
    (λ old. let low = parked_since plan past b g p old in omega (arith, low))
    (parked_new plan past e b (Empty g p) is)

-- nothing is above the end
pub none_above : (plan : PlanView) (past : List Event) (g p : ℕ) → length past ≤ p → is_empty_above plan past g p ≡ false
none_above plan [] g p high = refl
none_above plan (e ∷ past) g p high =
    ap (λ v. (v && count plan (e ∷ past) g == 0) || is_empty_above plan past g p)
    (false_from_ne_true (nat_lt p (length (e ∷ past))) (λ h. let l = ltb-true p (length (e ∷ past)) h in absurd (omega (arith, l, high))))
    ∙ none_above plan past g p (omega (arith, high))

-- not empty now, and not before
pub not_above : (plan : PlanView) (past : List Event) (e : Event) (g p : ℕ) → (count plan (e ∷ past) g == 0) ≡ false → is_empty_above plan past g p ≡ false → is_empty_above plan (e ∷ past) g p ≡ false
not_above plan past e g p now before =
    ap (λ v. (nat_lt p (length (e ∷ past)) && v) || is_empty_above plan past g p) now
    ∙ (ap (λ v. v || is_empty_above plan past g p) (and-false (nat_lt p (length (e ∷ past)))) ∙ before)

-- where a group has not been empty above a position of the history, it is not now
pub not_now : (plan : PlanView) (past : List Event) (g p : ℕ) → p < length past → is_empty_above plan past g p ≡ false → (count plan past g == 0) ≡ false
not_now plan [] g p low h = absurd (omega (arith, low))
not_now plan (e ∷ past) g p low h =
    ap (λ v. v && count plan (e ∷ past) g == 0) (sym (lt-ltb p (length (e ∷ past)) low))
    ∙ (or_parts (nat_lt p (length (e ∷ past)) && count plan (e ∷ past) g == 0) (is_empty_above plan past g p) h).0

-- ## The sleepers

-- nobody sleeps at an empty group
pub no_waits : (plan : PlanView) (past : List Event) (g : ℕ) → count plan past g ≡ 0 → group_waits plan past g ≡ []
no_waits plan [] g h = refl
no_waits plan (e ∷ past) g h = ap (λ v. cond v [] (group_waits plan past g ++ wait_if (waits_for_group g) plan past e)) (eq-eqb (count plan (e ∷ past) g) 0 h)

-- a wait since which the group has not been empty, and which has not expired, is not over
pub not_over : (plan : PlanView) (past : List Event) (g : Obj) (p : ℕ) → is_empty_above plan past g.0 p ≡ false → has_expired past p ≡ false → is_over plan past (Empty g p) ≡ false
unfolding has_come has_run_out
not_over plan past g p waits on = ap (λ u. (not u && is_empty_above plan past g.0 p) || u) on ∙ ap (λ u. u || false) waits

-- who is parked for the group waits there
waits_from : (plan : PlanView) (past : List Event) (b : Blk) (g : Obj) (p : ℕ) → awaited plan past (Block b) ≡ Some (Empty g p) → is_empty_above plan past g.0 p ≡ false
    → list_any (is_wait p b) (group_waits plan past g.0) ≡ true
waits_from plan [] b g p is waits = let facts = parked_facts plan [] b (Empty g p) is in let no_run : false ≡ true = facts.live in cc
waits_from plan (e ∷ past) b g p is waits =
    let more = not_now plan (e ∷ past) g.0 p (parked_since plan (e ∷ past) b g p is) waits in
    let before = (or_parts (nat_lt p (length (e ∷ past)) && count plan (e ∷ past) g.0 == 0) (is_empty_above plan past g.0 p) waits).1 in
    let old = group_waits plan past g.0 in
    let now = wait_if (waits_for_group g.0) plan past e in
    ap (λ v. list_any (is_wait p b) (cond v [] (old ++ now))) more
    ∙ ⊎_elim
    (λ new.
    let n = now_sleeps plan past e b g p new in
    any_right (is_wait p b) old now
    (ap (list_any (is_wait p b)) n.new
    ∙ or_left (length past == p && b.0 == b.0) false (and_from (length past == p) (b.0 == b.0) (eq-eqb (length past) p (sym n.position)) (eq-eqb b.0 b.0 refl))))
    (λ was. any_left (is_wait p b) old now (waits_from plan past b g p was before))
    (parked_new plan past e b (Empty g p) is)

pub sleeps_from : (plan : PlanView) (past : List Event) (b : Blk) (g : Obj) (p : ℕ) → awaited plan past (Block b) ≡ Some (Empty g p) → is_empty_above plan past g.0 p ≡ false → has_expired past p ≡ false
    → list_any (λ c. c.0 == b.0) (group_sleepers plan past g.0) ≡ true
sleeps_from plan past b g p is waits on = in_wait past b p (group_waits plan past g.0) (waits_from plan past b g p is waits) on

-- what the block of a wait that has not expired is parked for
record IsParkedFor (plan : PlanView) (past : List Event) (b : Blk) (g : Obj) (p : ℕ) : Type 0 where
  is : awaited plan past (Block b) ≡ Some (Empty g p)
  waits : is_empty_above plan past g.0 p ≡ false

waiter_parked : (plan : PlanView) (past : List Event) (b : Blk) (g : Obj) (p : ℕ) → IsLawful plan past → list_any (is_wait p b) (group_waits plan past g.0) ≡ true → has_expired past p ≡ false → IsParkedFor plan past b g p
waiter_parked plan [] b g p lawful any on = cc
waiter_parked plan (e ∷ past) b g p lawful any on =
    let old = group_waits plan past g.0 in
    let now = wait_if (waits_for_group g.0) plan past e in
    let before = (or_parts (expires past e p) (has_expired past p) on).1 in
    elim (count plan (e ∷ past) g.0 == 0) as (λ v. count plan (e ∷ past) g.0 == 0 ≡ v → list_any (is_wait p b) (cond v [] (old ++ now)) ≡ true → IsParkedFor plan (e ∷ past) b g p) [
      | true ↦ λ zero k. cc
      | false ↦ λ more k.
          elim (list_any (is_wait p b) old) as (λ v. list_any (is_wait p b) old ≡ v → (v || list_any (is_wait p b) now) ≡ true → IsParkedFor plan (e ∷ past) b g p) [
            | true ↦ λ was t.
                let s = waiter_parked plan past b g p lawful.0 was before in
                record { is = still_parked plan past e b (Empty g p) lawful s.is (not_over plan past g p s.waits before); waits = not_above plan past e g.0 p more s.waits }
            | false ↦ λ none new.
                let parks = sleeps_now plan past e b g p new in
                let at = (now_sleeps plan past e b g p parks).position in
                record {
                  is = now_parked plan past e b (Empty g p) lawful parks;
                  waits = not_above plan past e g.0 p more (none_above plan past g.0 p (omega (arith, at)));
                }
          ] refl (sym (list_any-append (is_wait p b) old now) ∙ k)
    ] refl any

-- what a sleeper is parked for
pub record Sleeps (plan : PlanView) (past : List Event) (b : Blk) (g : Obj) : Type 0 where
  pub position : ℕ
  pub is : awaited plan past (Block b) ≡ Some (Empty g position)
  pub waits : is_empty_above plan past g.0 position ≡ false
  pub unexpired : has_expired past position ≡ false

pub sleeper_parked : (plan : PlanView) (past : List Event) (b : Blk) (g : Obj) → IsLawful plan past → list_any (λ c. c.0 == b.0) (group_sleepers plan past g.0) ≡ true → Sleeps plan past b g
sleeper_parked plan past b g lawful any =
    let wait = wait_in past b (group_waits plan past g.0) any in
    let parked = waiter_parked plan past b g wait.position lawful wait.there wait.unexpired in
    record { position = wait.position; is = parked.is; waits = parked.waits; unexpired = wait.unexpired }

-- ## What an Expire takes away

turned : (n m : ℕ) → (n == m) ≡ (m == n)
turned n m =
    ⊎_elim
    (λ (same : n ≡ m). eq-eqb n m same ∙ sym (eq-eqb m n (sym same)))
    (λ (other : n ≡ m → ⊥). ne_eqb n m other ∙ sym (ne_eqb m n (λ e. other (sym e))))
    (cases_eq n m)

-- one wait more: it is taken away where it has not expired and is the block's
one_removed : (b : Blk) (now old : Bool) (w : ℕ × Blk) (after before : List (ℕ × Blk)) → (old ≡ false → now ≡ (w.1.0 == b.0)) → map (λ k. k.1) after ≡ filter (λ c. not (c.0 == b.0)) (map (λ k. k.1) before)
    → map (λ k. k.1) (cond (not (now || old)) (w ∷ after) after) ≡ filter (λ c. not (c.0 == b.0)) (map (λ k. k.1) (cond (not old) (w ∷ before) before))
one_removed b true true w after before here rest = rest
one_removed b false true w after before here rest = rest
one_removed b true false w after before here rest =
    rest ∙ ap (λ u. cond (not u) (w.1 ∷ filter (λ c. not (c.0 == b.0)) (map (λ k. k.1) before)) (filter (λ c. not (c.0 == b.0)) (map (λ k. k.1) before))) (here refl)
one_removed b false false w after before here rest =
    ap (λ l. w.1 ∷ l) rest
    ∙ ap (λ u. cond (not u) (w.1 ∷ filter (λ c. not (c.0 == b.0)) (map (λ k. k.1) before)) (filter (λ c. not (c.0 == b.0)) (map (λ k. k.1) before))) (here refl)

-- where each of these waits that has not expired is its block's last act, an Expire takes the block away
pub expiry_removes : (past : List Event) (b : Blk) (xs : List (ℕ × Blk)) → ((p : ℕ) (c : Blk) → list_any (is_wait p c) xs ≡ true → has_expired past p ≡ false → last_act past c.0 ≡ Some p)
    → unexpired_blocks (Expire b ∷ past) xs ≡ filter (λ c. not (c.0 == b.0)) (unexpired_blocks past xs)
expiry_removes past b [] last = refl
expiry_removes past b (w ∷ xs) last =
    one_removed b (expires past (Expire b) w.0) (has_expired past w.0) w (filter (λ k. not (has_expired (Expire b ∷ past) k.0)) xs) (filter (λ k. not (has_expired past k.0)) xs)
    (λ on.
    let itself = and_from (w.0 == w.0) (w.1.0 == w.1.0) (eq-eqb w.0 w.0 refl) (eq-eqb w.1.0 w.1.0 refl) in
    let at = last w.0 w.1 (or_left (is_wait w.0 w.1 w) (list_any (is_wait w.0 w.1) xs) itself) on in
    expires_own past b w.1.0 w.0 at ∙ turned b.0 w.1.0)
    (expiry_removes past b xs (λ p c there on. last p c (or_right (is_wait p c w) (list_any (is_wait p c) xs) there) on))

-- an Expire takes its block from those that sleep at a group
pub group_expiry : (plan : PlanView) (past : List Event) (b : Blk) (g : Obj) → IsLawful plan past
    → unexpired_blocks (Expire b ∷ past) (group_waits plan past g.0) ≡ filter (λ c. not (c.0 == b.0)) (group_sleepers plan past g.0)
group_expiry plan past b g lawful =
    expiry_removes past b (group_waits plan past g.0) (λ p c there on. parked_last plan past c (Empty g p) p (waiter_parked plan past c g p lawful there on).is refl)
