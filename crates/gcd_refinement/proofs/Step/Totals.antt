-- The numbers and flags of the whole after an event.
use Rattle.std.proofs.Common.{◌≡◌, ℕ, ◌+◌, ◌-◌, ◌==◌, Bool, true, false, not, ◌||◌, cond, List, [], ◌∷◌, ◌++◌, length, filter, None, is_none, refl, ap, sym, ◌∙◌, subst, arith, ⊎_elim, eq-eqb, ne_eqb}
use Rattle.std.specs.List.{count_by, list_any}
use Rattle.std.proofs.lemmas.Bool.{cases_eq, both_ways, false_from_ne_true, or_left, or_right, or_from}
use Rattle.gcd_plan.specs.PlanView.{PlanView}
use Rattle.gcd_plan.specs.Validity.{IsPlan}
use Rattle.gcd_plan.specs.declared.numbers.Blk.{Blk}
use Rattle.gcd_plan.specs.declared.numbers.Run.{Run}
use Rattle.gcd_plan.specs.declared.numbers.Run.TheVariants.{Block, Source}
use Rattle.gcd_event.specs.declared.event.Event.{Event}
use Rattle.gcd_event.specs.declared.event.Event.TheVariants.{Start, Act as Acted, Wake, End, Deliver, DeliverEnd, Misuse, Halt}
use Rattle.gcd_history.specs.declared.submission.Submission.{Submission}
use Rattle.gcd_history.specs.Runs.{same_run, open_runs, is_open, act_at, is_started, ends, is_ended}
use Rattle.gcd_history.specs.Submitted.{submitted, new_submissions}
use Rattle.gcd_history.specs.Parked.{is_parking, awaited_by, parked_by, running, has_run}
use Rattle.gcd_history.specs.Permitted.{IsLawful, is_halted, ends_in_misuse, ends_in_halt}
use Rattle.gcd_plan.proofs.Sums.{count_by_push}
use Rattle.gcd_history.proofs.Lists.{any_from_find}
use Rattle.gcd_plan.proofs.Sums.{count_by-cons, count_by-append, count_by_some}
use Rattle.gcd_history.proofs.Permitted.Reasons.{at_act, at_wake, at_end, at_deliver_end}
use Rattle.gcd_history.proofs.Runs.Open.{same_run-true}
use Rattle.gcd_history.proofs.Blocks.StartedOnce.{open_from_has_run, started_from_open, submitted_from_started, unended_from_unstarted, open_not_ended, at_its_end}
use Rattle.gcd_history.proofs.Blocks.SubmittedOnce.{submitted_once}
use Rattle.gcd_history.proofs.HeldRuns.Taking.{awaits_where_parks}
use Rattle.gcd_refinement.specs.MachineView.{MachineView}
use Rattle.gcd_refinement.specs.Submits.{submits}
use Rattle.gcd_refinement.specs.AfterTotals.{running_after, left_after, is_end, is_misuse, is_halt}
use Rattle.gcd_history.proofs.Runs.OpenOnce.{stands_once, shut_at_deliver}
use Rattle.gcd_refinement.proofs.Step.Runs.{alike_in, one_taken}
use Rattle.gcd_refinement.proofs.Step.Lists.{new_unstarted}
use Rattle.gcd_refinement.proofs.Step.Waits.{unopened, unparked}
use Rattle.gcd_refinement.proofs.Step.Workers.{parked_facts}

-- ## Counts

-- each element that f counts is one that g or h counts
pub summed : {X : Type 0} (f g h : X → Bool) (xs : List X) → ((x : X) → cond {A = ℕ} (f x) 1 0 ≡ cond {A = ℕ} (g x) 1 0 + cond {A = ℕ} (h x) 1 0) → count_by f xs ≡ count_by g xs + count_by h xs
summed f g h [] same = refl
summed f g h (x ∷ xs) same =
    let here = same x in
    let rest = summed f g h xs same in
    let a = count_by-cons f x xs in
    let b = count_by-cons g x xs in
    let c = count_by-cons h x xs in
    omega (arith, here, rest, a, b, c)

-- ## Flags

-- what goes on has not ended
pub no_misuse_yet : (past : List Event) → is_halted past ≡ false → ends_in_misuse past ≡ false
no_misuse_yet [] h = refl
no_misuse_yet (Misuse w c r i ∷ past) h = cc
no_misuse_yet (e ∷ past) h = refl

pub no_halt_yet : (past : List Event) → is_halted past ≡ false → ends_in_halt past ≡ false
no_halt_yet [] h = refl
no_halt_yet (Halt ∷ past) h = cc
no_halt_yet (e ∷ past) h = refl

pub is_misuse_last : (e : Event) (past : List Event) → is_misuse e ≡ ends_in_misuse (e ∷ past)
is_misuse_last (Misuse w c r i) past = refl
is_misuse_last e past = refl

pub is_halt_last : (e : Event) (past : List Event) → is_halt e ≡ ends_in_halt (e ∷ past)
is_halt_last Halt past = refl
is_halt_last e past = refl

-- ## How many runs are open and not parked

abbrev awake : PlanView → List Event → Run → Bool
awake plan past run = is_none (parked_by plan past run)

one_open : (plan : PlanView) (past : List Event) (r : Run) → IsLawful plan past → is_open past r ≡ true → count_by (same_run r) (open_runs past) ≡ 1
one_open plan past r lawful live =
    let most = stands_once plan past r lawful in
    let some = count_by_some (same_run r) (open_runs past) live in
    omega (arith, most, some)

-- a run begins
begins : (plan : PlanView) (past : List Event) (r : Run) → is_open past r ≡ false
    → count_by (λ run. is_none (cond (same_run r run) None (parked_by plan past run))) (open_runs past ++ r ∷ []) ≡ running plan past + cond {A = ℕ} (is_none (cond (same_run r r) None (parked_by plan past r))) 1 0
begins plan past r shut =
    let p = λ (run : Run). is_none (cond (same_run r run) None (parked_by plan past run)) in
    let push = count_by_push p (open_runs past) r in
    let kept = alike_in p (awake plan past) (open_runs past) (λ run among.
    let other : same_run r run ≡ false = false_from_ne_true (same_run r run) (λ same. both_ways (is_open past r) shut (subst (λ q. is_open past q ≡ true) (sym (same_run-true r run same)) among)) in
    ap (λ t. is_none (cond t None (parked_by plan past run))) other) in
    omega (arith, push, kept)

-- a run that is parked wakes
wakes : (plan : PlanView) (past : List Event) (r : Run) → IsLawful plan past → is_open past r ≡ true → is_none (parked_by plan past r) ≡ false
    → count_by (λ run. is_none (cond (same_run r run) None (parked_by plan past run))) (open_runs past) ≡ running plan past + 1
wakes plan past r lawful live parked =
    let one = one_open plan past r lawful live in
    let sum = summed (λ run. is_none (cond (same_run r run) None (parked_by plan past run))) (awake plan past) (same_run r) (open_runs past) (λ run.
    elim (same_run r run) as (λ t. same_run r run ≡ t → cond {A = ℕ} (is_none (cond t None (parked_by plan past run))) 1 0 ≡ cond {A = ℕ} (awake plan past run) 1 0 + cond {A = ℕ} t 1 0) [
      | true ↦ λ same. let z = ap (λ t. cond {A = ℕ} t 1 0) (subst (λ q. awake plan past q ≡ false) (same_run-true r run same) parked) in omega (arith, z)
      | false ↦ λ other. omega arith
    ] refl) in
    omega (arith, one, sum)

-- a run that goes on parks
parks_one : (plan : PlanView) (past : List Event) (r : Run) (why : Bool) (p : Run → Bool) → IsLawful plan past → is_open past r ≡ true → is_none (parked_by plan past r) ≡ true
    → ((run : Run) → same_run r run ≡ true → p run ≡ false) → ((run : Run) → same_run r run ≡ false → p run ≡ awake plan past run) → count_by p (open_runs past) + 1 ≡ running plan past
parks_one plan past r why p lawful live goes here there =
    let one = one_open plan past r lawful live in
    let sum = summed (awake plan past) p (same_run r) (open_runs past) (λ run.
    elim (same_run r run) as (λ t. same_run r run ≡ t → cond {A = ℕ} (awake plan past run) 1 0 ≡ cond {A = ℕ} (p run) 1 0 + cond {A = ℕ} t 1 0) [
      | true ↦ λ same.
          let z = ap (λ t. cond {A = ℕ} t 1 0) (subst (λ q. awake plan past q ≡ true) (same_run-true r run same) goes) in
          let y = ap (λ t. cond {A = ℕ} t 1 0) (here run same) in
          omega (arith, z, y)
      | false ↦ λ other. let y = ap (λ t. cond {A = ℕ} t 1 0) (there run other) in omega (arith, y)
    ] refl) in
    omega (arith, one, sum)

-- a run ends that was not parked
ends_one : (plan : PlanView) (past : List Event) (w : ℕ) (r : Run) → IsLawful plan past → has_run plan past w r ≡ true → count_by (awake plan past) (filter (λ q. not (same_run r q)) (open_runs past)) + 1 ≡ running plan past
ends_one plan past w r lawful own =
    let t = one_taken plan past (awake plan past) r lawful (open_from_has_run plan past w r own) in
    let z = ap (λ o. cond {A = ℕ} (is_none o) 1 0) (unparked plan past w r own) in
    omega (arith, t, z)

pub running_step : (plan : PlanView) (past : List Event) (e : Event) (v : MachineView) → IsLawful plan (e ∷ past) → v.running ≡ running plan past → running_after plan v e ≡ running plan (e ∷ past)
running_step plan past (Start w b) v lawful tie =
    let c = begins plan past (Block b) (unopened plan past w b lawful) in
    let own = ap (λ t. cond {A = ℕ} (is_none (cond t None (parked_by plan past (Block b)))) 1 0) (eq-eqb b.0 b.0 refl) in
    omega (arith, c, own, tie)
running_step plan past (Deliver w s) v lawful tie =
    let c = begins plan past (Source s) (shut_at_deliver plan past w s lawful) in
    let own = ap (λ t. cond {A = ℕ} (is_none (cond t None (parked_by plan past (Source s)))) 1 0) (eq-eqb s.0 s.0 refl) in
    omega (arith, c, own, tie)
running_step plan past (Wake w b) v lawful tie =
    let parked = parked_facts plan past b.0 (at_wake plan past w b lawful.1).parked in
    let c = wakes plan past (Block b) lawful.0 parked.0 parked.1 in
    omega (arith, c, tie)
running_step plan past (End w b) v lawful tie = let c = ends_one plan past w (Block b) lawful.0 (at_end plan past w b lawful.1).own in omega (arith, c, tie)
running_step plan past (DeliverEnd w s) v lawful tie = let c = ends_one plan past w (Source s) lawful.0 (at_deliver_end plan past w s lawful.1).own in omega (arith, c, tie)
running_step plan past (Acted w r i) v lawful tie =
    let own = (at_act plan past w r i lawful.1).own in
    let live = open_from_has_run plan past w r own in
    let goes = ap is_none (unparked plan past w r own) in
    let why = awaited_by plan past (act_at plan r i) in
    let p = λ (run : Run). is_none (cond (same_run r run) why (parked_by plan past run)) in
    elim (is_parking (act_at plan r i)) as (λ t. is_parking (act_at plan r i) ≡ t → cond t (v.running - 1) v.running ≡ count_by p (open_runs past)) [
      | true ↦ λ parking.
          let none : is_none why ≡ false = awaits_where_parks plan past (act_at plan r i) ∙ ap not parking in
          let c = parks_one plan past r true p lawful.0 live goes (λ run same. ap (λ t. is_none (cond t why (parked_by plan past run))) same ∙ none) (λ run other. ap (λ t. is_none (cond t why (parked_by plan past run))) other) in
          omega (arith, c, tie)
      | false ↦ λ on.
          let none : is_none why ≡ true = awaits_where_parks plan past (act_at plan r i) ∙ ap not on in
          let c = alike_in p (awake plan past) (open_runs past) (λ run among.
          elim (same_run r run) as (λ t. same_run r run ≡ t → is_none (cond t why (parked_by plan past run)) ≡ awake plan past run) [
            | true ↦ λ same. none ∙ sym (subst (λ q. awake plan past q ≡ true) (same_run-true r run same) goes)
            | false ↦ λ other. refl
          ] refl) in
          tie ∙ sym c
    ] refl
running_step plan past e v lawful tie = tie

-- ## How many blocks are submitted and have not ended

-- what the event submits has not ended
new_unended : (plan : PlanView) (past : List Event) (e : Event) (s : Submission) → IsPlan plan → IsLawful plan (e ∷ past) → list_any (λ t. t.blk.0 == s.blk.0) (new_submissions plan past e) ≡ true → is_ended (e ∷ past) s.blk.0 ≡ false
new_unended plan past e s valid lawful among =
    let fresh = new_unstarted plan past e s valid lawful among in
    or_from (ends s.blk.0 e) (is_ended past s.blk.0)
    (false_from_ne_true (ends s.blk.0 e) (λ now. both_ways (is_started past s.blk.0) fresh (started_from_open past (record { 0 = s.blk.0 }) (at_its_end plan past s.blk.0 e lawful.1 now))))
    (unended_from_unstarted plan past lawful.0 s.blk.0 fresh)

all_counted : (ended : ℕ → Bool) (xs : List Submission) → ((s : Submission) → list_any (λ t. t.blk.0 == s.blk.0) xs ≡ true → ended s.blk.0 ≡ false) → count_by (λ s. not (ended s.blk.0)) xs ≡ length xs
all_counted ended [] fresh = refl
all_counted ended (x ∷ xs) fresh =
    let here = ap (λ t. cond {A = ℕ} (not t) 1 0) (fresh x (or_left (x.blk.0 == x.blk.0) (list_any (λ t. t.blk.0 == x.blk.0) xs) (eq-eqb x.blk.0 x.blk.0 refl))) in
    let rest = all_counted ended xs (λ s among. fresh s (or_right (x.blk.0 == s.blk.0) (list_any (λ t. t.blk.0 == s.blk.0) xs) among)) in
    let c = count_by-cons (λ s. not (ended s.blk.0)) x xs in
    omega (arith, here, rest, c)

abbrev going_on : List Event → List Submission → ℕ
going_on past xs = count_by (λ s. not (is_ended past s.blk.0)) xs

-- an End takes its block off
end_going : (plan : PlanView) (past : List Event) (w : ℕ) (b : Blk) → IsPlan plan → IsLawful plan (End w b ∷ past) → going_on (End w b ∷ past) (submitted plan past) + 1 ≡ going_on past (submitted plan past)
end_going plan past w b valid lawful =
    let live = at_its_end plan past b.0 (End w b) lawful.1 (eq-eqb b.0 b.0 refl) in
    let goes = open_not_ended plan past lawful.0 b live in
    let once = submitted_once plan past valid lawful.0 b.0 in
    let some = count_by_some (λ s. s.blk.0 == b.0) (submitted plan past) (any_from_find (λ s. s.blk.0 == b.0) (submitted plan past) (submitted_from_started plan past lawful.0 b.0 (started_from_open past b live))) in
    let sum = summed (λ s. not (is_ended past s.blk.0)) (λ s. not (b.0 == s.blk.0 || is_ended past s.blk.0)) (λ s. s.blk.0 == b.0) (submitted plan past) (λ s.
    ⊎_elim
    (λ (same : b.0 ≡ s.blk.0).
    let k = ap (λ t. cond {A = ℕ} (not (t || is_ended past s.blk.0)) 1 0) (eq-eqb b.0 s.blk.0 same) in
    let l = ap (λ t. cond {A = ℕ} t 1 0) (eq-eqb s.blk.0 b.0 (sym same)) in
    let m = ap (λ t. cond {A = ℕ} (not t) 1 0) (subst (λ n. is_ended past n ≡ false) same goes) in
    omega (arith, k, l, m))
    (λ (other : b.0 ≡ s.blk.0 → ⊥).
    let k = ap (λ t. cond {A = ℕ} (not (t || is_ended past s.blk.0)) 1 0) (ne_eqb b.0 s.blk.0 other) in
    let l = ap (λ t. cond {A = ℕ} t 1 0) (ne_eqb s.blk.0 b.0 (λ i. other (sym i))) in
    omega (arith, k, l))
    (cases_eq b.0 s.blk.0)) in
    omega (arith, once, some, sum)

old_going : (plan : PlanView) (past : List Event) (e : Event) → IsPlan plan → IsLawful plan (e ∷ past) → going_on (e ∷ past) (submitted plan past) + cond {A = ℕ} (is_end e) 1 0 ≡ going_on past (submitted plan past)
old_going plan past (End w b) valid lawful = end_going plan past w b valid lawful
old_going plan past e valid lawful = omega arith

pub left_step : (plan : PlanView) (past : List Event) (e : Event) (v : MachineView) → IsPlan plan → IsLawful plan (e ∷ past) → submits plan v e ≡ new_submissions plan past e → v.left ≡ going_on past (submitted plan past) → left_after plan v e ≡ going_on (e ∷ past) (submitted plan (e ∷ past))
left_step plan past e v valid lawful same tie =
    let new = new_submissions plan past e in
    let split : going_on (e ∷ past) (submitted plan (e ∷ past)) ≡ going_on (e ∷ past) (submitted plan past) + going_on (e ∷ past) new = count_by-append (λ s. not (is_ended (e ∷ past) s.blk.0)) (submitted plan past) new in
    let old = old_going plan past e valid lawful in
    let fresh = all_counted (is_ended (e ∷ past)) new (λ s among. new_unended plan past e s valid lawful among) in
    let long = ap length same in
    omega (arith, split, old, fresh, long, tie)
