-- How counts over the open runs change with an event, and so how many runs are open on each object.
use Rattle.std.proofs.Common.{◌≡◌, ℕ, ◌+◌, ◌==◌, Bool, true, false, not, cond, List, [], ◌∷◌, ◌++◌, filter, refl, ap, sym, ◌∙◌, arith}
use Rattle.std.specs.List.{count_by, list_any}
use Rattle.std.specs.Option.{option_map_or}
use Rattle.std.proofs.lemmas.Bool.{or_left, or_right}
use Rattle.gcd_plan.specs.PlanView.{PlanView}
use Rattle.gcd_plan.specs.declared.numbers.Run.{Run}
use Rattle.gcd_event.specs.declared.event.Event.{Event}
use Rattle.gcd_history.specs.Runs.{same_run, open_runs, is_open, opens}
use Rattle.gcd_history.specs.Tree.{is_run_on, open_on}
use Rattle.gcd_history.specs.Permitted.{IsLawful}
use Rattle.gcd_plan.proofs.Sums.{count_by_push}
use Rattle.gcd_plan.proofs.Sums.{count_by-cons, count_by_some}
use Rattle.gcd_history.proofs.Runs.OpenNodes.{node_kept_open, node_kept_begun}
use Rattle.gcd_history.proofs.Runs.Open.{same_run-true, same_run-refl}
use Rattle.gcd_history.proofs.Runs.OpenOnce.{stands_once}

-- ## Counts over runs

-- tests that agree at each run of the list
pub alike_in : (p q : Run → Bool) (xs : List Run) → ((run : Run) → list_any (same_run run) xs ≡ true → p run ≡ q run) → count_by p xs ≡ count_by q xs
alike_in p q [] same = refl
alike_in p q (x ∷ xs) same =
    let here = ap (λ v. cond {A = ℕ} v 1 0) (same x (or_left (same_run x x) (list_any (same_run x) xs) (same_run-refl x))) in
    let rest = alike_in p q xs (λ run among. same run (or_right (same_run run x) (list_any (same_run run) xs) among)) in
    let a = count_by-cons p x xs in
    let b = count_by-cons q x xs in
    omega (arith, here, rest, a, b)

-- without a run, as often as it stands there
pub taken_out : (p : Run → Bool) (r : Run) (xs : List Run) → count_by p (filter (λ q. not (same_run r q)) xs) + cond {A = ℕ} (p r) (count_by (same_run r) xs) 0 ≡ count_by p xs
taken_out p r [] = elim (p r) as (λ v. 0 + cond {A = ℕ} v 0 0 ≡ 0) [ true ↦ refl | false ↦ refl ]
taken_out p r (x ∷ xs) =
    let rest = taken_out p r xs in
    let whole = count_by-cons p x xs in
    let own = count_by-cons (same_run r) x xs in
    elim (same_run r x) as (λ v. same_run r x ≡ v → count_by p (cond (not v) (x ∷ filter (λ q. not (same_run r q)) xs) (filter (λ q. not (same_run r q)) xs)) + cond {A = ℕ} (p r) (count_by (same_run r) (x ∷ xs)) 0 ≡ count_by p (x ∷ xs)) [
      | true ↦ λ e.
          let is : p r ≡ p x = ap p (same_run-true r x e) in
          let one = own ∙ ap (λ v. cond {A = ℕ} v 1 0 + count_by (same_run r) xs) e in
          elim (p r) as (λ u. u ≡ p x → count_by p (filter (λ q. not (same_run r q)) xs) + cond {A = ℕ} u (count_by (same_run r) xs) 0 ≡ count_by p xs
          → count_by p (filter (λ q. not (same_run r q)) xs) + cond {A = ℕ} u (count_by (same_run r) (x ∷ xs)) 0 ≡ count_by p (x ∷ xs)) [
            | true ↦ λ k h. let c = ap (λ v. cond {A = ℕ} v 1 0) k in omega (arith, one, whole, c, h)
            | false ↦ λ k h. let c = ap (λ v. cond {A = ℕ} v 1 0) k in omega (arith, whole, c, h)
          ] is rest
      | false ↦ λ e.
          let none = own ∙ ap (λ v. cond {A = ℕ} v 1 0 + count_by (same_run r) xs) e in
          let kept = count_by-cons p x (filter (λ q. not (same_run r q)) xs) in
          elim (p r) as (λ u. count_by p (filter (λ q. not (same_run r q)) xs) + cond {A = ℕ} u (count_by (same_run r) xs) 0 ≡ count_by p xs
          → count_by p (x ∷ filter (λ q. not (same_run r q)) xs) + cond {A = ℕ} u (count_by (same_run r) (x ∷ xs)) 0 ≡ count_by p (x ∷ xs)) [
            | true ↦ λ h. omega (arith, none, whole, kept, h)
            | false ↦ λ h. omega (arith, whole, kept, h)
          ] rest
    ] refl

-- one that is open is taken out once
pub one_taken : (plan : PlanView) (past : List Event) (p : Run → Bool) (r : Run) → IsLawful plan past → is_open past r ≡ true
    → count_by p (filter (λ q. not (same_run r q)) (open_runs past)) + cond {A = ℕ} (p r) 1 0 ≡ count_by p (open_runs past)
one_taken plan past p r lawful live =
    let t = taken_out p r (open_runs past) in
    let most = stands_once plan past r lawful in
    let some = count_by_some (same_run r) (open_runs past) live in
    let one : count_by (same_run r) (open_runs past) ≡ 1 = omega (arith, most, some) in
    ap (λ n. count_by p (filter (λ q. not (same_run r q)) (open_runs past)) + cond {A = ℕ} (p r) n 0) (sym one) ∙ t

-- ## What is open on an object

-- the runs that were open are where they were
pub kept_on : (plan : PlanView) (past : List Event) (e : Event) (o : ℕ) → IsLawful plan past → count_by (is_run_on plan (e ∷ past) o) (open_runs past) ≡ open_on plan past o
kept_on plan past e o lawful =
    alike_in (is_run_on plan (e ∷ past) o) (is_run_on plan past o) (open_runs past) (λ run live. ap (λ n. option_map_or (λ m. m == o) n false) (node_kept_open plan e past lawful run live))

pub on_begun : (plan : PlanView) (past : List Event) (e : Event) (new : Run) (o : ℕ) → IsLawful plan (e ∷ past) → opens e new ≡ true
    → count_by (is_run_on plan (e ∷ past) o) (open_runs past ++ new ∷ []) ≡ open_on plan past o + cond {A = ℕ} (is_run_on plan past o new) 1 0
on_begun plan past e new o lawful begins =
    let push = count_by_push (is_run_on plan (e ∷ past) o) (open_runs past) new in
    let kept = kept_on plan past e o lawful.0 in
    let here = ap (λ n. cond {A = ℕ} (option_map_or (λ m. m == o) n false) 1 0) (node_kept_begun plan e past lawful new begins) in
    omega (arith, push, kept, here)

pub on_ended : (plan : PlanView) (past : List Event) (e : Event) (r : Run) (o : ℕ) → IsLawful plan past → is_open past r ≡ true
    → count_by (is_run_on plan (e ∷ past) o) (filter (λ q. not (same_run r q)) (open_runs past)) + cond {A = ℕ} (is_run_on plan past o r) 1 0 ≡ open_on plan past o
on_ended plan past e r o lawful live =
    let t = one_taken plan past (is_run_on plan (e ∷ past) o) r lawful live in
    let kept = kept_on plan past e o lawful in
    let here = ap (λ n. cond {A = ℕ} (option_map_or (λ m. m == o) n false) 1 0) (node_kept_open plan e past lawful r live) in
    omega (arith, t, kept, here)
