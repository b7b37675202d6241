-- Blocks start in the order of their submission on a node.
use Rattle.std.proofs.Common.{◌≡◌, ◌≢◌, ⊎_elim, ℕ, zero, suc, ◌+◌, ◌<◌, ◌≤◌, Bool, true, false, not, ◌&&◌, cond, ◌==◌, List, [], ◌∷◌, length, get_or, Some, None, is_some, find, count_by, refl, ap, sym, subst, arith}
use Rattle.std.specs.List.{list_any, AllPairs}
use Rattle.std.specs.Option.{option_map_or}
use Rattle.std.proofs.lemmas.Bool.{eqb-true, eq-eqb, ne_eqb, or_cases, or_parts, or_right}
use Rattle.std.proofs.lemmas.List.Folds.{list_any_at}
use Rattle.gcd_plan.specs.PlanView.{PlanView}
use Rattle.gcd_plan.specs.StartRule.{first_of}
use Rattle.gcd_plan.specs.Validity.{IsPlan}
use Rattle.gcd_event.specs.declared.event.Event.{Event}
use Rattle.gcd_event.specs.declared.event.Event.TheVariants.{Start}
use Rattle.gcd_history.specs.declared.submission.Submission.{Submission}
use Rattle.gcd_history.specs.Runs.{starts, is_started}
use Rattle.gcd_history.specs.Submitted.{submitted, new_submissions, submission_of}
use Rattle.gcd_history.specs.Permitted.{why, IsLawful, is_on, is_behind, before, waits_on, node_reasons, waiting_reasons}
use Rattle.gcd_history.proofs.Lists.{any_from_find, all_pairs_append}
use Rattle.gcd_plan.proofs.Sums.{count_by-cons, count_by-append, count_by_some}
use Rattle.gcd_history.proofs.Permitted.Reasons.{at_start, NodeFacts, waiting_facts}
use Rattle.gcd_history.proofs.Blocks.StartedOnce.{submitted_from_started, at_its_start}
use Rattle.gcd_history.proofs.Blocks.SubmittedOnce.{submitted_once}

-- no two are of one block
abbrev pub AreApart : Submission → Submission → Type 0
AreApart s t = s.blk.0 ≢ t.blk.0

abbrev of : ℕ → Submission → Bool
of b s = s.blk.0 == b

-- one element that passes is counted
counted_at : (p : Submission → Bool) (xs : List Submission) (k : ℕ) (d : Submission) → k < length xs → p (get_or xs k d) ≡ true → 1 ≤ count_by p xs
counted_at p xs k d l h = count_by_some p xs (list_any_at p xs k d l h)

pub apart_from_counts : (xs : List Submission) → ((b : ℕ) → count_by (of b) xs ≤ 1) → AllPairs AreApart xs
apart_from_counts [] few i j d l m = absurd (omega arith)
apart_from_counts (x ∷ xs) few zero zero d l m = absurd (omega arith)
apart_from_counts (x ∷ xs) few zero (suc j) d l m = λ same.
    let step = count_by-cons (of x.blk.0) x xs in
    let here : cond {A = ℕ} (x.blk.0 == x.blk.0) 1 0 ≡ 1 = ap (λ v. cond v 1 0) (eq-eqb x.blk.0 x.blk.0 refl) in
    let there : 1 ≤ count_by (of x.blk.0) xs = counted_at (of x.blk.0) xs j d (omega arith) (eq-eqb (get_or xs j d).blk.0 x.blk.0 (sym same)) in
    let one = few x.blk.0 in
    omega arith
apart_from_counts (x ∷ xs) few (suc i) zero d l m = absurd (omega arith)
apart_from_counts (x ∷ xs) few (suc i) (suc j) d l m =
    apart_from_counts xs (λ b. let step = count_by-cons (of b) x xs in let one = few b in omega arith) i j d (omega arith) (omega arith)

pub all_apart : (plan : PlanView) (past : List Event) → IsPlan plan → IsLawful plan past → AllPairs AreApart (submitted plan past)
all_apart plan past valid h = apart_from_counts (submitted plan past) (submitted_once plan past valid h)

AllPairs-tail : {X : Type 0} → (R : X → X → Type 0) (x : X) (xs : List X) → AllPairs R (x ∷ xs) → AllPairs R xs
AllPairs-tail R x xs h = λ i j d l m. h (suc i) (suc j) d (omega arith) (omega arith)

-- each block has one submission
pub find_apart : (xs : List Submission) (j : ℕ) (d : Submission) → AllPairs AreApart xs → j < length xs → find (of (get_or xs j d).blk.0) xs ≡ Some (get_or xs j d)
find_apart [] j d apart l = absurd (omega arith)
find_apart (x ∷ xs) zero d apart l = simp (eq-eqb x.blk.0 x.blk.0 refl)
find_apart (x ∷ xs) (suc j) d apart l =
    let other : (x.blk.0 == (get_or xs j d).blk.0) ≡ false = ne_eqb x.blk.0 (get_or xs j d).blk.0 (apart 0 (suc j) d (omega arith) (omega arith)) in
    let k : j < length xs = omega arith in
    simp other (find_apart xs j d (AllPairs-tail AreApart x xs apart) k)

-- what stands earlier in the list stands before the block
pub fails_before : (p : Submission → Bool) (xs : List Submission) (i j : ℕ) (d : Submission) → AllPairs AreApart xs → i < j → j < length xs → list_any p (before (get_or xs j d).blk.0 xs) ≡ false → p (get_or xs i d) ≡ false
fails_before p [] i j d apart l m none = absurd (omega arith)
fails_before p (x ∷ xs) i zero d apart l m none = absurd (omega arith)
fails_before p (x ∷ xs) zero (suc j) d apart l m none =
    let other : (x.blk.0 == (get_or xs j d).blk.0) ≡ false = ne_eqb x.blk.0 (get_or xs j d).blk.0 (apart 0 (suc j) d (omega arith) (omega arith)) in
    (or_parts (p x) (list_any p (before (get_or xs j d).blk.0 xs)) (simp other at none)).0
fails_before p (x ∷ xs) (suc i) (suc j) d apart l m none =
    let other : (x.blk.0 == (get_or xs j d).blk.0) ≡ false = ne_eqb x.blk.0 (get_or xs j d).blk.0 (apart 0 (suc j) d (omega arith) (omega arith)) in
    let rest = or_parts (p x) (list_any p (before (get_or xs j d).blk.0 xs)) (simp other at none) in
    let a : i < j = omega arith in
    let b : j < length xs = omega arith in
    fails_before p xs i j d (AllPairs-tail AreApart x xs apart) a b rest.1

-- what is known of a block that may start at its node
pub at_node : (plan : PlanView) (past : List Event) (t : Submission) (n : ℕ) → is_on n t ≡ true → first_of (node_reasons plan past (Some t)) ≡ None → NodeFacts plan past t.blk.0 t.barrier n
at_node plan past t n on h =
    elim t.node as (λ o. option_map_or (λ q. q.0 == n) o false ≡ true → first_of (option_map_or (λ q. waiting_reasons plan past t.blk.0 t.barrier q.0) o []) ≡ None → NodeFacts plan past t.blk.0 t.barrier n) [
      | None ↦ λ a b. cc
      | Some q ↦ λ a b. subst (NodeFacts plan past t.blk.0 t.barrier) (eqb-true q.0 n a) (waiting_facts plan past t.blk.0 t.barrier q.0 b)
    ] on h

pub waits_at_start : (plan : PlanView) (past : List Event) (b : ℕ) (e : Event) → why plan past e ≡ None → starts b e ≡ true → first_of (node_reasons plan past (submission_of plan past b)) ≡ None
waits_at_start plan past b (Start w c) h now = subst (λ n. first_of (node_reasons plan past (submission_of plan past n)) ≡ None) (eqb-true c.0 b now) (at_start plan past w c h).waits
waits_at_start plan past b _ h now = cc

started_unless_waits : (on started : Bool) → (on && not started) ≡ false → on ≡ true → started ≡ true
started_unless_waits true true h k = refl
started_unless_waits true false h k = cc
started_unless_waits false started h k = cc

-- of two submissions on one node the later has started only if the earlier has
abbrev pub IsBehindAfter : List Event → Submission → Submission → Type 0
IsBehindAfter past s t = (n : ℕ) → is_on n s ≡ true → is_on n t ≡ true → is_started past t.blk.0 ≡ true → is_started past s.blk.0 ≡ true

old_in_order : (plan : PlanView) (e : Event) (past : List Event) → IsPlan plan → IsLawful plan (e ∷ past) → AllPairs (IsBehindAfter past) (submitted plan past) → AllPairs (IsBehindAfter (e ∷ past)) (submitted plan past)
unfolding is_behind
old_in_order plan e past valid h before_it i j d l m n s_on t_on started =
    let xs = submitted plan past in
    let s = get_or xs i d in
    let t = get_or xs j d in
    or_right (starts s.blk.0 e) (is_started past s.blk.0) (⊎_elim
    (λ now.
    let apart = all_apart plan past valid h.0 in
    let found = find_apart xs j d apart m in
    let facts = at_node plan past t n t_on (subst (λ o. first_of (node_reasons plan past o) ≡ None) found (waits_at_start plan past t.blk.0 e h.1 now)) in
    started_unless_waits (is_on n s) (is_started past s.blk.0) (fails_before (waits_on past n) xs i j d apart l m facts.behind) s_on)
    (before_it i j d l m n s_on t_on)
    (or_cases (starts t.blk.0 e) (is_started past t.blk.0) started))

-- what is known of a block that was submitted before is known of one that has started
found_before : (plan : PlanView) (e : Event) (past : List Event) → IsLawful plan (e ∷ past) → (b : ℕ) → is_started (e ∷ past) b ≡ true → is_some (submission_of plan past b) ≡ true
found_before plan e past h b started =
    ⊎_elim (λ now. (at_its_start plan past b e h.1 now).0) (submitted_from_started plan past h.0 b) (or_cases (starts b e) (is_started past b) started)

-- a new submission has not started
new_not_started : (plan : PlanView) (e : Event) (past : List Event) → IsPlan plan → IsLawful plan (e ∷ past) → (k : ℕ) (d : Submission) → k < length (new_submissions plan past e) → is_started (e ∷ past) (get_or (new_submissions plan past e) k d).blk.0 ≡ true → ⊥
new_not_started plan e past valid h k d l started =
    let b = (get_or (new_submissions plan past e) k d).blk.0 in
    let old : 1 ≤ count_by (of b) (submitted plan past) = count_by_some (of b) (submitted plan past) (any_from_find (of b) (submitted plan past) (found_before plan e past h b started)) in
    let new : 1 ≤ count_by (of b) (new_submissions plan past e) = counted_at (of b) (new_submissions plan past e) k d l (eq-eqb b b refl) in
    let split : count_by (of b) (submitted plan (e ∷ past)) ≡ count_by (of b) (submitted plan past) + count_by (of b) (new_submissions plan past e) = count_by-append (of b) (submitted plan past) (new_submissions plan past e) in
    let once : count_by (of b) (submitted plan (e ∷ past)) ≤ 1 = submitted_once plan (e ∷ past) valid h b in
    omega arith

pub starts_in_order : (plan : PlanView) (past : List Event) → IsPlan plan → IsLawful plan past → AllPairs (IsBehindAfter past) (submitted plan past)
starts_in_order plan [] valid h = λ i j d l m. absurd (omega arith)
starts_in_order plan (e ∷ past) valid h =
    all_pairs_append (IsBehindAfter (e ∷ past)) (submitted plan past) (new_submissions plan past e)
    (old_in_order plan e past valid h (starts_in_order plan past valid h.0))
    (λ k d s l n s_on t_on started. absurd (new_not_started plan e past valid h k d l started))
