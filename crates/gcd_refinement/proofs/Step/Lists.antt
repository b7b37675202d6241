-- What waits on each node after an event.
use Rattle.std.proofs.Common.{◌≡◌, ℕ, ◌<◌, ◌≤◌, ◌==◌, Bool, true, false, not, ◌&&◌, ◌||◌, cond, List, [], ◌∷◌, ◌++◌, length, map, drop, filter, set, Some, None, find, refl, ap, sym, ◌∙◌, subst, arith, ⊎_elim, eq-eqb, ne_eqb}
use Rattle.std.specs.List.{count_by, fold, list_any, list_all}
use Rattle.std.specs.Option.{option_map_or, option_and_then}
use Rattle.std.proofs.lemmas.Bool.{cases_eq, and_parts, and_from, both_ways, eqb-true, or_left, or_right, false_from_ne_true}
use Rattle.std.proofs.lemmas.List.{append-nil, append_assoc, length-set, map-append}
use Rattle.std.proofs.lemmas.List.Elements.{filter-append}
use Rattle.std.proofs.lemmas.List.Folds.{list_all-append}
use Rattle.std.proofs.lemmas.Option.{same_Some}
use Rattle.gcd_plan.specs.PlanView.{PlanView}
use Rattle.gcd_plan.specs.Kinds.{is_node, is_node_kind}
use Rattle.gcd_plan.specs.Validity.{IsPlan}
use Rattle.gcd_plan.specs.StartRule.{first_of}
use Rattle.gcd_plan.specs.declared.numbers.Blk.{Blk}
use Rattle.gcd_plan.specs.declared.numbers.Obj.{Obj}
use Rattle.gcd_plan.proofs.Within.{has_object}
use Rattle.gcd_event.specs.declared.event.Event.{Event}
use Rattle.gcd_event.specs.declared.event.Event.TheVariants.{Start}
use Rattle.gcd_history.specs.declared.submission.Submission.{Submission}
use Rattle.gcd_history.specs.Runs.{is_started}
use Rattle.gcd_history.specs.Submitted.{submitted, submission_of, new_submissions}
use Rattle.gcd_history.specs.Permitted.{IsLawful, is_on, before, waits_on, is_behind, waiting_reasons, node_reasons}
use Rattle.gcd_history.proofs.Counts.{found_alone}
use Rattle.gcd_history.proofs.Lists.{any_from_find, find_from_any, found_is, found_any}
use Rattle.gcd_plan.proofs.Sums.{count_by-cons, count_by-append, count_by_some}
use Rattle.gcd_plan.proofs.Options.{some_from_is_some}
use Rattle.gcd_history.proofs.Permitted.Reasons.{at_start, waiting_facts}
use Rattle.gcd_history.proofs.Blocks.StartedOnce.{submitted_from_started}
use Rattle.gcd_history.proofs.Blocks.SubmittedOnce.{submitted_once}
use Rattle.gcd_history.proofs.Blocks.SubmittedOnNodes.{on_a_node, submitted_fit}
use Rattle.gcd_lists.specs.ListsView.{ListsView, list_at}
use Rattle.gcd_refinement.specs.MachineView.{MachineView, block_at}
use Rattle.gcd_refinement.specs.Shape.{PartsFit, OwnFit}
use Rattle.gcd_refinement.specs.Ties.{ListsAre, GroupsAre, BlocksAre, SourcesAre, BlockMarksAre, waiter}
use Rattle.gcd_refinement.specs.Submits.{submits}
use Rattle.gcd_refinement.specs.After.{pushed, lists_after, after}
use Rattle.gcd_refinement.specs.AfterSleepers.{popped}
use Rattle.gcd_refinement.proofs.Lists.Writes.{entry_set}
use Rattle.gcd_refinement.proofs.Step.Submits.{submits_are}

-- ## Pushes

-- each submission is on an object below the bound, or on none
abbrev pub is_within : ℕ → Submission → Type 0
is_within size s = (q : Obj) → s.node ≡ Some q → q.0 < size

pushed_one : (lists : ListsView) (s : Submission) (n : ℕ) → is_within (length lists.lists) s → list_at (pushed lists s) n ≡ list_at lists n ++ map waiter (filter (is_on n) (s ∷ []))
pushed_one lists s n low =
    elim s.node as (λ o. ((q : Obj) → o ≡ Some q → q.0 < length lists.lists)
    → list_at (option_map_or (λ q. record lists { lists = set lists.lists q.0 (list_at lists q.0 ++ waiter s ∷ []) }) o lists) n
    ≡ list_at lists n ++ map waiter (cond (option_map_or (λ q. q.0 == n) o false) (s ∷ []) [])) [
      | None ↦ λ h. sym (append-nil (list_at lists n))
      | Some q ↦ λ h.
          entry_set lists.lists q.0 n (list_at lists q.0 ++ waiter s ∷ []) [] (h q refl)
          ∙ ⊎_elim
          (λ (same : q.0 ≡ n). let t = eq-eqb q.0 n same in rw t (ap (λ k. list_at lists k ++ waiter s ∷ []) same))
          (λ (other : q.0 ≡ n → ⊥). let t = ne_eqb q.0 n other in rw t (sym (append-nil (list_at lists n))))
          (cases_eq q.0 n)
    ] low

pub pushed_long : (lists : ListsView) (s : Submission) → length (pushed lists s).lists ≡ length lists.lists
pushed_long lists s =
    elim s.node as (λ o. length (option_map_or (λ q. record lists { lists = set lists.lists q.0 (list_at lists q.0 ++ waiter s ∷ []) }) o lists).lists ≡ length lists.lists) [
      | None ↦ refl
      | Some q ↦ length-set lists.lists q.0 (list_at lists q.0 ++ waiter s ∷ [])
    ]

-- the node of a submission that fits is an object
pub node_within : (plan : PlanView) (s : Submission) → on_a_node plan s ≡ true → is_within (length plan.objects) s
node_within plan s fits q at = has_object is_node_kind plan q.0 (ap (λ o. option_map_or (λ p. is_node plan p.0) o (s.blk.0 == 0)) (sym at) ∙ fits)

pub pushed_all : (plan : PlanView) (lists : ListsView) (subs : List Submission) (n : ℕ) → length lists.lists ≡ length plan.objects → list_all (on_a_node plan) subs ≡ true
    → list_at (fold pushed lists subs) n ≡ list_at lists n ++ map waiter (filter (is_on n) subs)
pushed_all plan lists [] n long fit = sym (append-nil (list_at lists n))
pushed_all plan lists (s ∷ subs) n long fit =
    let parts = and_parts (on_a_node plan s) (list_all (on_a_node plan) subs) fit in
    let one = pushed_one lists s n (λ q at. let low = node_within plan s parts.0 q at in omega (arith, low, long)) in
    pushed_all plan (pushed lists s) subs n (pushed_long lists s ∙ long) parts.1
    ∙ (ap (λ l. l ++ map waiter (filter (is_on n) subs)) one
    ∙ (append_assoc (list_at lists n) (map waiter (filter (is_on n) (s ∷ []))) (map waiter (filter (is_on n) subs))
    ∙ ap (λ l. list_at lists n ++ l) (sym (map-append waiter (filter (is_on n) (s ∷ [])) (filter (is_on n) subs)) ∙ ap (map waiter) (sym (filter-append (is_on n) (s ∷ []) subs)))))

-- ## What is new waits

and_yes : (b : Bool) → (b && true) ≡ b
and_yes true = refl
and_yes false = refl

fresh_wait : (past : List Event) (n : ℕ) (xs : List Submission) → ((s : Submission) → list_any (λ t. t.blk.0 == s.blk.0) xs ≡ true → is_started past s.blk.0 ≡ false)
    → filter (waits_on past n) xs ≡ filter (is_on n) xs
fresh_wait past n [] fresh = refl
fresh_wait past n (x ∷ xs) fresh =
    let here = fresh x (or_left (x.blk.0 == x.blk.0) (list_any (λ t. t.blk.0 == x.blk.0) xs) (eq-eqb x.blk.0 x.blk.0 refl)) in
    let same : waits_on past n x ≡ is_on n x = ap (λ v. is_on n x && not v) here ∙ and_yes (is_on n x) in
    let rest = fresh_wait past n xs (λ s among. fresh s (or_right (x.blk.0 == s.blk.0) (list_any (λ t. t.blk.0 == s.blk.0) xs) among)) in
    ap (λ v. cond v (x ∷ filter (waits_on past n) xs) (filter (waits_on past n) xs)) same ∙ ap (λ l. cond (is_on n x) (x ∷ l) l) rest

pub new_unstarted : (plan : PlanView) (past : List Event) (e : Event) (s : Submission) → IsPlan plan → IsLawful plan (e ∷ past) → list_any (λ t. t.blk.0 == s.blk.0) (new_submissions plan past e) ≡ true
    → is_started past s.blk.0 ≡ false
new_unstarted plan past e s valid lawful among =
    false_from_ne_true (is_started past s.blk.0) (λ started.
    let was = count_by_some (λ t. t.blk.0 == s.blk.0) (submitted plan past) (any_from_find (λ t. t.blk.0 == s.blk.0) (submitted plan past) (submitted_from_started plan past lawful.0 s.blk.0 started)) in
    let new = count_by_some (λ t. t.blk.0 == s.blk.0) (new_submissions plan past e) among in
    let all = count_by-append (λ t. t.blk.0 == s.blk.0) (submitted plan past) (new_submissions plan past e) in
    let once = submitted_once plan (e ∷ past) valid lawful s.blk.0 in
    absurd (omega (arith, was, new, all, once)))

-- ## A Start

-- what a Start of another block leaves
others_wait : (past : List Event) (w n : ℕ) (b : Blk) (xs : List Submission) → list_any (λ t. t.blk.0 == b.0 && is_on n t) xs ≡ false
    → filter (waits_on (Start w b ∷ past) n) xs ≡ filter (waits_on past n) xs
others_wait past w n b [] none = refl
others_wait past w n b (x ∷ xs) none =
    let this : (x.blk.0 == b.0 && is_on n x) ≡ false = false_from_ne_true (x.blk.0 == b.0 && is_on n x) (λ h. both_ways _ none (or_left (x.blk.0 == b.0 && is_on n x) (list_any (λ t. t.blk.0 == b.0 && is_on n t) xs) h)) in
    let more : list_any (λ t. t.blk.0 == b.0 && is_on n t) xs ≡ false = false_from_ne_true (list_any (λ t. t.blk.0 == b.0 && is_on n t) xs) (λ h. both_ways _ none (or_right (x.blk.0 == b.0 && is_on n x) _ h)) in
    let rest = others_wait past w n b xs more in
    let same : waits_on (Start w b ∷ past) n x ≡ waits_on past n x =
    ⊎_elim
    (λ (it : x.blk.0 ≡ b.0).
    let off : is_on n x ≡ false = ap (λ v. v && is_on n x) (sym (eq-eqb x.blk.0 b.0 it)) ∙ this in
    ap (λ v. v && not (is_started (Start w b ∷ past) x.blk.0)) off ∙ ap (λ v. v && not (is_started past x.blk.0)) (sym off))
    (λ (other : x.blk.0 ≡ b.0 → ⊥). ap (λ v. is_on n x && not (v || is_started past x.blk.0)) (ne_eqb b.0 x.blk.0 (λ i. other (sym i))))
    (cases_eq x.blk.0 b.0) in
    ap (λ v. cond v (x ∷ filter (waits_on (Start w b ∷ past) n) xs) (filter (waits_on (Start w b ∷ past) n) xs)) same ∙ ap (λ l. cond (waits_on past n x) (x ∷ l) l) rest

-- no other submission is of the block
no_other : (n b : ℕ) (s : Submission) (xs : List Submission) → find (λ t. t.blk.0 == b) xs ≡ Some s → count_by (λ t. t.blk.0 == b) xs ≤ 1 → is_on n s ≡ false → list_any (λ t. t.blk.0 == b && is_on n t) xs ≡ false
no_other n b s xs found once off =
    false_from_ne_true (list_any (λ t. t.blk.0 == b && is_on n t) xs) (λ h.
    let t = some_from_is_some (find (λ t. t.blk.0 == b && is_on n t) xs) (find_from_any (λ t. t.blk.0 == b && is_on n t) xs h) in
    let parts = and_parts (t.0.blk.0 == b) (is_on n t.0) (found_is (λ t. t.blk.0 == b && is_on n t) xs t.0 t.1) in
    let it = found_alone (λ t. t.blk.0 == b && is_on n t) (λ t. t.blk.0 == b) xs t.0 once t.1 parts.0 in
    both_ways (is_on n s) off (subst (λ k. is_on n k ≡ true) (same_Some t.0 s (sym it ∙ found)) parts.1))

none_of : (n b : ℕ) (xs : List Submission) → count_by (λ t. t.blk.0 == b) xs ≡ 0 → list_any (λ t. t.blk.0 == b && is_on n t) xs ≡ false
none_of n b xs zero =
    false_from_ne_true (list_any (λ t. t.blk.0 == b && is_on n t) xs) (λ h.
    let t = some_from_is_some (find (λ t. t.blk.0 == b && is_on n t) xs) (find_from_any (λ t. t.blk.0 == b && is_on n t) xs h) in
    let parts = and_parts (t.0.blk.0 == b) (is_on n t.0) (found_is (λ t. t.blk.0 == b && is_on n t) xs t.0 t.1) in
    let some = count_by_some (λ t. t.blk.0 == b) xs (found_any (λ t. t.blk.0 == b && is_on n t) (λ t. t.blk.0 == b) xs t.0 t.1 parts.0) in
    absurd (omega (arith, some, zero)))

-- the first that waits on the node is taken off
first_starts : (past : List Event) (w n : ℕ) (b : Blk) (s : Submission) (xs : List Submission) → list_any (waits_on past n) (before b.0 xs) ≡ false → find (λ t. t.blk.0 == b.0) xs ≡ Some s → waits_on past n s ≡ true
    → count_by (λ t. t.blk.0 == b.0) xs ≤ 1 → filter (waits_on (Start w b ∷ past) n) xs ≡ drop 1 (filter (waits_on past n) xs)
first_starts past w n b s [] free found waits once = cc
first_starts past w n b s (x ∷ xs) free found waits once =
    let c = count_by-cons (λ t. t.blk.0 == b.0) x xs in
    ⊎_elim
    (λ (it : x.blk.0 ≡ b.0).
    let here : (x.blk.0 == b.0) ≡ true = eq-eqb x.blk.0 b.0 it in
    let one = ap (λ v. cond {A = ℕ} v 1 0) here in
    let is : x ≡ s = same_Some x s (ap (λ v. cond v (Some x) (find (λ t. t.blk.0 == b.0) xs)) (sym here) ∙ found) in
    let was : waits_on past n x ≡ true = subst (λ t. waits_on past n t ≡ true) (sym is) waits in
    let now : waits_on (Start w b ∷ past) n x ≡ false = ap (λ v. is_on n x && not (v || is_started past x.blk.0)) (eq-eqb b.0 x.blk.0 (sym it)) ∙ off (is_on n x) in
    ap (λ v. cond v (x ∷ filter (waits_on (Start w b ∷ past) n) xs) (filter (waits_on (Start w b ∷ past) n) xs)) now
    ∙ (others_wait past w n b xs (none_of n b.0 xs (omega (arith, c, one, once)))
    ∙ ap (λ v. drop 1 (cond v (x ∷ filter (waits_on past n) xs) (filter (waits_on past n) xs))) (sym was)))
    (λ (other : x.blk.0 ≡ b.0 → ⊥).
    let here : (x.blk.0 == b.0) ≡ false = ne_eqb x.blk.0 b.0 other in
    let one = ap (λ v. cond {A = ℕ} v 1 0) here in
    let free2 : list_any (waits_on past n) (x ∷ before b.0 xs) ≡ false = ap (λ v. list_any (waits_on past n) (cond v [] (x ∷ before b.0 xs))) (sym here) ∙ free in
    let was : waits_on past n x ≡ false = false_from_ne_true (waits_on past n x) (λ h. both_ways _ free2 (or_left (waits_on past n x) _ h)) in
    let rest : list_any (waits_on past n) (before b.0 xs) ≡ false = false_from_ne_true (list_any (waits_on past n) (before b.0 xs)) (λ h. both_ways _ free2 (or_right (waits_on past n x) _ h)) in
    let found2 : find (λ t. t.blk.0 == b.0) xs ≡ Some s = ap (λ v. cond v (Some x) (find (λ t. t.blk.0 == b.0) xs)) (sym here) ∙ found in
    let now : waits_on (Start w b ∷ past) n x ≡ false = ap (λ v. is_on n x && not (v || is_started past x.blk.0)) (ne_eqb b.0 x.blk.0 (λ i. other (sym i))) ∙ was in
    ap (λ v. cond v (x ∷ filter (waits_on (Start w b ∷ past) n) xs) (filter (waits_on (Start w b ∷ past) n) xs)) now
    ∙ (first_starts past w n b s xs rest found2 waits (omega (arith, c, one, once))
    ∙ ap (λ v. drop 1 (cond v (x ∷ filter (waits_on past n) xs) (filter (waits_on past n) xs))) (sym was)))
    (cases_eq x.blk.0 b.0)
  where
    off : (v : Bool) → (v && false) ≡ false
    off true = refl
    off false = refl

map_drop : (xs : List Submission) → drop 1 (map waiter xs) ≡ map waiter (drop 1 xs)
map_drop [] = refl
map_drop (x ∷ xs) = refl

start_lists : (plan : PlanView) (past : List Event) (w : ℕ) (b : Blk) (v : MachineView) (n : ℕ) → IsPlan plan → IsLawful plan (Start w b ∷ past) → PartsFit plan v → OwnFit plan v → BlocksAre plan past v → ListsAre plan past v
    → list_at (popped v.lists (block_at v b.0).node) n ≡ map waiter (filter (waits_on (Start w b ∷ past) n) (submitted plan past))
unfolding is_behind
start_lists plan past w b v n valid lawful fit own blocks ties =
    let facts = at_start plan past w b lawful.1 in
    let s = some_from_is_some (submission_of plan past b.0) facts.submitted_one in
    let once = submitted_once plan past valid lawful.0 b.0 in
    let is : s.0.blk.0 ≡ b.0 = eqb-true s.0.blk.0 b.0 (found_is (λ t. t.blk.0 == b.0) (submitted plan past) s.0 s.1) in
    let node : (block_at v b.0).node ≡ s.0.node = blocks.node b.0 ∙ ap (option_and_then (λ t. t.node)) s.1 in
    let reasons : first_of (node_reasons plan past (Some s.0)) ≡ None = ap (λ o. first_of (node_reasons plan past o)) (sym s.1) ∙ facts.waits in
    let kept : is_on n s.0 ≡ false → list_at v.lists n ≡ map waiter (filter (waits_on (Start w b ∷ past) n) (submitted plan past)) = λ off.
    ties.waiting n ∙ ap (map waiter) (sym (others_wait past w n b (submitted plan past) (no_other n b.0 s.0 (submitted plan past) s.1 once off))) in
    ap (λ o. list_at (popped v.lists o) n) node
    ∙ elim s.0.node as (λ o. s.0.node ≡ o → list_at (popped v.lists o) n ≡ map waiter (filter (waits_on (Start w b ∷ past) n) (submitted plan past))) [
      | None ↦ λ at. kept (ap (λ o. option_map_or (λ q. q.0 == n) o false) at)
      | Some q ↦ λ at.
          let low : q.0 < length plan.objects = own.nodes b.0 q (node ∙ at) in
          let long = fit.lists in
          let write = entry_set v.lists.lists q.0 n (drop 1 (list_at v.lists q.0)) [] (omega (arith, low, long)) in
          ⊎_elim
          (λ (same : q.0 ≡ n).
          let on : is_on n s.0 ≡ true = ap (λ o. option_map_or (λ p. p.0 == n) o false) at ∙ eq-eqb q.0 n same in
          let waits : waits_on past n s.0 ≡ true = and_from (is_on n s.0) (not (is_started past s.0.blk.0)) on (ap (λ k. not (is_started past k)) is ∙ ap not facts.fresh) in
          let nodefacts = waiting_facts plan past s.0.blk.0 s.0.barrier q.0 (subst (λ o. first_of (option_map_or (λ p. waiting_reasons plan past s.0.blk.0 s.0.barrier p.0) o []) ≡ None) at reasons) in
          let free : list_any (waits_on past n) (before b.0 (submitted plan past)) ≡ false = ap (λ k. list_any (waits_on past n) (before k (submitted plan past))) (sym is) ∙ subst (λ k. list_any (waits_on past k) (before s.0.blk.0 (submitted plan past)) ≡ false) same nodefacts.behind in
          write
          ∙ (ap (λ t. cond t (drop 1 (list_at v.lists q.0)) (list_at v.lists n)) (eq-eqb q.0 n same)
          ∙ (ap (λ k. drop 1 (list_at v.lists k)) same
          ∙ (ap (drop 1) (ties.waiting n)
          ∙ (map_drop (filter (waits_on past n) (submitted plan past))
          ∙ ap (map waiter) (sym (first_starts past w n b s.0 (submitted plan past) free s.1 waits once)))))))
          (λ (other : q.0 ≡ n → ⊥).
          write ∙ (ap (λ t. cond t (drop 1 (list_at v.lists q.0)) (list_at v.lists n)) (ne_eqb q.0 n other)
          ∙ kept (ap (λ o. option_map_or (λ p. p.0 == n) o false) at ∙ ne_eqb q.0 n other)))
          (cases_eq q.0 n)
    ] refl

-- ## The step

pub new_fit : (plan : PlanView) (past : List Event) (e : Event) → IsPlan plan → list_all (on_a_node plan) (new_submissions plan past e) ≡ true
new_fit plan past e valid =
    (and_parts (list_all (on_a_node plan) (submitted plan past)) (list_all (on_a_node plan) (new_submissions plan past e))
    (sym (list_all-append (on_a_node plan) (submitted plan past) (new_submissions plan past e)) ∙ submitted_fit plan (e ∷ past) valid)).1

-- any event but a Start
more_lists : (plan : PlanView) (past : List Event) (e : Event) (v : MachineView) (n : ℕ) → IsPlan plan → IsLawful plan (e ∷ past) → PartsFit plan v → submits plan v e ≡ new_submissions plan past e → ListsAre plan past v
    → list_at (fold pushed v.lists (submits plan v e)) n ≡ map waiter (filter (waits_on past n) (submitted plan past ++ new_submissions plan past e))
more_lists plan past e v n valid lawful fit same ties =
    ap (λ l. list_at (fold pushed v.lists l) n) same
    ∙ (pushed_all plan v.lists (new_submissions plan past e) n fit.lists (new_fit plan past e valid)
    ∙ (ap (λ l. l ++ map waiter (filter (is_on n) (new_submissions plan past e))) (ties.waiting n)
    ∙ (ap (λ l. map waiter (filter (waits_on past n) (submitted plan past)) ++ map waiter l) (sym (fresh_wait past n (new_submissions plan past e) (λ s among. new_unstarted plan past e s valid lawful among)))
    ∙ (sym (map-append waiter (filter (waits_on past n) (submitted plan past)) (filter (waits_on past n) (new_submissions plan past e)))
    ∙ ap (map waiter) (sym (filter-append (waits_on past n) (submitted plan past) (new_submissions plan past e)))))))

lists_by : (plan : PlanView) (past : List Event) (e : Event) (v : MachineView) (n : ℕ) → IsPlan plan → IsLawful plan (e ∷ past) → PartsFit plan v → OwnFit plan v → BlocksAre plan past v → submits plan v e ≡ new_submissions plan past e
    → ListsAre plan past v → list_at (lists_after plan v e) n ≡ map waiter (filter (waits_on (e ∷ past) n) (submitted plan (e ∷ past)))
lists_by plan past (Start w b) v n valid lawful fit own blocks same ties =
    start_lists plan past w b v n valid lawful fit own blocks ties
    ∙ (ap (λ l. map waiter (filter (waits_on (Start w b ∷ past) n) l)) (sym (append-nil (submitted plan past)))
    ∙ ap (λ l. map waiter (filter (waits_on (Start w b ∷ past) n) (submitted plan past ++ l))) same)
lists_by plan past e v n valid lawful fit own blocks same ties = more_lists plan past e v n valid lawful fit same ties

pub lists_step : (plan : PlanView) (past : List Event) (e : Event) (v : MachineView) → IsPlan plan → IsLawful plan (e ∷ past) → PartsFit plan v → OwnFit plan v → GroupsAre plan past v → BlocksAre plan past v → SourcesAre plan past v → BlockMarksAre plan past v
    → ListsAre plan past v → ListsAre plan (e ∷ past) (after plan v e)
lists_step plan past e v valid lawful fit own groups blocks sources block_marks ties =
    let same = submits_are plan past e v valid lawful fit own groups blocks sources block_marks in
    record { waiting = λ n. lists_by plan past e v n valid lawful fit own blocks same ties }
