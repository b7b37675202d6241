-- Who sleeps at a semaphore after an event.
use Rattle.std.proofs.Common.{◌≡◌, ⊎_elim, ℕ, zero, suc, ◌+◌, ◌<◌, ◌≤◌, ◌==◌, Bool, true, false, not, cond, List, [], ◌∷◌, ◌++◌, length, map, filter, drop, set, get_or, Option, Some, None, refl, ap, sym, ◌∙◌, subst, arith, eq-eqb, ne_eqb}
use Rattle.std.specs.List.{list_any}
use Rattle.std.proofs.Math.ListN.{drop_of_length-le, get_or-eq_default}
use Rattle.std.proofs.lemmas.Bool.{cases_eq, cases_lt, both_ways, lt-ltb, ltb-true, false_from_ne_true, and_parts, or_parts}
use Rattle.std.proofs.lemmas.List.{append-nil, length-append, length-set, map-append, drop-map, drop-append-le, get_or-set_same, get_or-set_other}
use Rattle.gcd_plan.specs.PlanView.{PlanView}
use Rattle.gcd_plan.specs.Kinds.{has_kind, is_group_kind, is_semaphore_kind}
use Rattle.gcd_plan.specs.Validity.{is_act}
use Rattle.gcd_plan.specs.declared.act.Act.{Act}
use Rattle.gcd_plan.specs.declared.act.Act.TheVariants.{GroupWait, GroupWaitFor, Signal, Wait, WaitFor}
use Rattle.gcd_plan.specs.declared.numbers.Blk.{Blk}
use Rattle.gcd_plan.specs.declared.numbers.Obj.{Obj}
use Rattle.gcd_history.specs.Semas.{signals, waits}
use Rattle.gcd_lists.specs.ListsView.{ListsView, list_at, without}
use Rattle.gcd_group.specs.GroupsView.{count_at}
use Rattle.gcd_sema.specs.SemasView.{left_at, passes_at, has_value_at}
use Rattle.gcd_refinement.specs.MachineView.{MachineView}
use Rattle.gcd_refinement.specs.AfterSleepers.{popped, pushed_on, removed, asleep, asleep_by_handler, all_woken}
use Rattle.gcd_refinement.proofs.Sleepers.Kinds.{semaphore_is_no_group}
use Rattle.gcd_refinement.proofs.Groups.Members.{is_group}

-- ## Lists

abbrev pub blocks_at : ListsView → ℕ → List Blk
blocks_at lists s = map (λ w. w.0) (list_at lists s)

pub pushed_here : (lists : ListsView) (n : Obj) (b : Blk) (s : ℕ) → n.0 ≡ s → s < length lists.lists → blocks_at (pushed_on lists n b false) s ≡ blocks_at lists s ++ b ∷ []
pushed_here lists n b s same low =
    subst (λ k. k < length lists.lists → blocks_at (pushed_on lists n b false) k ≡ blocks_at lists k ++ b ∷ []) same
    (λ l. ap (map (λ w. w.0)) (get_or-set_same lists.lists n.0 (list_at lists n.0 ++ (b, false) ∷ []) [] l) ∙ map-append (λ w. w.0) (list_at lists n.0) ((b, false) ∷ []))
    low

pub pushed_there : (lists : ListsView) (n : Obj) (b : Blk) (s : ℕ) → (n.0 ≡ s → ⊥) → blocks_at (pushed_on lists n b false) s ≡ blocks_at lists s
pushed_there lists n b s other = ap (map (λ w. w.0)) (get_or-set_other lists.lists n.0 s (list_at lists n.0 ++ (b, false) ∷ []) [] (λ e. other (sym e)))

pub popped_here : (lists : ListsView) (n : Obj) (s : ℕ) → n.0 ≡ s → s < length lists.lists → blocks_at (popped lists (Some n)) s ≡ drop 1 (blocks_at lists s)
popped_here lists n s same low =
    subst (λ k. k < length lists.lists → blocks_at (popped lists (Some n)) k ≡ drop 1 (blocks_at lists k)) same
    (λ l. ap (map (λ w. w.0)) (get_or-set_same lists.lists n.0 (drop 1 (list_at lists n.0)) [] l) ∙ sym (drop-map (λ w. w.0) 1 (list_at lists n.0)))
    low

pub popped_there : (lists : ListsView) (n : Obj) (s : ℕ) → (n.0 ≡ s → ⊥) → blocks_at (popped lists (Some n)) s ≡ blocks_at lists s
popped_there lists n s other = ap (map (λ w. w.0)) (get_or-set_other lists.lists n.0 s (drop 1 (list_at lists n.0)) [] (λ e. other (sym e)))

blocks_without : (b : ℕ) (xs : List (Blk × Bool)) → map (λ w. w.0) (without b xs) ≡ filter (λ c. not (c.0 == b)) (map (λ w. w.0) xs)
blocks_without b [] = refl
blocks_without b (x ∷ xs) =
    elim (x.0.0 == b) as (λ u. map (λ w. w.0) (cond u (without b xs) (x ∷ without b xs)) ≡ cond (not u) (x.0 ∷ filter (λ c. not (c.0 == b)) (map (λ w. w.0) xs)) (filter (λ c. not (c.0 == b)) (map (λ w. w.0) xs))) [
      | true ↦ blocks_without b xs
      | false ↦ ap (λ l. x.0 ∷ l) (blocks_without b xs)
    ]

pub removed_here : (lists : ListsView) (n : Obj) (b : Blk) (s : ℕ) → n.0 ≡ s → s < length lists.lists → blocks_at (removed lists (Some n) b) s ≡ filter (λ c. not (c.0 == b.0)) (blocks_at lists s)
removed_here lists n b s same low =
    subst (λ k. k < length lists.lists → blocks_at (removed lists (Some n) b) k ≡ filter (λ c. not (c.0 == b.0)) (blocks_at lists k)) same
    (λ l. ap (map (λ w. w.0)) (get_or-set_same lists.lists n.0 (without b.0 (list_at lists n.0)) [] l) ∙ blocks_without b.0 (list_at lists n.0))
    low

pub removed_there : (lists : ListsView) (n : Obj) (b : Blk) (s : ℕ) → (n.0 ≡ s → ⊥) → blocks_at (removed lists (Some n) b) s ≡ blocks_at lists s
removed_there lists n b s other = ap (map (λ w. w.0)) (get_or-set_other lists.lists n.0 s (without b.0 (list_at lists n.0)) [] (λ e. other (sym e)))

set_nil : (xs : List (List (Blk × Bool))) (n s : ℕ) → get_or (set xs n []) s [] ≡ cond (n == s) [] (get_or xs s [])
set_nil xs n s =
    ⊎_elim
    (λ (same : n ≡ s).
    subst (λ k. get_or (set xs n []) k [] ≡ cond (n == k) [] (get_or xs k [])) same
    (nil_here ∙ ap (λ v. cond v [] (get_or xs n [])) (sym (eq-eqb n n refl))))
    (λ (other : n ≡ s → ⊥). get_or-set_other xs n s [] [] (λ e. other (sym e)) ∙ ap (λ v. cond v [] (get_or xs s [])) (sym (ne_eqb n s other)))
    (cases_eq n s)
  where
    nil_here : get_or (set xs n []) n [] ≡ []
    nil_here =
        ⊎_elim
        (λ (low : n < length xs). get_or-set_same xs n [] [] low)
        (λ (high : length xs ≤ n). let long = length-set xs n [] in get_or-eq_default (set xs n []) [] (omega (arith, high, long)))
        (cases_lt n (length xs))

pub woken_at : (lists : ListsView) (o : Option Obj) (s : ℕ) → blocks_at (all_woken lists o) s ≡ cond (is_group s o) [] (blocks_at lists s)
woken_at lists None s = refl
woken_at lists (Some g) s = ap (map (λ w. w.0)) (set_nil lists.lists g.0 s) ∙ through (g.0 == s)
  where
    through : (v : Bool) → map (λ w. w.0) (cond v [] (list_at lists s)) ≡ cond v [] (blocks_at lists s)
    through true = refl
    through false = refl

drop_one : (n : ℕ) (xs : List Blk) → drop 1 (drop n xs) ≡ drop (suc n) xs
drop_one zero xs = refl
drop_one (suc n) [] = refl
drop_one (suc n) (x ∷ xs) = drop_one n xs

-- ## An Expire

not_among : (b : Blk) (xs : List Blk) → list_any (λ c. c.0 == b.0) xs ≡ false → filter (λ c. not (c.0 == b.0)) xs ≡ xs
not_among b [] h = refl
not_among b (x ∷ xs) h =
    let parts = or_parts (x.0 == b.0) (list_any (λ c. c.0 == b.0) xs) h in
    ap (λ u. cond (not u) (x ∷ filter (λ c. not (c.0 == b.0)) xs) (filter (λ c. not (c.0 == b.0)) xs)) parts.0 ∙ ap (λ l. x ∷ l) (not_among b xs parts.1)

-- a block that sleeps in its bed alone is taken away, wherever that is
pub removed_at : (lists : ListsView) (bed : Option Obj) (b : Blk) (s : ℕ) (sleeping : List Blk) → (list_any (λ c. c.0 == b.0) sleeping ≡ true → bed ≡ Some (record { 0 = s })) → blocks_at lists s ≡ sleeping
    → blocks_at (removed lists bed b) s ≡ filter (λ c. not (c.0 == b.0)) sleeping
removed_at lists bed b s sleeping own tie = by_bed bed refl
  where
    elsewhere : (bed ≡ Some (record { 0 = s }) → ⊥) → sleeping ≡ filter (λ c. not (c.0 == b.0)) sleeping
    elsewhere other = sym (not_among b sleeping (false_from_ne_true (list_any (λ c. c.0 == b.0) sleeping) (λ h. other (own h))))

    past_end : (n : Obj) → length lists.lists ≤ s → blocks_at (removed lists (Some n) b) s ≡ filter (λ c. not (c.0 == b.0)) sleeping
    past_end n high =
        let long = length-set lists.lists n.0 (without b.0 (list_at lists n.0)) in
        ap (map (λ w. w.0)) (get_or-eq_default (removed lists (Some n) b).lists [] (omega (arith, high, long)))
        ∙ ap (filter (λ c. not (c.0 == b.0))) (ap (map (λ w. w.0)) (sym (get_or-eq_default lists.lists [] high)) ∙ tie)

    by_bed : (o : Option Obj) → bed ≡ o → blocks_at (removed lists o b) s ≡ filter (λ c. not (c.0 == b.0)) sleeping
    by_bed None at = tie ∙ elsewhere (λ here. let never : None ≡ Some (record { 0 = s }) = sym at ∙ here in cc)
    by_bed (Some n) at =
        ⊎_elim
        (λ (same : n.0 ≡ s).
        ⊎_elim
        (λ (low : s < length lists.lists). removed_here lists n b s same low ∙ ap (filter (λ c. not (c.0 == b.0))) tie)
        (λ (high : length lists.lists ≤ s). past_end n high)
        (cases_lt s (length lists.lists)))
        (λ (other : n.0 ≡ s → ⊥).
        removed_there lists n b s other ∙ (tie ∙ elsewhere (λ here. let is : Some n ≡ Some (record { 0 = s }) = sym at ∙ here in other (cc))))
        (cases_eq n.0 s)

-- ## An act

-- what is known of a semaphore: n have passed or may pass, m after the event, and of these the wait has not expired
pub record AtSemaphore (plan : PlanView) (v : MachineView) (act : Option Act) (s n m : ℕ) (waiting : List Blk) : Type 0 where
  pub fits : (a : Act) → act ≡ Some a → is_act plan a ≡ true
  pub kind : has_kind is_semaphore_kind plan s ≡ true
  pub low : s < length v.sleepers.lists
  pub tie : blocks_at v.sleepers s ≡ drop n waiting
  pub value : passes_at v.semas s ≡ n
  pub waited : left_at v.semas s ≡ length waiting
  pub next : m ≡ n + cond {A = ℕ} (signals s act) 1 0

pub kept : (xs : List Blk) (n m : ℕ) (waiting : List Blk) → xs ≡ drop n waiting → m ≡ n + 0 → xs ≡ drop m waiting
kept xs n m waiting tie next =
    let same : n ≡ m = omega (arith, next) in
    tie ∙ ap (λ k. drop k waiting) same

-- with nobody more
nobody : (m : ℕ) (waiting : List Blk) → drop m waiting ≡ drop m (waiting ++ [])
nobody m waiting = ap (drop m) (sym (append-nil waiting))

pub either_same : (u : Bool) (a c : ListsView) (s : ℕ) (xs : List Blk) → blocks_at a s ≡ xs → blocks_at c s ≡ xs → blocks_at (cond u a c) s ≡ xs
either_same true a c s xs h k = h
either_same false a c s xs h k = k

-- a wait begins here
wait_here : (plan : PlanView) (v : MachineView) (b : Blk) (t : Obj) (act : Option Act) (s n m : ℕ) (waiting : List Blk) → t.0 ≡ s → signals s act ≡ false → AtSemaphore plan v act s n m waiting
    → blocks_at (cond (has_value_at v.semas t.0) v.sleepers (pushed_on v.sleepers t b false)) s ≡ drop m (waiting ++ b ∷ [])
wait_here plan v b t act s n m waiting same other at =
    let value : passes_at v.semas t.0 ≡ n = ap (passes_at v.semas) same ∙ at.value in
    let waited : left_at v.semas t.0 ≡ length waiting = ap (left_at v.semas) same ∙ at.waited in
    let next = at.next in
    let none = ap (λ u. cond {A = ℕ} u 1 0) other in
    let still : n ≡ m = omega (arith, next, none) in
    let to = ap (λ k. drop k (waiting ++ b ∷ [])) still in
    ⊎_elim
    (λ (behind : n < length waiting + 1).
    let passed : has_value_at v.semas t.0 ≡ false =
    false_from_ne_true (has_value_at v.semas t.0) (λ h. let l = ltb-true (left_at v.semas t.0) (passes_at v.semas t.0) h in absurd (omega (arith, l, behind, value, waited))) in
    ap (λ u. blocks_at (cond u v.sleepers (pushed_on v.sleepers t b false)) s) passed
    ∙ (pushed_here v.sleepers t b s same at.low
    ∙ (ap (λ l. l ++ b ∷ []) at.tie
    ∙ (sym (drop-append-le n waiting (b ∷ []) (omega (arith, behind))) ∙ to))))
    (λ (ahead : length waiting + 1 ≤ n).
    let passed : has_value_at v.semas t.0 ≡ true = lt-ltb (left_at v.semas t.0) (passes_at v.semas t.0) (omega (arith, ahead, value, waited)) in
    let long = length-append waiting (b ∷ []) in
    ap (λ u. blocks_at (cond u v.sleepers (pushed_on v.sleepers t b false)) s) passed
    ∙ (at.tie
    ∙ (drop_of_length-le waiting (omega (arith, ahead))
    ∙ (sym (drop_of_length-le (waiting ++ b ∷ []) (omega (arith, ahead, long))) ∙ to))))
    (cases_lt n (length waiting + 1))

-- or at some semaphore
wait_at : (plan : PlanView) (v : MachineView) (b : Blk) (t : Obj) (act : Option Act) (s n m : ℕ) (waiting : List Blk) → signals s act ≡ false → AtSemaphore plan v act s n m waiting
    → blocks_at (cond (has_value_at v.semas t.0) v.sleepers (pushed_on v.sleepers t b false)) s ≡ drop m (waiting ++ cond (t.0 == s) (b ∷ []) [])
wait_at plan v b t act s n m waiting none at =
    ⊎_elim
    (λ (same : t.0 ≡ s). wait_here plan v b t act s n m waiting same none at ∙ ap (λ u. drop m (waiting ++ cond u (b ∷ []) [])) (sym (eq-eqb t.0 s same)))
    (λ (other : t.0 ≡ s → ⊥).
    let next = at.next in
    let zero_more = ap (λ u. cond {A = ℕ} u 1 0) none in
    kept (blocks_at (cond (has_value_at v.semas t.0) v.sleepers (pushed_on v.sleepers t b false)) s) n m waiting
    (either_same (has_value_at v.semas t.0) v.sleepers (pushed_on v.sleepers t b false) s (drop n waiting) at.tie (pushed_there v.sleepers t b s other ∙ at.tie)) (omega (arith, next, zero_more))
    ∙ (nobody m waiting ∙ ap (λ u. drop m (waiting ++ cond u (b ∷ []) [])) (sym (ne_eqb t.0 s other))))
    (cases_eq t.0 s)

-- a wait begins at a group, which is another object
group_wait_at : (plan : PlanView) (v : MachineView) (b : Blk) (g : Obj) (s n m : ℕ) (waiting : List Blk) → has_kind is_semaphore_kind plan s ≡ true → has_kind is_group_kind plan g.0 ≡ true → blocks_at v.sleepers s ≡ drop n waiting → m ≡ n + 0
    → blocks_at (cond (count_at v.groups g.0 == 0) v.sleepers (pushed_on v.sleepers g b false)) s ≡ drop m (waiting ++ [])
group_wait_at plan v b g s n m waiting kind group tie next =
    let other : g.0 ≡ s → ⊥ = λ same. both_ways (has_kind is_group_kind plan s) (semaphore_is_no_group plan s kind) (subst (λ k. has_kind is_group_kind plan k ≡ true) same group) in
    kept (blocks_at (cond (count_at v.groups g.0 == 0) v.sleepers (pushed_on v.sleepers g b false)) s) n m waiting
    (either_same (count_at v.groups g.0 == 0) v.sleepers (pushed_on v.sleepers g b false) s (drop n waiting) tie (pushed_there v.sleepers g b s other ∙ tie)) next
    ∙ nobody m waiting

signal_at : (plan : PlanView) (v : MachineView) (t : Obj) (s n m : ℕ) (waiting : List Blk) → AtSemaphore plan v (Some (Signal t)) s n m waiting → blocks_at (popped v.sleepers (Some t)) s ≡ drop m waiting
signal_at plan v t s n m waiting at =
    let next = at.next in
    ⊎_elim
    (λ (same : t.0 ≡ s).
    let one = ap (λ u. cond {A = ℕ} u 1 0) (eq-eqb t.0 s same) in
    let more : suc n ≡ m = omega (arith, next, one) in
    popped_here v.sleepers t s same at.low
    ∙ (ap (drop 1) at.tie ∙ (drop_one n waiting ∙ ap (λ k. drop k waiting) more)))
    (λ (other : t.0 ≡ s → ⊥).
    let none = ap (λ u. cond {A = ℕ} u 1 0) (ne_eqb t.0 s other) in
    kept (blocks_at (popped v.sleepers (Some t)) s) n m waiting (popped_there v.sleepers t s other ∙ at.tie) (omega (arith, next, none)))
    (cases_eq t.0 s)

-- an act of a block
pub sema_asleep : (plan : PlanView) (v : MachineView) (b : Blk) (act : Option Act) (s n m : ℕ) (waiting : List Blk) → AtSemaphore plan v act s n m waiting
    → blocks_at (asleep v b act) s ≡ drop m (waiting ++ cond (waits s act) (b ∷ []) [])
sema_asleep plan v b (Some (Wait t)) s n m waiting at = wait_at plan v b t (Some (Wait t)) s n m waiting refl at
sema_asleep plan v b (Some (WaitFor t ms)) s n m waiting at = wait_at plan v b t (Some (WaitFor t ms)) s n m waiting refl at
sema_asleep plan v b (Some (GroupWait g)) s n m waiting at = group_wait_at plan v b g s n m waiting at.kind (at.fits (GroupWait g) refl) at.tie at.next
sema_asleep plan v b (Some (GroupWaitFor g ms)) s n m waiting at =
    group_wait_at plan v b g s n m waiting at.kind (and_parts (has_kind is_group_kind plan g.0) _ (at.fits (GroupWaitFor g ms) refl)).0 at.tie at.next
sema_asleep plan v b (Some (Signal t)) s n m waiting at = signal_at plan v t s n m waiting at ∙ nobody m waiting
sema_asleep plan v b _ s n m waiting at = kept (blocks_at v.sleepers s) n m waiting at.tie at.next ∙ nobody m waiting

-- an act of a handler
pub sema_asleep_by_handler : (plan : PlanView) (v : MachineView) (act : Option Act) (s n m : ℕ) (waiting : List Blk) → AtSemaphore plan v act s n m waiting
    → blocks_at (asleep_by_handler v act) s ≡ drop m waiting
sema_asleep_by_handler plan v (Some (Signal t)) s n m waiting at = signal_at plan v t s n m waiting at
sema_asleep_by_handler plan v _ s n m waiting at = kept (blocks_at v.sleepers s) n m waiting at.tie at.next
