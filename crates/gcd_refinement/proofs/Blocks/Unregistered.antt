-- What an act registers waits at no group and no block yet; so those that wait there go where they went before.
use Rattle.std.proofs.Common.{◌≡◌, ℕ, ◌+◌, ◌<◌, ◌≤◌, Bool, false, ◌&&◌, cond, List, [], ◌∷◌, length, map, Option, Some, refl, ap, sym, ◌∙◌, arith, eq-eqb, ne_eqb}
use Rattle.std.specs.List.{count_by, range_with_len, sum_by}
use Rattle.std.proofs.lemmas.Bool.{and_parts}
use Rattle.gcd_plan.specs.PlanView.{PlanView}
use Rattle.gcd_plan.specs.Kinds.{has_kind, is_group_kind, is_queue}
use Rattle.gcd_plan.specs.Validity.{IsPlan, is_declared}
use Rattle.gcd_plan.specs.declared.act.Act.{Act}
use Rattle.gcd_plan.specs.declared.act.Act.TheVariants.{Notify, NotifyBlock}
use Rattle.gcd_plan.specs.declared.numbers.Blk.{Blk}
use Rattle.gcd_plan.specs.declared.numbers.Obj.{Obj}
use Rattle.gcd_plan.proofs.Sums.{count_by-cons, count_by-append}
use Rattle.gcd_plan.proofs.Within.{declared_within, has_object}
use Rattle.gcd_event.specs.declared.event.Event.{Event}
use Rattle.gcd_history.specs.declared.submission.Submission.{Submission}
use Rattle.gcd_history.specs.Runs.{act_of}
use Rattle.gcd_history.specs.Submitted.{on_node, registered, notify_blocks, registered_at_end, end_notify_blocks, new_submissions, submitted}
use Rattle.gcd_history.specs.Permitted.{IsLawful}
use Rattle.gcd_history.proofs.Blocks.SubmittedOnNodes.{recorded_fits}
use Rattle.gcd_history.proofs.Blocks.SubmittedOnce.{is_of, waiting, end_waiting, new_parts, at_groups, at_blocks, kept_once}
use Rattle.gcd_history.proofs.Sums.{term_within}
use Rattle.gcd_refinement.specs.MachineView.{MachineView}
use Rattle.gcd_refinement.specs.Ties.{notify_submission}
use Rattle.gcd_refinement.specs.After.{after}
use Rattle.gcd_refinement.proofs.Groups.NotifyQueues.{home_of, homed}

-- ## Waiting nowhere

-- how often the act registers block b
abbrev registrations : PlanView → Event → ℕ → ℕ
registrations plan e b =
    sum_by (λ g. count_by (is_of b) (registered g (act_of plan e))) (range_with_len 0 (length plan.objects))
    + sum_by (λ c. count_by (is_of b) (registered_at_end c (act_of plan e))) (range_with_len 0 (length plan.blocks))

-- block b waits at no group and at no block
pub record WaitsNowhere (plan : PlanView) (past : List Event) (b : ℕ) : Type 0 where
  pub at_groups : waiting plan past b ≡ 0
  pub at_blocks : end_waiting plan past b ≡ 0

nowhere_of : (plan : PlanView) (past : List Event) (e : Event) (b : ℕ) → IsPlan plan → IsLawful plan (e ∷ past) → 1 ≤ registrations plan e b → WaitsNowhere plan past b
nowhere_of plan past e b valid lawful some =
    let parts = new_parts plan past e b in
    let groups = at_groups plan past e b in
    let blocks = at_blocks plan past e b in
    let once = kept_once plan (e ∷ past) valid lawful b in
    let all = count_by-append (is_of b) (submitted plan past) (new_submissions plan past e) in
    record { at_groups = omega (arith, some, parts, groups, blocks, once, all); at_blocks = omega (arith, some, parts, groups, blocks, once, all) }

pub at_group_once : (plan : PlanView) (past : List Event) (e : Event) (g q : Obj) (b : Blk) → IsPlan plan → IsLawful plan (e ∷ past) → act_of plan e ≡ Some (Notify g q b) → WaitsNowhere plan past b.0
at_group_once plan past e g q b valid lawful at =
    let known = has_object is_group_kind plan g.0 (and_parts (has_kind is_group_kind plan g.0) (is_queue plan q.0 && is_declared plan b) (recorded_fits plan e (Notify g q b) valid at)).0 in
    let new : registered g.0 (act_of plan e) ≡ on_node q b false = ap (registered g.0) at ∙ ap (λ t. cond t (on_node q b false) []) (eq-eqb g.0 g.0 refl) in
    let one : count_by (is_of b.0) (registered g.0 (act_of plan e)) ≡ 1 = ap (count_by (is_of b.0)) new ∙ ap (λ t. 0 + cond {A = ℕ} t 1 0) (eq-eqb b.0 b.0 refl) in
    let there = term_within (λ i. count_by (is_of b.0) (registered i (act_of plan e))) (length plan.objects) g.0 known in
    nowhere_of plan past e b.0 valid lawful (omega (arith, one, there))

pub at_block_once : (plan : PlanView) (past : List Event) (e : Event) (c : Blk) (q : Obj) (d : Blk) → IsPlan plan → IsLawful plan (e ∷ past) → act_of plan e ≡ Some (NotifyBlock c q d) → WaitsNowhere plan past d.0
at_block_once plan past e c q d valid lawful at =
    let known = declared_within plan c (and_parts (is_declared plan c) (is_queue plan q.0 && is_declared plan d) (recorded_fits plan e (NotifyBlock c q d) valid at)).0 in
    let new : registered_at_end c.0 (act_of plan e) ≡ on_node q d false = ap (registered_at_end c.0) at ∙ ap (λ t. cond t (on_node q d false) []) (eq-eqb c.0 c.0 refl) in
    let one : count_by (is_of d.0) (registered_at_end c.0 (act_of plan e)) ≡ 1 = ap (count_by (is_of d.0)) new ∙ ap (λ t. 0 + cond {A = ℕ} t 1 0) (eq-eqb d.0 d.0 refl) in
    let there = term_within (λ i. count_by (is_of d.0) (registered_at_end i (act_of plan e))) (length plan.blocks) c.0 known in
    nowhere_of plan past e d.0 valid lawful (omega (arith, one, there))

-- so it is in none of their lists
pub not_at_group : (plan : PlanView) (past : List Event) (b k : ℕ) → WaitsNowhere plan past b → k < length plan.objects → count_by (is_of b) (notify_blocks plan past k) ≡ 0
not_at_group plan past b k none low =
    let here = term_within (λ i. count_by (is_of b) (notify_blocks plan past i)) (length plan.objects) k low in
    let zero = none.at_groups in
    omega (arith, here, zero)

pub not_at_block : (plan : PlanView) (past : List Event) (b k : ℕ) → WaitsNowhere plan past b → k < length plan.blocks → count_by (is_of b) (end_notify_blocks plan past k) ≡ 0
not_at_block plan past b k none low =
    let here = term_within (λ i. count_by (is_of b) (end_notify_blocks plan past i)) (length plan.blocks) k low in
    let zero = none.at_blocks in
    omega (arith, here, zero)

-- ## Told alike

-- a list that lacks block b is told alike
retold : (b : ℕ) (f g : Blk × Bool → Submission) (xs : List (Blk × Bool)) → ((w : Blk × Bool) → (b ≡ w.0.0 → ⊥) → f w ≡ g w) → ((w : Blk × Bool) → (g w).blk.0 ≡ w.0.0) → count_by (is_of b) (map g xs) ≡ 0 → map f xs ≡ map g xs
retold b f g [] same blk none = refl
retold b f g (w ∷ xs) same blk none =
    let c = count_by-cons (is_of b) (g w) (map g xs) in
    let other : b ≡ w.0.0 → ⊥ = λ it. let t = ap (λ v. cond {A = ℕ} v 1 0) (eq-eqb (g w).blk.0 b (blk w ∙ sym it)) in omega (arith, c, t, none) in
    ap (λ s. s ∷ map f xs) (same w other) ∙ ap (λ l. g w ∷ l) (retold b f g xs same blk (omega (arith, c, none)))

all_same : (f g : Blk × Bool → Submission) (xs : List (Blk × Bool)) → ((w : Blk × Bool) → f w ≡ g w) → map f xs ≡ map g xs
all_same f g [] same = refl
all_same f g (w ∷ xs) same = ap (λ s. s ∷ map f xs) (same w) ∙ ap (λ l. g w ∷ l) (all_same f g xs same)

abbrev told_to : Blk × Bool → Obj → Submission
told_to w o = record { blk = w.0; node = Some o; barrier = w.1 }

pub told_eq : (w : Blk × Bool) (p q : Obj) → p ≡ q → told_to w p ≡ told_to w q
told_eq w p q same = ap (told_to w) same

-- the list lacks what the act registers
pub record Lacks (v : MachineView) (act : Option Act) (xs : List (Blk × Bool)) : Type 0 where
  pub at_group : (g q : Obj) (b : Blk) → act ≡ Some (Notify g q b) → count_by (is_of b.0) (map (notify_submission v) xs) ≡ 0
  pub at_block : (c : Blk) (q : Obj) (d : Blk) → act ≡ Some (NotifyBlock c q d) → count_by (is_of d.0) (map (notify_submission v) xs) ≡ 0

-- what waited is told as before
pub told_as_before : (plan : PlanView) (e : Event) (v : MachineView) (act : Option Act) (xs : List (Blk × Bool)) → ((b : ℕ) → home_of (after plan v e).blocks b ≡ homed b act (home_of v.blocks b)) → Lacks v act xs
    → map (notify_submission (after plan v e)) xs ≡ map (notify_submission v) xs
told_as_before plan e v (Some (Notify g q b)) xs homes lacks =
    retold b.0 (notify_submission (after plan v e)) (notify_submission v) xs
    (λ w other. told_eq w (home_of (after plan v e).blocks w.0.0) (home_of v.blocks w.0.0) (homes w.0.0 ∙ ap (λ t. cond t q (home_of v.blocks w.0.0)) (ne_eqb b.0 w.0.0 other)))
    (λ w. refl) (lacks.at_group g q b refl)
told_as_before plan e v (Some (NotifyBlock c q d)) xs homes lacks =
    retold d.0 (notify_submission (after plan v e)) (notify_submission v) xs
    (λ w other. told_eq w (home_of (after plan v e).blocks w.0.0) (home_of v.blocks w.0.0) (homes w.0.0 ∙ ap (λ t. cond t q (home_of v.blocks w.0.0)) (ne_eqb d.0 w.0.0 other)))
    (λ w. refl) (lacks.at_block c q d refl)
told_as_before plan e v act xs homes lacks =
    all_same (notify_submission (after plan v e)) (notify_submission v) xs (λ w. told_eq w (home_of (after plan v e).blocks w.0.0) (home_of v.blocks w.0.0) (homes w.0.0))
