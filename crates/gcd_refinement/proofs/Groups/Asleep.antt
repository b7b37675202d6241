-- Who sleeps at a group after an event, or where nobody sleeps.
use Rattle.std.proofs.Common.{◌≡◌, ⊎_elim, ℕ, ◌<◌, ◌==◌, Bool, true, false, not, cond, List, [], ◌∷◌, ◌++◌, length, map, filter, Option, Some, refl, ap, sym, ◌∙◌, subst, arith, eq-eqb, ne_eqb}
use Rattle.std.proofs.lemmas.Bool.{cases_eq, both_ways, and_parts}
use Rattle.std.proofs.lemmas.List.{append-nil, map-append}
use Rattle.std.proofs.lemmas.List.Elements.{filter-append}
use Rattle.gcd_plan.specs.PlanView.{PlanView}
use Rattle.gcd_plan.specs.Kinds.{has_kind, is_semaphore_kind}
use Rattle.gcd_plan.specs.Validity.{is_act}
use Rattle.gcd_plan.specs.declared.act.Act.{Act}
use Rattle.gcd_plan.specs.declared.act.Act.TheVariants.{GroupWait, GroupWaitFor, Signal, Wait, WaitFor}
use Rattle.gcd_plan.specs.declared.numbers.Blk.{Blk}
use Rattle.gcd_plan.specs.declared.numbers.Obj.{Obj}
use Rattle.gcd_event.specs.declared.event.Event.{Event}
use Rattle.gcd_history.specs.Expired.{has_expired}
use Rattle.gcd_history.specs.Permitted.{IsLawful}
use Rattle.gcd_group.specs.GroupsView.{count_at}
use Rattle.gcd_sema.specs.SemasView.{has_value_at}
use Rattle.gcd_sync.specs.WaitsView.{reason_at}
use Rattle.gcd_refinement.specs.MachineView.{MachineView}
use Rattle.gcd_refinement.specs.Sleepers.{waits_for_group, unexpired_blocks, group_sleepers}
use Rattle.gcd_refinement.specs.Ties.{WaitsAre}
use Rattle.gcd_refinement.specs.AfterSleepers.{pushed_on, asleep, asleep_by_handler, bed_of, removed}
use Rattle.gcd_refinement.proofs.Limits.Expiries.{not_expired_yet}
use Rattle.gcd_refinement.proofs.Groups.Sleepers.{sleeper_parked}
use Rattle.gcd_refinement.proofs.Step.SemaSleepers.{blocks_at, pushed_here, pushed_there, popped_there, removed_at, either_same}

-- ## An act

-- what is known of an object that is no semaphore
pub record AtGroup (plan : PlanView) (v : MachineView) (act : Option Act) (s : ℕ) (none : Bool) (sleeping : List Blk) : Type 0 where
  pub fits : (a : Act) → act ≡ Some a → is_act plan a ≡ true
  pub kind : has_kind is_semaphore_kind plan s ≡ false
  pub long : length v.sleepers.lists ≡ length plan.objects
  pub tie : blocks_at v.sleepers s ≡ sleeping
  pub within : waits_for_group s act ≡ true → s < length plan.objects
  pub empty : waits_for_group s act ≡ true → (count_at v.groups s == 0) ≡ none

pub stays : {X : Type 0} (u : Bool) (xs : List X) → xs ≡ xs ++ cond u [] []
stays true xs = sym (append-nil xs)
stays false xs = sym (append-nil xs)

-- a semaphore is another object
apart : (plan : PlanView) (s : ℕ) (t : Obj) → has_kind is_semaphore_kind plan s ≡ false → has_kind is_semaphore_kind plan t.0 ≡ true → t.0 ≡ s → ⊥
apart plan s t none some same = both_ways (has_kind is_semaphore_kind plan s) none (subst (λ k. has_kind is_semaphore_kind plan k ≡ true) same some)

-- a block goes to sleep at group g, where that is not empty
laid_down : (plan : PlanView) (v : MachineView) (b : Blk) (g : Obj) (act : Option Act) (s : ℕ) (none : Bool) (sleeping : List Blk) → AtGroup plan v act s none sleeping → waits_for_group s act ≡ (g.0 == s)
    → blocks_at (cond (count_at v.groups g.0 == 0) v.sleepers (pushed_on v.sleepers g b false)) s ≡ sleeping ++ cond none [] (cond (g.0 == s) (b ∷ []) [])
laid_down plan v b g act s none sleeping at waits =
    let long = at.long in
    ⊎_elim
    (λ (same : g.0 ≡ s).
    let now = waits ∙ eq-eqb g.0 s same in
    let low = at.within now in
    let empty : (count_at v.groups g.0 == 0) ≡ none = ap (λ k. count_at v.groups k == 0) same ∙ at.empty now in
    ap (λ u. blocks_at (cond u v.sleepers (pushed_on v.sleepers g b false)) s) empty
    ∙ (by_empty none (pushed_here v.sleepers g b s same (omega (arith, low, long)) ∙ ap (λ l. l ++ b ∷ []) at.tie)
    ∙ ap (λ u. sleeping ++ cond none [] (cond u (b ∷ []) [])) (sym (eq-eqb g.0 s same))))
    (λ (other : g.0 ≡ s → ⊥).
    either_same (count_at v.groups g.0 == 0) v.sleepers (pushed_on v.sleepers g b false) s sleeping at.tie (pushed_there v.sleepers g b s other ∙ at.tie)
    ∙ (stays none sleeping ∙ ap (λ u. sleeping ++ cond none [] (cond u (b ∷ []) [])) (sym (ne_eqb g.0 s other))))
    (cases_eq g.0 s)
  where
    by_empty : (z : Bool) → blocks_at (pushed_on v.sleepers g b false) s ≡ sleeping ++ b ∷ [] → blocks_at (cond z v.sleepers (pushed_on v.sleepers g b false)) s ≡ sleeping ++ cond z [] (b ∷ [])
    by_empty true h = at.tie ∙ sym (append-nil sleeping)
    by_empty false h = h

-- or at a semaphore, which is another object
laid_elsewhere : (plan : PlanView) (v : MachineView) (b : Blk) (t : Obj) (act : Option Act) (s : ℕ) (none : Bool) (sleeping : List Blk) → AtGroup plan v act s none sleeping → has_kind is_semaphore_kind plan t.0 ≡ true
    → blocks_at (cond (has_value_at v.semas t.0) v.sleepers (pushed_on v.sleepers t b false)) s ≡ sleeping ++ cond none [] []
laid_elsewhere plan v b t act s none sleeping at some =
    either_same (has_value_at v.semas t.0) v.sleepers (pushed_on v.sleepers t b false) s sleeping at.tie (pushed_there v.sleepers t b s (apart plan s t at.kind some) ∙ at.tie)
    ∙ stays none sleeping

pub group_asleep : (plan : PlanView) (v : MachineView) (b : Blk) (act : Option Act) (s : ℕ) (none : Bool) (sleeping : List Blk) → AtGroup plan v act s none sleeping
    → blocks_at (asleep v b act) s ≡ sleeping ++ cond none [] (cond (waits_for_group s act) (b ∷ []) [])
group_asleep plan v b (Some (GroupWait g)) s none sleeping at = laid_down plan v b g (Some (GroupWait g)) s none sleeping at refl
group_asleep plan v b (Some (GroupWaitFor g ms)) s none sleeping at = laid_down plan v b g (Some (GroupWaitFor g ms)) s none sleeping at refl
group_asleep plan v b (Some (Wait t)) s none sleeping at = laid_elsewhere plan v b t (Some (Wait t)) s none sleeping at (at.fits (Wait t) refl)
group_asleep plan v b (Some (WaitFor t ms)) s none sleeping at =
    laid_elsewhere plan v b t (Some (WaitFor t ms)) s none sleeping at (and_parts (has_kind is_semaphore_kind plan t.0) _ (at.fits (WaitFor t ms) refl)).0
group_asleep plan v b (Some (Signal t)) s none sleeping at = popped_there v.sleepers t s (apart plan s t at.kind (at.fits (Signal t) refl)) ∙ (at.tie ∙ stays none sleeping)
group_asleep plan v b _ s none sleeping at = at.tie ∙ stays none sleeping

pub group_asleep_by_handler : (plan : PlanView) (v : MachineView) (act : Option Act) (s : ℕ) (none : Bool) (sleeping : List Blk) → AtGroup plan v act s none sleeping
    → blocks_at (asleep_by_handler v act) s ≡ sleeping ++ cond none [] []
group_asleep_by_handler plan v (Some (Signal t)) s none sleeping at = popped_there v.sleepers t s (apart plan s t at.kind (at.fits (Signal t) refl)) ∙ (at.tie ∙ stays none sleeping)
group_asleep_by_handler plan v _ s none sleeping at = at.tie ∙ stays none sleeping

-- ## The history's words

pub unexpired-append : (past : List Event) (xs ys : List (ℕ × Blk)) → unexpired_blocks past (xs ++ ys) ≡ unexpired_blocks past xs ++ unexpired_blocks past ys
unexpired-append past xs ys =
    ap (map (λ w. w.1)) (filter-append (λ w. not (has_expired past w.0)) xs ys)
    ∙ map-append (λ w. w.1) (filter (λ w. not (has_expired past w.0)) xs) (filter (λ w. not (has_expired past w.0)) ys)

-- a wait that begins has not expired
pub begun_block : (past : List Event) (b : Blk) (none waits : Bool) → unexpired_blocks past (cond none [] (cond waits ((length past, b) ∷ []) [])) ≡ cond none [] (cond waits (b ∷ []) [])
begun_block past b true waits = refl
begun_block past b false false = refl
begun_block past b false true =
    ap (λ u. map (λ w. w.1) (cond {A = List (ℕ × Blk)} (not u) ((length past, b) ∷ []) [])) (not_expired_yet past (length past) (omega arith))

-- ## An Expire

-- an Expire takes its block away, wherever it sleeps
pub expiry_asleep : (plan : PlanView) (past : List Event) (v : MachineView) (b : Blk) (s : ℕ) → IsLawful plan past → WaitsAre plan past v → blocks_at v.sleepers s ≡ group_sleepers plan past s
    → blocks_at (removed v.sleepers (bed_of (reason_at v.waits b.0)) b) s ≡ filter (λ c. not (c.0 == b.0)) (group_sleepers plan past s)
expiry_asleep plan past v b s lawful waits tie =
    removed_at v.sleepers (bed_of (reason_at v.waits b.0)) b s (group_sleepers plan past s) (λ h. ap bed_of (waits.reasons b.0 ∙ (sleeper_parked plan past b (record { 0 = s }) lawful h).is)) tie
