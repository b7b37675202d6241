-- Who sleeps at semaphores and groups after an event, as the history says.
use Rattle.std.proofs.Common.{◌≡◌, ⊎_elim, ℕ, ◌+◌, ◌<◌, ◌==◌, nat_lt, Bool, true, false, not, ◌&&◌, cond, List, [], ◌∷◌, ◌++◌, length, map, drop, Option, Some, None, refl, ap, sym, ◌∙◌, subst, arith, eq-eqb, option_map}
use Rattle.std.specs.List.{count_by, slice_get, slice_index}
use Rattle.std.specs.Option.{option_map_or, unwrap_or}
use Rattle.std.proofs.Math.Seq.{drop-nil}
use Rattle.std.proofs.lemmas.Bool.{cases_Bool, eqb-true, and_parts}
use Rattle.std.proofs.lemmas.List.{append-nil}
use Rattle.std.proofs.lemmas.Option.{slice_get-map, unwrap_or-slice_get}
use Rattle.std.proofs.Math.Bool.{and-false}
use Rattle.gcd_plan.specs.PlanView.{PlanView}
use Rattle.gcd_plan.specs.Kinds.{has_kind, is_group_kind, is_semaphore_kind}
use Rattle.gcd_plan.specs.KindValues.{first_value_of}
use Rattle.gcd_plan.specs.Validity.{IsPlan, is_act, is_handler_act}
use Rattle.gcd_plan.specs.declared.act.Act.{Act}
use Rattle.gcd_plan.specs.declared.act.Act.TheVariants.{GroupWait, GroupWaitFor}
use Rattle.gcd_plan.specs.declared.numbers.Blk.{Blk}
use Rattle.gcd_plan.specs.declared.numbers.Obj.{Obj}
use Rattle.gcd_plan.specs.declared.numbers.Run.TheVariants.{Block, Source}
use Rattle.gcd_plan.proofs.Within.{has_object}
use Rattle.gcd_event.specs.declared.event.Event.{Event}
use Rattle.gcd_event.specs.declared.event.Event.TheVariants.{Act as Acted, Expire}
use Rattle.gcd_history.specs.Runs.{act_at, act_of}
use Rattle.gcd_history.specs.Groups.{count, leaves, enters}
use Rattle.gcd_history.specs.Expired.{has_expired}
use Rattle.gcd_history.specs.Semas.{signals, waits as is_wait, first_value, signal_count, waits_on, unexpired}
use Rattle.gcd_history.specs.Permitted.{IsLawful}
use Rattle.gcd_plan.proofs.Sums.{count_by-cons, count_by-map}
use Rattle.gcd_history.proofs.Blocks.SubmittedOnce.{handler_act}
use Rattle.gcd_history.proofs.Blocks.SubmittedOnNodes.{act_fits, recorded_fits}
use Rattle.gcd_sema.specs.SemasView.{first_at, left_at, passes_at, has_value_at}
use Rattle.gcd_sync.specs.WaitsView.{reason_at}
use Rattle.gcd_refinement.specs.MachineView.{MachineView}
use Rattle.gcd_refinement.specs.Shape.{PartsFit, OwnFit}
use Rattle.gcd_refinement.specs.Sleepers.{waits_for_group, wait_if, unexpired_blocks, sema_waits, sema_sleepers, group_waits, group_sleepers}
use Rattle.gcd_refinement.specs.Ties.{GroupsAre, SemasAre, WaitsAre, BlocksAre, WakesAre}
use Rattle.gcd_refinement.specs.Submits.{emptied_by}
use Rattle.gcd_refinement.specs.AfterSleepers.{bed_of, asleep_after, sleepers_after}
use Rattle.gcd_refinement.proofs.Groups.Members.{is_group}
use Rattle.gcd_refinement.proofs.Step.Groups.{adds}
use Rattle.gcd_refinement.proofs.Semas.Ranks.{all_counted, sema_sleeper_parked}
use Rattle.gcd_refinement.proofs.Semas.Ends.{expired_sleepers}
use Rattle.gcd_refinement.proofs.Groups.Sleepers.{no_waits, group_expiry}
use Rattle.gcd_refinement.proofs.Sleepers.Kinds.{no_sema_waits, no_sleepers, semaphore_is_no_group}
use Rattle.gcd_refinement.proofs.Groups.NoCount.{no_count}
use Rattle.gcd_refinement.proofs.Groups.Emptied.{is_emptied, emptied_is, event_counts}
use Rattle.gcd_refinement.proofs.Step.SemaSleepers.{blocks_at, removed_at, woken_at, kept, AtSemaphore, sema_asleep, sema_asleep_by_handler}
use Rattle.gcd_refinement.proofs.Groups.Asleep.{stays, group_asleep, group_asleep_by_handler, unexpired-append, begun_block, expiry_asleep}

-- ## First values

first_of : {X : Type 0} (f : X → ℕ) (xs : List X) (s : ℕ) → slice_index (map f xs) s ≡ option_map_or f (slice_get xs s) 0
first_of f xs s =
    sym (unwrap_or-slice_get (map f xs) s 0)
    ∙ (ap (λ o. unwrap_or o 0) (slice_get-map f xs s)
    ∙ elim (slice_get xs s) as (λ o. unwrap_or (option_map f o) 0 ≡ option_map_or f o 0) [ None ↦ refl | Some x ↦ refl ])

pub first_is : (plan : PlanView) (v : MachineView) (s : ℕ) → PartsFit plan v → first_at v.semas s ≡ first_value plan s
first_is plan v s fit =
    ap (λ l. slice_index l s) fit.firsts
    ∙ (first_of (λ o. first_value_of o.kind) plan.objects s
    ∙ elim (slice_get plan.objects s) as (λ o. option_map_or (λ x. first_value_of x.kind) o 0 ≡ option_map_or first_value_of (option_map (λ x. x.kind) o) 0) [ None ↦ refl | Some x ↦ refl ])

-- ## Values

-- as many waits on a semaphore have not expired
left_is : (plan : PlanView) (past : List Event) (v : MachineView) (s : ℕ) → SemasAre plan past v → left_at v.semas s ≡ unexpired past (waits_on plan past s)
left_is plan past v s semas = ap (count_by not) (semas.waits s) ∙ count_by-map not (has_expired past) (waits_on plan past s)

passes_are : (plan : PlanView) (past : List Event) (v : MachineView) (s : ℕ) → PartsFit plan v → SemasAre plan past v → passes_at v.semas s ≡ first_value plan s + signal_count plan past s
passes_are plan past v s fit semas = let f = first_is plan v s fit in let g = semas.signals s in omega (arith, f, g)

-- a semaphore's value is above 0 where fewer waits have not expired than can pass
pub value_is : (plan : PlanView) (past : List Event) (v : MachineView) (s : ℕ) → PartsFit plan v → SemasAre plan past v
    → has_value_at v.semas s ≡ nat_lt (unexpired past (waits_on plan past s)) (first_value plan s + signal_count plan past s)
value_is plan past v s fit semas = ap (λ n. nat_lt n (passes_at v.semas s)) (left_is plan past v s semas) ∙ ap (nat_lt (unexpired past (waits_on plan past s))) (passes_are plan past v s fit semas)

-- ## At a semaphore

at_semaphore : (plan : PlanView) (past : List Event) (e : Event) (v : MachineView) (s : ℕ) → IsPlan plan → PartsFit plan v → OwnFit plan v → SemasAre plan past v → has_kind is_semaphore_kind plan s ≡ true → blocks_at v.sleepers s ≡ sema_sleepers plan past s
    → AtSemaphore plan v (act_of plan e) s (first_value plan s + signal_count plan past s) (first_value plan s + signal_count plan (e ∷ past) s) (unexpired_blocks past (sema_waits plan past s))
at_semaphore plan past e v s valid fit own semas kind tie = record {
  fits = λ a at. recorded_fits plan e a valid at;
  kind = kind;
  low = let l = has_object is_semaphore_kind plan s kind in let long = own.sleepers in omega (arith, l, long);
  tie = tie;
  value = passes_are plan past v s fit semas;
  waited = left_is plan past v s semas ∙ all_counted plan past s valid;
  next = let c = count_by-cons (λ x. signals s (act_of plan x)) e past in omega (arith, c);
}

-- nobody more waits
none_more : (plan : PlanView) (past : List Event) (s m : ℕ) → drop m (unexpired_blocks past (sema_waits plan past s)) ≡ drop m (unexpired_blocks past (sema_waits plan past s ++ []))
none_more plan past s m = ap (λ l. drop m (unexpired_blocks past l)) (sym (append-nil (sema_waits plan past s)))

sema_after : (plan : PlanView) (past : List Event) (e : Event) (v : MachineView) (s : ℕ) → IsPlan plan → IsLawful plan (e ∷ past) → PartsFit plan v → OwnFit plan v → SemasAre plan past v → WaitsAre plan past v → has_kind is_semaphore_kind plan s ≡ true
    → blocks_at v.sleepers s ≡ sema_sleepers plan past s → blocks_at (asleep_after plan v e) s ≡ sema_sleepers plan (e ∷ past) s
sema_after plan past (Acted w (Block b) i) v s valid lawful fit own semas waits kind tie =
    let e = Acted w (Block b) i in
    let act = act_at plan (Block b) i in
    let n = first_value plan s + signal_count plan (e ∷ past) s in
    let old = sema_waits plan past s in
    sema_asleep plan v b act s _ n (unexpired_blocks past old) (at_semaphore plan past e v s valid fit own semas kind tie)
    ∙ (ap (λ l. drop n (unexpired_blocks past old ++ l)) (sym (begun_block past b false (is_wait s act)))
    ∙ ap (drop n) (sym (unexpired-append past old (cond (is_wait s act) ((length past, b) ∷ []) []))))
sema_after plan past (Acted w (Source o) i) v s valid lawful fit own semas waits kind tie =
    let e = Acted w (Source o) i in
    let n = first_value plan s + signal_count plan (e ∷ past) s in
    sema_asleep_by_handler plan v (act_at plan (Source o) i) s _ n (unexpired_blocks past (sema_waits plan past s)) (at_semaphore plan past e v s valid fit own semas kind tie)
    ∙ none_more plan past s n
sema_after plan past (Expire c) v s valid lawful fit own semas waits kind tie =
    let o : Obj = record { 0 = s } in
    removed_at v.sleepers (bed_of (reason_at v.waits c.0)) c s (sema_sleepers plan past s) (λ h. ap bed_of (waits.reasons c.0 ∙ (sema_sleeper_parked plan past c o valid lawful.0 h).is)) tie
    ∙ sym (expired_sleepers plan past c o valid lawful)
sema_after plan past e v s valid lawful fit own semas waits kind tie =
    let n = first_value plan s + signal_count plan (e ∷ past) s in
    let at = at_semaphore plan past e v s valid fit own semas kind tie in
    kept (blocks_at v.sleepers s) _ n (unexpired_blocks past (sema_waits plan past s)) at.tie at.next ∙ none_more plan past s n

pub sema_tie : (plan : PlanView) (past : List Event) (v : MachineView) (s : ℕ) → IsPlan plan → WakesAre plan past v → has_kind is_semaphore_kind plan s ≡ true → blocks_at v.sleepers s ≡ sema_sleepers plan past s
sema_tie plan past v s valid ties kind =
    ties.of_sema s ∙ (ap (λ l. sema_sleepers plan past s ++ l) (no_sleepers plan past s valid (semaphore_is_no_group plan s kind)) ∙ append-nil (sema_sleepers plan past s))

sema_case : (plan : PlanView) (past : List Event) (e : Event) (v : MachineView) (s : ℕ) → IsPlan plan → IsLawful plan (e ∷ past) → PartsFit plan v → OwnFit plan v → SemasAre plan past v → GroupsAre plan past v → BlocksAre plan past v → WaitsAre plan past v → WakesAre plan past v
    → has_kind is_semaphore_kind plan s ≡ true → blocks_at (sleepers_after plan v e) s ≡ sema_sleepers plan (e ∷ past) s ++ group_sleepers plan (e ∷ past) s
sema_case plan past e v s valid lawful fit own semas groups blocks waits ties kind =
    let none = semaphore_is_no_group plan s kind in
    let off : is_group s (emptied_by plan v e) ≡ false =
    emptied_is plan past e v s valid lawful fit own groups blocks
    ∙ (ap (λ u. count plan (e ∷ past) s == 0 && not u) (eq-eqb (count plan past s) 0 (no_count plan past s valid none)) ∙ and-false (count plan (e ∷ past) s == 0)) in
    woken_at (asleep_after plan v e) (emptied_by plan v e) s
    ∙ (ap (λ u. cond u [] (blocks_at (asleep_after plan v e) s)) off
    ∙ (sema_after plan past e v s valid lawful fit own semas waits kind (sema_tie plan past v s valid ties kind)
    ∙ (sym (append-nil (sema_sleepers plan (e ∷ past) s))
    ∙ ap (λ l. sema_sleepers plan (e ∷ past) s ++ l) (sym (no_sleepers plan (e ∷ past) s valid none)))))

-- ## At a group

pub no_sema_sleepers : (plan : PlanView) (past : List Event) (s : ℕ) → IsPlan plan → has_kind is_semaphore_kind plan s ≡ false → sema_sleepers plan past s ≡ []
no_sema_sleepers plan past s valid none =
    ap (λ l. drop (first_value plan s + signal_count plan past s) (unexpired_blocks past l)) (no_sema_waits plan past s valid none) ∙ drop-nil (first_value plan s + signal_count plan past s)

pub group_tie : (plan : PlanView) (past : List Event) (v : MachineView) (g : ℕ) → IsPlan plan → WakesAre plan past v → has_kind is_semaphore_kind plan g ≡ false → blocks_at v.sleepers g ≡ group_sleepers plan past g
group_tie plan past v g valid ties none = ties.of_sema g ∙ ap (λ l. l ++ group_sleepers plan past g) (no_sema_sleepers plan past g valid none)

no_change : (g s : ℕ) (act : Option Act) → waits_for_group g act ≡ true → (leaves s act ≡ false) × (adds s act ≡ false) × (enters s act ≡ false)
no_change g s (Some (GroupWait h)) waits = (refl, refl, refl)
no_change g s (Some (GroupWaitFor h ms)) waits = (refl, refl, refl)
no_change g s _ waits = cc

-- a wait for a group changes no count
pub waits_count : (plan : PlanView) (past : List Event) (w : ℕ) (b : Blk) (i : ℕ) (v : MachineView) (s : ℕ) → IsPlan plan → IsLawful plan (Acted w (Block b) i ∷ past) → PartsFit plan v → OwnFit plan v → GroupsAre plan past v → BlocksAre plan past v
    → (g : ℕ) → waits_for_group g (act_at plan (Block b) i) ≡ true → count plan (Acted w (Block b) i ∷ past) s ≡ count plan past s
waits_count plan past w b i v s valid lawful fit own groups blocks g waits =
    let c = event_counts plan past (Acted w (Block b) i) v valid lawful fit own groups blocks (λ u d same. cc) s in
    let none = no_change g s (act_at plan (Block b) i) waits in
    let l = ap (λ u. cond {A = ℕ} u 1 0) none.0 in
    let j = ap (λ u. cond {A = ℕ} u 1 0) none.1 in
    let n = ap (λ u. cond {A = ℕ} u 1 0) none.2 in
    omega (arith, c, l, j, n)

-- what a block waits for is a group
within : (plan : PlanView) (s : ℕ) (act : Option Act) → ((a : Act) → act ≡ Some a → is_act plan a ≡ true) → waits_for_group s act ≡ true → s < length plan.objects
within plan s (Some (GroupWait g)) fits waits = has_object is_group_kind plan s (subst (λ k. has_kind is_group_kind plan k ≡ true) (eqb-true g.0 s waits) (fits (GroupWait g) refl))
within plan s (Some (GroupWaitFor g ms)) fits waits =
    has_object is_group_kind plan s (subst (λ k. has_kind is_group_kind plan k ≡ true) (eqb-true g.0 s waits) (and_parts (has_kind is_group_kind plan g.0) _ (fits (GroupWaitFor g ms) refl)).0)
within plan s _ fits waits = cc

-- a handler waits for no group
no_handler_waits : (s : ℕ) (act : Option Act) → ((a : Act) → act ≡ Some a → is_handler_act a ≡ true) → waits_for_group s act ≡ true → ⊥
no_handler_waits s (Some (GroupWait g)) fine waits = let never : false ≡ true = fine (GroupWait g) refl in cc
no_handler_waits s (Some (GroupWaitFor g ms)) fine waits = let never : false ≡ true = fine (GroupWaitFor g ms) refl in cc
no_handler_waits s _ fine waits = cc

group_after : (plan : PlanView) (past : List Event) (e : Event) (v : MachineView) (s : ℕ) → IsPlan plan → IsLawful plan (e ∷ past) → PartsFit plan v → OwnFit plan v → GroupsAre plan past v → BlocksAre plan past v → WaitsAre plan past v
    → has_kind is_semaphore_kind plan s ≡ false → blocks_at v.sleepers s ≡ group_sleepers plan past s
    → blocks_at (asleep_after plan v e) s ≡ unexpired_blocks (e ∷ past) (group_waits plan past s ++ cond (count plan (e ∷ past) s == 0) [] (wait_if (waits_for_group s) plan past e))
group_after plan past (Acted w (Block b) i) v s valid lawful fit own groups blocks waits kind tie =
    let act = act_at plan (Block b) i in
    let none = count plan (Acted w (Block b) i ∷ past) s == 0 in
    let fits : (a : Act) → act ≡ Some a → is_act plan a ≡ true = λ a at. act_fits plan (Block b) i a valid at in
    group_asleep plan v b act s none (group_sleepers plan past s)
    (record {
      fits = fits;
      kind = kind;
      long = own.sleepers;
      tie = tie;
      within = λ now. within plan s act fits now;
      empty = λ now. ap (λ n. n == 0) (groups.counts s ∙ sym (waits_count plan past w b i v s valid lawful fit own groups blocks s now));
    })
    ∙ (ap (λ l. group_sleepers plan past s ++ l) (sym (begun_block past b none (waits_for_group s act)))
    ∙ sym (unexpired-append past (group_waits plan past s) (cond none [] (cond (waits_for_group s act) ((length past, b) ∷ []) []))))
group_after plan past (Acted w (Source o) i) v s valid lawful fit own groups blocks waits kind tie =
    let act = act_at plan (Source o) i in
    let none = count plan (Acted w (Source o) i ∷ past) s == 0 in
    let handled : waits_for_group s act ≡ true → ⊥ = λ now. no_handler_waits s act (λ a at. (handler_act plan o i a valid at).0) now in
    group_asleep_by_handler plan v act s none (group_sleepers plan past s)
    (record {
      fits = λ a at. act_fits plan (Source o) i a valid at;
      kind = kind;
      long = own.sleepers;
      tie = tie;
      within = λ now. absurd (handled now);
      empty = λ now. absurd (handled now);
    })
    ∙ (sym (stays none (group_sleepers plan past s)) ∙ ap (unexpired_blocks past) (stays none (group_waits plan past s)))
group_after plan past (Expire b) v s valid lawful fit own groups blocks waits kind tie =
    expiry_asleep plan past v b s lawful.0 waits tie
    ∙ (sym (group_expiry plan past b (record { 0 = s }) lawful.0)
    ∙ ap (unexpired_blocks (Expire b ∷ past)) (stays (count plan (Expire b ∷ past) s == 0) (group_waits plan past s)))
group_after plan past e v s valid lawful fit own groups blocks waits kind tie =
    tie ∙ ap (unexpired_blocks past) (stays (count plan (e ∷ past) s == 0) (group_waits plan past s))

-- what the group that is emptied leaves
join : (past : List Event) (zero before : Bool) (sleeping now : List (ℕ × Blk)) → (before ≡ true → sleeping ≡ [])
    → cond (zero && not before) [] (unexpired_blocks past (sleeping ++ cond zero [] now)) ≡ unexpired_blocks past (cond zero [] (sleeping ++ now))
join past true true sleeping now none = ap (unexpired_blocks past) (append-nil sleeping ∙ none refl)
join past true false sleeping now none = refl
join past false before sleeping now none = refl

group_case : (plan : PlanView) (past : List Event) (e : Event) (v : MachineView) (s : ℕ) → IsPlan plan → IsLawful plan (e ∷ past) → PartsFit plan v → OwnFit plan v → GroupsAre plan past v → BlocksAre plan past v → WaitsAre plan past v → WakesAre plan past v
    → has_kind is_semaphore_kind plan s ≡ false → blocks_at (sleepers_after plan v e) s ≡ sema_sleepers plan (e ∷ past) s ++ group_sleepers plan (e ∷ past) s
group_case plan past e v s valid lawful fit own groups blocks waits ties kind =
    woken_at (asleep_after plan v e) (emptied_by plan v e) s
    ∙ (ap (λ u. cond u [] (blocks_at (asleep_after plan v e) s)) (emptied_is plan past e v s valid lawful fit own groups blocks)
    ∙ (ap (λ l. cond (is_emptied plan past e s) [] l) (group_after plan past e v s valid lawful fit own groups blocks waits kind (group_tie plan past v s valid ties kind))
    ∙ (join (e ∷ past) (count plan (e ∷ past) s == 0) (count plan past s == 0) (group_waits plan past s) (wait_if (waits_for_group s) plan past e)
    (λ z. no_waits plan past s (eqb-true (count plan past s) 0 z))
    ∙ ap (λ l. l ++ group_sleepers plan (e ∷ past) s) (sym (no_sema_sleepers plan (e ∷ past) s valid kind)))))

-- ## The step

pub sleepers_step : (plan : PlanView) (past : List Event) (e : Event) (v : MachineView) (s : ℕ) → IsPlan plan → IsLawful plan (e ∷ past) → PartsFit plan v → OwnFit plan v → SemasAre plan past v → GroupsAre plan past v → BlocksAre plan past v → WaitsAre plan past v → WakesAre plan past v
    → blocks_at (sleepers_after plan v e) s ≡ sema_sleepers plan (e ∷ past) s ++ group_sleepers plan (e ∷ past) s
sleepers_step plan past e v s valid lawful fit own semas groups blocks waits ties =
    ⊎_elim
    (λ kind. sema_case plan past e v s valid lawful fit own semas groups blocks waits ties kind)
    (λ kind. group_case plan past e v s valid lawful fit own groups blocks waits ties kind)
    (cases_Bool (has_kind is_semaphore_kind plan s))
