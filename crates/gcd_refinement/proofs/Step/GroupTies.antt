-- Groups after an event: all that is known of them.
use Rattle.std.proofs.Common.{◌≡◌, ℕ, suc, ◌+◌, ◌<◌, ◌≤◌, ◌==◌, leb, ltb, Bool, true, false, ◌&&◌, ◌||◌, cond, List, [], ◌∷◌, ◌++◌, length, map, Option, Some, refl, ap, sym, ◌∙◌, arith, ⊎_elim, eq-eqb, ne_eqb}
use Rattle.std.specs.List.{count_by}
use Rattle.std.proofs.lemmas.Bool.{cases_eq, cases_lt, and_parts, false_from_ne_true, leb-true, le-leb, lt-ltb}
use Rattle.std.proofs.lemmas.List.{map-append, get_or_past}
use Rattle.gcd_plan.specs.PlanView.{PlanView}
use Rattle.gcd_plan.specs.Kinds.{has_kind, is_group_kind, is_queue}
use Rattle.gcd_plan.specs.Validity.{IsPlan, is_declared}
use Rattle.gcd_plan.specs.declared.act.Act.{Act}
use Rattle.gcd_plan.specs.declared.act.Act.TheVariants.{GroupAsync, Enter, Leave, Notify}
use Rattle.gcd_plan.specs.declared.numbers.Blk.{Blk}
use Rattle.gcd_plan.specs.declared.numbers.Obj.{Obj}
use Rattle.gcd_plan.proofs.Within.{has_object}
use Rattle.gcd_event.specs.declared.event.Event.{Event}
use Rattle.gcd_event.specs.declared.event.Event.TheVariants.{End}
use Rattle.gcd_history.specs.Runs.{act_of}
use Rattle.gcd_history.specs.Groups.{count, is_empty_above}
use Rattle.gcd_history.specs.Submitted.{on_node, registered, notify_blocks}
use Rattle.gcd_history.specs.Permitted.{IsLawful}
use Rattle.gcd_history.proofs.Blocks.SubmittedOnNodes.{recorded_fits}
use Rattle.gcd_history.proofs.Blocks.SubmittedOnce.{is_of}
use Rattle.gcd_lists.specs.ListsView.{list_at}
use Rattle.gcd_group.specs.GroupsView.{count_at, emptied_at}
use Rattle.gcd_refinement.specs.MachineView.{MachineView, block_at}
use Rattle.gcd_refinement.specs.Shape.{PartsFit, OwnFit}
use Rattle.gcd_refinement.specs.Sleepers.{group_of}
use Rattle.gcd_refinement.specs.Ties.{GroupsAre, BlocksAre, notify_submission}
use Rattle.gcd_refinement.specs.After.{groups_after, after}
use Rattle.gcd_refinement.proofs.Groups.Members.{is_group}
use Rattle.gcd_refinement.proofs.Step.Groups.{fits_at, counts_step, end_counts}
use Rattle.gcd_refinement.proofs.Step.Submits.{none_waits, counts_of}
use Rattle.gcd_refinement.proofs.Groups.Moves.{Rests, Moves, Within, Known, told_by, moves_by, moves_end}
use Rattle.gcd_refinement.proofs.Groups.NotifyQueues.{home_of, homed, homes_after}
use Rattle.gcd_refinement.proofs.Blocks.Registered.{registers_at}
use Rattle.gcd_refinement.proofs.Blocks.Unregistered.{WaitsNowhere, at_group_once, at_block_once, not_at_group, Lacks, told_eq, told_as_before}
use Rattle.gcd_refinement.proofs.Groups.Sleepers.{none_above}

pub nothing_mapped : {X Y : Type 0} (f : X → Y) (xs : List X) → map f xs ≡ [] → xs ≡ []
nothing_mapped f [] h = refl
nothing_mapped f (x ∷ xs) h = cc

-- ## The view moves

within_at : (plan : PlanView) (v : MachineView) (g : ℕ) → PartsFit plan v → g < length plan.objects → Within v.groups g
within_at plan v g fit low =
    let a = fit.counts in
    let b = fit.emptied in
    let c = fit.notify in
    let d = fit.due in
    record { counts = omega (arith, low, a); emptied = omega (arith, low, b); notify = omega (arith, low, c); due = omega (arith, low, d) }

known_at : (plan : PlanView) (past : List Event) (e : Event) (v : MachineView) → IsPlan plan → IsLawful plan (e ∷ past) → PartsFit plan v → GroupsAre plan past v → Known v.groups (act_of plan e)
known_at plan past e v valid lawful fit ties =
    let fits = fits_at plan past e v valid lawful fit (counts_of plan past v ties) in
    record {
      joined = λ g q b at.
          within_at plan v g.0 fit (has_object is_group_kind plan g.0 (and_parts (has_kind is_group_kind plan g.0) (is_queue plan q.0 && is_declared plan b) (recorded_fits plan e (GroupAsync g q b) valid at)).0);
      come = λ g at. within_at plan v g.0 fit (has_object is_group_kind plan g.0 (recorded_fits plan e (Enter g) valid at));
      gone = λ g at. (within_at plan v g.0 fit (has_object is_group_kind plan g.0 (recorded_fits plan e (Leave g) valid at)), (fits.gone g at).2);
      told = λ g q b at.
          within_at plan v g.0 fit (has_object is_group_kind plan g.0 (and_parts (has_kind is_group_kind plan g.0) (is_queue plan q.0 && is_declared plan b) (recorded_fits plan e (Notify g q b) valid at)).0);
    }

rests_at : (plan : PlanView) (past : List Event) (v : MachineView) (k : ℕ) → GroupsAre plan past v → v.len ≡ length past → Rests v.groups v.len k
rests_at plan past v k ties long =
    let low = ties.emptied k in
    record {
      listed = λ zero_now. nothing_mapped (notify_submission v) (list_at v.groups.notify k) (ties.notify k ∙ none_waits plan past k (sym (ties.counts k) ∙ zero_now));
      due = ties.fired k;
      low = omega (arith, low, long);
    }

moves_at : (plan : PlanView) (past : List Event) (e : Event) (v : MachineView) (k : ℕ) → IsPlan plan → IsLawful plan (e ∷ past) → PartsFit plan v → OwnFit plan v → GroupsAre plan past v → BlocksAre plan past v → v.len ≡ length past
    → Moves v.groups (groups_after plan v e) v.len k (told_by k (act_of plan e))
moves_at plan past (End w b) v k valid lawful fit own ties blocks long =
    moves_end v.groups v.len k (block_at v b.0).group (rests_at plan past v k ties long) (λ g at.
    let low = own.groups b.0 g at in
    let t = end_counts plan past w b valid lawful g.0 in
    let one : cond {A = ℕ} (is_group g.0 (group_of plan past b.0)) 1 0 ≡ 1 = ap (λ p. cond {A = ℕ} (is_group g.0 p) 1 0) (sym (blocks.group b.0) ∙ at) ∙ ap (λ v. cond {A = ℕ} v 1 0) (eq-eqb g.0 g.0 refl) in
    let c = ties.counts g.0 in
    (within_at plan v g.0 fit low, omega (arith, t, one, c)))
moves_at plan past e v k valid lawful fit own ties blocks long =
    moves_by v.groups v.len k (act_of plan e) (rests_at plan past v k ties long) (known_at plan past e v valid lawful fit ties)

-- ## Who is told

-- what waited at a group lacks what the act registers
lacks_at : (plan : PlanView) (past : List Event) (e : Event) (v : MachineView) (k : ℕ) → IsPlan plan → IsLawful plan (e ∷ past) → PartsFit plan v → GroupsAre plan past v → Lacks v (act_of plan e) (list_at v.groups.notify k)
lacks_at plan past e v k valid lawful fit ties =
    record {
      at_group = λ g q b at. by b.0 (at_group_once plan past e g q b valid lawful at);
      at_block = λ c q d at. by d.0 (at_block_once plan past e c q d valid lawful at);
    }
  where
    by : (b : ℕ) → WaitsNowhere plan past b → count_by (is_of b) (map (notify_submission v) (list_at v.groups.notify k)) ≡ 0
    by b none =
        ⊎_elim
        (λ (low : k < length plan.objects). ap (count_by (is_of b)) (ties.notify k) ∙ not_at_group plan past b k none low)
        (λ (high : length plan.objects ≤ k).
        let long = fit.notify in
        ap (λ l. count_by (is_of b) (map (notify_submission v) l)) (get_or_past v.groups.notify.lists k [] (omega (arith, high, long))))
        (cases_lt k (length plan.objects))

-- what is registered is told as the history has it
now_told : (v : MachineView) (blocks : ℕ → Obj) (k : ℕ) (act : Option Act) → ((b : ℕ) → (block_at v b).home ≡ homed b act (blocks b)) → map (notify_submission v) (told_by k act) ≡ registered k act
now_told v blocks k (Some (Notify g q b)) homes =
    let home : (block_at v b.0).home ≡ q = homes b.0 ∙ ap (λ t. cond t q (blocks b.0)) (eq-eqb b.0 b.0 refl) in
    elim (g.0 == k) as (λ t. map (notify_submission v) (cond t ((b, false) ∷ []) []) ≡ cond t (on_node q b false) []) [
      | true ↦ ap (λ s. s ∷ []) (told_eq (b, false) (block_at v b.0).home q home)
      | false ↦ refl
    ]
now_told v blocks k _ homes = refl

-- ## When groups were empty

empty_by : (now was new old len p : ℕ) (above : Bool) → p < suc len → old ≤ len → ((now ≡ 0 → ⊥) → new ≡ cond (was == 0) len old) → (p < len → (was == 0 || leb (p + 1) old) ≡ above) → (len ≤ p → above ≡ false)
    → (now == 0 || leb (p + 1) new) ≡ ((ltb p (suc len) && now == 0) || above)
empty_by now was new old len p above low few stays before beyond =
    ⊎_elim
    (λ (zero_now : now ≡ 0).
    let t = eq-eqb now 0 zero_now in
    ap (λ u. u || leb (p + 1) new) t ∙ sym (ap (λ u. (u && now == 0) || above) (lt-ltb p (suc len) low) ∙ ap (λ u. u || above) t))
    (λ (some : now ≡ 0 → ⊥).
    let t = ne_eqb now 0 some in
    let right : ((ltb p (suc len) && now == 0) || above) ≡ above = ap (λ u. (ltb p (suc len) && u) || above) t ∙ ap (λ u. u || above) (off (ltb p (suc len))) in
    let is = stays some in
    ap (λ u. u || leb (p + 1) new) t
    ∙ (⊎_elim
    (λ (early : p < len).
    ⊎_elim
    (λ (empty : was ≡ 0).
    let z = eq-eqb was 0 empty in
    let at : new ≡ len = is ∙ ap (λ u. cond u len old) z in
    le-leb (p + 1) new (omega (arith, early, at)) ∙ (sym (ap (λ u. u || leb (p + 1) old) z) ∙ before early))
    (λ (full : was ≡ 0 → ⊥).
    let z = ne_eqb was 0 full in
    ap (leb (p + 1)) (is ∙ ap (λ u. cond u len old) z) ∙ (sym (ap (λ u. u || leb (p + 1) old) z) ∙ before early))
    (cases_eq was 0))
    (λ (late : len ≤ p).
    let few_now : new ≤ len = elim (was == 0) as (λ u. new ≡ cond u len old → new ≤ len) [ true ↦ λ k. omega (arith, k) | false ↦ λ k. omega (arith, k, few) ] is in
    false_from_ne_true (leb (p + 1) new) (λ h. let l = leb-true (p + 1) new h in absurd (omega (arith, l, few_now, late)))
    ∙ sym (beyond late))
    (cases_lt p len)
    ∙ sym right))
    (cases_eq now 0)
  where
    off : (x : Bool) → (x && false) ≡ false
    off true = refl
    off false = refl

-- ## The step

mapped : (v : MachineView) (n : ℕ) (xs ys : List (Blk × Bool)) → map (notify_submission v) (cond (n == 0) [] (xs ++ ys)) ≡ cond (n == 0) [] (map (notify_submission v) xs ++ map (notify_submission v) ys)
mapped v n xs ys = elim (n == 0) as (λ t. map (notify_submission v) (cond t [] (xs ++ ys)) ≡ cond t [] (map (notify_submission v) xs ++ map (notify_submission v) ys)) [ true ↦ refl | false ↦ map-append (notify_submission v) xs ys ]

pub groups_step : (plan : PlanView) (past : List Event) (e : Event) (v : MachineView) → IsPlan plan → IsLawful plan (e ∷ past) → PartsFit plan v → OwnFit plan v → GroupsAre plan past v → BlocksAre plan past v → v.len ≡ length past
    → GroupsAre plan (e ∷ past) (after plan v e)
groups_step plan past e v valid lawful fit own ties blocks long =
    let next = counts_step plan past e v valid lawful fit own (counts_of plan past v ties) blocks in
    let wide = own.blocks in
    let homes : (b : ℕ) → home_of (after plan v e).blocks b ≡ homed b (act_of plan e) (home_of v.blocks b) = λ b. homes_after plan v e b (registers_at plan e (length v.blocks) valid wide) in
    record {
      counts = next.counts;
      entered = next.entered;
      empty = λ g p low.
          let m = moves_at plan past e v g valid lawful fit own ties blocks long in
          let few = ties.emptied g in
          let c = next.counts g in
          ap (λ n. n == 0 || leb (p + 1) (emptied_at (groups_after plan v e) g)) c
          ∙ empty_by (count plan (e ∷ past) g) (count_at v.groups g) (emptied_at (groups_after plan v e) g) (emptied_at v.groups g) (length past) p (is_empty_above plan past g p) low few
          (λ some. m.stays (λ z. some (sym c ∙ z)) ∙ ap (λ n. cond (count_at v.groups g == 0) n (emptied_at v.groups g)) long)
          (ties.empty g p)
          (none_above plan past g p);
      emptied = λ g. let m = (moves_at plan past e v g valid lawful fit own ties blocks long).low in omega (arith, m, long);
      notify = λ k.
          let m = moves_at plan past e v k valid lawful fit own ties blocks long in
          ap (map (notify_submission (after plan v e))) m.list
          ∙ (mapped (after plan v e) (count_at (groups_after plan v e) k) (list_at v.groups.notify k) (told_by k (act_of plan e))
          ∙ (ap (λ n. cond (n == 0) [] (map (notify_submission (after plan v e)) (list_at v.groups.notify k) ++ map (notify_submission (after plan v e)) (told_by k (act_of plan e)))) (next.counts k)
          ∙ (ap (λ l. cond (count plan (e ∷ past) k == 0) [] (l ++ map (notify_submission (after plan v e)) (told_by k (act_of plan e)))) (told_as_before plan e v (act_of plan e) (list_at v.groups.notify k) homes (lacks_at plan past e v k valid lawful fit ties) ∙ ties.notify k)
          ∙ ap (λ l. cond (count plan (e ∷ past) k == 0) [] (notify_blocks plan past k ++ l)) (now_told (after plan v e) (home_of v.blocks) k (act_of plan e) homes))));
      fired = λ k. (moves_at plan past e v k valid lawful fit own ties blocks long).due;
    }
