-- A group that is left: its notify blocks are submitted, and who sleeps there may wake.
use Rattle.std.proofs.Common.{◌≡◌, ℕ, zero, suc, ◌+◌, ◌<◌, ◌==◌, Bool, true, false, not, cond, List, [], ◌∷◌, ◌++◌, length, get_or, map, Option, Some, refl, ap, ◌∙◌, arith}
use Rattle.std.specs.List.{fold, list_all}
use Rattle.std.proofs.Math.Nat.{add-zero}
use Rattle.std.proofs.Math.Seq.{take-length}
use Rattle.std.proofs.lemmas.Bool.{and_parts, not-true}
use Rattle.std.proofs.lemmas.List.{get_or-set_same}
use Rattle.std.proofs.lemmas.List.Folds.{list_all-append}
use Rattle.gcd_plan.specs.PlanView.{PlanView}
use Rattle.gcd_plan.specs.declared.act.Act.{Act}
use Rattle.gcd_plan.specs.declared.act.Act.TheVariants.{Notify}
use Rattle.gcd_plan.specs.declared.numbers.Blk.{Blk}
use Rattle.gcd_plan.specs.declared.numbers.Obj.{Obj}
use Rattle.gcd_event.specs.declared.event.Event.{Event}
use Rattle.gcd_history.specs.declared.submission.Submission.{Submission}
use Rattle.gcd_history.specs.Runs.{act_of}
use Rattle.gcd_history.specs.Groups.{count}
use Rattle.gcd_history.specs.Submitted.{on_node, registered, notify_blocks}
use Rattle.gcd_lists.specs.ListsView.{list_at}
use Rattle.gcd_group.specs.GroupsView.{GroupsView, count_at, due_at, with_one_less}
use Rattle.gcd_refinement.specs.MachineView.{MachineView, idle, block_at}
use Rattle.gcd_refinement.specs.declared.progress.BlockProgress.{BlockProgress}
use Rattle.gcd_refinement.specs.Ties.{GroupsAre, notify_submission}
use Rattle.gcd_refinement.specs.Submits.{sleepers_at}
use Rattle.gcd_refinement.specs.After.{with_block, noted, with_wakeable, all_fired}
use Rattle.gcd_refinement.specs.AfterSleepers.{all_woken}
use Rattle.gcd_refinement.specs.AfterLimits.{without_limit, without_ripe}
use Rattle.gcd_machine.specs.Steps.{submitted, fired_at, all_let_go, all_fired_at, emptied}
use Rattle.gcd_machine.proofs.Steps.Activations.{all_submitted}

-- ## Homes

-- a change that keeps the homes of blocks
pub kept_home : (blocks : List BlockProgress) (b k : ℕ) (change : BlockProgress → BlockProgress) → ((x : BlockProgress) → (change x).home ≡ x.home) → (get_or (with_block blocks b change) k idle).home ≡ (get_or blocks k idle).home
kept_home [] b k change same = refl
kept_home (x ∷ xs) zero zero change same = same x
kept_home (x ∷ xs) zero (suc k) change same = refl
kept_home (x ∷ xs) (suc b) zero change same = refl
kept_home (x ∷ xs) (suc b) (suc k) change same = kept_home xs b k change same

-- the homes of the machine's blocks
abbrev pub HasHomes : MachineView → (ℕ → Obj) → Type 0
HasHomes m home = (k : ℕ) → (block_at m k).home ≡ home k

-- a submission changes none
submitted_home : (m : MachineView) (n : Obj) (b : Blk) (home : ℕ → Obj) → HasHomes m home → HasHomes (submitted m n b false) home
submitted_home m n b home homes k = kept_home m.blocks b.0 k (λ (x : BlockProgress). record x { node = Some n; barrier = false }) (λ x. refl) ∙ homes k

-- ## Notify blocks

-- a notify block goes to its home, and is no barrier
abbrev pub sent : (ℕ → Obj) → Blk × Bool → Submission
sent home w = record { blk = w.0; node = Some (home w.0.0); barrier = false }

-- all that are sent keep the homes
pub sent_homes : (blocks : List BlockProgress) (home : ℕ → Obj) (ws : List (Blk × Bool)) (k : ℕ)
    → (get_or (fold noted blocks (map (sent home) ws)) k idle).home ≡ (get_or blocks k idle).home
sent_homes blocks home [] k = refl
sent_homes blocks home (w ∷ ws) k =
    sent_homes (noted blocks (sent home w)) home ws k
    ∙ kept_home blocks w.0.0 k (λ (x : BlockProgress). record x { node = Some (home w.0.0); barrier = false }) (λ x. refl)

one_later : (a n : ℕ) → a + 1 + n ≡ a + suc n
one_later a n = omega arith

-- one after another they are submitted
pub fired_is : (m : MachineView) (home : ℕ → Obj) (ws : List (Blk × Bool)) → HasHomes m home → fold fired_at m (map (λ w. w.0) ws) ≡ all_submitted m (map (sent home) ws)
fired_is m home [] homes = simp add-zero
fired_is m home (w ∷ ws) homes =
    fired_is (fired_at m w.0) home ws (submitted_home m (block_at m w.0.0).home w.0 home homes)
    ∙ (ap (λ h. all_submitted (submitted m h w.0 false) (map (sent home) ws)) (homes w.0.0) ∙ rw one_later refl)

-- where all are due, all are submitted
pub all_fired_is : (m : MachineView) (g : Obj) (home : ℕ → Obj) → HasHomes m home → due_at m.groups g.0 ≡ length (list_at m.groups.notify g.0)
    → all_fired_at m g ≡ record (all_submitted m (map (sent home) (list_at m.groups.notify g.0))) { groups = all_fired m.groups g.0 }
all_fired_is m g home homes due = rw (due, take-length, fired_is m home (list_at m.groups.notify g.0) homes) refl

-- where none is due, nothing happens
pub none_fired_is : (m : MachineView) (g : Obj) → due_at m.groups g.0 ≡ 0 → all_fired_at m g ≡ m
none_fired_is m g none = rw none refl

-- ## No notify block is a barrier

registered_plain : (g : ℕ) (act : Option Act) → list_all (λ s. not s.barrier) (registered g act) ≡ true
registered_plain g (Some (Notify h q b)) =
    elim (h.0 == g) as (λ t. list_all (λ s. not s.barrier) (cond t (on_node q b false) []) ≡ true) [ true ↦ refl | false ↦ refl ]
registered_plain g _ = refl

pub notify_plain : (plan : PlanView) (past : List Event) (g : ℕ) → list_all (λ s. not s.barrier) (notify_blocks plan past g) ≡ true
notify_plain plan [] g = refl
notify_plain plan (e ∷ past) g =
    elim (count plan (e ∷ past) g == 0) as (λ t. list_all (λ s. not s.barrier) (cond t [] (notify_blocks plan past g ++ registered g (act_of plan e))) ≡ true) [
      | true ↦ refl
      | false ↦ rw (list_all-append, notify_plain plan past g, registered_plain g (act_of plan e)) refl
    ]

-- so what is told of a list of them is what is sent
pub as_sent : (home : ℕ → Obj) (v : MachineView) (ws : List (Blk × Bool)) → HasHomes v home → list_all (λ s. not s.barrier) (map (notify_submission v) ws) ≡ true → map (notify_submission v) ws ≡ map (sent home) ws
as_sent home v [] homes plain = refl
as_sent home v (w ∷ ws) homes plain =
    let parts = and_parts (not w.1) (list_all (λ s. not s.barrier) (map (notify_submission v) ws)) plain in
    let rest = as_sent home v ws homes parts.1 in
    let flag = not-true w.1 parts.0 in
    ap (λ h. to h w.0 w.1 ∷ map (notify_submission v) ws) (homes w.0.0)
    ∙ (ap (λ t. to (home w.0.0) w.0 t ∷ map (notify_submission v) ws) flag ∙ ap (λ l. sent home w ∷ l) rest)
  where
    to : Obj → Blk → Bool → Submission
    to n b t = record { blk = b; node = Some n; barrier = t }

pub told_is_sent : (plan : PlanView) (past : List Event) (v : MachineView) (g : ℕ) → GroupsAre plan past v → map (notify_submission v) (list_at v.groups.notify g) ≡ map (sent (λ k. (block_at v k).home)) (list_at v.groups.notify g)
told_is_sent plan past v g groups =
    as_sent (λ k. (block_at v k).home) v (list_at v.groups.notify g) (λ k. refl) (ap (list_all (λ s. not s.barrier)) (groups.notify g) ∙ notify_plain plan past g)

-- ## A group that is left

abbrev pub with_groups : MachineView → GroupsView → MachineView
with_groups m groups = record m { groups = groups }

-- by the last: all notify blocks are due, and all who sleep there may wake
pub emptied_is : (m : MachineView) (g : Obj) (groups : GroupsView) (home : ℕ → Obj) → HasHomes m home → due_at groups g.0 ≡ length (list_at groups.notify g.0)
    → emptied (with_groups m groups) g ≡ record (all_submitted m (map (sent home) (list_at groups.notify g.0))) {
      groups = all_fired groups g.0;
      sleepers = all_woken m.sleepers (Some g);
      wakeable = fold with_wakeable m.wakeable (sleepers_at m (Some g));
      ahead = fold without_limit m.ahead (sleepers_at m (Some g));
      ripe = fold without_ripe m.ripe (sleepers_at m (Some g));
    }
emptied_is m g groups home homes due = all_fired_is (all_let_go (with_groups m groups) g) g home homes due

-- what is due once the last has left
pub due_at_last : (groups : GroupsView) (g at : ℕ) → (count_at groups g == 1) ≡ true → g < length groups.due → due_at (with_one_less groups g at) g ≡ length (list_at groups.notify g)
due_at_last groups g at one low = rw one (get_or-set_same groups.due g (length (list_at groups.notify g)) 0 low)
