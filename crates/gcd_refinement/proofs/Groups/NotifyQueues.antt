-- To which queue a notify block goes: only its registration says it.
use Rattle.std.proofs.Common.{◌≡◌, ℕ, zero, suc, ◌+◌, ◌<◌, ◌==◌, true, false, cond, List, [], ◌∷◌, length, get_or, Option, Some, refl, ap, sym, ◌∙◌, subst}
use Rattle.std.specs.List.{fold}
use Rattle.std.proofs.lemmas.List.{length-set}
use Rattle.gcd_plan.specs.PlanView.{PlanView}
use Rattle.gcd_plan.specs.declared.act.Act.{Act}
use Rattle.gcd_plan.specs.declared.act.Act.TheVariants.{Sync, BarrierSync, GroupAsync, Notify, NotifyBlock}
use Rattle.gcd_plan.specs.declared.numbers.Blk.{Blk}
use Rattle.gcd_plan.specs.declared.numbers.Obj.{Obj}
use Rattle.gcd_plan.specs.declared.numbers.Run.{Run}
use Rattle.gcd_plan.specs.declared.numbers.Run.TheVariants.{Block, Source}
use Rattle.gcd_event.specs.declared.event.Event.{Event}
use Rattle.gcd_event.specs.declared.event.Event.TheVariants.{Start, Act as Acted}
use Rattle.gcd_history.specs.declared.submission.Submission.{Submission}
use Rattle.gcd_history.specs.Runs.{act_at, act_of}
use Rattle.gcd_refinement.specs.MachineView.{MachineView, idle}
use Rattle.gcd_refinement.specs.declared.progress.BlockProgress.{BlockProgress}
use Rattle.gcd_refinement.specs.Submits.{submits}
use Rattle.gcd_refinement.specs.After.{with_block, noted, arranged, called, counted, blocks_by, blocks_after}
use Rattle.gcd_refinement.proofs.Lists.Writes.{entry_set}

abbrev pub home_of : List BlockProgress → ℕ → Obj
home_of blocks k = (get_or blocks k idle).home

kept_home : (blocks : List BlockProgress) (b k : ℕ) (change : BlockProgress → BlockProgress) → ((x : BlockProgress) → (change x).home ≡ x.home) → home_of (with_block blocks b change) k ≡ home_of blocks k
kept_home [] b k change same = refl
kept_home (x ∷ xs) zero zero change same = same x
kept_home (x ∷ xs) zero (suc k) change same = refl
kept_home (x ∷ xs) (suc b) zero change same = refl
kept_home (x ∷ xs) (suc b) (suc k) change same = kept_home xs b k change same

noted_home : (subs : List Submission) (blocks : List BlockProgress) (k : ℕ) → home_of (fold noted blocks subs) k ≡ home_of blocks k
noted_home [] blocks k = refl
noted_home (s ∷ subs) blocks k =
    noted_home subs (noted blocks s) k ∙ kept_home blocks s.blk.0 k (λ (x : BlockProgress). record x { node = s.node; barrier = s.barrier }) (λ x. refl)

called_home : (blocks : List BlockProgress) (b : Blk) (act : Option Act) (k : ℕ) → home_of (called blocks b act) k ≡ home_of blocks k
called_home blocks b (Some (Sync q c)) k = kept_home blocks c.0 k (λ (x : BlockProgress). record x { caller = Some b }) (λ x. refl)
called_home blocks b (Some (BarrierSync q c)) k = kept_home blocks c.0 k (λ (x : BlockProgress). record x { caller = Some b }) (λ x. refl)
called_home blocks b _ k = refl

pub called_long : (blocks : List BlockProgress) (b : Blk) (act : Option Act) → length (called blocks b act) ≡ length blocks
called_long blocks b (Some (Sync q c)) = length-set blocks c.0 (record (get_or blocks c.0 idle) { caller = Some b })
called_long blocks b (Some (BarrierSync q c)) = length-set blocks c.0 (record (get_or blocks c.0 idle) { caller = Some b })
called_long blocks b _ = refl

counted_home : (blocks : List BlockProgress) (run : Run) (act : Option Act) (k : ℕ) → home_of (counted blocks run act) k ≡ home_of blocks k
counted_home blocks (Block b) act k =
    called_home (with_block blocks b.0 (λ (x : BlockProgress). record x { done = x.done + 1 })) b act k ∙ kept_home blocks b.0 k (λ (x : BlockProgress). record x { done = x.done + 1 }) (λ x. refl)
counted_home blocks (Source s) act k = refl

pub counted_long : (blocks : List BlockProgress) (run : Run) (act : Option Act) → length (counted blocks run act) ≡ length blocks
counted_long blocks (Block b) act =
    called_long (with_block blocks b.0 (λ (x : BlockProgress). record x { done = x.done + 1 })) b act ∙ length-set blocks b.0 (record (get_or blocks b.0 idle) { done = (get_or blocks b.0 idle).done + 1 })
counted_long blocks (Source s) act = refl

-- the queue of block k after the act
abbrev pub homed : ℕ → Option Act → Obj → Obj
homed k (Some (Notify g q c)) h = cond (c.0 == k) q h
homed k (Some (NotifyBlock b q c)) h = cond (c.0 == k) q h
homed k _ h = h

-- the block that the act registers is below n
pub record Registers (act : Option Act) (n : ℕ) : Type 0 where
  pub at_group : (g q : Obj) (c : Blk) → act ≡ Some (Notify g q c) → c.0 < n
  pub at_block : (b : Blk) (q : Obj) (c : Blk) → act ≡ Some (NotifyBlock b q c) → c.0 < n

arranged_home : (blocks : List BlockProgress) (act : Option Act) (k : ℕ) → Registers act (length blocks) → home_of (arranged blocks act) k ≡ homed k act (home_of blocks k)
arranged_home blocks (Some (GroupAsync g q c)) k low = kept_home blocks c.0 k (λ (x : BlockProgress). record x { group = Some g }) (λ x. refl)
arranged_home blocks (Some (Notify g q c)) k low =
    ap (λ (x : BlockProgress). x.home) (entry_set blocks c.0 k (record (get_or blocks c.0 idle) { home = q }) idle (low.at_group g q c refl))
    ∙ elim (c.0 == k) as (λ v. (cond v (record (get_or blocks c.0 idle) { home = q }) (get_or blocks k idle)).home ≡ cond v q (home_of blocks k)) [ true ↦ refl | false ↦ refl ]
arranged_home blocks (Some (NotifyBlock b q c)) k low =
    ap (λ (x : BlockProgress). x.home) (entry_set blocks c.0 k (record (get_or blocks c.0 idle) { home = q }) idle (low.at_block b q c refl))
    ∙ elim (c.0 == k) as (λ v. (cond v (record (get_or blocks c.0 idle) { home = q }) (get_or blocks k idle)).home ≡ cond v q (home_of blocks k)) [ true ↦ refl | false ↦ refl ]
arranged_home blocks _ k low = refl

homes_by : (plan : PlanView) (v : MachineView) (e : Event) (k : ℕ) → Registers (act_of plan e) (length v.blocks) → home_of (blocks_by plan v e) k ≡ homed k (act_of plan e) (home_of v.blocks k)
homes_by plan v (Start w b) k low = kept_home v.blocks b.0 k (λ (x : BlockProgress). record x { started = true }) (λ x. refl)
homes_by plan v (Acted w run i) k low =
    arranged_home (counted v.blocks run (act_at plan run i)) (act_at plan run i) k (subst (Registers (act_at plan run i)) (sym (counted_long v.blocks run (act_at plan run i))) low)
    ∙ ap (homed k (act_at plan run i)) (counted_home v.blocks run (act_at plan run i) k)
homes_by plan v e k low = refl

pub homes_after : (plan : PlanView) (v : MachineView) (e : Event) (k : ℕ) → Registers (act_of plan e) (length v.blocks)
    → home_of (blocks_after plan v e) k ≡ homed k (act_of plan e) (home_of v.blocks k)
homes_after plan v e k low = noted_home (submits plan v e) (blocks_by plan v e) k ∙ homes_by plan v e k low
