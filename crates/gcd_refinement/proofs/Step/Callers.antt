-- Who waits for the end of each block after an event.
use Rattle.std.proofs.Common.{◌≡◌, ⊎_elim, ℕ, ◌+◌, ◌<◌, ◌≤◌, ◌==◌, Bool, true, false, cond, List, length, set, get_or, Option, Some, None, refl, ap, sym, ◌∙◌, subst, arith, eq-eqb, ne_eqb}
use Rattle.std.specs.List.{slice_index_or}
use Rattle.std.specs.Option.{option_or}
use Rattle.std.proofs.Math.ListN.{get_or-eq_default}
use Rattle.std.proofs.lemmas.Bool.{cases_eq, cases_lt, and_parts}
use Rattle.std.proofs.lemmas.List.{length-set, get_or-set_same, get_or-set_other}
use Rattle.gcd_plan.specs.PlanView.{PlanView}
use Rattle.gcd_plan.specs.Kinds.{is_queue}
use Rattle.gcd_plan.specs.Validity.{IsPlan, is_act, is_declared}
use Rattle.gcd_plan.specs.declared.act.Act.{Act}
use Rattle.gcd_plan.specs.declared.act.Act.TheVariants.{Sync, BarrierSync, GroupAsync, Notify, NotifyBlock}
use Rattle.gcd_plan.specs.declared.numbers.Blk.{Blk}
use Rattle.gcd_plan.specs.declared.numbers.Run.TheVariants.{Block, Source}
use Rattle.gcd_plan.proofs.Within.{declared_within}
use Rattle.gcd_event.specs.declared.event.Event.{Event}
use Rattle.gcd_event.specs.declared.event.Event.TheVariants.{Start, Act as Acted}
use Rattle.gcd_history.specs.Runs.{act_at}
use Rattle.gcd_history.proofs.Blocks.SubmittedOnNodes.{act_fits}
use Rattle.gcd_refinement.specs.MachineView.{MachineView, idle}
use Rattle.gcd_refinement.specs.declared.progress.BlockProgress.{BlockProgress}
use Rattle.gcd_refinement.specs.Shape.{OwnFit}
use Rattle.gcd_refinement.specs.Sleepers.{called_by, calls, caller_of}
use Rattle.gcd_refinement.specs.Ties.{BlocksAre}
use Rattle.gcd_refinement.specs.After.{with_block, arranged, called, blocks_by}

-- ## Writes

-- where the change leaves a word as it is, so does the write
pub write_keeps : {X : Type 0} (word : BlockProgress → X) (blocks : List BlockProgress) (i b : ℕ) (change : BlockProgress → BlockProgress) → ((x : BlockProgress) → word (change x) ≡ word x)
    → word (slice_index_or (with_block blocks i change) b idle) ≡ word (slice_index_or blocks b idle)
write_keeps word blocks i b change same =
    ⊎_elim
    (λ (here : i ≡ b).
    ⊎_elim
    (λ (low : i < length blocks).
    subst (λ k. word (get_or (set blocks i (change (get_or blocks i idle))) k idle) ≡ word (get_or blocks k idle)) here
    (ap word (get_or-set_same blocks i (change (get_or blocks i idle)) idle low) ∙ same (get_or blocks i idle)))
    (λ (high : length blocks ≤ i).
    let long = length-set blocks i (change (get_or blocks i idle)) in
    ap word (get_or-eq_default (set blocks i (change (get_or blocks i idle))) idle (omega (arith, high, long, here)) ∙ sym (get_or-eq_default blocks idle (omega (arith, high, here)))))
    (cases_lt i (length blocks)))
    (λ (other : i ≡ b → ⊥). ap word (get_or-set_other blocks i b (change (get_or blocks i idle)) idle (λ e. other (sym e))))
    (cases_eq i b)

-- and where it makes it x, that is what stands there
pub write_sets : {X : Type 0} (word : BlockProgress → X) (blocks : List BlockProgress) (i b : ℕ) (change : BlockProgress → BlockProgress) (x : X) → i < length blocks → ((y : BlockProgress) → word (change y) ≡ x)
    → word (slice_index_or (with_block blocks i change) b idle) ≡ cond (i == b) x (word (slice_index_or blocks b idle))
write_sets word blocks i b change x low sets =
    ⊎_elim
    (λ (here : i ≡ b).
    subst (λ k. word (get_or (set blocks i (change (get_or blocks i idle))) k idle) ≡ cond (i == k) x (word (get_or blocks k idle))) here
    (ap word (get_or-set_same blocks i (change (get_or blocks i idle)) idle low) ∙ (sets (get_or blocks i idle) ∙ ap (λ u. cond u x (word (get_or blocks i idle))) (sym (eq-eqb i i refl)))))
    (λ (other : i ≡ b → ⊥).
    ap word (get_or-set_other blocks i b (change (get_or blocks i idle)) idle (λ e. other (sym e))) ∙ ap (λ u. cond u x (word (get_or blocks b idle))) (sym (ne_eqb i b other)))
    (cases_eq i b)

-- ## The caller

abbrev caller_at : List BlockProgress → ℕ → Option Blk
caller_at blocks b = (slice_index_or blocks b idle).caller

arranged_keep : (blocks : List BlockProgress) (act : Option Act) (b : ℕ) → caller_at (arranged blocks act) b ≡ caller_at blocks b
arranged_keep blocks (Some (GroupAsync g q c)) b = write_keeps (λ x. x.caller) blocks c.0 b (λ x. record x { group = Some g }) (λ x. refl)
arranged_keep blocks (Some (Notify g q c)) b = write_keeps (λ x. x.caller) blocks c.0 b (λ x. record x { home = q }) (λ x. refl)
arranged_keep blocks (Some (NotifyBlock d q c)) b = write_keeps (λ x. x.caller) blocks c.0 b (λ x. record x { home = q }) (λ x. refl)
arranged_keep blocks _ b = refl

or_cond : (t : Bool) (d : Blk) (o : Option Blk) → cond t (Some d) o ≡ option_or (cond t (Some d) None) o
or_cond true d o = refl
or_cond false d o = refl

called_at : (plan : PlanView) (blocks : List BlockProgress) (d : Blk) (act : Option Act) (c : ℕ) → length blocks ≡ length plan.blocks → ((a : Act) → act ≡ Some a → is_act plan a ≡ true)
    → caller_at (called blocks d act) c ≡ option_or (called_by c d act) (caller_at blocks c)
called_at plan blocks d (Some (Sync q k)) c long fits =
    let low = declared_within plan k (and_parts (is_queue plan q.0) (is_declared plan k) (fits (Sync q k) refl)).1 in
    write_sets (λ x. x.caller) blocks k.0 c (λ x. record x { caller = Some d }) (Some d) (omega (arith, low, long)) (λ x. refl) ∙ or_cond (k.0 == c) d (caller_at blocks c)
called_at plan blocks d (Some (BarrierSync q k)) c long fits =
    let low = declared_within plan k (and_parts (is_queue plan q.0) (is_declared plan k) (fits (BarrierSync q k) refl)).1 in
    write_sets (λ x. x.caller) blocks k.0 c (λ x. record x { caller = Some d }) (Some d) (omega (arith, low, long)) (λ x. refl) ∙ or_cond (k.0 == c) d (caller_at blocks c)
called_at plan blocks d _ c long fits = refl

caller_by : (plan : PlanView) (past : List Event) (e : Event) (v : MachineView) (c : ℕ) → IsPlan plan → OwnFit plan v → BlocksAre plan past v → caller_at (blocks_by plan v e) c ≡ option_or (calls plan c e) (caller_of plan past c)
caller_by plan past (Start w b) v c valid own blocks =
    write_keeps (λ x. x.caller) v.blocks b.0 c (λ x. record x { started = true }) (λ x. refl) ∙ blocks.caller c
caller_by plan past (Acted w (Block b) i) v c valid own blocks =
    let act = act_at plan (Block b) i in
    let made = with_block v.blocks b.0 (λ x. record x { done = x.done + 1 }) in
    arranged_keep (called made b act) act c
    ∙ (called_at plan made b act c (length-set v.blocks b.0 _ ∙ own.blocks) (λ a at. act_fits plan (Block b) i a valid at)
    ∙ ap (option_or (called_by c b act)) (write_keeps (λ x. x.caller) v.blocks b.0 c (λ x. record x { done = x.done + 1 }) (λ x. refl) ∙ blocks.caller c))
caller_by plan past (Acted w (Source s) i) v c valid own blocks = arranged_keep v.blocks (act_at plan (Source s) i) c ∙ blocks.caller c
caller_by plan past e v c valid own blocks = blocks.caller c
