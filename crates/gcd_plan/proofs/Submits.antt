-- The blocks that an act submits, one by one.
use Rattle.std.proofs.Common.{◌≡◌, ℕ, ◌==◌, false, cond, ◌||◌, List, [], ◌++◌, Option, None, Some, refl, ap, sym, ◌∙◌, zero-add}
use Rattle.std.specs.List.{count_by, slice_get}
use Rattle.std.specs.Option.{option_map_or, option_to_list}
use Rattle.std.proofs.Math.Bool.{or-false}
use Rattle.std.proofs.lemmas.Option.{none-some}
use Rattle.gcd_plan.specs.declared.act.Act.{Act}
use Rattle.gcd_plan.specs.declared.act.Act.TheVariants.{Async, Barrier, Sync, BarrierSync, GroupAsync, Notify, Enter, Leave, GroupWait, GroupWaitFor, Signal, Wait, WaitFor, Suspend, Resume, Activate, Target, Merge, Cancel, Retain, Release, Apply, CancelBlock, WaitBlock, NotifyBlock}
use Rattle.gcd_plan.specs.declared.numbers.Blk.{Blk}
use Rattle.gcd_plan.specs.Checked.{submits}
use Rattle.gcd_plan.specs.Made.{is_within, blocks_in, strip_span, strip_blocks, is_of_strip}
use Rattle.gcd_plan.specs.PlanView.{PlanView, StripView}
use Rattle.gcd_plan.specs.Validity.{block_of, strip_of, blocks_by, blocks_of}
use Rattle.gcd_plan.proofs.MadeBlocks.{counted_in_span}
use Rattle.gcd_plan.proofs.Sums.{count_by-flat_map, sum_by_agree}

-- an act that submits a block by itself submits no strip
pub alone : (act : Act) (c : Blk) → block_of act ≡ Some c → strip_of act ≡ None
alone (Async q b) c is = refl
alone (Barrier q b) c is = refl
alone (Sync q b) c is = refl
alone (BarrierSync q b) c is = refl
alone (GroupAsync g q b) c is = refl
alone (Notify g q b) c is = refl
alone (Enter g) c is = refl
alone (Leave g) c is = refl
alone (GroupWait g) c is = refl
alone (GroupWaitFor g ms) c is = refl
alone (Signal s) c is = refl
alone (Wait s) c is = refl
alone (WaitFor s ms) c is = refl
alone (Suspend o) c is = refl
alone (Resume o) c is = refl
alone (Activate o) c is = refl
alone (Target o t) c is = refl
alone (Merge s n) c is = refl
alone (Cancel s) c is = refl
alone (Retain o) c is = refl
alone (Release o) c is = refl
alone (Apply q a) c is = cc
alone (CancelBlock b) c is = refl
alone (WaitBlock b) c is = refl
alone (NotifyBlock b q d) c is = refl

-- how often a block stands among those of a strip
pub blocks_counted : (plan : PlanView) (a b : ℕ) → count_by (λ c. c.0 == b) (strip_blocks plan a) ≡ cond (is_of_strip plan a b) 1 0
blocks_counted plan a b = of_strip (slice_get plan.strips a)
  where
    of_strip : (o : Option StripView) → count_by (λ c. c.0 == b) (option_map_or (λ s. blocks_in (strip_span s)) o [])
        ≡ cond (option_map_or (λ s. is_within b (strip_span s)) o false) 1 0
    of_strip None = refl
    of_strip (Some s) = counted_in_span (strip_span s) b

counted : (plan : PlanView) (b : ℕ) (o : Option Blk) (t : Option ℕ) → ((c : Blk) → o ≡ Some c → t ≡ None)
    → count_by (λ c. c.0 == b) (option_to_list o ++ option_map_or (strip_blocks plan) t [])
    ≡ cond (option_map_or (λ c. c.0 == b) o false || option_map_or (λ a. is_of_strip plan a b) t false) 1 0
counted plan b None None alike = refl
counted plan b None (Some a) alike = blocks_counted plan a b
counted plan b (Some c) None alike = zero-add (cond (c.0 == b) 1 0) ∙ ap (λ v. cond v 1 0) (sym (or-false (c.0 == b)))
counted plan b (Some c) (Some a) alike = absurd (none-some a (sym (alike c refl)))

-- how often an act submits a block: once or not at all
pub act_counted : (plan : PlanView) (b : ℕ) (act : Act) → count_by (λ c. c.0 == b) (blocks_by plan act) ≡ cond (submits plan b act) 1 0
act_counted plan b act = counted plan b (block_of act) (strip_of act) (alone act)

-- how often acts submit a block
pub acts_counted : (plan : PlanView) (b : ℕ) (acts : List Act) → count_by (λ c. c.0 == b) (blocks_of plan acts) ≡ count_by (submits plan b) acts
acts_counted plan b acts =
    count_by-flat_map (λ (c : Blk). c.0 == b) (blocks_by plan) acts
    ∙ sum_by_agree (λ act. count_by (λ (c : Blk). c.0 == b) (blocks_by plan act)) (λ act. cond (submits plan b act) 1 0) acts (act_counted plan b)
