-- What is known of an event that may come next.
use Rattle.std.proofs.Common.{◌≡◌, ◌<◌, ℕ, List, length, reverse, None, Some, ap, subst, sym}
use Rattle.std.proofs.lemmas.Option.{same_Some}
use Rattle.std.proofs.lemmas.Bool.{and_parts, ltb-true}
use Rattle.gcd_plan.specs.PlanView.{PlanView}
use Rattle.gcd_plan.specs.declared.numbers.Blk.{Blk}
use Rattle.gcd_event.specs.declared.event.Event.{Event}
use Rattle.gcd_plan.specs.declared.numbers.Run.{Run}
use Rattle.gcd_plan.specs.declared.numbers.Run.TheVariants.{Block, Source}
use Rattle.gcd_event.specs.Owners.{begun}
use Rattle.gcd_event.specs.declared.event.Event.TheVariants.{Start}
use Rattle.gcd_history.specs.History.{why}
use Rattle.gcd_history.proofs.Permitted.Reasons.{allowed}
use Rattle.gcd_refinement.specs.MachineView.{MachineView}
use Rattle.gcd_machine.specs.Stands.{StandsFor}
use Rattle.gcd_machine.proofs.Views.Calls.{plan_stands}

-- a block that may start is one of the machine's plan
start_is_known : (m : MachineView) (plan : PlanView) (h : List Event) (w : ℕ) (b : Blk) → StandsFor m plan h → why plan h (Start w b) ≡ None → b.0 < length m.plan.blocks
unfolding why
start_is_known m plan h w b stands may =
    subst (λ (p : PlanView). b.0 < length p.blocks) (sym (plan_stands m plan h stands)) (ltb-true _ _ (and_parts _ _ (allowed plan (reverse h) (Start w b) may).known).1)

block_of : Blk → Run → Blk
block_of b (Block c) = c
block_of b (Source s) = b

same_block : (b c : Blk) → Some (Block b) ≡ Some (Block c) → b ≡ c
unfolding block_of
same_block b c is = ap (block_of b) (same_Some (Block b) (Block c) is)

-- so is a block whose run an event begins that may come next
pub begun_is_known : (m : MachineView) (plan : PlanView) (h : List Event) (e : Event) (b : Blk) → StandsFor m plan h → why plan h e ≡ None → begun e ≡ Some (Block b) → b.0 < length m.plan.blocks
begun_is_known m plan h (Start w c) b stands may is = subst (λ (x : Blk). x.0 < length m.plan.blocks) (same_block c b is) (start_is_known m plan h w c stands may)
begun_is_known m plan h e b stands may is = absurd (cc)
