use Rattle.std.proofs.Common.{nat_lt, Bool, Some, not, ap, sym, subst, ◌∙◌}
use Rattle.std.proofs.lemmas.Option.{none-some}
use Rattle.gcd_plan.specs.declared.numbers.Run.TheVariants.{Block}
use Rattle.gcd_tree.specs.TreeView.{open_beneath_at}
use Rattle.gcd_refinement.specs.MachineView.{MachineView}
use Rattle.gcd_machine.specs.Chosen.{idle_choice_at}
use Rattle.gcd_machine.proofs.Choice.Slow.{Begins, idle_begins, chosen_slow, slow_beside, slow_begun, start_of}
use Rattle.gcd_machine.proofs.registers.Registers.start_due.Goals as goal

abbrev is_open : MachineView → Bool
is_open m = nat_lt 0 (open_beneath_at m.tree 0)

pub returns-then-any_open : goal.returns-then-any_open
returns-then-any_open c = λ e chosen.
    let m = c.args.self.now in
    let beside = sym (ap is_open c.self.view_is) ∙ (sym c.any_open.ensures.open ∙ c.if-any_open.true) in
    slow_beside m c.args.worker e (subst (Begins c.args.worker) chosen (idle_begins m c.args.worker)) beside

pub returns-in-Some-Block : goal.returns-in-Some-Block
returns-in-Some-Block c =
    let m = c.args.self.now in
    let w = c.args.worker in
    let b = c.in-Some-Block.blk in
    let chosen = sym c.idle_choice.ensures ∙ c.in_ok-e.was in
    let begin = subst (Begins w) chosen (idle_begins m w) in
    let start = start_of w c.in_ok-e.e b begin (sym c.begun.ensures ∙ (c.in-Some-Block.is ∙ ap Some c.in-Some-Block.field-0-is)) in
    record {
      chosen_is = chosen ∙ ap Some start;
      quick = ap not (sym (ap is_open c.self.view_is) ∙ (sym c.any_open.ensures.open ∙ c.if-any_open.false));
    }

pub returns-in-None : goal.returns-in-None
returns-in-None c =
    let m = c.args.self.now in
    let w = c.args.worker in
    let chosen = sym c.idle_choice.ensures ∙ c.in_ok-e.was in
    let begin = subst (Begins w) chosen (idle_begins m w) in
    chosen_slow m (idle_choice_at m w 0) c.in_ok-e.e chosen (slow_begun m w c.in_ok-e.e begin (λ b is. none-some (Block b) (sym (sym is ∙ (sym c.begun.ensures ∙ c.in-None.is)))))
