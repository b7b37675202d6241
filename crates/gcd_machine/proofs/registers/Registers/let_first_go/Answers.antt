use Rattle.std.proofs.Common.{◌≡◌, Bool, List, take, map, Some, None, ap, sym, ◌∙◌}
use Rattle.std.specs.List.{slice_get}
use Rattle.gcd_plan.specs.declared.numbers.Blk.{Blk}
use Rattle.gcd_plan.specs.declared.numbers.Obj.{Obj}
use Rattle.gcd_lists.specs.ListsView.{ListsView, list_at}
use Rattle.gcd_refinement.specs.MachineView.{MachineView}
use Rattle.gcd_refinement.specs.AfterSleepers.{popped}
use Rattle.gcd_refinement.proofs.Step.NodeMarks.{none_first}
use Rattle.gcd_machine.specs.Inside.{view_of}
use Rattle.gcd_machine.specs.Steps.{all_over, first_let_go, let_go}
use Rattle.gcd_machine.proofs.Steps.GroupLoops.{first_and_rest}
use Rattle.gcd_machine.proofs.registers.Registers.let_first_go.Goals as goal

first_goes : (m : MachineView) (o : Obj) (w : Blk × Bool) → slice_get (list_at m.sleepers o.0) 0 ≡ Some w
    → let_go (record m { sleepers = popped m.sleepers (Some o) }) w.0 ≡ first_let_go m o
first_goes m o w first =
    ap (λ (ws : List (Blk × Bool)). record (all_over m (take 1 (map (λ v. v.0) ws))) { sleepers = popped m.sleepers (Some o) })
    (sym (first_and_rest (list_at m.sleepers o.0) w first))

pub returns-in-Some : goal.returns-in-Some
returns-in-Some c =
    let m = view_of c.self.inside in
    c.let_go.ensures
    ∙ (ap (λ (s : ListsView). let_go (record m { sleepers = s }) c.in-Some.blk) c.pop.ensures.rest
    ∙ (first_goes m c.args.o _ (sym c.pop.ensures.value ∙ c.in-Some.is) ∙ ap (λ (v : MachineView). first_let_go v c.args.o) c.self.view_is))

none_goes : (m : MachineView) (o : Obj) → slice_get (list_at m.sleepers o.0) 0 ≡ None → record m { sleepers = popped m.sleepers (Some o) } ≡ first_let_go m o
none_goes m o none =
    ap (λ (ws : List (Blk × Bool)). record (all_over m (take 1 (map (λ v. v.0) ws))) { sleepers = popped m.sleepers (Some o) })
    (sym (none_first (list_at m.sleepers o.0) none))

pub returns-in_default : goal.returns-in_default
returns-in_default c =
    let m = view_of c.self.inside in
    ap (λ (s : ListsView). record m { sleepers = s }) c.pop.ensures.rest
    ∙ (none_goes m c.args.o (sym c.pop.ensures.value ∙ c.in_default.is) ∙ ap (λ (v : MachineView). first_let_go v c.args.o) c.self.view_is)
