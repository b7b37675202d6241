use Rattle.std.proofs.Common.{ap, ◌∙◌, ◌-◌, length}
use Rattle.std.specs.List.{find, range_with_len}
use Rattle.gcd_refinement.specs.MachineView.{MachineView, live_at}
use Rattle.gcd_machine.proofs.Views.Calls.{next_live_stands}
use Rattle.gcd_machine.proofs.machine.Machine.next_live_feed.Goals as goal

pub returns : goal.returns
returns c = λ plan h stands.
    c.next_live_feed.ensures
    ∙ (ap (λ (m : MachineView). find (live_at m) (range_with_len c.args.from (length m.live - c.args.from))) c.self.view_is ∙ next_live_stands c.args.self.now plan h c.args.from stands)
