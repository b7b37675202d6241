use Rattle.std.proofs.Common.{◌/◌, ℕ, ap, refl}
use Rattle.gcd_commands.proofs.Hears.{ran_beside}
use Rattle.gcd_commands.proofs.front.run_beside_senders.Goals as goal

pub returns-clause-ran : goal.returns-clause-ran
returns-clause-ran g c =
    let blocks = c.args.senders.blocks in
    ran_beside _ blocks c.args.senders.count _ _ c.in_ok-ran.ran c.requires.valid c.requires.intake refl c.requires.most
    (blocks / c.from.result) (ap (λ (n : ℕ). blocks / n) c.from.ensures) c.in_ok-ran.ensures.ran
