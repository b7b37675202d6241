use Rattle.std.proofs.Common.{rules, ap}
use Rattle.gcd_front.specs.Views.{MouthView}
use Rattle.gcd_commands.specs.declared.front_job.Told.{Told}
use Rattle.gcd_commands.proofs.Sending.{all_open, have_sent}
use Rattle.gcd_commands.proofs.senders.SharesCallersTold.call.Goals as goal

pub send_each-requires-after_bounds : goal.send_each-requires-after_bounds
send_each-requires-after_bounds g c κs within = all_open c.args.front.now c.args.mouths.now c.requires.new c.requires.mouths

pub returns-clause-senders : goal.returns-clause-senders
returns-clause-senders g c = λ k d low. ap (λ (m : MouthView Told). m.sender) (c.send_each.ensures k d low)

pub returns-clause-called : goal.returns-clause-called
returns-clause-called g c =
    have_sent c.args.front.now c.args.mouths.now c.requires.new c.args.self.now.share c.send_each.new.mouths (search rules) c.send_each.ensures
