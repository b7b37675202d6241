use Rattle.std.proofs.Common.{rules}
use Rattle.gcd_front.proofs.Noting.{opens}
use Rattle.gcd_front.proofs.notes.open_notes.Goals as goal

pub vacant-requires : goal.vacant-requires
vacant-requires g c = opens _ c.args.senders _ (search rules)
