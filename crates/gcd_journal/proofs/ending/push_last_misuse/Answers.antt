use Rattle.std.proofs.Common.{◌-◌, length, subst, sym}
use Rattle.gcd_journal.specs.Spoken.{IsNamed}
use Rattle.gcd_journal.proofs.ReportLines.{last_there}
use Rattle.gcd_journal.proofs.ending.push_last_misuse.Goals as goal

pub push_misuse_line-requires : goal.push_misuse_line-requires
push_misuse_line-requires c =
    subst (IsNamed c.args.plan.now) (sym c.event.ensures.exact)
    (c.requires (length c.args.events.now - 1) c.in-Some.e.now (last_there c.args.events.now (length c.args.events.now - 1) c.in-Some.e c.in-Some.ensures.value)).named
