use Rattle.std.proofs.lemmas.Result.{IfOk-weaker}
use Rattle.gcd_journal.proofs.TotalsOf.{without_sources}
use Rattle.gcd_journal.proofs.totals.totals_by.Goals as goal

pub returns-then-not-has_source : goal.returns-then-not-has_source
returns-then-not-has_source c =
    IfOk-weaker c.no_totals.result _ _
    (λ totals is.
    without_sources c.args.plan.now c.args.events.now totals.items c.objects.ensures.valid c.requires.lawful (c.has_source.ensures.none c.if-not-has_source.true)
    (rw c.objects.ensures.count at is))
    c.no_totals.ensures
