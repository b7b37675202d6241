use Rattle.std.proofs.lemmas.Result.{err_from_is_err_and}
use Rattle.gcd_script.proofs.Kept.{kept}
use Rattle.gcd_script.proofs.draft.Draft.intake_of.Goals as goal

pub returns-in_err-queue : goal.returns-in_err-queue
returns-in_err-queue c =
    let p = err_from_is_err_and c.from_residual.result c.from_residual.ensures.1 in
    rw (p.1, p.2) (kept _ _ _ (rw (c.must-first.ensures, c.has_no_intake.ensures, c.both-what.ensures, c.object.ensures, c.number.ensures.value) at c.in_err-queue.ensures))
