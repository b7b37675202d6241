use Rattle.std.proofs.lemmas.Result.{err_from_is_err_and}
use Rattle.gcd_script.proofs.Kept.{kept}
use Rattle.gcd_script.proofs.draft.Draft.submitted_for.Goals as goal

pub returns-in_err-group : goal.returns-in_err-group
returns-in_err-group c =
    let p = err_from_is_err_and c.from_residual.result c.from_residual.ensures.1 in
    rw (p.1, p.2) (kept _ _ _ (rw (c.object-2.ensures, c.both-submitted.ensures, c.object.ensures, c.block.ensures) at c.in_err-group.ensures))
