use Rattle.std.proofs.lemmas.Result.{err_from_is_err_and}
use Rattle.gcd_script.proofs.Kept.{kept}
use Rattle.gcd_script.proofs.draft.Draft.noted.Goals as goal

pub returns-in_err-awaited : goal.returns-in_err-awaited
returns-in_err-awaited c =
    let p = err_from_is_err_and c.from_residual.result c.from_residual.ensures.1 in
    rw (p.1, p.2) (kept _ _ _ (rw (c.block-2.ensures, c.both-submitted.ensures, c.object.ensures, c.block.ensures) at c.in_err-awaited.ensures))
