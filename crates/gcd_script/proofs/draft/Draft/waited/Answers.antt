use Rattle.std.proofs.lemmas.Result.{err_from_is_err_and}
use Rattle.gcd_script.proofs.Kept.{kept}
use Rattle.gcd_script.proofs.draft.Draft.waited.Goals as goal

pub returns-in_err-object : goal.returns-in_err-object
returns-in_err-object c =
    let p = err_from_is_err_and c.from_residual.result c.from_residual.ensures.1 in
    rw (p.1, p.2) (kept _ _ _ (rw (c.object-object.ensures, c.asked.ensures, c.number.ensures.value) at c.in_err-object.ensures))
