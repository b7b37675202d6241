use Rattle.std.proofs.lemmas.Result.{err_from_is_err_and}
use Rattle.gcd_script.proofs.Kept.{kept}
use Rattle.gcd_script.proofs.draft.Draft.named_strip.Goals as goal

pub returns-in_err-how : goal.returns-in_err-how
returns-in_err-how c =
    let p = err_from_is_err_and c.from_residual.result c.from_residual.ensures.1 in
    rw (p.1, p.2) (kept _ _ _ (rw (c.new_name.ensures, c.strip_parts-what.ensures) at c.in_err-how.ensures))
