-- Truth values.
use Rattle.std.proofs.Common.{◌≡◌, Bool, true, false, true≢false, sym, ◌∙◌}

-- no test both passes and fails
pub not_both : {A : Type 0} {b : Bool} → b ≡ true → b ≡ false → A
not_both t f = absurd (true≢false (sym t ∙ f))
