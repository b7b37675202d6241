use Rattle.std.proofs.Common.{◌≡◌, ◌∙◌, ℕ, Some, ap, refl, sym}
use Rattle.gcd_script.specs.Causes.{cause_code}
use Rattle.gcd_commands.specs.Loads.StopsScript.{refused}
use Rattle.gcd_commands.proofs.load.load_plan.Goals as goal

pub returns-in-Err-Refused-clause-stopped : goal.returns-in-Err-Refused-clause-stopped
returns-in-Err-Refused-clause-stopped g c =
    let fault = rw (c.deref.ensures.value, c.in-Err-Refused.field-0-is) at c.in-Err-Refused.ensures.refused in
    let own = rw (c.in-Err-Refused.field-0-is) at c.in-Err-Refused.ensures.cause in
    refused c.in_ok-script.script.items c.in-Err-Refused.line c.in-Err-Refused.cause c.in_ok-script.ensures.loaded
    (fault ∙ ap (λ (code : ℕ). Some (c.in-Err-Refused.line, code)) (sym own)) refl
