-- What is known of an act that a lawful history records: it is of the plan, and no misuse.
use Rattle.std.proofs.Common.{◌≡◌, false, List, ◌∷◌, Some, is_some}
use Rattle.std.specs.List.{list_any}
use Rattle.gcd_plan.specs.PlanView.{PlanView}
use Rattle.gcd_plan.specs.declared.act.Act.{Act}
use Rattle.gcd_event.specs.declared.event.Event.{Event}
use Rattle.gcd_event.specs.declared.event.Event.TheVariants.{Act as Acted}
use Rattle.gcd_history.specs.Runs.{act_of}
use Rattle.gcd_history.specs.Misuses.{first_code, is_released, named, misuse, act_misuses}
use Rattle.gcd_history.specs.Permitted.{IsLawful}
use Rattle.gcd_history.proofs.Permitted.Reasons.{at_act}
use Rattle.gcd_history.proofs.Tree.TargetActs.{code_none, no_misuse_at}

-- the act that an event records is no misuse
pub proper : (plan : PlanView) (past : List Event) (e : Event) (act : Act) → IsLawful plan (e ∷ past) → act_of plan e ≡ Some act → is_some (misuse plan past act) ≡ false
proper plan past (Acted w r i) act h at = no_misuse_at plan past r i act at (at_act plan past w r i h.1).proper
proper plan past _ act h at = cc

-- it names no released object, and nothing else is wrong with it
pub proper_parts : (plan : PlanView) (past : List Event) (act : Act) → is_some (misuse plan past act) ≡ false
    → (list_any (is_released plan past) (named act) ≡ false) × (is_some (first_code (act_misuses plan past act)) ≡ false)
unfolding misuse
proper_parts plan past act h = code_none 6 (list_any (is_released plan past) (named act)) (act_misuses plan past act) h
