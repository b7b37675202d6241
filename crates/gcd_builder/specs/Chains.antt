-- The acts of one body, which a builder gets one after the other.
use Rattle.std.specs.Prelude.{◌≡◌, List, [], ◌∷◌, ◌++◌, None, IfSome}
use Rattle.gcd_plan.specs.declared.act.Act.{Act}
use Rattle.gcd_builder.specs.Changes.{with_act}
use Rattle.gcd_builder.specs.Refusals.{Adds, MayAct, Refuses}
use Rattle.gcd_builder.specs.declared.body.Body.{Body}

-- the act is added to a chain of which no act was refused, or is the first that is refused; behind a refused one nothing changes
pub record Goes (act : Act) (old new : Body) : Type 0 where
  pub first : new.fault ≡ None → old.fault ≡ None
  pub added : new.fault ≡ None → Adds old.builder.now new.builder.now (with_act act old.run old.builder.now.plan)
  pub fits : new.fault ≡ None → MayAct old.builder.now.plan old.run act
  pub refused : old.fault ≡ None → IfSome new.fault (Refuses old.builder.now new.builder.now)
  pub kept : IfSome old.fault (λ _. new.fault ≡ old.fault)
  pub skipped : IfSome old.fault (λ _. new.builder.now ≡ old.builder.now)

-- the acts, one after the other
pub data GoesAll : List Act → (old new : Body) → Type 0 where
  none : {body : Body} → GoesAll [] body body
  next : {acts : List Act} {act : Act} {old mid new : Body} → GoesAll acts old mid → mid.run ≡ old.run → Goes act mid new → GoesAll (acts ++ act ∷ []) old new
