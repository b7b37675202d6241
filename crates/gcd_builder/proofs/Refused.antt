-- How the calls of a builder end that add nothing.
use Rattle.std.proofs.Common.{◌≡◌, true, false, Result, Ok, Err, IfErr, refl, sym, subst}
use Rattle.std.specs.Result.{IsErrAnd}
use Rattle.gcd_builder.specs.Refusals.{BuilderView, Breaks, Refuses}
use Rattle.gcd_builder.specs.Refusals.Refuses.{broken, spent}
use Rattle.gcd_builder.specs.declared.fault.BuildFault.{BuildFault}
use Rattle.gcd_builder.specs.declared.fault.BuildFault.TheVariants.{Memory}

-- what holds of an error holds of the same error, handed on
pub handed_on : {T E : Type 0} (Q : E → Type 0) (r : Result T E) (e : E) → IsErrAnd r (λ y. y ≡ e) → Q e → IfErr r Q
handed_on Q (Ok x) e is holds = tt
handed_on Q (Err y) e is holds = subst Q (sym is) holds

-- by a rule
pub by_rule : {T : Type 0} (b : BuilderView) (r : Result T BuildFault) (e : BuildFault) → IsErrAnd r (λ y. y ≡ e) → b.spent ≡ false → Breaks b.plan e → IfErr r (Refuses b b)
by_rule b r e is has breaks = handed_on (Refuses b b) r e is (broken has refl breaks)

-- for want of memory
pub by_memory : {T : Type 0} (old new : BuilderView) (r : Result T BuildFault) (e : BuildFault) → IsErrAnd r (λ y. y ≡ e) → e ≡ Memory → new.spent ≡ true → IfErr r (Refuses old new)
by_memory old new r e is wants gone = handed_on (Refuses old new) r e is (subst (Refuses old new) (sym wants) (spent gone))

-- the same, where the view of what the builder holds is the builder
pub by_rule_at : {T : Type 0} (view b : BuilderView) → view ≡ b → (r : Result T BuildFault) (e : BuildFault) → IsErrAnd r (λ y. y ≡ e) → view.spent ≡ false → Breaks view.plan e → IfErr r (Refuses b b)
by_rule_at view b same r e is has breaks = subst (λ v. IfErr r (Refuses v v)) same (by_rule view r e is has breaks)

pub spent_at : (view b : BuilderView) → view ≡ b → view.spent ≡ true → Refuses b b Memory
spent_at view b same gone = subst (λ v. Refuses v v Memory) same (spent gone)
