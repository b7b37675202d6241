-- Chains of acts.
use Rattle.std.proofs.Common.{◌≡◌, ◌<◌, ◌+◌, ℕ, suc, List, [], ◌∷◌, ◌++◌, ◌∙◌, arith, ap, get_or, length, map, take, sym, subst}
use Rattle.std.proofs.Math.Seq.{take-suc}
use Rattle.std.proofs.lemmas.List.{map-append}
use Rattle.gcd_plan.specs.declared.act.Act.{Act}
use Rattle.gcd_builder.specs.Chains.{Goes, GoesAll}
use Rattle.gcd_builder.specs.Chains.GoesAll.{next}
use Rattle.gcd_builder.specs.declared.body.Body.{Body}

-- one act more
pub goes_next : {acts more : List Act} {act : Act} {old mid new : Body} → GoesAll acts old mid → mid.run ≡ old.run → Goes act mid new
    → more ≡ acts ++ act ∷ [] → GoesAll more old new
goes_next {acts} {more} {act} {old} {mid} {new} all run goes is = subst (λ l. GoesAll l old new) (sym is) (next all run goes)

-- one value more of a list that is read in order
pub map_next : {A B : Type 0} (f : A → B) (l : List A) (i : ℕ) (d : A) → i < length l → map f (take (i + 1) l) ≡ map f (take i l) ++ f (get_or l i d) ∷ []
map_next f l i d low = let e : i + 1 ≡ suc i = omega arith in rw e (ap (map f) (take-suc l i d low) ∙ map-append f (take i l) (get_or l i d ∷ []))
