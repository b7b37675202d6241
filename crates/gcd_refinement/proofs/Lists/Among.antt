-- Whether a block is among others.
use Rattle.std.proofs.Common.{◌≡◌, ◌⊎◌, ⊎_elim, ◌==◌, Bool, true, false, List, [], ◌∷◌, ◌++◌, ap, sym, ◌∙◌, eq-eqb}
use Rattle.std.specs.List.{list_any}
use Rattle.std.proofs.lemmas.Bool.{eqb-true, or_cases, or_left}
use Rattle.std.proofs.lemmas.List.Folds.{list_any-append}
use Rattle.gcd_plan.specs.declared.numbers.Blk.{Blk}

-- block b is among them
abbrev pub among : Blk → List Blk → Bool
among b xs = list_any (λ c. c.0 == b.0) xs

pub split : (b : Blk) (xs ys : List Blk) → among b (xs ++ ys) ≡ true → (among b xs ≡ true) ⊎ (among b ys ≡ true)
split b xs ys h = or_cases (among b xs) (among b ys) (sym (list_any-append (λ c. c.0 == b.0) xs ys) ∙ h)

pub alone : (d b : Blk) → among b (d ∷ []) ≡ true → d ≡ b
alone d b h = ap (λ n. record { 0 = n }) (eqb-true d.0 b.0 (⊎_elim (λ t. t) (λ t. cc) (or_cases (d.0 == b.0) false h)))

pub itself : (d b : Blk) → d ≡ b → among b (d ∷ []) ≡ true
itself d b same = or_left (d.0 == b.0) false (eq-eqb d.0 b.0 (ap (λ k. k.0) same))
