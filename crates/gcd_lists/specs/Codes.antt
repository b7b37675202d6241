-- How a link and a place stand in two bytes each. No contract of a public call cites this.
use Rattle.std.specs.Prelude.{◌≡◌, ℕ, zero, suc, ◌+◌, ◌*◌, ◌/◌, ◌%◌, ◌<◌, ◌==◌, Bool, if◌then◌else◌, Option, Some, None, refl}
use Rattle.std.proofs.Common.{ap, ◌∙◌}
use Rattle.std.proofs.Math.Nat.{mod-lt, zero-lt-suc, not-suc-le-zero, le_of_suc-le-suc}
use Rattle.std.proofs.lemmas.Nat.{div-add-mod'}
use Rattle.gcd_plan.specs.declared.numbers.Blk.{Blk}
use Rattle.gcd_plan.specs.declared.numbers.Obj.{Obj}

-- the block that a number stands for
abbrev pub link_at : ℕ → Option Blk
link_at zero = None
link_at (suc b) = Some (record { 0 = b })

-- the number that stands for it
abbrev pub link_code : Option Blk → ℕ
link_code None = 0
link_code (Some b) = suc b.0

pub link_code_at : (n : ℕ) → link_code (link_at n) ≡ n
link_code_at zero = refl
link_code_at (suc b) = refl

-- the place that a number stands for: twice the object's, and 1 more where it is a barrier
abbrev pub place_at : ℕ → Option (Obj × Bool)
place_at zero = None
place_at (suc n) = Some (record { 0 = n / 2 }, n % 2 == 1)

-- the number that stands for it
abbrev pub flag_code : Bool → ℕ
flag_code barrier = if barrier then 1 else 0

abbrev pub place_code : Option (Obj × Bool) → ℕ
place_code None = 0
place_code (Some place) = suc (place.0.0 * 2 + flag_code place.1)

flag_code_of : (r : ℕ) → r < 2 → flag_code (r == 1) ≡ r
flag_code_of zero low = refl
flag_code_of (suc zero) low = refl
flag_code_of (suc (suc r)) low = absurd (not-suc-le-zero (le_of_suc-le-suc (le_of_suc-le-suc low)))

pub place_code_at : (n : ℕ) → place_code (place_at n) ≡ n
place_code_at zero = refl
place_code_at (suc n) = ap suc (ap (λ r. n / 2 * 2 + r) (flag_code_of (n % 2) (mod-lt n (zero-lt-suc 1))) ∙ div-add-mod' n 2)
