-- How a limit or none is one number. No contract of a public call cites this: it is for the proofs of this crate alone.
use Rattle.std.specs.Prelude.{◌≡◌, ℕ, zero, suc, Option, Some, None, refl}

-- the limit or none that a number stands for: 0 is none
abbrev pub limit_of_code : ℕ → Option ℕ
limit_of_code zero = None
limit_of_code (suc n) = Some n

-- the number that stands for a limit or none
abbrev pub code_of : Option ℕ → ℕ
code_of None = 0
code_of (Some n) = suc n

-- a number is the one that stands for what it stands for
pub code_of_limit : (n : ℕ) → code_of (limit_of_code n) ≡ n
code_of_limit zero = refl
code_of_limit (suc n) = refl
