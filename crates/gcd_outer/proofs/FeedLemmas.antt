-- A table of feeds that are all alike, and one with one more at its end.
use Rattle.std.proofs.Common.{◌≡◌, ℕ, zero, suc, replicate, refl}
use Rattle.std.specs.List.{slice_get}
use Rattle.std.specs.Option.{option_map_or}

-- what each of n equal elements gives, and what is given past the end
pub lookup-replicate : {X Y : Type 0} (g : X → Y) (x : X) (d : Y) → g x ≡ d → (n k : ℕ) → option_map_or g (slice_get (replicate n x) k) d ≡ d
lookup-replicate g x d same zero k = refl
lookup-replicate g x d same (suc n) zero = same
lookup-replicate g x d same (suc n) (suc k) = lookup-replicate g x d same n k
