-- The values of blocks, 0 where there is none.
use Rattle.std.proofs.Common.{◌≡◌, ◌∙◌, ℕ, List, map, Option, Some, ap}
use Rattle.std.specs.Option.{option_map}
use Rattle.std.specs.Prelude.{slice_get, unwrap_or}
use Rattle.std.proofs.lemmas.Option.{slice_get-map}

-- a block's value, 0 where it has none
pub or_0_at : (values : List (Option ℕ)) (b : ℕ) (v : Option ℕ) → slice_get values b ≡ Some v
    → slice_get (map (λ (o : Option ℕ). unwrap_or o 0) values) b ≡ Some (unwrap_or v 0)
or_0_at values b v at = slice_get-map (λ (o : Option ℕ). unwrap_or o 0) values b ∙ ap (option_map (λ (o : Option ℕ). unwrap_or o 0)) at
