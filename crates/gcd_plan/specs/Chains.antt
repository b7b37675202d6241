-- Chains of targets: an object, its target and so on to root.
use Rattle.std.specs.Prelude.{ℕ, zero, suc, ◌==◌, Bool, if◌then◌else◌, List, [], ◌∷◌}
use Rattle.std.specs.List.{list_any}

-- n and what follows it by next, up to 0, at most as many as the bound
abbrev pub chain_by : (ℕ → ℕ) → ℕ → ℕ → List ℕ
chain_by next zero n = []
chain_by next (suc bound) n = n ∷ (if n == 0 then [] else chain_by next bound (next n))

-- o is among the nodes
abbrev pub is_in : ℕ → List ℕ → Bool
is_in o nodes = list_any (λ n. n == o) nodes
