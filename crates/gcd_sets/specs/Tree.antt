-- How an array holds the times and the least of them. No contract of a public call cites this.
use Rattle.std.specs.Prelude.{◌≡◌, ◌≢◌, ℕ, ◌+◌, ◌*◌, ◌<◌, ◌≤◌, min, List, length, map, Option, slice_index_or}
use Rattle.std.specs.List.{range_with_len}
use Rattle.gcd_sets.specs.Least.{time_at}

-- what stands at a node; past the end that is nothing
abbrev pub node_at : List ℕ → ℕ → ℕ
node_at nodes i = slice_index_or nodes i 0

-- each node that has children, but one, is the lesser of them
abbrev pub HoldsBut : List ℕ → ℕ → Type 0
HoldsBut nodes but =
    (i : ℕ) → 1 ≤ i → 2 * i + 1 < length nodes → i ≢ but → node_at nodes i ≡ min (node_at nodes (2 * i)) (node_at nodes (2 * i + 1))

-- there are twice as many nodes as numbers, and each that has children is the lesser of them
pub record IsTree (nodes : List ℕ) (len : ℕ) : Type 0 where
  pub long : length nodes ≡ 2 * len
  pub holds : HoldsBut nodes 0

-- the times are the nodes from `len` on
abbrev pub times_of : List ℕ → ℕ → List (Option ℕ)
times_of nodes len = map (λ i. time_at (node_at nodes (len + i))) (range_with_len 0 len)
