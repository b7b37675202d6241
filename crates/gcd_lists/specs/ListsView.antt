-- What waits on the objects of a plan: for each object a list of blocks in the order of their submission
-- (dispatch_async(3), dispatch_barrier_async(3)).
use Rattle.std.specs.Prelude.{ℕ, suc, ◌==◌, Bool, false, if◌then◌else◌, List, [], ◌∷◌, map, Option, Some, None, option_map, slice_index_or}
use Rattle.std.specs.Option.{option_or, option_map_or}
use Rattle.std.specs.List.{range_with_len}
use Rattle.gcd_plan.specs.declared.numbers.Blk.{Blk}
use Rattle.gcd_plan.specs.declared.numbers.Obj.{Obj}

-- for each object by number the blocks that wait there, first first, each with whether it is a barrier; and how many
-- blocks there are
pub record ListsView : Type 0 where
  pub lists : List (List (Blk × Bool))
  pub blocks : ℕ

-- what waits on a node; past the end that is nothing
abbrev pub list_at : ListsView → ℕ → List (Blk × Bool)
list_at view node = slice_index_or view.lists node []

-- whether block b is a barrier, if it is in the list
abbrev pub barrier_in : ℕ → List (Blk × Bool) → Option Bool
barrier_in b [] = None
barrier_in b (waiting ∷ rest) = if waiting.0.0 == b then Some waiting.1 else barrier_in b rest

-- the first of the lists that has block b, by number from node on, and whether b is a barrier
abbrev pub place_from : ℕ → List (List (Blk × Bool)) → ℕ → Option (Obj × Bool)
place_from node [] b = None
place_from node (list ∷ lists) b =
    option_or (option_map (λ barrier. (record { 0 = node }, barrier)) (barrier_in b list)) (place_from (suc node) lists b)

-- where block b waits, and whether it is a barrier
abbrev pub place_of : ListsView → ℕ → Option (Obj × Bool)
place_of view b = place_from 0 view.lists b

-- block b waits on the node
abbrev pub waits_at : ListsView → (node b : ℕ) → Bool
waits_at view node b = option_map_or (λ place. place.0.0 == node) (place_of view b) false

-- a list without block b
abbrev pub without : ℕ → List (Blk × Bool) → List (Blk × Bool)
without b [] = []
without b (waiting ∷ rest) = if waiting.0.0 == b then without b rest else waiting ∷ without b rest

-- so many blocks from the first on, in the order of their numbers, none as a barrier
abbrev pub span : (first count : ℕ) → List (Blk × Bool)
span first count = map (λ b. (record { 0 = b }, false)) (range_with_len first count)

-- how many lists there may be: the greatest number of an object for which two bytes have room, and 1
abbrev pub max_lists : ℕ
max_lists = 32767
