-- How the arrays of `Lists` hold its lists. No contract cites this: it is for the proofs of this crate alone.
use Rattle.std.specs.Prelude.{◌≡◌, ℕ, zero, suc, ◌≤◌, ◌==◌, Bool, false, if◌then◌else◌, List, [], ◌∷◌, length, map, Option, Some, None, slice_index_or, count_by}
use Rattle.std.specs.Option.{option_map_or}
use Rattle.gcd_plan.specs.Limits.{max_blocks}
use Rattle.gcd_plan.specs.declared.numbers.Blk.{Blk}
use Rattle.gcd_plan.specs.declared.numbers.Obj.{Obj}
use Rattle.gcd_lists.specs.ListsView.{ListsView, barrier_in, max_lists}

-- what stands in an array at a number; past the end that is nothing
abbrev pub entry : {X : Type 0} → List (Option X) → ℕ → Option X
entry xs i = slice_index_or xs i None

-- the last block that an array has at a node
abbrev pub last_at : List Blk → ℕ → Blk
last_at lasts node = slice_index_or lasts node (record { 0 = 0 })

-- a place on the node
abbrev pub on : ℕ → Bool → Option (Obj × Bool)
on node barrier = Some (record { 0 = node }, barrier)

-- the blocks from `at` along the links, at most as many as the bound, each with the flag of its place
abbrev pub walk : (ℕ → Option Blk) → (ℕ → Option (Obj × Bool)) → ℕ → Option Blk → List (Blk × Bool)
walk next place zero at = []
walk next place (suc bound) None = []
walk next place (suc bound) (Some b) = (b, option_map_or (λ p. p.1) (place b.0) false) ∷ walk next place bound (next b.0)

-- the lists that begin at the heads
abbrev pub lists_of : List (Option Blk) → List (Option (Obj × Bool)) → List (Option Blk) → List (List (Blk × Bool))
lists_of links places heads = map (walk (entry links) (entry places) (length links)) heads

abbrev pub view_of : List (Option Blk) → List (Option (Obj × Bool)) → List (Option Blk) → ListsView
view_of links places heads = record { lists = lists_of links places heads; blocks = length links }

-- the place is on the node
abbrev pub is_on : ℕ → Option (Obj × Bool) → Bool
is_on node None = false
is_on node (Some place) = place.0.0 == node

-- the links lead from `at` through just these blocks, each of which has its place on the node, with its flag
abbrev pub IsChain : (ℕ → Option Blk) → (ℕ → Option (Obj × Bool)) → ℕ → Option Blk → List (Blk × Bool) → Type 0
IsChain next place node at [] = at ≡ None
IsChain next place node at (w ∷ ws) =
    (at ≡ Some w.0) × (place w.0.0 ≡ on node w.1) × IsChain next place node (next w.0.0) ws

-- the block is the last of the list, unless the list is empty
abbrev pub IsLast : Blk → List (Blk × Bool) → Type 0
IsLast b [] = Unit {0}
IsLast b (w ∷ []) = b ≡ w.0
IsLast b (w ∷ v ∷ ws) = IsLast b (v ∷ ws)

-- the list of one node: its chain, its last block, and that it is no longer than the places on the node are many
pub record IsQueue
    (links : List (Option Blk)) (places : List (Option (Obj × Bool))) (node : ℕ) (head : Option Blk) (end : Blk) (ws : List (Blk × Bool))
    : Type 0 where
  pub chain : IsChain (entry links) (entry places) node head ws
  pub last : IsLast end ws
  pub few : length ws ≤ count_by (is_on node) places

-- the arrays hold the lists, and a block that has a place is in the list of that node
pub record Hold
    (links : List (Option Blk)) (places : List (Option (Obj × Bool))) (heads : List (Option Blk)) (lasts : List Blk)
    (lists : List (List (Blk × Bool))) : Type 0 where
  pub places_long : length places ≡ length links
  pub heads_long : length heads ≡ length lists
  pub lasts_long : length lasts ≡ length lists
  pub queues : (n : ℕ) → IsQueue links places n (entry heads n) (last_at lasts n) (slice_index_or lists n [])
  pub found : (b n : ℕ) (barrier : Bool) → entry places b ≡ on n barrier → barrier_in b (slice_index_or lists n []) ≡ Some barrier

-- the arrays hold the lists that they are seen as
abbrev pub AreLinked : List (Option Blk) → List (Option (Obj × Bool)) → List (Option Blk) → List Blk → Type 0
AreLinked links places heads lasts = Hold links places heads lasts (lists_of links places heads)

-- the block before block b in a list; none before the first
abbrev pub before_in : ℕ → List (Blk × Bool) → Option Blk
before_in b [] = None
before_in b (w ∷ []) = None
before_in b (w ∷ v ∷ ws) = if v.0.0 == b then Some w.0 else before_in b (v ∷ ws)

-- the link back from the block behind one that waits leads to it
abbrev pub AreBacked : List (Option Blk) → List (Option Blk) → List (Option (Obj × Bool)) → Type 0
AreBacked links befores places =
    (b n : ℕ) (barrier : Bool) (behind : Blk) → entry places b ≡ on n barrier → entry links b ≡ Some behind
    → entry befores behind.0 ≡ Some (record { 0 = b })

-- what is true of the arrays of each `Lists`; no more blocks and lists than two bytes have numbers for
pub record AreLists
    (links : List (Option Blk)) (befores : List (Option Blk)) (places : List (Option (Obj × Bool))) (heads : List (Option Blk)) (lasts : List Blk)
    : Type 0 where
  pub linked : AreLinked links places heads lasts
  pub backed : AreBacked links befores places
  pub befores_long : length befores ≡ length links
  pub few_blocks : length links ≤ max_blocks
  pub few_lists : length heads ≤ max_lists
