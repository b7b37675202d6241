-- How a worker finds a Drain, and how it lays it down.
use Rattle.std.specs.Prelude.{◌≡◌, ◌⊎◌, ℕ, zero, suc, ◌∷◌, []}
use Rattle.gcd_steal.specs.Deques.{Gets, Sends}
use Rattle.gcd_steal.specs.Drains.{node_of, sight_with}
use Rattle.gcd_steal.specs.Places.{Gives, Misses, Takes, newcomer}
use Rattle.gcd_steal.specs.Racks.{SameButDeque, SameButPass, SameButSeat, StealTells, own_account, sight_of}
use Rattle.gcd_steal.specs.declared.bench.Bench.{Bench}
use Rattle.gcd_steal.specs.declared.drain.Drain.{Drain}

-- a look for a Drain that found none: in the bench's own deque, in another's, or in the place of a node
abbrev pub FindsNone : Bench → Bench → Type 0
FindsNone b c =
    (SameButDeque b c × (own_account c ≡ own_account b))
    ⊎ ((victim : ℕ) × SameButPass victim b c × StealTells victim b c (λ v w. w ≡ v))
    ⊎ ((node : ℕ) × SameButSeat b c × Misses node (sight_of b) (sight_of c))

-- so many looks, one after the other, that found none
abbrev pub HasFoundNone : ℕ → Bench → Bench → Type 0
HasFoundNone zero b c = c ≡ b
HasFoundNone (suc n) b c = (m : Bench) × HasFoundNone n b m × FindsNone m c

-- a look that found this one
abbrev pub Finds : Bench → Drain → Bench → Type 0
Finds b d c =
    (SameButDeque b c × Gets (own_account b) (d ∷ []) (own_account c))
    ⊎ ((victim : ℕ) × SameButPass victim b c × StealTells victim b c (λ v w. Gets v (d ∷ []) w))
    ⊎ (SameButSeat b c × Takes (node_of d).0 (sight_of b) (sight_with d) × (sight_of c ≡ newcomer (sight_with d)))

-- looks, of which the last alone found a Drain
pub record HasFound (b : Bench) (d : Drain) (c : Bench) : Type 0 where
  pub tries : ℕ
  pub looked : Bench
  pub in_vain : HasFoundNone tries b looked
  pub found : Finds looked d c

-- the Drain was laid into its sleeping place, or put at the back of the bench's own deque, and nothing else was done with the bench
abbrev pub IsLaidDown : Bench → Drain → Bench → Type 0
IsLaidDown b d c =
    (SameButSeat b c × Gives (node_of d).0 (sight_with d) (sight_of c))
    ⊎ (SameButDeque b c × Sends (own_account b) (d ∷ []) (own_account c))
