-- The rule of the tokens: no node is in two of them.
use Rattle.std.specs.Prelude.{◌≡◌, ◌≤◌, ◌==◌, ℕ, List, [], ◌∷◌, sum_by, count_by}
use mathlib.Core.Option.{some}
use lib.ListN.{get_elem?}
use Rattle.atomic_table.specs.Table.{State, Me, Step}
use Rattle.atomic_table.specs.Seated.{TableId}
use Rattle.atomic_table.specs.declared.badge.Badge.{Badge}
use Rattle.gcd_steal.specs.declared.tokens.Rights.{Rights}

-- the rights of a token, by the numbers of its nodes
abbrev pub rights : List ℕ → Rights
rights nodes = record { nodes = nodes }

abbrev pub Token : Type 0
Token = Badge Rights

-- how often the node stands in these rights
abbrev pub times_in : ℕ → Rights → ℕ
times_in node v = count_by (λ n. n == node) v.nodes

-- how often the node stands in the rights of all tokens
abbrev pub times : ℕ → List Rights → ℕ
times node views = sum_by (times_in node) views

-- the rule of the tokens: no node stands in two of them, and in none twice
abbrev pub AreApart : {S : Type 0} → State S Rights → Type 0
AreApart s = (node : ℕ) → times node s.views ≤ 1

-- the token is of this table, and gives the right to this node alone
abbrev pub IsTokenOf : TableId → ℕ → Token → Type 0
IsTokenOf table node token = (token.table_id ≡ table) × (token.views ≡ rights (node ∷ []) ∷ [])

-- the tokens are of the nodes from 0 on, in their order
abbrev pub AreTokens : TableId → List Token → Type 0
AreTokens table tokens = (i : ℕ) (token : Token) → get_elem? tokens i ≡ some token → IsTokenOf table i token

-- what a look at a token tells: it is as it was, and no node stands in it twice
abbrev pub LookingTells : Step (Unit {0}) → Me (Unit {0}) Rights → ℕ → Me (Unit {0}) Rights → Type 0
LookingTells st m found n = (n ≡ m) × ((node : ℕ) → times_in node m.0 ≤ 1)
