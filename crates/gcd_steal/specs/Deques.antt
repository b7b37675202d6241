-- The rule of a bench's deque: what owner and thieves took, in the order of their steps, is a front of what was pushed,
-- and the rest is left in it.
use Rattle.std.specs.Prelude.{◌≡◌, ℕ, ◌<◌, ◌==◌, ◌++◌, Bool, true, false, if◌then◌else◌, List, [], ◌∷◌, length, map}
use mathlib.Core.Option.{some}
use lib.ListN.{get_elem?}
use Rattle.atomic_table.specs.Seated.{TableId}
use Rattle.gcd_steal.specs.declared.drain.Drain.{Drain}
use Rattle.gcd_steal.specs.declared.deque.RackId.{RackId}
use Rattle.gcd_steal.specs.declared.deque.Account.{Account}
use Rattle.gcd_steal.specs.Drains.{IsOf}

abbrev pub account : Bool → Bool → RackId → List Drain → List Drain → Account
account fresh owns rack sent took = record { fresh = fresh; owns = owns; rack = rack; sent = sent; took = took }

abbrev pub AllOf : RackId → List Drain → Type 0
AllOf rack drains = (i : ℕ) (d : Drain) → get_elem? drains i ≡ some d → IsOf rack d

-- each taking in the order of the steps: the pass that made it, and the Drain
abbrev pub Takings : Type 0
Takings = List (ℕ × Drain)

abbrev pub drains_of : Takings → List Drain
drains_of takings = map (λ t. t.1) takings

-- what the pass took, in order
abbrev pub taken_by : ℕ → Takings → List Drain
taken_by pass [] = []
taken_by pass (t ∷ takings) = if t.0 == pass then t.1 ∷ taken_by pass takings else taken_by pass takings

-- what a pass knows is true: it knows what it took, and the owner's, which is pass 0, knows all that was pushed
pub record IsTrueOf (of : RackId) (pushed : List Drain) (takings : Takings) (pass : ℕ) (v : Account) : Type 0 where
  pub rack : v.fresh ≡ false → v.rack ≡ of
  pub took : v.took ≡ taken_by pass takings
  pub owner : v.owns ≡ true → (pass ≡ 0) × (v.sent ≡ pushed)

-- the rule of a deque
pub record TakenInOrder (items : List Drain) (views : List Account) : Type 0 where
  pub rack : RackId
  pub pushed : List Drain
  pub takings : Takings
  pub whole : pushed ≡ drains_of takings ++ items
  pub right : AllOf rack items
  pub each : (pass : ℕ) (v : Account) → get_elem? views pass ≡ some v → IsTrueOf rack pushed takings pass v
  pub fresh : (pass : ℕ) (v : Account) → get_elem? views pass ≡ some v
      → v.fresh ≡ true → (items ≡ []) × (length views ≡ 1) × (takings ≡ [])
  pub passes : (i : ℕ) (t : ℕ × Drain) → get_elem? takings i ≡ some t → t.0 < length views

-- at one moment the deque held these Drains, the front first: it kept its rule, and this pass knew what it knows
abbrev pub Held : Account → List Drain → Type 0
Held v items = (views : List Account) × (pass : ℕ) × TakenInOrder items views × (get_elem? views pass ≡ some v)

abbrev pub WasEmpty : Account → Type 0
WasEmpty v = Held v []

-- the owner pushed these Drains
abbrev pub Sends : Account → List Drain → Account → Type 0
Sends v drains w = w ≡ account v.fresh v.owns v.rack (v.sent ++ drains) v.took

-- the pass took these Drains, which were at the front
abbrev pub Gets : Account → List Drain → Account → Type 0
Gets v drains w =
    (w ≡ account v.fresh v.owns v.rack v.sent (v.took ++ drains))
    × ((rest : List Drain) × Held v (drains ++ rest))

-- no rack, for what is known before a rack is
abbrev pub no_table : TableId
no_table = record { words = 0; slots = 0; views_name = 0; atom = 0; block = 0; offset = 0; slot_names = [] }

abbrev pub no_rack : RackId
no_rack = record {
  tokens = record { marker = record {}; table_id = no_table; id = 0; views = [] };
  places = record { marker = record {}; table_id = no_table; id = 0; views = [] };
}
