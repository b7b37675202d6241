-- What the checks of parts find out, part by part.
use Rattle.std.specs.Prelude.{◌≡◌, ◌<◌, ◌==◌, ◌||◌, Bool, true, false, ℕ, List, length}
use Rattle.std.specs.List.{list_any}
use Rattle.std.specs.Option.{option_map_or}
use Rattle.std.specs.Str.{bytes_eq}
use Rattle.gcd_plan.specs.Names.{is_name}
use Rattle.gcd_plan.specs.Breaks.{Has, names_before_block}
use Rattle.gcd_plan.specs.PlanView.{PlanView}
use Rattle.gcd_plan.specs.Made.{is_of_strip}
use Rattle.gcd_plan.specs.Validity.{block_of, strip_of, has_name}
use Rattle.gcd_plan.specs.declared.act.Act.{Act}

-- each element has this, by its place
abbrev pub AllHave : {A : Type 0} → List A → (ℕ → A → Type 0) → Type 0
AllHave xs P = (i : ℕ) → i < length xs → Has xs i (P i)

-- the act submits block b: it is its own, or of its strip
abbrev pub submits : PlanView → ℕ → Act → Bool
submits plan b act =
    option_map_or (λ c. c.0 == b) (block_of act) false || option_map_or (λ a. is_of_strip plan a b) (strip_of act) false

-- block b has its name, and that does not stand before
pub record IsNewBlock (plan : PlanView) (b : ℕ) (name : List ℕ) : Type 0 where
  pub named : has_name plan b ≡ true
  pub free : list_any (bytes_eq name) (names_before_block plan b) ≡ false

-- a name is well formed, and does not stand before
pub record IsNewName (before : List (List ℕ)) (name : List ℕ) : Type 0 where
  pub formed : is_name name ≡ true
  pub free : list_any (bytes_eq name) before ≡ false
