-- Where a block waits.
use Rattle.std.proofs.Common.{◌≡◌, ℕ, ◌<◌, Bool, [], length, Some, ap, sym, ◌∙◌, inl, inr}
use Rattle.std.proofs.lemmas.Bool.{cases_lt}
use Rattle.std.proofs.lemmas.List.{get_or_past}
use Rattle.std.proofs.lemmas.Option.{none-some}
use Rattle.gcd_plan.specs.declared.numbers.Obj.{Obj}
use Rattle.gcd_lists.specs.ListsView.{ListsView, barrier_in, place_of}
use Rattle.gcd_lists.proofs.Places.{in_list_of_place}

-- a block waits on an object that has a list
pub place_within : (lists : ListsView) (b : ℕ) (place : Obj × Bool) → place_of lists b ≡ Some place → place.0.0 < length lists.lists
place_within lists b place placed =
    elim (cases_lt place.0.0 (length lists.lists)) [
      | inl lt ↦ lt
      | inr past ↦
          let empty = ap (barrier_in b) (get_or_past lists.lists place.0.0 [] past) in
          absurd (none-some place.1 (sym empty ∙ in_list_of_place lists b place.0 place.1 placed))
    ]
