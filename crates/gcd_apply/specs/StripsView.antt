-- The strips of a plan, as their readers see them: how many blocks of each have not ended (dispatch_apply(3)).
use Rattle.std.specs.Prelude.{ℕ, ◌-◌, ◌==◌, if◌then◌else◌, List, length, map, Option, None, slice_index, slice_index_or, slice_set}
use Rattle.std.specs.Option.{option_map_or}
use Rattle.std.specs.List.{position_from, range_with_len}
use Rattle.gcd_plan.specs.PlanView.{PlanView}
use Rattle.gcd_plan.specs.Made.{is_within, strip_span}

-- the strip of block b, by number; None where it is of none
abbrev pub strip_of : PlanView → ℕ → Option ℕ
strip_of plan b = position_from (is_within b) 0 (map strip_span plan.strips)

-- of how many blocks it is kept of which strip they are: of none where the plan has no strip
abbrev pub strip_room : PlanView → ℕ
strip_room plan = if length plan.strips == 0 then 0 else length plan.blocks

-- for each strip by number how many of its blocks have not ended; and for each block of which that is kept the strip that it is of
pub record StripsView : Type 0 where
  pub left : List ℕ
  pub of_block : List (Option ℕ)

-- a plan's strips before the first event
abbrev pub strips_of : PlanView → StripsView
strips_of plan = record {
  left = map (λ s. s.count) plan.strips;
  of_block = map (strip_of plan) (range_with_len 0 (strip_room plan));
}

-- how many blocks of strip a have not ended; past the end that is 0
abbrev pub left_at : StripsView → ℕ → ℕ
left_at view a = slice_index view.left a

-- the strip of block b, where that is kept
abbrev pub strip_at : StripsView → ℕ → Option ℕ
strip_at view b = slice_index_or view.of_block b None

-- the same after the end of block b
abbrev pub with_done : StripsView → ℕ → StripsView
with_done view b =
    option_map_or (λ a. record view { left = slice_set view.left a (left_at view a - 1) }) (strip_at view b) view
