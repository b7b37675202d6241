-- What is kept of blocks as objects, as its readers see it: which are cancelled, have started and have ended, and the blocks that
-- are to be submitted once another has ended (dispatch_block_cancel(3), dispatch_block_notify(3)).
use Rattle.std.specs.Prelude.{◌≡◌, ℕ, Bool, true, false, if◌then◌else◌, List, [], ◌∷◌, ◌++◌, length, replicate, drop, Option, None, slice_get, slice_set, slice_index_or, option_map}
use Rattle.gcd_plan.specs.PlanView.{PlanView}
use Rattle.gcd_plan.specs.declared.numbers.Blk.{Blk}
use Rattle.gcd_lists.specs.ListsView.{ListsView, list_at, place_of}
use Rattle.gcd_plan.specs.Needs.{mark_room}

-- for each block of which marks are kept, by number: whether it was cancelled before it started, whether it has started, whether
-- it has ended, and the blocks that are to be submitted once it has ended, the first first, each with whether it is a barrier
-- (none is)
pub record MarksView : Type 0 where
  pub cancelled : List Bool
  pub began : List Bool
  pub ended : List Bool
  pub notify : ListsView

-- a plan's blocks before the first event
abbrev pub marks_of : PlanView → MarksView
marks_of plan = record {
  cancelled = replicate (mark_room plan) false;
  began = replicate (mark_room plan) false;
  ended = replicate (mark_room plan) false;
  notify = record { lists = replicate (mark_room plan) []; blocks = mark_room plan };
}

-- block b is cancelled (dispatch_block_testcancel(3)), has started, and has ended
abbrev pub is_cancelled_at : MarksView → ℕ → Bool
is_cancelled_at view b = slice_index_or view.cancelled b false

abbrev pub has_begun_at : MarksView → ℕ → Bool
has_begun_at view b = slice_index_or view.began b false

abbrev pub has_ended_at : MarksView → ℕ → Bool
has_ended_at view b = slice_index_or view.ended b false

-- the same with block b cancelled, if it has not started (dispatch_block_cancel(3))
abbrev pub with_cancelled : MarksView → ℕ → MarksView
with_cancelled view b = if has_begun_at view b then view else record view { cancelled = slice_set view.cancelled b true }

-- the same with block b started, and with it ended: each block that waits for its end is due from then on
abbrev pub with_begun : MarksView → ℕ → MarksView
with_begun view b = record view { began = slice_set view.began b true }

abbrev pub with_ended : MarksView → ℕ → MarksView
with_ended view b = record view { ended = slice_set view.ended b true }

-- block c behind those that wait for the end of block b (dispatch_block_notify(3))
abbrev pub with_notify : MarksView → ℕ → Blk → MarksView
with_notify view b c =
    record view { notify = record view.notify { lists = slice_set view.notify.lists b (list_at view.notify b ++ (c, false) ∷ []) } }

-- the same without the first of those that wait for the end of block b
abbrev pub with_fired : MarksView → ℕ → MarksView
with_fired view b = record view { notify = record view.notify { lists = slice_set view.notify.lists b (drop 1 (list_at view.notify b)) } }

-- the first of those that wait for the end of block b, where that has come
abbrev pub fires_at : MarksView → ℕ → Option Blk
fires_at view b = if has_ended_at view b then option_map (λ waiting. waiting.0) (slice_get (list_at view.notify b) 0) else None

-- the block for whose end block c waits, until it fires
abbrev pub awaited_by : MarksView → ℕ → Option Blk
awaited_by view c = option_map (λ place. record { 0 = place.0.0 }) (place_of view.notify c)

-- marks are kept of as many blocks in each list
pub record AreMarks (view : MarksView) : Type 0 where
  pub began : length view.began ≡ length view.cancelled
  pub ended : length view.ended ≡ length view.cancelled
  pub lists : length view.notify.lists ≡ length view.cancelled
  pub blocks : view.notify.blocks ≡ length view.cancelled
