-- What worker 0 knows of the outside between its turns.
use Rattle.std.specs.Prelude.{◌<◌, ◌==◌, ◌+◌, ◌++◌, nat_lt, ℕ, true, false, List, [], ◌∷◌, Option, length, if◌then◌else◌, map, filter, option_map, slice_get}
use Rattle.std.specs.List.{flat_map, range_with_len}
use Rattle.gcd_plan.specs.PlanView.{PlanView}
use Rattle.gcd_event.specs.declared.event.Event.{Event}
use Rattle.gcd_event.specs.declared.event.Event.TheVariants.{Ready, FeedEnd}
use Rattle.gcd_history.specs.Ends.{IsGoingOn}
use Rattle.gcd_history.specs.History.{is_live_feed}
use Rattle.gcd_outer.specs.declared.tell.Tell.{Tell}
use Rattle.gcd_turn.specs.declared.limits.TheConstants.{EMPTY_ANSWERS}

-- What worker 0 keeps: the clock's answer before the first turn; the news, which is what was told and is not yet recorded,
-- each bytes or an end; how many answers in a row were empty; and the history's length at the last of these.
pub record OutlookView : Type 0 where
  pub start : ℕ
  pub news : List Tell
  pub empties : ℕ
  pub len : ℕ

-- the bytes of a tell as news, if there are any, and its end, if it has one
abbrev pub bytes_news : Tell → List Tell
bytes_news t = if t.bytes == 0 then [] else record { feed = t.feed; bytes = t.bytes; ended = false } ∷ []

abbrev pub end_news : Tell → List Tell
end_news t = if t.ended then record { feed = t.feed; bytes = 0; ended = true } ∷ [] else []

-- the news of a tell: its bytes, and then its end
abbrev pub news_by : Tell → List Tell
news_by t = bytes_news t ++ end_news t

-- the news of an answer
abbrev pub news_of : List Tell → List Tell
news_of answer = flat_map news_by answer

-- the end of a feed, as news
abbrev pub end_of : ℕ → Tell
end_of s = record { feed = s; bytes = 0; ended = true }

-- an end of each live feed, by number
abbrev pub ends_of : PlanView → List Event → List Tell
ends_of plan h = map end_of (filter (is_live_feed plan h) (range_with_len 0 (length plan.objects)))

-- the event that records a piece of news
abbrev pub event_of : Tell → Event
event_of t = if t.ended then FeedEnd (record { 0 = t.feed }) else Ready (record { 0 = t.feed }) t.bytes

-- the event that records the first of the news
abbrev pub first_event : List Tell → Option Event
first_event news = option_map event_of (slice_get news 0)

-- the history goes on, and there is room for an event more: it has fewer than `most`
pub record HasRoom (most : ℕ) (plan : PlanView) (h : List Event) : Type 0 where
  pub going_on : IsGoingOn plan h
  pub room : length h < most

-- how many empty answers came in a row with one more, where the history has now this length
abbrev pub row_with : OutlookView → (len : ℕ) → ℕ
row_with o len = (if o.len == len then o.empties else 0) + 1

-- after one more empty answer that counts: at `EMPTY_ANSWERS` in a row each live feed is taken to have ended
abbrev pub counted : PlanView → List Event → OutlookView → OutlookView
counted plan h o =
    if nat_lt (row_with o (length h)) EMPTY_ANSWERS
    then record o { empties = row_with o (length h); len = length h }
    else record o { news = ends_of plan h; empties = 0; len = length h }
