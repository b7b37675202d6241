-- What holds between the turns of what the poller told: the invariant from which the promises follow.
use Rattle.std.specs.Prelude.{◌≡◌, ◌≤◌, ◌<◌, ◌++◌, ◌==◌, ◌&&◌, ◌⊎◌, nat_lt, nat_le, ℕ, Bool, true, false, List, [], ◌∷◌, length, if◌then◌else◌, Contains}
use Rattle.std.specs.List.{list_all, list_any}
use Rattle.gcd_plan.specs.PlanView.{PlanView, path_of}
use Rattle.gcd_event.specs.declared.event.Event.{Event}
use Rattle.gcd_event.specs.declared.event.Event.TheVariants.{FeedEnd}
use Rattle.gcd_history.specs.Ends.{is_halted}
use Rattle.gcd_history.specs.History.{is_active, is_live_feed}
use Rattle.gcd_outer.specs.Tells.{PollerState, has_end, is_empty_answer, is_end_told, is_named, told_in, told_of}
use Rattle.gcd_outer.specs.declared.limits.TheConstants.{MAX_TELL_BYTES}
use Rattle.gcd_outer.specs.declared.tell.Tell.{Tell}
use Rattle.gcd_turn.specs.Promises.{Begins, FeedEnds, WasLive, WasSilent, WatchedBefore, readies_of}
use Rattle.gcd_turn.specs.Turns.{OutlookView}

-- a Ready or a FeedEnd of s may come next
pub record MayEnd (plan : PlanView) (h : List Event) (s : ℕ) : Type 0 where
  pub unhalted : is_halted h ≡ false
  pub live : is_live_feed plan h s ≡ true

-- a piece of news: an end, or bytes
abbrev pub is_news : Tell → Bool
is_news t = if t.ended then t.bytes == 0 else nat_lt 0 t.bytes && nat_le t.bytes MAX_TELL_BYTES

-- of feed s, where the calls so far gave these answers and there is this news
pub record FeedHeard (plan : PlanView) (stood placed : List Event) (before now : PollerState) (answers : List (List Tell)) (news : List Tell) (s : ℕ) : Type 0 where
  pub active : now.watched s ≡ true → is_active plan (stood ++ placed) s ≡ true
  pub since : now.watched s ≡ true → WatchedBefore before now (length answers) s
  -- nothing was told of a feed that is not watched
  pub unnamed : now.watched s ≡ false → list_any (is_named s) (news ∷ answers) ≡ false
  pub unread : now.watched s ≡ false → readies_of s placed ≡ []
  -- what was told is recorded, in order, and where more may be recorded the rest is news
  pub front : Begins (told_of s answers) (readies_of s placed)
  pub whole : MayEnd plan (stood ++ placed) s → told_of s answers ≡ readies_of s placed ++ told_in s news
  pub unended : MayEnd plan (stood ++ placed) s → is_end_told s answers ≡ true → has_end s news ≡ true
  -- each end in the news has its cause, and so has each that is recorded
  pub due : has_end s news ≡ true → (is_end_told s answers ≡ true) ⊎ WasSilent before now answers (readies_of s placed) s
  pub ends : Contains placed (FeedEnd (record { 0 = s })) → FeedEnds before now answers (readies_of s placed) s

-- The calls so far gave the answers `spoken` and then `quiet`, which are the empty ones that are counted, and made the
-- watches `more`.
pub record Heard (plan : PlanView) (stood placed : List Event) (before now : PollerState) (o : OutlookView) : Type 0 where
  pub spoken : List (List Tell)
  pub quiet : List (List Tell)
  pub answers : now.answers ≡ before.answers ++ (spoken ++ quiet)
  pub more : List (ℕ × List ℕ)
  pub watches : now.watches ≡ before.watches ++ more
  pub live : (s : ℕ) (path : List ℕ) → Contains more (s, path) → WasLive plan (stood ++ placed) s
  pub paths : (s : ℕ) (path : List ℕ) → Contains more (s, path) → path ≡ path_of plan s
  pub feeds : (s : ℕ) → FeedHeard plan stood placed before now (spoken ++ quiet) o.news s
  pub pieces : list_all is_news o.news ≡ true
  -- the empty answers came in a row, with each feed that is live now watched before them, as long as the history has not grown
  pub counted : length quiet ≡ o.empties
  pub empty : list_all is_empty_answer quiet ≡ true
  pub past : o.len ≤ length (stood ++ placed)
  pub silent : 0 < o.empties → o.len ≡ length (stood ++ placed) → (s : ℕ) → is_live_feed plan (stood ++ placed) s ≡ true
      → WatchedBefore before now (length spoken) s
