use Rattle.std.proofs.Common.{◌≡◌, ◌≤◌, ℕ, length, take}
use Rattle.gcd_outer.specs.Feeds.{watched_in, ended_in, watched_at_in}
use Rattle.gcd_outer.specs.Tells.{allowed_of, ended_by}
use Rattle.gcd_outer.proofs.feed.allow.Given as goal

abbrev pub invariant-loop-tell : goal.invariant-loop-tell
invariant-loop-tell l = record {
  told : l.into ≡ allowed_of (watched_in l.initial.feeds) (ended_in l.initial.feeds) (take l.tell-index l.tell-items);
  few : length l.into ≤ l.tell-index;
  ended : (feed : ℕ) → ended_in l.feeds feed ≡ ended_by (ended_in l.initial.feeds) l.into feed;
  watched : (feed : ℕ) → watched_in l.feeds feed ≡ watched_in l.initial.feeds feed;
  watched_at : (feed : ℕ) → watched_at_in l.feeds feed ≡ watched_at_in l.initial.feeds feed;
}
