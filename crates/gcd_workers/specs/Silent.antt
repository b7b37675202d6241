-- A poller that tells nothing and never fails.
use Rattle.std.specs.Prelude.{◌&&◌, false, [], nat_lt}
use Rattle.gcd_outer.specs.Tells.{PollerState}
use Rattle.gcd_outer.specs.declared.limits.TheConstants.{MAX_FEEDS}
use Rattle.gcd_sets.specs.Words.{is_in_words}
use Rattle.gcd_workers.specs.declared.silent.SilentPoller.{SilentPoller}

-- what it watches; it told nothing and has not failed
abbrev pub silent_state : SilentPoller → PollerState
silent_state p = record {
  answers = [];
  watched_at = λ feed. 0;
  watches = [];
  listens = 0;
  addresses = [];
  watched = λ feed. nat_lt feed MAX_FEEDS && is_in_words p.watched feed;
  ended = λ feed. false;
  faults = 0;
}
