-- What the turns saw of the poller, said of a call that first listened.
use Rattle.std.proofs.Common.{◌≡◌, ◌∙◌, ◌+◌, ◌++◌, ◌≤◌, ◌<◌, ℕ, true, Bool, List, drop, length, [], append-nil, refl, sym, subst, inl, inr}
use Rattle.std.specs.Prelude.{Contains}
use Rattle.gcd_plan.specs.PlanView.{PlanView, path_of}
use Rattle.gcd_event.specs.declared.event.Event.{Event}
use Rattle.gcd_outer.specs.Outside.{Bytes, ClockState, Rises, Seen}
use Rattle.gcd_outer.specs.Tells.{PollerState, told_of}
use Rattle.gcd_outer.specs.declared.tell.Tell.{Tell}
use Rattle.gcd_turn.specs.Promises.{AreTold, Begins, FeedEnds, IsHeard, WasLive, WasSilent, WatchedBefore, readies_of}
use Rattle.gcd_turn.specs.Promises.FeedEnds.{told, silent}
use Rattle.gcd_history.specs.declared.state.State.{State}
use Rattle.gcd_commands.specs.Calls.{Listening}
use Rattle.gcd_commands.specs.End.{End}
use Rattle.gcd_commands.specs.Runs.{TellsRun}

-- two states of a poller that has told the same, watches the same, and failed as often
pub record SameHearing (a b : PollerState) (tells : Bool) : Type 0 where
  pub answers : tells ≡ true → a.answers ≡ b.answers
  pub watches : tells ≡ true → a.watches ≡ b.watches
  pub watched : (feed : ℕ) → a.watched feed ≡ b.watched feed
  pub faults : a.faults ≡ b.faults

module _ (a b now : PollerState) (tells : Bool) (same : SameHearing a b tells) (yes : tells ≡ true) where
  watched_since : (n s : ℕ) → WatchedBefore a now n s → WatchedBefore b now n s
  watched_since n s w = record {
    watched = w.watched;
    since = elim w.since [
      | inl before ↦ inl (sym (same.watched s) ∙ before)
      | inr later ↦ inr (subst (λ (answers : List (List Tell)). now.watched_at s ≤ length answers + n) (same.answers yes) later)
    ];
  }

  silent_since : (answers : List (List Tell)) (had : List ℕ) (s : ℕ) → WasSilent a now answers had s → WasSilent b now answers had s
  silent_since answers had s was = record {
    earlier = was.earlier;
    quiet = was.quiet;
    later = was.later;
    split = was.split;
    watched = watched_since (length was.earlier) s was.watched;
    long = was.long;
    empty = was.empty;
    had_all = was.had_all;
  }

  ends_since : (answers : List (List Tell)) (had : List ℕ) (s : ℕ) → FeedEnds a now answers had s → FeedEnds b now answers had s
  ends_since answers had s (told is all) = told is all
  ends_since answers had s (silent was) = silent (silent_since answers had s was)

  pub told_since : (plan : PlanView) (stood placed : List Event) → AreTold plan stood placed (record { tells = tells; before = a; after = now })
      → AreTold plan stood placed (record { tells = tells; before = b; after = now })
  told_since plan stood placed t = record {
    readies = subst (λ (answers : List (List Tell)). (s : ℕ) → Begins (told_of s (drop (length answers) now.answers)) (readies_of s placed))
        (same.answers yes) t.readies;
    ends = λ s stands. subst (λ (answers : List (List Tell)). FeedEnds b now (drop (length answers) now.answers) (readies_of s.0 placed) s.0)
        (same.answers yes) (ends_since _ _ s.0 (t.ends s stands));
    live = subst (λ (watches : List (ℕ × List ℕ)). (s : ℕ) (path : List ℕ) → Contains (drop (length watches) now.watches) (s, path)
        → WasLive plan (stood ++ placed) s) (same.watches yes) t.live;
    paths = subst (λ (watches : List (ℕ × List ℕ)). (s : ℕ) (path : List ℕ) → Contains (drop (length watches) now.watches) (s, path)
        → path ≡ path_of plan s) (same.watches yes) t.paths;
  }

pub heard_since : (most : ℕ) (a b now : PollerState) (tells : Bool) → SameHearing a b tells → (plan : PlanView) (stood placed : List Event)
    → IsHeard most plan stood placed (record { tells = tells; before = a; after = now })
    → IsHeard most plan stood placed (record { tells = tells; before = b; after = now })
heard_since most a b now tells same plan stood placed heard = record {
  told = λ yes. told_since a b now tells same yes plan stood placed (heard.told yes);
  faults = record {
    halts = λ stands. subst (λ n. Rises n now.faults) same.faults (heard.faults.halts stands);
    stops = λ rose. heard.faults.stops (subst (λ n. n < now.faults) (sym same.faults) rose);
  };
}

-- ## Listens

-- a poller that was not called
pub quiet : (tells : Bool) (state : PollerState) → Listening (record { tells = tells; before = state; after = state }) 0 []
quiet tells state = record { listens = λ _. refl; added = λ _. sym (append-nil state.addresses) }

-- a listen, and then calls that make none
pub listening_more : (tells : Bool) (a b now : PollerState) (n : ℕ) (addresses : List Bytes)
    → Listening (record { tells = tells; before = a; after = b }) n addresses → (tells ≡ true → now.listens ≡ b.listens)
    → (tells ≡ true → now.addresses ≡ b.addresses) → Listening (record { tells = tells; before = a; after = now }) n addresses
listening_more tells a b now n addresses before listens added = record {
  listens = λ yes. listens yes ∙ before.listens yes;
  added = λ yes. added yes ∙ before.added yes;
}

-- what is told of a run, said of a call that first listened
pub tells_since : (a b now : PollerState) (tells : Bool) → SameHearing a b tells → (clock : Seen ClockState) (plan : PlanView) (workers most : ℕ)
    (calls : List Event → Type 0) (text : State → List Event → Bytes) (end : End)
    → TellsRun (record { tells = tells; before = a; after = now }) clock plan workers most calls text end
    → TellsRun (record { tells = tells; before = b; after = now }) clock plan workers most calls text end
tells_since a b now tells same clock plan workers most calls text end t = record {
  h = t.h;
  state = t.state;
  ran = record {
    run = record {
      lawful = t.ran.run.lawful;
      ended = t.ran.run.ended;
      few = t.ran.run.few;
      by = t.ran.run.by;
      chosen = t.ran.run.chosen;
      called = t.ran.run.called;
      timely = t.ran.run.timely;
      heard = heard_since most a b now tells same plan [] t.h t.ran.run.heard;
    };
    over = t.ran.over;
  };
  end_is = t.end_is;
}
