-- What the calls of the outlook and of the recorder come to, as goals ask for it.
use Rattle.std.proofs.Common.{◌≡◌, ◌≤◌, ◌∙◌, ◌++◌, ◌&&◌, ℕ, Bool, true, false, List, [], ◌∷◌, length, ap, sym, subst, refl, arith, append-nil, inl, Result, Ok, Err}
use Rattle.std.specs.Prelude.{OnOk}
use Rattle.std.proofs.lemmas.Bool.{both_ways}
use Rattle.gcd_plan.specs.PlanView.{PlanView}
use Rattle.gcd_event.specs.declared.event.Event.{Event}
use Rattle.gcd_event.specs.declared.event.Event.TheVariants.{Start, Act as Acted, Wake, End, Deliver, DeliverEnd, Tick, Ready, FeedEnd, Misuse, Halt, Expire, Accept, Shut}
use Rattle.gcd_history.specs.Choice.{is_work}
use Rattle.gcd_history.specs.Ends.{HasEnded, is_halted}
use Rattle.gcd_history.specs.History.{IsLawful, is_active}
use Rattle.gcd_machine.specs.Stands.{StandsFor}
use Rattle.gcd_machine.specs.declared.put.Put.{Put}
use Rattle.gcd_machine.proofs.Views.Calls.{lawful_stands}
use Rattle.gcd_outer.specs.Outside.{ClockState, Seen}
use Rattle.gcd_outer.specs.Tells.{PollerState}
use Rattle.gcd_outer.specs.declared.tell.Tell.{Tell}
use Rattle.gcd_refinement.specs.MachineView.{MachineView}
use Rattle.gcd_turn.specs.Asked.{AllWatched, IsPut, KeepsListens, WaitedFor}
use Rattle.gcd_turn.specs.Hearing.{FeedHeard, Heard}
use Rattle.gcd_turn.specs.Outsides.{Faced, IsFirst}
use Rattle.gcd_turn.specs.Promises.{IsHeard, IsTimely}
use Rattle.gcd_turn.specs.Timing.{TimeKept}
use Rattle.gcd_turn.specs.Turns.{OutlookView}
use Rattle.gcd_turn.proofs.Promised.{are_told}
use Rattle.gcd_turn.proofs.TimeSteps.{is_timely, time_on, time_waited}
use Rattle.gcd_loop.specs.Going.{GoesOn, GoesOnFrom, IsGoing, IsRunOn, IsTrueTo, WatchesActive, both, since}
use Rattle.gcd_loop.specs.Recorded.{Bounds, Grows, IsGrown, IsSight, Says}
use Rattle.gcd_loop.specs.Followed.{FollowsChoice, IsOfWorkers}
use Rattle.gcd_loop.specs.Ran.{RunsPlan}
use Rattle.gcd_loop.proofs.Goings.{Listens, going_expire, going_halt, going_on, going_tick, keeps_same}

-- the bounds of the run are as they were
pub sight_kept : (b d : Bounds) (h : List Event) (m : MachineView) → d ≡ b → IsSight d.most d.plan h m → IsSight b.most b.plan h m
sight_kept b d h m same sight = subst (λ (x : Bounds). IsSight x.most x.plan h m) same sight

pub sight_lawful : (most : ℕ) (plan : PlanView) (h : List Event) (m : MachineView) → IsSight most plan h m → IsLawful plan h
sight_lawful most plan h m s = lawful_stands m plan h s.stands

module _ (most : ℕ) (pt ct : Bool) (plan : PlanView) (stood : List Event) (before : PollerState) (early : ClockState) where
  -- what `ask` does
  pub asked_listens : (m : MachineView) (h : List Event) (p q : PollerState) (c d : ClockState) (o u : OutlookView) → u ≡ o → StandsFor m plan h
      → ((stood placed : List Event) (before : PollerState) → StandsFor m plan (stood ++ placed) → pt ≡ true → Heard plan stood placed before p o → Heard plan stood placed before q u)
      → KeepsListens pt p q → c.present ≤ d.present → (ct ≡ true → d.waited ≡ c.waited) → Listens most pt ct plan stood before early h p q c d o o
  asked_listens m h p q c d o u same stands heard kept on waited = record {
    heard = λ placed split tells hd.
        subst (λ (x : OutlookView). Heard plan stood placed before q x) same (heard stood placed before (subst (StandsFor m plan) split stands) tells hd);
    timely = λ placed split t. time_on ct plan stood placed early c d o.start on waited t;
    kept = kept;
  }

  -- what `ask_on` does
  pub later_listens : (h : List Event) (p : PollerState) (c d : ClockState) (o : OutlookView)
      → c.present ≤ d.present → (ct ≡ true → d.waited ≡ c.waited) → Listens most pt ct plan stood before early h p p c d o o
  later_listens h p c d o on waited = record {
    heard = λ placed split tells hd. hd;
    timely = λ placed split t. time_on ct plan stood placed early c d o.start on waited t;
    kept = keeps_same pt p;
  }

  -- poller, clock and what is kept of them are as they were
  pub same_going : (p q : PollerState) (c d : ClockState) (h : List Event) (o u : OutlookView) → q ≡ p → d ≡ c → u ≡ o
      → IsGoing most pt ct plan stood before early p c h o → IsGoing most pt ct plan stood before early q d h u
  same_going p q c d h o u poller clock same going =
      subst (λ (x : PollerState). IsGoing most pt ct plan stood before early x d h u) (sym poller)
      (subst (λ (x : ClockState). IsGoing most pt ct plan stood before early p x h u) (sym clock)
      (subst (λ (x : OutlookView). IsGoing most pt ct plan stood before early p c h x) (sym same) going))

  -- what `idle` does
  pub idle_listens : (m : MachineView) (h : List Event) (p q : PollerState) (c d : ClockState) (o u : OutlookView) → StandsFor m plan h → is_halted h ≡ false → AllWatched plan h p
      → ((stood placed : List Event) (before : PollerState) → StandsFor m plan (stood ++ placed) → is_halted (stood ++ placed) ≡ false → AllWatched plan (stood ++ placed) p → pt ≡ true
      → Heard plan stood placed before p o → Heard plan stood placed before q u)
      → u.start ≡ o.start → KeepsListens pt p q → c.present ≤ d.present → ((h : List Event) → StandsFor m plan h → ct ≡ true → WaitedFor plan h o.start c d)
      → Listens most pt ct plan stood before early h p q c d o u
  idle_listens m h p q c d o u stands unhalted watched heard start kept on waited = record {
    heard = λ placed split tells hd.
        heard stood placed before (subst (StandsFor m plan) split stands) (subst (λ (l : List Event). is_halted l ≡ false) split unhalted)
        (subst (λ (l : List Event). AllWatched plan l p) split watched) tells hd;
    timely = λ placed split t.
        subst (λ (s : ℕ). TimeKept ct plan stood placed early d s) (sym start)
        (time_waited ct plan stood placed early c d o.start on (λ tells. waited (stood ++ placed) (subst (StandsFor m plan) split stands) tells) t);
    kept = kept;
  }

  -- what the outlook asks to put of itself
  pub going_put : (p q : PollerState) (c d : ClockState) (h k : List Event) (o : OutlookView) (e : Event) (r : Put) → IsLawful plan k → length k ≤ most
      → IsPut plan h o.start d.present p q e → Says most plan e h k r → Listens most pt ct plan stood before early h p q c d o o
      → IsGoing most pt ct plan stood before early p c h o → IsGoing most pt ct plan stood before early q d k o
  going_put p q c d h k o (Start w b) r lawful few put said l going = absurd put
  going_put p q c d h k o (Acted w i j) r lawful few put said l going = absurd put
  going_put p q c d h k o (Wake w b) r lawful few put said l going = absurd put
  going_put p q c d h k o (End w b) r lawful few put said l going = absurd put
  going_put p q c d h k o (Deliver w s) r lawful few put said l going = absurd put
  going_put p q c d h k o (DeliverEnd w s) r lawful few put said l going = absurd put
  going_put p q c d h k o (Tick t) r lawful few put said l going =
      let due = put.0 in let at = due.at in let low = due.not_ahead in
      going_tick most pt ct plan stood before early q d h k o t r lawful few (omega (arith, at, low)) said
      (going_on most pt ct plan stood before early p q c d h o o l put.1 going)
  going_put p q c d h k o (Ready s n) r lawful few put said l going = absurd put
  going_put p q c d h k o (FeedEnd s) r lawful few put said l going = absurd put
  going_put p q c d h k o (Misuse w x i j) r lawful few put said l going = absurd put
  going_put p q c d h k o Halt r lawful few put said l going =
      going_halt most pt ct plan stood before early p q c d h k o o r lawful few said l put going
  going_put p q c d h k o (Expire b) r lawful few put said l going =
      going_expire most pt ct plan stood before early q d h k o b r lawful few said
      (going_on most pt ct plan stood before early p q c d h o o l put.1 going)
  going_put p q c d h k o (Accept b s) r lawful few put said l going = absurd put
  going_put p q c d h k o Shut r lawful few put said l going = absurd put

-- ## Before the first turn, and after the last

first_heard : (plan : PlanView) (h : List Event) (p : PollerState) (s : ℕ) → WatchesActive plan h p → FeedHeard plan h [] p p [] [] s
first_heard plan h p s active = record {
  active = λ w. subst (λ (l : List Event). is_active plan l s ≡ true) (sym (append-nil h)) (active s w);
  since = λ w. record { watched = w; since = inl w };
  unnamed = λ w. refl;
  unread = λ w. refl;
  front = record { rest = []; split = refl };
  whole = λ may. refl;
  unended = λ may ended. cc;
  due = λ ends. cc;
  ends = λ (k, within, at). absurd (omega (arith, within));
}

going_first : (most : ℕ) (pt ct : Bool) (plan : PlanView) (h : List Event) (p : PollerState) (early c : ClockState) (o : OutlookView)
    → WatchesActive plan h p → IsFirst ct early c o → IsGoing most pt ct plan h p early p c h o
going_first most pt ct plan h p early c o active first = record {
  placed = [];
  split = sym (append-nil h);
  heard = λ told. record {
    spoken = [];
    quiet = [];
    answers = sym (append-nil p.answers);
    more = [];
    watches = sym (append-nil p.watches);
    live = λ s path (k, within, at). absurd (omega (arith, within));
    paths = λ s path (k, within, at). absurd (omega (arith, within));
    feeds = λ s. subst (λ (ns : List Tell). FeedHeard plan h [] p p [] ns s) (sym first.news) (first_heard plan h p s active);
    pieces = rw first.news refl;
    counted = sym first.empties;
    empty = refl;
    past = let len = first.len in omega (arith, len);
    silent = λ some at s live. let empties = first.empties in absurd (omega (arith, some, empties));
  };
  timely = record {
    since = first.not_before;
    reached = first.reached;
    exact = first.told;
    ticks = λ t (k, within, at). absurd (omega (arith, within));
    waited = λ told. inl (first.waited told);
  };
  faults = record {
    halts = λ (k, within, at). absurd (omega (arith, within));
    stops = λ rose. absurd (omega (arith, rose));
  };
  kept = keeps_same pt p;
}

pub run_on : (b : Bounds) (h k : List Event) (f : Faced) (early : ClockState) → IsFirst f.clock.tells early f.clock.before f.before
    → HasEnded b.most b.plan k → GoesOn b h k f → IsRunOn b.most b.plan h k f.poller (since early f.clock)
run_on b h k f early first ended goes = record {
  ended = ended;
  true_to = λ active.
      let going = goes h f.poller.before early (going_first b.most f.poller.tells f.clock.tells b.plan h f.poller.before early f.clock.before f.before active first) in
      record {
        placed = going.placed;
        split = going.split;
        heard = record { told = λ tells. are_told b.plan h going.placed f.poller f.after (going.heard tells); faults = going.faults };
        timely = is_timely b.plan h going.placed (since early f.clock) f.after.start going.timely;
      };
}

-- two runs, one behind the other
pub goes_through : (b : Bounds) (h k l : List Event) (first later : Faced) → GoesOnFrom first later → GoesOn b h k first → GoesOn b k l later → GoesOn b h l (both first later)
goes_through b h k l first later from one two = λ stood before early going.
    let at = one stood before early going in
    subst (λ (t : Bool). IsGoing b.most t first.clock.tells b.plan stood before early later.poller.after later.clock.after l later.after) from.poller_tells
    (subst (λ (t : Bool). IsGoing b.most later.poller.tells t b.plan stood before early later.poller.after later.clock.after l later.after) from.clock_tells
    (two stood before early
    (subst (λ (t : Bool). IsGoing b.most t later.clock.tells b.plan stood before early later.poller.before later.clock.before k later.before) (sym from.poller_tells)
    (subst (λ (t : Bool). IsGoing b.most first.poller.tells t b.plan stood before early later.poller.before later.clock.before k later.before) (sym from.clock_tells)
    (subst (λ (p : PollerState). IsGoing b.most first.poller.tells first.clock.tells b.plan stood before early p later.clock.before k later.before) (sym from.poller)
    (subst (λ (c : ClockState). IsGoing b.most first.poller.tells first.clock.tells b.plan stood before early first.poller.after c k later.before) (sym from.clock)
    (subst (λ (o : OutlookView). IsGoing b.most first.poller.tells first.clock.tells b.plan stood before early first.poller.after first.clock.after k o) (sym from.outlook) at)))))))

-- ## The references of an outside that has ended hold what it had last

pub on_as : {P C : Type 0} (poller : P → PollerState) (clock : C → ClockState) (most : ℕ) (plan : PlanView) (h k : List Event) (pt ct : Bool) (p q : P) (a d : C) {r : P} {e : C}
    → r ≡ q → e ≡ d → IsRunOn most plan h k (record { tells = pt; before = poller p; after = poller q }) (record { tells = ct; before = clock a; after = clock d })
    → IsRunOn most plan h k (record { tells = pt; before = poller p; after = poller r }) (record { tells = ct; before = clock a; after = clock e })
on_as poller clock most plan h k pt ct p q a d {r} {e} same_poller same_clock on =
    subst (λ x. IsRunOn most plan h k (record { tells = pt; before = poller p; after = poller x }) (record { tells = ct; before = clock a; after = clock e })) (sym same_poller)
    (subst (λ x. IsRunOn most plan h k (record { tells = pt; before = poller p; after = poller q }) (record { tells = ct; before = clock a; after = clock x })) (sym same_clock) on)

pub kept_as : {P : Type 0} (poller : P → PollerState) (tells : Bool) (p q : P) {r : P} → r ≡ q → KeepsListens tells (poller p) (poller q) → KeepsListens tells (poller p) (poller r)
kept_as poller tells p q same kept = subst (λ x. KeepsListens tells (poller p) (poller x)) (sym same) kept

-- ## Answers that may be out of memory

pub ok_both : {T E : Type 0} (P Q : Type 0) (r : Result T E) → OnOk r P → OnOk r Q → OnOk r (P × Q)
ok_both P Q (Ok x) p q = (p, q)
ok_both P Q (Err e) p q = tt

-- ## For recorders

pub grows_none : (h : List Event) → Grows h h
grows_none h = record { rest = []; split = sym (append-nil h); work = refl }

pub grows_one : (h k : List Event) (e : Event) → k ≡ h ++ e ∷ [] → is_work e ≡ true → Grows h k
grows_one h k e is work = record { rest = e ∷ []; split = is; work = ap (λ (b : Bool). b && true) work }

pub grown : (most : ℕ) (plan : PlanView) (h k : List Event) (m : MachineView) → IsSight most plan k m → Grows h k → IsGrown most plan h k
grown most plan h k m sight grows = record { grows = grows; lawful = sight_lawful most plan k m sight; few = sight.few }

-- at the first beginning what is true to the rest is true to all
pub true_to_all : (most : ℕ) (plan : PlanView) (stood h : List Event) (poller : Seen PollerState) (clock : Seen ClockState) → stood ≡ []
    → IsTrueTo most plan stood h poller clock → IsHeard most plan [] h poller × IsTimely plan [] h clock
true_to_all most plan stood h poller clock none t =
    let all : t.placed ≡ h = ap (λ (l : List Event). l ++ t.placed) (sym none) ∙ sym t.split in (
      subst (λ (l : List Event). IsHeard most plan [] l poller) all (subst (λ (l : List Event). IsHeard most plan l t.placed poller) none t.heard),
      subst (λ (l : List Event). IsTimely plan [] l clock) all (subst (λ (l : List Event). IsTimely plan l t.placed clock) none t.timely),
    )

-- nothing more is seen
pub grown_same : (most : ℕ) (plan : PlanView) (h k : List Event) (m : MachineView) → IsSight most plan h m → k ≡ h → IsGrown most plan h k
grown_same most plan h k m sight same =
    subst (λ (l : List Event). IsGrown most plan h l) (sym same) (record { grows = grows_none h; lawful = sight_lawful most plan h m sight; few = sight.few })

-- what an engine promises of a run from its first event on, by a poller that watched no feed
pub runs_plan : (most : ℕ) (plan : PlanView) (workers : ℕ) (calls : List Event → Type 0) (h : List Event) (m : MachineView) (poller : Seen PollerState) (clock : Seen ClockState)
    → IsSight most plan h m → IsOfWorkers workers h → (workers ≡ 1 → FollowsChoice plan h) → calls h → ((s : ℕ) → poller.before.watched s ≡ false)
    → IsRunOn most plan [] h poller clock → RunsPlan most plan workers calls poller clock h
runs_plan most plan workers calls h m poller clock sight by chosen called unwatched on =
    let all = true_to_all most plan [] h poller clock refl (on.true_to (λ s w. absurd (both_ways (poller.before.watched s) (unwatched s) w))) in
    record {
      lawful = sight_lawful most plan h m sight;
      ended = on.ended;
      few = sight.few;
      by = by;
      chosen = chosen;
      called = called;
      timely = all.1;
      heard = all.0;
    }
