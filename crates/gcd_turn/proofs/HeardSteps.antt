-- What each step of a turn keeps of what was heard.
use Rattle.std.proofs.Common.{◌≡◌, ◌≤◌, ◌+◌, ◌∙◌, ◌++◌, ◌&&◌, ◌==◌, ℕ, Bool, true, false, List, [], ◌∷◌, None, Some, if◌then◌else◌, length, ap, sym, subst, refl, arith, append_assoc, drop, eq-eqb, ⊎_elim}
use Rattle.std.specs.Prelude.{Contains, nat_le, nat_lt}
use Rattle.std.specs.List.{list_all}
use Rattle.std.proofs.lemmas.Bool.{and_parts, both_ways, eqb-true}
use Rattle.std.proofs.lemmas.Bool.Decides.{nat_tests}
use Rattle.std.proofs.lemmas.List.{length-append, length_push}
use Rattle.std.proofs.lemmas.List.Elements.{Contains-push_cases}
use Rattle.std.proofs.lemmas.Option.{same_Some}
use Rattle.gcd_plan.specs.Limits.{max_value}
use Rattle.gcd_plan.specs.PlanView.{PlanView, path_of}
use Rattle.gcd_event.specs.declared.event.Event.{Event}
use Rattle.gcd_event.specs.declared.event.Event.TheVariants.{Start, Act as Acted, Wake, End, Deliver, DeliverEnd, Tick, Ready, FeedEnd, Misuse, Halt, Expire, Accept, Shut}
use Rattle.gcd_history.specs.History.{is_live_feed, why}
use Rattle.gcd_outer.specs.Tells.{PollerState}
use Rattle.gcd_outer.specs.declared.limits.TheConstants.{MAX_TELL_BYTES}
use Rattle.gcd_outer.specs.declared.tell.Tell.{Tell}
use Rattle.gcd_turn.specs.Hearing.{FeedHeard, Heard, MayEnd, is_news}
use Rattle.gcd_turn.specs.Promises.{WasLive, ready_by}
use Rattle.gcd_turn.specs.Turns.{OutlookView, event_of, first_event}
use Rattle.gcd_turn.proofs.FeedSteps.{feed_dropped, feed_ended, feed_other, feed_ready, more_at, same_for_others, same_news}
use Rattle.gcd_turn.proofs.HistoryMore.{feed_end_may_come, ready_may_come, was_live_more, was_live_now}
use Rattle.gcd_turn.proofs.PollSteps.{SameFeed, before_same, feed_same, feed_watched}

-- ## An event more

pub heard_placed : (plan : PlanView) (stood placed : List Event) (e : Event) (before now : PollerState) (o : OutlookView) (news : List Tell)
    → (hd : Heard plan stood placed before now o)
    → ((s : ℕ) → FeedHeard plan stood (placed ++ e ∷ []) before now (hd.spoken ++ hd.quiet) news s)
    → list_all is_news news ≡ true
    → Heard plan stood (placed ++ e ∷ []) before now (record o { news = news })
heard_placed plan stood placed e before now o news hd feeds pieces =
    let h : List Event = stood ++ placed in
    let more : stood ++ (placed ++ e ∷ []) ≡ h ++ e ∷ [] = more_at stood placed e in
    let longer : length (stood ++ (placed ++ e ∷ [])) ≡ length h + 1 = ap length more ∙ length_push h e in
    let past : o.len ≤ length h = hd.past in
    record {
      spoken = hd.spoken;
      quiet = hd.quiet;
      answers = hd.answers;
      more = hd.more;
      watches = hd.watches;
      live = λ s path made. subst (λ (k : List Event). WasLive plan k s) (sym more) (was_live_more plan h e s (hd.live s path made));
      paths = hd.paths;
      feeds = feeds;
      pieces = pieces;
      counted = hd.counted;
      empty = hd.empty;
      past = omega (arith, longer, past);
      silent = λ some same s live. absurd (omega (arith, longer, past, same));
    }

-- the event records what a poller told
abbrev pub is_told : Event → Bool
is_told (Start w b) = false
is_told (Acted w r i) = false
is_told (Wake w b) = false
is_told (End w b) = false
is_told (Deliver w s) = false
is_told (DeliverEnd w s) = false
is_told (Tick t) = false
is_told (Ready s n) = true
is_told (FeedEnd s) = true
is_told (Misuse w c r i) = false
is_told Halt = false
is_told (Expire b) = false
is_told (Accept b n) = false
is_told Shut = false

no_ready : (e : Event) (s : ℕ) → is_told e ≡ false → ready_by s e ≡ []
no_ready (Start w b) s h = refl
no_ready (Acted w r i) s h = refl
no_ready (Wake w b) s h = refl
no_ready (End w b) s h = refl
no_ready (Deliver w t) s h = refl
no_ready (DeliverEnd w t) s h = refl
no_ready (Tick t) s h = refl
no_ready (Ready t n) s h = cc
no_ready (FeedEnd t) s h = refl
no_ready (Misuse w c r i) s h = refl
no_ready Halt s h = refl
no_ready (Expire b) s h = refl
no_ready (Accept b n) s h = refl
no_ready Shut s h = refl

no_end : (e : Event) (s : ℕ) → is_told e ≡ false → e ≡ FeedEnd (record { 0 = s }) → ⊥
no_end e s h same = both_ways _ h (ap is_told same)

pub heard_grown : (plan : PlanView) (stood placed : List Event) (e : Event) (before now : PollerState) (o : OutlookView)
    → is_told e ≡ false → why plan (stood ++ placed) e ≡ None
    → Heard plan stood placed before now o → Heard plan stood (placed ++ e ∷ []) before now o
heard_grown plan stood placed e before now o untold permitted hd =
    heard_placed plan stood placed e before now o o.news hd
    (λ s. feed_other plan stood placed e before now (hd.spoken ++ hd.quiet) o.news o.news s (no_ready e s untold) (no_end e s untold) permitted (same_news s o.news) (hd.feeds s))
    hd.pieces

-- ## The first of the news

-- the feed of a FeedEnd, and 0 for any other event
abbrev feed_ended_by : Event → ℕ
feed_ended_by (Start w b) = 0
feed_ended_by (Acted w r i) = 0
feed_ended_by (Wake w b) = 0
feed_ended_by (End w b) = 0
feed_ended_by (Deliver w s) = 0
feed_ended_by (DeliverEnd w s) = 0
feed_ended_by (Tick t) = 0
feed_ended_by (Ready s n) = 0
feed_ended_by (FeedEnd s) = s.0
feed_ended_by (Misuse w c r i) = 0
feed_ended_by Halt = 0
feed_ended_by (Expire b) = 0
feed_ended_by (Accept b n) = 0
feed_ended_by Shut = 0

first_end : (plan : PlanView) (stood placed : List Event) (before now : PollerState) (A : List (List Tell)) (t : Tell) (rest : List Tell) (s : ℕ)
    → t.ended ≡ true → (t.bytes == 0) ≡ true → why plan (stood ++ placed) (FeedEnd (record { 0 = t.feed })) ≡ None
    → FeedHeard plan stood placed before now A (t ∷ rest) s
    → FeedHeard plan stood (placed ++ FeedEnd (record { 0 = t.feed }) ∷ []) before now A rest s
first_end plan stood placed before now A t rest s ended none permitted f =
    elim (t.feed == s) as (λ v. (t.feed == s) ≡ v → FeedHeard plan stood (placed ++ FeedEnd (record { 0 = t.feed }) ∷ []) before now A rest s) [
      | true ↦ λ named.
          let at : t.feed ≡ s = eqb-true t.feed s named in
          subst (λ (k : ℕ). FeedHeard plan stood (placed ++ FeedEnd (record { 0 = k }) ∷ []) before now A rest s) (sym at)
          (feed_ended plan stood placed before now A t rest s named ended none
          (subst (λ (k : ℕ). why plan (stood ++ placed) (FeedEnd (record { 0 = k })) ≡ None) at permitted) f)
      | false ↦ λ other.
          feed_other plan stood placed (FeedEnd (record { 0 = t.feed })) before now A (t ∷ rest) rest s refl
          (λ (same : FeedEnd (record { 0 = t.feed }) ≡ FeedEnd (record { 0 = s })). both_ways _ other (eq-eqb t.feed s (ap feed_ended_by same)))
          permitted (same_for_others s t rest other) f
    ] refl

first_ready : (plan : PlanView) (stood placed : List Event) (before now : PollerState) (A : List (List Tell)) (t : Tell) (rest : List Tell) (s : ℕ)
    → t.ended ≡ false → (t.bytes == 0) ≡ false → why plan (stood ++ placed) (Ready (record { 0 = t.feed }) t.bytes) ≡ None
    → FeedHeard plan stood placed before now A (t ∷ rest) s
    → FeedHeard plan stood (placed ++ Ready (record { 0 = t.feed }) t.bytes ∷ []) before now A rest s
first_ready plan stood placed before now A t rest s unended some permitted f =
    elim (t.feed == s) as (λ v. (t.feed == s) ≡ v → FeedHeard plan stood (placed ++ Ready (record { 0 = t.feed }) t.bytes ∷ []) before now A rest s) [
      | true ↦ λ named.
          let at : t.feed ≡ s = eqb-true t.feed s named in
          subst (λ (k : ℕ). FeedHeard plan stood (placed ++ Ready (record { 0 = k }) t.bytes ∷ []) before now A rest s) (sym at)
          (feed_ready plan stood placed before now A t rest s named unended some
          (subst (λ (k : ℕ). why plan (stood ++ placed) (Ready (record { 0 = k }) t.bytes) ≡ None) at permitted) f)
      | false ↦ λ other.
          feed_other plan stood placed (Ready (record { 0 = t.feed }) t.bytes) before now A (t ∷ rest) rest s
          (ap (λ (b : Bool). if b then t.bytes ∷ [] else []) other)
          (λ (same : Ready (record { 0 = t.feed }) t.bytes ≡ FeedEnd (record { 0 = s })). cc)
          permitted (same_for_others s t rest other) f
    ] refl

-- a piece of news that is no end has bytes
bytes_of_news : (n : ℕ) (ended : Bool) → ended ≡ false → (if ended then n == 0 else nat_lt 0 n && nat_le n MAX_TELL_BYTES) ≡ true
    → (nat_lt 0 n && nat_le n max_value) ≡ true
bytes_of_news n ended unended news = sym (ap (λ (b : Bool). if b then n == 0 else nat_lt 0 n && nat_le n MAX_TELL_BYTES) unended) ∙ news

none_of_news : (n : ℕ) (ended : Bool) → ended ≡ true → (if ended then n == 0 else nat_lt 0 n && nat_le n MAX_TELL_BYTES) ≡ true → (n == 0) ≡ true
none_of_news n ended is news = sym (ap (λ (b : Bool). if b then n == 0 else nat_lt 0 n && nat_le n MAX_TELL_BYTES) is) ∙ news

not_none : (n : ℕ) → nat_lt 0 n ≡ true → (n == 0) ≡ false
not_none n h = grind (arith, nat_tests)

first_of_news : (plan : PlanView) (stood placed : List Event) (before now : PollerState) (A : List (List Tell)) (t : Tell) (rest : List Tell) (s : ℕ)
    → is_news t ≡ true → why plan (stood ++ placed) (event_of t) ≡ None
    → FeedHeard plan stood placed before now A (t ∷ rest) s
    → FeedHeard plan stood (placed ++ event_of t ∷ []) before now A rest s
first_of_news plan stood placed before now A t rest s news permitted f =
    let pick : Bool → Event = λ v. if v then FeedEnd (record { 0 = t.feed }) else Ready (record { 0 = t.feed }) t.bytes in
    elim t.ended as (λ v. t.ended ≡ v → FeedHeard plan stood (placed ++ event_of t ∷ []) before now A rest s) [
      | true ↦ λ ended.
          let is : event_of t ≡ FeedEnd (record { 0 = t.feed }) = ap pick ended in
          subst (λ (x : Event). FeedHeard plan stood (placed ++ x ∷ []) before now A rest s) (sym is)
          (first_end plan stood placed before now A t rest s ended (none_of_news t.bytes t.ended ended news)
          (subst (λ (x : Event). why plan (stood ++ placed) x ≡ None) is permitted) f)
      | false ↦ λ unended.
          let is : event_of t ≡ Ready (record { 0 = t.feed }) t.bytes = ap pick unended in
          let fits = and_parts (nat_lt 0 t.bytes) (nat_le t.bytes max_value) (bytes_of_news t.bytes t.ended unended news) in
          subst (λ (x : Event). FeedHeard plan stood (placed ++ x ∷ []) before now A rest s) (sym is)
          (first_ready plan stood placed before now A t rest s unended (not_none t.bytes fits.0)
          (subst (λ (x : Event). why plan (stood ++ placed) x ≡ None) is permitted) f)
    ] refl

-- the first of the news is recorded
pub heard_told : (plan : PlanView) (stood placed : List Event) (e : Event) (before now : PollerState) (o : OutlookView) (news : List Tell)
    → first_event news ≡ Some e → why plan (stood ++ placed) e ≡ None
    → Heard plan stood placed before now (record o { news = news })
    → Heard plan stood (placed ++ e ∷ []) before now (record o { news = drop 1 news })
heard_told plan stood placed e before now o [] first permitted hd = cc
heard_told plan stood placed e before now o (t ∷ rest) first permitted hd =
    let is : event_of t ≡ e = same_Some (event_of t) e first in
    let pieces = and_parts (is_news t) (list_all is_news rest) hd.pieces in
    subst (λ (x : Event). Heard plan stood (placed ++ x ∷ []) before now (record o { news = rest })) is
    (heard_placed plan stood placed (event_of t) before now (record o { news = t ∷ rest }) rest hd
    (λ s. first_of_news plan stood placed before now (hd.spoken ++ hd.quiet) t rest s pieces.0
    (subst (λ (x : Event). why plan (stood ++ placed) x ≡ None) (sym is) permitted) (hd.feeds s))
    pieces.1)

-- ## Other news

heard_news : (plan : PlanView) (stood placed : List Event) (before now : PollerState) (o : OutlookView) (news : List Tell)
    → (hd : Heard plan stood placed before now o)
    → ((s : ℕ) → FeedHeard plan stood placed before now (hd.spoken ++ hd.quiet) news s)
    → list_all is_news news ≡ true
    → Heard plan stood placed before now (record o { news = news })
heard_news plan stood placed before now o news hd feeds pieces = record {
  spoken = hd.spoken;
  quiet = hd.quiet;
  answers = hd.answers;
  more = hd.more;
  watches = hd.watches;
  live = hd.live;
  paths = hd.paths;
  feeds = feeds;
  pieces = pieces;
  counted = hd.counted;
  empty = hd.empty;
  past = hd.past;
  silent = hd.silent;
}

barred_ends : (plan : PlanView) (h : List Event) (t : Tell) → is_news t ≡ true → (why plan h (event_of t) ≡ None → ⊥) → MayEnd plan h t.feed → ⊥
barred_ends plan h t news barred may =
    let pick : Bool → Event = λ v. if v then FeedEnd (record { 0 = t.feed }) else Ready (record { 0 = t.feed }) t.bytes in
    elim t.ended as (λ v. t.ended ≡ v → ⊥) [
      | true ↦ λ ended.
          let is : event_of t ≡ FeedEnd (record { 0 = t.feed }) = ap pick ended in
          barred (subst (λ (x : Event). why plan h x ≡ None) (sym is) (feed_end_may_come plan h (record { 0 = t.feed }) may))
      | false ↦ λ unended.
          let is : event_of t ≡ Ready (record { 0 = t.feed }) t.bytes = ap pick unended in
          barred (subst (λ (x : Event). why plan h x ≡ None) (sym is)
          (ready_may_come plan h (record { 0 = t.feed }) t.bytes may (bytes_of_news t.bytes t.ended unended news)))
    ] refl

-- the first of the news is not permitted, and is dropped
pub heard_barred : (plan : PlanView) (stood placed : List Event) (e : Event) (before now : PollerState) (o : OutlookView) (news : List Tell)
    → first_event news ≡ Some e → (why plan (stood ++ placed) e ≡ None → ⊥)
    → Heard plan stood placed before now (record o { news = news })
    → Heard plan stood placed before now (record o { news = drop 1 news })
heard_barred plan stood placed e before now o [] first barred hd = hd
heard_barred plan stood placed e before now o (t ∷ rest) first barred hd =
    let is : event_of t ≡ e = same_Some (event_of t) e first in
    let pieces = and_parts (is_news t) (list_all is_news rest) hd.pieces in
    let never : MayEnd plan (stood ++ placed) t.feed → ⊥ =
    barred_ends plan (stood ++ placed) t pieces.0 (λ (p : why plan (stood ++ placed) (event_of t) ≡ None). barred (subst (λ (x : Event). why plan (stood ++ placed) x ≡ None) is p)) in
    heard_news plan stood placed before now (record o { news = t ∷ rest }) rest hd
    (λ s. feed_dropped plan stood placed before now (hd.spoken ++ hd.quiet) t rest s never (hd.feeds s)) pieces.1

-- ## A poller that has not changed

-- no feed was watched and nothing was told
pub record SamePoller (now next : PollerState) : Type 0 where
  pub feeds : (s : ℕ) → SameFeed now next s
  pub answers : next.answers ≡ now.answers
  pub watches : next.watches ≡ now.watches

pub heard_same : (plan : PlanView) (stood placed : List Event) (before now next : PollerState) (o : OutlookView)
    → SamePoller now next → Heard plan stood placed before now o → Heard plan stood placed before next o
heard_same plan stood placed before now next o same hd = record {
  spoken = hd.spoken;
  quiet = hd.quiet;
  answers = same.answers ∙ hd.answers;
  more = hd.more;
  watches = same.watches ∙ hd.watches;
  live = hd.live;
  paths = hd.paths;
  feeds = λ s. feed_same plan stood placed before now next (hd.spoken ++ hd.quiet) o.news s (same.feeds s) (hd.feeds s);
  pieces = hd.pieces;
  counted = hd.counted;
  empty = hd.empty;
  past = hd.past;
  silent = λ some at s live. before_same before now next (length hd.spoken) s (same.feeds s) (hd.silent some at s live);
}

-- ## A watch

-- feed w is watched from now on, under the path
pub record IsWatch (now next : PollerState) (w : ℕ) (path : List ℕ) : Type 0 where
  pub watched : next.watched w ≡ true
  pub at : next.watched_at w ≡ length now.answers
  pub others : (s : ℕ) → (s ≡ w → ⊥) → SameFeed now next s
  pub answers : next.answers ≡ now.answers
  pub watches : next.watches ≡ now.watches ++ (w, path) ∷ []

pub heard_watch : (plan : PlanView) (stood placed : List Event) (before now next : PollerState) (o : OutlookView) (w : ℕ) (path : List ℕ)
    → now.watched w ≡ false → is_live_feed plan (stood ++ placed) w ≡ true → path ≡ path_of plan w → IsWatch now next w path
    → Heard plan stood placed before now o → Heard plan stood placed before next o
heard_watch plan stood placed before now next o w path unwatched live path_is is hd =
    let h : List Event = stood ++ placed in
    let A : List (List Tell) = hd.spoken ++ hd.quiet in
    let at : next.watched_at w ≡ length before.answers + length A = is.at ∙ ap length hd.answers ∙ length-append before.answers A in
    record {
      spoken = hd.spoken;
      quiet = hd.quiet;
      answers = is.answers ∙ hd.answers;
      more = hd.more ++ (w, path) ∷ [];
      watches = is.watches ∙ ap (λ (ws : List (ℕ × List ℕ)). ws ++ (w, path) ∷ []) hd.watches ∙ append_assoc before.watches hd.more ((w, path) ∷ []);
      live = λ s p made.
          ⊎_elim (λ (old : Contains hd.more (s, p)). hd.live s p old)
          (λ (own : (w, path) ≡ (s, p)). subst (λ (k : ℕ). WasLive plan h k) (ap (λ (x : ℕ × List ℕ). x.0) own) (was_live_now plan h w live))
          (Contains-push_cases hd.more (w, path) (s, p) made);
      paths = λ s p made.
          ⊎_elim (λ (old : Contains hd.more (s, p)). hd.paths s p old)
          (λ (own : (w, path) ≡ (s, p)).
          sym (ap (λ (x : ℕ × List ℕ). x.1) own) ∙ path_is ∙ ap (λ (x : ℕ × List ℕ). path_of plan x.0) own)
          (Contains-push_cases hd.more (w, path) (s, p) made);
      feeds = λ s.
          elim (w == s) as (λ v. (w == s) ≡ v → FeedHeard plan stood placed before next A o.news s) [
            | true ↦ λ own.
                subst (λ (k : ℕ). FeedHeard plan stood placed before next A o.news k) (eqb-true w s own)
                (feed_watched plan stood placed before now next A o.news w unwatched live is.watched at (hd.feeds w))
            | false ↦ λ other.
                feed_same plan stood placed before now next A o.news s (is.others s (λ (e : s ≡ w). both_ways _ other (eq-eqb w s (sym e)))) (hd.feeds s)
          ] refl;
      pieces = hd.pieces;
      counted = hd.counted;
      empty = hd.empty;
      past = hd.past;
      silent = λ some same s lives. absurd (both_ways _ unwatched (hd.silent some same w live).watched);
    }
