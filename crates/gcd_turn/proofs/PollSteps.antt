-- What a watch and a poll keep of one feed.
use Rattle.std.proofs.Common.{◌≡◌, ◌≤◌, ◌+◌, ◌∙◌, ◌++◌, ◌||◌, ◌&&◌, ◌==◌, ℕ, Bool, true, false, List, [], ◌∷◌, if◌then◌else◌, length, ap, sym, subst, refl, arith, append-nil, append_assoc, ⊎_elim, inl, inr}
use Rattle.std.specs.Prelude.{nat_le, nat_lt}
use Rattle.std.specs.List.{list_all, list_any}
use Rattle.std.proofs.lemmas.Bool.{and_parts, both_ways, le-leb, or_left, or_parts, or_right}
use Rattle.std.proofs.lemmas.Bool.Decides.{nat_tests}
use Rattle.std.proofs.Math.Bool.{or-false}
use Rattle.std.proofs.lemmas.List.{length-append}
use Rattle.std.proofs.lemmas.List.Folds.{list_any-append}
use Rattle.gcd_plan.specs.PlanView.{PlanView}
use Rattle.gcd_event.specs.declared.event.Event.{Event}
use Rattle.gcd_history.specs.Ends.{is_halted}
use Rattle.gcd_history.specs.History.{is_live_feed}
use Rattle.gcd_outer.specs.Tells.{AreTells, PollerState, ended_after, has_end, is_empty_answer, is_end_told, is_named, tell_bytes, told_in, told_of}
use Rattle.gcd_outer.specs.declared.limits.TheConstants.{MAX_TELL_BYTES}
use Rattle.gcd_outer.specs.declared.tell.Tell.{Tell}
use Rattle.gcd_outer.proofs.ToldLemmas.{is_end_told-append, told_of-append, told_of-one}
use Rattle.gcd_turn.specs.Hearing.{FeedHeard, MayEnd, is_news}
use Rattle.gcd_turn.specs.Promises.{Begins, FeedEnds, WasSilent, WatchedBefore, readies_of}
use Rattle.gcd_turn.specs.Promises.FeedEnds.{told, silent}
use Rattle.gcd_turn.specs.Turns.{news_by, news_of}
use Rattle.gcd_turn.specs.declared.limits.TheConstants.{EMPTY_ANSWERS}
use Rattle.gcd_turn.proofs.FeedSteps.{begins_through}
use Rattle.gcd_turn.proofs.HistoryMore.{live_facts}

-- ## A poller that has not changed at the feed

pub record SameFeed (now next : PollerState) (s : ℕ) : Type 0 where
  pub watched : next.watched s ≡ now.watched s
  pub at : next.watched_at s ≡ now.watched_at s

pub before_same : (before now next : PollerState) (n s : ℕ) → SameFeed now next s → WatchedBefore before now n s → WatchedBefore before next n s
before_same before now next n s same was = record {
  watched = same.watched ∙ was.watched;
  since = ⊎_elim (λ (old : before.watched s ≡ true). inl old)
      (λ (late : now.watched_at s ≤ length before.answers + n). inr (subst (λ (k : ℕ). k ≤ length before.answers + n) (sym same.at) late)) was.since;
}

silent_same : (before now next : PollerState) (A : List (List Tell)) (had : List ℕ) (s : ℕ) → SameFeed now next s → WasSilent before now A had s → WasSilent before next A had s
silent_same before now next A had s same was = record {
  earlier = was.earlier;
  quiet = was.quiet;
  later = was.later;
  split = was.split;
  watched = before_same before now next (length was.earlier) s same was.watched;
  long = was.long;
  empty = was.empty;
  had_all = was.had_all;
}

ends_same : (before now next : PollerState) (A : List (List Tell)) (had : List ℕ) (s : ℕ) → SameFeed now next s → FeedEnds before now A had s → FeedEnds before next A had s
ends_same before now next A had s same (told was all) = told was all
ends_same before now next A had s same (silent was) = silent (silent_same before now next A had s same was)

pub feed_same : (plan : PlanView) (stood placed : List Event) (before now next : PollerState) (A : List (List Tell)) (news : List Tell) (s : ℕ)
    → SameFeed now next s → FeedHeard plan stood placed before now A news s → FeedHeard plan stood placed before next A news s
feed_same plan stood placed before now next A news s same f = record {
  active = λ w. f.active (sym same.watched ∙ w);
  since = λ w. before_same before now next (length A) s same (f.since (sym same.watched ∙ w));
  unnamed = λ w. f.unnamed (sym same.watched ∙ w);
  unread = λ w. f.unread (sym same.watched ∙ w);
  front = f.front;
  whole = f.whole;
  unended = f.unended;
  due = λ ends.
      ⊎_elim (λ (was : is_end_told s A ≡ true). inl was)
      (λ (was : WasSilent before now A (readies_of s placed) s). inr (silent_same before now next A (readies_of s placed) s same was)) (f.due ends);
  ends = λ stands. ends_same before now next A (readies_of s placed) s same (f.ends stands);
}

-- ## A live feed is watched

never_silent : (before now next : PollerState) (A : List (List Tell)) (had : List ℕ) (s : ℕ) → now.watched s ≡ false → FeedEnds before now A had s → FeedEnds before next A had s
never_silent before now next A had s unwatched (told was all) = told was all
never_silent before now next A had s unwatched (silent was) = absurd (both_ways _ unwatched was.watched.watched)

pub feed_watched : (plan : PlanView) (stood placed : List Event) (before now next : PollerState) (A : List (List Tell)) (news : List Tell) (s : ℕ)
    → now.watched s ≡ false → is_live_feed plan (stood ++ placed) s ≡ true → next.watched s ≡ true → next.watched_at s ≡ length before.answers + length A
    → FeedHeard plan stood placed before now A news s → FeedHeard plan stood placed before next A news s
feed_watched plan stood placed before now next A news s unwatched live watched at f = record {
  active = λ w. (live_facts plan (stood ++ placed) s live).active;
  since = λ w. record { watched = watched; since = inr (omega (arith, at)) };
  unnamed = λ w. absurd (both_ways _ w watched);
  unread = λ w. absurd (both_ways _ w watched);
  front = f.front;
  whole = f.whole;
  unended = f.unended;
  due = λ ends.
      ⊎_elim (λ (was : is_end_told s A ≡ true). inl was)
      (λ (was : WasSilent before now A (readies_of s placed) s). absurd (both_ways _ unwatched was.watched.watched)) (f.due ends);
  ends = λ stands. never_silent before now next A (readies_of s placed) s unwatched (f.ends stands);
}

-- ## The news of an answer

-- one tell says of a feed what its news says
abbrev SaysTold : ℕ → Tell → List Tell → Type 0
SaysTold s t rest = told_in s (news_by t ++ rest) ≡ told_in s (t ∷ rest)

told_by : (s : ℕ) (t : Tell) (rest : List Tell) → SaysTold s t rest
told_by s t rest =
    elim (t.bytes == 0) as (λ v. (t.bytes == 0) ≡ v → SaysTold s t rest) [
      | true ↦ λ z. elim t.ended as (λ v. t.ended ≡ v → SaysTold s t rest) [
        | true ↦ λ e. elim (t.feed == s) as (λ v. (t.feed == s) ≡ v → SaysTold s t rest) [ true ↦ λ n. rw (z, e, n) refl | false ↦ λ n. rw (z, e, n) refl ] refl
        | false ↦ λ e. elim (t.feed == s) as (λ v. (t.feed == s) ≡ v → SaysTold s t rest) [ true ↦ λ n. rw (z, e, n) refl | false ↦ λ n. rw (z, e, n) refl ] refl
      ] refl
      | false ↦ λ z. let b : tell_bytes (record { feed = t.feed; bytes = t.bytes; ended = false }) ≡ t.bytes ∷ [] = ap (λ (v : Bool). if v then [] else t.bytes ∷ []) z in elim t.ended as (λ v. t.ended ≡ v → SaysTold s t rest) [
        | true ↦ λ e. elim (t.feed == s) as (λ v. (t.feed == s) ≡ v → SaysTold s t rest) [ true ↦ λ n. rw (z, e, n, b) refl | false ↦ λ n. rw (z, e, n) refl ] refl
        | false ↦ λ e. elim (t.feed == s) as (λ v. (t.feed == s) ≡ v → SaysTold s t rest) [ true ↦ λ n. rw (z, e, n, b) refl | false ↦ λ n. rw (z, e, n) refl ] refl
      ] refl
    ] refl

abbrev SaysEnd : ℕ → Tell → List Tell → Type 0
SaysEnd s t rest = has_end s (news_by t ++ rest) ≡ has_end s (t ∷ rest)

end_by : (s : ℕ) (t : Tell) (rest : List Tell) → SaysEnd s t rest
end_by s t rest =
    elim (t.bytes == 0) as (λ v. (t.bytes == 0) ≡ v → SaysEnd s t rest) [
      | true ↦ λ z. elim t.ended as (λ v. t.ended ≡ v → SaysEnd s t rest) [
        | true ↦ λ e. elim (t.feed == s) as (λ v. (t.feed == s) ≡ v → SaysEnd s t rest) [ true ↦ λ n. rw (z, e, n) refl | false ↦ λ n. rw (z, e, n) refl ] refl
        | false ↦ λ e. elim (t.feed == s) as (λ v. (t.feed == s) ≡ v → SaysEnd s t rest) [ true ↦ λ n. rw (z, e, n) refl | false ↦ λ n. rw (z, e, n) refl ] refl
      ] refl
      | false ↦ λ z. elim t.ended as (λ v. t.ended ≡ v → SaysEnd s t rest) [
        | true ↦ λ e. elim (t.feed == s) as (λ v. (t.feed == s) ≡ v → SaysEnd s t rest) [ true ↦ λ n. rw (z, e, n) refl | false ↦ λ n. rw (z, e, n) refl ] refl
        | false ↦ λ e. elim (t.feed == s) as (λ v. (t.feed == s) ≡ v → SaysEnd s t rest) [ true ↦ λ n. rw (z, e, n) refl | false ↦ λ n. rw (z, e, n) refl ] refl
      ] refl
    ] refl

abbrev SaysNoName : ℕ → Tell → List Tell → Type 0
SaysNoName s t rest = (t.feed == s) ≡ false → is_named s rest ≡ false → is_named s (news_by t ++ rest) ≡ false

name_by : (s : ℕ) (t : Tell) (rest : List Tell) → SaysNoName s t rest
name_by s t rest =
    elim (t.bytes == 0) as (λ v. (t.bytes == 0) ≡ v → SaysNoName s t rest) [
      | true ↦ λ z. elim t.ended as (λ v. t.ended ≡ v → SaysNoName s t rest) [
        | true ↦ λ e. λ other none. rw (z, e, other) none
        | false ↦ λ e. λ other none. rw (z, e) none
      ] refl
      | false ↦ λ z. elim t.ended as (λ v. t.ended ≡ v → SaysNoName s t rest) [
        | true ↦ λ e. λ other none. rw (z, e, other) none
        | false ↦ λ e. λ other none. rw (z, e, other) none
      ] refl
    ] refl

abbrev SaysPieces : Tell → List Tell → Type 0
SaysPieces t rest = nat_le t.bytes MAX_TELL_BYTES ≡ true → list_all is_news rest ≡ true → list_all is_news (news_by t ++ rest) ≡ true

some_bytes : (n : ℕ) → (n == 0) ≡ false → nat_lt 0 n ≡ true
some_bytes n h = grind (arith, nat_tests)

pieces_by : (t : Tell) (rest : List Tell) → SaysPieces t rest
pieces_by t rest =
    elim (t.bytes == 0) as (λ v. (t.bytes == 0) ≡ v → SaysPieces t rest) [
      | true ↦ λ z. elim t.ended as (λ v. t.ended ≡ v → SaysPieces t rest) [
        | true ↦ λ e. λ few all. rw (z, e) all
        | false ↦ λ e. λ few all. rw (z, e) all
      ] refl
      | false ↦ λ z. elim t.ended as (λ v. t.ended ≡ v → SaysPieces t rest) [
        | true ↦ λ e. λ few all. let some : nat_lt 0 t.bytes ≡ true = some_bytes t.bytes z in rw (z, e, some, few) all
        | false ↦ λ e. λ few all. let some : nat_lt 0 t.bytes ≡ true = some_bytes t.bytes z in rw (z, e, some, few) all
      ] refl
    ] refl

pub told_in-news : (s : ℕ) (ts : List Tell) → told_in s (news_of ts) ≡ told_in s ts
told_in-news s [] = refl
told_in-news s (t ∷ ts) =
    told_by s t (news_of ts)
    ∙ ap (λ (r : List ℕ). if t.feed == s then tell_bytes t ++ (if t.ended then [] else r) else r) (told_in-news s ts)

pub has_end-news : (s : ℕ) (ts : List Tell) → has_end s (news_of ts) ≡ has_end s ts
has_end-news s [] = refl
has_end-news s (t ∷ ts) = end_by s t (news_of ts) ∙ ap (λ (b : Bool). (t.feed == s && t.ended) || b) (has_end-news s ts)

pub unnamed-news : (s : ℕ) (ts : List Tell) → is_named s ts ≡ false → is_named s (news_of ts) ≡ false
unnamed-news s [] h = refl
unnamed-news s (t ∷ ts) h =
    let parts = or_parts (t.feed == s) (is_named s ts) h in name_by s t (news_of ts) parts.0 (unnamed-news s ts parts.1)

pub pieces-news : (watched ended : ℕ → Bool) (ts : List Tell) → AreTells watched ended ts → list_all is_news (news_of ts) ≡ true
pieces-news watched ended [] tells = refl
pieces-news watched ended (t ∷ ts) tells =
    pieces_by t (news_of ts) (le-leb _ _ tells.2) (pieces-news watched (ended_after ended t) ts tells.3)

-- an empty answer has no news
empty_by : (t : Tell) (rest : List Tell) → (t.bytes == 0 && (if t.ended then false else true)) ≡ true → news_by t ++ rest ≡ rest
empty_by t rest h =
    elim (t.bytes == 0) as (λ v. (t.bytes == 0) ≡ v → news_by t ++ rest ≡ rest) [
      | true ↦ λ z. elim t.ended as (λ v. t.ended ≡ v → news_by t ++ rest ≡ rest) [
        | true ↦ λ e. let bad : (if t.ended then false else true) ≡ true = (and_parts (t.bytes == 0) (if t.ended then false else true) h).1 in
            absurd (both_ways _ (rw e refl) bad)
        | false ↦ λ e. rw (z, e) refl
      ] refl
      | false ↦ λ z. absurd (both_ways _ z (and_parts (t.bytes == 0) (if t.ended then false else true) h).0)
    ] refl

pub news-empty : (ts : List Tell) → is_empty_answer ts ≡ true → news_of ts ≡ []
news-empty [] h = refl
news-empty (t ∷ ts) h =
    let parts = and_parts (t.bytes == 0 && (if t.ended then false else true)) (is_empty_answer ts) h in
    empty_by t (news_of ts) parts.0 ∙ news-empty ts parts.1

-- ## An answer

-- what was silent was so with an answer more
silent_longer : (before now : PollerState) (A : List (List Tell)) (t : List Tell) (had : List ℕ) (s : ℕ) → WasSilent before now A had s → WasSilent before now (A ++ t ∷ []) had s
silent_longer before now A t had s was = record {
  earlier = was.earlier;
  quiet = was.quiet;
  later = was.later ++ t ∷ [];
  split = ap (λ (q : List (List Tell)). q ++ t ∷ []) was.split
      ∙ append_assoc was.earlier (was.quiet ++ was.later) (t ∷ [])
      ∙ ap (λ (q : List (List Tell)). was.earlier ++ q) (append_assoc was.quiet was.later (t ∷ []));
  watched = was.watched;
  long = was.long;
  empty = was.empty;
  had_all = was.had_all;
}

pub before_later : (before now : PollerState) (m n s : ℕ) → m ≤ n → WatchedBefore before now m s → WatchedBefore before now n s
before_later before now m n s more was = record {
  watched = was.watched;
  since = ⊎_elim (λ (old : before.watched s ≡ true). inl old)
      (λ (late : now.watched_at s ≤ length before.answers + m). inr (omega arith)) was.since;
}

-- where a FeedEnd may come and there is no news no end was told
not_ended : (plan : PlanView) (stood placed : List Event) (before now : PollerState) (A : List (List Tell)) (s : ℕ) → MayEnd plan (stood ++ placed) s
    → FeedHeard plan stood placed before now A [] s → is_end_told s A ≡ false
not_ended plan stood placed before now A s may f =
    elim (is_end_told s A) as (λ v. is_end_told s A ≡ v → v ≡ false) [
      | true ↦ λ was. let bad : false ≡ true = f.unended may was in cc
      | false ↦ λ was. refl
    ] refl

ends_more : (before now : PollerState) (A : List (List Tell)) (t : List Tell) (had : List ℕ) (s : ℕ) → FeedEnds before now A had s → FeedEnds before now (A ++ t ∷ []) had s
ends_more before now A t had s (told was all) =
    told (is_end_told-append s A (t ∷ []) ∙ or_left _ _ was)
    (told_of-append s A (t ∷ []) ∙ ap (λ (b : Bool). told_of s A ++ (if b then [] else told_of s (t ∷ []))) was ∙ append-nil (told_of s A) ∙ all)
ends_more before now A t had s (silent was) = silent (silent_longer before now A t had s was)

pub feed_answered : (plan : PlanView) (stood placed : List Event) (before now : PollerState) (A : List (List Tell)) (t : List Tell) (s : ℕ)
    → (now.watched s ≡ false → is_named s t ≡ false)
    → FeedHeard plan stood placed before now A [] s → FeedHeard plan stood placed before now (A ++ t ∷ []) (news_of t) s
feed_answered plan stood placed before now A t s named f =
    let had : List ℕ = readies_of s placed in
    let told_all = told_of-append s A (t ∷ []) in
    record {
      active = f.active;
      since = λ w. before_later before now (length A) (length (A ++ t ∷ [])) s (omega (arith, length-append A (t ∷ []))) (f.since w);
      unnamed = λ w.
          let parts = or_parts (is_named s []) (list_any (is_named s) A) (f.unnamed w) in
          let none : is_named s t ≡ false = named w in
          let more : list_any (is_named s) (A ++ t ∷ []) ≡ false =
          list_any-append (is_named s) A (t ∷ []) ∙ ap (λ (b : Bool). b || (is_named s t || false)) parts.1 ∙ ap (λ (b : Bool). b || false) none in
          ap (λ (b : Bool). b || list_any (is_named s) (A ++ t ∷ [])) (unnamed-news s t none) ∙ more;
      unread = f.unread;
      front = begins_through (told_of s (A ++ t ∷ [])) (told_of s A) had (record { rest = _; split = told_all }) f.front;
      whole = λ may.
          let going : is_end_told s A ≡ false = not_ended plan stood placed before now A s may f in
          told_all
          ∙ ap (λ (b : Bool). told_of s A ++ (if b then [] else told_of s (t ∷ []))) going
          ∙ ap (λ (ns : List ℕ). ns ++ told_of s (t ∷ [])) (f.whole may ∙ append-nil had)
          ∙ ap (λ (ns : List ℕ). had ++ ns) (told_of-one s t ∙ sym (told_in-news s t));
      unended = λ may ended.
          let going : is_end_told s A ≡ false = not_ended plan stood placed before now A s may f in
          let both : (is_end_told s A || (has_end s t || false)) ≡ true = sym (is_end_told-append s A (t ∷ [])) ∙ ended in
          has_end-news s t ∙ sym (or-false (has_end s t)) ∙ ap (λ (b : Bool). b || (has_end s t || false)) (sym going) ∙ both;
      due = λ ends.
          inl (is_end_told-append s A (t ∷ []) ∙ or_right (is_end_told s A) _ (or_left (has_end s t) false (sym (has_end-news s t) ∙ ends)));
      ends = λ stands. ends_more before now A t had s (f.ends stands);
    }

-- ## Silence

pub feed_silenced : (plan : PlanView) (stood placed : List Event) (before now : PollerState) (spoken quiet : List (List Tell)) (news : List Tell) (s : ℕ)
    → is_halted (stood ++ placed) ≡ false
    → (is_live_feed plan (stood ++ placed) s ≡ true → WatchedBefore before now (length spoken) s)
    → length quiet ≡ EMPTY_ANSWERS → list_all is_empty_answer quiet ≡ true
    → told_in s news ≡ [] → (has_end s news ≡ true → is_live_feed plan (stood ++ placed) s ≡ true) → (now.watched s ≡ false → is_named s news ≡ false)
    → FeedHeard plan stood placed before now (spoken ++ quiet) [] s → FeedHeard plan stood placed before now (spoken ++ quiet) news s
feed_silenced plan stood placed before now spoken quiet news s unhalted since long empty nothing live named f =
    let had : List ℕ = readies_of s placed in
    let A : List (List Tell) = spoken ++ quiet in
    record {
      active = f.active;
      since = f.since;
      unnamed = λ w. ap (λ (b : Bool). b || list_any (is_named s) A) (named w) ∙ f.unnamed w;
      unread = f.unread;
      front = f.front;
      whole = λ may. f.whole may ∙ ap (λ (ns : List ℕ). had ++ ns) (sym nothing);
      unended = λ may ended. absurd (both_ways _ (not_ended plan stood placed before now A s may f) ended);
      due = λ ends.
          let may : MayEnd plan (stood ++ placed) s = record { unhalted = unhalted; live = live ends } in
          inr (record {
            earlier = spoken;
            quiet = quiet;
            later = [];
            split = ap (λ (q : List (List Tell)). spoken ++ q) (sym (append-nil quiet));
            watched = since (live ends);
            long = long;
            empty = empty;
            had_all = subst (λ (ns : List ℕ). Begins ns (told_of s spoken)) (f.whole may ∙ append-nil had)
                (record { rest = _; split = told_of-append s spoken quiet });
          });
      ends = f.ends;
    }
