-- What a poll keeps of what was heard.
use Rattle.std.proofs.Common.{◌≡◌, ◌≤◌, ◌<◌, ◌+◌, ◌∙◌, ◌++◌, ◌&&◌, ◌==◌, ℕ, Bool, true, false, List, [], ◌∷◌, if◌then◌else◌, length, map, filter, ap, sym, subst, refl, arith, eq-eqb, lit<, append-nil, append_assoc, ⊎_elim}
use Rattle.std.specs.Prelude.{nat_lt}
use Rattle.std.specs.List.{list_all, range_with_len}
use Rattle.std.proofs.lemmas.Bool.{and_from, and_parts, both_ways, cases_lt, eqb-true, ltb-false, ne_eqb, or_cases, or_left, or_right}
use Rattle.std.proofs.lemmas.List.{length-append, length_push}
use Rattle.std.proofs.lemmas.List.Folds.{list_all-append}
use Rattle.gcd_plan.specs.PlanView.{PlanView}
use Rattle.gcd_event.specs.declared.event.Event.{Event}
use Rattle.gcd_history.specs.Ends.{is_halted}
use Rattle.gcd_history.specs.History.{is_live_feed}
use Rattle.gcd_outer.specs.Tells.{AreTells, PollerState, answers_after, has_end, is_empty_answer, is_named, told_in}
use Rattle.gcd_outer.proofs.ToldLemmas.{named_are_watched}
use Rattle.gcd_outer.specs.declared.tell.Tell.{Tell}
use Rattle.gcd_turn.specs.Asked.{AllWatched}
use Rattle.gcd_turn.specs.Hearing.{FeedHeard, Heard, is_news}
use Rattle.gcd_turn.specs.Promises.{WatchedBefore}
use Rattle.gcd_turn.specs.Turns.{OutlookView, counted, end_of, ends_of, news_of, row_with}
use Rattle.gcd_turn.specs.declared.limits.TheConstants.{EMPTY_ANSWERS}
use Rattle.gcd_turn.proofs.PollSteps.{SameFeed, before_same, feed_answered, feed_same, feed_silenced, news-empty, pieces-news}

-- the poller gave an answer, which is kept
pub record IsAnswer (now next : PollerState) (t : List Tell) : Type 0 where
  pub feeds : (s : ℕ) → SameFeed now next s
  pub answers : next.answers ≡ now.answers ++ t ∷ []
  pub watches : next.watches ≡ now.watches
  pub named : (s : ℕ) → now.watched s ≡ false → is_named s t ≡ false
  pub pieces : list_all is_news (news_of t) ≡ true

-- without news
abbrev pub plain : OutlookView → OutlookView
plain o = record o { news = [] }

answered : (plan : PlanView) (stood placed : List Event) (before now next : PollerState) (o : OutlookView) (t : List Tell) (s : ℕ)
    → IsAnswer now next t → (hd : Heard plan stood placed before now (plain o))
    → FeedHeard plan stood placed before next ((hd.spoken ++ hd.quiet) ++ t ∷ []) (news_of t) s
answered plan stood placed before now next o t s is hd =
    let A : List (List Tell) = hd.spoken ++ hd.quiet in
    feed_answered plan stood placed before next A t s (λ w. is.named s (sym (is.feeds s).watched ∙ w))
    (feed_same plan stood placed before now next A [] s (is.feeds s) (hd.feeds s))

-- the answers with one more
one_more : (before now next : PollerState) (A : List (List Tell)) (t : List Tell) → next.answers ≡ now.answers ++ t ∷ [] → now.answers ≡ before.answers ++ A
    → next.answers ≡ before.answers ++ (A ++ t ∷ [])
one_more before now next A t more had = more ∙ ap (λ (as' : List (List Tell)). as' ++ t ∷ []) had ∙ append_assoc before.answers A (t ∷ [])

-- it is told, and the row of empty answers ends
pub heard_answer : (plan : PlanView) (stood placed : List Event) (before now next : PollerState) (o : OutlookView) (t : List Tell)
    → IsAnswer now next t → Heard plan stood placed before now (plain o)
    → Heard plan stood placed before next (record o { news = news_of t; empties = 0 })
heard_answer plan stood placed before now next o t is hd =
    let A : List (List Tell) = hd.spoken ++ hd.quiet in
    let none : A ++ t ∷ [] ≡ (A ++ t ∷ []) ++ [] = sym (append-nil (A ++ t ∷ [])) in
    record {
      spoken = A ++ t ∷ [];
      quiet = [];
      answers = one_more before now next A t is.answers hd.answers ∙ ap (λ (B : List (List Tell)). before.answers ++ B) none;
      more = hd.more;
      watches = is.watches ∙ hd.watches;
      live = hd.live;
      paths = hd.paths;
      feeds = λ s. subst (λ (B : List (List Tell)). FeedHeard plan stood placed before next B (news_of t) s) none
          (answered plan stood placed before now next o t s is hd);
      pieces = is.pieces;
      counted = refl;
      empty = refl;
      past = hd.past;
      silent = λ some same s live. absurd (omega (arith, some));
    }

-- nothing came, and no answer is kept
pub heard_nothing : (plan : PlanView) (stood placed : List Event) (before now next : PollerState) (o : OutlookView)
    → ((s : ℕ) → SameFeed now next s) → next.answers ≡ now.answers → next.watches ≡ now.watches
    → Heard plan stood placed before now (plain o) → Heard plan stood placed before next (record o { news = []; empties = 0 })
heard_nothing plan stood placed before now next o same answers watches hd =
    let A : List (List Tell) = hd.spoken ++ hd.quiet in
    let none : A ≡ A ++ [] = sym (append-nil A) in
    record {
      spoken = A;
      quiet = [];
      answers = answers ∙ hd.answers ∙ ap (λ (B : List (List Tell)). before.answers ++ B) none;
      more = hd.more;
      watches = watches ∙ hd.watches;
      live = hd.live;
      paths = hd.paths;
      feeds = λ s. subst (λ (B : List (List Tell)). FeedHeard plan stood placed before next B [] s) none
          (feed_same plan stood placed before now next A [] s (same s) (hd.feeds s));
      pieces = refl;
      counted = refl;
      empty = refl;
      past = hd.past;
      silent = λ some at s live. absurd (omega (arith, some));
    }

-- ## The row of empty answers

-- the row goes on
row_goes_on : (plan : PlanView) (stood placed : List Event) (before now next : PollerState) (o : OutlookView) (t : List Tell)
    → o.len ≡ length (stood ++ placed) → is_empty_answer t ≡ true → AllWatched plan (stood ++ placed) now
    → IsAnswer now next t → Heard plan stood placed before now (plain o)
    → Heard plan stood placed before next (record o { news = news_of t; empties = o.empties + 1; len = length (stood ++ placed) })
row_goes_on plan stood placed before now next o t at empty all is hd =
    let A : List (List Tell) = hd.spoken ++ hd.quiet in
    let split : A ++ t ∷ [] ≡ hd.spoken ++ (hd.quiet ++ t ∷ []) = append_assoc hd.spoken hd.quiet (t ∷ []) in
    let counted : length hd.quiet ≡ o.empties = hd.counted in
    record {
      spoken = hd.spoken;
      quiet = hd.quiet ++ t ∷ [];
      answers = one_more before now next A t is.answers hd.answers ∙ ap (λ (B : List (List Tell)). before.answers ++ B) split;
      more = hd.more;
      watches = is.watches ∙ hd.watches;
      live = hd.live;
      paths = hd.paths;
      feeds = λ s. subst (λ (B : List (List Tell)). FeedHeard plan stood placed before next B (news_of t) s) split
          (answered plan stood placed before now next o t s is hd);
      pieces = is.pieces;
      counted = omega (arith, length_push hd.quiet t, counted);
      empty = list_all-append is_empty_answer hd.quiet (t ∷ []) ∙ and_from _ _ hd.empty (and_from _ _ empty refl);
      past = omega arith;
      silent = λ some same s live.
          ⊎_elim
          (λ (counting : 0 < o.empties). before_same before now next (length hd.spoken) s (is.feeds s) (hd.silent counting at s live))
          (λ (none : o.empties ≤ 0).
          let none_quiet : length hd.spoken ≡ length A = omega (arith, length-append hd.spoken hd.quiet, counted, none) in
          before_same before now next (length hd.spoken) s (is.feeds s)
          (subst (λ (n : ℕ). WatchedBefore before now n s) (sym none_quiet) ((hd.feeds s).since (all s live))))
          (cases_lt 0 o.empties);
    }

-- a row begins
row_begins : (plan : PlanView) (stood placed : List Event) (before now next : PollerState) (o : OutlookView) (t : List Tell)
    → is_empty_answer t ≡ true → AllWatched plan (stood ++ placed) now
    → IsAnswer now next t → Heard plan stood placed before now (plain o)
    → Heard plan stood placed before next (record o { news = news_of t; empties = 1; len = length (stood ++ placed) })
row_begins plan stood placed before now next o t empty all is hd =
    let A : List (List Tell) = hd.spoken ++ hd.quiet in
    record {
      spoken = A;
      quiet = t ∷ [];
      answers = one_more before now next A t is.answers hd.answers;
      more = hd.more;
      watches = is.watches ∙ hd.watches;
      live = hd.live;
      paths = hd.paths;
      feeds = λ s. answered plan stood placed before now next o t s is hd;
      pieces = is.pieces;
      counted = refl;
      empty = and_from _ _ empty refl;
      past = omega arith;
      silent = λ some same s live. before_same before now next (length A) s (is.feeds s) ((hd.feeds s).since (all s live));
    }

-- the row with one more
row_more : (plan : PlanView) (stood placed : List Event) (before now next : PollerState) (o : OutlookView) (t : List Tell)
    → is_empty_answer t ≡ true → AllWatched plan (stood ++ placed) now
    → IsAnswer now next t → Heard plan stood placed before now (plain o)
    → Heard plan stood placed before next
    (record o { news = []; empties = row_with o (length (stood ++ placed)); len = length (stood ++ placed) })
row_more plan stood placed before now next o t empty all is hd =
    let h : List Event = stood ++ placed in
    let none : news_of t ≡ [] = news-empty t empty in
    let with_row : ℕ → List Tell → OutlookView = λ n news. record o { news = news; empties = n; len = length h } in
    elim (o.len == length h) as (λ v. (o.len == length h) ≡ v → Heard plan stood placed before next (with_row (row_with o (length h)) [])) [
      | true ↦ λ at.
          let row : o.empties + 1 ≡ row_with o (length h) = sym (ap (λ (b : Bool). (if b then o.empties else 0) + 1) at) in
          subst (λ (n : ℕ). Heard plan stood placed before next (with_row n [])) row
          (subst (λ (ns : List Tell). Heard plan stood placed before next (with_row (o.empties + 1) ns)) none
          (row_goes_on plan stood placed before now next o t (eqb-true o.len (length h) at) empty all is hd))
      | false ↦ λ apart.
          let row : 1 ≡ row_with o (length h) = sym (ap (λ (b : Bool). (if b then o.empties else 0) + 1) apart) in
          subst (λ (n : ℕ). Heard plan stood placed before next (with_row n [])) row
          (subst (λ (ns : List Tell). Heard plan stood placed before next (with_row 1 ns)) none
          (row_begins plan stood placed before now next o t empty all is hd))
    ] refl

-- ## The ends of live feeds, as news

ends_tell_nothing : (s : ℕ) (xs : List ℕ) → told_in s (map end_of xs) ≡ []
ends_tell_nothing s [] = refl
ends_tell_nothing s (x ∷ xs) =
    elim (x == s) as (λ v. (if v then [] else told_in s (map end_of xs)) ≡ []) [ true ↦ refl | false ↦ ends_tell_nothing s xs ]

ends_are_of : (p : ℕ → Bool) (s : ℕ) (xs : List ℕ) → is_named s (map end_of (filter p xs)) ≡ true → p s ≡ true
ends_are_of p s [] h = cc
ends_are_of p s (x ∷ xs) h =
    elim (p x) as (λ v. p x ≡ v → is_named s (map end_of (if v then x ∷ filter p xs else filter p xs)) ≡ true → p s ≡ true) [
      | true ↦ λ passes named.
          ⊎_elim (λ (own : (x == s) ≡ true). subst (λ (k : ℕ). p k ≡ true) (eqb-true x s own) passes)
          (λ (later : is_named s (map end_of (filter p xs)) ≡ true). ends_are_of p s xs later)
          (or_cases (x == s) (is_named s (map end_of (filter p xs))) named)
      | false ↦ λ fails named. ends_are_of p s xs named
    ] refl h

end_is_named : (s : ℕ) (ts : List Tell) → has_end s ts ≡ true → is_named s ts ≡ true
end_is_named s [] h = h
end_is_named s (t ∷ ts) h =
    ⊎_elim (λ (own : (t.feed == s && t.ended) ≡ true). or_left _ _ (and_parts (t.feed == s) t.ended own).0)
    (λ (later : has_end s ts ≡ true). or_right (t.feed == s) _ (end_is_named s ts later))
    (or_cases (t.feed == s && t.ended) (has_end s ts) h)

ends_are_news : (xs : List ℕ) → list_all is_news (map end_of xs) ≡ true
ends_are_news [] = refl
ends_are_news (x ∷ xs) = ends_are_news xs

unnamed_unwatched : (plan : PlanView) (h : List Event) (now : PollerState) (s : ℕ) → now.watched s ≡ false → AllWatched plan h now
    → is_named s (ends_of plan h) ≡ false
unnamed_unwatched plan h now s unwatched all =
    elim (is_named s (ends_of plan h)) as (λ v. is_named s (ends_of plan h) ≡ v → v ≡ false) [
      | true ↦ λ named.
          absurd (both_ways _ unwatched (all s (ends_are_of (is_live_feed plan h) s (range_with_len 0 (length plan.objects)) named)))
      | false ↦ λ unnamed. refl
    ] refl

row_is_full : (o : OutlookView) (len : ℕ) → o.empties < EMPTY_ANSWERS → EMPTY_ANSWERS ≤ row_with o len → row_with o len ≡ EMPTY_ANSWERS
row_is_full o len few long =
    elim (o.len == len) as (λ v. EMPTY_ANSWERS ≤ (if v then o.empties else 0) + 1 → (if v then o.empties else 0) + 1 ≡ EMPTY_ANSWERS) [
      | true ↦ λ l. omega arith
      | false ↦ λ l. omega arith
    ] long

-- ## Silence

silenced : (plan : PlanView) (stood placed : List Event) (before now : PollerState) (o : OutlookView)
    → is_halted (stood ++ placed) ≡ false → AllWatched plan (stood ++ placed) now
    → Heard plan stood placed before now (record o { news = []; empties = EMPTY_ANSWERS; len = length (stood ++ placed) })
    → Heard plan stood placed before now (record o { news = ends_of plan (stood ++ placed); empties = 0; len = length (stood ++ placed) })
silenced plan stood placed before now o unhalted all hd =
    let h : List Event = stood ++ placed in
    let A : List (List Tell) = hd.spoken ++ hd.quiet in
    let none : A ≡ A ++ [] = sym (append-nil A) in
    let live : List ℕ = filter (is_live_feed plan h) (range_with_len 0 (length plan.objects)) in
    record {
      spoken = A;
      quiet = [];
      answers = hd.answers ∙ ap (λ (B : List (List Tell)). before.answers ++ B) none;
      more = hd.more;
      watches = hd.watches;
      live = hd.live;
      paths = hd.paths;
      feeds = λ s. subst (λ (B : List (List Tell)). FeedHeard plan stood placed before now B (ends_of plan h) s) none
          (feed_silenced plan stood placed before now hd.spoken hd.quiet (ends_of plan h) s unhalted
          (λ (l : is_live_feed plan h s ≡ true). hd.silent (lit< tt) refl s l) hd.counted hd.empty (ends_tell_nothing s live)
          (λ (e : has_end s (ends_of plan h) ≡ true). ends_are_of (is_live_feed plan h) s (range_with_len 0 (length plan.objects)) (end_is_named s (ends_of plan h) e))
          (λ (w : now.watched s ≡ false). unnamed_unwatched plan h now s w all) (hd.feeds s));
      pieces = ends_are_news live;
      counted = refl;
      empty = refl;
      past = hd.past;
      silent = λ some at s l. absurd (omega (arith, some));
    }

-- after one more empty answer that counts
pub heard_counted : (plan : PlanView) (stood placed : List Event) (before now next : PollerState) (o : OutlookView) (t : List Tell)
    → o.empties < EMPTY_ANSWERS → is_halted (stood ++ placed) ≡ false → is_empty_answer t ≡ true → AllWatched plan (stood ++ placed) now
    → IsAnswer now next t → Heard plan stood placed before now (plain o)
    → Heard plan stood placed before next (counted plan (stood ++ placed) (plain o))
heard_counted plan stood placed before now next o t few unhalted empty all is hd =
    let h : List Event = stood ++ placed in
    let row : ℕ = row_with o (length h) in
    let more = row_more plan stood placed before now next o t empty all is hd in
    let watched : AllWatched plan h next = λ s live. (is.feeds s).watched ∙ all s live in
    elim (nat_lt row EMPTY_ANSWERS) as (λ v. nat_lt row EMPTY_ANSWERS ≡ v → Heard plan stood placed before next
    (if v then record o { news = []; empties = row; len = length h } else record o { news = ends_of plan h; empties = 0; len = length h })) [
      | true ↦ λ short. more
      | false ↦ λ long.
          let full : row ≡ EMPTY_ANSWERS = row_is_full o (length h) few (ltb-false row EMPTY_ANSWERS long) in
          silenced plan stood placed before next o unhalted watched
          (subst (λ (n : ℕ). Heard plan stood placed before next (record o { news = []; empties = n; len = length h })) full more)
    ] refl

-- ## A poll

-- the poller answered to a wait of so many milliseconds
pub record IsPoll (now next : PollerState) (wait : ℕ) (t : List Tell) : Type 0 where
  pub tells : AreTells now.watched now.ended t
  pub answers : next.answers ≡ answers_after now.answers wait t
  pub watched : (s : ℕ) → next.watched s ≡ now.watched s
  pub at : (s : ℕ) → next.watched_at s ≡ now.watched_at s
  pub watches : next.watches ≡ now.watches

-- the answer is kept
kept_answer : (now next : PollerState) (wait : ℕ) (t : List Tell) → (wait == 0 && is_empty_answer t) ≡ false → IsPoll now next wait t → IsAnswer now next t
kept_answer now next wait t kept is = record {
  feeds = λ s. record { watched = is.watched s; at = is.at s };
  answers = is.answers ∙ ap (λ (b : Bool). if b then now.answers else now.answers ++ t ∷ []) kept;
  watches = is.watches;
  named = λ s unwatched.
      elim (is_named s t) as (λ v. is_named s t ≡ v → v ≡ false) [
        | true ↦ λ named. absurd (both_ways _ unwatched (named_are_watched now.watched now.ended t s is.tells named))
        | false ↦ λ unnamed. refl
      ] refl;
  pieces = pieces-news now.watched now.ended t is.tells;
}

-- an outlook without news is so
pub is_plain : (o : OutlookView) → o.news ≡ [] → o ≡ plain o
is_plain o none = ap (λ (ns : List Tell). record o { news = ns }) none

-- an answer that is not empty
pub heard_poll : (plan : PlanView) (stood placed : List Event) (before now next : PollerState) (o : OutlookView) (wait : ℕ) (t : List Tell)
    → o.news ≡ [] → is_empty_answer t ≡ false → IsPoll now next wait t → Heard plan stood placed before now o
    → Heard plan stood placed before next (record o { news = news_of t; empties = 0 })
heard_poll plan stood placed before now next o wait t none some is hd =
    let kept : (wait == 0 && is_empty_answer t) ≡ false = elim (wait == 0) as (λ v. (v && is_empty_answer t) ≡ false) [ true ↦ some | false ↦ refl ] in
    heard_answer plan stood placed before now next o t (kept_answer now next wait t kept is)
    (subst (λ (x : OutlookView). Heard plan stood placed before now x) (is_plain o none) hd)

-- an answer to a wait of 0
pub heard_at_once : (plan : PlanView) (stood placed : List Event) (before now next : PollerState) (o : OutlookView) (wait : ℕ) (t : List Tell)
    → o.news ≡ [] → wait ≡ 0 → IsPoll now next wait t → Heard plan stood placed before now o
    → Heard plan stood placed before next (record o { news = news_of t; empties = 0 })
heard_at_once plan stood placed before now next o wait t none zero is hd =
    elim (is_empty_answer t) as (λ v. is_empty_answer t ≡ v → Heard plan stood placed before next (record o { news = news_of t; empties = 0 })) [
      | true ↦ λ empty.
          let dropped : (wait == 0 && is_empty_answer t) ≡ true = and_from _ _ (eq-eqb wait 0 zero) empty in
          subst (λ (ns : List Tell). Heard plan stood placed before next (record o { news = ns; empties = 0 })) (sym (news-empty t empty))
          (heard_nothing plan stood placed before now next o (λ s. record { watched = is.watched s; at = is.at s })
          (is.answers ∙ ap (λ (b : Bool). if b then now.answers else now.answers ++ t ∷ []) dropped) is.watches
          (subst (λ (x : OutlookView). Heard plan stood placed before now x) (is_plain o none) hd))
      | false ↦ λ some. heard_poll plan stood placed before now next o wait t none some is hd
    ] refl

-- an empty answer to a wait
pub heard_empty : (plan : PlanView) (stood placed : List Event) (before now next : PollerState) (o later : OutlookView) (wait : ℕ) (t : List Tell)
    → o.news ≡ [] → o.empties < EMPTY_ANSWERS → (wait ≡ 0 → ⊥) → is_halted (stood ++ placed) ≡ false → is_empty_answer t ≡ true
    → AllWatched plan (stood ++ placed) now → later ≡ counted plan (stood ++ placed) o → IsPoll now next wait t
    → Heard plan stood placed before now o → Heard plan stood placed before next later
heard_empty plan stood placed before now next o later wait t none few waits unhalted empty all later_is is hd =
    let kept : (wait == 0 && is_empty_answer t) ≡ false = ap (λ (b : Bool). b && is_empty_answer t) (ne_eqb wait 0 waits) in
    subst (λ (x : OutlookView). Heard plan stood placed before next x)
    (sym (later_is ∙ ap (counted plan (stood ++ placed)) (is_plain o none)))
    (heard_counted plan stood placed before now next o t few unhalted empty all (kept_answer now next wait t kept is)
    (subst (λ (x : OutlookView). Heard plan stood placed before now x) (is_plain o none) hd))
