-- Each step keeps the rule.
use Rattle.std.proofs.Common.{◌≡◌, ◌≢◌, ℕ, suc, ◌+◌, ◌%◌, ◌<◌, ◌≤◌, ◌⊎◌, Bool, cond, min, map, length-append, get_or-set_other, get_or-set_same, ne_eqb, inl, inr, ⊎_elim, eqb, ltb, false, true, append_assoc, List, [], ◌∷◌, ◌++◌, length, get_or, set, sym, refl, ap, ◌∙◌, subst, arith, None, Some, Option as Maybe, is_some}
use Rattle.std.proofs.lemmas.List.{set-get_or}
use Rattle.std.proofs.lemmas.Bool.{both_ways}
use mathlib.Core.Logic.{dite}
use mathlib.Core.Option.{Option, none, some}
use native.Mathlib.Decide.{ℕ_discrete, dec_le}
use lib.ListN.{get_elem?}
use prog.Atomic.{either}
use Rattle.atomic_table.specs.Table.{State, Me, step, Act, keeps, gives as act_gives, Valid, carried_after, homes_after, stepped, Allows, Splits, Joins}
use Rattle.atomic_table.proofs.Lists.{exchanged, set_again, set_else}
use Rattle.gcd_plan.specs.declared.numbers.Run.{Run}
use Rattle.gcd_plan.specs.declared.numbers.Run.TheVariants.{Block, Source}
use Rattle.gcd_event.specs.declared.event.Event.{Event}
use Rattle.gcd_event.specs.Words.{word_of}
use Rattle.gcd_event.proofs.WordLemmas.{same_from_word}
use Rattle.gcd_history.specs.Choice.{worker_of}
use Rattle.gcd_history.specs.History.{why, IsLawful, is_ended, is_block_cancelled}
use Rattle.gcd_history.proofs.Permitted.Lawful.{lawful_more, lawful_front}
use Rattle.gcd_history.proofs.Permitted.Fitting.{permitted_fits}
use Rattle.gcd_history.specs.Held.{taken, given}
use Rattle.gcd_history.specs.Team.{of_worker, held_by, StartsWith}
use Rattle.gcd_history.proofs.HeldRuns.OwnEvents.{own_events_tell_what_is_held}
use Rattle.gcd_history.proofs.Public.TeamLaws.{givings_are_the_holders}
use Rattle.gcd_row.specs.Shapes.{Shape}
use Rattle.gcd_row.specs.Jobs.{May, placed_at, jobs_of, held_jobs}
use Rattle.gcd_row.specs.Lying.{slot_of, Lies, HasSlots}
use Rattle.gcd_row.specs.Views.{IsBack, given_terms, standing_of, spent_view, saw, noting, knowing, asked, looking, passing, lending, newcomer, merging, note, hearing}
use Rattle.gcd_row.specs.Ring.{IsRing, is_news, lap, under, passed_word, gone}
use Rattle.gcd_row.specs.Rule.{Knows, KnowsJobs, PassedWords, Homes, Kept, Holds}
use Rattle.gcd_row.specs.Plays.{first_after, front_cell, KnowsFresh, Found, Turned, Wins, LaysBack, Looked, Tried, Ended, Compared, Unused, PutDown, Asks, Asked, PassedOn, Reread}
use Rattle.gcd_row.specs.Passes.{MayRead}
use Rattle.gcd_row.specs.declared.view.Handed.{Handed}
use Rattle.gcd_row.specs.declared.view.Limits.{Limits}
use Rattle.gcd_row.specs.declared.view.PassMarks.{PassMarks}
use Rattle.gcd_row.specs.declared.view.View.{View}
use Rattle.gcd_row.specs.declared.view.Terms.{Terms}
use Rattle.gcd_row.specs.declared.view.Copies.{Copies}
use Rattle.gcd_row.proofs.Fronts.{starts_refl, starts_trans, starts_more, starts_whole, between, own_differs, own_same, own_none, starts_shorter, starts_nil, starts_length}
use Rattle.gcd_row.proofs.RowWords.{finds, places, rereads, under_is_old, all_words, apart_passed, behind, words_length}
use Rattle.gcd_row.proofs.Marking.{moved}
use Rattle.gcd_row.proofs.Parted.{cut_passing, joins_passing, noted_passed, wiped_passed}
use Rattle.gcd_row.proofs.Seen.{Grows, grown}
use Rattle.gcd_row.proofs.Parting.{both_own, cuts, joins_known, noted, wiped}
use Rattle.gcd_row.proofs.Accepted.{callers_first}
use Rattle.gcd_row.proofs.Handing.{Handing, handing, knows_own, all_know}
use Rattle.gcd_row.proofs.Holding.{holds_nothing}
use Rattle.gcd_row.proofs.Jobs.{lies_more, knows_on, knows_none, Live, live_set, live_more, spent_says}
use Rattle.gcd_row.proofs.Landing.{Landing, lands, rests_there}

module _ {S : Type 0} (t : Terms S) where
  -- a pass that stays as it is, but for what it knows of the passed words
  pub idle : (log : List Event) (views : List (View S)) (id : ℕ) (v : View S) (m : PassMarks) → get_elem? views id ≡ some v → Knows t log views → v.spent ≡ false → Grows log log v (knowing v v.seen m)
  idle log views id v m at k live = record {
    live = live;
    grows = starts_refl log;
    others = λ n ne. refl;
    terms = refl;
    spent = live;
    worker = refl;
    hands = refl;
    more = starts_refl v.seen;
    seen = k.seen id v at;
    relayed = k.relayed id v at;
    own = (k.fits id v at live).own;
    whole = inl refl;
  }

  -- a pass that has seen the next event, which another placed
  learns : (log : List Event) (views : List (View S)) (id : ℕ) (v : View S) (e : Event) (later : List Event) → get_elem? views id ≡ some v → Knows t log views → v.spent ≡ false → log ≡ v.seen ++ e ∷ later → Grows log log v (saw v e)
  learns log views id v e later at k live is =
      let begins : StartsWith log (v.seen ++ e ∷ []) = (later, is ∙ sym (append_assoc v.seen (e ∷ []) later)) in
      record {
        live = live;
        grows = starts_refl log;
        others = λ n ne. refl;
        terms = refl;
        spent = live;
        worker = refl;
        hands = refl;
        more = starts_more v.seen e;
        seen = begins;
        relayed = k.relayed id v at;
        own = between v.worker log (v.seen ++ e ∷ []) v.seen begins (starts_more v.seen e) (k.fits id v at live).own;
        whole = inl refl;
      }

  -- a pass that places its event behind all
  adds : (log : List Event) (views : List (View S)) (id : ℕ) (v : View S) (e : Event) → get_elem? views id ≡ some v → Knows t log views → v.spent ≡ false → v.seen ≡ log → worker_of e ≡ v.worker → (c : Maybe S) (n : Handed S) → Grows log (log ++ e ∷ []) v (noting (saw v e) c n)
  adds log views id v e at k live all mine c n =
      record {
        live = live;
        grows = starts_more log e;
        others = λ x ne. own_same x log e (λ (same : worker_of e ≡ x). ne (sym same ∙ mine));
        terms = refl;
        spent = live;
        worker = refl;
        hands = refl;
        more = starts_more v.seen e;
        seen = subst (λ (h : List Event). StartsWith (log ++ e ∷ []) (h ++ e ∷ [])) (sym all) (starts_refl (log ++ e ∷ []));
        relayed = starts_trans (log ++ e ∷ []) log v.relayed (starts_more log e) (k.relayed id v at);
        own = subst (λ (h : List Event). of_worker v.worker (log ++ e ∷ []) ≡ of_worker v.worker (h ++ e ∷ [])) (sym all) refl;
        whole = inr (ap (λ (h : List Event). h ++ e ∷ []) all);
      }

  -- a pass that has seen all knows of the numbers that were never given out
  knows_fresh : (log : List Event) (views : List (View S)) (id : ℕ) (v : View S) → get_elem? views id ≡ some v → Knows t log views → v.spent ≡ false → KnowsFresh v
  knows_fresh log views id v at k live head_is w nz none_given = own_none w log v.seen (k.seen id v at) ((k.head id v at live head_is).fresh w nz none_given)

module _ {S : Type 0} (shape : S → Shape) (gives : S → ℕ → Type 0) (key : Copies S) where
  abbrev t : Terms S
  t = given_terms key

  -- what the step gives at one state, where the word becomes x
  abbrev pub Goes : State S (View S) → ℕ → ℕ → Me S (View S) → (ℕ → Me S (View S) → Type 0) → ℕ → Type 0
  Goes s i id m then x = (w : View S) × (a : Act S) × Valid s.homes m.1 a × Holds shape gives key (stepped s i x id m.1 w a) × then (get_or s.words i 0) (w, carried_after m.1 a)

  -- how near the history is for a pass that may read cells
  near : (s : State S (View S)) (k : Kept shape gives t s.words s.homes s.views) (id : ℕ) (v : View S) → get_elem? s.views id ≡ some v → MayRead v → length k.history ≤ v.marks.passed + 4096
  near s k id v at ok = let slow = k.passed.slow v.worker ok.number in let mine = k.passed.mine id v at ok.unspent in omega (arith, slow, mine)

  in_room : (s : State S (View S)) (k : Kept shape gives t s.words s.homes s.views) → length k.history ≤ t.limits.most
  in_room s k = omega (arith, k.ring.room, words_length k.history)

  few : (s : State S (View S)) (k : Kept shape gives t s.words s.homes s.views) (h : List Event) → length h ≤ t.limits.most → length h < gone
  few s k h le = omega (arith, le, k.bounds.2)

  -- what is kept of the passed words where these stay as they are
  pub passed_on : (s : State S (View S)) (k : Kept shape gives t s.words s.homes s.views) (id : ℕ) (v w : View S) → get_elem? s.views id ≡ some v → MayRead v → Grows k.history k.history v w → w.marks.passed ≡ v.marks.passed
      → ((n : ℕ) → n < w.marks.upto → w.marks.floor ≤ passed_word s.words n) → PassedWords t k.history s.words (set s.views id w)
  passed_on s k id v w at ok g same pair = moved t k.history k.history s.words s.words s.views id v w at k.knows k.passed (record {
    live = ok.unspent;
    spent = g.spent;
    worker = g.worker;
    hands = g.hands;
    more = starts_length w.seen v.seen g.more;
    grows = omega (arith, same);
    others = λ n ne. refl;
    mine = k.passed.mine id v at ok.unspent ∙ sym same;
    slow = k.passed.slow;
    pair = pair;
    rests = inr (omega (arith, same, ok.passed, starts_length w.seen v.seen g.more));
    few = few s k w.seen (omega (arith, starts_length k.history w.seen g.seen, in_room s k));
  })

  -- what is known of jobs, where the pass has noted nothing
  knows_still : (s : State S (View S)) (k : Kept shape gives t s.words s.homes s.views) (id : ℕ) (v w : View S) → get_elem? s.views id ≡ some v → Grows k.history k.history v w → w.first ≡ v.first → w.handed ≡ v.handed → KnowsJobs gives t k.handed w
  knows_still s k id v w at g first handed =
      let own : of_worker v.worker w.seen ≡ of_worker v.worker v.seen = sym g.own ∙ (k.knows.fits id v at g.live).own in
      knows_on gives t k.handed v w g.worker g.terms first handed (ap (held_by t.plan w.seen) g.worker ∙ own_events_tell_what_is_held t.plan w.seen v.seen v.worker own) (k.jobs id v at g.live)

  -- the words stay as they are, and the pass has seen what it has seen or one event more
  stays : (s : State S (View S)) (k : Kept shape gives t s.words s.homes s.views) (i id : ℕ) (v w : View S) → get_elem? s.views id ≡ some v → MayRead v → Grows k.history k.history v w → w.marks.passed ≡ v.marks.passed
      → ((n : ℕ) → n < w.marks.upto → w.marks.floor ≤ passed_word s.words n) → w.first ≡ v.first → w.handed ≡ v.handed → Kept shape gives t (set s.words i (get_or s.words i 0)) s.homes (set s.views id w)
  stays s k i id v w at ok g same pair first handed = subst (λ (ws : List ℕ). Kept shape gives t ws s.homes (set s.views id w)) (sym (set-get_or s.words i 0)) (record {
    history = k.history;
    valid = k.valid;
    bounds = k.bounds;
    ring = k.ring;
    lawful = k.lawful;
    knows = grown t k.history k.history s.views id v w at k.knows g;
    passed = passed_on s k id v w at ok g same pair;
    handed = k.handed;
    jobs = live_set (KnowsJobs gives t k.handed) s.views id w (λ _. knows_still s k id v w at g first handed) k.jobs;
    slots = k.slots;
  })

  found : (s : State S (View S)) (k : Kept shape gives t s.words s.homes s.views) (id : ℕ) (v : View S) → get_elem? s.views id ≡ some v → v.spent ≡ false → (e : Event) (later : List Event) → k.history ≡ v.seen ++ e ∷ later
      → (n : ℕ) → n ≡ word_of e + lap (length v.seen) → why t.plan v.seen e ≡ None → Found v n (saw v e)
  found s k id v at live e later is n says may = let f = k.knows.fits id v at live in let g = learns t k.history s.views id v e later at k.knows live is in (
    e,
    permitted_fits t.plan v.seen e k.valid may,
    says,
    (let same : of_worker v.worker (v.seen ++ e ∷ []) ≡ of_worker v.worker v.seen = sym g.own ∙ f.own in
        record { view = refl; may = subst (λ (q : Terms S). why q.plan v.seen e ≡ None) (sym f.terms) may; other = λ (mine : worker_of e ≡ v.worker). own_differs v.worker v.seen e mine same; own = same }),
  )

  pub looks : (n id i : ℕ) (m : Me S (View S)) → MayRead m.0 → i ≡ suc (length m.0.seen % 4096) → Allows (Holds shape gives key) n id m i (λ x. x) (Looked (step n i 0 0 none) m)
  looks n id i m ok place s k wide at fits64 =
      let v : View S = m.0 in
      let live = ok.unspent in
      let j : ℕ = suc (length v.seen % 4096) in
      let P : ℕ → Type 0 = λ j. Goes s j id m (Looked (step n i 0 0 none) m) (get_or s.words j 0) in
      subst P (sym place) (⊎_elim
      (λ (all : (is_news (length v.seen) (get_or s.words j 0) ≡ false) × (v.seen ≡ k.history) × (get_or s.words j 0 ≡ under (map word_of v.seen))). (
        knowing v v.seen (looking v.marks (length v.seen)),
        keeps,
        tt,
        stays s k j id v (knowing v v.seen (looking v.marks (length v.seen))) at ok (idle t k.history s.views id v (looking v.marks (length v.seen)) at k.knows live) refl (k.passed.pair id v at) refl refl,
        (refl, (λ news. absurd (both_ways (is_news (length v.seen) (get_or s.words j 0)) all.0 news)), λ _. (record { view = refl; relayed = subst (λ (h : List Event). StartsWith h v.relayed) (sym all.1) (k.knows.relayed id v at); fresh = knows_fresh t k.history s.views id v at k.knows live }, all.2)),
      ))
      (λ (next : (e : Event) × (later : List Event) × (is_news (length v.seen) (get_or s.words j 0) ≡ true) × (k.history ≡ v.seen ++ e ∷ later) × (get_or s.words j 0 ≡ word_of e + lap (length v.seen)) × (why t.plan v.seen e ≡ None)). (
        saw v next.0,
        keeps,
        tt,
        stays s k j id v (saw v next.0) at ok (learns t k.history s.views id v next.0 next.1 at k.knows live next.3) refl (k.passed.pair id v at) refl refl,
        (refl, (λ _. found s k id v at live next.0 next.1 next.3 (get_or s.words j 0) next.4 next.5), λ old. absurd (both_ways (is_news (length v.seen) (get_or s.words j 0)) old next.2)),
      ))
      (finds t.plan t.limits.most s.words k.history v.seen k.valid k.ring k.lawful (k.knows.seen id v at) (omega (arith, near s k id v at ok, ok.passed))))

  pub ends : (n id i : ℕ) (m : Me S (View S)) → MayRead m.0 → length m.0.seen ≡ t.limits.most → Allows (Holds shape gives key) n id m i (λ x. x) (Ended (step n i 0 0 none) m)
  ends n id i m ok full s k wide at fits64 =
      let live = ok.unspent in
      let all : m.0.seen ≡ k.history = starts_whole k.history m.0.seen (k.knows.seen id m.0 at) (omega (arith, in_room s k, full)) in (
        knowing m.0 m.0.seen (looking m.0.marks (length m.0.seen)),
        keeps,
        tt,
        stays s k i id m.0 (knowing m.0 m.0.seen (looking m.0.marks (length m.0.seen))) at ok (idle t k.history s.views id m.0 (looking m.0.marks (length m.0.seen)) at k.knows live) refl (k.passed.pair id m.0 at) refl refl,
        (refl, record { view = refl; relayed = subst (λ (h : List Event). StartsWith h m.0.relayed) (sym all) (k.knows.relayed id m.0 at); fresh = knows_fresh t k.history s.views id m.0 at k.knows live }),
      )

  pub tells_again : (n id i : ℕ) (m : Me S (View S)) → MayRead m.0 → Allows (Holds shape gives key) n id m i (λ x. x) (Reread (step n i 0 0 none) m)
  tells_again n id i m ok s k wide at fits64 =
      let v : View S = m.0 in (
        v,
        keeps,
        tt,
        stays s k i id v v at ok (idle t k.history s.views id v v.marks at k.knows ok.unspent) refl (k.passed.pair id v at) refl refl,
        (refl, λ j below lt place. ap (λ (y : ℕ). get_or s.words y 0) place ∙ rereads t.limits.most s.words k.history v.seen j k.ring (k.knows.seen id v at) lt (omega (arith, near s k id v at ok, below))),
      )

  -- what the pass lays back lies right by the rule
  lays_there : (e : Event) (v : View S) (c : List (ℕ × S)) (n : Handed S) → IsLawful t.plan v.seen → v.terms ≡ t → worker_of e ≡ v.worker → why t.plan v.seen e ≡ None → KnowsJobs gives t n v → LaysBack shape gives e (v, c)
      → (r : Run) → given t.plan e ≡ Some r → (x : S) × (c ≡ (slot_of t.plan r, x) ∷ []) × Lies shape gives (jobs_of t (placed_at n.placed)) (v.seen ++ e ∷ []) r x
  lays_there e v c n lawful terms mine may knows back r gave =
      let back' : (r : Run) → given t.plan e ≡ Some r → (x : S) × (c ≡ (slot_of t.plan r, x) ∷ []) × Lies shape gives (jobs_of t (λ b. v.first)) (v.seen ++ e ∷ []) r x =
      subst (λ (q : Terms S). (r : Run) → given q.plan e ≡ Some r → (x : S) × (c ≡ (slot_of q.plan r, x) ∷ []) × Lies shape gives (jobs_of q (λ b. v.first)) (v.seen ++ e ∷ []) r x) terms back in
      let b = back' r gave in (b.0, b.1, by_rule r gave b.0 b.2)
    where
      by_rule : (r : Run) → given t.plan e ≡ Some r → (x : S) → Lies shape gives (jobs_of t (λ b. v.first)) (v.seen ++ e ∷ []) r x → Lies shape gives (jobs_of t (placed_at n.placed)) (v.seen ++ e ∷ []) r x
      by_rule (Block b) gave x lies =
          let held = ap (held_by t.plan v.seen) (sym mine) ∙ givings_are_the_holders t.plan v.seen lawful e (Block b) gave may in
          lies_more shape gives (May gives (jobs_of t (λ k. v.first)) b.0) (May gives (jobs_of t (placed_at n.placed)) b.0) (is_ended (v.seen ++ e ∷ []) b.0) (is_block_cancelled t.plan (v.seen ++ e ∷ []) b.0) x
          (λ y. subst (λ (q : Terms S). May gives (jobs_of q (λ k. v.first)) b.0 y → May gives (jobs_of t (placed_at n.placed)) b.0 y) terms (knows.held b held y)) lies
      by_rule (Source s) gave x lies = lies

  untaken_first : (e : Event) (first : Maybe S) (d : List (ℕ × S)) → taken e ≡ None → first_after e first d ≡ first
  untaken_first e first d nothing = ap (λ (o : Maybe Run). cond (is_some o) (front_cell d) first) nothing

  pub tries : (n id i : ℕ) (m : Me S (View S)) (e : Event) (old new : ℕ) (said : Option S) → MayRead m.0 → i ≡ suc (length m.0.seen % 4096) → length m.0.seen < t.limits.most → worker_of e ≡ m.0.worker → why m.0.terms.plan m.0.seen e ≡ None → LaysBack shape gives e m → IsBack m.0.handed.next
      → old ≡ under (map word_of m.0.seen) → new ≡ word_of e + lap (length m.0.seen) → m.0.marks.upto ≡ 64 → length m.0.seen < m.0.marks.floor + 4096
      → Allows (Holds shape gives key) n id m i (λ x. either (eqb x old) new x) (Tried shape gives (step n i old new said) m)
  tries n id i m e old new said ok place room mine may back home is_old is_word upto near_pair s k wide at fits64 =
      let v : View S = m.0 in
      let live = ok.unspent in
      let then : ℕ → Me S (View S) → Type 0 = Tried shape gives (step n i old new said) m in
      let j : ℕ = suc (length m.0.seen % 4096) in
      let f = k.knows.fits id m.0 at live in
      let may' : why t.plan m.0.seen e ≡ None = subst (λ (q : Terms S). why q.plan m.0.seen e ≡ None) f.terms may in
      let knows = k.jobs id m.0 at live in
      let P : ℕ → Type 0 = λ y. Goes s y id m then (either (eqb (get_or s.words y 0) old) new (get_or s.words y 0)) in
      subst P (sym place) (⊎_elim
      (λ (all : (is_news (length v.seen) (get_or s.words j 0) ≡ false) × (v.seen ≡ k.history) × (get_or s.words j 0 ≡ under (map word_of v.seen))).
      let lawful : IsLawful t.plan m.0.seen = subst (IsLawful t.plan) (sym all.1) k.lawful in
      let l : Landing shape gives t m.0.seen e k.handed m.0.first s.homes m.1 = lands shape gives t m.0.seen e k.handed m.0.first s.homes m.1 k.valid lawful may' (λ of. subst (λ (x : Handed S). IsBack x.next) (knows.mine (sym mine ∙ callers_first e of)) home)
      (subst (λ (h : List Event). Homes shape gives t h k.handed s.homes) (sym all.1) k.slots) (lays_there e m.0 m.1 k.handed lawful f.terms mine may' knows back) in
      let own : Handing gives t m.0.seen e k.handed l.handed k.valid lawful may' l.hands m.0 = handing gives t m.0.seen e k.handed l.handed k.valid lawful may' l.hands m.0 mine knows in
      let w : View S = noting (saw v e) l.noted own.handed in
      exchanged (get_or s.words j 0) old new (Goes s j id m then)
      (λ hit.
      let longer : length (k.history ++ e ∷ []) ≡ suc (length v.seen) = omega (arith, length-append k.history (e ∷ []), ap length all.1) in
      let more : length (v.seen ++ e ∷ []) ≡ suc (length v.seen) = omega (arith, length-append v.seen (e ∷ [])) in (
        w,
        l.act,
        l.valid,
        record {
          history = k.history ++ e ∷ [];
          valid = k.valid;
          bounds = k.bounds;
          ring = subst (λ (x : ℕ). IsRing t.limits.most (set s.words j x) (map word_of (k.history ++ e ∷ []))) (sym is_word)
              (subst (λ (h : List Event). IsRing t.limits.most (set s.words (suc (length h % 4096)) (word_of e + lap (length h))) (map word_of (k.history ++ e ∷ []))) (sym all.1) (places t.limits.most s.words k.history e k.ring (omega (arith, room, ap length all.1))));
          lawful = lawful_more t.plan k.history e k.lawful (subst (λ (h : List Event). why t.plan h e ≡ None) all.1 may');
          knows = grown t k.history (k.history ++ e ∷ []) s.views id m.0 w at k.knows (adds t k.history s.views id m.0 e at k.knows live all.1 mine l.noted own.handed);
          handed = l.handed;
          jobs = all_know gives t m.0.seen e k.handed l.handed k.valid lawful may' l.hands s.views id m.0 w at (subst (λ (h : List Event). Knows t h s.views) (sym all.1) k.knows) live own.else
              (knows_own gives t m.0.seen e k.handed l.handed k.valid lawful may' l.hands m.0 l.noted own.handed refl mine f.terms (λ nothing. l.finds ∙ untaken_first e m.0.first (carried_after m.1 l.act) nothing) l.knows own.mine knows)
              k.jobs;
          passed = moved t k.history (k.history ++ e ∷ []) s.words (set s.words j new) s.views id v w at k.knows k.passed (record {
            live = live;
            spent = live;
            worker = refl;
            hands = refl;
            more = omega (arith, more);
            grows = omega arith;
            others = λ b ne. apart_passed s.words (length v.seen) new b;
            mine = apart_passed s.words (length v.seen) new v.worker ∙ k.passed.mine id v at live;
            slow = λ b lt. let up = k.passed.pair id v at b (omega (arith, lt, upto)) in omega (arith, longer, near_pair, up, apart_passed s.words (length v.seen) new b);
            pair = λ b lt. let up = k.passed.pair id v at b lt in omega (arith, up, apart_passed s.words (length v.seen) new b);
            rests = inr (omega (arith, ok.passed, more));
            few = few s k (v.seen ++ e ∷ []) (omega (arith, more, room));
          });
          slots = subst (λ (h : List Event). Homes shape gives t (h ++ e ∷ []) l.handed (homes_after s.homes m.1 l.act)) all.1 l.landed;
        },
        (
          (λ _ x fx says. let same : e ≡ x = same_from_word e x (permitted_fits t.plan m.0.seen e k.valid may') fx (omega (arith, is_word, says)) in
              subst (λ (y : Event). Wins shape gives y m.0 m.1 w (carried_after m.1 l.act)) same
              (record { view = refl; first = l.finds; handed = own.on; turned = subst (λ (q : Terms S). Turned shape gives (jobs_of q (λ b. l.noted)) m.0.seen e m.1 (carried_after m.1 l.act)) (sym f.terms) l.turned })),
          λ ne. absurd (ne hit),
        ),
      ))
      (λ miss. absurd (miss (all.2 ∙ sym is_old))))
      (λ (next : (x : Event) × (later : List Event) × (is_news (length v.seen) (get_or s.words j 0) ≡ true) × (k.history ≡ v.seen ++ x ∷ later) × (get_or s.words j 0 ≡ word_of x + lap (length v.seen)) × (why t.plan v.seen x ≡ None)).
      exchanged (get_or s.words j 0) old new (Goes s j id m then)
      (λ hit.
      let begins = k.knows.seen id v at in
      let lawful : IsLawful t.plan v.seen = lawful_front t.plan v.seen begins.0 (subst (IsLawful t.plan) begins.1 k.lawful) in
      let stale : is_news (length v.seen) (under (map word_of v.seen)) ≡ false = subst (λ (y : ℕ). is_news y (under (map word_of v.seen)) ≡ false) (words_length v.seen) (under_is_old (map word_of v.seen) (all_words t.plan v.seen k.valid lawful)) in
      absurd (both_ways (is_news (length v.seen) (under (map word_of v.seen))) stale (ap (is_news (length v.seen)) (sym (hit ∙ is_old)) ∙ next.2)))
      (λ miss. (
        saw m.0 next.0,
        keeps,
        tt,
        stays s k j id m.0 (saw m.0 next.0) at ok (learns t k.history s.views id m.0 next.0 next.1 at k.knows live next.3) refl (k.passed.pair id v at) refl refl,
        ((λ hit. absurd (miss hit)), λ ne. (refl, found s k id m.0 at live next.0 next.1 next.3 (get_or s.words j 0) next.4 next.5)),
      )))
      (finds t.plan t.limits.most s.words k.history v.seen k.valid k.ring k.lawful (k.knows.seen id v at) (omega (arith, near s k id v at ok, ok.passed))))

  -- a pass stores its own passed word, which grows
  pub stores : (n id i : ℕ) (m : Me S (View S)) (x : ℕ) → MayRead m.0 → i ≡ 4097 + m.0.worker → (x ≡ gone) ⊎ ((m.0.marks.passed ≤ x) × (x ≤ length m.0.seen)) → Allows (Holds shape gives key) n id m i (λ _. x) (λ _. PassedOn (step n i x 0 none) m x)
  stores n id i m x ok place which s k wide at fits64 =
      let v : View S = m.0 in
      let begins : length v.seen ≤ length k.history = starts_length k.history v.seen (k.knows.seen id v at) in
      let grows : v.marks.passed ≤ x = ⊎_elim (λ (is : x ≡ gone). omega (arith, is, ok.passed, begins, in_room s k, k.bounds.2)) (λ (le : (v.marks.passed ≤ x) × (x ≤ length v.seen)). le.0) which in
      let rests : (x ≡ gone) ⊎ (x ≤ length v.seen) = ⊎_elim (λ (is : x ≡ gone). inl is) (λ (le : (v.marks.passed ≤ x) × (x ≤ length v.seen)). inr le.1) which in
      let w : View S = knowing v v.seen (passing v.marks x) in
      let after : List ℕ = set s.words (4097 + v.worker) x in
      let size : length s.words ≡ 4161 = k.ring.size in
      let mine : passed_word after v.worker ≡ x = get_or-set_same s.words (4097 + v.worker) x 0 (omega (arith, size, ok.number)) in
      let others : (b : ℕ) → b ≢ v.worker → passed_word after b ≡ passed_word s.words b = λ b ne. get_or-set_other s.words (4097 + v.worker) (4097 + b) x 0 (λ is. ne (omega (arith, is))) in
      let own : passed_word s.words v.worker ≡ v.marks.passed = k.passed.mine id v at ok.unspent in
      let up : (b : ℕ) → passed_word s.words b ≤ passed_word after b = λ b. dite (ℕ_discrete b v.worker)
      (λ is. subst (λ (c : ℕ). passed_word s.words c ≤ passed_word after c) (sym is) (omega (arith, own, mine, grows)))
      (λ ne. omega (arith, others b ne)) in (
        w,
        keeps,
        tt,
        subst (λ (y : ℕ). Kept shape gives t (set s.words y x) s.homes (set s.views id w)) (sym place) (record {
          history = k.history;
          valid = k.valid;
          bounds = k.bounds;
          ring = behind t.limits.most s.words (map word_of k.history) v.worker x k.ring;
          lawful = k.lawful;
          knows = grown t k.history k.history s.views id v w at k.knows (idle t k.history s.views id v (passing v.marks x) at k.knows ok.unspent);
          passed = moved t k.history k.history s.words after s.views id v w at k.knows k.passed (record {
            live = ok.unspent;
            spent = ok.unspent;
            worker = refl;
            hands = refl;
            more = omega arith;
            grows = grows;
            others = others;
            mine = mine;
            slow = λ b lt. let old = k.passed.slow b lt in omega (arith, old, up b);
            pair = λ b lt. let old = k.passed.pair id v at b lt in omega (arith, old, up b);
            rests = rests;
            few = few s k v.seen (omega (arith, begins, in_room s k));
          });
          handed = k.handed;
          jobs = live_set (KnowsJobs gives t k.handed) s.views id w (λ _. knows_still s k id v w at (idle t k.history s.views id v (passing v.marks x) at k.knows ok.unspent) refl refl) k.jobs;
          slots = k.slots;
        }),
        (refl, refl),
      )

  floor_le : (j f x : ℕ) → cond (eqb j 0) x (min f x) ≤ x
  floor_le j f x = go (eqb j 0)
    where
      go : (b : Bool) → cond b x (min f x) ≤ x
      go true = omega arith
      go false = Rattle.std.proofs.Math.Nat.min-le_right f x

  floor_below : (j f x : ℕ) → j ≢ 0 → cond (eqb j 0) x (min f x) ≤ f
  floor_below j f x ne = subst (λ (b : Bool). cond b x (min f x) ≤ f) (sym (ne_eqb j 0 ne)) (Rattle.std.proofs.Math.Nat.min-le_left f x)

  asked_passed : (l : Limits) (m : PassMarks) (j x : ℕ) (b : Bool) → (asked l m j x b).passed ≡ m.passed
  asked_passed l m j x true = refl
  asked_passed l m j x false = refl

  -- a pass loads the passed word of worker j, where it knows those below
  pub asks : (n id i j : ℕ) (m : Me S (View S)) → MayRead m.0 → i ≡ 4097 + j → j < t.limits.workers → (j ≢ 0 → m.0.marks.upto ≡ j) → Allows (Holds shape gives key) n id m i (λ x. x) (Asked (step n i 0 0 none) m)
  asks n id i j m ok place below chain s k wide at fits64 =
      let v : View S = m.0 in
      let live = ok.unspent in
      let x : ℕ = get_or s.words i 0 in
      let here : passed_word s.words j ≡ x = ap (λ (y : ℕ). get_or s.words y 0) (sym place) in
      let terms : v.terms ≡ t = (k.knows.fits id v at live).terms in
      let floor : ℕ = cond (eqb j 0) x (min v.marks.floor x) in
      let lets : Bool = ltb (length v.seen) (x + 4096) in
      let marks : PassMarks = asked v.terms.limits v.marks j x lets in
      let w : View S = knowing v v.seen marks in
      let low : j < 64 = omega (arith, below, k.bounds.1) in
      let slow : length k.history ≤ x + 4096 = let old = k.passed.slow j low in omega (arith, old, here) in
      let begins : length v.seen ≤ length k.history = starts_length k.history v.seen (k.knows.seen id v at) in
      let step_pair : (b : ℕ) → b < suc j → floor ≤ passed_word s.words b = λ b lt. dite (ℕ_discrete b j)
      (λ is. subst (λ (c : ℕ). floor ≤ passed_word s.words c) (sym is) (omega (arith, here, floor_le j v.marks.floor x)))
      (λ ne. let nz : j ≢ 0 = λ z. omega (arith, lt, ne, z) in let old = k.passed.pair id v at b (omega (arith, lt, ne, chain nz)) in omega (arith, old, floor_below j v.marks.floor x nz)) in
      let all_pair : (c : Bool) → eqb (suc j) v.terms.limits.workers ≡ c → (b : ℕ) → b < cond {A = ℕ} c 64 (suc j) → floor ≤ passed_word s.words b = elim [
        | false ↦ λ is b lt. step_pair b lt
        | true ↦ λ is b lt. dite (dec_le (suc j) b)
            (λ le. let end : suc j ≡ t.limits.workers = Rattle.std.proofs.lemmas.Bool.eqb-true (suc j) v.terms.limits.workers is ∙ ap (λ (y : Terms S). y.limits.workers) terms in let far = k.passed.beyond b (omega (arith, end, le)) lt in omega (arith, far, floor_le j v.marks.floor x, fits64))
            (λ not. step_pair b (omega (arith, not)))
      ] in
      let pair : (l : Bool) (b : ℕ) → b < (asked v.terms.limits v.marks j x l).upto → (asked v.terms.limits v.marks j x l).floor ≤ passed_word s.words b = elim [
        | true ↦ λ b lt. all_pair (eqb (suc j) v.terms.limits.workers) refl b lt
        | false ↦ λ b lt. k.passed.pair id v at b (omega (arith, lt, chain (λ z. omega (arith, lt, z))))
      ] in (
        w,
        keeps,
        tt,
        stays s k i id v w at ok (idle t k.history s.views id v marks at k.knows live) (asked_passed v.terms.limits v.marks j x lets) (pair lets) refl refl,
        (
          refl,
          λ b is. let same : j ≡ b = omega (arith, place, is) in subst (λ (c : ℕ). Asks v c x (knowing v v.seen (asked v.terms.limits v.marks j x lets))) same (record {
            view = refl;
            slow = omega (arith, slow, begins);
            ends = λ le. (subst (λ (h : List Event). StartsWith h v.relayed) (sym (starts_whole k.history v.seen (k.knows.seen id v at) (omega (arith, slow, le)))) (k.knows.relayed id v at), knows_fresh t k.history s.views id v at k.knows live);
            mine = λ is. sym here ∙ ap (passed_word s.words) is ∙ k.passed.mine id v at live;
          }),
        ),
      )

  -- a load at which the pass compares what it has seen with what was relayed to it
  pub compares : (n id i : ℕ) (m : Me S (View S)) → MayRead m.0 → Allows (Holds shape gives key) n id m i (λ x. x) (Compared (step n i 0 0 none) m)
  compares n id i m ok s k wide at fits64 =
      let live = ok.unspent in
      let seen = k.knows.seen id m.0 at in let relayed = k.knows.relayed id m.0 at in let f = k.knows.fits id m.0 at live in (
        m.0,
        keeps,
        tt,
        stays s k i id m.0 m.0 at ok (idle t k.history s.views id m.0 m.0.marks at k.knows live) refl (k.passed.pair id m.0 at) refl refl,
        (
          refl,
          record {
            relayed_first = λ le. starts_shorter k.history m.0.relayed m.0.seen relayed seen le;
            seen_first = λ le. let begins = starts_shorter k.history m.0.seen m.0.relayed seen relayed le in (begins, sym (between m.0.worker k.history m.0.relayed m.0.seen relayed begins f.own) ∙ f.own);
          },
        ),
      )

  pub learns_unused : (n id i : ℕ) (m : Me S (View S)) → MayRead m.0 → Allows (Holds shape gives key) n id m i (λ x. x) (Unused (step n i 0 0 none) m)
  learns_unused n id i m ok s k wide at fits64 = let live = ok.unspent in (
    m.0,
    keeps,
    tt,
    stays s k i id m.0 m.0 at ok (idle t k.history s.views id m.0 m.0.marks at k.knows live) refl (k.passed.pair id m.0 at) refl refl,
    (refl, knows_fresh t k.history s.views id m.0 at k.knows live),
  )

  pub splits : (id : ℕ) (v : View S) (w : ℕ) → v.spent ≡ false → v.worker ≡ 0 → w ≢ 0 → w < t.limits.workers → standing_of v.hands w ≡ None → Splits (Holds shape gives key) id v (lending v w) (newcomer v w)
  splits id v w live head_is nz below unused s k at = record {
    history = k.history;
    valid = k.valid;
    bounds = k.bounds;
    ring = k.ring;
    lawful = k.lawful;
    handed = k.handed;
    slots = k.slots;
    jobs = live_more (KnowsJobs gives t k.handed) (set s.views id (lending v w)) (newcomer v w)
        (λ _. knows_none gives t k.handed (newcomer v w) nz (holds_nothing t.plan v.seen w (own_none w k.history v.seen (k.knows.seen id v at) ((k.knows.head id v at live head_is).fresh w nz unused))))
        (live_set (KnowsJobs gives t k.handed) s.views id (lending v w) (λ _. knows_on gives t k.handed v (lending v w) refl refl refl refl refl (k.jobs id v at live)) k.jobs);
    knows = cuts t k.history s.views id v w at k.knows live head_is nz unused;
    passed = cut_passing t k.history s.words s.views id v w at k.knows k.passed live head_is nz below unused;
  }

  pub notes : (id : ℕ) (v : View S) → Splits (Holds shape gives key) id v v (note v)
  notes id v s k at = record {
    history = k.history;
    valid = k.valid;
    bounds = k.bounds;
    ring = k.ring;
    lawful = k.lawful;
    handed = k.handed;
    jobs = subst (λ (vs : List (View S)). Live (KnowsJobs gives t k.handed) (vs ++ note v ∷ [])) (sym (set_again s.views id v at))
        (live_more (KnowsJobs gives t k.handed) s.views (note v) (spent_says (KnowsJobs gives t k.handed) (note v) refl) k.jobs);
    slots = k.slots;
    passed = subst (λ (vs : List (View S)). PassedWords t k.history s.words (vs ++ note v ∷ [])) (sym (set_again s.views id v at)) (noted_passed t k.history s.words s.views (note v) k.passed refl refl);
    knows = subst (λ (vs : List (View S)). Knows t k.history (vs ++ note v ∷ [])) (sym (set_again s.views id v at)) (noted t k.history s.views (note v) k.knows refl (k.knows.seen id v at) (starts_nil k.history));
  }

  pub hears : (id : ℕ) (v : View S) (far : ℕ) (u : View S) → MayRead v → u.spent ≡ true → Joins (Holds shape gives key) id v far u (hearing v u) spent_view
  hears id v far u ok gone_now s k at apart at_far =
      let live = ok.unspent in
      let w : View S = hearing v u in
      let later : List (View S) = set s.views id w in
      let theirs : get_elem? s.views far ≡ some u = sym (set_else s.views id far w apart) ∙ at_far in
      let g : Grows k.history k.history v w = record { live = live; grows = starts_refl k.history; others = λ n ne. refl; terms = refl; spent = live; worker = refl; hands = refl; more = starts_refl v.seen; seen = k.knows.seen id v at; relayed = k.knows.seen far u theirs; own = (k.knows.fits id v at live).own; whole = inl refl } in
      record {
        history = k.history;
        valid = k.valid;
        bounds = k.bounds;
        ring = k.ring;
        lawful = k.lawful;
        handed = k.handed;
        slots = k.slots;
        jobs = live_set (KnowsJobs gives t k.handed) later far spent_view (spent_says (KnowsJobs gives t k.handed) spent_view refl)
            (live_set (KnowsJobs gives t k.handed) s.views id w (λ _. knows_still s k id v w at g refl refl) k.jobs);
        passed = wiped_passed t k.history s.words later far u (passed_on s k id v w at ok g refl (k.passed.pair id v at)) at_far gone_now;
        knows = wiped t k.history later far u (grown t k.history k.history s.views id v w at k.knows g) at_far gone_now;
      }

  pub joins : (id : ℕ) (v : View S) (far : ℕ) (u : View S) → v.spent ≡ false → v.worker ≡ 0 → u.spent ≡ false → u.marks.passed ≡ gone → Joins (Holds shape gives key) id v far u (merging v u) spent_view
  joins id v far u live head_is alive stored s k at apart at_far =
      let theirs : get_elem? s.views far ≡ some u = sym (set_else s.views id far (merging v u) apart) ∙ at_far in
      let w : View S = merging v u in
      let own = both_own t k.history s.views id v at k.knows live head_is far u apart theirs alive in
      record {
        history = k.history;
        valid = k.valid;
        bounds = k.bounds;
        ring = k.ring;
        lawful = k.lawful;
        handed = k.handed;
        slots = k.slots;
        jobs = live_set (KnowsJobs gives t k.handed) (set s.views id w) far spent_view (spent_says (KnowsJobs gives t k.handed) spent_view refl)
            (live_set (KnowsJobs gives t k.handed) s.views id w (λ _. knows_on gives t k.handed v w refl refl refl refl (own_events_tell_what_is_held t.plan w.seen v.seen v.worker own) (k.jobs id v at live)) k.jobs);
        knows = joins_known t k.history s.views id v at k.knows live head_is far u apart theirs alive;
        passed = joins_passing t k.history s.words s.views id v at k.knows k.passed live head_is far u apart theirs alive stored;
      }

  -- a pass may put down what it has of the run that it holds
  pub puts_down : (n id i : ℕ) (m : Me S (View S)) → MayRead m.0 → HasSlots shape gives (held_jobs m.0) m.0.seen (held_by m.0.terms.plan m.0.seen m.0.worker) m.1 → Allows (Holds shape gives key) n id m i (λ x. x) (PutDown (step n i 0 0 none) m)
  puts_down n id i m ok has s k wide at fits64 =
      let live = ok.unspent in
      let g = idle t k.history s.views id m.0 m.0.marks at k.knows live in
      let f = k.knows.fits id m.0 at live in
      let has' : HasSlots shape gives (jobs_of t (λ b. m.0.first)) m.0.seen (held_by t.plan m.0.seen m.0.worker) m.1 = subst (λ (q : Terms S). HasSlots shape gives (jobs_of q (λ b. m.0.first)) m.0.seen (held_by q.plan m.0.seen m.0.worker) m.1) f.terms has in (
        m.0,
        act_gives,
        tt,
        record {
          history = k.history;
          valid = k.valid;
          bounds = k.bounds;
          ring = subst (λ (ws : List ℕ). IsRing t.limits.most ws (map word_of k.history)) (sym (set-get_or s.words i 0)) k.ring;
          lawful = k.lawful;
          knows = grown t k.history k.history s.views id m.0 m.0 at k.knows g;
          passed = subst (λ (ws : List ℕ). PassedWords t k.history ws (set s.views id m.0)) (sym (set-get_or s.words i 0)) (passed_on s k id m.0 m.0 at ok g refl (k.passed.pair id m.0 at));
          handed = k.handed;
          jobs = live_set (KnowsJobs gives t k.handed) s.views id m.0 (λ _. k.jobs id m.0 at live) k.jobs;
          slots = rests_there shape gives t (jobs_of t (λ b. m.0.first)) k.history k.handed m.0.worker m.0.seen s.homes m.1 refl k.valid k.lawful f.own has' k.slots;
        },
        (refl, refl),
      )
