-- The steps by which worker 0 lays something into the slot of the next block keep the rule.
use Rattle.std.proofs.Common.{◌≡◌, ◌≢◌, ℕ, false, List, ◌∷◌, length-set, set, get_or, Some, sym, refl, ap, ◌∙◌, subst, arith}
use Rattle.std.proofs.lemmas.List.{set-get_or}
use Rattle.std.proofs.lemmas.Option.{same_Some}
use mathlib.Core.Logic.{dite}
use mathlib.Core.Option.{Option, none, some}
use native.Mathlib.Decide.{ℕ_discrete}
use lib.ListN.{get_elem?}
use Rattle.atomic_table.specs.Table.{State, Me, step, takes as act_takes, gives as act_gives, rest, put_back, Allows}
use Rattle.atomic_table.proofs.Lists.{set_here, set_else}
use Rattle.gcd_plan.specs.PlanView.{IsRun}
use Rattle.gcd_plan.specs.declared.numbers.Blk.{Blk}
use Rattle.gcd_plan.specs.declared.numbers.Run.{Run}
use Rattle.gcd_plan.specs.declared.numbers.Run.TheVariants.{Block}
use Rattle.gcd_history.specs.History.{is_block_cancelled, next_of_intake}
use Rattle.gcd_history.specs.Team.{of_worker}
use Rattle.gcd_row.specs.Shapes.{Shape, body}
use Rattle.gcd_row.specs.Jobs.{May, placed_at, jobs_of}
use Rattle.gcd_row.specs.Lying.{slot_of, BodyLies, Lies}
use Rattle.gcd_row.specs.Passes.{MayRead}
use Rattle.gcd_row.specs.Plays.{IsLaid, Reached, LaidThere}
use Rattle.gcd_row.specs.Rule.{KnowsJobs, Homes, Kept, Holds}
use Rattle.gcd_row.specs.Views.{IsBack, given_terms, turning}
use Rattle.gcd_row.specs.declared.view.Copies.{Copies}
use Rattle.gcd_row.specs.declared.view.Handed.{Handed}
use Rattle.gcd_row.specs.declared.view.Next.{Next}
use Rattle.gcd_row.specs.declared.view.Next.TheVariants.{Out, Laid}
use Rattle.gcd_row.specs.declared.view.Terms.{Terms}
use Rattle.gcd_row.specs.declared.view.View.{View}
use Rattle.gcd_row.proofs.Accepted.{next_by_own, next_known, next_nobodys, next_of, next_unaccepted, next_unended}
use Rattle.gcd_row.proofs.Fronts.{starts_refl}
use Rattle.gcd_row.proofs.Holding.{head_of}
use Rattle.gcd_row.proofs.Jobs.{intake_job, live_else}
use Rattle.gcd_row.proofs.Keeping.{passed_on}
use Rattle.gcd_row.proofs.Landing.{laid_there, out_back}
use Rattle.gcd_row.proofs.Running.{same_slot, slot_below}
use Rattle.gcd_row.proofs.Seen.{Grows, grown}
use Rattle.std.proofs.Common.{inl}

module _ {S : Type 0} where
  out_laid : {A : Type 0} {c : S} → Out ≡ Laid c → A
  out_laid is = absurd (cc)

  laid_cell : S → Next S → S
  laid_cell c (Laid x) = x
  laid_cell c other = c

  -- what lies there is told by the step that laid it
  same_laid : (c x : S) → Laid c ≡ Laid x → c ≡ x
  unfolding laid_cell
  same_laid c x is = ap (laid_cell c) is

module _ {S : Type 0} (shape : S → Shape) (gives : S → ℕ → Type 0) (key : Copies S) where
  abbrev t : Terms S
  t = given_terms key

  -- worker 0's pass has seen all that tells which block comes next
  comes_now : (s : State S (View S)) (k : Kept shape gives t s.words s.homes s.views) (id : ℕ) (v : View S) (b : Blk) → get_elem? s.views id ≡ some v → v.spent ≡ false → v.worker ≡ 0 → next_of_intake v.terms.plan v.seen ≡ Some b → next_of_intake t.plan k.history ≡ Some b
  comes_now s k id v b at live head_is comes =
      let f = k.knows.fits id v at live in
      next_by_own t.plan k.history v.seen (subst (λ (w : ℕ). of_worker w k.history ≡ of_worker w v.seen) head_is f.own) ∙ ap (λ (q : Terms S). next_of_intake q.plan v.seen) (sym f.terms) ∙ comes

  still : (s : State S (View S)) (k : Kept shape gives t s.words s.homes s.views) (id : ℕ) (v : View S) (next : Next S) → get_elem? s.views id ≡ some v → v.spent ≡ false → Grows k.history k.history v (turning v next)
  still s k id v next at live = record {
    live = live;
    grows = starts_refl k.history;
    others = λ n ne. refl;
    terms = refl;
    spent = live;
    worker = refl;
    hands = refl;
    more = starts_refl v.seen;
    seen = k.knows.seen id v at;
    relayed = k.knows.relayed id v at;
    own = (k.knows.fits id v at live).own;
    whole = inl refl;
  }

  -- the rule after such a step, where the slots are right
  turns : (s : State S (View S)) (k : Kept shape gives t s.words s.homes s.views) (i id : ℕ) (v : View S) (next : Next S) (homes : List (Option S)) → get_elem? s.views id ≡ some v → MayRead v → v.worker ≡ 0
      → Homes shape gives t k.history (record { placed = k.handed.placed; next = next }) homes → Kept shape gives t (set s.words i (get_or s.words i 0)) homes (set s.views id (turning v next))
  turns s k i id v next homes at ok head_is landed =
      let live = ok.unspent in
      let w : View S = turning v next in
      let n : Handed S = record { placed = k.handed.placed; next = next } in
      let g = still s k id v next at live in
      let mine = (k.jobs id v at live).mine head_is in
      subst (λ (ws : List ℕ). Kept shape gives t ws homes (set s.views id w)) (sym (set-get_or s.words i 0)) (record {
        history = k.history;
        valid = k.valid;
        bounds = k.bounds;
        ring = k.ring;
        lawful = k.lawful;
        knows = grown t k.history k.history s.views id v w at k.knows g;
        passed = passed_on shape gives key s k id v w at ok g refl (k.passed.pair id v at);
        handed = n;
        jobs = live_else (KnowsJobs gives t k.handed) (KnowsJobs gives t n) s.views id w
            (λ _. record { mine = λ _. ap (λ (x : Handed S). record { placed = x.placed; next = next }) mine; held = (k.jobs id v at live).held })
            (λ by u ne at_u alive knows. record { mine = λ zero_is. absurd (ne (k.knows.alone by id u v at_u at alive live (zero_is ∙ sym head_is))); held = knows.held })
            k.jobs;
        slots = landed;
      })

  pub reaches : (n id i : ℕ) (m : Me S (View S)) (b : Blk) → MayRead m.0 → m.0.worker ≡ 0 → IsBack m.0.handed.next → next_of_intake m.0.terms.plan m.0.seen ≡ Some b → Allows (Holds shape gives key) n id m i (λ x. x) (Reached shape (step n i 0 0 none) m)
  reaches n id i m b ok head_is home comes s k wide at fits64 =
      let v : View S = m.0 in
      let live = ok.unspent in
      let mine : v.handed ≡ k.handed = (k.jobs id v at live).mine head_is in
      let back : IsBack k.handed.next = subst (λ (x : Handed S). IsBack x.next) mine home in
      let now = comes_now s k id v b at live head_is comes in
      let known : IsRun t.plan (Block b) = next_known t.plan k.history b k.valid now in
      let there = k.slots.home (Block b) known (next_nobodys t.plan k.history b k.valid k.lawful now) (λ o. out_back k.handed.next back o.out) in
      let c : S = there.0 in
      let whole : shape c ≡ body = (subst (λ e. BodyLies shape gives (May gives (jobs_of t (placed_at k.handed.placed)) b.0) e (is_block_cancelled t.plan k.history b.0) c) (next_unended t.plan k.history b k.valid k.lawful now) there.2).0 in
      let last : IsLaid v.handed.next c = subst (λ (x : Handed S). IsLaid x.next c) (sym mine) (laid_there shape gives t k.history k.handed s.homes k.slots b c now there.1 k.handed.next refl back) in (
        turning v Out,
        act_takes b.0 c,
        there.1,
        turns s k i id v Out (set s.homes b.0 none) at ok head_is (record {
          width = length-set s.homes b.0 none ∙ k.slots.width;
          home = λ r r_known nobodys unless.
              let apart : slot_of t.plan r ≢ b.0 = λ same. unless (record { out = refl; block = b; comes = now; its = same_slot t.plan r (Block b) r_known known same }) in
              let old = k.slots.home r r_known nobodys (λ o. out_back k.handed.next back o.out) in
              (old.0, set_else s.homes b.0 (slot_of t.plan r) none apart ∙ old.1, old.2);
          laid = λ a x _ is. out_laid is;
          placed = k.slots.placed;
          accepted = k.slots.accepted;
        }),
        λ a a_comes. subst (λ (z : Blk). (x : S) × ◌≡◌ {A = Me S (View S)} (turning v Out, (b.0, c) ∷ m.1) (turning v Out, (z.0, x) ∷ m.1) × (shape x ≡ body) × IsLaid v.handed.next x) (same_Some b a (sym comes ∙ a_comes)) (c, refl, whole, last),
      )

  pub lays_down : (n id i : ℕ) (m : Me S (View S)) (b : Blk) (c : S) (others : List (ℕ × S)) → MayRead m.0 → m.0.worker ≡ 0 → m.0.handed.next ≡ Out → next_of_intake m.0.terms.plan m.0.seen ≡ Some b → m.1 ≡ (b.0, c) ∷ others → shape c ≡ body
      → Allows (Holds shape gives key) n id m i (λ x. x) (LaidThere (step n i 0 0 none) m)
  lays_down n id i m b c others ok head_is out comes front whole s k wide at fits64 =
      let v : View S = m.0 in
      let live = ok.unspent in
      let now = comes_now s k id v b at live head_is comes in
      let known : IsRun t.plan (Block b) = next_known t.plan k.history b k.valid now in
      let put : put_back s.homes m.1 ≡ set s.homes b.0 (some c) = ap (put_back s.homes) front in
      let here : get_elem? (set s.homes b.0 (some c)) b.0 ≡ some (some c) = set_here s.homes b.0 (some c) (omega (arith, k.slots.width, slot_below t.plan (Block b) known)) in
      let lies : Lies shape gives (jobs_of t (placed_at k.handed.placed)) k.history (Block b) c =
      subst (λ e. BodyLies shape gives (May gives (jobs_of t (placed_at k.handed.placed)) b.0) e (is_block_cancelled t.plan k.history b.0) c) (sym (next_unended t.plan k.history b k.valid k.lawful now))
      (whole, λ x _ job job_is. absurd (next_unaccepted t.plan k.history b now (k.slots.placed b.0 job (sym (intake_job t (placed_at k.handed.placed) b.0 (next_of t.plan k.history b now)) ∙ job_is)))) in (
        turning v (Laid c),
        act_gives,
        tt,
        subst (λ (homes : List (Option S)). Kept shape gives t (set s.words i (get_or s.words i 0)) homes (set s.views id (turning v (Laid c)))) (sym put)
            (turns s k i id v (Laid c) (set s.homes b.0 (some c)) at ok head_is (record {
              width = length-set s.homes b.0 (some c) ∙ k.slots.width;
              home = λ r r_known nobodys _. dite (ℕ_discrete (slot_of t.plan r) b.0)
                  (λ same. subst (λ (q : Run). (x : S) × (get_elem? (set s.homes b.0 (some c)) (slot_of t.plan q) ≡ some (some x)) × Lies shape gives (jobs_of t (placed_at k.handed.placed)) k.history q x) (sym (same_slot t.plan r (Block b) r_known known same)) (c, here, lies))
                  (λ ne.
                  let old = k.slots.home r r_known nobodys (λ o. ne (ap (slot_of t.plan) o.its ∙ ap (λ (z : Blk). z.0) (same_Some o.block b (sym o.comes ∙ now)))) in
                  (old.0, set_else s.homes b.0 (slot_of t.plan r) (some c) ne ∙ old.1, old.2));
              laid = λ a x a_comes is. subst (λ (z : Blk). get_elem? (set s.homes b.0 (some c)) z.0 ≡ some (some x)) (same_Some b a (sym now ∙ a_comes)) (here ∙ ap (λ (y : S). some (some y)) (same_laid c x is));
              placed = k.slots.placed;
              accepted = k.slots.accepted;
            })),
        λ a x more is.
            let same : c ≡ x = ap (λ (l : List (ℕ × S)). (head_of b.0 c l).1) (sym front ∙ is) in
            let behind : rest m.1 ≡ more = ap rest is in
            λ j. (turning v (Laid (same j)), behind j),
      )
