-- The slots after an event of the pass's own.
use Rattle.std.proofs.Common.{◌≡◌, ◌≢◌, ℕ, ⊎_elim, true, false, List, [], ◌∷◌, ◌++◌, set, Some, None, Option, is_some, cond, sym, refl, ap, ◌∙◌, subst, arith, length-set}
use Rattle.std.specs.List.{list_any}
use mathlib.Core.Logic.{dite}
use mathlib.Core.Option.{Option as Maybe, none, some, some-injective}
use native.Mathlib.Decide.{ℕ_discrete}
use lib.ListN.{get_elem?}
use Rattle.std.proofs.lemmas.Option.{same_Some}
use Rattle.atomic_table.specs.Table.{Act, keeps, takes as act_takes, gives as act_gives, Valid, homes_after, carried_after, put_back}
use Rattle.atomic_table.proofs.Lists.{set_here, set_else}
use Rattle.gcd_plan.specs.PlanView.{IsRun}
use Rattle.gcd_plan.specs.Validity.{IsPlan}
use Rattle.gcd_plan.specs.declared.numbers.Blk.{Blk}
use Rattle.gcd_plan.specs.declared.numbers.Run.{Run}
use Rattle.gcd_plan.specs.declared.numbers.Run.TheVariants.{Block, Source}
use Rattle.gcd_event.specs.declared.event.Event.{Event}
use Rattle.gcd_history.specs.Choice.{worker_of}
use Rattle.gcd_history.specs.Facts.{is_of_callers}
use Rattle.gcd_history.specs.History.{why, IsLawful, is_ended, is_block_cancelled, next_of_intake}
use Rattle.gcd_history.specs.Intake.{accepts, accepted}
use Rattle.gcd_history.proofs.Permitted.Lawful.{lawful_more}
use Rattle.gcd_history.specs.Held.{taken, given}
use Rattle.gcd_history.specs.Team.{of_worker, held_by}
use Rattle.gcd_history.specs.TeamFacts.{IsNobodys}
use Rattle.gcd_history.proofs.HeldRuns.OwnEvents.{own_events_tell_what_is_held}
use Rattle.gcd_history.proofs.Public.TeamLaws.{takings_find_nobody, givings_are_the_holders}
use Rattle.gcd_history.proofs.HeldRuns.Cells.{cells_stay, held_cells_wait}
use Rattle.gcd_history.proofs.HeldRuns.Holders.{comes_home, what_is_held_after, takes_alone}
use Rattle.gcd_history.proofs.MadeBlocks.AcceptsStay.{uncalled_accepts_none}
use Rattle.gcd_row.specs.Shapes.{Shape}
use Rattle.gcd_row.specs.Jobs.{Jobs, May, placed_at, job_of, jobs_of}
use Rattle.gcd_row.specs.Lying.{slot_of, BodyLies, Lies, HasSlots}
use Rattle.gcd_row.specs.Plays.{HandsOn, IsLaid, Turned, first_after, front_cell}
use Rattle.gcd_row.specs.Rule.{Homes, IsOut}
use Rattle.gcd_row.specs.Views.{IsBack}
use Rattle.gcd_row.specs.declared.view.Handed.{Handed}
use Rattle.gcd_row.specs.declared.view.Next.{Next}
use Rattle.gcd_row.specs.declared.view.Next.TheVariants.{First, Out, Laid}
use Rattle.gcd_row.specs.declared.view.Terms.{Terms}
use Rattle.gcd_row.proofs.Accepted.{accepted_before, accepted_more, accepts_another, accepts_nothing, taken_not_callers, given_not_callers, taken_accepted, next_of, next_unaccepted, next_known, next_nobodys, next_unended, next_stays, next_was, accept_next, accept_counts, accept_callers}
use Rattle.gcd_row.proofs.Jobs.{placed_here, placed_else, intake_job, same_job, same_may, lies_more, found_gives, found_lies}
use Rattle.gcd_row.proofs.Running.{known_run, taken_known, given_known, taken_not_given, same_slot, slot_below, none_some}
use Rattle.gcd_row.proofs.Holding.{lies_stay}

-- an act that keeps the slots right after one's own event, with what the pass notes then
pub record Landing {S : Type 0} (shape : S → Shape) (gives : S → ℕ → Type 0) (t : Terms S) (h : List Event) (e : Event) (n : Handed S) (first : Option S) (homes : List (Maybe S)) (c : List (ℕ × S)) : Type 0 where
  pub act : Act S
  pub valid : Valid homes c act
  pub noted : Option S
  pub handed : Handed S
  pub landed : Homes shape gives t (h ++ e ∷ []) handed (homes_after homes c act)
  pub turned : Turned shape gives (jobs_of t (λ k. noted)) h e c (carried_after c act)
  pub finds : noted ≡ first_after e first (carried_after c act)
  pub hands : HandsOn (accepted e) n handed
  pub knows : (b : Blk) → taken e ≡ Some (Block b) → (x : ℕ) → May gives (jobs_of t (λ k. noted)) b.0 x → May gives (jobs_of t (placed_at handed.placed)) b.0 x

-- worker 0 does not have the slot that it has laid something into
pub out_back : {S : Type 0} (next : Next S) → IsBack next → next ≡ Out → ⊥
out_back next back is = subst IsBack is back

-- what lies in the slot of the next block is what worker 0 laid there last
pub laid_there : {S : Type 0} (shape : S → Shape) (gives : S → ℕ → Type 0) (t : Terms S) (h : List Event) (n : Handed S) (homes : List (Maybe S)) → Homes shape gives t h n homes
    → (b : Blk) (c : S) → next_of_intake t.plan h ≡ Some b → get_elem? homes b.0 ≡ some (some c) → (next : Next S) → n.next ≡ next → IsBack next → IsLaid next c
laid_there shape gives t h n homes old b c comes at First is ok = tt
laid_there shape gives t h n homes old b c comes at Out is ok = ok
laid_there shape gives t h n homes old b c comes at (Laid x) is ok = some-injective c x (some-injective (some c) (some x) (sym at ∙ old.laid b x comes is))

pub first_laid : {S A : Type 0} {c : S} → First ≡ Laid c → A
first_laid is = absurd (cc)

module _ {S : Type 0} (shape : S → Shape) (gives : S → ℕ → Type 0) (t : Terms S) (h : List Event) (e : Event) (n : Handed S) (first : Option S) (homes : List (Maybe S)) (c : List (ℕ × S))
    (plan_fits : IsPlan t.plan) (lawful : IsLawful t.plan h) (may : why t.plan h e ≡ None) (back : is_of_callers e ≡ true → IsBack n.next) (old : Homes shape gives t h n homes) where
  abbrev jobs : Jobs S
  jobs = jobs_of t (placed_at n.placed)

  abbrev after : List Event
  after = h ++ e ∷ []

  -- a slot that worker 0 did not lack after the event it did not lack before
  not_out : (r : Run) → (IsOut t.plan after n.next r → ⊥) → IsOut t.plan h n.next r → ⊥
  not_out r unless o = elim (is_of_callers e) as (λ v. is_of_callers e ≡ v → ⊥) [
    | true ↦ λ of. out_back n.next (back of) o.out
    | false ↦ λ other. unless (record { out = o.out; block = o.block; comes = next_stays t.plan h e other ∙ o.comes; its = o.its })
  ] refl

  -- where a run's cell lies after the event, which is nobody's then: it was given with the event, or lies where it lay
  settles : (homes2 : List (Maybe S)) (r : Run) → IsRun t.plan r → IsNobodys t.plan after r → (IsOut t.plan after n.next r → ⊥)
      → (given t.plan e ≡ Some r → (y : S) × (get_elem? homes2 (slot_of t.plan r) ≡ some (some y)) × Lies shape gives jobs after r y)
      → (IsNobodys t.plan h r → (taken e ≡ Some r → ⊥) → get_elem? homes2 (slot_of t.plan r) ≡ get_elem? homes (slot_of t.plan r))
      → (y : S) × (get_elem? homes2 (slot_of t.plan r) ≡ some (some y)) × Lies shape gives jobs after r y
  settles homes2 r known nobodys unless back else = ⊎_elim
      (λ (is : given t.plan e ≡ Some r). back is)
      (λ (was : IsNobodys t.plan h r × (taken e ≡ Some r → ⊥)). let there = old.home r known was.0 (not_out r unless) in
      (there.0, else was.0 was.1 ∙ there.1, lies_stay shape gives jobs h e r there.0 lawful may was.0 was.1 there.2))
      (comes_home t.plan h e (lawful_more t.plan h e lawful may) r nobodys)

  -- the slot of the next block is not that of another run
  apart : (r : Run) (b : Blk) → IsRun t.plan r → next_of_intake t.plan h ≡ Some b → (r ≡ Block b → ⊥) → b.0 ≢ slot_of t.plan r
  apart r b known comes ne same = ne (sym (same_slot t.plan (Block b) r (next_known t.plan h b plan_fits comes) known same))

  -- the rest, where nothing is accepted and that slot is as it was
  stay_laid : (homes2 : List (Maybe S)) → accepted e ≡ None → ((b : Blk) → next_of_intake t.plan h ≡ Some b → get_elem? homes2 b.0 ≡ get_elem? homes b.0)
      → (b : Blk) (x : S) → next_of_intake t.plan after ≡ Some b → n.next ≡ Laid x → get_elem? homes2 b.0 ≡ some (some x)
  stay_laid homes2 nothing same b x comes is = let came = next_was t.plan h e b nothing comes in same b came ∙ old.laid b x came is

  stay_placed : (b : ℕ) (x : S) → placed_at n.placed b ≡ Some x → list_any (accepts b) after ≡ true
  stay_placed b x at = accepted_more h (e ∷ []) b (old.placed b x at)

  stay_accepted : accepted e ≡ None → (b : ℕ) → list_any (accepts b) after ≡ true → (x : S) × (placed_at n.placed b ≡ Some x)
  stay_accepted nothing b stands = old.accepted b (accepted_before h e b (accepts_nothing e b nothing) stands)

  nothing_handed : accepted e ≡ None → HandsOn (accepted e) n n
  nothing_handed nothing = subst (λ (o : Option Blk). HandsOn o n n) (sym nothing) refl

  nothing_found : taken e ≡ None → (d : List (ℕ × S)) → first ≡ first_after e first d
  nothing_found nothing d = sym (ap (λ (o : Option Run). cond (is_some o) (front_cell d) first) nothing)

  -- a block that is taken has not ended
  taken_unended : (b : Blk) → taken e ≡ Some (Block b) → is_ended h b.0 ≡ false
  taken_unended b is =
      sym ((cells_stay t.plan h e).bodies b (λ gave. none_some (given t.plan e) (Block b) (taken_not_given t.plan e (Block b) is) gave))
      ∙ (held_cells_wait t.plan after (lawful_more t.plan h e lawful may)).bodies (worker_of e) b ((what_is_held_after t.plan h e).took (Block b) is)

  -- nor does it come next
  taken_not_next : (r : Run) → taken e ≡ Some r → (b : Blk) → next_of_intake t.plan h ≡ Some b → r ≡ Block b → ⊥
  taken_not_next r is b comes its = next_unaccepted t.plan h b comes (taken_accepted t.plan h e b plan_fits lawful may (next_of t.plan h b comes) (is ∙ ap Some its))

  -- what is found there is, as the pass knows it, what lies there
  lies_found : (r : Run) (y : S) → taken e ≡ Some r → Lies shape gives jobs h r y → Lies shape gives (jobs_of t (λ k. Some y)) h r y
  lies_found (Block b) y is lies =
      let marked = is_block_cancelled t.plan h b.0 in
      let open_still = taken_unended b is in
      subst (λ v. BodyLies shape gives (May gives (jobs_of t (λ k. Some y)) b.0) v marked y) (sym open_still)
      (found_lies shape gives t (placed_at n.placed) b.0 y marked (subst (λ v. BodyLies shape gives (May gives jobs b.0) v marked y) open_still lies))
  lies_found (Source s) y is lies = lies

  gives_found : (b : Blk) (y : S) → taken e ≡ Some (Block b) → Lies shape gives jobs h (Block b) y → (x : ℕ) → May gives (jobs_of t (λ k. Some y)) b.0 x → May gives jobs b.0 x
  gives_found b y is lies = found_gives shape gives t (placed_at n.placed) b.0 y (subst (λ v. BodyLies shape gives (May gives jobs b.0) v (is_block_cancelled t.plan h b.0) y) (taken_unended b is) lies).1

  lands_take : (r : Run) → taken e ≡ Some r → Landing shape gives t h e n first homes c
  lands_take r is =
      let known : IsRun t.plan r = known_run t.plan r (taken_known t.plan h e r is may) in
      let nobodys : IsNobodys t.plan h r = (takings_find_nobody t.plan h lawful e r is may).nobodys in
      let there = old.home r known nobodys (λ o. taken_not_next r is o.block o.comes o.its) in
      let y : S = there.0 in
      let gives_none = taken_not_given t.plan e r is in
      let accepts_none = uncalled_accepts_none e (taken_not_callers e r is) in
      let k : ℕ = slot_of t.plan r in
      record {
        act = act_takes k y;
        valid = there.1;
        noted = Some y;
        handed = n;
        landed = record {
          width = length-set homes k none ∙ old.width;
          home = λ q q_known q_nobodys unless. settles (set homes k none) q q_known q_nobodys unless
              (λ gave. absurd (none_some (given t.plan e) q gives_none gave))
              (λ was not_taken. set_else homes k (slot_of t.plan q) none (λ same. not_taken (is ∙ ap Some (sym (same_slot t.plan q r q_known known same)))));
          laid = stay_laid (set homes k none) accepts_none (λ b comes. set_else homes k b.0 none (apart r b known comes (taken_not_next r is b comes)));
          placed = stay_placed;
          accepted = stay_accepted accepts_none;
        };
        turned = record {
          took = λ q took. subst (λ (x : Run). (z : S) × ◌≡◌ {A = List (ℕ × S)} ((k, y) ∷ c) ((slot_of t.plan x, z) ∷ c) × Lies shape gives (jobs_of t (λ i. Some y)) h x z) (same_Some r q (sym is ∙ took)) (y, refl, lies_found r y is there.2);
          gave = λ q gave. absurd (none_some (given t.plan e) q gives_none gave);
          same = λ none _. absurd (none_some (taken e) r none is);
        };
        finds = sym (ap (λ (o : Option Run). cond (is_some o) (Some y) first) is);
        hands = nothing_handed accepts_none;
        knows = λ b took. gives_found b y took (subst (λ (x : Run). Lies shape gives jobs h x y) (same_Some r (Block b) (sym is ∙ took)) there.2);
      }

  lands_give : (r : Run) → given t.plan e ≡ Some r → (x : S) × (c ≡ (slot_of t.plan r, x) ∷ []) × Lies shape gives jobs after r x → Landing shape gives t h e n first homes c
  lands_give r is back =
      let known : IsRun t.plan r = known_run t.plan r (given_known t.plan h e r is may) in
      let mine : held_by t.plan h (worker_of e) ≡ Some r = givings_are_the_holders t.plan h lawful e r is may in
      let takes_none = takes_alone t.plan e r is in
      let accepts_none = uncalled_accepts_none e (given_not_callers t.plan e r is) in
      let k : ℕ = slot_of t.plan r in
      let after_it : homes_after homes c act_gives ≡ set homes k (some back.0) = ap (put_back homes) back.1 in
      let here : get_elem? (set homes k (some back.0)) k ≡ some (some back.0) = set_here homes k (some back.0) (omega (arith, old.width, slot_below t.plan r known)) in
      let not_next : (b : Blk) → next_of_intake t.plan h ≡ Some b → r ≡ Block b → ⊥ = λ b comes its. next_nobodys t.plan h b plan_fits lawful comes (worker_of e) (mine ∙ ap Some its) in
      record {
        act = act_gives;
        valid = tt;
        noted = first;
        handed = n;
        landed = subst (Homes shape gives t after n) (sym after_it) (record {
          width = length-set homes k (some back.0) ∙ old.width;
          home = λ q q_known q_nobodys unless. settles (set homes k (some back.0)) q q_known q_nobodys unless
              (λ gave. subst (λ (x : Run). (y : S) × (get_elem? (set homes k (some back.0)) (slot_of t.plan x) ≡ some (some y)) × Lies shape gives jobs after x y) (same_Some r q (sym is ∙ gave)) (back.0, here, back.2))
              (λ was not_taken. set_else homes k (slot_of t.plan q) (some back.0) (λ same. was (worker_of e) (mine ∙ ap Some (sym (same_slot t.plan q r q_known known same)))));
          laid = stay_laid (set homes k (some back.0)) accepts_none (λ b comes. set_else homes k b.0 (some back.0) (apart r b known comes (not_next b comes)));
          placed = stay_placed;
          accepted = stay_accepted accepts_none;
        });
        turned = record { took = λ q took. absurd (none_some (taken e) q takes_none took); gave = λ _ _. refl; same = λ _ none. absurd (none_some (given t.plan e) r none is) };
        finds = nothing_found takes_none (carried_after c act_gives);
        hands = nothing_handed accepts_none;
        knows = λ b took. absurd (none_some (taken e) (Block b) takes_none took);
      }

  -- neither a run taken nor given back
  turned_none : (jobs2 : Jobs S) → taken e ≡ None → given t.plan e ≡ None → jobs2.plan ≡ t.plan → Turned shape gives jobs2 h e c c
  turned_none jobs2 takes_none gives_none plan = record {
    took = λ q took. absurd (none_some (taken e) q takes_none took);
    gave = λ q gave. absurd (none_some (given t.plan e) q gives_none (subst (λ p. given p e ≡ Some q) plan gave));
    same = λ _ _. refl;
  }

  lands_keep : taken e ≡ None → given t.plan e ≡ None → accepted e ≡ None → Landing shape gives t h e n first homes c
  lands_keep takes_none gives_none accepts_none = record {
    act = keeps;
    valid = tt;
    noted = first;
    handed = n;
    landed = record {
      width = old.width;
      home = λ q q_known q_nobodys unless. settles homes q q_known q_nobodys unless (λ gave. absurd (none_some (given t.plan e) q gives_none gave)) (λ _ _. refl);
      laid = stay_laid homes accepts_none (λ _ _. refl);
      placed = stay_placed;
      accepted = stay_accepted accepts_none;
    };
    turned = turned_none (jobs_of t (λ k. first)) takes_none gives_none refl;
    finds = nothing_found takes_none c;
    hands = nothing_handed accepts_none;
    knows = λ b took. absurd (none_some (taken e) (Block b) takes_none took);
  }

  -- with an Accept what lies in the block's slot becomes its job
  module _ (b : Blk) (is : accepted e ≡ Some b) (takes_none : taken e ≡ None) (gives_none : given t.plan e ≡ None) where
    comes : next_of_intake t.plan h ≡ Some b
    comes = accept_next t.plan h e b is may

    is_back : IsBack n.next
    is_back = back (accept_callers e b is)

    there : (x : S) × (get_elem? homes b.0 ≡ some (some x)) × Lies shape gives jobs h (Block b) x
    there = old.home (Block b) (next_known t.plan h b plan_fits comes) (next_nobodys t.plan h b plan_fits lawful comes) (λ o. out_back n.next is_back o.out)

    abbrev more : Handed S
    more = record { placed = (b.0, there.0) ∷ n.placed; next = First }

    -- another block's job is as it was, and this one's is what lies there
    moves : (r : Run) (x : S) → (r ≡ Block b → x ≡ there.0) → Lies shape gives jobs after r x → Lies shape gives (jobs_of t (placed_at more.placed)) after r x
    moves (Source s) x same lies = lies
    moves (Block k) x same lies = dite (ℕ_discrete b.0 k.0)
        (λ here.
        let unended : is_ended after k.0 ≡ false = subst (λ i. is_ended after i ≡ false) here ((cells_stay t.plan h e).bodies b (λ gave. none_some (given t.plan e) (Block b) gives_none gave) ∙ next_unended t.plan h b plan_fits lawful comes) in
        let marked = is_block_cancelled t.plan after k.0 in
        let old_lies = subst (λ v. BodyLies shape gives (May gives jobs k.0) v marked x) unended lies in
        let job : job_of t (placed_at more.placed) k.0 ≡ Some there.0 =
        intake_job t (placed_at more.placed) k.0 (subst (λ i. Rattle.gcd_plan.specs.Made.is_of_intake t.plan i ≡ true) here (next_of t.plan h b comes)) ∙ subst (λ i. placed_at more.placed i ≡ Some there.0) here (placed_here b.0 there.0 n.placed) in
        subst (λ v. BodyLies shape gives (May gives (jobs_of t (placed_at more.placed)) k.0) v marked x) (sym unended)
        (old_lies.0, λ v fits j at. subst (λ y. gives y v) (same (ap (λ i. Block (record { 0 = i })) (sym here)) ∙ same_Some there.0 j (sym job ∙ at)) fits))
        (λ ne. lies_more shape gives (May gives jobs k.0) (May gives (jobs_of t (placed_at more.placed)) k.0) (is_ended after k.0) (is_block_cancelled t.plan after k.0) x
        (λ v. same_may gives jobs (jobs_of t (placed_at more.placed)) k.0 v (same_job t (placed_at n.placed) (placed_at more.placed) k.0 (sym (placed_else b.0 k.0 there.0 n.placed ne)))) lies)

    lands_accept : Landing shape gives t h e n first homes c
    lands_accept = record {
      act = keeps;
      valid = tt;
      noted = first;
      handed = more;
      landed = record {
        width = old.width;
        home = λ q q_known q_nobodys _. ⊎_elim
            (λ (gave : given t.plan e ≡ Some q). absurd (none_some (given t.plan e) q gives_none gave))
            (λ (was : IsNobodys t.plan h q × (taken e ≡ Some q → ⊥)).
            let at = old.home q q_known was.0 (λ o. out_back n.next is_back o.out) in (
              at.0,
              at.1,
              moves q at.0
                  (λ its. some-injective at.0 there.0 (some-injective (some at.0) (some there.0) (sym at.1 ∙ subst (λ (r : Run). get_elem? homes (slot_of t.plan r) ≡ some (some there.0)) (sym its) there.1)))
                  (lies_stay shape gives jobs h e q at.0 lawful may was.0 was.1 at.2),
            ))
            (comes_home t.plan h e (lawful_more t.plan h e lawful may) q q_nobodys);
        laid = λ k x _ laid_is. first_laid laid_is;
        placed = λ k x at. dite (ℕ_discrete b.0 k)
            (λ here. subst (λ i. list_any (accepts i) after ≡ true) here (accept_counts h e b is))
            (λ ne. stay_placed k x (sym (placed_else b.0 k there.0 n.placed ne) ∙ at));
        accepted = λ k stands. dite (ℕ_discrete b.0 k)
            (λ here. (there.0, subst (λ i. placed_at more.placed i ≡ Some there.0) here (placed_here b.0 there.0 n.placed)))
            (λ ne. let was = old.accepted k (accepted_before h e k (accepts_another e b k is ne) stands) in (was.0, placed_else b.0 k there.0 n.placed ne ∙ was.1));
      };
      turned = turned_none (jobs_of t (λ k. first)) takes_none gives_none refl;
      finds = nothing_found takes_none c;
      hands = subst (λ (o : Option Blk). HandsOn o n more) (sym is) (there.0, refl, laid_there shape gives t h n homes old b there.0 comes there.1 n.next refl is_back);
      knows = λ k took. absurd (none_some (taken e) (Block k) takes_none took);
    }

  pub lands : ((r : Run) → given t.plan e ≡ Some r → (x : S) × (c ≡ (slot_of t.plan r, x) ∷ []) × Lies shape gives jobs after r x) → Landing shape gives t h e n first homes c
  lands gives_back = by_taken (taken e) refl
    where
      by_accepted : taken e ≡ None → given t.plan e ≡ None → (o : Option Blk) → accepted e ≡ o → Landing shape gives t h e n first homes c
      by_accepted untaken ungiven None is = lands_keep untaken ungiven is
      by_accepted untaken ungiven (Some b) is = lands_accept b is untaken ungiven

      by_given : taken e ≡ None → (o : Option Run) → given t.plan e ≡ o → Landing shape gives t h e n first homes c
      by_given untaken (Some r) is = lands_give r is (gives_back r is)
      by_given untaken None is = by_accepted untaken is (accepted e) refl

      by_taken : (o : Option Run) → taken e ≡ o → Landing shape gives t h e n first homes c
      by_taken (Some r) is = lands_take r is
      by_taken None is = by_given is (given t.plan e) refl

-- what a pass puts down lies at the slot of the run that it holds
pub rests_there : {S : Type 0} (shape : S → Shape) (gives : S → ℕ → Type 0) (t : Terms S) (u : Jobs S) (log : List Event) (n : Handed S) (w : ℕ) (seen : List Event) (homes : List (Maybe S)) (c : List (ℕ × S)) → u.plan ≡ t.plan
    → IsPlan t.plan → IsLawful t.plan log → of_worker w log ≡ of_worker w seen
    → HasSlots shape gives u seen (held_by t.plan seen w) c → Homes shape gives t log n homes → Homes shape gives t log n (put_back homes c)
rests_there {S} shape gives t u log n w seen homes c plan plan_fits lawful own has old = go (held_by t.plan seen w) (own_events_tell_what_is_held t.plan log seen w own) has
  where
    go : (o : Option Run) → held_by t.plan log w ≡ o → HasSlots shape gives u seen o c → Homes shape gives t log n (put_back homes c)
    go None held empty = subst (λ (l : List (ℕ × S)). Homes shape gives t log n (put_back homes l)) (sym empty) old
    go (Some r) held had =
        let k : ℕ = slot_of t.plan r in
        let known : IsRun t.plan r = subst (λ p. IsRun p r) plan had.known in
        let here : c ≡ (k, had.cell) ∷ [] = had.here ∙ ap (λ p. (slot_of p r, had.cell) ∷ []) plan in
        subst (λ (l : List (ℕ × S)). Homes shape gives t log n (put_back homes l)) (sym here) (record {
          width = length-set homes k (some had.cell) ∙ old.width;
          home = λ q q_known q_nobodys unless. let there = old.home q q_known q_nobodys unless in
              (there.0, set_else homes k (slot_of t.plan q) (some had.cell) (λ same. q_nobodys w (held ∙ ap Some (sym (same_slot t.plan q r q_known known same)))) ∙ there.1, there.2);
          laid = λ b x comes is. set_else homes k b.0 (some had.cell)
              (λ same. next_nobodys t.plan log b plan_fits lawful comes w (held ∙ ap Some (sym (same_slot t.plan (Block b) r (next_known t.plan log b plan_fits comes) known same)))) ∙ old.laid b x comes is;
          placed = old.placed;
          accepted = old.accepted;
        })
