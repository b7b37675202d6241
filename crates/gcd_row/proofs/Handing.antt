-- What passes know of jobs after an event of one of them.
use Rattle.std.proofs.Common.{◌≡◌, ◌≢◌, ℕ, true, false, List, [], ◌∷◌, ◌++◌, set, Some, None, Option, sym, refl, ap, ◌∙◌, subst}
use Rattle.std.proofs.lemmas.Option.{same_Some}
use mathlib.Core.Logic.{dite}
use mathlib.Core.Option.{some}
use native.Mathlib.Decide.{ℕ_discrete}
use lib.ListN.{get_elem?}
use Rattle.gcd_plan.specs.Made.{is_of_intake}
use Rattle.gcd_plan.specs.Validity.{IsPlan}
use Rattle.gcd_plan.specs.declared.numbers.Blk.{Blk}
use Rattle.gcd_plan.specs.declared.numbers.Run.{Run}
use Rattle.gcd_plan.specs.declared.numbers.Run.TheVariants.{Block}
use Rattle.gcd_event.specs.declared.event.Event.{Event}
use Rattle.gcd_history.specs.Choice.{worker_of}
use Rattle.gcd_history.specs.History.{why, IsLawful}
use Rattle.gcd_history.specs.Intake.{accepted}
use Rattle.gcd_history.specs.Held.{taken, given}
use Rattle.gcd_history.specs.Team.{held_by}
use Rattle.gcd_history.specs.TeamFacts.{HeldAfter}
use Rattle.gcd_history.proofs.HeldRuns.OwnEvents.{own_events_tell_what_is_held}
use Rattle.gcd_history.proofs.HeldRuns.Holders.{what_is_held_after}
use Rattle.gcd_row.specs.Jobs.{May, placed_at, job_of, jobs_of, held_jobs}
use Rattle.gcd_row.specs.Plays.{HandsOn}
use Rattle.gcd_row.specs.Rule.{Knows, KnowsJobs}
use Rattle.gcd_row.specs.Views.{noting, saw}
use Rattle.gcd_row.specs.declared.view.Handed.{Handed}
use Rattle.gcd_row.specs.declared.view.Terms.{Terms}
use Rattle.gcd_row.specs.declared.view.View.{View}
use Rattle.gcd_row.proofs.Accepted.{accepted_in, held_accepted, next_of, next_unaccepted, accept_next, accept_callers, callers_first}
use Rattle.gcd_row.proofs.Jobs.{placed_else, same_job, same_may, knows_else, Live, live_else}
use Rattle.gcd_row.proofs.Running.{none_some}

module _ {S : Type 0} (gives : S → ℕ → Type 0) (t : Terms S) (log : List Event) (e : Event) (n m : Handed S)
    (plan_fits : IsPlan t.plan) (lawful : IsLawful t.plan log) (may_come : why t.plan log e ≡ None) (hands : HandsOn (accepted e) n m) where
  -- the job of a block that a worker holds is as it was: it is none that is accepted now
  held_same : (w : ℕ) (b : Blk) → held_by t.plan log w ≡ Some (Block b) → placed_at n.placed b.0 ≡ placed_at m.placed b.0
  held_same w b held = go (accepted e) refl hands
    where
      go : (o : Option Blk) → accepted e ≡ o → HandsOn o n m → placed_at n.placed b.0 ≡ placed_at m.placed b.0
      go None is same = ap (λ (x : Handed S). placed_at x.placed b.0) (sym same)
      go (Some k) is on =
          let comes = accept_next t.plan log e k is may_come in
          dite (ℕ_discrete k.0 b.0)
          (λ here. absurd (next_unaccepted t.plan log k comes (subst (λ i. accepted_in log i ≡ true) (sym here) (held_accepted t.plan log w b plan_fits lawful (subst (λ i. is_of_intake t.plan i ≡ true) here (next_of t.plan log k comes)) held))))
          (λ ne. sym (placed_else k.0 b.0 on.0 n.placed ne) ∙ ap (λ (x : Handed S). placed_at x.placed b.0) (sym on.1))

  -- what the pass whose event it is has handed in then
  pub record Handing (v : View S) : Type 0 where
    pub handed : Handed S
    pub on : HandsOn (accepted e) v.handed handed
    pub mine : v.worker ≡ 0 → handed ≡ m
    pub else : v.worker ≢ 0 → m ≡ n

  pub handing : (v : View S) → worker_of e ≡ v.worker → KnowsJobs gives t n v → Handing v
  handing v own knows = go (accepted e) refl hands
    where
      go : (o : Option Blk) → accepted e ≡ o → HandsOn o n m → Handing v
      go None is same = record { handed = v.handed; on = subst (λ (o : Option Blk). HandsOn o v.handed v.handed) (sym is) refl; mine = λ zero_is. knows.mine zero_is ∙ sym same; else = λ _. same }
      go (Some k) is on =
          let zero_is : v.worker ≡ 0 = sym own ∙ callers_first e (accept_callers e k is) in
          record { handed = m; on = subst (λ (x : Handed S). HandsOn (accepted e) x m) (sym (knows.mine zero_is)) (subst (λ (o : Option Blk). HandsOn o n m) (sym is) on); mine = λ _. refl; else = λ ne. absurd (ne zero_is) }

  -- what it knows then
  pub knows_own : (v : View S) (noted : Option S) (own : Handed S) → v.seen ≡ log → worker_of e ≡ v.worker → v.terms ≡ t → (taken e ≡ None → noted ≡ v.first)
      → ((b : Blk) → taken e ≡ Some (Block b) → (x : ℕ) → May gives (jobs_of t (λ k. noted)) b.0 x → May gives (jobs_of t (placed_at m.placed)) b.0 x)
      → (v.worker ≡ 0 → own ≡ m) → KnowsJobs gives t n v → KnowsJobs gives t m (noting (saw v e) noted own)
  knows_own v noted own all mine terms untaken found is_mine old = record {
    mine = is_mine;
    held = λ b is x may. by_taken b is x (subst (λ (q : Terms S). May gives (jobs_of q (λ k. noted)) b.0 x) terms may) (taken e) refl;
  }
    where
      after : HeldAfter t.plan v.seen e
      after = what_is_held_after t.plan v.seen e

      by_given : (b : Blk) → held_by t.plan (v.seen ++ e ∷ []) v.worker ≡ Some (Block b) → (x : ℕ) → May gives (jobs_of t (λ k. noted)) b.0 x → taken e ≡ None → (o : Option Run) → given t.plan e ≡ o → May gives (jobs_of t (placed_at m.placed)) b.0 x
      by_given b is x may took (Some r) gave = absurd (none_some (held_by t.plan (v.seen ++ e ∷ []) v.worker) (Block b) (subst (λ w. held_by t.plan (v.seen ++ e ∷ []) w ≡ None) mine (after.gave r gave)) is)
      by_given b is x may took None gave =
          let held : held_by t.plan v.seen v.worker ≡ Some (Block b) = sym (after.same took gave v.worker) ∙ is in
          let before : May gives (held_jobs v) b.0 x = same_may gives (jobs_of t (λ k. noted)) (held_jobs v) b.0 x (λ i. job_of (sym terms i) (λ k. untaken took i) b.0) may in
          same_may gives (jobs_of t (placed_at n.placed)) (jobs_of t (placed_at m.placed)) b.0 x
          (same_job t (placed_at n.placed) (placed_at m.placed) b.0 (held_same v.worker b (subst (λ (h : List Event). held_by t.plan h v.worker ≡ Some (Block b)) all held))) (old.held b held x before)

      by_taken : (b : Blk) → held_by t.plan (v.seen ++ e ∷ []) v.worker ≡ Some (Block b) → (x : ℕ) → May gives (jobs_of t (λ k. noted)) b.0 x → (o : Option Run) → taken e ≡ o → May gives (jobs_of t (placed_at m.placed)) b.0 x
      by_taken b is x may (Some r) took =
          let same : r ≡ Block b = same_Some r (Block b) (sym (subst (λ w. held_by t.plan (v.seen ++ e ∷ []) w ≡ Some r) mine (after.took r took)) ∙ is) in
          found b (took ∙ ap Some same) x may
      by_taken b is x may None took = by_given b is x may took (given t.plan e) refl

  -- and what each knows
  pub all_know : (views : List (View S)) (id : ℕ) (v w : View S) → get_elem? views id ≡ some v → Knows t log views → v.spent ≡ false → (v.worker ≢ 0 → m ≡ n) → KnowsJobs gives t m w
      → Live (KnowsJobs gives t n) views → Live (KnowsJobs gives t m) (set views id w)
  all_know views id v w at k live else here old = live_else (KnowsJobs gives t n) (KnowsJobs gives t m) views id w (λ _. here)
      (λ by u ne at_u alive knows. dite (ℕ_discrete v.worker 0)
      (λ zero_is. knows_else gives t n m u (λ head. ne (k.alone by id u v at_u at alive live (head ∙ sym zero_is)))
      (λ b held. held_same u.worker b (own_events_tell_what_is_held t.plan log u.seen u.worker (k.fits by u at_u alive).own ∙ held)) knows)
      (λ helper. subst (λ (x : Handed S). KnowsJobs gives t x u) (sym (else helper)) knows))
      old
