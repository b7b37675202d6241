-- What worker 0 alone took of outside callers, a step on.
use Rattle.std.proofs.Common.{◌≡◌, ◌≢◌, ◌<◌, ◌∙◌, ◌==◌, ◌||◌, ◌⊎◌, ⊎_elim, inl, inr, ℕ, Bool, true, false, not, if◌then◌else◌, List, [], ◌∷◌, ◌++◌, Some, None, refl, ap, sym, subst, arith, append-nil, eq-eqb, ne_eqb}
use Rattle.std.specs.Prelude.{slice_set}
use Rattle.std.specs.List.{AllZip, cons_option, filter_map, list_all, list_any}
use Rattle.std.proofs.lemmas.Bool.{and_from, and_parts, both_ways, not-true, or_parts}
use Rattle.std.proofs.lemmas.List.Elements.{filter_map-append}
use Rattle.std.proofs.lemmas.List.Folds.{list_any-append}
use Rattle.std.proofs.Math.Bool.{or-false}
use Rattle.gcd_plan.specs.PlanView.{PlanView}
use Rattle.gcd_plan.specs.declared.numbers.Blk.{Blk}
use Rattle.gcd_event.specs.declared.event.Event.{Event}
use Rattle.gcd_event.specs.declared.event.Event.TheVariants.{Accept, Shut}
use Rattle.gcd_history.specs.Facts.{is_of_callers}
use Rattle.gcd_history.specs.Intake.{AllAccepted, accepted_of, accepts, blocks_of_sender, shuts}
use Rattle.gcd_history.proofs.Lists.{any_left}
use Rattle.gcd_front.specs.Fronts.{KnowsAll, TookAll}
use Rattle.gcd_front.specs.Queue.{jobs_of, parcel}
use Rattle.gcd_front.specs.Views.{FrontView, IntakeView}
use Rattle.gcd_front.specs.declared.ledger.Parcel.{Parcel}
use Rattle.gcd_workers.specs.AloneCalls.{AreAccepted, CallsStay, ComesOf, HaveCalls, Stays}
use Rattle.gcd_workers.specs.declared.job_state.JobState.{JobState}
use Rattle.gcd_workers.specs.declared.job_state.JobState.TheVariants.{Waits}
use Rattle.gcd_workers.proofs.States.{laid_here, laid_other}

-- ## Events that are not of outside callers

pub calls_same : (h k : List Event) → k ≡ h → CallsStay h k
calls_same h k same = record {
  blocks = λ s. ap (λ (l : List Event). blocks_of_sender l s) same;
  shut = ap (list_any shuts) same;
  accepted = λ b is. ap (list_any (accepts b)) same ∙ is;
}

pub calls_through : (h k l : List Event) → CallsStay h k → CallsStay k l → CallsStay h l
calls_through h k l first later = record {
  blocks = λ s. later.blocks s ∙ first.blocks s;
  shut = later.shut ∙ first.shut;
  accepted = λ b is. later.accepted b (first.accepted b is);
}

-- it accepts nothing of any sender, and shuts nothing
uncalled : (s : ℕ) (e : Event) → is_of_callers e ≡ false → (accepted_of s e ≡ None) × (shuts e ≡ false)
uncalled s (Accept b t) not_theirs = cc
uncalled s Shut not_theirs = cc
uncalled s e not_theirs = (refl, refl)

pub calls_kept : (h : List Event) (e : Event) → is_of_callers e ≡ false → CallsStay h (h ++ e ∷ [])
calls_kept h e not_theirs = record {
  blocks = λ s.
      filter_map-append (accepted_of s) h (e ∷ [])
      ∙ ap (λ o. blocks_of_sender h s ++ cons_option o []) (uncalled s e not_theirs).0 ∙ append-nil (blocks_of_sender h s);
  shut = list_any-append shuts h (e ∷ []) ∙ ap (λ (v : Bool). list_any shuts h || (v || false)) (uncalled 0 e not_theirs).1 ∙ or-false (list_any shuts h);
  accepted = λ b is. any_left (accepts b) h (e ∷ []) is;
}

-- ## Lists, place by place

zip_map : {A B : Type 0} (P Q : A → B → Type 0) → ((x : A) (y : B) → P x y → Q x y) → (xs : List A) (ys : List B) → AllZip P xs ys → AllZip Q xs ys
zip_map P Q each [] [] z = tt
zip_map P Q each [] (y ∷ ys) z = absurd z
zip_map P Q each (x ∷ xs) [] z = absurd z
zip_map P Q each (x ∷ xs) (y ∷ ys) z = (each x y z.0, zip_map P Q each xs ys z.1)

module _ {J X : Type 0} (gives : J → ℕ → ℕ → Type 0) (sent : X → ℕ → Type 0) (f : FrontView) (plan : PlanView) where
  -- ## Before the first event

  pub calls_first : (i : IntakeView X) (states : List (JobState J)) → i.taken ≡ [] → HaveCalls gives sent f i plan [] states
  calls_first i states none = record {
    taken = λ s. subst (λ (l : List (Parcel X)). AreAccepted gives sent states (jobs_of s l) []) (sym none) tt;
    senders = λ s high. refl;
    why_shut = λ shut. absurd (cc);
  }

  -- ## A step by which nothing of outside callers came

  pub calls_on : (i : IntakeView X) (h k : List Event) (old new : List (JobState J)) → Stays gives h k old new → HaveCalls gives sent f i plan h old
      → HaveCalls gives sent f i plan k new
  calls_on i h k old new stays have = record {
    taken = λ s.
        subst (λ (l : List Blk). AreAccepted gives sent new (jobs_of s i.taken) l) (sym (stays.calls.blocks s))
        (zip_map (ComesOf gives sent old) (ComesOf gives sent new) (λ x b of value may. of value (stays.no_more b.0 value may)) (jobs_of s i.taken) (blocks_of_sender h s) (have.taken s));
    senders = λ s high. stays.calls.blocks s ∙ have.senders s high;
    why_shut = λ shut. ⊎_elim
        (λ (all : AllAccepted plan h). inl (λ b of. stays.calls.accepted b (all b of)))
        (λ (both : KnowsAll f i × TookAll i). inr both)
        (have.why_shut (sym stays.calls.shut ∙ shut));
  }

  -- the intake learnt of shut mouths, while no Shut stands
  pub calls_learnt : (i j : IntakeView X) (h : List Event) (states : List (JobState J)) → list_any shuts h ≡ false → j.taken ≡ i.taken
      → HaveCalls gives sent f i plan h states → HaveCalls gives sent f j plan h states
  calls_learnt i j h states still_open taken have = record {
    taken = λ s. subst (λ (l : List (Parcel X)). AreAccepted gives sent states (jobs_of s l) (blocks_of_sender h s)) (sym taken) (have.taken s);
    senders = have.senders;
    why_shut = λ shut. absurd (both_ways (list_any shuts h) still_open shut);
  }

  -- ## A Shut

  pub calls_shut : (i : IntakeView X) (h : List Event) (states : List (JobState J)) → AllAccepted plan h ⊎ (KnowsAll f i × TookAll i)
      → HaveCalls gives sent f i plan h states → HaveCalls gives sent f i plan (h ++ Shut ∷ []) states
  calls_shut i h states reason have =
      let blocks : (s : ℕ) → blocks_of_sender (h ++ Shut ∷ []) s ≡ blocks_of_sender h s =
      λ s. filter_map-append (accepted_of s) h (Shut ∷ []) ∙ append-nil (blocks_of_sender h s) in
      record {
        taken = λ s. subst (λ (l : List Blk). AreAccepted gives sent states (jobs_of s i.taken) l) (sym (blocks s)) (have.taken s);
        senders = λ s high. blocks s ∙ have.senders s high;
        why_shut = λ shut. ⊎_elim
            (λ (all : AllAccepted plan h). inl (λ b of. any_left (accepts b) h (Shut ∷ []) (all b of)))
            (λ (both : KnowsAll f i × TookAll i). inr both)
            reason;
      }

  -- ## An Accept

  -- the jobs of a sender, with one parcel more
  own_job : ℕ → Parcel X → List X
  own_job s p = if p.sender == s then p.job ∷ [] else []

  jobs_more : (s : ℕ) (taken : List (Parcel X)) (p : Parcel X) → jobs_of s (taken ++ p ∷ []) ≡ jobs_of s taken ++ own_job s p
  unfolding own_job
  jobs_more s [] p = elim (p.sender == s) as (λ b. (if b then p.job ∷ [] else []) ≡ [] ++ (if b then p.job ∷ [] else [])) [ true ↦ refl | false ↦ refl ]
  jobs_more s (q ∷ taken) p = elim (q.sender == s) as (λ b. (if b then q.job ∷ jobs_of s (taken ++ p ∷ []) else jobs_of s (taken ++ p ∷ []))
      ≡ (if b then q.job ∷ jobs_of s taken else jobs_of s taken) ++ own_job s p) [
        | true ↦ ap (λ (l : List X). q.job ∷ l) (jobs_more s taken p)
        | false ↦ jobs_more s taken p
      ]

  -- the blocks that were accepted of a sender are none that is not accepted
  apart : (b s : ℕ) (h : List Event) → list_any (accepts b) h ≡ false → list_all (λ (c : Blk). not (c.0 == b)) (blocks_of_sender h s) ≡ true
  apart b s [] none = refl
  apart b s (Accept c t ∷ h) none =
      let parts = or_parts (c.0 == b) (list_any (accepts b) h) none in
      elim (t == s) as (λ own. list_all (λ (d : Blk). not (d.0 == b)) (cons_option (if own then Some c else None) (blocks_of_sender h s)) ≡ true) [
        | true ↦ and_from (not (c.0 == b)) (list_all (λ (d : Blk). not (d.0 == b)) (blocks_of_sender h s)) (ap not parts.0) (apart b s h parts.1)
        | false ↦ apart b s h parts.1
      ]
  apart b s (e ∷ h) none = apart b s h none

  module _ (b : ℕ) (job : J) (states : List (JobState J)) where
    -- another block comes to what it came to
    zip_else : (xs : List X) (ds : List Blk) → list_all (λ (d : Blk). not (d.0 == b)) ds ≡ true → AreAccepted gives sent states xs ds
        → AreAccepted gives sent (slice_set states b (Waits job)) xs ds
    zip_else [] [] apart z = tt
    zip_else [] (d ∷ ds) apart z = absurd z
    zip_else (x ∷ xs) [] apart z = absurd z
    zip_else (x ∷ xs) (d ∷ ds) apart z =
        let parts = and_parts (not (d.0 == b)) (list_all (λ (k : Blk). not (k.0 == b)) ds) apart in
        let other : d.0 ≢ b = λ same. both_ways (d.0 == b) (not-true (d.0 == b) parts.0) (eq-eqb d.0 b same) in
        (λ value may. z.0 value (laid_other gives b d.0 value job states other may), zip_else xs ds parts.1 z.1)

  -- ## An Accept

  -- one block more, whose job may come to no other value than the job that was sent
  accepted_last : (states : List (JobState J)) (jobs : List X) (blocks : List Blk) (job : X) (b : Blk) → AreAccepted gives sent states jobs blocks
      → ComesOf gives sent states job b → AreAccepted gives sent states (jobs ++ job ∷ []) (blocks ++ b ∷ [])
  accepted_last states [] [] job b all last = (last, tt)
  accepted_last states [] (c ∷ blocks) job b all last = absurd all
  accepted_last states (j ∷ jobs) [] job b all last = absurd all
  accepted_last states (j ∷ jobs) (c ∷ blocks) job b all last = (all.0, accepted_last states jobs blocks job b all.1 last)

  -- a job of a sender was taken, and it is that of the block whose Accept was placed
  module _ (i j : IntakeView X) (h : List Event) (b : Blk) (s n : ℕ) (sent_job : X) (job : J) (states : List (JobState J))
      (took : j.taken ≡ i.taken ++ parcel s n sent_job ∷ []) (new : list_any (accepts b.0) h ≡ false)
      (that : (value : ℕ) → gives job 0 value → sent sent_job value) (have : HaveCalls gives sent f i plan h states) where
    laid : List (JobState J)
    laid = slice_set states b.0 (Waits job)

    accept_blocks : (t : ℕ) → blocks_of_sender (h ++ Accept b s ∷ []) t ≡ blocks_of_sender h t ++ filter_map (accepted_of t) (Accept b s ∷ [])
    accept_blocks t = filter_map-append (accepted_of t) h (Accept b s ∷ [])

    was_taken : (t : ℕ) → AreAccepted gives sent (slice_set states b.0 (Waits job)) (jobs_of t i.taken) (blocks_of_sender h t)
    was_taken t = zip_else b.0 job states (jobs_of t i.taken) (blocks_of_sender h t) (apart b.0 t h new) (have.taken t)

    one_taken : (t : ℕ) → AreAccepted gives sent (slice_set states b.0 (Waits job)) (jobs_of t i.taken ++ own_job t (parcel s n sent_job))
        (blocks_of_sender h t ++ filter_map (accepted_of t) (Accept b s ∷ []))
    unfolding own_job
    one_taken t = elim (s == t) as (λ own. AreAccepted gives sent (slice_set states b.0 (Waits job)) (jobs_of t i.taken ++ (if own then sent_job ∷ [] else []))
        (blocks_of_sender h t ++ cons_option (if own then Some b else None) [])) [
          | true ↦ accepted_last (slice_set states b.0 (Waits job)) (jobs_of t i.taken) (blocks_of_sender h t) sent_job b (was_taken t)
              (λ value may. that value (laid_here gives b.0 value job states may))
          | false ↦ subst (λ (l : List X). AreAccepted gives sent (slice_set states b.0 (Waits job)) l (blocks_of_sender h t ++ [])) (sym (append-nil (jobs_of t i.taken)))
              (subst (λ (l : List Blk). AreAccepted gives sent (slice_set states b.0 (Waits job)) (jobs_of t i.taken) l) (sym (append-nil (blocks_of_sender h t))) (was_taken t))
        ]

    pub calls_accepted : list_any shuts h ≡ false → s < f.senders → HaveCalls gives sent f j plan (h ++ Accept b s ∷ []) (slice_set states b.0 (Waits job))
    calls_accepted still_open low =
        let unshut : list_any shuts (h ++ Accept b s ∷ []) ≡ false =
        list_any-append shuts h (Accept b s ∷ []) ∙ ap (λ (k : Bool). k || false) still_open in
        record {
          taken = λ t.
              subst (λ (l : List X). AreAccepted gives sent (slice_set states b.0 (Waits job)) l (blocks_of_sender (h ++ Accept b s ∷ []) t))
              (sym (ap (jobs_of t) took ∙ jobs_more t i.taken (parcel s n sent_job)))
              (subst (λ (l : List Blk). AreAccepted gives sent (slice_set states b.0 (Waits job)) (jobs_of t i.taken ++ own_job t (parcel s n sent_job)) l) (sym (accept_blocks t)) (one_taken t));
          senders = λ t high.
              accept_blocks t ∙ ap (λ (l : List Blk). l ++ filter_map (accepted_of t) (Accept b s ∷ [])) (have.senders t high)
              ∙ ap (λ (own : Bool). cons_option (if own then Some b else None) []) (ne_eqb s t (λ same. absurd (omega (arith, same, low, high))));
          why_shut = λ shut. absurd (both_ways (list_any shuts (h ++ Accept b s ∷ [])) unshut shut);
        }
