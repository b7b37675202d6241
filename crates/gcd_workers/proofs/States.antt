-- The states of jobs, a step on.
use Rattle.std.proofs.Common.{◌≡◌, ◌≢◌, ◌<◌, ◌∙◌, ◌&&◌, ℕ, zero, suc, Bool, true, false, not, List, [], ◌∷◌, ◌++◌, length, map, Option, Some, None, refl, ap, sym, subst, arith, ⊎_elim, eqb-true}
use Rattle.std.specs.Prelude.{slice_get, slice_set, reverse}
use Rattle.std.specs.Option.{option_map}
use Rattle.std.proofs.lemmas.Bool.{both_ways, cases_eq}
use Rattle.std.proofs.lemmas.List.{length-map, length-set}
use Rattle.std.proofs.lemmas.Option.{same_Some, slice_get-map, slice_get_within}
use Rattle.gcd_facts.proofs.Lists.{slice_get-set_same}
use Rattle.gcd_plan.specs.Made.{is_of_intake}
use Rattle.gcd_plan.specs.PlanView.{PlanView}
use Rattle.gcd_plan.specs.declared.numbers.Blk.{Blk}
use Rattle.gcd_plan.specs.declared.numbers.Run.TheVariants.{Block}
use Rattle.gcd_plan.proofs.Places.{slice_get_some}
use Rattle.gcd_event.specs.declared.event.Event.{Event}
use Rattle.gcd_event.specs.declared.event.Event.TheVariants.{End}
use Rattle.gcd_history.specs.Runs.{ends}
use Rattle.gcd_history.specs.History.{IsLawful, is_block_cancelled, is_ended, why}
use Rattle.gcd_history.proofs.Blocks.CancelledStays.{cancelled_without_act}
use Rattle.gcd_history.proofs.Blocks.StartedOnce.{open_from_has_run, open_not_ended}
use Rattle.gcd_history.proofs.Permitted.Lawful.{lawful_after}
use Rattle.gcd_history.proofs.Permitted.Reasons.{at_end}
use Rattle.gcd_jobs.specs.BlockValues.{has_given}
use Rattle.gcd_jobs.proofs.ValuesMore.{given_kept, given_of_other, given_of_own}
use Rattle.gcd_workers.specs.JobStates.{AreOwn, AreStates, HasRun, MayCome, ComesToNoMore, may_come}
use Rattle.gcd_workers.specs.declared.job_state.JobState.{JobState}
use Rattle.gcd_workers.specs.declared.job_state.JobState.TheVariants.{Waits, Gave}

-- what lies at another place stays
pub set_elsewhere : {A : Type 0} (xs : List A) (i k : ℕ) (v : A) → k ≢ i → slice_get (slice_set xs i v) k ≡ slice_get xs k
set_elsewhere [] i k v differ = refl
set_elsewhere (x ∷ xs) zero zero v differ = absurd (differ refl)
set_elsewhere (x ∷ xs) zero (suc k) v differ = refl
set_elsewhere (x ∷ xs) (suc i) zero v differ = refl
set_elsewhere (x ∷ xs) (suc i) (suc k) v differ = set_elsewhere xs i k v (λ same. differ (ap suc same))

-- what lies at the place is the new value
pub set_same : {A : Type 0} (xs : List A) (i : ℕ) (v x : A) → slice_get (slice_set xs i v) i ≡ Some x → x ≡ v
set_same xs i v x at =
    let within = slice_get_within (slice_set xs i v) i x at in
    sym (same_Some v x (sym (slice_get-set_same xs i v (omega (arith, length-set xs i v, within))) ∙ at))

-- a block that may end has not ended
pub end_is_new : (plan : PlanView) (h : List Event) (w : ℕ) (b : Blk) → IsLawful plan h → why plan h (End w b) ≡ None → is_ended h b.0 ≡ false
unfolding is_ended why
end_is_new plan h w b lawful may =
    open_not_ended plan (reverse h) (lawful_after plan h lawful) b
    (open_from_has_run plan (reverse h) w (Block b) (at_end plan (reverse h) w b may).own)

-- a block that has not ended has given nothing
pub none_given : (plan : PlanView) (h : List Event) (b : ℕ) → is_ended h b ≡ false → has_given plan h b ≡ false
none_given plan h b not_yet = ap (λ (v : Bool). v && not (is_block_cancelled plan h b)) not_yet

module _ {J : Type 0} where
  -- ## Before the first event

  pub states_first : (plan : PlanView) (jobs : List J) → length jobs ≡ length plan.blocks → AreStates plan [] (map Waits jobs)
  unfolding is_ended
  states_first plan jobs count = record {
    count = length-map jobs Waits ∙ count;
    waits = λ b low none. let job = slice_get_some jobs b (omega (arith, count, low)) in (job.0, slice_get-map Waits jobs b ∙ ap (option_map Waits) job.1);
    gave = λ b low gave. absurd (cc);
  }

  pub own_first : (gives : J → ℕ → ℕ → Type 0) (plan : PlanView) (jobs : List J) → AreOwn gives plan jobs (map Waits jobs)
  own_first gives plan jobs b value other may = from (slice_get jobs b) refl
    where
      from : (o : Option J) → slice_get jobs b ≡ o → (job : J) × (slice_get jobs b ≡ Some job) × gives job 0 value
      from None at = absurd (nothing (sym (slice_get-map Waits jobs b ∙ ap (option_map Waits) at) ∙ may.at))
        where
          nothing : {s : JobState J} → None ≡ Some s → ⊥
          nothing z = cc
      from (Some job) at =
          let is : Waits job ≡ may.state = same_Some (Waits job) may.state (sym (slice_get-map Waits jobs b ∙ ap (option_map Waits) at) ∙ may.at) in
          (job, at, subst (λ (s : JobState J). may_come gives s value) (sym is) may.may)

  -- ## An event that ends no block that is not cancelled

  pub states_kept : (plan : PlanView) (h : List Event) (e : Event) (states : List (JobState J)) → IsLawful plan h
      → ((b : ℕ) → ends b e ≡ true → is_block_cancelled plan h b ≡ true) → AreStates plan h states → AreStates plan (h ++ e ∷ []) states
  states_kept plan h e states lawful only are =
      let same : (b : ℕ) → has_given plan (h ++ e ∷ []) b ≡ has_given plan h b = λ b. given_kept plan h e b lawful (only b) in
      record {
        count = are.count;
        waits = λ b low none. are.waits b low (sym (same b) ∙ none);
        gave = λ b low gave. are.gave b low (sym (same b) ∙ gave);
      }

  pub states_same : (plan : PlanView) (h : List Event) (e : Event) (states : List (JobState J)) → IsLawful plan h
      → ((b : ℕ) → ends b e ≡ false) → AreStates plan h states → AreStates plan (h ++ e ∷ []) states
  states_same plan h e states lawful none are =
      states_kept plan h e states lawful (λ b is. absurd (both_ways (ends b e) (none b) is)) are

  pub states_cancelled : (plan : PlanView) (h : List Event) (w : ℕ) (c : Blk) (states : List (JobState J)) → IsLawful plan h
      → is_block_cancelled plan (h ++ End w c ∷ []) c.0 ≡ true → AreStates plan h states → AreStates plan (h ++ End w c ∷ []) states
  states_cancelled plan h w c states lawful cancelled are =
      let was : is_block_cancelled plan h c.0 ≡ true = sym (cancelled_without_act plan h (End w c) c.0 refl) ∙ cancelled in
      states_kept plan h (End w c) states lawful (λ b is. subst (λ (n : ℕ). is_block_cancelled plan h n ≡ true) (eqb-true c.0 b is) was) are

  -- ## An End of a block whose job runs

  module _ (gives : J → ℕ → ℕ → Type 0) where
    -- its job waits
    pub waits_at_end : (plan : PlanView) (h : List Event) (w : ℕ) (c : Blk) (states : List (JobState J)) → IsLawful plan h → why plan h (End w c) ≡ None
        → c.0 < length plan.blocks → AreStates plan h states → (job : J) × (slice_get states c.0 ≡ Some (Waits job))
    waits_at_end plan h w c states lawful may low are = are.waits c.0 low (none_given plan h c.0 (end_is_new plan h w c lawful may))

    pub states_ended : (plan : PlanView) (h : List Event) (w : ℕ) (c : Blk) (old new : List (JobState J)) → c.0 < length plan.blocks
        → is_block_cancelled plan (h ++ End w c ∷ []) c.0 ≡ false → HasRun gives c.0 old new → AreStates plan h old → AreStates plan (h ++ End w c ∷ []) new
    states_ended plan h w c old new low live ran are =
        let k = h ++ End w c ∷ [] in
        let state : JobState J = Gave ran.value in
        let count = are.count in
        let own : has_given plan k c.0 ≡ true =
        given_of_own plan h w c ∙ ap not (sym (cancelled_without_act plan h (End w c) c.0 refl) ∙ live) in
        let here : slice_get (slice_set old c.0 state) c.0 ≡ Some state = slice_get-set_same old c.0 state (omega (arith, count, low)) in
        subst (AreStates plan k) (sym ran.is) (record {
          count = length-set old c.0 state ∙ count;
          waits = λ b within none.
              ⊎_elim
              (λ (same : c.0 ≡ b). absurd (both_ways (has_given plan k b) none (subst (λ (n : ℕ). has_given plan k n ≡ true) same own)))
              (λ (differ : c.0 ≢ b).
              let was = are.waits b within (sym (given_of_other plan h w c b differ) ∙ none) in
              (was.0, set_elsewhere old c.0 b state (λ e. differ (sym e)) ∙ was.1))
              (cases_eq c.0 b);
          gave = λ b within gave.
              ⊎_elim
              (λ (same : c.0 ≡ b). (ran.value, subst (λ (n : ℕ). slice_get (slice_set old c.0 state) n ≡ Some state) same here))
              (λ (differ : c.0 ≢ b).
              let was = are.gave b within (sym (given_of_other plan h w c b differ) ∙ gave) in
              (was.0, set_elsewhere old c.0 b state (λ e. differ (sym e)) ∙ was.1))
              (cases_eq c.0 b);
        })

    -- and no block may come to another value than before
    pub ran_no_more : (b : ℕ) (old new : List (JobState J)) → HasRun gives b old new → ComesToNoMore gives old new
    ran_no_more b old new ran d value may =
        let state : JobState J = Gave ran.value in
        let at : slice_get (slice_set old b state) d ≡ Some may.state = ap (λ (l : List (JobState J)). slice_get l d) (sym ran.is) ∙ may.at in
        ⊎_elim
        (λ (same : b ≡ d).
        let it : may.state ≡ state = set_same old b state may.state (ap (slice_get (slice_set old b state)) same ∙ at) in
        let gave : value ≡ ran.value = subst (λ (s : JobState J). may_come gives s value) it may.may in
        record { state = Waits ran.job; at = ap (slice_get old) (sym same) ∙ ran.was; may = subst (gives ran.job 0) (sym gave) ran.given })
        (λ (differ : b ≢ d). record { state = may.state; at = sym (set_elsewhere old b d state (λ e. differ (sym e))) ∙ at; may = may.may })
        (cases_eq b d)

    pub own_kept : (plan : PlanView) (jobs : List J) (old new : List (JobState J)) → ComesToNoMore gives old new → AreOwn gives plan jobs old → AreOwn gives plan jobs new
    own_kept plan jobs old new fewer own b value other may = own b value other (fewer b value may)

    -- ## A job that is laid down for a block of the intake

    pub states_laid : (plan : PlanView) (h : List Event) (b : ℕ) (job : J) (states : List (JobState J)) → has_given plan h b ≡ false
        → AreStates plan h states → AreStates plan h (slice_set states b (Waits job))
    states_laid plan h b job states none are =
        let count = are.count in
        record {
          count = length-set states b (Waits job) ∙ count;
          waits = λ d within not_yet.
              ⊎_elim
              (λ (same : b ≡ d). (
                job,
                subst (λ (n : ℕ). slice_get (slice_set states b (Waits job)) n ≡ Some (Waits job)) same
                    (slice_get-set_same states b (Waits job) (omega (arith, count, within, same))),
              ))
              (λ (differ : b ≢ d).
              let was = are.waits d within not_yet in
              (was.0, set_elsewhere states b d (Waits job) (λ e. differ (sym e)) ∙ was.1))
              (cases_eq b d);
          gave = λ d within gave.
              ⊎_elim
              (λ (same : b ≡ d). absurd (both_ways (has_given plan h b) none (ap (has_given plan h) same ∙ gave)))
              (λ (differ : b ≢ d).
              let was = are.gave d within gave in
              (was.0, set_elsewhere states b d (Waits job) (λ e. differ (sym e)) ∙ was.1))
              (cases_eq b d);
        }

    -- what another block may come to is as it was
    pub laid_other : (b d value : ℕ) (job : J) (states : List (JobState J)) → d ≢ b → MayCome gives (slice_set states b (Waits job)) d value → MayCome gives states d value
    laid_other b d value job states differ may = record {
      state = may.state;
      at = sym (set_elsewhere states b d (Waits job) differ) ∙ may.at;
      may = may.may;
    }

    -- the block itself may come to what the job may give
    pub laid_here : (b value : ℕ) (job : J) (states : List (JobState J)) → MayCome gives (slice_set states b (Waits job)) b value → gives job 0 value
    laid_here b value job states may =
        subst (λ (s : JobState J). may_come gives s value) (set_same states b (Waits job) may.state may.at) may.may

    pub own_laid : (plan : PlanView) (jobs : List J) (b : ℕ) (job : J) (states : List (JobState J)) → is_of_intake plan b ≡ true
        → AreOwn gives plan jobs states → AreOwn gives plan jobs (slice_set states b (Waits job))
    own_laid plan jobs b job states of own d value other may =
        own d value other (laid_other b d value job states
        (λ same. both_ways (is_of_intake plan d) other (ap (is_of_intake plan) same ∙ of)) may)
