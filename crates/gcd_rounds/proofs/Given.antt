-- The values and jobs of the blocks, a step on.
use Rattle.std.proofs.Common.{suc, zero, ◌≡◌, ◌≢◌, ◌<◌, ◌∙◌, ◌==◌, ℕ, true, false, not, List, [], ◌∷◌, ◌++◌, length, Option, Some, None, ap, sym, subst, arith, ⊎_elim, replicate}
use Rattle.std.specs.Prelude.{map, option_map, slice_get, slice_set}
use Rattle.std.proofs.lemmas.Bool.{both_ways, cases_eq, eq-eqb, or_parts}
use Rattle.std.proofs.lemmas.List.{length-set, length-replicate, length_push, get_or-replicate}
use Rattle.std.proofs.lemmas.Option.{same_Some, slice_get-get_or, slice_get-map}
use Rattle.gcd_facts.proofs.Lists.{slice_get-set_same}
use Rattle.gcd_plan.specs.PlanView.{PlanView}
use Rattle.gcd_plan.proofs.Places.{slice_get-append_seam, slice_get_some, slice_get_kept}
use Rattle.gcd_event.specs.declared.event.Event.{Event}
use Rattle.gcd_event.specs.declared.event.Event.TheVariants.{End}
use Rattle.gcd_history.specs.Runs.{ends}
use Rattle.gcd_history.specs.History.{IsLawful, is_block_cancelled, is_ended, why}
use Rattle.gcd_jobs.specs.BlockValues.{has_given}
use Rattle.gcd_jobs.proofs.ValuesMore.{ended_push, given_kept, given_of_other, given_of_own}
use Rattle.gcd_turn.proofs.HistoryMore.{unhalted_before}
use Rattle.gcd_rounds.specs.declared.kept.Done.{Done}
use Rattle.gcd_rounds.specs.declared.kept.Ending.{Ending}
use Rattle.gcd_rounds.specs.Kept.{HasValue}
use Rattle.gcd_rounds.specs.Ran.{AreGiven, IsGiven}
use Rattle.gcd_rounds.specs.Running.{AllWait, GoesOn, IsKept}
use Rattle.gcd_rounds.proofs.AtPlaces.{set_other}

-- the run went on before an event
pub went_on : (most : ℕ) (plan : PlanView) (h : List Event) (e : Event) → why plan h e ≡ None → GoesOn most (h ++ e ∷ []) → GoesOn most h
went_on most plan h e may on = record {
  unhalted = unhalted_before plan h e may;
  room = let room = on.room in omega (arith, length_push h e, room);
}

-- ## Values

pub given_first : {J : Type 0} (gives : J → ℕ → ℕ → Type 0) (plan : PlanView) (jobs : List J) → AreGiven gives plan jobs [] (replicate (length plan.blocks) 0)
unfolding is_ended
given_first gives plan jobs = record {
  count = length-replicate (length plan.blocks) 0;
  ended = λ b gave. cc;
  others = λ b low lacks.
      slice_get-get_or (replicate (length plan.blocks) 0) b 0 (omega (arith, length-replicate {A = ℕ} (length plan.blocks) 0))
      ∙ ap Some (get_or-replicate (length plan.blocks) b 0 0 low);
}

-- an event that ends no block but a cancelled one
pub given_same : {J : Type 0} (gives : J → ℕ → ℕ → Type 0) (plan : PlanView) (jobs : List J) (h : List Event) (e : Event) (values : List ℕ) → IsLawful plan h
    → ((b : ℕ) → ends b e ≡ true → is_block_cancelled plan h b ≡ true) → AreGiven gives plan jobs h values → AreGiven gives plan jobs (h ++ e ∷ []) values
given_same gives plan jobs h e values lawful only given =
    let same : (b : ℕ) → has_given plan (h ++ e ∷ []) b ≡ has_given plan h b = λ b. given_kept plan h e b lawful (only b) in
    record {
      count = given.count;
      ended = λ b gave. given.ended b (sym (same b) ∙ gave);
      others = λ b low lacks. given.others b low (sym (same b) ∙ lacks);
    }

-- the End of a block that is not cancelled gives it a value
pub given_end : {J : Type 0} (gives : J → ℕ → ℕ → Type 0) (plan : PlanView) (jobs : List J) (h : List Event) (done : Done) (values : List ℕ)
    → done.ending.blk.0 < length plan.blocks → is_block_cancelled plan h done.ending.blk.0 ≡ false → HasValue gives jobs done → AreGiven gives plan jobs h values
    → AreGiven gives plan jobs (h ++ End done.ending.worker done.ending.blk ∷ []) (slice_set values done.ending.blk.0 done.value)
given_end gives plan jobs h done values within works has given =
    let c : ℕ = done.ending.blk.0 in
    let after : List Event = h ++ End done.ending.worker done.ending.blk ∷ [] in
    let other : (b : ℕ) → c ≢ b → has_given plan after b ≡ has_given plan h b = given_of_other plan h done.ending.worker done.ending.blk in
    let count : length values ≡ length plan.blocks = given.count in
    record {
      count = length-set values c done.value ∙ count;
      ended = λ b gave.
          ⊎_elim
          (λ (same : c ≡ b). subst (IsGiven gives jobs (slice_set values c done.value)) same (record {
            job = has.job;
            value = done.value;
            job_of = has.job_of;
            value_of = slice_get-set_same values c done.value (omega (arith, count, within));
            given = has.given;
          }))
          (λ (differ : c ≢ b).
          let was : IsGiven gives jobs values b = given.ended b (sym (other b differ) ∙ gave) in
          record {
            job = was.job;
            value = was.value;
            job_of = was.job_of;
            value_of = set_other values c b done.value was.value (λ e. differ (sym e)) was.value_of;
            given = was.given;
          })
          (cases_eq c b);
      others = λ b low lacks.
          ⊎_elim
          (λ (same : c ≡ b).
          let gave : has_given plan after c ≡ true =
          given_of_own plan h done.ending.worker done.ending.blk ∙ ap not works in
          absurd (both_ways (has_given plan after c) (ap (has_given plan after) same ∙ lacks) gave))
          (λ (differ : c ≢ b). set_other values c b done.value 0 (λ e. differ (sym e)) (given.others b low (sym (other b differ) ∙ lacks)))
          (cases_eq c b);
    }

-- ## Jobs

pub wait_first : {J : Type 0} (most : ℕ) (plan : PlanView) (jobs : List J) → length jobs ≡ length plan.blocks → AllWait most plan jobs [] (map Some jobs) []
wait_first most plan jobs count on b low not_yet unkept =
    let found = slice_get_some jobs b (omega (arith, count, low)) in
    record {
      job = found.0;
      job_of = found.1;
      at = slice_get-map Some jobs b ∙ ap (λ o. option_map Some o) found.1;
    }

-- an event more
pub wait_same : {J : Type 0} (most : ℕ) (plan : PlanView) (first : List J) (h : List Event) (e : Event) (jobs : List (Option J)) (kept : List Ending)
    → why plan h e ≡ None → AllWait most plan first h jobs kept → AllWait most plan first (h ++ e ∷ []) jobs kept
wait_same most plan first h e jobs kept may wait on b low not_yet unkept =
    wait (went_on most plan h e may on) b low (or_parts (ends b e) (is_ended h b) (sym (ended_push h e b) ∙ not_yet)).1 unkept

-- an End that is kept back
pub wait_keep : {J : Type 0} (most : ℕ) (plan : PlanView) (first : List J) (h : List Event) (x : Ending) (jobs : List (Option J)) (kept : List Ending)
    → AllWait most plan first h jobs kept → AllWait most plan first h (slice_set jobs x.blk.0 None) (kept ++ x ∷ [])
wait_keep most plan first h x jobs kept wait on b low not_yet unkept =
    let was = wait on b low not_yet (λ is. unkept (record { place = is.place; ending = is.ending; at = slice_get_kept kept (x ∷ []) is.place is.ending is.at; of = is.of })) in
    record {
      job = was.job;
      job_of = was.job_of;
      at = set_other jobs x.blk.0 b None (Some was.job)
          (λ same. unkept (record { place = length kept; ending = x; at = slice_get-append_seam kept x []; of = sym same })) was.at;
    }

-- an End that is recorded
pub wait_end : {J : Type 0} (most : ℕ) (plan : PlanView) (first : List J) (h : List Event) (x : Ending) (jobs : List (Option J)) (rest : List Ending)
    → why plan h (End x.worker x.blk) ≡ None → AllWait most plan first h jobs (x ∷ rest)
    → AllWait most plan first (h ++ End x.worker x.blk ∷ []) jobs rest
wait_end most plan first h x jobs rest may wait on b low not_yet unkept =
    let parts = or_parts (x.blk.0 == b) (is_ended h b) (sym (ended_push h (End x.worker x.blk) b) ∙ not_yet) in
    wait (went_on most plan h (End x.worker x.blk) may on) b low parts.1 (kept_is b parts.0 unkept)
  where
    kept_is : (b : ℕ) → (x.blk.0 == b) ≡ false → (IsKept rest b → ⊥) → IsKept (x ∷ rest) b → ⊥
    kept_is b differ unkept is = by_place is.place is.ending is.at is.of
      where
        by_place : (i : ℕ) (e : Ending) → slice_get (x ∷ rest) i ≡ Some e → e.blk.0 ≡ b → ⊥
        by_place zero e at of = both_ways _ differ (eq-eqb x.blk.0 b (ap (λ (y : Ending). y.blk.0) (same_Some x e at) ∙ of))
        by_place (suc i) e at of = unkept (record { place = i; ending = e; at = at; of = of })

-- where the run is over nothing is asked
pub wait_over : {J : Type 0} (most : ℕ) (plan : PlanView) (first : List J) (h : List Event) (jobs : List (Option J)) (kept : List Ending) → (GoesOn most h → ⊥)
    → AllWait most plan first h jobs kept
wait_over most plan first h jobs kept over on b low not_yet unkept = absurd (over on)
