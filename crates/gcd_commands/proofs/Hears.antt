-- What a run beside senders promises of their jobs, from what the pool has left and what was taken of each.
use Rattle.std.proofs.Common.{◌≡◌, ◌∙◌, ◌+◌, ◌*◌, ◌/◌, ◌<◌, ◌≤◌, ◌&&◌, not, ℕ, zero, suc, Bool, true, false, List, [], ◌∷◌, length, Option, Some, None, is_some, slice_get, unwrap_or, nat_le, reverse, ap, refl, sym, subst, arith, ⊎_elim}
use Rattle.std.specs.Prelude.{IfSome}
use Rattle.std.specs.List.{AllZip, list_any}
use Rattle.std.proofs.lemmas.Bool.{and_left, and_parts, both_ways, cases_lt, leb-true, true_from_ne_false}
use Rattle.std.proofs.lemmas.List.{length-append}
use Rattle.std.proofs.lemmas.List.FromFn.{get_or-map-range_with_len, length-map-range_with_len}
use Rattle.std.proofs.lemmas.Option.{get_or_from_slice_get, slice_get_within}
use Rattle.std.proofs.Math.Nat.{div-le_self}
use Rattle.gcd_plan.specs.Kinds.{is_queue}
use Rattle.gcd_plan.specs.Limits.{max_events, max_intake}
use Rattle.gcd_plan.specs.PlanView.{PlanView, IntakeView}
use Rattle.gcd_plan.specs.Validity.{IsPlan, IsIntake}
use Rattle.gcd_plan.specs.declared.numbers.Blk.{Blk}
use Rattle.gcd_plan.proofs.Places.{slice_get_kept, slice_get_some}
use Rattle.gcd_event.specs.declared.event.Event.{Event}
use Rattle.gcd_history.specs.Ends.{IsQuiescent}
use Rattle.gcd_history.specs.History.{is_block_cancelled, is_ended, is_intake_open}
use Rattle.gcd_history.specs.Intake as of_intake
use Rattle.gcd_history.proofs.Lists.{list_any-reverse}
use Rattle.gcd_history.proofs.Public.Laws.{quiescent_is_rest}
use Rattle.gcd_loop.specs.Ran.{RunsPlan}
use Rattle.gcd_outer.specs.Outside.{ClockState, Seen}
use Rattle.gcd_outer.specs.Tells.{PollerState}
use Rattle.gcd_front.specs.Fronts.{IsTakenOf}
use Rattle.gcd_front.specs.Queue.{jobs_of}
use Rattle.gcd_front.specs.Views.{IntakeView as TakenView}
use Rattle.gcd_history.specs.Intake.{AcceptsOf, blocks_of_sender}
use Rattle.gcd_workers.specs.declared.jobs_input.JobsInput.{JobsInput}
use Rattle.gcd_workers.specs.declared.ran.Ran.{Ran as Left}
use Rattle.gcd_commands.specs.Fronts.{HasIntake, HearsSenders, RanBeside, value_or_0}
use Rattle.gcd_commands.specs.Senders.{HasRun, told, told_by}
use Rattle.gcd_commands.specs.declared.front_job.FrontJob.{FrontJob}
use Rattle.gcd_commands.specs.declared.front_job.Told.{Told}
use Rattle.gcd_commands.proofs.Counting.{all_shares}
use Rattle.gcd_commands.proofs.Ran.{full_of}

-- ## Lists

-- what stands at a place of the second list has something at that place of the first
record IsBeside {X Y : Type 0} (r : X → Y → Type 0) (xs : List X) (k : ℕ) (y : Y) : Type 0 where
  other : X
  at : slice_get xs k ≡ Some other
  is : r other y

beside : {X Y : Type 0} (r : X → Y → Type 0) (xs : List X) (ys : List Y) (k : ℕ) (y : Y) → AllZip r xs ys → slice_get ys k ≡ Some y
    → IsBeside r xs k y
beside r [] [] k y all at = absurd cc
beside r (x ∷ xs) (z ∷ ys) zero y all at = let same : z ≡ y = cc in record { other = x; at = refl; is = subst (r x) same all.0 }
beside r (x ∷ xs) (z ∷ ys) (suc k) y all at = let b = beside r xs ys k y all.1 at in record { other = b.other; at = b.at; is = b.is }
beside r [] (z ∷ ys) k y all at = absurd all
beside r (x ∷ xs) [] k y all at = absurd all

as_long : {X Y : Type 0} (r : X → Y → Type 0) (xs : List X) (ys : List Y) → AllZip r xs ys → length ys ≡ length xs
as_long r [] [] all = refl
as_long r (x ∷ xs) (y ∷ ys) all = ap suc (as_long r xs ys all.1)
as_long r [] (y ∷ ys) all = absurd all
as_long r (x ∷ xs) [] all = absurd all

-- ## Jobs

-- the job at a place of a sender's
told_at : (s n k : ℕ) (job : Told) → slice_get (told_by s n) k ≡ Some job → job.0 ≡ 1000 * s + (k + 1)
told_at s n k job at =
    let low : k < n = omega (arith, slice_get_within (told_by s n) k job at, length-map-range_with_len (told s) 1 n) in
    ap (λ (t : Told). t.0) (sym (get_or_from_slice_get (told_by s n) k job job at) ∙ get_or-map-range_with_len (told s) 1 n k (k + 1) job low (omega arith))

-- the number of a value
value_is : (values : List (Option ℕ)) (b v : ℕ) → slice_get values b ≡ Some (Some v) → value_or_0 values b ≡ v
value_is values b v at = ap (λ (o : Option (Option ℕ)). unwrap_or (unwrap_or o None) 0) at

value_none : (values : List (Option ℕ)) (b : ℕ) → slice_get values b ≡ Some None → value_or_0 values b ≡ 0
value_none values b at = ap (λ (o : Option (Option ℕ)). unwrap_or (unwrap_or o None) 0) at

-- past the end there is none
value_past : (values : List (Option ℕ)) (b : ℕ) → length values ≤ b → value_or_0 values b ≡ 0
value_past [] b past = refl
value_past (v ∷ values) zero past = absurd (omega (arith, past))
value_past (v ∷ values) (suc b) past = value_past values b (omega (arith, past))

-- ## The intake

-- the intake of a valid plan has from 1 to 4,096 blocks
record IsFit (blocks : ℕ) : Type 0 where
  pub some : 0 < blocks
  pub few : blocks ≤ max_intake

fits : (plan : PlanView) (blocks : ℕ) → IsPlan plan → HasIntake plan blocks → IsFit blocks
fits plan blocks valid has =
    let intake = has.intake in
    let is : IsIntake plan intake = subst (λ (o : Option IntakeView). IfSome o (IsIntake plan)) has.intake_is valid.intake in
    let parts = and_parts (is_queue plan intake.queue.0) (nat_le 1 intake.count && nat_le intake.count max_intake) is.fits in
    let bounds = and_parts (nat_le 1 intake.count) (nat_le intake.count max_intake) parts.1 in
    let low = leb-true 1 intake.count bounds.0 in
    let high = leb-true intake.count max_intake bounds.1 in
    record { some = omega (arith, low, has.count); few = omega (arith, high, has.count) }

-- ## The run

-- where a plan with an intake has come to rest, a Shut stands
shut_at_rest : (plan : PlanView) (intake : IntakeView) (h : List Event) → plan.intake ≡ Some intake → is_intake_open plan h ≡ false
    → list_any of_intake.shuts h ≡ true
unfolding is_intake_open of_intake.is_intake_open
shut_at_rest plan intake h is closed =
    let some : is_some plan.intake ≡ true = ap (λ (o : Option IntakeView). is_some o) is in
    let shut : not (list_any of_intake.shuts (reverse h)) ≡ false = ap (λ (c : Bool). c && not (list_any of_intake.shuts (reverse h))) (sym some) ∙ closed in
    sym (list_any-reverse of_intake.shuts h) ∙ true_from_ne_false (list_any of_intake.shuts (reverse h)) (λ no. both_ways (not (list_any of_intake.shuts (reverse h))) shut (ap not no))

module _ (d : JobsInput FrontJob) (blocks senders : ℕ) (poller : Seen PollerState) (clock : Seen ClockState) (run : Left) (valid : IsPlan d.plan.now)
    (has : HasIntake d.plan.now blocks) (workers_is : d.workers ≡ 4) (most_is : d.most ≡ max_events)
    (share : ℕ) (share_is : share ≡ blocks / senders) (has_run : HasRun d senders share poller clock run) where
  left : HasRun d senders (blocks / senders) poller clock run
  left = subst (λ (n : ℕ). HasRun d senders n poller clock run) share_is has_run

  abbrev plan : PlanView
  plan = d.plan.now

  abbrev i : TakenView Told
  i = left.intake

  -- what was taken of each sender is how its jobs begin
  taken : (s : ℕ) → s < senders → IsTakenOf left.front i s (told_by s (blocks / senders))
  taken s low =
      let mouth = slice_get_some left.mouths s (omega (arith, low, left.count)) in
      subst (λ (l : List Told). IsTakenOf left.front i s l) (left.called s mouth.0 mouth.1) (left.taken s mouth.0 mouth.1)

  abbrev h : List Event
  h = run.journal.items

  abbrev values : List (Option ℕ)
  values = run.values.items

  -- no other sender has an Accept
  none_else : (s : ℕ) → senders ≤ s → blocks_of_sender h s ≡ []
  none_else s over = left.runs.run.called s (subst (λ n. n ≤ s) (sym left.of_front) over)

  -- the jobs that were accepted of a sender begin its jobs
  few_of : (s : ℕ) → s < senders → length (blocks_of_sender h s) ≤ blocks / senders
  few_of s low =
      let o = left.runs.callers s in
      let t = taken s low in
      let long = as_long _ o.front (blocks_of_sender h s) o.given in
      let first = ap length o.split ∙ length-append o.front o.rest in
      let all = ap length t.begins ∙ length-append (jobs_of s i.taken) t.rest in
      let told = length-map-range_with_len (told s) 1 (blocks / senders) in
      omega (arith, long, first, all, told)

  few : (s : ℕ) → length (blocks_of_sender h s) ≤ blocks / senders
  few s = ⊎_elim (few_of s) (λ over. let no : length (blocks_of_sender h s) ≡ 0 = ap length (none_else s over) in omega (arith, no)) (cases_lt s senders)

  value_at : (s k : ℕ) (b : Blk) → s < senders → slice_get (blocks_of_sender h s) k ≡ Some b → is_ended h b.0 ≡ true
      → value_or_0 values b.0 ≡ 1000 * s + (k + 1)
  value_at s k b low at ended =
      let o = left.runs.callers s in
      let t = taken s low in
      let job = beside _ o.front (blocks_of_sender h s) k b o.given at in
      let given = job.is ended in
      let first : slice_get (jobs_of s i.taken) k ≡ Some job.other = subst (λ (l : List Told). slice_get l k ≡ Some job.other) (sym o.split) (slice_get_kept o.front o.rest k job.other job.at) in
      let sent : slice_get (told_by s (blocks / senders)) k ≡ Some job.other = subst (λ (l : List Told). slice_get l k ≡ Some job.other) (sym t.begins) (slice_get_kept (jobs_of s i.taken) t.rest k job.other first) in
      value_is values b.0 given.0 given.1 ∙ given.2 ∙ told_at s (blocks / senders) k job.other sent

  value_of : (s k : ℕ) (b : Blk) → slice_get (blocks_of_sender h s) k ≡ Some b → is_ended h b.0 ≡ true → value_or_0 values b.0 ≡ 1000 * s + (k + 1)
  value_of s k b at ended =
      ⊎_elim
      (λ low. value_at s k b low at ended)
      (λ over.
      let within = slice_get_within (blocks_of_sender h s) k b at in
      let no : length (blocks_of_sender h s) ≡ 0 = ap length (none_else s over) in
      absurd (omega (arith, within, no)))
      (cases_lt s senders)

  whole : (intake : IntakeView) → plan.intake ≡ Some intake → intake.count ≡ blocks → IsQuiescent plan h → (s : ℕ) → s < senders
      → length (blocks_of_sender h s) ≡ blocks / senders
  whole intake is count quiet s low =
      let rest = quiescent_is_rest plan h valid left.runs.run.lawful quiet in
      let shut = shut_at_rest plan intake h is rest.no_intake in
      ⊎_elim
      (λ all. subst (λ n. length (blocks_of_sender h s) ≡ n / senders) count
      (all_shares plan intake h left.runs.run.lawful is senders none_else all
      (λ t. subst (λ n. length (blocks_of_sender h t) ≤ n / senders) (sym count) (few t)) s low))
      (λ known.
      let t = taken s low in
      left.runs.all shut s ∙ ap length (sym (t.all known.0 known.1)) ∙ length-map-range_with_len (told s) 1 (blocks / senders))
      (left.runs.why_shut shut)

  hears : (intake : IntakeView) → plan.intake ≡ Some intake → intake.count ≡ blocks → HearsSenders plan intake senders (value_or_0 values) h
  hears intake is count = record {
    values = value_of;
    few = λ s. subst (λ n. length (blocks_of_sender h s) ≤ n / senders) (sym count) (few s);
    whole = λ quiet s low. whole intake is count quiet s low ∙ ap (λ n. n / senders) (sym count);
  }

  -- a block that has not ended has no value
  no_value : (b : ℕ) → is_ended h b ≡ false → value_or_0 values b ≡ 0
  no_value b unended =
      ⊎_elim
      (λ low. value_none values b (left.runs.given.others b low (and_left (is_ended h b) (not (is_block_cancelled plan h b)) unended)))
      (λ over. value_past values b (omega (arith, left.runs.given.count, over)))
      (cases_lt b (length plan.blocks))

  pub ran_beside : RanBeside plan blocks senders poller clock run
  ran_beside =
      let whole_run : RunsPlan max_events plan 4 (AcceptsOf senders) poller clock h =
      subst (λ (n : ℕ). RunsPlan max_events plan 4 (AcceptsOf n) poller clock h) left.of_front
      (subst (λ (n : ℕ). RunsPlan max_events plan n (AcceptsOf left.front.senders) poller clock h) workers_is
      (subst (λ (n : ℕ). RunsPlan n plan d.workers (AcceptsOf left.front.senders) poller clock h) most_is left.runs.run)) in
      record {
        ran = record {
          run = whole_run;
          over = record { state_is = left.runs.state_is; full = full_of max_events plan h run.state left.runs.state_is whole_run.ended };
        };
        hears = λ intake is.
            let same : has.intake ≡ intake = cc in
            hears intake is (subst (λ (n : IntakeView). n.count ≡ blocks) same has.count);
        few = λ s. let mine = few s in let less = div-le_self blocks senders in let fit = fits plan blocks valid has in omega (arith, mine, less, fit.few);
        others = no_value;
      }
