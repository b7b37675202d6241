-- Who is parked for the end of a block is its caller, or waits for it by an act of its own.
use Rattle.std.proofs.Common.{◌≡◌, ◌⊎◌, inl, inr, ⊎_elim, ℕ, ◌==◌, true, false, ◌||◌, cond, List, [], ◌∷◌, ◌++◌, Option, Some, None, is_some, refl, ap, ◌∙◌, arith, eq-eqb}
use Rattle.std.specs.List.{list_any}
use Rattle.std.specs.Option.{option_or}
use Rattle.std.proofs.lemmas.Bool.{eqb-true, both_ways, false_from_ne_true, or_parts, or_left}
use Rattle.std.proofs.lemmas.Option.{same_Some}
use Rattle.gcd_plan.specs.PlanView.{PlanView}
use Rattle.gcd_plan.specs.Validity.{IsPlan}
use Rattle.gcd_plan.specs.declared.act.Act.{Act}
use Rattle.gcd_plan.specs.declared.act.Act.TheVariants.{Sync, BarrierSync, WaitBlock}
use Rattle.gcd_plan.specs.declared.numbers.Blk.{Blk}
use Rattle.gcd_plan.specs.declared.numbers.Run.TheVariants.{Block}
use Rattle.gcd_plan.specs.declared.reason.Reason.TheVariants.{Block as EndOf}
use Rattle.gcd_event.specs.declared.event.Event.{Event}
use Rattle.gcd_event.specs.declared.event.Event.TheVariants.{Act as Acted}
use Rattle.gcd_history.specs.Runs.{act_at, is_ended, ends}
use Rattle.gcd_history.specs.Parked.{awaited_by, awaited, has_come, has_run_out}
use Rattle.gcd_history.specs.Permitted.{IsLawful}
use Rattle.gcd_history.specs.Submitted.{submitted, submission_of, new_submissions, submitted_by}
use Rattle.gcd_history.proofs.Lists.{find_from_any, any_from_find, any_left, any_right}
use Rattle.gcd_plan.proofs.Sums.{count_by-append, count_by_some}
use Rattle.gcd_plan.proofs.Options.{some_from_is_some}
use Rattle.gcd_history.proofs.Blocks.StartedOnce.{submission_of-kept, submitted_from_started, started_from_ended}
use Rattle.gcd_history.proofs.Blocks.SubmittedOnce.{submitted_once}
use Rattle.gcd_history.proofs.Waits.Woken.{parked_facts}
use Rattle.gcd_refinement.specs.Sleepers.{called_by, calls, caller_of, waits_for_end, block_if, end_waiters}
use Rattle.gcd_refinement.proofs.Lists.Among.{among, split, alone}
use Rattle.gcd_refinement.proofs.Groups.Members.{own_any}
use Rattle.gcd_refinement.proofs.Sleepers.NewlyParked.{parked_now, parked_new, now_parked, still_parked}

-- ## What a call submits

called_any : (plan : PlanView) (c : ℕ) (b : Blk) (act : Option Act) → is_some (called_by c b act) ≡ true → list_any (λ s. s.blk.0 == c) (submitted_by plan act) ≡ true
called_any plan c b (Some (Sync q d)) h =
    elim (d.0 == c) as (λ v. is_some (cond v (Some b) None) ≡ true → (v || false) ≡ true) [ true ↦ λ k. refl | false ↦ λ k. cc ] h
called_any plan c b (Some (BarrierSync q d)) h =
    elim (d.0 == c) as (λ v. is_some (cond v (Some b) None) ≡ true → (v || false) ≡ true) [ true ↦ λ k. refl | false ↦ λ k. cc ] h
called_any plan c b _ h = cc

calls_any : (plan : PlanView) (past : List Event) (e : Event) (c : ℕ) → is_some (calls plan c e) ≡ true → list_any (λ s. s.blk.0 == c) (new_submissions plan past e) ≡ true
calls_any plan past (Acted w (Block b) i) c h = own_any plan past (Acted w (Block b) i) (λ s. s.blk.0 == c) (called_any plan c b (act_at plan (Block b) i) h)
calls_any plan past e c h = cc

-- one that was called is submitted
caller_submitted : (plan : PlanView) (past : List Event) (c : ℕ) → is_some (caller_of plan past c) ≡ true → is_some (submission_of plan past c) ≡ true
caller_submitted plan [] c h = cc
caller_submitted plan (e ∷ past) c h =
    elim (calls plan c e) as (λ o. calls plan c e ≡ o → is_some (option_or o (caller_of plan past c)) ≡ true → is_some (submission_of plan (e ∷ past) c) ≡ true) [
      | Some b ↦ λ at k.
          find_from_any (λ s. s.blk.0 == c) (submitted plan past ++ new_submissions plan past e)
          (any_right (λ s. s.blk.0 == c) (submitted plan past) (new_submissions plan past e) (calls_any plan past e c (ap is_some at)))
      | None ↦ λ at k.
          let s = some_from_is_some (submission_of plan past c) (caller_submitted plan past c k) in ap is_some (submission_of-kept plan e past c s.0 s.1)
    ] refl h

-- one that is called now was not submitted before
uncalled : (plan : PlanView) (past : List Event) (e : Event) (c : ℕ) → IsPlan plan → IsLawful plan (e ∷ past) → is_some (calls plan c e) ≡ true → is_some (submission_of plan past c) ≡ false
uncalled plan past e c valid lawful h =
    false_from_ne_true (is_some (submission_of plan past c)) (λ there.
    let was = count_by_some (λ s. s.blk.0 == c) (submitted plan past) (any_from_find (λ s. s.blk.0 == c) (submitted plan past) there) in
    let new = count_by_some (λ s. s.blk.0 == c) (new_submissions plan past e) (calls_any plan past e c h) in
    let all = count_by-append (λ s. s.blk.0 == c) (submitted plan past) (new_submissions plan past e) in
    let once = submitted_once plan (e ∷ past) valid lawful c in
    absurd (omega (arith, was, new, all, once)))

-- nor has it ended
pub called_goes_on : (plan : PlanView) (past : List Event) (e : Event) (c : ℕ) → IsPlan plan → IsLawful plan (e ∷ past) → is_some (calls plan c e) ≡ true → is_ended past c ≡ false
called_goes_on plan past e c valid lawful h =
    false_from_ne_true (is_ended past c) (λ ended.
    both_ways (is_some (submission_of plan past c)) (uncalled plan past e c valid lawful h)
    (submitted_from_started plan past lawful.0 c (started_from_ended plan past lawful.0 c ended)))

-- ## A call parks its caller, and nothing else does so

end_of_same : (d c : Blk) → Some (EndOf d) ≡ Some (EndOf c) → d ≡ c
end_of_same d c h = cc

call_is : (plan : PlanView) (past : List Event) (d b c : Blk) (act : Option Act) → (d.0 == b.0) ≡ true → awaited_by plan past act ≡ Some (EndOf c) → (called_by c.0 d act ≡ Some b) ⊎ (among b (cond (waits_for_end c.0 act) (d ∷ []) []) ≡ true)
call_is plan past d b c (Some (Sync q f)) same h =
    let t = eq-eqb f.0 c.0 (ap (λ k. k.0) (end_of_same f c h)) in
    inl (ap (λ v. cond v (Some d) None) t ∙ ap (λ n. Some (record { 0 = n })) (eqb-true d.0 b.0 same))
call_is plan past d b c (Some (BarrierSync q f)) same h =
    let t = eq-eqb f.0 c.0 (ap (λ k. k.0) (end_of_same f c h)) in
    inl (ap (λ v. cond v (Some d) None) t ∙ ap (λ n. Some (record { 0 = n })) (eqb-true d.0 b.0 same))
call_is plan past d b c (Some (WaitBlock f)) same h =
    let t = eq-eqb f.0 c.0 (ap (λ k. k.0) (end_of_same f c h)) in
    inr (ap (λ v. among b (cond v (d ∷ []) [])) t ∙ or_left (d.0 == b.0) false same)
call_is plan past d b c _ same h = cc

pub now_called : (plan : PlanView) (past : List Event) (e : Event) (b c : Blk) → parked_now plan past e b.0 ≡ Some (EndOf c) → (calls plan c.0 e ≡ Some b) ⊎ (among b (block_if (waits_for_end c.0) plan e) ≡ true)
now_called plan past (Acted w (Block d) i) b c h =
    elim (d.0 == b.0) as (λ v. d.0 == b.0 ≡ v → cond v (awaited_by plan past (act_at plan (Block d) i)) None ≡ Some (EndOf c) → (called_by c.0 d (act_at plan (Block d) i) ≡ Some b) ⊎ (among b (cond (waits_for_end c.0 (act_at plan (Block d) i)) (d ∷ []) []) ≡ true)) [
      | true ↦ λ same k. call_is plan past d b c (act_at plan (Block d) i) same k
      | false ↦ λ other k. cc
    ] refl h
now_called plan past e b c h = cc

one_call : (d b f c : Blk) → cond (f.0 == c.0) (Some d) None ≡ Some b → cond (d.0 == b.0) (Some (EndOf f)) None ≡ Some (EndOf c)
one_call d b f c h =
    elim (f.0 == c.0) as (λ v. f.0 == c.0 ≡ v → cond v (Some d) None ≡ Some b → cond (d.0 == b.0) (Some (EndOf f)) None ≡ Some (EndOf c)) [
      | true ↦ λ same k.
          ap (λ v. cond v (Some (EndOf f)) None) (eq-eqb d.0 b.0 (ap (λ x. x.0) (same_Some d b k)))
          ∙ ap (λ n. Some (EndOf (record { 0 = n }))) (eqb-true f.0 c.0 same)
      | false ↦ λ other k. cc
    ] refl h

call_parks : (plan : PlanView) (past : List Event) (d b c : Blk) (act : Option Act) → called_by c.0 d act ≡ Some b → cond (d.0 == b.0) (awaited_by plan past act) None ≡ Some (EndOf c)
call_parks plan past d b c (Some (Sync q f)) h = one_call d b f c h
call_parks plan past d b c (Some (BarrierSync q f)) h = one_call d b f c h
call_parks plan past d b c _ h = cc

pub called_now : (plan : PlanView) (past : List Event) (e : Event) (b c : Blk) → calls plan c.0 e ≡ Some b → parked_now plan past e b.0 ≡ Some (EndOf c)
called_now plan past (Acted w (Block d) i) b c h = call_parks plan past d b c (act_at plan (Block d) i) h
called_now plan past e b c h = cc

-- ## The caller

-- who is parked for the end of c, which has not come, is its caller or waits for it
abbrev IsForEnd : PlanView → List Event → (b c : Blk) → Type 0
IsForEnd plan past b c = (caller_of plan past c.0 ≡ Some b) ⊎ (among b (end_waiters plan past c.0) ≡ true)

-- what the event leaves of a caller, and of one that waits
still_caller : (plan : PlanView) (past : List Event) (e : Event) (b c : Blk) → IsPlan plan → IsLawful plan (e ∷ past) → caller_of plan past c.0 ≡ Some b → caller_of plan (e ∷ past) c.0 ≡ Some b
still_caller plan past e b c valid lawful was =
    elim (calls plan c.0 e) as (λ o. calls plan c.0 e ≡ o → option_or o (caller_of plan past c.0) ≡ Some b) [
      | None ↦ λ at. was
      | Some d ↦ λ at.
          absurd (both_ways (is_some (submission_of plan past c.0)) (uncalled plan past e c.0 valid lawful (ap is_some at)) (caller_submitted plan past c.0 (ap is_some was)))
    ] refl

waiters_go_on : (plan : PlanView) (past : List Event) (e : Event) (c : ℕ) → is_ended (e ∷ past) c ≡ false → end_waiters plan (e ∷ past) c ≡ end_waiters plan past c ++ block_if (waits_for_end c) plan e
waiters_go_on plan past e c goes = ap (λ t. cond t [] (end_waiters plan past c ++ block_if (waits_for_end c) plan e)) goes

pub awaits_end : (plan : PlanView) (past : List Event) (b c : Blk) → IsPlan plan → IsLawful plan past → awaited plan past (Block b) ≡ Some (EndOf c) → is_ended past c.0 ≡ false → IsForEnd plan past b c
awaits_end plan [] b c valid lawful is goes = let facts = parked_facts plan [] b (EndOf c) is in let no_run : false ≡ true = facts.live in cc
awaits_end plan (e ∷ past) b c valid lawful is goes =
    let list = waiters_go_on plan past e c.0 goes in
    let on = (or_parts (ends c.0 e) (is_ended past c.0) goes).1 in
    ⊎_elim
    (λ new.
    ⊎_elim
    (λ called. inl (ap (λ o. option_or o (caller_of plan past c.0)) called))
    (λ waits. inr (ap (among b) list ∙ any_right (λ k. k.0 == b.0) (end_waiters plan past c.0) (block_if (waits_for_end c.0) plan e) waits))
    (now_called plan past e b c new))
    (λ old.
    ⊎_elim
    (λ was. inl (still_caller plan past e b c valid lawful was))
    (λ was. inr (ap (among b) list ∙ any_left (λ k. k.0 == b.0) (end_waiters plan past c.0) (block_if (waits_for_end c.0) plan e) was))
    (awaits_end plan past b c valid lawful.0 old on))
    (parked_new plan past e b (EndOf c) is)

-- and who waits for it is parked for it
waits_now : (plan : PlanView) (past : List Event) (e : Event) (b c : Blk) → among b (block_if (waits_for_end c.0) plan e) ≡ true → parked_now plan past e b.0 ≡ Some (EndOf c)
waits_now plan past (Acted w (Block d) i) b c h =
    by (act_at plan (Block d) i) refl h
  where
    by : (act : Option Act) → act_at plan (Block d) i ≡ act → among b (cond (waits_for_end c.0 act) (d ∷ []) []) ≡ true → cond (d.0 == b.0) (awaited_by plan past (act_at plan (Block d) i)) None ≡ Some (EndOf c)
    by (Some (WaitBlock f)) at h =
        elim (f.0 == c.0) as (λ t. f.0 == c.0 ≡ t → among b (cond t (d ∷ []) []) ≡ true → cond (d.0 == b.0) (awaited_by plan past (act_at plan (Block d) i)) None ≡ Some (EndOf c)) [
          | true ↦ λ same k.
              ap (λ t. cond t (awaited_by plan past (act_at plan (Block d) i)) None) (eq-eqb d.0 b.0 (ap (λ x. x.0) (alone d b k)))
              ∙ (ap (awaited_by plan past) at ∙ ap (λ n. Some (EndOf (record { 0 = n }))) (eqb-true f.0 c.0 same))
          | false ↦ λ other k. cc
        ] refl h
    by act at h = cc
waits_now plan past e b c h = cc

pub record WaitsForEnd (plan : PlanView) (past : List Event) (b c : Blk) : Type 0 where
  pub is : awaited plan past (Block b) ≡ Some (EndOf c)
  pub goes : is_ended past c.0 ≡ false

pub waiter_parked : (plan : PlanView) (past : List Event) (b c : Blk) → IsLawful plan past → among b (end_waiters plan past c.0) ≡ true → WaitsForEnd plan past b c
unfolding has_come has_run_out
waiter_parked plan [] b c lawful any = cc
waiter_parked plan (e ∷ past) b c lawful any =
    elim (is_ended (e ∷ past) c.0) as (λ t. is_ended (e ∷ past) c.0 ≡ t → among b (cond t [] (end_waiters plan past c.0 ++ block_if (waits_for_end c.0) plan e)) ≡ true → WaitsForEnd plan (e ∷ past) b c) [
      | true ↦ λ h k. cc
      | false ↦ λ h k.
          record {
            is = ⊎_elim
                (λ old.
                let was = waiter_parked plan past b c lawful.0 old in
                still_parked plan past e b (EndOf c) lawful was.is (ap (λ v. v || false) was.goes))
                (λ new. now_parked plan past e b (EndOf c) lawful (waits_now plan past e b c new))
                (split b (end_waiters plan past c.0) (block_if (waits_for_end c.0) plan e) k);
            goes = h;
          }
    ] refl any

-- nobody waits for what has ended
pub none_waits_for : (plan : PlanView) (past : List Event) (c : ℕ) → is_ended past c ≡ true → end_waiters plan past c ≡ []
none_waits_for plan [] c h = refl
none_waits_for plan (e ∷ past) c h = ap (λ t. cond t [] (end_waiters plan past c ++ block_if (waits_for_end c) plan e)) h

-- and until that end its caller is parked for it
pub awaited_from_caller : (plan : PlanView) (past : List Event) (b c : Blk) → IsPlan plan → IsLawful plan past → caller_of plan past c.0 ≡ Some b → is_ended past c.0 ≡ false → awaited plan past (Block b) ≡ Some (EndOf c)
unfolding has_come has_run_out
awaited_from_caller plan [] b c valid lawful is goes = cc
awaited_from_caller plan (e ∷ past) b c valid lawful is goes =
    let on = (or_parts (ends c.0 e) (is_ended past c.0) goes).1 in
    elim (calls plan c.0 e) as (λ o. calls plan c.0 e ≡ o → option_or o (caller_of plan past c.0) ≡ Some b → awaited plan (e ∷ past) (Block b) ≡ Some (EndOf c)) [
      | None ↦ λ at k. still_parked plan past e b (EndOf c) lawful (awaited_from_caller plan past b c valid lawful.0 k on) (ap (λ v. v || false) on)
      | Some d ↦ λ at k. now_parked plan past e b (EndOf c) lawful (called_now plan past e b c (at ∙ k))
    ] refl is
