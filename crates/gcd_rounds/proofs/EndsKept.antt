-- An End that is kept back may come until its own worker records something.
use Rattle.std.proofs.Common.{suc, ◌≡◌, ◌<◌, ◌+◌, ◌∙◌, ◌==◌, ℕ, Bool, true, false, cond, if◌then◌else◌, List, [], ◌∷◌, ◌++◌, length, reverse, Some, None, is_some, ap, sym, subst, arith, ⊎_elim, refl}
use Rattle.std.specs.Prelude.{slice_get}
use Rattle.std.proofs.lemmas.Bool.{eq-eqb, eqb-true, ne_eqb}
use Rattle.std.proofs.lemmas.Option.{slice_get_within}
use Rattle.gcd_plan.specs.PlanView.{PlanView}
use Rattle.gcd_plan.specs.declared.numbers.Blk.{Blk}
use Rattle.gcd_plan.specs.declared.numbers.Run.TheVariants.{Block}
use Rattle.gcd_event.specs.declared.event.Event.{Event}
use Rattle.gcd_event.specs.declared.event.Event.TheVariants.{Start, Act as Acted, Wake, End, Deliver, DeliverEnd, Tick, Ready, FeedEnd, Misuse, Halt, Expire, Accept, Shut}
use Rattle.gcd_history.specs.Choice.{worker_of}
use Rattle.gcd_history.specs.Ends.{is_halted}
use Rattle.gcd_history.specs.Runs.{act_at, acts_done, same_run}
use Rattle.gcd_history.specs.Permitted.{has_act_left}
use Rattle.gcd_history.specs.Cancelled.{is_block_cancelled as is_cancelled_after}
use Rattle.gcd_history.specs.History.{IsLawful, choice_of, has_run, is_block_cancelled, is_ended, is_started, why}
use Rattle.gcd_history.proofs.Blocks.CancelledStays.{kept_once_begun}
use Rattle.gcd_history.proofs.Lists.{reverse_push}
use Rattle.gcd_history.proofs.Permitted.Reasons.{allowed, at_end}
use Rattle.gcd_history.specs.Team.{held_by}
use Rattle.gcd_history.proofs.HeldRuns.Cancelled.{begun_where_held}
use Rattle.gcd_history.proofs.HeldRuns.Cells.{held_cells_wait}
use Rattle.gcd_history.proofs.HeldRuns.Holders.{what_is_held_after}
use Rattle.gcd_history.proofs.Public.TeamLaws.{held_runs_are_apart, held_runs_are_open, own_events_are_the_holders, takings_find_nobody}
use Rattle.gcd_rounds.specs.declared.kept.Ending.{Ending}
use Rattle.gcd_rounds.specs.Kept.{AreKept, EndBefore, EndOthers, IsAtEnd}
use Rattle.gcd_rounds.proofs.AtPlaces.{at_push}

-- ## One End

-- an End that may come, of a block that is not cancelled, is one at which its worker stands
pub end_is_next : (plan : PlanView) (h : List Event) (e : Ending) → IsLawful plan h → why plan h (End e.worker e.blk) ≡ None
    → is_block_cancelled plan h e.blk.0 ≡ false → IsAtEnd plan h e
unfolding why
end_is_next plan h e lawful may works = record {
  known = (allowed plan (reverse h) (End e.worker e.blk) may).known;
  held = own_events_are_the_holders plan h lawful (End e.worker e.blk) (Block e.blk) (eq-eqb e.blk.0 e.blk.0 refl) may;
  done = (at_end plan (reverse h) e.worker e.blk may).made;
  works = works;
}

-- and it may come, as long as the history is not halted
pub end_may_come : (plan : PlanView) (h : List Event) (e : Ending) → IsLawful plan h → is_halted h ≡ false → IsAtEnd plan h e
    → why plan h (End e.worker e.blk) ≡ None
unfolding why is_halted has_run
end_may_come plan h e lawful unhalted at =
    let own : has_run plan h e.worker (Block e.blk) ≡ true = (held_runs_are_open plan h lawful).has e.worker (Block e.blk) at.held in
    rw (unhalted, at.known, own, at.done) refl

-- no act of the block is recorded by others, and it does not start again
acts_wait : (plan : PlanView) (h : List Event) (e : Event) (w : ℕ) (b : Blk) → IsLawful plan h → why plan h e ≡ None → held_by plan h w ≡ Some (Block b)
    → (worker_of e ≡ w → ⊥) → acts_done (e ∷ reverse h) (Block b) ≡ acts_done (reverse h) (Block b)
acts_wait plan h (Start v c) w b lawful may held other =
    elim (c.0 == b.0) as (λ t. (c.0 == b.0) ≡ t → cond t 0 (acts_done (reverse h) (Block b)) ≡ acts_done (reverse h) (Block b)) [
      | true ↦ λ same. absurd ((takings_find_nobody plan h lawful (Start v c) (Block c) refl may).nobodys w
          (held ∙ ap (λ (n : ℕ). Some (Block (record { 0 = n }))) (sym (eqb-true c.0 b.0 same))))
      | false ↦ λ differ. refl
    ] refl
acts_wait plan h (Acted v r i) w b lawful may held other =
    elim (same_run r (Block b)) as (λ t. same_run r (Block b) ≡ t → cond t (acts_done (reverse h) (Block b) + 1) (acts_done (reverse h) (Block b)) ≡ acts_done (reverse h) (Block b)) [
      | true ↦ λ same. absurd (other (held_runs_are_apart plan h lawful v w (Block b) (own_events_are_the_holders plan h lawful (Acted v r i) (Block b) same may) held))
      | false ↦ λ differ. refl
    ] refl
acts_wait plan h (Wake v c) w b lawful may held other = refl
acts_wait plan h (End v c) w b lawful may held other = refl
acts_wait plan h (Deliver v s) w b lawful may held other = refl
acts_wait plan h (DeliverEnd v s) w b lawful may held other = refl
acts_wait plan h (Tick t) w b lawful may held other = refl
acts_wait plan h (Ready s n) w b lawful may held other = refl
acts_wait plan h (FeedEnd s) w b lawful may held other = refl
acts_wait plan h (Misuse v c r i) w b lawful may held other = refl
acts_wait plan h Halt w b lawful may held other = refl
acts_wait plan h (Expire c) w b lawful may held other = refl
acts_wait plan h (Accept c s) w b lawful may held other = refl
acts_wait plan h Shut w b lawful may held other = refl

-- the events of others leave it there
pub end_waits : (plan : PlanView) (h : List Event) (e : Event) (x : Ending) → IsLawful plan h → why plan h e ≡ None → (x.worker ≡ worker_of e → ⊥)
    → IsAtEnd plan h x → IsAtEnd plan (h ++ e ∷ []) x
unfolding has_act_left is_started is_block_cancelled
end_waits plan h e x lawful may other at =
    let past : List Event = reverse h in
    let begun = begun_where_held plan h x.worker x.blk lawful at.held in
    let same : is_cancelled_after plan (e ∷ past) x.blk.0 ≡ is_cancelled_after plan past x.blk.0 = kept_once_begun plan e past x.blk.0 begun in
    record {
      known = at.known;
      held = (what_is_held_after plan h e).others x.worker (ne_eqb (worker_of e) x.worker (λ same. other (sym same))) ∙ at.held;
      done =
          ap (λ (l : List Event). has_act_left plan l (Block x.blk)) (reverse_push h e)
          ∙ ap (λ (v : Bool). is_some (if v then None else act_at plan (Block x.blk) (acts_done (e ∷ past) (Block x.blk)))) same
          ∙ ap (λ (n : ℕ). is_some (if is_cancelled_after plan past x.blk.0 then None else act_at plan (Block x.blk) n))
          (acts_wait plan h e x.worker x.blk lawful may at.held (λ same. other (sym same)))
          ∙ at.done;
      works = ap (λ (l : List Event). is_cancelled_after plan l x.blk.0) (reverse_push h e) ∙ same ∙ at.works;
    }

-- a block at its End has not ended
pub end_is_open : (plan : PlanView) (h : List Event) (x : Ending) → IsLawful plan h → IsAtEnd plan h x → is_ended h x.blk.0 ≡ false
end_is_open plan h x lawful at = (held_cells_wait plan h lawful).bodies x.worker x.blk at.held

-- two Ends of one block are of one worker
pub ends_apart : (plan : PlanView) (h : List Event) (x y : Ending) → IsLawful plan h → IsAtEnd plan h x → IsAtEnd plan h y → x.blk.0 ≡ y.blk.0
    → x.worker ≡ y.worker
ends_apart plan h x y lawful at there same =
    held_runs_are_apart plan h lawful x.worker y.worker (Block y.blk) (at.held ∙ ap (λ (n : ℕ). Some (Block (record { 0 = n }))) same) there.held

-- ## All that are kept back

pub none_kept : (plan : PlanView) (workers : ℕ) (h : List Event) → AreKept plan workers h []
none_kept plan workers h = record {
  at_end = λ i e at. cc;
  below = λ i e at. cc;
  apart = λ i k e f low at. cc;
  chosen = λ one i e at. cc;
}

-- an event of another worker
pub kept_waits : (plan : PlanView) (workers : ℕ) (h : List Event) (e : Event) (ends : List Ending) → IsLawful plan h → why plan h e ≡ None
    → worker_of e < workers → EndOthers (worker_of e) ends → AreKept plan workers h ends → AreKept plan workers (h ++ e ∷ []) ends
kept_waits plan workers h e ends lawful may below others kept = record {
  at_end = λ i x at. end_waits plan h e x lawful may (others i x at) (kept.at_end i x at);
  below = kept.below;
  apart = kept.apart;
  chosen = λ one i x at.
      let low = kept.below i x at in
      absurd (others i x at (omega (arith, one, low, below)));
}

-- one more
pub kept_more : (plan : PlanView) (workers : ℕ) (h : List Event) (x : Ending) (ends : List Ending) → IsAtEnd plan h x → x.worker < workers
    → EndBefore x.worker ends → (workers ≡ 1 → choice_of plan h 0 0 ≡ Some (End x.worker x.blk)) → AreKept plan workers h ends
    → AreKept plan workers h (ends ++ x ∷ [])
kept_more plan workers h x ends here low before choice kept = record {
  at_end = λ i e at.
      ⊎_elim (λ old. kept.at_end i e old) (λ last. subst (IsAtEnd plan h) last.1 here) (at_push ends x i e at);
  below = λ i e at.
      ⊎_elim (λ old. kept.below i e old) (λ last. subst (λ (y : Ending). y.worker < workers) last.1 low) (at_push ends x i e at);
  apart = λ i k e f less at there.
      ⊎_elim
      (λ old_k. ⊎_elim (λ old_i. kept.apart i k e f less old_i old_k)
      (λ last_i. absurd (late ends k f old_k i last_i.0 less)) (at_push ends x i e at))
      (λ last_k. ⊎_elim (λ old_i. subst (λ (y : Ending). e.worker < y.worker) last_k.1 (before i e old_i))
      (λ last_i. absurd (omega (arith, less, last_i.0, last_k.0))) (at_push ends x i e at))
      (at_push ends x k f there);
  chosen = λ one i e at.
      ⊎_elim (λ old. kept.chosen one i e old) (λ last. subst (λ (y : Ending). choice_of plan h 0 0 ≡ Some (End y.worker y.blk)) last.1 (choice one)) (at_push ends x i e at);
}
  where
    late : (ends : List Ending) (k : ℕ) (f : Ending) → slice_get ends k ≡ Some f → (i : ℕ) → i ≡ length ends → i < k → ⊥
    late ends k f at i last less = let within : k < length ends = slice_get_within ends k f at in omega (arith, within, last, less)

-- the first is dropped
pub kept_rest : (plan : PlanView) (workers : ℕ) (h : List Event) (x : Ending) (ends : List Ending) → AreKept plan workers h (x ∷ ends)
    → AreKept plan workers h ends
kept_rest plan workers h x ends kept = record {
  at_end = λ i e at. kept.at_end (suc i) e at;
  below = λ i e at. kept.below (suc i) e at;
  apart = λ i k e f less at there. kept.apart (suc i) (suc k) e f (omega arith) at there;
  chosen = λ one i e at. kept.chosen one (suc i) e at;
}

-- the others are of other workers than the first
pub rest_are_others : (plan : PlanView) (workers : ℕ) (h : List Event) (x : Ending) (ends : List Ending) → AreKept plan workers h (x ∷ ends)
    → EndOthers x.worker ends
rest_are_others plan workers h x ends kept i e at same =
    let less : x.worker < e.worker = kept.apart 0 (suc i) x e (omega arith) refl at in omega (arith, less, same)

-- Ends before a worker are others' than the worker's
pub before_are_others : (w : ℕ) (ends : List Ending) → EndBefore w ends → EndOthers w ends
before_are_others w ends before i e at same = let less : e.worker < w = before i e at in omega (arith, less, same)
