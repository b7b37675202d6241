-- The values and jobs of a run, a step on.
use Rattle.std.proofs.Common.{◌≡◌, ◌<◌, ◌+◌, ◌∙◌, ℕ, false, List, [], ◌∷◌, ◌++◌, length, Option, Some, None, ap, sym, subst, arith, refl, ⊎_elim}
use Rattle.std.specs.Prelude.{Vec, slice_get}
use Rattle.std.specs.declared.alloc.Global.{Global}
use Rattle.std.proofs.lemmas.Bool.{and_parts, ltb-true}
use Rattle.std.proofs.lemmas.List.{length-set}
use Rattle.std.proofs.lemmas.Option.{same_Some}
use Rattle.gcd_plan.specs.PlanView.{PlanView}
use Rattle.gcd_plan.specs.declared.kind.Kind.{Kind}
use Rattle.gcd_event.specs.declared.event.Event.{Event}
use Rattle.gcd_event.specs.declared.event.Event.TheVariants.{End}
use Rattle.gcd_history.specs.History.{IsLawful, is_block_cancelled}
use Rattle.gcd_history.specs.Permitted.{is_worker, has_block}
use Rattle.gcd_machine.proofs.Views.Calls.{lawful_stands}
use Rattle.gcd_turn.proofs.HistoryMore.{unhalted_before}
use Rattle.gcd_rounds.specs.declared.kept.Ending.{Ending}
use Rattle.gcd_rounds.specs.declared.kept.Kept.{Kept}
use Rattle.gcd_rounds.specs.declared.running.Running.{Running}
use Rattle.gcd_rounds.specs.Kept.{EndBefore, HaveJobs, IsAtEnd, WasKept, endings_of}
use Rattle.gcd_rounds.specs.Running.{AreReady, GoesOn, IsNext, IsRun, Waits}
use Rattle.gcd_rounds.proofs.AtPlaces.{at_push}
use Rattle.gcd_rounds.proofs.EndsKept.{end_is_next, end_is_open, end_may_come, ends_apart, kept_more, none_kept}
use Rattle.gcd_rounds.proofs.Given.{wait_keep, wait_over}

endings_push : {J : Type 0} (kept : List (Kept J)) (k : Kept J) → endings_of (kept ++ k ∷ []) ≡ endings_of kept ++ k.ending ∷ []
endings_push [] k = refl
endings_push (x ∷ xs) k = ap (λ (es : List Ending). x.ending ∷ es) (endings_push xs k)

-- a block at its End is one of the plan's
pub end_within : (plan : PlanView) (h : List Event) (x : Ending) → IsAtEnd plan h x → x.blk.0 < length plan.blocks
end_within plan h x at = ltb-true _ _ (and_parts (is_worker x.worker) (has_block plan x.blk.0) at.known).1

module _ {J H : Type 0} (gives : J → ℕ → ℕ → Type 0) (kind : H → Kind) (times total : H → ℕ) (plan : PlanView) where
  -- where the run is over no End is recorded any more
  pub ready_over : (r : Running J H) (ends : List Ending) → (GoesOn r.terms.most r.journal.items → ⊥) → AreReady gives plan r ends → AreReady gives plan r []
  ready_over r ends over ready = record {
    given = ready.given;
    count = ready.count;
    wait = wait_over r.terms.most plan r.terms.jobs.value.items r.journal.items r.jobs.items [] over;
    kept = none_kept plan r.terms.workers r.journal.items;
  }

  -- the first End that was kept back comes next
  pub end_comes_next : (r : Running J H) (x : Ending) (rest : List Ending) → IsRun kind times total plan r → GoesOn r.terms.most r.journal.items
      → AreReady gives plan r (x ∷ rest) → IsNext r.terms.most plan r.terms.workers r.journal.items (End x.worker x.blk)
  end_comes_next r x rest run on ready = record {
    permitted = end_may_come plan r.journal.items x (lawful_stands r.machine plan r.journal.items run.stands) on.unhalted (ready.kept.at_end 0 x refl);
    room = on.room;
    below = ready.kept.below 0 x refl;
    chosen = λ one work. ready.kept.chosen one 0 x refl;
    no_job = refl;
  }

  -- and its block has a value
  pub end_has_place : (r : Running J H) (x : Ending) (rest : List Ending) → AreReady gives plan r (x ∷ rest) → x.blk.0 < length r.values.items
  end_has_place r x rest ready =
      let low = end_within plan r.journal.items x (ready.kept.at_end 0 x refl) in
      let count = ready.given.count in
      omega (arith, low, count)

  -- ## An End that comes next

  at_end : (r : Running J H) (x : Ending) → IsNext r.terms.most plan r.terms.workers r.journal.items (End x.worker x.blk) → IsRun kind times total plan r
      → is_block_cancelled plan r.journal.items x.blk.0 ≡ false → IsAtEnd plan r.journal.items x
  at_end r x next run works = end_is_next plan r.journal.items x (lawful_stands r.machine plan r.journal.items run.stands) next.permitted works

  -- the job of its block lies where it was handed in
  pub job_waits : (r : Running J H) (x : Ending) (ends : List Ending) → IsNext r.terms.most plan r.terms.workers r.journal.items (End x.worker x.blk)
      → IsRun kind times total plan r → is_block_cancelled plan r.journal.items x.blk.0 ≡ false → AreReady gives plan r ends → EndBefore x.worker ends
      → Waits r.terms.jobs.value.items r.jobs.items x.blk.0
  job_waits r x ends next run works ready before =
      let h : List Event = r.journal.items in
      let lawful : IsLawful plan h = lawful_stands r.machine plan h run.stands in
      let at = at_end r x next run works in
      ready.wait (record { unhalted = unhalted_before plan h (End x.worker x.blk) next.permitted; room = next.room }) x.blk.0
      (end_within plan h x at) (end_is_open plan h x lawful at)
      (λ is.
      let same : is.ending.worker ≡ x.worker = ends_apart plan h is.ending x lawful (ready.kept.at_end is.place is.ending is.at) at is.of in
      let less : is.ending.worker < x.worker = before is.place is.ending is.at in
      omega (arith, same, less))

  -- it is kept back with this job
  pub ready_kept : (r : Running J H) (later : Vec (Option J) Global) (x : Ending) (kept more : List (Kept J))
      → WasKept r.jobs.items later.items x kept more → IsNext r.terms.most plan r.terms.workers r.journal.items (End x.worker x.blk)
      → IsRun kind times total plan r → is_block_cancelled plan r.journal.items x.blk.0 ≡ false → AreReady gives plan r (endings_of kept) → EndBefore x.worker (endings_of kept)
      → AreReady gives plan (record r { jobs = later }) (endings_of more)
  ready_kept r later x kept more was next run works ready before =
      let h : List Event = r.journal.items in
      let long : length later.items ≡ length r.jobs.items = ap length was.taken ∙ length-set r.jobs.items x.blk.0 None in
      subst (AreReady gives plan (record r { jobs = later }))
      (sym (ap endings_of was.added ∙ endings_push kept (record { ending = x; job = was.job })))
      (record {
        given = ready.given;
        count = long ∙ ready.count;
        wait = rw was.taken (wait_keep r.terms.most plan r.terms.jobs.value.items h x r.jobs.items (endings_of kept) ready.wait);
        kept = kept_more plan r.terms.workers h x (endings_of kept) (at_end r x next run works) next.below before (λ one. next.chosen one refl) ready.kept;
      })

  pub jobs_kept : (r : Running J H) (later : Vec (Option J) Global) (x : Ending) (kept more : List (Kept J))
      → WasKept r.jobs.items later.items x kept more → IsNext r.terms.most plan r.terms.workers r.journal.items (End x.worker x.blk)
      → IsRun kind times total plan r → is_block_cancelled plan r.journal.items x.blk.0 ≡ false → AreReady gives plan r (endings_of kept) → EndBefore x.worker (endings_of kept)
      → HaveJobs r.terms.jobs.value.items kept → HaveJobs r.terms.jobs.value.items more
  jobs_kept r later x kept more was next run works ready before jobs =
      let waits = job_waits r x (endings_of kept) next run works ready before in
      let same : waits.job ≡ was.job = same_Some waits.job was.job (same_Some (Some waits.job) (Some was.job) (sym waits.at ∙ was.at)) in
      let it : Kept J = record { ending = x; job = was.job } in
      subst (HaveJobs r.terms.jobs.value.items) (sym was.added) (λ i k at.
      ⊎_elim (λ old. jobs i k old)
      (λ last. subst (λ (y : Kept J). slice_get r.terms.jobs.value.items y.ending.blk.0 ≡ Some y.job) last.1 (waits.job_of ∙ ap Some same))
      (at_push kept it i k at))

  pub before_kept : (jobs later : List (Option J)) (x : Ending) (kept more : List (Kept J)) → WasKept jobs later x kept more
      → EndBefore x.worker (endings_of kept) → EndBefore (x.worker + 1) (endings_of more)
  before_kept jobs later x kept more was before =
      subst (EndBefore (x.worker + 1))
      (sym (ap endings_of was.added ∙ endings_push kept (record { ending = x; job = was.job })))
      (λ i e at.
      ⊎_elim (λ old. let less : e.worker < x.worker = before i e old in omega (arith, less))
      (λ last. subst (λ (y : Ending). y.worker < x.worker + 1) last.1 (omega arith))
      (at_push (endings_of kept) x i e at))
