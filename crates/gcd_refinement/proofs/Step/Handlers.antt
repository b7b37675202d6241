-- What handlers have made and got after an event.
use Rattle.std.proofs.Common.{◌≡◌, ℕ, ◌+◌, ◌==◌, true, false, ◌&&◌, cond, List, ◌∷◌, refl, ap, sym, ◌∙◌, arith, ⊎_elim, eq-eqb, ne_eqb}
use Rattle.std.proofs.lemmas.Bool.{and_parts, cases_eq}
use Rattle.gcd_plan.specs.PlanView.{PlanView}
use Rattle.gcd_plan.specs.Kinds.{is_source, is_source_kind}
use Rattle.gcd_plan.specs.declared.numbers.Run.TheVariants.{Block, Source}
use Rattle.gcd_plan.proofs.Within.{has_object}
use Rattle.gcd_event.specs.declared.event.Event.{Event}
use Rattle.gcd_event.specs.declared.event.Event.TheVariants.{Act as Acted, Deliver}
use Rattle.gcd_history.specs.Runs.{acts_done}
use Rattle.gcd_history.specs.Sources.{pending, last_data}
use Rattle.gcd_history.specs.Permitted.{is_index, IsLawful, is_worker, is_run_of}
use Rattle.gcd_history.proofs.Permitted.Reasons.{allowed}
use Rattle.gcd_refinement.specs.MachineView.{MachineView, handler_at, undelivered}
use Rattle.gcd_refinement.specs.declared.progress.HandlerProgress.{HandlerProgress}
use Rattle.gcd_refinement.specs.Shape.{OwnFit}
use Rattle.gcd_refinement.specs.Ties.{SourcesAre, HandlersAre}
use Rattle.gcd_refinement.specs.After.{pending_in, delivered, after}
use Rattle.gcd_refinement.proofs.Lists.Writes.{entry_set}

pub handlers_step : (plan : PlanView) (past : List Event) (e : Event) (v : MachineView) → IsLawful plan (e ∷ past) → OwnFit plan v → SourcesAre plan past v → HandlersAre plan past v → HandlersAre plan (e ∷ past) (after plan v e)
handlers_step plan past (Deliver w o) v lawful own sources ties =
    let low = has_object is_source_kind plan o.0 (and_parts (is_worker w) (is_source plan o.0) (allowed plan past (Deliver w o) lawful.1).known).1 in
    let long = own.handlers in
    let write : (s : ℕ) → handler_at (after plan v (Deliver w o)) s ≡ cond (o.0 == s) (delivered v o.0) (handler_at v s) = λ s. entry_set v.handlers o.0 s (delivered v o.0) undelivered (omega (arith, low, long)) in
    let value : pending_in v o.0 ≡ pending plan past o.0 = let sum = sources.pending o.0 in let less = sources.taken o.0 in omega (arith, sum, less) in
    record {
      done = λ s.
          ap (λ (x : HandlerProgress). x.done) (write s)
          ∙ elim (o.0 == s) as (λ u. (cond u (delivered v o.0) (handler_at v s)).done ≡ cond u 0 (acts_done past (Source (record { 0 = s })))) [ true ↦ refl | false ↦ ties.done s ];
      given = λ s.
          ap (λ (x : HandlerProgress). x.given) (write s)
          ∙ ⊎_elim
          (λ (same : o.0 ≡ s).
          let t = eq-eqb o.0 s same in
          ap (λ u. (cond u (delivered v o.0) (handler_at v s)).given) t
          ∙ (value ∙ (ap (pending plan past) same ∙ ap (λ u. cond u (pending plan past s) (last_data plan past s)) (sym t))))
          (λ (other : o.0 ≡ s → ⊥).
          let t = ne_eqb o.0 s other in
          ap (λ u. (cond u (delivered v o.0) (handler_at v s)).given) t
          ∙ (ties.given s ∙ ap (λ u. cond u (pending plan past s) (last_data plan past s)) (sym t)))
          (cases_eq o.0 s);
    }
handlers_step plan past (Acted w (Source o) i) v lawful own sources ties =
    let low = has_object is_source_kind plan o.0 (and_parts (is_run_of plan (Source o)) (is_index i) (and_parts (is_worker w) (is_run_of plan (Source o) && is_index i) (allowed plan past (Acted w (Source o) i) lawful.1).known).1).0 in
    let long = own.handlers in
    let next : HandlerProgress = record (handler_at v o.0) { done = (handler_at v o.0).done + 1 } in
    let write : (s : ℕ) → handler_at (after plan v (Acted w (Source o) i)) s ≡ cond (o.0 == s) next (handler_at v s) = λ s. entry_set v.handlers o.0 s next undelivered (omega (arith, low, long)) in
    record {
      done = λ s.
          ap (λ (x : HandlerProgress). x.done) (write s)
          ∙ ⊎_elim
          (λ (same : o.0 ≡ s).
          let t = eq-eqb o.0 s same in
          let d = acts_done past (Source (record { 0 = s })) in
          ap (λ u. (cond u next (handler_at v s)).done) t
          ∙ (ap (λ n. (handler_at v n).done + 1) same ∙ (ap (λ n. n + 1) (ties.done s) ∙ ap (λ u. cond u (d + 1) d) (sym t))))
          (λ (other : o.0 ≡ s → ⊥).
          let t = ne_eqb o.0 s other in
          let d = acts_done past (Source (record { 0 = s })) in
          ap (λ u. (cond u next (handler_at v s)).done) t
          ∙ (ties.done s ∙ ap (λ u. cond u (d + 1) d) (sym t)))
          (cases_eq o.0 s);
      given = λ s.
          ap (λ (x : HandlerProgress). x.given) (write s)
          ∙ ⊎_elim
          (λ (same : o.0 ≡ s). ap (λ u. (cond u next (handler_at v s)).given) (eq-eqb o.0 s same) ∙ (ap (λ n. (handler_at v n).given) same ∙ ties.given s))
          (λ (other : o.0 ≡ s → ⊥). ap (λ u. (cond u next (handler_at v s)).given) (ne_eqb o.0 s other) ∙ ties.given s)
          (cases_eq o.0 s);
    }
handlers_step plan past (Acted w (Block b) i) v lawful own sources ties = record { done = ties.done; given = ties.given }
handlers_step plan past e v lawful own sources ties = record { done = ties.done; given = ties.given }
