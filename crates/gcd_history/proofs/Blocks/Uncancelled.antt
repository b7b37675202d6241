-- A block that the plan makes, for an intake or a strip, is never cancelled.
use Rattle.std.proofs.Common.{◌≡◌, ℕ, ◌==◌, true, false, not, ◌&&◌, List, [], ◌∷◌, reverse, Some, None, inl, inr, refl, ap, sym, ◌∙◌}
use Rattle.std.proofs.lemmas.Bool.{and_parts, false≢true, eqb-true, cases_Bool}
use Rattle.gcd_plan.specs.Made.{is_made}
use Rattle.gcd_plan.specs.PlanView.{PlanView}
use Rattle.gcd_plan.specs.Validity.{IsPlan, is_act}
use Rattle.gcd_plan.specs.declared.act.Act.{Act}
use Rattle.gcd_plan.specs.declared.act.Act.TheVariants.{CancelBlock}
use Rattle.gcd_event.specs.declared.event.Event.{Event}
use Rattle.gcd_history.specs.Cancelled.{cancels_block, is_block_cancelled as is_cancelled_after}
use Rattle.gcd_history.specs.History.{is_block_cancelled}
use Rattle.gcd_history.specs.Runs.{act_of}
use Rattle.gcd_history.proofs.Blocks.SubmittedOnNodes.{recorded_fits}

-- no act of a valid plan cancels it
uncancelled_by : (plan : PlanView) (act : Act) (b : ℕ) → is_act plan act ≡ true → is_made plan b ≡ true → cancels_block b (Some act) ≡ false
uncancelled_by plan (CancelBlock c) b fits made =
    elim (cases_Bool (c.0 == b)) [
      | inl same ↦
          let apart = (and_parts _ (not (is_made plan c.0)) (and_parts _ (_ && not (is_made plan c.0)) fits).1).1 in
          let is : is_made plan c.0 ≡ true = ap (is_made plan) (eqb-true c.0 b same) ∙ made in
          absurd (false≢true (sym (ap not is) ∙ apart))
      | inr other ↦ other
    ]
uncancelled_by plan _ b fits made = refl

uncancelled_at : (plan : PlanView) (e : Event) (b : ℕ) → IsPlan plan → is_made plan b ≡ true → cancels_block b (act_of plan e) ≡ false
uncancelled_at plan e b valid made =
    elim (act_of plan e) as (λ o. act_of plan e ≡ o → cancels_block b o ≡ false) [
      | None ↦ λ at. refl
      | Some act ↦ λ at. uncancelled_by plan act b (recorded_fits plan e act valid at) made
    ] refl

uncancelled_after : (plan : PlanView) (past : List Event) (b : ℕ) → IsPlan plan → is_made plan b ≡ true → is_cancelled_after plan past b ≡ false
uncancelled_after plan [] b valid made = refl
uncancelled_after plan (e ∷ past) b valid made = rw (uncancelled_after plan past b valid made, uncancelled_at plan e b valid made) refl

pub uncancelled : (plan : PlanView) (h : List Event) (b : ℕ) → IsPlan plan → is_made plan b ≡ true → is_block_cancelled plan h b ≡ false
unfolding is_block_cancelled
uncancelled plan h b valid made = uncancelled_after plan (reverse h) b valid made
