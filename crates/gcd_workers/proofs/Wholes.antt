-- What worker 0 has seen of a run that has ended does not grow.
use Rattle.std.proofs.Common.{◌≡◌, ◌≤◌, ◌∙◌, ℕ, List, length, take, ap, subst, sym}
use Rattle.gcd_event.specs.declared.event.Event.{Event}
use Rattle.gcd_history.specs.History.{IsLawful}
use Rattle.gcd_machine.proofs.Views.Calls.{lawful_stands}
use Rattle.gcd_history.specs.Ends.{HasEnded}
use Rattle.gcd_history.specs.Team.{of_worker}
use Rattle.gcd_history.proofs.HeldRuns.OwnEvents.{ended_histories_are_whole}
use Rattle.gcd_row.specs.Passes.{Ahead, IsGathered, IsPassOf, terms_of, view, machine_of}
use Rattle.gcd_row.specs.Shapes.{Shape}
use Rattle.gcd_row.specs.declared.board.RowBoard.{RowBoard}
use Rattle.gcd_row.specs.declared.pass.RowPass.{RowPass}
use Rattle.gcd_row.specs.declared.view.Terms.{Terms}
use Rattle.gcd_row.specs.declared.view.View.{View}

module _ {S : Type 0} (shape : S → Shape) (gives : S → ℕ → Type 0) where
  pub lawful_pass : (b : RowBoard S) (p : RowPass S) → IsPassOf shape gives b p → IsLawful (terms_of b).plan (view p).seen
  lawful_pass b p pass =
      subst (λ (t : Terms S). IsLawful t.plan (view p).seen) pass.terms (lawful_stands (machine_of p) (view p).terms.plan (view p).seen pass.stands)

  -- and has no more events than the board takes
  pub few_pass : (b : RowBoard S) (p : RowPass S) → IsPassOf shape gives b p → length (view p).seen ≤ (terms_of b).limits.most
  few_pass b p pass = subst (λ (t : Terms S). length (view p).seen ≤ t.limits.most) pass.terms pass.few

  pub seen_whole : (b : RowBoard S) (v : View S) (p : RowPass S) → IsPassOf shape gives b p → v.worker ≡ 0
      → HasEnded (terms_of b).limits.most (terms_of b).plan v.seen → Ahead v (view p).seen → (view p).seen ≡ v.seen
  seen_whole b v p pass zero ended ahead =
      ended_histories_are_whole (terms_of b).limits.most (terms_of b).plan (view p).seen v.seen ended (lawful_pass b p pass) (few_pass b p pass) ahead.more
      (subst (λ (k : ℕ). of_worker k (view p).seen ≡ of_worker k v.seen) zero ahead.own)

  -- a run that has ended has ended for a pass that has seen the same
  pub ended_of : (b : RowBoard S) (p : RowPass S) → IsPassOf shape gives b p → (h : List Event) → (view p).seen ≡ h
      → HasEnded (terms_of b).limits.most (terms_of b).plan h → HasEnded (view p).terms.limits.most (view p).terms.plan (view p).seen
  ended_of b p pass h same ended =
      subst (λ (t : Terms S). HasEnded t.limits.most t.plan (view p).seen) (sym pass.terms)
      (subst (λ (l : List Event). HasEnded (terms_of b).limits.most (terms_of b).plan l) (sym same) ended)

-- what was gathered stays so for a view that has seen and passed the same
pub gathered_same : {S : Type 0} (v w : View S) (journal : List Event) → w.seen ≡ v.seen → w.marks.passed ≡ v.marks.passed
    → IsGathered v journal → IsGathered w journal
gathered_same v w journal seen passed is = is ∙ ap (take v.marks.passed) (sym seen) ∙ ap (λ (n : ℕ). take n w.seen) (sym passed)
