-- What is left of a right list of held chains after a change of one object: it is right but for that object, as `rehold` asks.
use Rattle.std.proofs.Common.{◌≡◌, ◌≢◌, ℕ, ◌<◌, ◌==◌, Bool, true, false, not, ◌&&◌, ◌||◌, List, length, get_or, Option, Some, None, is_some, refl, ap, sym, ◌∙◌, subst, length-set, get_or-set_other, slice_index_or}
use Rattle.gcd_plan.specs.declared.numbers.Obj.{Obj}
use Rattle.gcd_tree.specs.TreeView.{TreeView, target_at, is_moving_at, with_target, with_request, with_open, settled, settled_to}
use Rattle.gcd_tree.specs.IsTree.{IsTree}
use Rattle.gcd_hold.specs.HoldsView.{HoldsView, hold_at, is_active_at, with_hold, with_active}
use Rattle.gcd_drain.specs.Rule.{is_free_by}
use Rattle.gcd_drain.specs.Held.{AreHeld, AreHeldBut}
use Rattle.gcd_drain.proofs.Holding.{held_by_target}

-- another object o, as long as each other object has its target and is free as before
held_after : (held : List Bool) (old new : TreeView) (before after : HoldsView) (o : ℕ) → IsTree old → AreHeld held old before
    → length new.targets ≡ length old.targets → ((p : ℕ) → p ≢ o → target_at new p ≡ target_at old p)
    → ((p : ℕ) → p ≢ o → is_free_by new after p ≡ is_free_by old before p) → AreHeldBut held new after o
held_after held old new before after o ok are long targets free = record {
  as_many = are.as_many ∙ sym long;
  others = λ p lt other.
      held_by_target old before ok held are p (subst (λ n. p < n) long lt)
      ∙ ap (λ b. not b || (not (p == 0) && get_or held (target_at old p) false)) (sym (free p other))
      ∙ ap (λ q. not (is_free_by new after p) || (not (p == 0) && get_or held q false)) (sym (targets p other));
}

module _ (held : List Bool) (tree : TreeView) (holds : HoldsView) (are : AreHeld held tree holds) where
  -- a run that opens or closes changes nothing
  pub held_with_open : (o n : ℕ) → AreHeld held (with_open tree o n) holds
  held_with_open o n = record { as_many = are.as_many; exact = are.exact }

  -- another hold: a suspend, or a resume of what was suspended (dispatch_suspend(3), dispatch_resume(3))
  pub held_with_hold : IsTree tree → (o n : ℕ) → AreHeldBut held tree (with_hold holds o n) o
  held_with_hold ok o n =
      held_after held tree tree holds (with_hold holds o n) o ok are refl (λ p _. refl)
      (λ p other. ap (λ h. is_active_at holds p && (h == 0 && not (is_moving_at tree p))) (get_or-set_other holds.holds o p n 0 other))

  -- an object becomes active (dispatch_activate(3), dispatch_resume(3))
  pub held_with_active : IsTree tree → (o : ℕ) → AreHeldBut held tree (with_active holds o) o
  held_with_active ok o =
      held_after held tree tree holds (with_active holds o) o ok are refl (λ p _. refl)
      (λ p other. ap (λ b. b && (hold_at holds p == 0 && not (is_moving_at tree p))) (get_or-set_other holds.active o p true false other))

  -- another target at once (dispatch_set_target_queue(3))
  pub held_with_target : IsTree tree → (o : ℕ) (t : Obj) → AreHeldBut held (with_target tree o t) holds o
  held_with_target ok o t =
      held_after held tree (with_target tree o t) holds holds o ok are (length-set tree.targets o t)
      (λ p other. ap (λ x. x.0) (get_or-set_other tree.targets o p t (record { 0 = 0 }) other)) (λ p _. refl)

  -- another request (dispatch_set_target_queue(3))
  pub held_with_request : IsTree tree → (o : ℕ) (r : Option Obj) → AreHeldBut held (with_request tree o r) holds o
  held_with_request ok o r =
      held_after held tree (with_request tree o r) holds holds o ok are refl (λ p _. refl)
      (λ p other. ap (λ q. is_active_at holds p && (hold_at holds p == 0 && not (is_some q))) (get_or-set_other tree.requests o p r None other))

  held_settled_to : IsTree tree → (o n : ℕ) (r : Option Obj) → AreHeldBut held (settled_to (with_open tree o n) o r) holds o
  held_settled_to ok o n None = held_after held tree (with_open tree o n) holds holds o ok are refl (λ p _. refl) (λ p _. refl)
  held_settled_to ok o n (Some t) =
      held_after held tree (with_request (with_target (with_open tree o n) o t) o None) holds holds o ok are (length-set tree.targets o t)
      (λ p other. ap (λ x. x.0) (get_or-set_other tree.targets o p t (record { 0 = 0 }) other))
      (λ p other. ap (λ q. is_active_at holds p && (hold_at holds p == 0 && not (is_some q))) (get_or-set_other tree.requests o p None None other))

  -- the last run on an object closes, so that its request is its target (dispatch_set_target_queue(3))
  pub held_settled : IsTree tree → (o n : ℕ) → AreHeldBut held (settled (with_open tree o n) o) holds o
  held_settled ok o n = held_settled_to ok o n (slice_index_or tree.requests o None)
