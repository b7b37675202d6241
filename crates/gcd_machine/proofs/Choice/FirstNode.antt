-- The first node of a range that has an event, by the sets of nodes that have to be looked at and of held chains.
use Rattle.std.proofs.Common.{◌≡◌, ℕ, zero, suc, ◌+◌, ◌-◌, ◌<◌, ◌≤◌, Bool, true, false, not, ◌&&◌, ◌||◌, cond, inl, inr, Option, Some, None, refl, ap, sym, ◌∙◌, arith}
use Rattle.std.specs.List.{find, range_with_len, slice_get}
use Rattle.std.specs.Option.{option_map_or, option_or}
use Rattle.std.proofs.lemmas.Bool.{and_parts, cases_Bool, cond-true, cond-false}
use Rattle.std.proofs.lemmas.Option.{none-some, same_Some}
use Rattle.gcd_plan.specs.StartRule.{is_excluded}
use Rattle.gcd_event.specs.declared.event.Event.{Event}
use Rattle.gcd_lists.specs.ListsView.{list_at}
use Rattle.gcd_tree.specs.TreeView.{chain_at}
use Rattle.gcd_drain.specs.Rule.{knowledge_of}
use Rattle.gcd_drain.specs.Held.{is_chain_held_by}
use Rattle.gcd_refinement.specs.MachineView.{MachineView, busy_at}
use Rattle.gcd_machine.specs.Chosen.{deliver_at, may_begin_at, node_at, nodes_at, start_at}

-- ## The first number of a range that passes a test

-- where it lies
pub record IsWithin (a n x : ℕ) : Type 0 where
  pub from : a ≤ x
  pub to : x < a + n

pub found_within : (p : ℕ → Bool) (a n x : ℕ) → find p (range_with_len a n) ≡ Some x → IsWithin a n x
found_within p a zero x found = absurd (none-some x found)
found_within p a (suc n) x found =
    elim (cases_Bool (p a)) [
      | inl passes ↦
          let here : a ≡ x = same_Some a x (sym (cond-true (p a) _ _ passes) ∙ found) in
          record { from = omega arith; to = omega arith }
      | inr fails ↦
          let later = found_within p (a + 1) n x (sym (cond-false (p a) _ _ fails) ∙ found) in
          record { from = omega (arith, later.from); to = omega (arith, later.to) }
    ]

-- below an earlier end

pub below_none : (p : ℕ → Bool) (a n more : ℕ) → n ≤ more → find p (range_with_len a more) ≡ None → find p (range_with_len a n) ≡ None
below_none p a zero more order none = refl
below_none p a (suc n) zero order none = absurd (omega arith)
below_none p a (suc n) (suc more) order none =
    elim (cases_Bool (p a)) [
      | inl passes ↦ absurd (none-some a (sym none ∙ cond-true (p a) _ _ passes))
      | inr fails ↦
          cond-false (p a) _ _ fails ∙ below_none p (a + 1) n more (omega arith) (sym (cond-false (p a) _ _ fails) ∙ none)
    ]

pub below_some : (p : ℕ → Bool) (a n more x : ℕ) → n ≤ more → find p (range_with_len a more) ≡ Some x → x < a + n → find p (range_with_len a n) ≡ Some x
below_some p a zero more x order found low = let here = found_within p a more x found in absurd (omega (arith, here.from))
below_some p a (suc n) zero x order found low = absurd (omega arith)
below_some p a (suc n) (suc more) x order found low =
    elim (cases_Bool (p a)) [
      | inl passes ↦ cond-true (p a) _ _ passes ∙ (sym (cond-true (p a) _ _ passes) ∙ found)
      | inr fails ↦
          cond-false (p a) _ _ fails ∙ below_some p (a + 1) n more x (omega arith) (sym (cond-false (p a) _ _ fails) ∙ found) (omega arith)
    ]

pub below_past : (p : ℕ → Bool) (a n more x : ℕ) → n ≤ more → find p (range_with_len a more) ≡ Some x → a + n ≤ x → find p (range_with_len a n) ≡ None
below_past p a zero more x order found high = refl
below_past p a (suc n) zero x order found high = absurd (omega arith)
below_past p a (suc n) (suc more) x order found high =
    elim (cases_Bool (p a)) [
      | inl passes ↦ absurd (let here : a ≡ x = same_Some a x (sym (cond-true (p a) _ _ passes) ∙ found) in omega arith)
      | inr fails ↦
          cond-false (p a) _ _ fails ∙ below_past p (a + 1) n more x (omega arith) (sym (cond-false (p a) _ _ fails) ∙ found) (omega arith)
    ]

-- ## The first event

-- nothing begins on a node that the test passes over
passed_over : (m : MachineView) (w n : ℕ) → may_begin_at m n ≡ false → cond (busy_at m n) (node_at m w n) None ≡ None
passed_over m w n fails =
    elim (cases_Bool (busy_at m n)) [
      | inl busy ↦
          let held : is_chain_held_by m.tree m.holds n ≡ true = held_from (is_chain_held_by m.tree m.holds n) (sym (ap (λ v. v && not (is_chain_held_by m.tree m.holds n)) busy) ∙ fails) in
          ap (λ v. cond v (node_at m w n) None) busy ∙ shut (is_chain_held_by m.tree m.holds n) held
      | inr idle ↦ ap (λ v. cond v (node_at m w n) None) idle
    ]
  where
    held_from : (held : Bool) → not held ≡ false → held ≡ true
    held_from true h = refl
    held_from false h = cc

    begins : Option Event
    begins = option_or (option_map_or (start_at m w n) (slice_get (list_at m.lists n) 0) None) (deliver_at m w n)

    shut : (held : Bool) → held ≡ true → cond (held || is_excluded (knowledge_of m.drains m.tree m.holds) (chain_at m.tree n)) None begins ≡ None
    shut true h = refl
    shut false h = cc

-- where no object of the range passes the test, none has an event
pub nodes_none : (m : MachineView) (w n count : ℕ) → find (may_begin_at m) (range_with_len n count) ≡ None → nodes_at m w n count ≡ None
nodes_none m w n zero none = refl
nodes_none m w n (suc count) none =
    elim (cases_Bool (may_begin_at m n)) [
      | inl passes ↦ absurd (none-some n (sym none ∙ cond-true (may_begin_at m n) _ _ passes))
      | inr fails ↦
          ap (λ o. option_or o (nodes_at m w (n + 1) count)) (passed_over m w n fails)
          ∙ nodes_none m w (n + 1) count (sym (cond-false (may_begin_at m n) _ _ fails) ∙ none)
    ]

-- where one does, the first that passes it comes first
pub nodes_more : (m : MachineView) (w n count o : ℕ) → find (may_begin_at m) (range_with_len n count) ≡ Some o
    → nodes_at m w n count ≡ option_or (node_at m w o) (nodes_at m w (o + 1) (n + count - (o + 1)))
nodes_more m w n zero o found = absurd (none-some o found)
nodes_more m w n (suc count) o found =
    elim (cases_Bool (may_begin_at m n)) [
      | inl passes ↦
          let here : n ≡ o = same_Some n o (sym (cond-true (may_begin_at m n) _ _ passes) ∙ found) in
          let left : n + suc count - (o + 1) ≡ count = omega arith in
          let busy = (and_parts (busy_at m n) (not (is_chain_held_by m.tree m.holds n)) passes).0 in
          ap (λ v. option_or (cond v (node_at m w n) None) (nodes_at m w (n + 1) count)) busy
          ∙ (ap (λ k. option_or (node_at m w k) (nodes_at m w (k + 1) count)) here
          ∙ ap (λ k. option_or (node_at m w o) (nodes_at m w (o + 1) k)) (sym left))
      | inr fails ↦
          let left : n + 1 + count - (o + 1) ≡ n + suc count - (o + 1) = omega arith in
          ap (λ x. option_or x (nodes_at m w (n + 1) count)) (passed_over m w n fails)
          ∙ (nodes_more m w (n + 1) count o (sym (cond-false (may_begin_at m n) _ _ fails) ∙ found)
          ∙ ap (λ k. option_or (node_at m w o) (nodes_at m w (o + 1) k)) left)
    ]

-- the same up to an end, for a step of a loop
pub nodes_step : (m : MachineView) (w n end o : ℕ) → n ≤ end → find (may_begin_at m) (range_with_len n (end - n)) ≡ Some o
    → nodes_at m w n (end - n) ≡ option_or (node_at m w o) (nodes_at m w (o + 1) (end - (o + 1)))
nodes_step m w n end o order found =
    let left : n + (end - n) - (o + 1) ≡ end - (o + 1) = omega arith in
    nodes_more m w n (end - n) o found ∙ ap (λ k. option_or (node_at m w o) (nodes_at m w (o + 1) k)) left
