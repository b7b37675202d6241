-- How a block stands, case by case, and one block more.
use Rattle.std.proofs.Common.{◌≡◌, ℕ, ◌+◌, List, [], ◌∷◌, ◌++◌, true, false, if◌then◌else◌, map, ap, ◌∙◌, zero-add}
use Rattle.std.specs.List.{range_with_len}
use Rattle.std.proofs.lemmas.List.{map-append}
use Rattle.gcd_facts.proofs.Ranges.{range_more}
use Rattle.gcd_plan.specs.PlanView.{PlanView}
use Rattle.gcd_event.specs.declared.event.Event.{Event}
use Rattle.gcd_history.specs.History.{is_started, is_submitted}
use Rattle.gcd_timeline.specs.declared.standing.Standing.TheVariants.{Started, Waiting, Unsubmitted}
use Rattle.gcd_timeline.specs.Standings.{standing_of}

pub that_started : (plan : PlanView) (h : List Event) (b : ℕ) → is_started h b ≡ true → standing_of plan h b ≡ Started
that_started plan h b started = ap (λ s. if s then Started else if is_submitted plan h b then Waiting else Unsubmitted) started

pub that_waits : (plan : PlanView) (h : List Event) (b : ℕ) → is_started h b ≡ false → is_submitted plan h b ≡ true → standing_of plan h b ≡ Waiting
that_waits plan h b started submitted =
    ap (λ s. if s then Started else if is_submitted plan h b then Waiting else Unsubmitted) started
    ∙ ap (λ s. if s then Waiting else Unsubmitted) submitted

pub that_is_not_submitted : (plan : PlanView) (h : List Event) (b : ℕ) → is_started h b ≡ false → is_submitted plan h b ≡ false → standing_of plan h b ≡ Unsubmitted
that_is_not_submitted plan h b started submitted =
    ap (λ s. if s then Started else if is_submitted plan h b then Waiting else Unsubmitted) started
    ∙ ap (λ s. if s then Waiting else Unsubmitted) submitted

-- what a function gives for the numbers of a range, one number on
pub map_more : {A : Type 0} (f : ℕ → A) (n : ℕ) → map f (range_with_len 0 (n + 1)) ≡ map f (range_with_len 0 n) ++ f n ∷ []
map_more f n =
    ap (map f) (range_more 0 n)
    ∙ map-append f (range_with_len 0 n) ((0 + n) ∷ [])
    ∙ ap (λ k. map f (range_with_len 0 n) ++ f k ∷ []) (zero-add n)
