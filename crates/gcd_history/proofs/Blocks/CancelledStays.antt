-- Whether a block is cancelled does not change once it has begun (dispatch_block_cancel(3)).
use Rattle.std.proofs.Common.{◌≡◌, ◌∙◌, ◌++◌, ◌&&◌, ◌||◌, not, ℕ, Bool, true, List, [], ◌∷◌, None, reverse, ap, append-nil, append_assoc, sym}
use Rattle.std.proofs.Math.Bool.{and-false, or-false}
use Rattle.std.proofs.lemmas.Bool.{or_left, or_right}
use Rattle.gcd_plan.specs.PlanView.{PlanView}
use Rattle.gcd_event.specs.declared.event.Event.{Event}
use Rattle.gcd_history.specs.Cancelled.{cancels_block, is_block_cancelled as is_cancelled_after}
use Rattle.gcd_history.specs.Runs.{act_of, starts, is_started as is_started_after}
use Rattle.gcd_history.specs.History.{IsLawful, is_block_cancelled, is_ended, is_started}
use Rattle.gcd_history.proofs.Permitted.Lawful.{lawful_after}
use Rattle.gcd_history.proofs.Lists.{reverse_push}
use Rattle.gcd_history.proofs.Blocks.StartedOnce.{started_from_ended}

-- ## The newest event first

-- an event cancels no block that has begun
pub kept_once_begun : (plan : PlanView) (e : Event) (past : List Event) (b : ℕ) → is_started_after past b ≡ true
    → is_cancelled_after plan (e ∷ past) b ≡ is_cancelled_after plan past b
kept_once_begun plan e past b begun =
    let was : Bool = is_cancelled_after plan past b in
    ap (λ v. was || (cancels_block b (act_of plan e) && not v)) begun
    ∙ ap (λ v. was || v) (and-false (cancels_block b (act_of plan e)))
    ∙ or-false was

-- nor does one that is no act
kept_without_act : (plan : PlanView) (e : Event) (past : List Event) (b : ℕ) → act_of plan e ≡ None
    → is_cancelled_after plan (e ∷ past) b ≡ is_cancelled_after plan past b
kept_without_act plan e past b none =
    ap (λ o. is_cancelled_after plan past b || (cancels_block b o && not (is_started_after past b))) none
    ∙ or-false (is_cancelled_after plan past b)

-- ## The oldest event first

pub cancelled_kept : (plan : PlanView) (h : List Event) (e : Event) (b : ℕ) → is_started h b ≡ true
    → is_block_cancelled plan (h ++ e ∷ []) b ≡ is_block_cancelled plan h b
unfolding is_started is_block_cancelled
cancelled_kept plan h e b begun = ap (λ l. is_cancelled_after plan l b) (reverse_push h e) ∙ kept_once_begun plan e (reverse h) b begun

pub cancelled_without_act : (plan : PlanView) (h : List Event) (e : Event) (b : ℕ) → act_of plan e ≡ None
    → is_block_cancelled plan (h ++ e ∷ []) b ≡ is_block_cancelled plan h b
unfolding is_block_cancelled
cancelled_without_act plan h e b none = ap (λ l. is_cancelled_after plan l b) (reverse_push h e) ∙ kept_without_act plan e (reverse h) b none

-- what is cancelled stays so
pub cancelled_more : (plan : PlanView) (h : List Event) (e : Event) (b : ℕ) → is_block_cancelled plan h b ≡ true
    → is_block_cancelled plan (h ++ e ∷ []) b ≡ true
unfolding is_block_cancelled
cancelled_more plan h e b was =
    rw reverse_push (or_left (is_cancelled_after plan (reverse h) b) (cancels_block b (act_of plan e) && not (is_started_after (reverse h) b)) was)

-- what has begun stays so
begun_more : (h : List Event) (e : Event) (b : ℕ) → is_started h b ≡ true → is_started (h ++ e ∷ []) b ≡ true
unfolding is_started
begun_more h e b begun = rw reverse_push (or_right (starts b e) (is_started_after (reverse h) b) begun)

pub cancelled_kept_on : (plan : PlanView) (h later : List Event) (b : ℕ) → is_started h b ≡ true
    → is_block_cancelled plan (h ++ later) b ≡ is_block_cancelled plan h b
cancelled_kept_on plan h [] b begun = ap (λ l. is_block_cancelled plan l b) (append-nil h)
cancelled_kept_on plan h (e ∷ later) b begun =
    ap (λ l. is_block_cancelled plan l b) (sym (append_assoc h (e ∷ []) later))
    ∙ cancelled_kept_on plan (h ++ e ∷ []) later b (begun_more h e b begun)
    ∙ cancelled_kept plan h e b begun

-- a block that has ended has begun
pub begun_where_ended : (plan : PlanView) (h : List Event) (b : ℕ) → IsLawful plan h → is_ended h b ≡ true → is_started h b ≡ true
unfolding is_ended is_started
begun_where_ended plan h b lawful ended = started_from_ended plan (reverse h) (lawful_after plan h lawful) b ended
