-- A cancelled block makes no act, and its End may follow its Start at once.
use Rattle.std.proofs.Common.{◌≡◌, ℕ, true, false, not, cond, List, [], ◌∷◌, Some, None, is_some, refl, ap, ◌∙◌}
use Rattle.std.proofs.lemmas.Bool.{or_left}
use Rattle.gcd_plan.specs.PlanView.{PlanView}
use Rattle.gcd_plan.specs.declared.numbers.Blk.{Blk}
use Rattle.gcd_plan.specs.declared.numbers.Run.TheVariants.{Block}
use Rattle.gcd_plan.specs.declared.why.Why.TheVariants.{NotOwn, NotNext}
use Rattle.gcd_event.specs.declared.event.Event.{Event}
use Rattle.gcd_event.specs.declared.event.Event.TheVariants.{Start, Act as Acted, End}
use Rattle.gcd_history.specs.Runs.{same_run, opens, is_started, is_open, acts_done, act_at, last_worker}
use Rattle.gcd_history.specs.Cancelled.{is_block_cancelled}
use Rattle.gcd_history.specs.Parked.{parked_by, has_run}
use Rattle.gcd_history.specs.Permitted.{why, has_act_left}
use Rattle.gcd_history.proofs.Runs.Open.{same_run-refl, is_open-step}
use Rattle.gcd_history.proofs.Permitted.Reasons.{allowed, at_act}
use Rattle.gcd_history.proofs.Blocks.StartedOnce.{started_from_open, open_from_has_run}
use Rattle.gcd_history.proofs.Permitted.Quiet.{none_first, none_why, has_own}

-- an act finds its block started, and not cancelled
pub record ActsAlive (plan : PlanView) (past : List Event) (b : Blk) : Type 0 where
  pub started : is_started past b.0 ≡ true
  pub active : is_block_cancelled plan past b.0 ≡ false

pub acts_alive : (plan : PlanView) (past : List Event) (w : ℕ) (b : Blk) (i : ℕ) → why plan past (Acted w (Block b) i) ≡ None → ActsAlive plan past b
acts_alive plan past w b i h =
    let facts = at_act plan past w (Block b) i h in
    record { started = started_from_open past b (open_from_has_run plan past w (Block b) facts.own); active = facts.active }

-- right after its Start a cancelled block has no act left, and its worker may end it
pub may_end : (plan : PlanView) (past : List Event) (w : ℕ) (b : Blk) → is_block_cancelled plan past b.0 ≡ true → why plan past (Start w b) ≡ None → why plan (Start w b ∷ past) (End w b) ≡ None
unfolding has_act_left
may_end plan past w b cancelled h =
    let now = Start w b ∷ past in
    let one : same_run (Block b) (Block b) ≡ true = same_run-refl (Block b) in
    let live : is_open now (Block b) ≡ true = is_open-step (Start w b) past (Block b) ∙ or_left (opens (Start w b) (Block b)) _ one in
    let unparked : parked_by plan now (Block b) ≡ None = ap (λ v. cond v None (parked_by plan past (Block b))) one in
    let last : last_worker now (Block b) ≡ Some w = ap (λ v. cond v (Some w) (last_worker past (Block b))) one in
    let own = has_own plan now (Block b) w live unparked last in
    let stays : is_block_cancelled plan now b.0 ≡ true = or_left (is_block_cancelled plan past b.0) _ cancelled in
    let none : has_act_left plan now (Block b) ≡ false = ap (λ v. is_some (cond v None (act_at plan (Block b) (acts_done now (Block b))))) stays in
    none_why plan now (End w b) refl (allowed plan past (Start w b) h).known
    (none_first NotOwn (not (has_run plan now w (Block b))) ((NotNext, has_act_left plan now (Block b)) ∷ []) (ap not own)
    (none_first NotNext (has_act_left plan now (Block b)) [] none refl))
