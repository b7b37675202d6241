-- Runs and their slots, and what is known of a run that an event takes or gives.
use Rattle.std.proofs.Common.{◌≡◌, ℕ, ◌<◌, Bool, true, false, cond, List, length, reverse, Some, None, Option, refl, ap, subst, arith}
use Rattle.std.proofs.lemmas.Bool.{and_parts, ltb-true}
use Rattle.std.proofs.lemmas.Option.{same_Some}
use Rattle.gcd_plan.specs.PlanView.{PlanView, IsRun}
use Rattle.gcd_plan.specs.Kinds.{is_source, is_source_kind}
use Rattle.gcd_plan.specs.declared.numbers.Blk.{Blk}
use Rattle.gcd_plan.specs.declared.numbers.Obj.{Obj}
use Rattle.gcd_plan.specs.declared.numbers.Run.{Run}
use Rattle.gcd_plan.specs.declared.numbers.Run.TheVariants.{Block, Source}
use Rattle.gcd_plan.proofs.Within.{has_object}
use Rattle.gcd_event.specs.declared.event.Event.{Event}
use Rattle.gcd_event.specs.declared.event.Event.TheVariants.{Start, Act as Acted, Wake, End, Deliver, DeliverEnd}
use Rattle.gcd_history.specs.Runs.{act_at}
use Rattle.gcd_history.specs.Parked.{is_parking}
use Rattle.gcd_history.specs.Permitted.{is_worker, is_index, has_block, is_run_of}
use Rattle.gcd_history.specs.History.{why}
use Rattle.gcd_history.proofs.Permitted.Reasons.{allowed}
use Rattle.gcd_history.specs.Held.{taken, given}
use Rattle.gcd_row.specs.Lying.{slots_of, slot_of}

-- a run of a block or a source of the plan is a run of the plan
pub known_run : (plan : PlanView) (r : Run) → is_run_of plan r ≡ true → IsRun plan r
known_run plan (Block b) k = ltb-true b.0 (length plan.blocks) k
known_run plan (Source s) k = has_object is_source_kind plan s.0 k

-- an event that takes a run names one of the plan's
pub taken_known : (plan : PlanView) (h : List Event) (e : Event) (r : Run) → taken e ≡ Some r → why plan h e ≡ None → is_run_of plan r ≡ true
unfolding why
taken_known plan h (Start w b) r is may = subst (λ q. is_run_of plan q ≡ true) (same_Some (Block b) r is) (and_parts (is_worker w) (has_block plan b.0) (allowed plan (reverse h) (Start w b) may).known).1
taken_known plan h (Wake w b) r is may = subst (λ q. is_run_of plan q ≡ true) (same_Some (Block b) r is) (and_parts (is_worker w) (has_block plan b.0) (allowed plan (reverse h) (Wake w b) may).known).1
taken_known plan h (Deliver w s) r is may = subst (λ q. is_run_of plan q ≡ true) (same_Some (Source s) r is) (and_parts (is_worker w) (is_source plan s.0) (allowed plan (reverse h) (Deliver w s) may).known).1
taken_known plan h e r is may = absurd (cc)

parking_run : (p : Bool) (q r : Run) → cond p (Some q) None ≡ Some r → q ≡ r
parking_run true q r is = same_Some q r is
parking_run false q r is = absurd (cc)

-- and so does one that gives a run back
pub given_known : (plan : PlanView) (h : List Event) (e : Event) (r : Run) → given plan e ≡ Some r → why plan h e ≡ None → is_run_of plan r ≡ true
unfolding why
given_known plan h (Acted w q i) r is may =
    let known = and_parts (is_worker w) _ (allowed plan (reverse h) (Acted w q i) may).known in
    subst (λ x. is_run_of plan x ≡ true) (parking_run (is_parking (act_at plan q i)) q r is) (and_parts (is_run_of plan q) (is_index i) known.1).0
given_known plan h (End w b) r is may = subst (λ q. is_run_of plan q ≡ true) (same_Some (Block b) r is) (and_parts (is_worker w) (has_block plan b.0) (allowed plan (reverse h) (End w b) may).known).1
given_known plan h (DeliverEnd w s) r is may = subst (λ q. is_run_of plan q ≡ true) (same_Some (Source s) r is) (and_parts (is_worker w) (is_source plan s.0) (allowed plan (reverse h) (DeliverEnd w s) may).known).1
given_known plan h e r is may = absurd (cc)

pub taken_not_given : (plan : PlanView) (e : Event) (r : Run) → taken e ≡ Some r → given plan e ≡ None
taken_not_given plan (Start w b) r is = refl
taken_not_given plan (Wake w b) r is = refl
taken_not_given plan (Deliver w s) r is = refl
taken_not_given plan e r is = absurd (cc)

pub none_some : (o : Option Run) (r : Run) → o ≡ None → o ≡ Some r → ⊥
none_some o r none some = cc

-- an event that takes a source's run is its Deliver
pub taken_source : (e : Event) (s : Obj) → taken e ≡ Some (Source s) → (w : ℕ) × (e ≡ Deliver w s)
taken_source (Deliver w t) s is = (w, ap (λ (x : Obj). Deliver w x) (same_source (same_Some (Source t) (Source s) is)))
  where
    same_source : {a b : Obj} → Source a ≡ Source b → a ≡ b
    same_source x = cc
taken_source (Start w b) s is = absurd (block_source b (same_Some (Block b) (Source s) is))
  where
    block_source : (b : Blk) → Block b ≡ Source s → ⊥
    block_source b x = cc
taken_source (Wake w b) s is = absurd (block_source b (same_Some (Block b) (Source s) is))
  where
    block_source : (b : Blk) → Block b ≡ Source s → ⊥
    block_source b x = cc
taken_source e s is = absurd (cc)

-- two runs of the plan have two slots
pub source_slot : (plan : PlanView) (q : Run) (s : Obj) → IsRun plan q → slot_of plan q ≡ slot_of plan (Source s) → q ≡ Source s
source_slot plan (Block b) s known same = absurd (omega (arith, known, same))
source_slot plan (Source t) s known same = let n : t.0 ≡ s.0 = omega (arith, same) in ap (λ (k : ℕ). Source (record { 0 = k })) n

pub same_slot : (plan : PlanView) (q r : Run) → IsRun plan q → IsRun plan r → slot_of plan q ≡ slot_of plan r → q ≡ r
same_slot plan q (Source s) known other same = source_slot plan q s known same
same_slot plan (Block b) (Block c) known other same = ap (λ (k : ℕ). Block (record { 0 = k })) same
same_slot plan (Source s) (Block c) known other same = absurd (omega (arith, other, same))

pub slot_below : (plan : PlanView) (r : Run) → IsRun plan r → slot_of plan r < slots_of plan
slot_below plan (Block b) known = omega (arith, known)
slot_below plan (Source s) known = omega (arith, known)
