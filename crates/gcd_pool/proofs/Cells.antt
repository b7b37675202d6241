-- The cell of the run that a pass holds, of jobs and handlers.
use Rattle.std.proofs.Common.{◌≡◌, ◌≢◌, ℕ, ◌+◌, ◌*◌, ◌^◌, ◌<◌, ◌≤◌, List, [], ◌∷◌, length, Some, Option, sym, refl, ap, ◌∙◌, subst, arith}
use Rattle.std.proofs.Math.Nat.{mul-le-mul_left}
use Rattle.std.specs.Option.{option_map_or}
use Rattle.gcd_plan.specs.Limits.{max_events, max_value}
use Rattle.gcd_plan.specs.PlanView.{PlanView, kind_of}
use Rattle.gcd_plan.specs.KindValues.{folded}
use Rattle.gcd_plan.specs.Validity.{IsPlan}
use Rattle.gcd_plan.specs.declared.kind.Kind.{Kind}
use Rattle.gcd_plan.specs.declared.numbers.Blk.{Blk}
use Rattle.gcd_plan.specs.declared.numbers.Obj.{Obj}
use Rattle.gcd_plan.specs.declared.numbers.Run.{Run}
use Rattle.gcd_plan.specs.declared.numbers.Run.TheVariants.{Block, Source}
use Rattle.gcd_event.specs.declared.event.Event.{Event}
use Rattle.gcd_history.specs.Sources.{joined}
use Rattle.gcd_history.specs.History.{IsLawful, delivery_count_of, received_of, last_data_of}
use Rattle.gcd_history.proofs.Sources.Totals.{totals_fit}
use Rattle.gcd_row.specs.Shapes.{Shape, body, handler, shape_of, gives_of}
use Rattle.gcd_row.specs.Lying.{slot_of, HasSlots, HasSlot, IsServed, IsUntaken}
use Rattle.gcd_row.specs.Jobs.{held_jobs}
use Rattle.gcd_row.specs.Views.{held_run}
use Rattle.gcd_row.proofs.Totals.{earlier_and_last}
use Rattle.gcd_row.specs.Passes.{IsPassOf, slots, terms_of, view}
use Rattle.gcd_row.specs.declared.board.RowBoard.{RowBoard}
use Rattle.gcd_row.specs.declared.cell.Cell.{Cell}
use Rattle.gcd_row.specs.declared.cell.Cell.TheVariants.{Body, Done, Handler, Away}
use Rattle.gcd_row.specs.declared.pass.RowPass.{RowPass}
use Rattle.gcd_row.specs.declared.view.Terms.{Terms}
use Rattle.gcd_pool.specs.Hands.{IsFresh}

-- a handler that takes what the last Deliver handed over
pub record TakesFit (plan : PlanView) (h : List Event) (s : ℕ) (kind : Kind) (times total value : ℕ) : Type 0 where
  pub times_fit : times + 1 < 2 ^ 32
  pub total_fits : folded kind total value < 2 ^ 64
  pub served : IsServed plan h s (times + 1) (folded kind total value)

pub takes_fit : (plan : PlanView) (h : List Event) (s : ℕ) (kind : Kind) (times total value : ℕ) → IsPlan plan → IsLawful plan h → length h ≤ max_events → kind_of plan s ≡ Some kind → IsUntaken plan h s times total → value ≡ last_data_of plan h s → TakesFit plan h s kind times total value
takes_fit plan h s kind times total value valid lawful few at u is =
    let fit = totals_fit plan h s valid lawful in
    let sum : folded kind total value ≡ received_of plan h s =
    sym (ap (λ (o : Option Kind). option_map_or (λ k. folded k total value) o 0) at) ∙ ap (joined plan s total) is
    ∙ ap (λ (n : ℕ). joined plan s n (last_data_of plan h s)) u.all_earlier ∙ earlier_and_last plan h s (omega (arith, u.once_fewer)) in
    let most : max_value * length h ≤ max_value * max_events = mul-le-mul_left max_value few in
    record {
      times_fit = omega (arith, u.once_fewer, fit.times, few);
      total_fits = omega (arith, sum, fit.total, most);
      served = record { all_times = u.once_fewer; all_data = sum };
    }

-- a row takes fewer than 2^32 events
pub few_events : {S : Type 0} (shape : S → Shape) (gives : S → ℕ → Type 0) (b : RowBoard S) (p : RowPass S) (most : ℕ) → IsPassOf shape gives b p → most ≡ (terms_of b).limits.most → most < 2 ^ 32 → length (view p).seen ≤ max_events
few_events {S} shape gives b p most is limit low =
    let same : (view p).terms.limits.most ≡ (terms_of b).limits.most = ap (λ (t : Terms S). t.limits.most) is.terms in
    omega (arith, is.few, same, limit, low)

module _ {J H : Type 0} (kind : H → Kind) (times total : H → ℕ) (gives : J → ℕ → ℕ → Type 0) where
  body_cell : (c : Cell J H) → shape_of kind times total c ≡ body → (job : J) × (c ≡ Body job)
  body_cell (Body job) is = (job, refl)
  body_cell (Done v) is = absurd (cc)
  body_cell (Handler h) is = absurd (cc)
  body_cell Away is = absurd (cc)

  pub body_here : (b : RowBoard (Cell J H)) (p : RowPass (Cell J H)) (n : Blk) → IsPassOf (shape_of kind times total) (gives_of gives) b p → held_run (view p) ≡ Some (Block n) → IsFresh (shape_of kind times total) (view p) (slots p)
      → (job : J) × (slots p ≡ (n.0, Body job) ∷ [])
  body_here b p n is held fresh =
      let v = view p in
      let had : HasSlot (shape_of kind times total) (gives_of gives) (held_jobs v) v.seen (Block n) (slots p) =
      subst (λ (o : Option Run). HasSlots (shape_of kind times total) (gives_of gives) (held_jobs v) v.seen o (slots p)) held is.has in
      let job = body_cell had.cell (fresh (Block n) had.cell held had.here) in
      (job.0, had.here ∙ ap (λ (c : Cell J H). (n.0, c) ∷ []) job.1)

  handler_cell : (c : Cell J H) (k : Kind) (n u : ℕ) → shape_of kind times total c ≡ handler k n u → (h : H) × (c ≡ Handler h) × (times h ≡ n)
  handler_cell (Handler h) k n u is = (h, refl, cc)
  handler_cell (Body job) k n u is = absurd (cc)
  handler_cell (Done v) k n u is = absurd (cc)
  handler_cell Away k n u is = absurd (cc)

  pub handler_here : (b : RowBoard (Cell J H)) (p : RowPass (Cell J H)) (s : Obj) → IsPassOf (shape_of kind times total) (gives_of gives) b p → held_run (view p) ≡ Some (Source s) → IsFresh (shape_of kind times total) (view p) (slots p)
      → (h : H) × (slots p ≡ (slot_of (view p).terms.plan (Source s), Handler h) ∷ []) × (times h ≢ delivery_count_of (view p).seen s.0)
  handler_here b p s is held fresh =
      let v = view p in
      let had : HasSlot (shape_of kind times total) (gives_of gives) (held_jobs v) v.seen (Source s) (slots p) =
      subst (λ (o : Option Run). HasSlots (shape_of kind times total) (gives_of gives) (held_jobs v) v.seen o (slots p)) held is.has in
      let it = fresh (Source s) had.cell held had.here in
      let h = handler_cell had.cell it.kind it.times it.total it.is in
      let once : times h.0 + 1 ≡ delivery_count_of v.seen s.0 = ap (λ (n : ℕ). n + 1) h.2 ∙ it.untaken.once_fewer in
      (h.0, had.here ∙ ap (λ (c : Cell J H). (slot_of v.terms.plan (Source s), c) ∷ []) h.1, λ same. omega (arith, once, same))

  -- the source is one of the plan
  pub source_known : (b : RowBoard (Cell J H)) (p : RowPass (Cell J H)) (s : Obj) → IsPassOf (shape_of kind times total) (gives_of gives) b p → held_run (view p) ≡ Some (Source s) → s.0 < length (view p).terms.plan.objects
  source_known b p s is held =
      let v = view p in
      let had : HasSlot (shape_of kind times total) (gives_of gives) (held_jobs v) v.seen (Source s) (slots p) =
      subst (λ (o : Option Run). HasSlots (shape_of kind times total) (gives_of gives) (held_jobs v) v.seen o (slots p)) held is.has in
      had.known
