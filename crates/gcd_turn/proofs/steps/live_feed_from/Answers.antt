use Rattle.std.proofs.Common.{◌≡◌, ◌-◌, ◌∙◌, ℕ, Bool, Option, None, Some, ap, sym, arith, length}
use Rattle.std.specs.List.{find, range_with_len}
use Rattle.std.specs.Option.{option_map}
use Rattle.gcd_sets.proofs.Ranges.{IsFirst, found_first, found_none}
use Rattle.gcd_history.specs.History.{is_live_feed}
use Rattle.gcd_plan.specs.declared.numbers.Obj.{Obj}
use Rattle.gcd_turn.proofs.steps.live_feed_from.Goals as goal

-- what was found is the first
some_found : (p : ℕ → Bool) (a n : ℕ) (found : Option Obj) (s : Obj) → found ≡ Some s
    → option_map (λ (o : Obj). o.0) found ≡ find p (range_with_len a n) → IsFirst p a n s.0
some_found p a n found s is by = found_first p a n s.0 (sym by ∙ ap (option_map (λ (o : Obj). o.0)) is)

none_found : (p : ℕ → Bool) (a n : ℕ) (found : Option Obj) → found ≡ None
    → option_map (λ (o : Obj). o.0) found ≡ find p (range_with_len a n) → find p (range_with_len a n) ≡ None
none_found p a n found is by = sym by ∙ ap (option_map (λ (o : Obj). o.0)) is

pub returns-in_err-src-clause-none : goal.returns-in_err-src-clause-none
returns-in_err-src-clause-none c =
    let plan = c.args.plan.now in
    let from = c.args.from in
    let count : ℕ = length plan.objects - from in
    rw c.from_residual.ensures (λ h stands k low high.
    found_none (is_live_feed plan h) from count
    (none_found (is_live_feed plan h) from count c.next_live_feed.result c.in_err-src.was (c.next_live_feed.ensures plan h stands)) k low (omega arith))

pub returns-then-src-from-clause-none : goal.returns-then-src-from-clause-none
returns-then-src-from-clause-none c = λ h stands k low high.
    let plan = c.args.plan.now in
    let count : ℕ = length plan.objects - c.args.from in
    let first = some_found (is_live_feed plan h) c.args.from count c.next_live_feed.result c.in_ok-src.src c.in_ok-src.was (c.next_live_feed.ensures plan h stands) in
    absurd (omega (arith, first.from))

pub returns-then-src-objects-clause-none : goal.returns-then-src-objects-clause-none
returns-then-src-objects-clause-none c = λ h stands k low high.
    let plan = c.args.plan.now in
    let count : ℕ = length plan.objects - c.args.from in
    let first = some_found (is_live_feed plan h) c.args.from count c.next_live_feed.result c.in_ok-src.src c.in_ok-src.was (c.next_live_feed.ensures plan h stands) in
    absurd (omega (arith, first.from, first.to, c.objects-objects.ensures.count))

pub returns-clause-live : goal.returns-clause-live
returns-clause-live c = λ h stands.
    let plan = c.args.plan.now in
    let count : ℕ = length plan.objects - c.args.from in
    (some_found (is_live_feed plan h) c.args.from count c.next_live_feed.result c.in_ok-src.src c.in_ok-src.was (c.next_live_feed.ensures plan h stands)).passes

pub returns-clause-first : goal.returns-clause-first
returns-clause-first c = λ h stands.
    let plan = c.args.plan.now in
    let count : ℕ = length plan.objects - c.args.from in
    (some_found (is_live_feed plan h) c.args.from count c.next_live_feed.result c.in_ok-src.src c.in_ok-src.was (c.next_live_feed.ensures plan h stands)).before
