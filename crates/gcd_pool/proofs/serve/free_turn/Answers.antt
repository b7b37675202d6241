use Rattle.std.proofs.Common.{ap, ◌∙◌, inl, inr, length, refl, subst, sym, ◌+◌, ◌≤◌}
use Rattle.gcd_history.specs.Team.{of_worker}
use Rattle.gcd_row.specs.Passes.{view}
use Rattle.gcd_pool.specs.Due.{ChoosesOn, IsDue, SaysDue}
use Rattle.gcd_pool.specs.Turns.{LaysDown}
use Rattle.gcd_pool.proofs.Laid.{waits_out}
use Rattle.gcd_pool.proofs.Placing.{placed_further, quiet_further, waits_placed, waits_rested}
use Rattle.gcd_pool.proofs.Puts.{goes_further}
use Rattle.gcd_pool.proofs.Works.{adds_further, knowing_adds}
use Rattle.gcd_pool.proofs.Stops.{stops_out, stops_placed, stops_rested}
use Rattle.gcd_pool.proofs.serve.free_turn.Goals as goal

pub returns-then-not-pass_seen-clause-placed : goal.returns-then-not-pass_seen-clause-placed
returns-then-not-pass_seen-clause-placed g c =
    let v = view c.args.hand.now.pass in let u = view c.are_quick-quick.new.hand.pass in let w = view c.pass_seen.new.hand.pass in
    stops_placed v w (quiet_further v u w c.are_quick-quick.ensures.serving.view c.are_quick-quick.ensures.none (ap (λ x. of_worker u.worker x.seen) c.pass_seen.ensures.view))

pub returns-then-not-pass_seen-clause-rested : goal.returns-then-not-pass_seen-clause-rested
returns-then-not-pass_seen-clause-rested g c = stops_rested (view c.pass_seen.new.hand.pass)

pub returns-then-not-pass_seen-clause-out : goal.returns-then-not-pass_seen-clause-out
returns-then-not-pass_seen-clause-out g c = stops_out c.args.hand.now.bench c.pass_seen.new.hand.bench

pub returns-then-quick-clause-placed : goal.returns-then-quick-clause-placed
returns-then-quick-clause-placed g c =
    let v = view c.args.hand.now.pass in let u = view c.are_quick-quick.new.hand.pass in let w = view c.pass_seen.new.hand.pass in
    waits_placed v w (quiet_further v u w c.are_quick-quick.ensures.serving.view c.are_quick-quick.ensures.none (ap (λ x. of_worker u.worker x.seen) c.pass_seen.ensures.view))

pub returns-then-quick-clause-rested : goal.returns-then-quick-clause-rested
returns-then-quick-clause-rested g c = waits_rested (view c.pass_seen.new.hand.pass)

pub returns-then-quick-clause-out : goal.returns-then-quick-clause-out
returns-then-quick-clause-out g c = waits_out _ _

pub returns-else-quick-clause-placed : goal.returns-else-quick-clause-placed
returns-else-quick-clause-placed g c =
    let v = view c.args.hand.now.pass in let u = view c.are_quick-quick.new.hand.pass in let w = view c.pass_seen.new.hand.pass in
    placed_further c.take_turn.result v w (view c.take_turn.new.hand.pass) (goes_further v u w c.are_quick-quick.ensures.serving.view c.pass_seen.ensures.serving.view)
    (quiet_further v u w c.are_quick-quick.ensures.serving.view c.are_quick-quick.ensures.none (ap (λ x. of_worker u.worker x.seen) c.pass_seen.ensures.view)) c.take_turn.ensures.placed

pub returns-then-not-pass_seen-clause-work : goal.returns-then-not-pass_seen-clause-work
returns-then-not-pass_seen-clause-work g c =
    let v = view c.args.hand.now.pass in let u = view c.are_quick-quick.new.hand.pass in let w = view c.pass_seen.new.hand.pass in
    adds_further v u w c.are_quick-quick.ensures.work (knowing_adds u w c.pass_seen.ensures.view)

pub returns-then-quick-clause-work : goal.returns-then-quick-clause-work
returns-then-quick-clause-work g c =
    let v = view c.args.hand.now.pass in let u = view c.are_quick-quick.new.hand.pass in let w = view c.pass_seen.new.hand.pass in
    adds_further v u w c.are_quick-quick.ensures.work (knowing_adds u w c.pass_seen.ensures.view)

pub returns-else-quick-clause-work : goal.returns-else-quick-clause-work
returns-else-quick-clause-work g c =
    let v = view c.args.hand.now.pass in let u = view c.are_quick-quick.new.hand.pass in let w = view c.pass_seen.new.hand.pass in
    adds_further v w (view c.take_turn.new.hand.pass) (adds_further v u w c.are_quick-quick.ensures.work (knowing_adds u w c.pass_seen.ensures.view)) c.take_turn.ensures.work

pub returns-then-not-pass_seen-clause-laid : goal.returns-then-not-pass_seen-clause-laid
returns-then-not-pass_seen-clause-laid g c = inl (c.pass_seen.ensures.bench ∙ c.are_quick-quick.ensures.bench)

pub returns-then-quick-clause-laid : goal.returns-then-quick-clause-laid
returns-then-quick-clause-laid g c = inl (c.pass_seen.ensures.bench ∙ c.are_quick-quick.ensures.bench)

pub returns-else-quick-clause-laid : goal.returns-else-quick-clause-laid
returns-else-quick-clause-laid g c =
    subst (λ b. LaysDown b c.take_turn.new.hand.bench c.take_turn.result) (c.pass_seen.ensures.bench ∙ c.are_quick-quick.ensures.bench) c.take_turn.ensures.laid

pub returns-then-not-pass_seen-clause-due : goal.returns-then-not-pass_seen-clause-due
returns-then-not-pass_seen-clause-due g c =
    inr (inl (refl, sym (ap (λ x. x.worker) c.are_quick-quick.ensures.serving.view.is) ∙ c.pass_seen.ensures.refused c.if-not-pass_seen.true))

pub returns-then-quick-clause-due : goal.returns-then-quick-clause-due
returns-then-quick-clause-due g c =
    let v = view c.args.hand.now.pass in
    inl (refl, subst (λ h. length v.seen + 3 ≤ length h) (sym (ap (λ x. x.seen) c.pass_seen.ensures.view)) (c.are_quick-quick.ensures.quick c.if-quick.true))

pub returns-else-quick-clause-due : goal.returns-else-quick-clause-due
returns-else-quick-clause-due g c =
    let v = view c.args.hand.now.pass in let u = view c.are_quick-quick.new.hand.pass in let w = view c.pass_seen.new.hand.pass in
    inr (inr (record {
      then = w;
      first = goes_further v u w c.are_quick-quick.ensures.serving.view c.pass_seen.ensures.serving.view;
      quiet = quiet_further v u w c.are_quick-quick.ensures.serving.view c.are_quick-quick.ensures.none (ap (λ x. of_worker u.worker x.seen) c.pass_seen.ensures.view);
      rest = c.take_turn.ensures.serving.view;
      says = subst (λ b. SaysDue (IsDue c.args.from) (ChoosesOn c.args.from) c.take_turn.result w (view c.take_turn.new.hand.pass) b c.take_turn.new.hand.bench) (c.pass_seen.ensures.bench ∙ c.are_quick-quick.ensures.bench) c.take_turn.ensures.due;
    }))
