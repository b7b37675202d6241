use Rattle.std.proofs.Common.{inr, subst}
use Rattle.gcd_pool.specs.Throughs.{SaysThrough}
use Rattle.gcd_machine.specs.declared.put.Put.{Put}
use Rattle.gcd_pool.proofs.Throughs.{barred_waits, full_length, outcome_adds, outcome_fresh, outcome_leaves, outcome_only, outcome_records, outcome_stops}
use Rattle.gcd_pool.proofs.Puts.{fresh_gives}
use Rattle.gcd_pool.proofs.own.go_on.Goals as goal

pub put_chosen_through-requires-clause-cell : goal.put_chosen_through-requires-clause-cell
put_chosen_through-requires-clause-cell g c = fresh_gives g.S.Slot.shape g.S.Slot.gives c.args.pool.now.board.now c.args.hand.now.pass c.args.e c.requires.of.pass c.requires.worker c.requires.may c.requires.ends_none c.requires.fresh

pub returns-in-Placed-clause-work : goal.returns-in-Placed-clause-work
returns-in-Placed-clause-work g c = outcome_adds g.S.Slot.shape g.S.Slot.gives c.args.pool.now.board.now c.args.e c.args.hand.now.pass c.put_chosen_through.new.hand.pass c.put_chosen_through.result c.requires.work c.put_chosen_through.ensures.said

pub returns-in-Placed-clause-only : goal.returns-in-Placed-clause-only
returns-in-Placed-clause-only g c = outcome_only g.S.Slot.shape g.S.Slot.gives c.args.pool.now.board.now c.args.e c.args.hand.now.pass c.put_chosen_through.new.hand.pass c.put_chosen_through.result c.put_chosen_through.ensures.said

pub returns-in-Full-clause-work : goal.returns-in-Full-clause-work
returns-in-Full-clause-work g c = outcome_adds g.S.Slot.shape g.S.Slot.gives c.args.pool.now.board.now c.args.e c.args.hand.now.pass c.put_chosen_through.new.hand.pass c.put_chosen_through.result c.requires.work c.put_chosen_through.ensures.said

pub returns-in-Full-clause-only : goal.returns-in-Full-clause-only
returns-in-Full-clause-only g c = outcome_only g.S.Slot.shape g.S.Slot.gives c.args.pool.now.board.now c.args.e c.args.hand.now.pass c.put_chosen_through.new.hand.pass c.put_chosen_through.result c.put_chosen_through.ensures.said

pub returns-in-Barred-clause-work : goal.returns-in-Barred-clause-work
returns-in-Barred-clause-work g c = outcome_adds g.S.Slot.shape g.S.Slot.gives c.args.pool.now.board.now c.args.e c.args.hand.now.pass c.put_chosen_through.new.hand.pass c.put_chosen_through.result c.requires.work c.put_chosen_through.ensures.said

pub returns-in-Barred-clause-only : goal.returns-in-Barred-clause-only
returns-in-Barred-clause-only g c = outcome_only g.S.Slot.shape g.S.Slot.gives c.args.pool.now.board.now c.args.e c.args.hand.now.pass c.put_chosen_through.new.hand.pass c.put_chosen_through.result c.put_chosen_through.ensures.said

pub returns-in-Held-clause-work : goal.returns-in-Held-clause-work
returns-in-Held-clause-work g c = outcome_adds g.S.Slot.shape g.S.Slot.gives c.args.pool.now.board.now c.args.e c.args.hand.now.pass c.put_chosen_through.new.hand.pass c.put_chosen_through.result c.requires.work c.put_chosen_through.ensures.said

pub returns-in-Held-clause-only : goal.returns-in-Held-clause-only
returns-in-Held-clause-only g c = outcome_only g.S.Slot.shape g.S.Slot.gives c.args.pool.now.board.now c.args.e c.args.hand.now.pass c.put_chosen_through.new.hand.pass c.put_chosen_through.result c.put_chosen_through.ensures.said

pub returns-in-Placed-clause-after : goal.returns-in-Placed-clause-after
returns-in-Placed-clause-after g c =
    outcome_fresh g.S.Slot.shape g.S.Slot.gives c.args.pool.now.board.now c.args.e c.args.hand.now.pass c.put_chosen_through.new.hand.pass c.put_chosen_through.result c.put_chosen_through.ensures.serving.of.pass
    c.requires.worker c.put_chosen_through.ensures.said c.requires.fresh

pub returns-in-Barred-clause-after : goal.returns-in-Barred-clause-after
returns-in-Barred-clause-after g c =
    outcome_fresh g.S.Slot.shape g.S.Slot.gives c.args.pool.now.board.now c.args.e c.args.hand.now.pass c.put_chosen_through.new.hand.pass c.put_chosen_through.result c.put_chosen_through.ensures.serving.of.pass
    c.requires.worker c.put_chosen_through.ensures.said c.requires.fresh

pub returns-in-Full-clause-after : goal.returns-in-Full-clause-after
returns-in-Full-clause-after g c =
    let said = subst (λ (o : Put). SaysThrough g.S.Slot.shape g.S.Slot.gives c.args.pool.now.board.now c.args.e c.args.hand.now.pass c.put_chosen_through.new.hand.pass o) c.in-Full.is c.put_chosen_through.ensures.said in
    inr (inr (full_length g.S.Slot.shape g.S.Slot.gives c.args.pool.now.board.now c.args.e c.args.hand.now.pass c.put_chosen_through.new.hand.pass said))

pub returns-in-Placed-clause-recorded : goal.returns-in-Placed-clause-recorded
returns-in-Placed-clause-recorded g c =
    let said = subst (λ (o : Put). SaysThrough g.S.Slot.shape g.S.Slot.gives c.args.pool.now.board.now c.args.e c.args.hand.now.pass c.put_chosen_through.new.hand.pass o) c.in-Placed.is c.put_chosen_through.ensures.said in
    outcome_records g.S.Slot.shape g.S.Slot.gives c.args.pool.now.board.now c.args.e c.args.hand.now.pass c.put_chosen_through.new.hand.pass c.in-Placed.field-0 said c.requires.ends_none

pub returns-in-Full-clause-recorded : goal.returns-in-Full-clause-recorded
returns-in-Full-clause-recorded g c =
    let said = subst (λ (o : Put). SaysThrough g.S.Slot.shape g.S.Slot.gives c.args.pool.now.board.now c.args.e c.args.hand.now.pass c.put_chosen_through.new.hand.pass o) c.in-Full.is c.put_chosen_through.ensures.said in
    outcome_leaves g.S.Slot.shape g.S.Slot.gives c.args.pool.now.board.now c.args.e c.args.hand.now.pass c.put_chosen_through.new.hand.pass said

pub returns-in-Barred-clause-recorded : goal.returns-in-Barred-clause-recorded
returns-in-Barred-clause-recorded g c =
    let said = subst (λ (o : Put). SaysThrough g.S.Slot.shape g.S.Slot.gives c.args.pool.now.board.now c.args.e c.args.hand.now.pass c.put_chosen_through.new.hand.pass o) c.in-Barred.is c.put_chosen_through.ensures.said in
    barred_waits g.S.Slot.shape g.S.Slot.gives c.args.pool.now.board.now c.args.e c.args.hand.now.pass c.put_chosen_through.new.hand.pass c.in-Barred.at c.in-Barred.why said

pub returns-in-Held-clause-recorded : goal.returns-in-Held-clause-recorded
returns-in-Held-clause-recorded g c =
    let said = subst (λ (o : Put). SaysThrough g.S.Slot.shape g.S.Slot.gives c.args.pool.now.board.now c.args.e c.args.hand.now.pass c.put_chosen_through.new.hand.pass o) c.in-Held.is c.put_chosen_through.ensures.said in
    outcome_stops g.S.Slot.shape g.S.Slot.gives c.args.pool.now.board.now c.args.e c.args.hand.now.pass c.put_chosen_through.new.hand.pass c.in-Held.by c.in-Held.passed said
