use Rattle.std.proofs.Common.{inl, inr, refl, subst, sym}
use Rattle.gcd_plan.specs.declared.numbers.Obj.{Obj}
use Rattle.gcd_row.specs.Passes.{view}
use Rattle.gcd_steal.specs.Drains.{sight_with}
use Rattle.gcd_steal.specs.Places.{Takes}
use Rattle.gcd_steal.specs.Racks.{sight_of}
use Rattle.gcd_pool.specs.Due.{IsAt, IsThisOr}
use Rattle.gcd_pool.proofs.Found.{found_at_once}
use Rattle.gcd_pool.proofs.Laid.{lays_after, out_further, with_drain}
use Rattle.gcd_pool.proofs.Due.{due_after, put_due}
use Rattle.gcd_pool.proofs.drains.begin_chosen.Goals as goal

pub returns-in-Some-clause-laid : goal.returns-in-Some-clause-laid
returns-in-Some-clause-laid g c = inl (record { found = c.wake.new.bench; drain = c.in-Some.drain; took = found_at_once c.args.hand.now.bench c.wake.new.bench c.in-Some.drain (inr (inr (c.wake.ensures.same, subst (λ (o : Obj). Takes o.0 (sight_of c.args.hand.now.bench) (sight_with c.in-Some.drain)) (sym c.in-Some.ensures.drain.1) c.in-Some.ensures.asleep.0, c.in-Some.ensures.asleep.1))); laid = c.begin_with.ensures.laid })

pub returns-in-None-clause-laid : goal.returns-in-None-clause-laid
returns-in-None-clause-laid g c =
    lays_after c.args.hand.now.bench c.wake.new.bench c.begin_near.new.hand.bench c.begin_near.result (inr (inr (c.args.node.0, c.wake.ensures.same, c.in-None.ensures.awake.0))) c.begin_near.ensures.laid

pub returns-in-Some-clause-begun : goal.returns-in-Some-clause-begun
returns-in-Some-clause-begun g c = c.begin_with.ensures.begun c.args.node

pub returns-in-Some-clause-out : goal.returns-in-Some-clause-out
returns-in-Some-clause-out g c = with_drain c.begin_with.result (view c.args.hand.now.pass) (view c.begin_with.new.hand.pass) c.args.hand.now.bench c.begin_with.new.hand.bench c.begin_with.ensures.begun

pub returns-in-None-clause-out : goal.returns-in-None-clause-out
returns-in-None-clause-out g c = out_further c.begin_near.result c.args.node.0 c.args.hand.now.bench c.wake.new.bench c.begin_near.new.hand.bench c.in-None.ensures.awake.0 c.begin_near.ensures.out

pub returns-in-Some-clause-due : goal.returns-in-Some-clause-due
returns-in-Some-clause-due g c =
    put_due (IsThisOr c.args.e) (IsAt c.args.node) c.args.e c.begin_with.result (view c.args.hand.now.pass) (view c.begin_with.new.hand.pass) c.args.hand.now.bench c.begin_with.new.hand.bench
    (inl refl) c.requires.worker c.requires.work c.requires.may c.begin_with.ensures.put

pub returns-in-None-clause-due : goal.returns-in-None-clause-due
returns-in-None-clause-due g c =
    due_after c.args.e (IsAt c.args.node) c.begin_near.result (view c.args.hand.now.pass) (view c.begin_near.new.hand.pass) c.args.hand.now.bench c.wake.new.bench c.begin_near.new.hand.bench (inr (inr (c.args.node.0, c.wake.ensures.same, c.in-None.ensures.awake.0))) c.begin_near.ensures.due
