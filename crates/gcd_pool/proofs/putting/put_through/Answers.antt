use Rattle.std.proofs.Common.{◌∙◌}
use Rattle.gcd_machine.specs.declared.put.Put.TheVariants.{Held}
use Rattle.gcd_pool.specs.declared.hand.Hand.{Hand}
use Rattle.gcd_pool.proofs.Throughs.{sees_waits, passing_waits, put_said, put_then, waited_gives, waits_further}
use Rattle.gcd_row.specs.Passes.{view}
use Rattle.gcd_row.proofs.AfterPut.{same_numbers}
use Rattle.gcd_pool.proofs.Puts.{says_goes_on}
use Rattle.gcd_pool.proofs.Serves.{sees_serves, serves_further, serves_pass}
use Rattle.gcd_pool.proofs.putting.put_through.Goals as goal

pub returns-in_default-clause-serving : goal.returns-in_default-clause-serving
returns-in_default-clause-serving g c =
    let first = c.args.hand.now in let held = c.loop.hand in let v = view held.pass in let w = view c.put-answer.new.pass in let said = c.put-answer.result in
    serves_further g.S.Slot.shape g.S.Slot.gives c.args.pool.now first held (record { pass = c.put-answer.new.pass; bench = held.bench; journal = held.journal }) c.loop.invariant.serving
    (serves_pass g.S.Slot.shape g.S.Slot.gives c.args.pool.now held c.put-answer.new.pass c.loop.invariant.serving.of c.put-answer.ensures.pass
    (says_goes_on c.args.e v w said c.put-answer.ensures.view) (same_numbers c.args.e v w said c.put-answer.ensures.view).passed)

pub returns-in_default-clause-said : goal.returns-in_default-clause-said
returns-in_default-clause-said g c =
    let p = c.args.hand.now.pass in let q = c.put-answer.new.pass in let said = c.put-answer.result in
    put_said g.S.Slot.shape g.S.Slot.gives c.args.pool.now.board.now c.args.e p q said
    (put_then g.S.Slot.shape g.S.Slot.gives c.args.pool.now.board.now c.args.e p c.loop.hand.pass q said
    c.loop.invariant.waited c.loop.invariant.serving.of.pass c.put-answer.ensures.view c.put-answer.ensures.slots)

pub returns-then-not-let_go-clause-said : goal.returns-then-not-let_go-clause-said
returns-then-not-let_go-clause-said g c = record {
  held = c.put-answer.new.pass;
  put = put_then g.S.Slot.shape g.S.Slot.gives c.args.pool.now.board.now c.args.e c.args.hand.now.pass c.loop.hand.pass c.put-answer.new.pass (Held c.in-Held.by c.in-Held.passed)
      c.loop.invariant.waited c.loop.invariant.serving.of.pass c.in-Held.ensures.view c.in-Held.ensures.slots;
  since = passing_waits c.put-answer.new.pass c.let_go.new.hand.pass c.let_go.ensures.view c.let_go.ensures.slots;
}

pub loop-preserved : goal.loop-preserved
loop-preserved g c =
    let looked = sees_waits c.loop.hand.pass c.put-answer.new.pass c.in-Held.ensures.view.0.sees c.in-Held.ensures.slots in
    let had = sees_serves g.S.Slot.shape g.S.Slot.gives c.args.pool.now c.loop.hand c.put-answer.new.pass c.loop.invariant.serving.of c.in-Held.ensures.pass c.in-Held.ensures.view.0.sees in
    let first = c.args.hand.now in
    let held : Hand g.row.S.Denot = record { pass = c.put-answer.new.pass; bench = c.loop.hand.bench; journal = c.loop.hand.journal } in
    let passed = passing_waits c.put-answer.new.pass c.let_go.new.hand.pass c.let_go.ensures.view c.let_go.ensures.slots in
    let waited = waits_further c.loop.hand.pass c.put-answer.new.pass c.let_go.new.hand.pass looked passed in
    record {
      serving = serves_further g.S.Slot.shape g.S.Slot.gives c.args.pool.now first held c.let_go.new.hand
          (serves_further g.S.Slot.shape g.S.Slot.gives c.args.pool.now first c.loop.hand held c.loop.invariant.serving had) c.let_go.ensures.serving;
      bench = c.let_go.ensures.bench ∙ c.loop.invariant.bench;
      waited = waits_further c.args.hand.now.pass c.loop.hand.pass c.let_go.new.hand.pass c.loop.invariant.waited waited;
      cell = waited_gives g.S.Slot.shape g.S.Slot.gives c.args.pool.now.board.now c.loop.hand.pass c.let_go.new.hand.pass c.args.e c.loop.invariant.serving.of.pass c.let_go.ensures.serving.of.pass waited c.loop.invariant.cell;
    }
