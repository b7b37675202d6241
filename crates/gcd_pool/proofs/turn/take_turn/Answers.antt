use Rattle.gcd_pool.proofs.Laid.{leaves_out, recorded_out, rests_out}
use Rattle.std.proofs.Common.{inl, refl}
use Rattle.gcd_row.specs.Passes.{view}
use Rattle.gcd_pool.specs.Due.{ChoosesOn, IsDue}
use Rattle.gcd_pool.proofs.Placing.{begun_placed, begun_rests, leaves_placed, leaves_rested, recorded_placed, recorded_rests, rests_placed}
use Rattle.gcd_pool.proofs.Told.{chooses, to_begin, to_leave, to_record, to_rest}
use Rattle.gcd_pool.proofs.Due.{chosen_due, leaves_due, put_due, recorded_put, rests_due}
use Rattle.gcd_pool.proofs.turn.take_turn.Goals as goal

pub record_own-requires-clause-worker : goal.record_own-requires-clause-worker
record_own-requires-clause-worker g c = (to_record g.S.Slot.shape g.S.Slot.gives c.args.pool.now.board.now c.args.hand.now.pass c.requires.of.pass c.machine.result.now c.most-most.result c.worker.result _ c.in-Record.e c.machine.ensures c.most-most.ensures c.worker.ensures c.in-Record.ensures).0

pub record_own-requires-clause-may : goal.record_own-requires-clause-may
record_own-requires-clause-may g c = (to_record g.S.Slot.shape g.S.Slot.gives c.args.pool.now.board.now c.args.hand.now.pass c.requires.of.pass c.machine.result.now c.most-most.result c.worker.result _ c.in-Record.e c.machine.ensures c.most-most.ensures c.worker.ensures c.in-Record.ensures).1

pub record_own-requires-clause-work : goal.record_own-requires-clause-work
record_own-requires-clause-work g c = (to_record g.S.Slot.shape g.S.Slot.gives c.args.pool.now.board.now c.args.hand.now.pass c.requires.of.pass c.machine.result.now c.most-most.result c.worker.result _ c.in-Record.e c.machine.ensures c.most-most.ensures c.worker.ensures c.in-Record.ensures).2

pub begin_chosen-requires-clause-node : goal.begin_chosen-requires-clause-node
begin_chosen-requires-clause-node g c = (to_begin g.S.Slot.shape g.S.Slot.gives c.args.pool.now.board.now c.args.hand.now.pass c.requires.of.pass c.machine.result.now c.most-most.result c.worker.result _ c.in-Begin.node c.in-Begin.e c.machine.ensures c.most-most.ensures c.worker.ensures c.in-Begin.ensures).0

pub begin_chosen-requires-clause-begins : goal.begin_chosen-requires-clause-begins
begin_chosen-requires-clause-begins g c = (to_begin g.S.Slot.shape g.S.Slot.gives c.args.pool.now.board.now c.args.hand.now.pass c.requires.of.pass c.machine.result.now c.most-most.result c.worker.result _ c.in-Begin.node c.in-Begin.e c.machine.ensures c.most-most.ensures c.worker.ensures c.in-Begin.ensures).1

pub begin_chosen-requires-clause-worker : goal.begin_chosen-requires-clause-worker
begin_chosen-requires-clause-worker g c = (to_begin g.S.Slot.shape g.S.Slot.gives c.args.pool.now.board.now c.args.hand.now.pass c.requires.of.pass c.machine.result.now c.most-most.result c.worker.result _ c.in-Begin.node c.in-Begin.e c.machine.ensures c.most-most.ensures c.worker.ensures c.in-Begin.ensures).2

pub begin_chosen-requires-clause-may : goal.begin_chosen-requires-clause-may
begin_chosen-requires-clause-may g c = (to_begin g.S.Slot.shape g.S.Slot.gives c.args.pool.now.board.now c.args.hand.now.pass c.requires.of.pass c.machine.result.now c.most-most.result c.worker.result _ c.in-Begin.node c.in-Begin.e c.machine.ensures c.most-most.ensures c.worker.ensures c.in-Begin.ensures).3

pub begin_chosen-requires-clause-work : goal.begin_chosen-requires-clause-work
begin_chosen-requires-clause-work g c = (to_begin g.S.Slot.shape g.S.Slot.gives c.args.pool.now.board.now c.args.hand.now.pass c.requires.of.pass c.machine.result.now c.most-most.result c.worker.result _ c.in-Begin.node c.in-Begin.e c.machine.ensures c.most-most.ensures c.worker.ensures c.in-Begin.ensures).4

pub returns-in-Leave-clause-after : goal.returns-in-Leave-clause-after
returns-in-Leave-clause-after g c = to_leave g.S.Slot.shape g.S.Slot.gives c.args.pool.now.board.now c.args.hand.now.pass c.requires.of.pass c.machine.result.now c.most-most.result c.worker.result 0 _ c.machine.ensures c.most-most.ensures c.in-Leave.ensures

pub returns-in-Leave-clause-placed : goal.returns-in-Leave-clause-placed
returns-in-Leave-clause-placed g c = leaves_placed (view c.args.hand.now.pass) (view c.args.hand.now.pass) refl

pub returns-in-Leave-clause-rested : goal.returns-in-Leave-clause-rested
returns-in-Leave-clause-rested g c = leaves_rested (view c.args.hand.now.pass)

pub returns-in-Record-clause-placed : goal.returns-in-Record-clause-placed
returns-in-Record-clause-placed g c = recorded_placed c.in-Record.e c.record_own.result (view c.args.hand.now.pass) (view c.record_own.new.hand.pass) c.record_own.ensures.recorded

pub returns-in-Record-clause-rested : goal.returns-in-Record-clause-rested
returns-in-Record-clause-rested g c = recorded_rests c.in-Record.e c.record_own.result (view c.args.hand.now.pass) (view c.record_own.new.hand.pass) c.record_own.ensures.recorded

pub returns-in-Begin-clause-placed : goal.returns-in-Begin-clause-placed
returns-in-Begin-clause-placed g c = begun_placed c.in-Begin.node c.begin_chosen.result (view c.args.hand.now.pass) (view c.begin_chosen.new.hand.pass) c.begin_chosen.ensures.begun

pub returns-in-Begin-clause-rested : goal.returns-in-Begin-clause-rested
returns-in-Begin-clause-rested g c = begun_rests c.in-Begin.node c.begin_chosen.result (view c.args.hand.now.pass) (view c.begin_chosen.new.hand.pass) c.begin_chosen.ensures.begun

pub returns-in-Rest-clause-placed : goal.returns-in-Rest-clause-placed
returns-in-Rest-clause-placed g c = rests_placed (view c.args.hand.now.pass) (view c.args.hand.now.pass) refl

pub returns-in-Rest-clause-rested : goal.returns-in-Rest-clause-rested
returns-in-Rest-clause-rested g c = to_rest g.S.Slot.shape g.S.Slot.gives c.args.pool.now.board.now c.args.hand.now.pass c.requires.of.pass c.machine.result.now c.most-most.result c.worker.result _ c.machine.ensures c.most-most.ensures c.worker.ensures c.in-Rest.ensures

pub returns-in-Leave-clause-out : goal.returns-in-Leave-clause-out
returns-in-Leave-clause-out g c = leaves_out c.args.hand.now.bench c.args.hand.now.bench

pub returns-in-Record-clause-out : goal.returns-in-Record-clause-out
returns-in-Record-clause-out g c =
    recorded_out c.in-Record.e c.record_own.result (view c.args.hand.now.pass) (view c.record_own.new.hand.pass) c.args.hand.now.bench c.record_own.new.hand.bench c.record_own.ensures.recorded

pub returns-in-Rest-clause-out : goal.returns-in-Rest-clause-out
returns-in-Rest-clause-out g c = rests_out c.args.hand.now.bench c.args.hand.now.bench

pub returns-in-Leave-clause-due : goal.returns-in-Leave-clause-due
returns-in-Leave-clause-due g c = leaves_due (IsDue c.args.from) (ChoosesOn c.args.from) (view c.args.hand.now.pass) (view c.args.hand.now.pass) c.args.hand.now.bench c.args.hand.now.bench

pub returns-in-Record-clause-due : goal.returns-in-Record-clause-due
returns-in-Record-clause-due g c =
    let v = view c.args.hand.now.pass in let w = view c.record_own.new.hand.pass in
    let chosen = to_record g.S.Slot.shape g.S.Slot.gives c.args.pool.now.board.now c.args.hand.now.pass c.requires.of.pass c.machine.result.now c.most-most.result c.worker.result _ c.in-Record.e c.machine.ensures c.most-most.ensures c.worker.ensures c.in-Record.ensures in
    let choice = chooses g.S.Slot.shape g.S.Slot.gives c.args.pool.now.board.now c.args.hand.now.pass c.requires.of.pass c.machine.result.now c.most-most.result c.worker.result c.args.from c.in-Record.e c.machine.ensures c.most-most.ensures c.worker.ensures (λ plan h stands few. (c.in-Record.ensures plan h stands few).0) in
    put_due (IsDue c.args.from) (ChoosesOn c.args.from) c.in-Record.e c.record_own.result v w c.args.hand.now.bench c.record_own.new.hand.bench (inl choice) chosen.0 chosen.2 chosen.1
    (recorded_put c.in-Record.e c.record_own.result v w c.record_own.ensures.serving.view c.record_own.ensures.recorded)

pub returns-in-Begin-clause-due : goal.returns-in-Begin-clause-due
returns-in-Begin-clause-due g c =
    let v = view c.args.hand.now.pass in let w = view c.begin_chosen.new.hand.pass in
    let chosen = to_begin g.S.Slot.shape g.S.Slot.gives c.args.pool.now.board.now c.args.hand.now.pass c.requires.of.pass c.machine.result.now c.most-most.result c.worker.result _ c.in-Begin.node c.in-Begin.e c.machine.ensures c.most-most.ensures c.worker.ensures c.in-Begin.ensures in
    let choice = chooses g.S.Slot.shape g.S.Slot.gives c.args.pool.now.board.now c.args.hand.now.pass c.requires.of.pass c.machine.result.now c.most-most.result c.worker.result c.args.from c.in-Begin.e c.machine.ensures c.most-most.ensures c.worker.ensures (λ plan h stands few. (c.in-Begin.ensures plan h stands few).0) in
    chosen_due c.args.from c.in-Begin.e c.in-Begin.node c.begin_chosen.result v w c.args.hand.now.bench c.begin_chosen.new.hand.bench choice chosen.1 c.begin_chosen.ensures.due

pub returns-in-Rest-clause-due : goal.returns-in-Rest-clause-due
returns-in-Rest-clause-due g c = rests_due (IsDue c.args.from) (ChoosesOn c.args.from) (view c.args.hand.now.pass) (view c.args.hand.now.pass) c.args.hand.now.bench c.args.hand.now.bench
