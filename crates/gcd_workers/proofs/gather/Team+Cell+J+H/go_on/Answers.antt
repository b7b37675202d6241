use Rattle.std.proofs.Common.{◌∙◌, ℕ, List, length, subst, sym, arith}
use Rattle.std.specs.Prelude.{slice_index_or}
use Rattle.gcd_facts.proofs.Lists.{one_of}
use Rattle.gcd_event.specs.declared.event.Event.{Event}
use Rattle.gcd_history.specs.Ends.{HasEnded}
use Rattle.gcd_history.specs.Team.{StartsWith}
use Rattle.gcd_row.specs.Passes.{terms_of, view}
use Rattle.gcd_row.specs.Shapes.{gives_of, shape_of}
use Rattle.gcd_row.specs.declared.view.Terms.{Terms}
use Rattle.gcd_turn.specs.Outsides.{faced}
use Rattle.gcd_loop.specs.Going.{GoesOn}
use Rattle.gcd_pool.specs.Leads.{Follows}
use Rattle.gcd_workers.specs.Teams.{HasLed, bounds_on}
use Rattle.gcd_workers.proofs.Senders.{admitted_after}
use Rattle.gcd_workers.proofs.Hires.{by_board, ended_after, gathered_after}
use Rattle.gcd_workers.proofs.gather.Team+Cell+J+H.go_on.Goals as goal

pub pool_run-requires-clause-asks : goal.pool_run-requires-clause-asks
pool_run-requires-clause-asks g c = λ lifetimes outlive d zero_is. (c.requires.few, c.requires.intake, c.requires.admitted d)

pub take_all-pass-requires-clause-gathered : goal.take_all-pass-requires-clause-gathered
take_all-pass-requires-clause-gathered g c = λ d.
    gathered_after (shape_of g.H.Handler.kind g.H.Handler.times g.H.Handler.total) (gives_of g.J.Job.gives) c.args.self.pool.now c.args.self.hands.items
    c.pool_run.new.hands.items c.requires.some.0 c.in-Ok.ensures.served c.requires.team.head d

pub look_round-requires-clause-ended : goal.look_round-requires-clause-ended
look_round-requires-clause-ended g c =
    let d = one_of c.args.self.hands.items c.requires.some.0 in
    let board = c.args.self.pool.now.board.now in
    subst (λ (h : List Event). HasEnded (terms_of board).limits.most (terms_of board).plan h) (sym (c.take_all-pass.ensures.seen d))
    (ended_after (shape_of g.H.Handler.kind g.H.Handler.times g.H.Handler.total) (gives_of g.J.Job.gives) c.args.self.pool.now c.args.self.hands.items
    c.pool_run.new.hands.items c.requires.some.0 c.in-Ok.ensures.served d)

pub returns-in-Ok-clause-gathered : goal.returns-in-Ok-clause-gathered
returns-in-Ok-clause-gathered g c = c.look_round.ensures.gathered c.take_all-pass.result.1.items c.take_all-pass.ensures.gathered

pub returns-in-Ok-clause-led : goal.returns-in-Ok-clause-led
returns-in-Ok-clause-led g c =
    let count = c.pool_run.ensures.count in
    let many = c.requires.some.0 in
    subst (λ (n : ℕ). HasLed n (view c.look_round.new.pass)) count
    (c.look_round.ensures.led (length c.pool_run.new.hands.items) (omega (arith, count, many)) c.take_all-pass.ensures.head)

pub returns-in-Ok-clause-grows : goal.returns-in-Ok-clause-grows
returns-in-Ok-clause-grows g c = λ d.
    let old = slice_index_or c.args.self.hands.items 0 d in
    subst (λ (l : List Event). StartsWith l (view old.pass).seen) (sym (c.look_round.ensures.seen ∙ c.take_all-pass.ensures.seen d))
    (c.in-Ok.ensures.served 0 d c.requires.some.0).serving.view.more

pub returns-in-Ok-clause-going : goal.returns-in-Ok-clause-going
returns-in-Ok-clause-going g c = λ d.
    let pool = c.args.self.pool.now in
    let old = slice_index_or c.args.self.hands.items 0 d in
    let h = (view old.pass).seen in let k = (view (slice_index_or c.pool_run.new.hands.items 0 d).pass).seen in
    let f = faced g.P.Poller.tells g.C.Clock.tells g.P.Poller.state g.C.Clock.state c.args.outside.now c.pool_run.new.outside in
    subst (λ (l : List Event). GoesOn (bounds_on pool.board.now) h l f) (sym (c.look_round.ensures.seen ∙ c.take_all-pass.ensures.seen d))
    (by_board (shape_of g.H.Handler.kind g.H.Handler.times g.H.Handler.total) (gives_of g.J.Job.gives) pool old
    (λ (t : Terms _). GoesOn (record { plan = t.plan; most = t.limits.most }) h k f)
    (c.requires.team.hands 0 d c.requires.some.0).ready
    ((c.pool_run.ensures.led d).led.going (c.in-Ok.field-0, c.in-Ok.is) (c.requires.team.head d).worker))

pub returns-in-Ok-clause-follows : goal.returns-in-Ok-clause-follows
returns-in-Ok-clause-follows g c = λ one d.
    let pool = c.args.self.pool.now in
    let old = slice_index_or c.args.self.hands.items 0 d in
    let h = (view old.pass).seen in let k = (view (slice_index_or c.pool_run.new.hands.items 0 d).pass).seen in
    subst (λ (l : List Event). Follows (terms_of pool.board.now).plan h l) (sym (c.look_round.ensures.seen ∙ c.take_all-pass.ensures.seen d))
    (by_board (shape_of g.H.Handler.kind g.H.Handler.times g.H.Handler.total) (gives_of g.J.Job.gives) pool old (λ (t : Terms _). Follows t.plan h k)
    (c.requires.team.hands 0 d c.requires.some.0).ready ((c.pool_run.ensures.led d).led.follows one (c.requires.team.head d).worker))

pub returns-in-Ok-clause-intake : goal.returns-in-Ok-clause-intake
returns-in-Ok-clause-intake g c =
    let d = one_of c.args.self.hands.items c.requires.some.0 in
    (c.pool_run.ensures.led d).of_front (c.in-Ok.field-0, c.in-Ok.is) (c.requires.team.head d).worker

pub returns-in-Ok-clause-admitted : goal.returns-in-Ok-clause-admitted
returns-in-Ok-clause-admitted g c =
    let d = one_of c.args.self.hands.items c.requires.some.0 in
    admitted_after (gives_of g.J.Job.gives) g.X.Sent.gives c.args.front.now (shape_of g.H.Handler.kind g.H.Handler.times g.H.Handler.total) c.args.self.pool.now
    c.args.self.hands.items c.pool_run.new.hands.items c.look_round.new.pass c.pool_run.new.intake d c.requires.some.0 c.in-Ok.ensures.served c.look_round.ensures.pass
    (c.look_round.ensures.handed ∙ c.take_all-pass.ensures.handed d) (c.look_round.ensures.seen ∙ c.take_all-pass.ensures.seen d)
    ((c.pool_run.ensures.led d).admitted (c.in-Ok.field-0, c.in-Ok.is) (c.requires.team.head d).worker)

pub returns-in-Ok-clause-kept : goal.returns-in-Ok-clause-kept
returns-in-Ok-clause-kept g c =
    let d = one_of c.args.self.hands.items c.requires.some.0 in
    (c.pool_run.ensures.led d).led.kept (c.requires.team.head d).worker

pub returns-in-Err-clause-kept : goal.returns-in-Err-clause-kept
returns-in-Err-clause-kept g c =
    let d = one_of c.args.self.hands.items c.requires.some.0 in
    (c.pool_run.ensures.led d).led.kept (c.requires.team.head d).worker
