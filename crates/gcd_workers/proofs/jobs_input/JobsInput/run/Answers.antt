use Rattle.std.proofs.Common.{◌≡◌, ◌∙◌, ℕ, length, ap, sym, subst}
use Rattle.std.proofs.lemmas.Result.{IfOk-weaker}
use Rattle.gcd_outer.specs.Outside.{ClockState, Seen}
use Rattle.gcd_outer.specs.Tells.{PollerState}
use Rattle.gcd_machine.specs.Stands.{StandsFor}
use Rattle.gcd_row.specs.Passes.{terms_of, view}
use Rattle.gcd_row.specs.declared.view.View.{View}
use Rattle.gcd_steal.specs.declared.bench.Rack.{Rack}
use Rattle.gcd_pool.specs.declared.hand.Pool.{Pool}
use Rattle.gcd_workers.specs.Teams.{IsRoom}
use Rattle.gcd_workers.proofs.Pools.{limits_along}
use Rattle.gcd_workers.specs.declared.jobs_input.JobsInput.{JobsInput}
use Rattle.gcd_workers.proofs.Senders.{runs_front, runs_front_of_fewer}
use Rattle.gcd_workers.proofs.jobs_input.JobsInput.run.Goals as goal

pub run-requires-clause-first : goal.run-requires-clause-first
run-requires-clause-first g c = λ lifetimes outlive d. ap (λ (v : View _). v.seen) (c.new-team.ensures.begun d) ∙ c.in-Ok-open.ensures.first.0

pub new-team-requires-clause-room : goal.new-team-requires-clause-room
new-team-requires-clause-room g c =
    let pass = c.in-Ok-open.pass in let v = view pass in let room = c.in-Ok-new.room in
    let limits = limits_along c.new-pool.ensures.board ∙ c.in-Ok-open.ensures.limits in
    let count : length c.in-Ok.benches.items ≡ (terms_of c.new-pool.result.board.now).limits.workers = c.in-Ok.ensures.count.1 ∙ sym (ap (λ l. l.workers) limits) in
    let stands = subst (λ m. StandsFor m v.terms.plan v.seen) (sym c.machine.ensures) c.in-Ok-open.ensures.pass.stands in
    subst (λ (r : Rack). IsRoom r v.terms.plan v.seen (terms_of c.new-pool.result.board.now).limits.workers room) (sym c.new-pool.ensures.rack)
    (subst (λ (n : ℕ). IsRoom c.in-Ok.rack v.terms.plan v.seen n room) count
    (c.in-Ok-new.ensures c.in-Ok.rack v.terms.plan v.seen c.in-Ok.ensures.benches stands))

pub returns-in-Ok-close-clause-ran : goal.returns-in-Ok-close-clause-ran
returns-in-Ok-close-clause-ran g c =
    let told : Seen PollerState = record { tells = g.P.Poller.tells; before = g.P.Poller.state c.args.poller.now; after = g.P.Poller.state c.run.new.poller } in
    let timed : Seen ClockState = record { tells = g.C.Clock.tells; before = g.C.Clock.state c.args.clock.now; after = g.C.Clock.state c.run.new.clock } in
    let last = c.in-Ok-run.ensures in
    let asked = c.args.self in
    let given : JobsInput g.row.J.Denot = record asked { workers = c.hands_for-workers.result } in
    runs_front_of_fewer g.J.Job.gives g.X.Sent.gives asked c.hands_for-workers.result c.args.front.now c.run.new.intake told timed c.in-Ok-close.run' c.hands_for-workers.ensures.some c.hands_for-workers.ensures.few
    (runs_front g.J.Job.gives g.X.Sent.gives c.in-Ok-open.board c.new-team.result.pool.now.board.now c.in-Ok-run.left.0 given (length c.new-team.result.hands.items)
    c.args.front.now c.run.new.intake told timed c.in-Ok-close.run'
    (ap (λ (p : Pool _). p.board.now) c.new-team.ensures.pool ∙ c.new-pool.ensures.board) last.pass c.in-Ok-open.ensures.plan (ap (λ l. l.most) c.in-Ok-open.ensures.limits)
    (c.new-team.ensures.count ∙ ap (λ l. l.workers) (limits_along c.new-pool.ensures.board ∙ c.in-Ok-open.ensures.limits)) c.in-Ok-close.ensures.journal c.in-Ok-open.ensures.jobs
    c.requires.jobs c.in-Ok-close.ensures.values last.admitted last.ran c.in-Ok-close.ensures.state)

pub returns-then-workers-eq1-clause-ran : goal.returns-then-workers-eq1-clause-ran
returns-then-workers-eq1-clause-ran g c =
    IfOk-weaker c.run_by_one.result _ _ (λ run is.
    runs_front_of_fewer g.J.Job.gives g.X.Sent.gives c.args.self c.hands_for-workers.result c.args.front.now c.run_by_one.new.intake _ _ run
    c.hands_for-workers.ensures.some c.hands_for-workers.ensures.few is)
    c.run_by_one.ensures.ran
