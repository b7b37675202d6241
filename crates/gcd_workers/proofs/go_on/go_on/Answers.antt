use Rattle.std.proofs.Common.{◌≡◌, ◌∙◌, ℕ, List, length, ap, subst, sym, arith}
use Rattle.std.specs.Prelude.{slice_index_or}
use Rattle.gcd_facts.proofs.Lists.{one_of}
use Rattle.gcd_plan.specs.PlanView.{PlanView}
use Rattle.gcd_event.specs.declared.event.Event.{Event}
use Rattle.gcd_history.specs.Ends.{HasState}
use Rattle.gcd_history.specs.Intake.{AcceptsNone}
use Rattle.gcd_history.specs.Team.{StartsWith}
use Rattle.gcd_loop.specs.Going.{GoesOn}
use Rattle.gcd_machine.specs.Stands.{StandsFor}
use Rattle.gcd_row.specs.Passes.{IsPassOf, terms_of, view}
use Rattle.gcd_row.specs.declared.board.RowBoard.{RowBoard}
use Rattle.gcd_row.specs.Shapes.{gives_of}
use Rattle.gcd_row.specs.declared.view.View.{View}
use Rattle.gcd_steal.specs.declared.bench.Rack.{Rack}
use Rattle.gcd_pool.specs.Leads.{Follows}
use Rattle.gcd_pool.specs.declared.hand.Pool.{Pool}
use Rattle.gcd_turn.specs.Outsides.{faced}
use Rattle.gcd_workers.specs.JobsRuns.{tally_shape}
use Rattle.gcd_workers.specs.Opened.{file_gives}
use Rattle.gcd_workers.specs.Teams.{HasLed, IsRoom, bounds_on}
use Rattle.gcd_workers.proofs.GoingOn.{went_by_more, went_by_team}
use Rattle.gcd_workers.proofs.Nobody.{nobody_admitted}
use Rattle.gcd_workers.proofs.Pools.{limits_along, pool_of}
use Rattle.gcd_workers.proofs.Senders.{calls_none}
use Rattle.gcd_workers.proofs.go_on.go_on.Goals as goal

pub new-team-requires-clause-pool : goal.new-team-requires-clause-pool
new-team-requires-clause-pool g c =
    let made = c.new-pool in
    let count = c.in-Ok-open_after.ensures.cells.count in
    let blocks = ap (λ (p : PlanView). length p.blocks) c.in-Ok-open_after.ensures.plan in
    pool_of made.result c.in-Ok-open_after.opened.0 c.in-Ok.rack c.args.run.over.plan.now made.ensures.board made.ensures.rack made.ensures.plan
    c.in-Ok-open_after.ensures.plan c.in-Ok.ensures.plan (omega (arith, count, blocks))

pub new-team-requires-clause-room : goal.new-team-requires-clause-room
new-team-requires-clause-room g c =
    let over = c.args.run.over in let h = c.args.run.kept.journal.items in
    let opened = c.in-Ok-open_after.ensures in
    let v = view c.in-Ok-open_after.opened.1 in
    let limits = limits_along c.new-pool.ensures.board ∙ opened.limits in
    let count : length c.in-Ok.benches.items ≡ (terms_of c.new-pool.result.board.now).limits.workers = c.in-Ok.ensures.count.1 ∙ sym (ap (λ l. l.workers) limits) in
    let plan : v.terms.plan ≡ over.plan.now = ap (λ t. t.plan) opened.pass.terms ∙ opened.plan in
    let room = c.in-Ok-new.room in
    subst (λ (r : Rack). IsRoom r v.terms.plan v.seen (terms_of c.new-pool.result.board.now).limits.workers room) (sym c.new-pool.ensures.rack)
    (subst (λ (p : PlanView). IsRoom c.in-Ok.rack p v.seen (terms_of c.new-pool.result.board.now).limits.workers room) (sym plan)
    (subst (λ (k : List Event). IsRoom c.in-Ok.rack over.plan.now k (terms_of c.new-pool.result.board.now).limits.workers room) (sym opened.begun)
    (subst (λ (n : ℕ). IsRoom c.in-Ok.rack over.plan.now h n room) count
    (c.in-Ok-new.ensures c.in-Ok.rack over.plan.now h c.in-Ok.ensures.benches c.requires.run.stands))))

pub go_on-requires-clause-admitted : goal.go_on-requires-clause-admitted
go_on-requires-clause-admitted g c = λ lifetimes outlive d.
    nobody_admitted _ _ _ (view (slice_index_or c.new-team.result.hands.items 0 d).pass) _ c.in-Ok-nobodys_front.ensures.senders
    (subst AcceptsNone (sym (ap (λ (v : View _). v.seen) (c.new-team.ensures.begun d) ∙ c.in-Ok-open_after.ensures.begun)) c.requires.run.uncalled)
    c.in-Ok-nobodys_front.ensures.untaken.0 c.in-Ok-nobodys_front.ensures.untaken.1

pub returns-clause-went : goal.returns-clause-went
returns-clause-went g c =
    let kept = c.args.run.kept in let h = kept.journal.items in
    let team = c.new-team.result in
    let board = c.in-Ok-open_after.opened.0 in let theirs = team.pool.now.board.now in
    let last = c.in_ok-last.ensures in
    let v = view c.in_ok-last.last in let k = v.seen in
    let ran = c.in_ok-ran.ran in
    let o = c.in_ok-outcome.outcome in
    let f = faced g.P.Poller.tells g.C.Clock.tells g.P.Poller.state g.C.Clock.state c.args.outside.now c.go_on.new.outside in
    let same : theirs ≡ board = ap (λ (p : Pool _). p.board.now) c.new-team.ensures.pool ∙ c.new-pool.ensures.board in
    let count : length team.hands.items ≡ c.hands-hands.result =
    c.new-team.ensures.count ∙ ap (λ l. l.workers) (limits_along c.new-pool.ensures.board ∙ c.in-Ok-open_after.ensures.limits) in
    let some = c.hands-hands.ensures.some in
    let d = one_of team.hands.items (omega (arith, count, some)) in
    let begun : (view (slice_index_or team.hands.items 0 d).pass).seen ≡ h = ap (λ (w : View _). w.seen) (c.new-team.ensures.begun d) ∙ c.in-Ok-open_after.ensures.begun in
    went_by_more c.args.run.over c.hands-hands.result c.args.workers h f o c.hands-hands.ensures.some c.hands-hands.ensures.few
    (went_by_team c.args.run.over kept board c.in_ok-last.last c.hands-hands.result f o ran.values.items c.requires.run c.in-Ok-open_after.ensures.plan
    (ap (λ l. l.most) c.in-Ok-open_after.ensures.limits) c.in-Ok-open_after.ensures.cells
    (subst (λ (b : RowBoard _). IsPassOf tally_shape (gives_of file_gives) b c.in_ok-last.last) same last.pass)
    (subst (λ (n : ℕ). HasLed n v) count last.led)
    (calls_none _ k c.in-Ok-nobodys_front.ensures.senders last.admitted.senders)
    (subst (StartsWith k) begun (last.grows d))
    (subst (λ (b : RowBoard _). GoesOn (bounds_on b) h k f) same (subst (λ (l : List Event). GoesOn (bounds_on theirs) l k f) begun (last.going d)))
    (λ one. subst (λ (b : RowBoard _). Follows (terms_of b).plan h k) same (subst (λ (l : List Event). Follows (terms_of theirs).plan l k) begun (last.follows (count ∙ one) d)))
    c.in_ok-ran.ensures.values (ap (λ w. w.items) c.in_ok-outcome.ensures.journal ∙ c.in_ok-ran.ensures.journal) c.in_ok-outcome.ensures.values
    (subst (λ m. StandsFor m (terms_of board).plan k) (sym c.in_ok-outcome.ensures.machine) c.in_ok-ran.ensures.stands)
    (subst (HasState (terms_of board).plan k) (sym c.in_ok-outcome.ensures.state) c.in_ok-ran.ensures.state))
