use Rattle.std.proofs.Common.{List, [], refl, subst, arith}
use Rattle.gcd_event.specs.declared.event.Event.{Event}
use Rattle.gcd_turn.specs.Outsides.{Faced, faced}
use Rattle.gcd_loop.specs.Going.{GoesOn}
use Rattle.gcd_loop.proofs.Goings.{keeps_through}
use Rattle.gcd_workers.specs.ListRuns.{IsKept}
use Rattle.gcd_workers.specs.Ran.{GoesOnOverFiles, bounds_over}
use Rattle.gcd_workers.specs.declared.over.Over.{Over}
use Rattle.gcd_workers.proofs.GoingOn.{went_alone, went_by_more, went_through}
use Rattle.gcd_workers.proofs.Opened.{stops_at_first}
use Rattle.gcd_workers.proofs.workers.run_on.Goals as goal

pub go_on-requires-clause-stopped : goal.go_on-requires-clause-stopped
go_on-requires-clause-stopped g c = λ lifetimes outlive. stops_at_first c.args.run.over.plan.now c.args.run.kept.journal.items c.requires.first

pub returns-then-is_team-clause-went : goal.returns-then-is_team-clause-went
returns-then-is_team-clause-went g c =
    let run = c.args.run in
    let f = faced g.P.Poller.tells g.C.Clock.tells g.P.Poller.state g.C.Clock.state c.args.outside.now c.go_on.new.outside in
    subst (λ (h : List Event). GoesOnOverFiles run.over c.args.workers h f c.in_ok-outcome.outcome) c.requires.first c.in_ok-outcome.ensures.went

pub returns-in-Ended-clause-went : goal.returns-in-Ended-clause-went
returns-in-Ended-clause-went g c =
    let old = c.args.run in let last = c.run_turns.new.run in
    let f = faced g.P.Poller.tells g.C.Clock.tells g.P.Poller.state g.C.Clock.state c.args.outside.now c.run_turns.new.outside in
    let kept = c.run_turns.ensures.kept old (refl, refl) in
    let left : IsKept old.over last.kept = subst (λ (o : Over). IsKept o last.kept) kept.0 (c.in_ok-run_turns.ensures.left c.in-Ended.is) in
    let going : GoesOn (bounds_over old.over) [] last.kept.journal.items f =
    subst (λ (h : List Event). GoesOn (bounds_over old.over) h last.kept.journal.items f) c.requires.first c.in_ok-run_turns.ensures.going in
    went_by_more old.over 1 c.args.workers [] f c.outcome_of.result (omega arith) (omega (arith, c.requires.workers.0))
    (went_alone old.over last.kept [] f c.outcome_of.result left (c.in_ok-run_turns.ensures.ended c.in-Ended.is) going
    c.outcome_of.ensures.journal c.outcome_of.ensures.values c.outcome_of.ensures.machine (c.outcome_of.ensures.state old.over.plan.now last.kept.journal.items left.stands))

pub returns-in_ok-outcome-in-Stopped-clause-went : goal.returns-in_ok-outcome-in-Stopped-clause-went
returns-in_ok-outcome-in-Stopped-clause-went g c =
    let old = c.args.run in let last = c.run_turns.new.run in let o = c.in_ok-outcome-in-Stopped.outcome in
    let first = c.args.outside.now in let between = c.run_turns.new.outside in let end = c.go_on-in-Stopped.new.outside in
    let f : Faced = faced g.P.Poller.tells g.C.Clock.tells g.P.Poller.state g.C.Clock.state first between in
    let l : Faced = faced g.P.Poller.tells g.C.Clock.tells g.P.Poller.state g.C.Clock.state between end in
    let kept = c.run_turns.ensures.kept old (refl, refl) in
    let going : GoesOn (bounds_over old.over) [] last.kept.journal.items f =
    subst (λ (h : List Event). GoesOn (bounds_over old.over) h last.kept.journal.items f) c.requires.first c.in_ok-run_turns.ensures.going in
    went_through old.over c.args.workers [] last.kept.journal.items f l o
    (record { poller_tells = refl; clock_tells = refl; poller = refl; clock = refl; outlook = refl }) going
    (subst (λ (x : Over). GoesOnOverFiles x c.args.workers last.kept.journal.items l o) kept.0 c.in_ok-outcome-in-Stopped.ensures.went)

pub returns-in_ok-outcome-in-Stopped-clause-kept : goal.returns-in_ok-outcome-in-Stopped-clause-kept
returns-in_ok-outcome-in-Stopped-clause-kept g c =
    keeps_through g.P.Poller.tells (g.P.Poller.state c.args.outside.now.poller.now) (g.P.Poller.state c.run_turns.new.outside.poller.now)
    (g.P.Poller.state c.go_on-in-Stopped.new.outside.poller.now) c.run_turns.ensures.listens c.go_on-in-Stopped.ensures.kept

pub returns-in_err-outcome-in-Stopped-clause-kept : goal.returns-in_err-outcome-in-Stopped-clause-kept
returns-in_err-outcome-in-Stopped-clause-kept g c =
    keeps_through g.P.Poller.tells (g.P.Poller.state c.args.outside.now.poller.now) (g.P.Poller.state c.run_turns.new.outside.poller.now)
    (g.P.Poller.state c.go_on-in-Stopped.new.outside.poller.now) c.run_turns.ensures.listens c.go_on-in-Stopped.ensures.kept
