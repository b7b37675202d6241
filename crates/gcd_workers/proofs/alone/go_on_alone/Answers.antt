use Rattle.std.proofs.Common.{refl, subst, arith}
use Rattle.gcd_turn.specs.Outsides.{faced}
use Rattle.gcd_workers.specs.ListRuns.{IsKept}
use Rattle.gcd_workers.specs.declared.over.Over.{Over}
use Rattle.gcd_workers.proofs.GoingOn.{went_alone}
use Rattle.gcd_workers.proofs.alone.go_on_alone.Goals as goal

pub returns-clause-went : goal.returns-clause-went
returns-clause-went g c =
    let old = c.args.run in let last = c.run_turns.new.run in
    let f = faced g.P.Poller.tells g.C.Clock.tells g.P.Poller.state g.C.Clock.state c.args.outside.now c.run_turns.new.outside in
    let kept = c.run_turns.ensures.kept old (refl, refl) in
    let left : IsKept old.over last.kept = subst (λ (o : Over). IsKept o last.kept) kept.0 (c.in_ok-run_turns.ensures.left c.in-Ended.is) in
    went_alone old.over last.kept old.kept.journal.items f c.outcome_of.result left (c.in_ok-run_turns.ensures.ended c.in-Ended.is) c.in_ok-run_turns.ensures.going
    c.outcome_of.ensures.journal c.outcome_of.ensures.values c.outcome_of.ensures.machine (c.outcome_of.ensures.state old.over.plan.now last.kept.journal.items left.stands)

pub unreachable-requires : goal.unreachable-requires
unreachable-requires g c =
    let same = (c.run_turns.ensures.kept c.args.run (refl, refl)).1 in
    let more = (c.in_ok-run_turns.ensures.stopped c.in-Stopped.is).2 in
    let one = c.requires.alone in
    omega (arith, same, more, one)
