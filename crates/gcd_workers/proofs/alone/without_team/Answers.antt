use Rattle.std.proofs.Common.{sym, subst, arith}
use Rattle.gcd_turn.specs.Outsides.{faced}
use Rattle.gcd_workers.specs.ListRuns.{IsKept}
use Rattle.gcd_workers.specs.Ran.{GoesOnOverFiles}
use Rattle.gcd_workers.specs.declared.list_run.Kept.{Kept}
use Rattle.gcd_workers.specs.declared.over.Over.{Over}
use Rattle.gcd_workers.proofs.GoingOn.{went_by_more}
use Rattle.gcd_workers.proofs.alone.without_team.Goals as goal

pub go_on_alone-requires-clause-run : goal.go_on_alone-requires-clause-run
go_on_alone-requires-clause-run g c =
    let run = c.alone-run.result in
    subst (λ (o : Over). IsKept o run.kept) (sym c.alone-run.ensures.parts.0) (subst (IsKept c.args.over) (sym c.alone-run.ensures.parts.1) c.requires.run)

pub returns-clause-went : goal.returns-clause-went
returns-clause-went g c =
    let run = c.alone-run.result in let o = c.in_ok-outcome.outcome in
    let h = c.args.kept.journal.items in
    let f = faced g.P.Poller.tells g.C.Clock.tells g.P.Poller.state g.C.Clock.state c.args.outside.now c.go_on_alone.new.outside in
    let some = c.requires.some in
    went_by_more c.args.over 1 c.args.workers h f o (omega arith) (omega (arith, some))
    (subst (λ (k : Kept). GoesOnOverFiles c.args.over 1 k.journal.items f o) c.alone-run.ensures.parts.1
    (subst (λ (x : Over). GoesOnOverFiles x 1 run.kept.journal.items f o) c.alone-run.ensures.parts.0 c.in_ok-outcome.ensures.went))
