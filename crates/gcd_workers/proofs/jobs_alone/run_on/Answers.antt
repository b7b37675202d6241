use Rattle.std.proofs.Common.{refl, subst}
use Rattle.gcd_workers.specs.JobsAlone.{KeepsAlone}
use Rattle.gcd_workers.specs.JobsKept.{IsAlone}
use Rattle.gcd_workers.proofs.jobs_alone.run_on.Goals as goal

pub returns-clause-same_intake : goal.returns-clause-same_intake
returns-clause-same_intake g c = (c.run_turns.ensures.kept c.args.alone.now (record { given = refl; front = refl; kept = refl; intake = refl })).intake

pub returns-in_err-run_turns-clause-same_intake : goal.returns-in_err-run_turns-clause-same_intake
returns-in_err-run_turns-clause-same_intake g c = (c.run_turns.ensures.kept c.args.alone.now (record { given = refl; front = refl; kept = refl; intake = refl })).intake

pub returns-clause-went : goal.returns-clause-went
returns-clause-went g c =
    let old = c.args.alone.now in let new = c.run_turns.new.run in
    let kept : KeepsAlone old new = c.run_turns.ensures.kept old (record { given = refl; front = refl; kept = refl; intake = refl }) in
    record {
      ended = c.in_ok-run_turns.ensures.ended c.in-Ended.is;
      going = c.in_ok-run_turns.ensures.going;
      alone = subst (λ x. IsAlone g.J.Job.gives g.X.Sent.gives x new.kept.now old.front.now new.intake.now) kept.given
          (subst (λ x. IsAlone g.J.Job.gives g.X.Sent.gives new.given.now new.kept.now x new.intake.now) kept.front (c.in_ok-run_turns.ensures.left c.in-Ended.is));
    }

pub returns-clause-same_kept : goal.returns-clause-same_kept
returns-clause-same_kept g c = (c.run_turns.ensures.kept c.args.alone.now (record { given = refl; front = refl; kept = refl; intake = refl })).kept

pub returns-in_err-run_turns-clause-same_kept : goal.returns-in_err-run_turns-clause-same_kept
returns-in_err-run_turns-clause-same_kept g c = (c.run_turns.ensures.kept c.args.alone.now (record { given = refl; front = refl; kept = refl; intake = refl })).kept
