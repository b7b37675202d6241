use Rattle.std.proofs.Common.{◌≡◌, None, [], ap, refl, subst, sym}
use Rattle.gcd_history.proofs.Public.TeamLaws.{nothing_is_held_first}
use Rattle.gcd_row.specs.Passes.{IsGathered}
use Rattle.gcd_row.specs.Views.{held_run}
use Rattle.gcd_row.specs.declared.view.View.{View}
use Rattle.gcd_workers.specs.JobsRuns.{AreLaid}
use Rattle.gcd_workers.proofs.Giving.{jobs_laid}
use Rattle.gcd_workers.proofs.jobs_board.open.Goals as goal

pub returns-clause-jobs : goal.returns-clause-jobs
returns-clause-jobs g c =
    subst (AreLaid c.args.jobs.items) (sym c.in_ok-new.ensures.cells) (jobs_laid c.args.plan.now c.args.jobs.items c.in_ok-tallies.tallies.items)

pub returns-clause-new : goal.returns-clause-new
returns-clause-new g c =
    let is = c.in_ok-new.ensures.view in
    record {
      worker = ap (λ (v : View _). v.worker) is;
      hands = ap (λ (v : View _). v.hands) is;
      held = subst (λ (v : View _). held_run v ≡ None) (sym is) (nothing_is_held_first _ 0);
    }

pub returns-clause-first : goal.returns-clause-first
returns-clause-first g c = let is = c.in_ok-new.ensures.view in (ap (λ (v : View _). v.seen) is, subst (λ (v : View _). IsGathered v []) (sym is) refl)
