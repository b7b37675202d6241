-- Steps of a rush, and the bound of events under which it goes.
use Rattle.std.proofs.Common.{◌<◌, ◌≤◌, ◌^◌, ℕ, List, length, sym, subst, arith}
use Rattle.gcd_plan.specs.PlanView.{PlanView}
use Rattle.gcd_event.specs.declared.event.Event.{Event}
use Rattle.gcd_loop.specs.Rushed.{IsRushed}
use Rattle.gcd_loop.proofs.Rushes.{rushed_more}
use Rattle.gcd_machine.specs.Calm.{IsCalm}
use Rattle.gcd_workers.specs.ListRuns.{IsChosen, IsKept}
use Rattle.gcd_workers.specs.declared.list_run.Kept.{Kept}
use Rattle.gcd_workers.specs.declared.over.Over.{Over}

-- one event more is rushed through
pub one_more : (plan : PlanView) (h k l : List Event) (e : Event) → IsRushed plan h k → IsCalm plan k → IsChosen plan k l e → IsRushed plan h l
one_more plan h k l e rushed calm one = subst (IsRushed plan h) (sym one.is) (rushed_more plan h k e rushed calm one.chosen)

-- the same run, of which fewer events are wanted for now
abbrev pub till : Over → ℕ → Over
till over most = record { plan = over.plan; files = over.files; most = most }

pub kept_till : (over : Over) (most : ℕ) (kept : Kept) → most ≤ over.most → length kept.journal.items ≤ most → IsKept over kept → IsKept (till over most) kept
kept_till over most kept low few run =
    let countable = run.countable in
    record {
      countable = omega (arith, countable, low);
      own = run.own;
      stands = run.stands;
      few = few;
      alone = run.alone;
      chosen = run.chosen;
      uncalled = run.uncalled;
      values = run.values;
      tallies_are = run.tallies_are;
    }

pub kept_on : (over : Over) (most : ℕ) (kept : Kept) → most ≤ over.most → over.most < 2 ^ 32 → IsKept (till over most) kept → IsKept over kept
kept_on over most kept low countable run =
    let few = run.few in
    record {
      countable = countable;
      own = run.own;
      stands = run.stands;
      few = omega (arith, few, low);
      alone = run.alone;
      chosen = run.chosen;
      uncalled = run.uncalled;
      values = run.values;
      tallies_are = run.tallies_are;
    }
