use Rattle.std.proofs.Common.{arith, refl}
use Rattle.gcd_event.specs.declared.event.Event.TheVariants.{End}
use Rattle.gcd_machine.proofs.Views.Calls.{lawful_stands}
use Rattle.gcd_rounds.proofs.EndsKept.{kept_rest, kept_waits}
use Rattle.gcd_rounds.proofs.Given.{given_end, wait_end}
use Rattle.gcd_rounds.proofs.running.Running.end.Goals as goal

pub returns-clause-ready : goal.returns-clause-ready
returns-clause-ready g c = λ rest others has ready.
    let plan = c.args.plan.now in
    let self = c.args.self.now in
    let h = self.journal.items in
    let x = c.args.done.ending in
    let next = c.requires.next in
    let terms = c.record.ensures.terms in
    let values = c.record.ensures.values in
    let jobs = c.record.ensures.jobs in
    let more = c.in_ok-record.ensures.journal in
    let event = c.event.ensures in
    let count = ready.given.count in
    let within = c.requires.within in
    record {
      given = rw (more, event, terms, values) (given_end g.J.Job.gives plan self.terms.jobs.value.items h c.args.done self.values.items (omega (arith, count, within)) (ready.kept.at_end 0 x refl).works has ready.given);
      count = rw jobs ready.count;
      wait = rw (more, event, terms, jobs) (wait_end self.terms.most plan self.terms.jobs.value.items h x self.jobs.items rest next.permitted ready.wait);
      kept = rw (more, event, terms) (kept_waits plan self.terms.workers h (End x.worker x.blk) rest (lawful_stands self.machine plan h c.requires.run.stands)
          next.permitted next.below others (kept_rest plan self.terms.workers h x rest ready.kept));
    }
