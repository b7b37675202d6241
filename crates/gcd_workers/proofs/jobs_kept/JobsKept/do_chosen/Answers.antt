use Rattle.gcd_history.proofs.Public.Laws.{choice_is_permitted}
use Rattle.gcd_loop.proofs.Steps.{grows_one}
use Rattle.gcd_workers.proofs.AloneSteps.{chosen_uncalled, on_ok, stays_one}
use Rattle.gcd_workers.proofs.jobs_kept.JobsKept.do_chosen.Goals as goal

pub record-requires-clause-next : goal.record-requires-clause-next
record-requires-clause-next g c =
    let choice = choice_is_permitted c.args.given.now.plan.now c.args.self.now.journal.items 0 0 c.args.e c.requires.chosen in
    record { permitted = choice.permitted; room = c.requires.room; by = choice.by; chosen = λ work. c.requires.chosen }

pub returns-clause-grows : goal.returns-clause-grows
returns-clause-grows g c =
    let h = c.args.self.now.journal.items in
    let choice = choice_is_permitted c.args.given.now.plan.now h 0 0 c.args.e c.requires.chosen in
    on_ok c.record.result (λ is. grows_one h c.record.new.self.journal.items c.args.e is choice.work) c.record.ensures.journal

pub returns-clause-stays : goal.returns-clause-stays
returns-clause-stays g c =
    let old = c.args.self.now in let new = c.record.new.self in
    on_ok c.record.result (λ is. stays_one g.J.Job.gives old.journal.items new.journal.items c.args.e old.states.items new.states.items is (chosen_uncalled c.args.given.now.plan.now old.journal.items 0 0 c.args.e c.requires.chosen) c.record.ensures.no_more) c.record.ensures.journal
