use Rattle.gcd_history.proofs.Public.Laws.{choice_is_permitted}
use Rattle.std.proofs.Common.{refl, sym}
use Rattle.gcd_workers.proofs.AloneSteps.{chosen_uncalled, stays_one, stays_same}
use Rattle.gcd_workers.proofs.jobs_kept.JobsKept.record_choice.Goals as goal

pub record-requires-clause-next : goal.record-requires-clause-next
record-requires-clause-next g c =
    let plan = c.args.given.now.plan.now in let h = c.args.self.now.journal.items in
    let chosen = sym (c.in-Some.ensures.choice plan h c.requires.run.stands) in
    let choice = choice_is_permitted plan h 0 0 c.in-Some.e chosen in
    record { permitted = choice.permitted; room = c.requires.room; by = choice.by; chosen = λ work. chosen }

pub returns-in-None-clause-stays : goal.returns-in-None-clause-stays
returns-in-None-clause-stays g c = stays_same g.J.Job.gives c.args.self.now.journal.items c.args.self.now.journal.items c.args.self.now.states.items c.args.self.now.states.items refl (λ b value may. may)

pub returns-in_ok-record-in-Some-clause-stays : goal.returns-in_ok-record-in-Some-clause-stays
returns-in_ok-record-in-Some-clause-stays g c =
    let plan = c.args.given.now.plan.now in let h = c.args.self.now.journal.items in
    let chosen = sym (c.in-Some.ensures.choice plan h c.requires.run.stands) in
    stays_one g.J.Job.gives h c.record.new.self.journal.items c.in-Some.e c.args.self.now.states.items c.record.new.self.states.items c.in_ok-record-in-Some.ensures.journal
    (chosen_uncalled plan h 0 0 c.in-Some.e chosen) c.record.ensures.no_more
