use Rattle.std.proofs.Common.{◌≡◌, ◌<◌, ◌∙◌, ◌++◌, ◌∷◌, [], true, false, length, sym, subst, arith}
use Rattle.std.proofs.lemmas.Option.{slice_get_within}
use Rattle.gcd_event.specs.declared.event.Event.{Event}
use Rattle.gcd_history.specs.History.{is_block_cancelled}
use Rattle.gcd_jobs.proofs.ValuesMore.{ended_block, none_ended, source_ended}
use Rattle.gcd_workers.specs.JobStates.{AreStates}
use Rattle.gcd_workers.specs.declared.job_state.JobState.TheVariants.{Waits}
use Rattle.gcd_workers.proofs.States.{ran_no_more, states_cancelled, states_ended, states_same, waits_at_end}
use Rattle.gcd_workers.proofs.AloneSteps.{before, end_low}
use Rattle.gcd_workers.proofs.jobs_kept.run_ended.Goals as goal

pub run_job-requires : goal.run_job-requires
run_job-requires g c =
    let t = c.requires in let b = c.in-Some-Block.blk in
    let end = ended_block c.args.e b (rw c.in-Some-Block.field-0-is at c.in-Some-Block.ensures) in
    let may = rw end.1 at t.permitted in
    waits_at_end g.J.Job.gives t.plan t.history end.0 b c.args.states.now.items (before t.plan t.history c.args.e c.args.machine.now t.stands) may
    (end_low t.plan t.history end.0 b may) t.states_are

pub returns-then-not-is_cancelled-clause-states : goal.returns-then-not-is_cancelled-clause-states
returns-then-not-is_cancelled-clause-states g c = λ plan h stands are.
    let e = c.args.e in let b = c.in-Some-Block.blk in
    let old = c.args.states.now.items in let new = c.run_job.new.states.items in
    let end = ended_block e b (rw c.in-Some-Block.field-0-is at c.in-Some-Block.ensures) in
    let within = slice_get_within old b.0 (Waits c.run_job.ensures.job) c.run_job.ensures.was in
    let count = are.count in
    let low : b.0 < length plan.blocks = omega (arith, within, count) in
    let live : is_block_cancelled plan (h ++ e ∷ []) b.0 ≡ false = sym (c.is_cancelled.ensures plan (h ++ e ∷ []) stands) ∙ c.if-not-is_cancelled.true in
    subst (λ (x : Event). AreStates plan (h ++ x ∷ []) new) (sym end.1)
    (states_ended g.J.Job.gives plan h end.0 b old new low (subst (λ (x : Event). is_block_cancelled plan (h ++ x ∷ []) b.0 ≡ false) end.1 live) c.run_job.ensures are)

pub returns-then-not-is_cancelled-clause-no_more : goal.returns-then-not-is_cancelled-clause-no_more
returns-then-not-is_cancelled-clause-no_more g c = ran_no_more g.J.Job.gives c.in-Some-Block.blk.0 c.args.states.now.items c.run_job.new.states.items c.run_job.ensures

pub returns-else-not-is_cancelled-clause-states : goal.returns-else-not-is_cancelled-clause-states
returns-else-not-is_cancelled-clause-states g c = λ plan h stands are.
    let e = c.args.e in let b = c.in-Some-Block.blk in
    let old = c.args.states.now.items in
    let end = ended_block e b (rw c.in-Some-Block.field-0-is at c.in-Some-Block.ensures) in
    let gone : is_block_cancelled plan (h ++ e ∷ []) b.0 ≡ true = sym (c.is_cancelled.ensures plan (h ++ e ∷ []) stands) ∙ c.if-not-is_cancelled.false in
    subst (λ (x : Event). AreStates plan (h ++ x ∷ []) old) (sym end.1)
    (states_cancelled plan h end.0 b old (before plan h e c.args.machine.now stands) (subst (λ (x : Event). is_block_cancelled plan (h ++ x ∷ []) b.0 ≡ true) end.1 gone) are)

pub returns-in-Some-Source-clause-states : goal.returns-in-Some-Source-clause-states
returns-in-Some-Source-clause-states g c = λ plan h stands are.
    states_same plan h c.args.e c.args.states.now.items (before plan h c.args.e c.args.machine.now stands)
    (source_ended c.args.e c.in-Some-Source.field-0-0 (rw c.in-Some-Source.field-0-is at c.in-Some-Source.ensures)) are

pub returns-in-None-clause-states : goal.returns-in-None-clause-states
returns-in-None-clause-states g c = λ plan h stands are.
    states_same plan h c.args.e c.args.states.now.items (before plan h c.args.e c.args.machine.now stands) (none_ended c.args.e c.in-None.ensures) are
