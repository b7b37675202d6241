use Rattle.std.proofs.Common.{◌≡◌, ◌++◌, ◌∷◌, ◌∙◌, [], ap, arith}
use Rattle.std.proofs.lemmas.List.{length_push}
use Rattle.gcd_event.specs.declared.event.Event.{Event}
use Rattle.gcd_history.proofs.Permitted.Fitting.{permitted_fits}
use Rattle.gcd_loop.proofs.Follows.{alone_more, follows_more}
use Rattle.gcd_machine.proofs.Views.Calls.{valid_stands}
use Rattle.gcd_workers.proofs.States.{own_kept}
use Rattle.gcd_workers.proofs.jobs_kept.JobsKept.record.Goals as goal

pub apply-requires : goal.apply-requires
apply-requires g c =
    let next = c.requires.next in
    let room = next.room in
    let fits = c.requires.run.countable in
    record { plan = c.args.given.now.plan.now; history = c.args.self.now.journal.items; stands = c.requires.run.stands; permitted = next.permitted; room = omega (arith, room, fits) }

pub of-requires : goal.of-requires
of-requires g c =
    let plan = c.args.given.now.plan.now in
    let run = c.requires.run in
    permitted_fits plan c.args.self.now.journal.items c.args.e (valid_stands c.args.self.now.machine plan c.args.self.now.journal.items run.stands) c.requires.next.permitted

pub run_ended-requires : goal.run_ended-requires
run_ended-requires g c =
    let plan = c.args.given.now.plan.now in
    let h = c.args.self.now.journal.items in
    let run = c.requires.run in let next = c.requires.next in
    record { plan = plan; history = h; stands = c.apply.ensures.stands plan h run.stands next.permitted; permitted = next.permitted; states_are = run.states_are }

pub returns-clause-run : goal.returns-clause-run
returns-clause-run g c =
    let given = c.args.given.now in let plan = given.plan.now in
    let h = c.args.self.now.journal.items in
    let e = c.args.e in
    let next = c.requires.next in
    let run = c.requires.run in
    let more : c.push.new.self.items ≡ h ++ e ∷ [] = c.in_ok-push.ensures.items ∙ ap (λ (x : Event). h ++ x ∷ []) c.of.ensures in
    let stands = c.apply.ensures.stands plan h run.stands next.permitted in
    rw more (record {
      countable = run.countable;
      own = c.apply.ensures.plan ∙ run.own;
      stands = stands;
      few = omega (arith, length_push h e, next.room);
      alone = alone_more h e run.alone next.by;
      chosen = follows_more plan h e run.chosen next.chosen;
      states_are = c.run_ended.ensures.states plan h stands run.states_are;
      own_jobs = own_kept g.J.Job.gives plan given.jobs.value.items c.args.self.now.states.items c.run_ended.new.states.items c.run_ended.ensures.no_more run.own_jobs;
    })
