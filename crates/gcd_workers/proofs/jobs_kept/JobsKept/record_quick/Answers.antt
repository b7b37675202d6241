use Rattle.std.proofs.Common.{◌≡◌, ◌++◌, ◌∷◌, ◌∙◌, List, [], ap, arith}
use Rattle.std.proofs.lemmas.List.{length_push}
use Rattle.gcd_event.specs.declared.event.Event.{Event}
use Rattle.gcd_history.proofs.Permitted.Fitting.{permitted_fits}
use Rattle.gcd_history.proofs.Public.Laws.{choice_is_permitted}
use Rattle.gcd_loop.proofs.Follows.{alone_more, follows_more}
use Rattle.gcd_machine.proofs.Views.Calls.{valid_stands}
use Rattle.gcd_workers.proofs.AloneSteps.{chosen_uncalled, stays_one, stays_same}
use Rattle.gcd_workers.proofs.States.{own_kept}
use Rattle.gcd_workers.proofs.jobs_kept.JobsKept.record_quick.Goals as goal

pub quick-requires : goal.quick-requires
quick-requires g c =
    let room = c.requires.room in
    let fits = c.requires.run.countable in
    record { plan = c.args.given.now.plan.now; history = c.args.self.now.journal.items; stands = c.requires.run.stands; room = omega (arith, room, fits) }

pub of-requires : goal.of-requires
of-requires g c =
    let plan = c.args.given.now.plan.now in
    let h = c.args.self.now.journal.items in
    let e = c.in-Some.e in
    let stands = c.requires.run.stands in
    let taken = c.in-Some.ensures.taken plan h stands in
    permitted_fits plan h e (valid_stands c.args.self.now.machine plan h stands) (choice_is_permitted plan h 0 0 e taken.chosen).permitted

pub run_ended-requires : goal.run_ended-requires
run_ended-requires g c =
    let plan = c.args.given.now.plan.now in
    let h = c.args.self.now.journal.items in
    let run = c.requires.run in
    let taken = c.in-Some.ensures.taken plan h run.stands in
    record {
      plan = plan;
      history = h;
      stands = taken.stands;
      permitted = (choice_is_permitted plan h 0 0 c.in-Some.e taken.chosen).permitted;
      states_are = run.states_are;
    }

pub returns-in-Some-clause-run : goal.returns-in-Some-clause-run
returns-in-Some-clause-run g c =
    let given = c.args.given.now in let plan = given.plan.now in
    let h = c.args.self.now.journal.items in
    let e = c.in-Some.e in
    let run = c.requires.run in
    let taken = c.in-Some.ensures.taken plan h run.stands in
    let choice = choice_is_permitted plan h 0 0 e taken.chosen in
    let more : c.push_reserved.new.self.items ≡ h ++ e ∷ [] = c.push_reserved.ensures.items
    ∙ (ap (λ (l : List Event). l ++ c.of.result ∷ []) c.in_ok-reserve.ensures.items ∙ ap (λ (x : Event). h ++ x ∷ []) c.of.ensures) in
    rw more (record {
      countable = run.countable;
      own = c.in-Some.ensures.plan ∙ run.own;
      stands = taken.stands;
      few = omega (arith, length_push h e, c.requires.room);
      alone = alone_more h e run.alone choice.by;
      chosen = follows_more plan h e run.chosen (λ work. taken.chosen);
      states_are = c.run_ended.ensures.states plan h taken.stands run.states_are;
      own_jobs = own_kept g.J.Job.gives plan given.jobs.value.items c.args.self.now.states.items c.run_ended.new.states.items c.run_ended.ensures.no_more run.own_jobs;
    })

pub returns-in-Some-clause-stays : goal.returns-in-Some-clause-stays
returns-in-Some-clause-stays g c =
    let plan = c.args.given.now.plan.now in
    let h = c.args.self.now.journal.items in
    let e = c.in-Some.e in
    let taken = c.in-Some.ensures.taken plan h c.requires.run.stands in
    let more : c.push_reserved.new.self.items ≡ h ++ e ∷ [] = c.push_reserved.ensures.items
    ∙ (ap (λ (l : List Event). l ++ c.of.result ∷ []) c.in_ok-reserve.ensures.items ∙ ap (λ (x : Event). h ++ x ∷ []) c.of.ensures) in
    stays_one g.J.Job.gives h c.push_reserved.new.self.items e c.args.self.now.states.items c.run_ended.new.states.items more
    (chosen_uncalled plan h 0 0 e taken.chosen) c.run_ended.ensures.no_more

pub returns-in-None-clause-stays : goal.returns-in-None-clause-stays
returns-in-None-clause-stays g c =
    stays_same g.J.Job.gives c.args.self.now.journal.items _ c.args.self.now.states.items c.args.self.now.states.items c.in_ok-reserve.ensures.items (λ b value may. may)
