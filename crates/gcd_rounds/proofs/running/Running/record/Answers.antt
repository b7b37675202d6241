use Rattle.std.proofs.Common.{◌≡◌, ◌++◌, ◌∷◌, ◌∙◌, [], ap, arith}
use Rattle.std.proofs.lemmas.List.{length_push}
use Rattle.gcd_event.specs.declared.event.Event.{Event}
use Rattle.gcd_history.proofs.Permitted.Fitting.{permitted_fits}
use Rattle.gcd_machine.proofs.Views.Calls.{lawful_stands, valid_stands}
use Rattle.gcd_loop.proofs.Follows.{accepts_none_more, follows_more, workers_more}
use Rattle.gcd_rounds.proofs.EndsKept.{kept_waits}
use Rattle.gcd_rounds.proofs.Given.{given_same, wait_same}
use Rattle.gcd_rounds.proofs.running.Running.record.Goals as goal

pub of-requires : goal.of-requires
of-requires g c =
    let plan = c.args.plan.now in
    let self = c.args.self.now in
    permitted_fits plan self.journal.items c.args.e (valid_stands self.machine plan self.journal.items c.requires.run.stands) c.requires.next.permitted

pub apply-requires : goal.apply-requires
apply-requires g c =
    let run = c.requires.run in
    let room = c.requires.next.room in
    let countable = run.countable in
    record {
      plan = c.args.plan.now;
      history = c.args.self.now.journal.items;
      stands = run.stands;
      permitted = c.requires.next.permitted;
      room = omega (arith, room, countable);
    }

pub hand_over-requires-clause-recorded : goal.hand_over-requires-clause-recorded
hand_over-requires-clause-recorded g c =
    let run = c.requires.run in
    let room = c.requires.next.room in
    let countable = run.countable in
    record {
      history = c.args.self.now.journal.items;
      stands = c.apply.ensures.stands c.args.plan.now c.args.self.now.journal.items run.stands c.requires.next.permitted;
      own = c.apply.ensures.plan ∙ run.own;
      room = omega (arith, room, countable);
      taken = run.taken;
    }

pub returns-clause-run : goal.returns-clause-run
returns-clause-run g c =
    let plan = c.args.plan.now in
    let h = c.args.self.now.journal.items in
    let e = c.args.e in
    let workers = c.args.self.now.terms.workers in
    let next = c.requires.next in
    let run = c.requires.run in
    let more : c.push.new.self.items ≡ h ++ e ∷ [] = c.in_ok-push.ensures.items ∙ ap (λ (x : Event). h ++ x ∷ []) c.of.ensures in
    let stands = c.apply.ensures.stands plan h run.stands next.permitted in
    record {
      some = run.some;
      countable = run.countable;
      own = c.apply.ensures.plan ∙ run.own;
      stands = rw more stands;
      few = let room = next.room in rw more (omega (arith, length_push h e, room));
      by = rw more (workers_more workers h e run.by next.below);
      chosen = λ one. rw more (follows_more plan h e (run.chosen one) (next.chosen one));
      uncalled = rw more (accepts_none_more h e run.uncalled next.no_job);
      places = run.places;
      taken = rw more (c.hand_over.ensures h stands run.taken);
    }

pub returns-clause-ready : goal.returns-clause-ready
returns-clause-ready g c = λ kept only others ready.
    let plan = c.args.plan.now in
    let self = c.args.self.now in
    let h = self.journal.items in
    let e = c.args.e in
    let next = c.requires.next in
    let more : c.push.new.self.items ≡ h ++ e ∷ [] = c.in_ok-push.ensures.items ∙ ap (λ (x : Event). h ++ x ∷ []) c.of.ensures in
    record {
      given = rw more (given_same g.J.Job.gives plan self.terms.jobs.value.items h e self.values.items (lawful_stands self.machine plan h c.requires.run.stands) only ready.given);
      count = ready.count;
      wait = rw more (wait_same self.terms.most plan self.terms.jobs.value.items h e self.jobs.items kept next.permitted ready.wait);
      kept = rw more (kept_waits plan self.terms.workers h e kept (lawful_stands self.machine plan h c.requires.run.stands) next.permitted next.below others ready.kept);
    }
