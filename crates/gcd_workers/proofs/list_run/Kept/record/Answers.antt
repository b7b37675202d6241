use Rattle.std.proofs.Common.{◌≡◌, ◌++◌, ◌∷◌, ◌∙◌, [], ap, arith}
use Rattle.std.proofs.lemmas.List.{length_push}
use Rattle.gcd_event.specs.declared.event.Event.{Event}
use Rattle.gcd_history.proofs.Permitted.Fitting.{permitted_fits}
use Rattle.gcd_jobs.proofs.ValuesMore.{end_fits}
use Rattle.gcd_loop.proofs.Follows.{accepts_none_more, alone_more, follows_more}
use Rattle.gcd_machine.proofs.Views.Calls.{valid_stands}
use Rattle.gcd_workers.proofs.list_run.Kept.record.Goals as goal

pub apply-requires : goal.apply-requires
apply-requires c =
    let next = c.requires.next in
    let room = next.room in
    let fits = c.requires.run.countable in
    record { plan = c.args.over.now.plan.now; history = c.args.self.now.journal.items; stands = c.requires.run.stands; permitted = next.permitted; room = omega (arith, room, fits) }

pub of-requires : goal.of-requires
of-requires c =
    let plan = c.args.over.now.plan.now in
    let run = c.requires.run in
    permitted_fits plan c.args.self.now.journal.items c.args.e (valid_stands c.args.self.now.machine plan c.args.self.now.journal.items run.stands) c.requires.next.permitted

pub note_end-requires-clause-ends : goal.note_end-requires-clause-ends
note_end-requires-clause-ends c = end_fits c.args.over.now.plan.now c.args.self.now.journal.items c.args.e c.requires.next.permitted

pub hand_over-requires : goal.hand_over-requires
hand_over-requires c =
    let plan = c.args.over.now.plan.now in
    let h = c.args.self.now.journal.items in
    let run = c.requires.run in
    let room = c.requires.next.room in
    let fits = run.countable in
    record { plan = plan; history = h; stands = c.apply.ensures.stands plan h run.stands c.requires.next.permitted; tallies_are = run.tallies_are; room = omega (arith, room, fits) }

pub returns-clause-run : goal.returns-clause-run
returns-clause-run c =
    let plan = c.args.over.now.plan.now in
    let h = c.args.self.now.journal.items in
    let e = c.args.e in
    let next = c.requires.next in
    let run = c.requires.run in
    let more : c.push.new.self.items ≡ h ++ e ∷ [] = c.in_ok-push.ensures.items ∙ ap (λ (x : Event). h ++ x ∷ []) c.of.ensures in
    let stands = c.apply.ensures.stands plan h run.stands next.permitted in
    rw more (record {
      countable = run.countable;
      own = c.apply.ensures.plan ∙ run.own;
      stands = stands;
      few = omega (arith, length_push h e, next.room);
      alone = alone_more h e run.alone next.by;
      chosen = follows_more plan h e run.chosen next.chosen;
      uncalled = accepts_none_more h e run.uncalled next.no_job;
      values = c.note_end.ensures.values h stands run.values;
      tallies_are = c.hand_over.ensures plan h stands run.tallies_are;
    })
