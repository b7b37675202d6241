use Rattle.std.proofs.Common.{◌≡◌, ◌++◌, ◌∷◌, ◌∙◌, List, [], ap, sym, arith}
use Rattle.std.proofs.lemmas.List.{length_push}
use Rattle.gcd_event.specs.declared.event.Event.{Event}
use Rattle.gcd_history.proofs.Permitted.Fitting.{permitted_fits}
use Rattle.gcd_history.proofs.Public.Laws.{choice_is_permitted}
use Rattle.gcd_jobs.proofs.ValuesMore.{end_fits}
use Rattle.gcd_loop.proofs.Events.{work_accepts_none}
use Rattle.gcd_loop.proofs.Follows.{accepts_none_more, alone_more, follows_more}
use Rattle.gcd_machine.proofs.Views.Calls.{valid_stands}
use Rattle.gcd_workers.proofs.HandedOver.{quick_is_no_deliver, tallies_same}
use Rattle.gcd_workers.proofs.list_run.Kept.record_quick.Goals as goal

pub quick-requires : goal.quick-requires
quick-requires c =
    let room = c.requires.room in
    let fits = c.requires.run.countable in
    record { plan = c.args.over.now.plan.now; history = c.args.self.now.journal.items; stands = c.requires.run.stands; room = omega (arith, room, fits) }

pub of-requires : goal.of-requires
of-requires c =
    let plan = c.args.over.now.plan.now in
    let h = c.args.self.now.journal.items in
    let e = c.in-Some.e in
    let stands = c.requires.run.stands in
    let taken = c.in-Some.ensures.taken plan h stands in
    permitted_fits plan h e (valid_stands c.args.self.now.machine plan h stands) (choice_is_permitted plan h 0 0 e taken.chosen).permitted

pub note_end-requires-clause-ends : goal.note_end-requires-clause-ends
note_end-requires-clause-ends c =
    let plan = c.args.over.now.plan.now in
    let h = c.args.self.now.journal.items in
    let e = c.in-Some.e in
    let taken = c.in-Some.ensures.taken plan h c.requires.run.stands in
    end_fits plan h e (choice_is_permitted plan h 0 0 e taken.chosen).permitted

pub returns-in-Some-clause-run : goal.returns-in-Some-clause-run
returns-in-Some-clause-run c =
    let plan = c.args.over.now.plan.now in
    let h = c.args.self.now.journal.items in
    let e = c.in-Some.e in
    let run = c.requires.run in
    let taken = c.in-Some.ensures.taken plan h run.stands in
    let choice = choice_is_permitted plan h 0 0 e taken.chosen in
    let more : c.push_reserved.new.self.items ≡ h ++ e ∷ [] = c.push_reserved.ensures.items ∙ (ap (λ (l : List Event). l ++ c.of.result ∷ []) c.in_ok-reserve.ensures.items ∙ ap (λ (x : Event). h ++ x ∷ []) c.of.ensures) in
    rw more (record {
      countable = run.countable;
      own = c.in-Some.ensures.plan ∙ run.own;
      stands = taken.stands;
      few = omega (arith, length_push h e, c.requires.room);
      alone = alone_more h e run.alone choice.by;
      chosen = follows_more plan h e run.chosen (λ work. taken.chosen);
      uncalled = accepts_none_more h e run.uncalled (work_accepts_none e choice.work);
      values = c.note_end.ensures.values h taken.stands run.values;
      tallies_are = tallies_same plan h e c.args.self.now.tallies.items (quick_is_no_deliver plan h 0 e (sym (c.in-Some.ensures.choice plan h run.stands))) run.tallies_are;
    })
