use Rattle.std.proofs.Common.{◌≡◌, ◌++◌, ◌∷◌, ◌∙◌, List, [], refl, ap, arith}
use Rattle.std.proofs.lemmas.List.{length_push}
use Rattle.gcd_event.specs.declared.event.Event.{Event}
use Rattle.gcd_event.specs.declared.event.Event.TheVariants.{Start, End}
use Rattle.gcd_history.proofs.Permitted.Fitting.{permitted_fits}
use Rattle.gcd_history.proofs.Public.Laws.{choice_is_permitted}
use Rattle.gcd_jobs.proofs.ValuesMore.{none_ended}
use Rattle.gcd_loop.proofs.Follows.{alone_more, follows_more}
use Rattle.gcd_machine.proofs.Views.Calls.{lawful_stands, valid_stands}
use Rattle.gcd_workers.proofs.AloneSteps.{stays_same, stays_two}
use Rattle.gcd_workers.proofs.States.{own_kept, states_same}
use Rattle.gcd_workers.proofs.jobs_kept.JobsKept.record_run.Goals as goal

pub quick_run-requires : goal.quick_run-requires
quick_run-requires g c =
    let room = c.requires.room in
    let fits = c.requires.run.countable in
    record { plan = c.args.given.now.plan.now; history = c.args.self.now.journal.items; stands = c.requires.run.stands; room = omega (arith, room, fits) }

pub of-requires : goal.of-requires
of-requires g c =
    let plan = c.args.given.now.plan.now in
    let h = c.args.self.now.journal.items in
    let stands = c.requires.run.stands in
    let start : Event = Start 0 c.in-Some.blk in
    let taken = c.in-Some.ensures.taken plan h stands in
    permitted_fits plan h start (valid_stands c.args.self.now.machine plan h stands) (choice_is_permitted plan h 0 0 start taken.chosen).permitted

pub run_ended-requires : goal.run_ended-requires
run_ended-requires g c =
    let plan = c.args.given.now.plan.now in
    let h = c.args.self.now.journal.items in
    let b = c.in-Some.blk in let start : Event = Start 0 b in
    let run = c.requires.run in
    let taken = c.in-Some.ensures.taken plan h run.stands in
    record {
      plan = plan;
      history = h ++ start ∷ [];
      stands = taken.stands;
      permitted = (choice_is_permitted plan (h ++ start ∷ []) 0 0 (End 0 b) taken.next.ends).permitted;
      states_are = states_same plan h start c.args.self.now.states.items (lawful_stands c.args.self.now.machine plan h run.stands) (none_ended start refl) run.states_are;
    }

pub returns-in-Some-clause-run : goal.returns-in-Some-clause-run
returns-in-Some-clause-run g c =
    let given = c.args.given.now in let plan = given.plan.now in
    let h = c.args.self.now.journal.items in
    let start : Event = Start 0 c.in-Some.blk in
    let end : Event = End 0 c.in-Some.blk in
    let between : List Event = h ++ start ∷ [] in
    let run = c.requires.run in
    let taken = c.in-Some.ensures.taken plan h run.stands in
    let first = choice_is_permitted plan h 0 0 start taken.chosen in
    let second = choice_is_permitted plan between 0 0 end taken.next.ends in
    let one : c.push_reserved.new.self.items ≡ between = c.push_reserved.ensures.items
    ∙ (ap (λ (l : List Event). l ++ c.of.result ∷ []) c.in_ok-reserve.ensures.items ∙ ap (λ (x : Event). h ++ x ∷ []) c.of.ensures) in
    let both : c.push_reserved-in-Some.new.self.items ≡ between ++ end ∷ [] = c.push_reserved-in-Some.ensures.items
    ∙ (ap (λ (l : List Event). l ++ c.of-in-Some.result ∷ []) one ∙ ap (λ (x : Event). between ++ x ∷ []) c.of-in-Some.ensures) in
    let lawful = lawful_stands c.args.self.now.machine plan h run.stands in
    rw both (record {
      countable = run.countable;
      own = c.in-Some.ensures.plan ∙ run.own;
      stands = taken.stands;
      few = omega (arith, length_push h start, length_push between end, c.requires.room);
      alone = alone_more between end (alone_more h start run.alone first.by) second.by;
      chosen = follows_more plan between end (follows_more plan h start run.chosen (λ work. taken.chosen)) (λ work. taken.next.ends);
      states_are = c.run_ended.ensures.states plan between taken.stands
          (states_same plan h start c.args.self.now.states.items lawful (none_ended start refl) run.states_are);
      own_jobs = own_kept g.J.Job.gives plan given.jobs.value.items c.args.self.now.states.items c.run_ended.new.states.items c.run_ended.ensures.no_more run.own_jobs;
    })

pub returns-in-Some-clause-stays : goal.returns-in-Some-clause-stays
returns-in-Some-clause-stays g c =
    let h = c.args.self.now.journal.items in
    let start : Event = Start 0 c.in-Some.blk in
    let end : Event = End 0 c.in-Some.blk in
    let between : List Event = h ++ start ∷ [] in
    let one : c.push_reserved.new.self.items ≡ between = c.push_reserved.ensures.items
    ∙ (ap (λ (l : List Event). l ++ c.of.result ∷ []) c.in_ok-reserve.ensures.items ∙ ap (λ (x : Event). h ++ x ∷ []) c.of.ensures) in
    let both : c.push_reserved-in-Some.new.self.items ≡ between ++ end ∷ [] = c.push_reserved-in-Some.ensures.items
    ∙ (ap (λ (l : List Event). l ++ c.of-in-Some.result ∷ []) one ∙ ap (λ (x : Event). between ++ x ∷ []) c.of-in-Some.ensures) in
    stays_two g.J.Job.gives h c.push_reserved-in-Some.new.self.items start end c.args.self.now.states.items c.run_ended.new.states.items both refl refl c.run_ended.ensures.no_more

pub returns-in-None-clause-stays : goal.returns-in-None-clause-stays
returns-in-None-clause-stays g c =
    stays_same g.J.Job.gives c.args.self.now.journal.items _ c.args.self.now.states.items c.args.self.now.states.items c.in_ok-reserve.ensures.items (λ b value may. may)
