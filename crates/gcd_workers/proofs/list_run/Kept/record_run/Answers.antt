use Rattle.std.proofs.Common.{◌≡◌, ◌++◌, ◌∷◌, ◌∙◌, List, [], refl, ap, arith}
use Rattle.std.proofs.lemmas.List.{length_push}
use Rattle.gcd_event.specs.declared.event.Event.{Event}
use Rattle.gcd_event.specs.declared.event.Event.TheVariants.{Start, End}
use Rattle.gcd_history.proofs.Permitted.Fitting.{permitted_fits}
use Rattle.gcd_history.proofs.Public.Laws.{choice_is_permitted}
use Rattle.gcd_jobs.specs.Contents.{contents}
use Rattle.gcd_jobs.proofs.ValuesMore.{end_fits, none_ended, values_same}
use Rattle.gcd_loop.proofs.Events.{work_accepts_none}
use Rattle.gcd_loop.proofs.Follows.{accepts_none_more, alone_more, follows_more}
use Rattle.gcd_machine.proofs.Views.Calls.{lawful_stands, valid_stands}
use Rattle.gcd_workers.proofs.HandedOver.{tallies_same}
use Rattle.gcd_workers.proofs.list_run.Kept.record_run.Goals as goal

pub quick_run-requires : goal.quick_run-requires
quick_run-requires c =
    let room = c.requires.room in
    let fits = c.requires.run.countable in
    record { plan = c.args.over.now.plan.now; history = c.args.self.now.journal.items; stands = c.requires.run.stands; room = omega (arith, room, fits) }

pub of-requires : goal.of-requires
of-requires c =
    let plan = c.args.over.now.plan.now in
    let h = c.args.self.now.journal.items in
    let stands = c.requires.run.stands in
    let start : Event = Start 0 c.in-Some.blk in
    let taken = c.in-Some.ensures.taken plan h stands in
    permitted_fits plan h start (valid_stands c.args.self.now.machine plan h stands) (choice_is_permitted plan h 0 0 start taken.chosen).permitted

pub note_end-requires-clause-ends : goal.note_end-requires-clause-ends
note_end-requires-clause-ends c =
    let plan = c.args.over.now.plan.now in
    let h = c.args.self.now.journal.items in
    let b = c.in-Some.blk in
    let taken = c.in-Some.ensures.taken plan h c.requires.run.stands in
    end_fits plan (h ++ Start 0 b ∷ []) (End 0 b) (choice_is_permitted plan (h ++ Start 0 b ∷ []) 0 0 (End 0 b) taken.next.ends).permitted

pub returns-in-Some-clause-run : goal.returns-in-Some-clause-run
returns-in-Some-clause-run c =
    let plan = c.args.over.now.plan.now in
    let h = c.args.self.now.journal.items in
    let start : Event = Start 0 c.in-Some.blk in
    let end : Event = End 0 c.in-Some.blk in
    let between : List Event = h ++ start ∷ [] in
    let run = c.requires.run in
    let taken = c.in-Some.ensures.taken plan h run.stands in
    let first = choice_is_permitted plan h 0 0 start taken.chosen in
    let second = choice_is_permitted plan between 0 0 end taken.next.ends in
    let one : c.push_reserved.new.self.items ≡ between = c.push_reserved.ensures.items
    ∙ (ap (λ (l : List Event). l ++ c.of.result ∷ []) c.in_ok-reserve.ensures.items ∙ ap (λ (x : Event). h ++ x ∷ []) c.of.ensures) in
    let both : c.push_reserved-in-Some.new.self.items ≡ between ++ end ∷ [] = c.push_reserved-in-Some.ensures.items
    ∙ (ap (λ (l : List Event). l ++ c.of-in-Some.result ∷ []) one ∙ ap (λ (x : Event). between ++ x ∷ []) c.of-in-Some.ensures) in
    let lawful = lawful_stands c.args.self.now.machine plan h run.stands in
    rw both (record {
      countable = run.countable;
      own = c.in-Some.ensures.plan ∙ run.own;
      stands = taken.stands;
      few = omega (arith, length_push h start, length_push between end, c.requires.room);
      alone = alone_more between end (alone_more h start run.alone first.by) second.by;
      chosen = follows_more plan between end (follows_more plan h start run.chosen (λ work. taken.chosen)) (λ work. taken.next.ends);
      uncalled =
          accepts_none_more between end (accepts_none_more h start run.uncalled (work_accepts_none start first.work)) (work_accepts_none end second.work);
      tallies_are = tallies_same plan between end c.args.self.now.tallies.items (λ w s is. cc)
          (tallies_same plan h start c.args.self.now.tallies.items (λ w s is. cc) run.tallies_are);
      values = c.note_end.ensures.values between taken.stands
          (values_same plan (contents c.args.over.now.files.now) h start c.args.self.now.values.items lawful (none_ended start refl) run.values);
    })
