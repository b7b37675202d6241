use Rattle.std.proofs.Common.{◌≡◌, ◌∙◌, ◌++◌, ◌∷◌, List, [], refl, ap, arith}
use Rattle.std.specs.Prelude.{slice_set}
use Rattle.std.proofs.lemmas.List.{length_push}
use Rattle.gcd_event.specs.declared.event.Event.{Event}
use Rattle.gcd_event.specs.declared.event.Event.TheVariants.{Accept}
use Rattle.gcd_history.proofs.Permitted.Fitting.{permitted_fits}
use Rattle.gcd_loop.proofs.Follows.{alone_more, follows_more}
use Rattle.gcd_machine.proofs.Views.Calls.{lawful_stands, valid_stands}
use Rattle.gcd_machine.specs.declared.put.Put.TheVariants.{Placed}
use Rattle.gcd_row.proofs.Accepted.{next_of, next_unended}
use Rattle.gcd_pool.proofs.Accepting.{accept_may_come}
use Rattle.gcd_workers.specs.declared.job_state.JobState.TheVariants.{Waits}
use Rattle.gcd_workers.proofs.Intake.{accepted_within}
use Rattle.gcd_workers.proofs.States.{none_given, own_laid, states_laid, states_same}
use Rattle.gcd_workers.proofs.jobs_kept.JobsKept.accept.Goals as goal

pub of-requires : goal.of-requires
of-requires g c =
    let plan = c.args.given.now.plan.now in let b = c.args.b in
    let mid = c.end_first.new.self in let run = c.in_ok-end_first.ensures.run in let at = c.in_ok-end_first.ensures.between in
    let s = c.requires.sender in
    permitted_fits plan mid.journal.items (Accept b c.args.sender) (valid_stands mid.machine plan mid.journal.items run.stands)
    (accept_may_come plan mid.journal.items b c.args.sender at.on (at.next b c.requires.next) (omega (arith, s)))

pub apply-requires : goal.apply-requires
apply-requires g c =
    let plan = c.args.given.now.plan.now in let b = c.args.b in
    let mid = c.end_first.new.self in let run = c.in_ok-end_first.ensures.run in let at = c.in_ok-end_first.ensures.between in
    let s = c.requires.sender in let room = at.room in let fits = run.countable in
    record {
      plan = plan;
      history = mid.journal.items;
      stands = run.stands;
      permitted = accept_may_come plan mid.journal.items b c.args.sender at.on (at.next b c.requires.next) (omega (arith, s));
      room = omega (arith, room, fits);
    }

pub index_mut-requires : goal.index_mut-requires
index_mut-requires g c =
    let plan = c.args.given.now.plan.now in let b = c.args.b in
    let mid = c.end_first.new.self in let run = c.in_ok-end_first.ensures.run in let at = c.in_ok-end_first.ensures.between in
    let valid = valid_stands mid.machine plan mid.journal.items run.stands in
    let low = accepted_within plan b valid (next_of plan mid.journal.items b (at.next b c.requires.next)) in
    let count = run.states_are.count in
    omega (arith, low, count)

pub returns-clause-run : goal.returns-clause-run
returns-clause-run g c =
    let given = c.args.given.now in let plan = given.plan.now in let b = c.args.b in
    let mid = c.end_first.new.self in let h = mid.journal.items in let run = c.in_ok-end_first.ensures.run in let at = c.in_ok-end_first.ensures.between in
    let next = at.next b c.requires.next in
    let s = c.requires.sender in let room = at.room in
    let valid = valid_stands mid.machine plan h run.stands in
    let lawful = lawful_stands mid.machine plan h run.stands in
    let e : Event = Accept b c.args.sender in
    let may = accept_may_come plan h b c.args.sender at.on next (omega (arith, s)) in
    let none = none_given plan h b.0 (next_unended plan h b valid lawful next) in
    let more : c.push_reserved.new.self.items ≡ h ++ e ∷ [] = c.push_reserved.ensures.items
    ∙ (ap (λ (l : List Event). l ++ c.of.result ∷ []) c.in_ok-reserve.ensures.items ∙ ap (λ (x : Event). h ++ x ∷ []) c.of.ensures) in
    rw more (record {
      countable = run.countable;
      own = c.apply.ensures.plan ∙ run.own;
      stands = c.apply.ensures.stands plan h run.stands may;
      few = omega (arith, length_push h e, room);
      alone = alone_more h e run.alone refl;
      chosen = follows_more plan h e run.chosen (λ work. absurd (cc));
      states_are = states_same plan h e (slice_set mid.states.items b.0 (Waits c.args.job)) lawful (λ d. refl) (states_laid g.J.Job.gives plan h b.0 c.args.job mid.states.items none run.states_are);
      own_jobs = own_laid g.J.Job.gives plan given.jobs.value.items b.0 c.args.job mid.states.items (next_of plan h b next) run.own_jobs;
    })

pub returns-clause-accepted : goal.returns-clause-accepted
returns-clause-accepted g c =
    let plan = c.args.given.now.plan.now in let b = c.args.b in
    let mid = c.end_first.new.self in let h = mid.journal.items in let run = c.in_ok-end_first.ensures.run in let at = c.in_ok-end_first.ensures.between in
    record {
      between = h;
      states = mid.states.items;
      grows = at.grows;
      next = at.next b c.requires.next;
      stays = c.in_ok-end_first.ensures.stays;
      is = c.push_reserved.ensures.items
          ∙ (ap (λ (l : List Event). l ++ c.of.result ∷ []) c.in_ok-reserve.ensures.items ∙ ap (λ (x : Event). h ++ x ∷ []) c.of.ensures);
      laid = refl;
      placed = ap Placed (c.len-at.ensures plan h run.stands);
    }
