use Rattle.std.proofs.Common.{◌≡◌, ◌∙◌, ◌++◌, ◌∷◌, List, [], Some, length, ap, subst, arith}
use Rattle.gcd_event.specs.declared.event.Event.{Event}
use Rattle.gcd_history.specs.History.{choice_of}
use Rattle.gcd_history.proofs.Public.Laws.{choice_is_permitted}
use Rattle.gcd_loop.proofs.Steps.{grows_one}
use Rattle.gcd_workers.specs.ListRuns.{HasSteppedTwice}
use Rattle.gcd_workers.proofs.AloneSteps.{chosen_uncalled, on_ok, stays_one, stays_through}
use Rattle.gcd_workers.proofs.jobs_kept.JobsKept.do_at_once.Goals as goal

pub record-requires-clause-next : goal.record-requires-clause-next
record-requires-clause-next g c =
    let plan = c.args.given.now.plan.now in let h = c.args.self.now.journal.items in let k = c.record_run.new.self.journal.items in let e = c.args.e in
    let same : k ≡ h = subst (HasSteppedTwice plan h k) c.in-false.is c.in_ok-record_run.ensures.stepped in
    let chosen : choice_of plan k 0 0 ≡ Some e = ap (λ (l : List Event). choice_of plan l 0 0) same ∙ c.requires.chosen in
    let choice = choice_is_permitted plan k 0 0 e chosen in
    let room = c.requires.room in
    record { permitted = choice.permitted; room = omega (arith, ap length same, room); by = choice.by; chosen = λ work. chosen }

pub returns-in-false-clause-grows : goal.returns-in-false-clause-grows
returns-in-false-clause-grows g c =
    let plan = c.args.given.now.plan.now in let h = c.args.self.now.journal.items in let k = c.record_run.new.self.journal.items in let e = c.args.e in
    let same : k ≡ h = subst (HasSteppedTwice plan h k) c.in-false.is c.in_ok-record_run.ensures.stepped in
    let choice = choice_is_permitted plan h 0 0 e c.requires.chosen in
    on_ok c.record.result (λ is. grows_one h c.record.new.self.journal.items e (is ∙ ap (λ (l : List Event). l ++ e ∷ []) same) choice.work) c.record.ensures.journal

pub returns-in-false-clause-stays : goal.returns-in-false-clause-stays
returns-in-false-clause-stays g c =
    let plan = c.args.given.now.plan.now in let old = c.args.self.now in let mid = c.record_run.new.self in let new = c.record.new.self in let e = c.args.e in
    on_ok c.record.result (λ is.
    stays_through g.J.Job.gives old.journal.items mid.journal.items new.journal.items old.states.items mid.states.items new.states.items c.in_ok-record_run.ensures.stays
    (stays_one g.J.Job.gives mid.journal.items new.journal.items e mid.states.items new.states.items is (chosen_uncalled plan old.journal.items 0 0 e c.requires.chosen) c.record.ensures.no_more)) c.record.ensures.journal
