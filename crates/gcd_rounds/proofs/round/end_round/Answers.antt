use Rattle.std.proofs.Common.{◌∙◌, sym, subst}
use Rattle.gcd_rounds.specs.Kept.{HaveValues}
use Rattle.gcd_rounds.specs.Running.{AreReady}
use Rattle.gcd_rounds.proofs.Grown.{grown_none, grows_through}
use Rattle.gcd_rounds.proofs.Zips.{all_done, same_endings, values_given}
use Rattle.gcd_rounds.proofs.round.end_round.Goals as goal

pub returns-then-is_quiet-clause-none : goal.returns-then-is_quiet-clause-none
returns-then-is_quiet-clause-none g c =
    let old = c.args.round.now.run in let new = c.take_turns.new.run in
    λ none. grown_none old.journal.items new.journal.items c.in_ok-take_turns.ensures.grows
    (c.is_quiet.ensures.same c.args.round.now.plan.now new.journal.items c.in_ok-take_turns.ensures.run.stands c.if-is_quiet.true ∙ c.len-len.ensures c.args.round.now.plan.now old.journal.items c.requires.stopped.run.stands)

pub end_all-requires-clause-ready : goal.end_all-requires-clause-ready
end_all-requires-clause-ready g c =
    let kept = c.replace-kept.result in
    rw c.deref.ensures.value
    (subst (AreReady g.J.Job.gives c.args.round.now.plan.now c.take_turns.new.run)
    (sym (same_endings g.J.Job.gives kept.items c.in_ok-dones.dones.items
    (all_done g.J.Job.gives kept c.in_ok-dones.dones c.in_ok-dones.ensures.count c.in_ok-dones.ensures.each)))
    (rw c.replace-kept.ensures.value c.in_ok-take_turns.ensures.ready))

pub end_all-requires-clause-values : goal.end_all-requires-clause-values
end_all-requires-clause-values g c =
    let kept = c.replace-kept.result in
    subst (HaveValues g.J.Job.gives c.take_turns.new.run.terms.jobs.value.items) (sym c.deref.ensures.value)
    (values_given g.J.Job.gives c.take_turns.new.run.terms.jobs.value.items kept.items c.in_ok-dones.dones.items
    (all_done g.J.Job.gives kept c.in_ok-dones.dones c.in_ok-dones.ensures.count c.in_ok-dones.ensures.each)
    (rw c.replace-kept.ensures.value c.in_ok-take_turns.ensures.jobs))

pub returns-clause-grows : goal.returns-clause-grows
returns-clause-grows g c =
    grows_through c.args.round.now.run.journal.items c.take_turns.new.run.journal.items c.end_all.new.run.journal.items c.in_ok-take_turns.ensures.grows c.in_ok-end_all.ensures.grows
