use Rattle.std.proofs.Common.{◌∙◌, ◌+◌, ◌++◌, ◌∷◌, [], subst, drop, refl, slice_index_or}
use Rattle.std.proofs.lemmas.Option.{slice_get-get_or}
use Rattle.gcd_event.specs.declared.event.Event.TheVariants.{End}
use Rattle.gcd_rounds.specs.declared.kept.Done.{Done}
use Rattle.gcd_rounds.specs.Kept.{dones_of}
use Rattle.gcd_rounds.specs.Running.{AreReady}
use Rattle.gcd_rounds.proofs.EndsKept.{rest_are_others}
use Rattle.gcd_rounds.proofs.Ready.{end_comes_next, end_has_place}
use Rattle.gcd_loop.proofs.Steps.{grows_one}
use Rattle.gcd_rounds.proofs.Grown.{grows_through}
use Rattle.gcd_rounds.proofs.Zips.{dones_from}
use Rattle.gcd_rounds.proofs.round.end_all.Goals as goal

nothing : Done
nothing = record { ending = record { worker = 0; blk = record { 0 = 0 } }; value = 0 }

pub end-requires-clause-next : goal.end-requires-clause-next
unfolding nothing
end-requires-clause-next g c =
    let dones = c.args.dones.now in
    let i = c.loop-done.done-index in
    let run = c.loop-done.run in
    let d : Done = slice_index_or dones i nothing in
    let rest = dones_of (drop (i + 1) dones) in
    end_comes_next g.J.Job.gives g.H.Handler.kind g.H.Handler.times g.H.Handler.total c.args.plan.now run d.ending rest c.loop-done.invariant.run
    (c.is_over.ensures.goes_on c.args.plan.now run.journal.items c.loop-done.invariant.run.stands c.if-is_over.false)
    (subst (AreReady g.J.Job.gives c.args.plan.now run) (dones_from dones i d (slice_get-get_or dones i nothing c.loop-done-test.true)) c.loop-done.invariant.ready)

pub end-requires-clause-within : goal.end-requires-clause-within
unfolding nothing
end-requires-clause-within g c =
    let dones = c.args.dones.now in
    let i = c.loop-done.done-index in
    let run = c.loop-done.run in
    let d : Done = slice_index_or dones i nothing in
    let rest = dones_of (drop (i + 1) dones) in
    end_has_place g.J.Job.gives g.H.Handler.kind g.H.Handler.times g.H.Handler.total c.args.plan.now run d.ending rest
    (subst (AreReady g.J.Job.gives c.args.plan.now run) (dones_from dones i d (slice_get-get_or dones i nothing c.loop-done-test.true)) c.loop-done.invariant.ready)

pub loop-done-preserved : goal.loop-done-preserved
unfolding nothing
loop-done-preserved g c =
    let plan = c.args.plan.now in
    let dones = c.args.dones.now in
    let i = c.loop-done.done-index in
    let run = c.loop-done.run in
    let was = c.loop-done.invariant in
    let d : Done = slice_index_or dones i nothing in
    let at = slice_get-get_or dones i nothing c.loop-done-test.true in
    let rest = dones_of (drop (i + 1) dones) in
    let on = c.is_over.ensures.goes_on plan run.journal.items was.run.stands c.if-is_over.false in
    let ready = subst (AreReady g.J.Job.gives plan run) (dones_from dones i d at) was.ready in
    let next = end_comes_next g.J.Job.gives g.H.Handler.kind g.H.Handler.times g.H.Handler.total plan run d.ending rest was.run on ready in
    record {
      terms = c.end.ensures.terms ∙ was.terms;
      run = c.in_ok-end.ensures.run;
      ready = c.in_ok-end.ensures.ready rest (rest_are_others plan run.terms.workers run.journal.items d.ending rest ready.kept) (was.values i d at) ready;
      values = rw c.end.ensures.terms was.values;
      grows = grows_through c.args.run.now.journal.items run.journal.items c.end.new.self.journal.items was.grows
          (rw c.in_ok-end.ensures.journal (grows_one run.journal.items (run.journal.items ++ End d.ending.worker d.ending.blk ∷ []) (End d.ending.worker d.ending.blk) refl refl));
    }
