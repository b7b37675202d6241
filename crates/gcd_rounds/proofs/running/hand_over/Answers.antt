use Rattle.std.proofs.Common.{◌∙◌, sym, arith}
use Rattle.std.proofs.lemmas.Option.{same_Some}
use Rattle.gcd_rounds.specs.Ran.{sources_before}
use Rattle.gcd_rounds.proofs.Taken.{due, due_fits, due_taken, taken_same}
use Rattle.gcd_rounds.proofs.running.hand_over.Goals as goal

pub place_of-requires : goal.place_of-requires
place_of-requires g c =
    (due g.H.Handler.kind g.H.Handler.times g.H.Handler.total c.args.plan.now c.args.machine.now c.args.places.now c.args.handlers.now.items c.in-Deliver.worker c.in-Deliver.src
    c.requires.places (rw c.in-Deliver.is at c.requires.recorded)).low

pub index_mut-requires : goal.index_mut-requires
index_mut-requires g c =
    let d = due g.H.Handler.kind g.H.Handler.times g.H.Handler.total c.args.plan.now c.args.machine.now c.args.places.now c.args.handlers.now.items c.in-Deliver.worker c.in-Deliver.src
    c.requires.places (rw c.in-Deliver.is at c.requires.recorded) in
    let same = same_Some c.place_of.result (sources_before c.args.plan.now c.in-Deliver.src.0) (sym c.place_of.ensures ∙ d.at) in
    let within = d.within in
    omega (arith, same, within)

pub data_of-requires : goal.data_of-requires
data_of-requires g c =
    (due g.H.Handler.kind g.H.Handler.times g.H.Handler.total c.args.plan.now c.args.machine.now c.args.places.now c.args.handlers.now.items c.in-Deliver.worker c.in-Deliver.src
    c.requires.places (rw c.in-Deliver.is at c.requires.recorded)).known

pub take-requires-clause-times_fit : goal.take-requires-clause-times_fit
take-requires-clause-times_fit g c =
    (due_fits g.H.Handler.kind g.H.Handler.times g.H.Handler.total c.args.plan.now c.args.machine.now c.args.places.now c.args.handlers.now.items c.in-Deliver.worker c.in-Deliver.src
    c.place_of.result c.index_mut.result.now c.data_of.result c.requires.places (rw c.in-Deliver.is at c.requires.recorded) c.place_of.ensures c.index_mut.ensures.value
    c.data_of.ensures).times_fit

pub take-requires-clause-total_fits : goal.take-requires-clause-total_fits
take-requires-clause-total_fits g c =
    (due_fits g.H.Handler.kind g.H.Handler.times g.H.Handler.total c.args.plan.now c.args.machine.now c.args.places.now c.args.handlers.now.items c.in-Deliver.worker c.in-Deliver.src
    c.place_of.result c.index_mut.result.now c.data_of.result c.requires.places (rw c.in-Deliver.is at c.requires.recorded) c.place_of.ensures c.index_mut.ensures.value
    c.data_of.ensures).total_fits

pub returns-in-Deliver : goal.returns-in-Deliver
returns-in-Deliver g c = λ h stands took.
    rw c.in-Deliver.is
    (due_taken g.H.Handler.kind g.H.Handler.times g.H.Handler.total c.args.plan.now c.args.machine.now c.args.places.now c.args.handlers.now.items h c.in-Deliver.worker c.in-Deliver.src
    c.place_of.result c.index_mut.result.now c.take.new.self c.data_of.result c.requires.places (rw c.in-Deliver.is at c.requires.recorded) c.place_of.ensures c.index_mut.ensures.value
    c.data_of.ensures c.take.ensures.same_kind c.take.ensures.once_more c.take.ensures.folded_in (rw c.in-Deliver.is at stands) took)

pub returns-in_default : goal.returns-in_default
returns-in_default g c = λ h stands took.
    taken_same g.H.Handler.kind g.H.Handler.times g.H.Handler.total c.args.plan.now h c.args.e c.args.handlers.now.items
    (λ w s is. c.in_default.not-Deliver w s is) took
