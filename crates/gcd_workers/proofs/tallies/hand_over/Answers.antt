use Rattle.std.proofs.Common.{ap, arith, length}
use Rattle.gcd_machine.proofs.Views.Calls.{plan_stands}
use Rattle.gcd_workers.specs.ListRuns.{IsUntold}
use Rattle.gcd_event.specs.declared.event.Event.TheVariants.{Deliver}
use Rattle.gcd_workers.proofs.HandedOver.{due, due_fits, due_taken, tallies_same}
use Rattle.gcd_workers.proofs.tallies.hand_over.Goals as goal

pub index_mut-requires : goal.index_mut-requires
index_mut-requires c =
    let within = (due c.args.machine.now c.args.tallies.now.items c.in-Deliver.worker c.in-Deliver.src (rw c.in-Deliver.is at c.requires)).within in
    omega (arith, within)

pub data_of-requires : goal.data_of-requires
data_of-requires c =
    let was : IsUntold c.args.machine.now c.args.tallies.now.items (Deliver c.in-Deliver.worker c.in-Deliver.src) = rw c.in-Deliver.is at c.requires in
    let object = (due c.args.machine.now c.args.tallies.now.items c.in-Deliver.worker c.in-Deliver.src was).object in
    let own = ap (λ p. length p.objects) (plan_stands c.args.machine.now was.plan _ was.stands) in
    omega (arith, object, own)

pub take-requires-clause-times_fit : goal.take-requires-clause-times_fit
take-requires-clause-times_fit c =
    (due_fits c.args.machine.now c.args.tallies.now.items c.in-Deliver.worker c.in-Deliver.src c.index_mut.result.now c.data_of.result
    (rw c.in-Deliver.is at c.requires) c.index_mut.ensures.value c.data_of.ensures).0

pub take-requires-clause-total_fits : goal.take-requires-clause-total_fits
take-requires-clause-total_fits c =
    (due_fits c.args.machine.now c.args.tallies.now.items c.in-Deliver.worker c.in-Deliver.src c.index_mut.result.now c.data_of.result
    (rw c.in-Deliver.is at c.requires) c.index_mut.ensures.value c.data_of.ensures).1

pub returns-in-Deliver : goal.returns-in-Deliver
returns-in-Deliver c = λ plan h stands are.
    rw c.in-Deliver.is
    (due_taken c.args.machine.now plan h c.args.tallies.now.items c.in-Deliver.worker c.in-Deliver.src c.index_mut.result.now c.take.new.self c.data_of.result
    c.index_mut.ensures.value c.data_of.ensures c.take.ensures.same_kind c.take.ensures.once_more c.take.ensures.folded_in (rw c.in-Deliver.is at stands) are)

pub returns-in_default : goal.returns-in_default
returns-in_default c = λ plan h stands are.
    tallies_same plan h c.args.e c.args.tallies.now.items (λ w s is. c.in_default.not-Deliver w s is) are
