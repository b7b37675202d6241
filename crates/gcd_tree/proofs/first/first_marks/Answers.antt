use Rattle.std.proofs.Common.{◌∙◌, length-set, arith}
use Rattle.gcd_plan.proofs.Within.{target_within}
use Rattle.gcd_tree.proofs.Marks.{marked_next, marked_first}
use Rattle.gcd_tree.proofs.first.first_marks.Goals as goal

pub index_mut-requires : goal.index_mut-requires
index_mut-requires c =
    let plan = c.args.plan.now in
    let within = target_within plan c.objects-o-end.ensures.valid c.loop-o.o (omega arith) in
    omega (arith, within, c.first_target.ensures, c.loop-o.invariant.long, c.loop-o.marks.ok)

pub loop-o-preserved : goal.loop-o-preserved
loop-o-preserved c =
    let plan = c.args.plan.now in
    let within = target_within plan c.objects-o-end.ensures.valid c.loop-o.o (omega arith) in
    record {
      long = length-set c.loop-o.marks.items _ _ ∙ c.loop-o.invariant.long;
      marked = marked_next plan c.loop-o.marks.items c.loop-o.o c.first_target.result.0 c.loop-o.invariant.marked c.first_target.ensures
          (omega (arith, within, c.first_target.ensures, c.loop-o.invariant.long));
    }

pub returns : goal.returns
returns c =
    marked_first c.args.plan.now c.loop-o.marks.items c.loop-o.o c.loop-o.invariant.marked
    (omega (arith, c.loop-o-test.false, c.loop-o.auto.o-end, c.objects-o-end.ensures.count)) c.loop-o.invariant.long
