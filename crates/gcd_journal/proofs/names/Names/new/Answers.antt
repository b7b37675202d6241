use Rattle.std.proofs.Common.{◌≡◌, length, true, false, arith, subst}
use Rattle.gcd_journal.specs.Named.{look_of}
use Rattle.gcd_journal.proofs.LookUp.{KnowsUpTo, knows_none, knows_block, knows_source, knows_other, knows_all, source_known, finds_nothing}
use Rattle.gcd_journal.proofs.names.Names.new.Goals as goal
use Rattle.gcd_journal.proofs.names.Names.new.Goals.{then-is_source+in_ok-learn-2, else-is_source}

pub loop-b-init : goal.loop-b-init
loop-b-init c = knows_none c.args.plan.now (look_of c.in_ok-runs.runs) (finds_nothing c.in_ok-runs.runs c.in_ok-runs.ensures.empty)

pub loop-b-preserved : goal.loop-b-preserved
loop-b-preserved c =
    knows_block c.args.plan.now (look_of c.loop-b.runs) (look_of c.learn.new.runs) c.loop-b.b c.name_of_blk.result.now
    c.blocks-b-end.ensures.valid (omega arith) c.loop-b.invariant c.name_of_blk.ensures c.in_ok-learn.ensures

pub loop-o-init : goal.loop-o-init
loop-o-init c =
    let all : c.loop-b.b ≡ length c.args.plan.now.blocks = omega arith in
    subst (λ n. KnowsUpTo c.args.plan.now (look_of c.loop-b.runs) n 0) all c.loop-b.invariant

pub loop-o-preserved : goal.loop-o-preserved
loop-o-preserved c = elim c.if-is_source.branch [
  | then-is_source+in_ok-learn-2 w ↦
      rw (w.runs-is)
      (knows_source c.args.plan.now (look_of c.loop-o.runs) (look_of w.learn-then-is_source.new.runs) c.loop-o.o w.name_of_obj.result.now
      c.objects-o-end.ensures.valid (source_known c.args.plan.now c.loop-o.o c.kind.result c.kind.ensures c.is_source.result true c.is_source.ensures w.if-is_source.true)
      c.loop-o.invariant w.name_of_obj.ensures w.in_ok-learn-2.ensures)
  | else-is_source w ↦
      rw (w.runs-is)
      (knows_other c.args.plan.now (look_of c.loop-o.runs) c.loop-o.o
      (source_known c.args.plan.now c.loop-o.o c.kind.result c.kind.ensures c.is_source.result false c.is_source.ensures w.if-is_source.false)
      c.loop-o.invariant)
]

pub returns-clause-known : goal.returns-clause-known
returns-clause-known c =
    let all : c.loop-o.o ≡ length c.args.plan.now.objects = omega arith in
    knows_all c.args.plan.now (look_of c.loop-o.runs) (subst (λ n. KnowsUpTo c.args.plan.now (look_of c.loop-o.runs) (length c.args.plan.now.blocks) n) all c.loop-o.invariant)
