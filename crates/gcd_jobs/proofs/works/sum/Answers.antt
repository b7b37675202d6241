use Rattle.std.proofs.Common.{◌∙◌, arith, rules}
use Rattle.std.specs.Slice.Iter.{chunks_rest}
use Rattle.gcd_jobs.proofs.Pieces.{sum_of_bytes, sum_of_piece}
use Rattle.gcd_jobs.proofs.works.sum.Goals as goal

pub overflow_add-n : goal.overflow_add-n
overflow_add-n c =
    let whole = sum_of_bytes c.args.bytes.now c.type_inv.bytes in
    omega (arith, c.requires, c.loop-piece.invariant.3, c.short_sum.type_inv, c.from-n.ensures)

pub loop-piece-preserved : goal.loop-piece-preserved
loop-piece-preserved c =
    let steps = c.in-Some.ensures.steps in
    let parts = sum_of_piece (chunks_rest c.loop-piece.piece-iterator) c.in-Some.piece.now (chunks_rest c.next.new.self) steps.1.0 in (
      search rules,
      tt,
      steps.0 ∙ c.loop-piece.invariant.2,
      omega (arith, c.from-n.ensures, c.short_sum.ensures, c.loop-piece.invariant.3),
    )
