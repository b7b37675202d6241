use Rattle.std.proofs.Common.{◌≡◌, ◌+◌, sum}
use Rattle.std.specs.Slice.Iter.{chunks_rest, chunks_size}
use Rattle.gcd_jobs.proofs.works.sum.Given as goal

abbrev pub invariant-loop-piece : goal.invariant-loop-piece
invariant-loop-piece l =
    goal.iterator-loop-piece.can_next l.piece-iterator
    × goal.iterator-loop-piece.is_finite l.piece-iterator
    × (chunks_size l.piece-iterator ≡ 256)
    × (l.n + sum (chunks_rest l.piece-iterator) ≡ sum l.bytes)
