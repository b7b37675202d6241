use Rattle.std.proofs.Common.{◌≡◌, ◌≤◌, ◌*◌, take}
use Rattle.arrayvec.specs.ArrayVec.{array_vec_len}
use Rattle.gcd_turn.specs.Turns.{news_of}
use Rattle.gcd_turn.proofs.news.News.take.Given as goal

abbrev pub invariant-loop-tell : goal.invariant-loop-tell
invariant-loop-tell l = record {
  first : l.self-inside.next ≡ 0;
  pieces : l.self-inside.pieces.items ≡ news_of (take l.tell-index l.tell-items);
  few : array_vec_len l.self-inside.pieces ≤ 2 * l.tell-index;
}
