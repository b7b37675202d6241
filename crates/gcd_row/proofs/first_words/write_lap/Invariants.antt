use Rattle.std.proofs.Common.{◌≡◌, ◌-◌, ℕ, length, map}
use Rattle.gcd_event.specs.Words.{word_of}
use Rattle.gcd_row.specs.Ring.{AreBlank, HasLap, ring, ring_words}
use Rattle.gcd_row.proofs.first_words.write_lap.Given as goal

abbrev pub invariant-loop-n : goal.invariant-loop-n
invariant-loop-n l = record {
  size : length l.words.items ≡ ring_words;
  lap : (workers passed : ℕ) → AreBlank workers passed l.fn.words.items → HasLap workers passed l.words.items (map word_of l.history.items) (length l.history.items - ring) l.n;
}
