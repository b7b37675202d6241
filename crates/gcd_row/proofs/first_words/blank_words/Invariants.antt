use Rattle.std.proofs.Common.{◌≡◌, ◌≤◌, ◌<◌, ◌-◌, ℕ, length}
use Rattle.std.specs.Prelude.{vec_capacity, slice_index}
use Rattle.gcd_row.specs.Ring.{blank_word}
use Rattle.gcd_row.proofs.first_words.blank_words.Given as goal

abbrev pub invariant-loop-i : goal.invariant-loop-i
invariant-loop-i l = record {
  high : l.i ≤ 4161;
  len : length l.words.items ≡ l.i;
  room : vec_capacity l.words ≡ vec_capacity l.initial.words;
  all : (j : ℕ) → j < l.i → slice_index l.words.items j ≡ blank_word l.fn.workers l.fn.passed j;
}

abbrev pub decreases-loop-i : goal.decreases-loop-i
decreases-loop-i l = 4161 - l.i
