use Rattle.std.proofs.Common.{arith, ◌≡◌, ◌-◌, ℕ, length, map, subst, sym}
use Rattle.gcd_event.specs.Words.{word_of}
use Rattle.gcd_row.specs.Ring.{HasLap}
use Rattle.gcd_row.proofs.Filling.{lap_ends}
use Rattle.gcd_row.proofs.RowWords.{words_length}
use Rattle.gcd_row.proofs.first_words.first_words.Goals as goal

pub returns : goal.returns
returns c = λ most room.
    let h = c.args.history.now.items in
    let words = c.write_lap.new.words.items in
    let all : length h ≡ length (map word_of h) = sym (words_length h) in
    let passed : c.len-passed.result ≡ length h = omega (arith, c.len-passed.ensures) in
    let lap = subst (λ (n : ℕ). HasLap c.args.workers n words (map word_of h) (length h - 4096) (length h)) passed (c.write_lap.ensures c.args.workers c.len-passed.result c.in_ok-words.ensures) in
    lap_ends most c.args.workers words (map word_of h) c.requires.workers (omega (arith, all, room)) (subst (λ (n : ℕ). HasLap c.args.workers n words (map word_of h) (n - 4096) n) all lap)
