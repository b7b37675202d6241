use Rattle.std.proofs.Common.{arith, ◌∷◌, [], length, length-append, get_or, ap, ◌∙◌}
use Rattle.gcd_row.proofs.Filling.{one_more}
use Rattle.gcd_row.proofs.first_words.blank_words.Goals as goal

pub loop-i-preserved : goal.loop-i-preserved
loop-i-preserved c =
    let i = c.loop-i.invariant in
    let now = c.push_reserved.ensures.items in
    record {
      high = omega arith;
      len = omega (arith, ap length now, i.len, length-append c.loop-i.words.items (c.word_at.result ∷ []));
      room = c.push_reserved.ensures.capacity ∙ i.room;
      all = λ j lt. ap (λ l. get_or l j 0) now ∙ one_more c.args.workers c.args.passed c.loop-i.words.items c.loop-i.i c.word_at.result i.len i.all c.word_at.ensures j lt;
    }
