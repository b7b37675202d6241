use Rattle.std.proofs.Common.{◌<◌, ◌∙◌, length, arith}
use Rattle.std.proofs.lemmas.List.{length-set}
use Rattle.gcd_machine.proofs.Steps.Strips.{noted_more}
use Rattle.gcd_machine.proofs.registers.strips.note_span.Goals as goal

pub loop-b-preserved : goal.loop-b-preserved
loop-b-preserved c =
    let now = c.loop-b.blocks.items in
    let low : c.loop-b.b < length now = omega (arith, c.loop-b-test.true, c.requires.within, c.loop-b.invariant.long) in
    record {
      noted = rw c.submit.ensures (noted_more c.args.blocks.now.items now c.args.node c.args.first c.loop-b.b c.index_mut.result.now c.loop-b.auto.b low c.index_mut.ensures.value c.loop-b.invariant.noted);
      long = length-set now c.loop-b.b _ ∙ c.loop-b.invariant.long;
      low = omega (arith, c.loop-b.auto.b);
    }
