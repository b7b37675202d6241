use Rattle.std.proofs.Common.{arith, sym, ap, ◌∙◌, ◌+◌, ◌++◌, None, [], ◌∷◌}
use Rattle.std.proofs.lemmas.List.FromFn.{map-range_with_len_more}
use Rattle.gcd_front.specs.Notes.{listening}
use Rattle.gcd_front.specs.Queue.{lending}
use Rattle.gcd_front.specs.Views.{mouth_of}
use Rattle.gcd_front.proofs.front.open_mouths.Goals as goal

pub loop-sender-preserved : goal.loop-sender-preserved
loop-sender-preserved g c = let was = c.loop-sender.invariant in let made = c.make_sender-intake.ensures in let pass = c.make_mouth-made.ensures in record {
  table = made.table.0 ∙ was.table;
  seat = made.intake ∙ λ i. (listening ((was.seat i).0.queue) (c.loop-sender.sender + 1) 0 [] None, []);
  pass = pass.intake.0;
  knows = pass.intake.1 ∙ ap lending was.knows;
  mouths = c.in_ok-push.ensures.items
      ∙ (λ i. was.mouths i ++ (c.new_mouth.ensures ∙ λ j. mouth_of (record { queue = pass.mouth.0.0 j; notes = (made.table.1 ∙ was.table) j }) c.loop-sender.sender []) i ∷ [])
      ∙ sym (map-range_with_len_more (λ s. mouth_of (record { queue = c.args.queue.now.table.shared.table_id; notes = c.args.notes.now.shared.table_id }) s []) 0 c.loop-sender.sender c.loop-sender.sender (omega arith));
}
