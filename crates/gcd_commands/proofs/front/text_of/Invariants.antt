use Rattle.std.proofs.Common.{◌≡◌}
use Rattle.std.specs.List.{flat_map, range_with_len}
use Rattle.gcd_commands.specs.Fronts.{sender_text}
use Rattle.gcd_commands.proofs.front.text_of.Given as goal

abbrev pub invariant-loop-sender : goal.invariant-loop-sender
invariant-loop-sender l = l.text.items ≡ flat_map (sender_text l.values l.journal) (range_with_len 0 l.sender)
