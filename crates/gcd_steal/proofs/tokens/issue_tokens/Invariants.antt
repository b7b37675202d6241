use Rattle.std.proofs.Common.{◌≡◌, ◌-◌, [], length}
use Rattle.std.specs.List.{range_with_len}
use Rattle.gcd_steal.specs.Tokens.{rights, AreTokens}
use Rattle.gcd_steal.proofs.tokens.issue_tokens.Given as goal

abbrev pub invariant-loop-number : goal.invariant-loop-number
invariant-loop-number l = record {
  table : l.issuer.table_id ≡ l.table.shared.table_id;
  left : l.issuer.me ≡ (rights (range_with_len l._number (l.count - l._number)), []);
  count : length l.each.items ≡ l._number;
  each : AreTokens l.table.shared.table_id l.each.items;
}
