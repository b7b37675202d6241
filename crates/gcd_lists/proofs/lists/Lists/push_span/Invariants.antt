use Rattle.std.proofs.Common.{◌≡◌, ◌-◌}
use Rattle.gcd_lists.specs.ListsView.{span}
use Rattle.gcd_lists.proofs.Spans.{behind}
use Rattle.gcd_lists.proofs.lists.Lists.push_span.Given as goal

abbrev pub invariant-loop-b : goal.invariant-loop-b
invariant-loop-b l = l.self ≡ behind l.fn.self l.node.0 (span l.fn.first.0 (l.b - l.fn.first.0))
