use Rattle.std.proofs.Common.{length, sym, ◌∙◌}
use Rattle.gcd_drain.specs.Rule.{excludes_at}
use Rattle.gcd_tree.proofs.Ahead.{rest_in_range, none_first}
use Rattle.gcd_drain.proofs.Quiet.{none_excludes}
use Rattle.gcd_drain.proofs.drains.Drains.is_excluded.Goals as goal

pub returns-then-not-any_open : goal.returns-then-not-any_open
returns-then-not-any_open c =
    sym (none_excludes c.args.self.now c.args.tree.now c.any_open.ensures.valid (sym c.any_open.ensures.open ∙ c.if-not-any_open.true) _)

pub loop-o-preserved : goal.loop-o-preserved
loop-o-preserved c =
    let tree = c.args.tree.now in
    let o = c.in-Some.o.0 in
    let first = c.in-Some.ensures.steps in
    record {
      in_range = rest_in_range (length tree.targets) o c.loop-o.o-iterator c.next.new.self first c.loop-o.invariant.in_range;
      ahead = c.loop-o.invariant.ahead
          ∙ none_first (excludes_at c.args.self.now tree) o c.loop-o.o-iterator c.next.new.self first (sym c.excludes.ensures ∙ c.if-excludes.false);
    }
