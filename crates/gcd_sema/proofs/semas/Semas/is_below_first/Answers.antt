use Rattle.std.proofs.Common.{◌∙◌, ap, nat_lt, arith}
use Rattle.gcd_sema.specs.SemasView.{signals_at}
use Rattle.gcd_sema.proofs.Cells.{shown, in_signals, in_left, read_at, signals_seen, left_seen}
use Rattle.gcd_sema.proofs.semas.Semas.is_below_first.Goals as goal

pub index-requires : goal.index-requires
index-requires c = omega (arith, in_signals (shown c.self.invariant c.self.view_is) c.args.s.0 c.requires, c.self.inside.signals.ok)

pub index-requires-2 : goal.index-requires-2
index-requires-2 c = omega (arith, in_left (shown c.self.invariant c.self.view_is) c.args.s.0 c.requires, c.self.inside.left.ok)

pub returns : goal.returns
returns c =
    let sh = shown c.self.invariant c.self.view_is in
    let s = c.args.s.0 in
    let signals = read_at sh s c.requires _ c.index.result.now (in_signals sh s c.requires) c.index.ensures ∙ signals_seen sh s c.requires in
    let left = read_at sh s c.requires _ c.index-2.result.now (in_left sh s c.requires) c.index-2.ensures ∙ left_seen sh s c.requires in
    ap (λ n. nat_lt n c.index-2.result.now) signals ∙ ap (nat_lt (signals_at c.args.self.now s)) left
