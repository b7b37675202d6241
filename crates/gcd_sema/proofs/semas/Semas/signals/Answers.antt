use Rattle.std.proofs.Common.{◌∙◌, arith}
use Rattle.gcd_sema.proofs.Cells.{shown, in_signals, read_at, signals_seen}
use Rattle.gcd_sema.proofs.semas.Semas.signals.Goals as goal

pub index-requires : goal.index-requires
index-requires c = omega (arith, in_signals (shown c.self.invariant c.self.view_is) c.args.s.0 c.requires, c.self.inside.signals.ok)

pub returns : goal.returns
returns c =
    let sh = shown c.self.invariant c.self.view_is in
    read_at sh c.args.s.0 c.requires _ c.index.result.now (in_signals sh c.args.s.0 c.requires) c.index.ensures ∙ signals_seen sh c.args.s.0 c.requires
