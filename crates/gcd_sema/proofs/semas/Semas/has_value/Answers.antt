use Rattle.std.proofs.Common.{◌≡◌, ◌∙◌, ◌+◌, ap, nat_lt, arith}
use Rattle.gcd_sema.specs.SemasView.{left_at, passes_at}
use Rattle.gcd_sema.proofs.Cells.{shown, in_firsts, in_signals, in_left, read_at, passes_seen, left_seen}
use Rattle.gcd_sema.proofs.semas.Semas.has_value.Goals as goal

pub index-requires : goal.index-requires
index-requires c = omega (arith, in_left (shown c.self.invariant c.self.view_is) c.args.s.0 c.requires, c.self.inside.left.ok)

pub index-requires-2 : goal.index-requires-2
index-requires-2 c = omega (arith, in_firsts (shown c.self.invariant c.self.view_is) c.args.s.0 c.requires, c.self.inside.firsts.ok)

pub index-requires-3 : goal.index-requires-3
index-requires-3 c = omega (arith, in_signals (shown c.self.invariant c.self.view_is) c.args.s.0 c.requires, c.self.inside.signals.ok)

pub returns : goal.returns
returns c =
    let sh = shown c.self.invariant c.self.view_is in
    let s = c.args.s.0 in
    let within = c.requires in
    let left = c.from.ensures ∙ read_at sh s within _ c.index.result.now (in_left sh s within) c.index.ensures ∙ left_seen sh s within in
    let first = c.from-2.ensures ∙ read_at sh s within _ c.index-2.result.now (in_firsts sh s within) c.index-2.ensures in
    let signals = c.from-3.ensures ∙ read_at sh s within _ c.index-3.result.now (in_signals sh s within) c.index-3.ensures in
    let passes : c.from-2.result + c.from-3.result ≡ passes_at c.args.self.now s = omega (arith, first, signals, passes_seen sh s within) in
    ap (λ n. nat_lt n (c.from-2.result + c.from-3.result)) left ∙ ap (nat_lt (left_at c.args.self.now s)) passes
