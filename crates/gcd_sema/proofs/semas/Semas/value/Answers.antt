use Rattle.std.proofs.Common.{◌≡◌, ◌∙◌, ◌+◌, ◌-ℤ◌, pos, w64, ap, arith}
use Rattle.std.proofs.Math.Facts.{sfits_lit, yes_ltb}
use Rattle.std.proofs.lemmas.Int.{to_z-of_z}
use Rattle.gcd_sema.specs.SemasView.{passes_at}
use Rattle.gcd_sema.proofs.Cells.{shown, in_firsts, in_signals, in_left, read_at, passes_seen, left_seen}
use Rattle.gcd_sema.proofs.semas.Semas.value.Goals as goal

pub index-requires : goal.index-requires
index-requires c = omega (arith, in_firsts (shown c.self.invariant c.self.view_is) c.args.s.0 c.requires, c.self.inside.firsts.ok)

pub index-requires-2 : goal.index-requires-2
index-requires-2 c = omega (arith, in_signals (shown c.self.invariant c.self.view_is) c.args.s.0 c.requires, c.self.inside.signals.ok)

pub index-requires-3 : goal.index-requires-3
index-requires-3 c = omega (arith, in_left (shown c.self.invariant c.self.view_is) c.args.s.0 c.requires, c.self.inside.left.ok)

pub returns : goal.returns
returns c =
    let sh = shown c.self.invariant c.self.view_is in
    let s = c.args.s.0 in
    let within = c.requires in
    let first = read_at sh s within _ c.index.result.now (in_firsts sh s within) c.index.ensures in
    let signals = read_at sh s within _ c.index-2.result.now (in_signals sh s within) c.index-2.ensures in
    let left = read_at sh s within _ c.index-3.result.now (in_left sh s within) c.index-3.ensures ∙ left_seen sh s within in
    let passes : c.index.result.now + c.index-2.result.now ≡ passes_at c.args.self.now s = omega (arith, first, signals, passes_seen sh s within) in
    to_z-of_z w64 c.value_of.result (sfits_lit (yes_ltb c.value_of.type_inv)) ∙ c.value_of.ensures
    ∙ ap (λ n. pos n -ℤ pos c.index-3.result.now) passes ∙ ap (λ n. pos (passes_at c.args.self.now s) -ℤ pos n) left
