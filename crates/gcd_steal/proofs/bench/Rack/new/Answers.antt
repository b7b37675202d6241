use Rattle.std.proofs.Common.{arith}
use Rattle.gcd_steal.proofs.Assembling.{know_opened, made, unused, numbered}
use Rattle.gcd_steal.proofs.bench.Rack.new.Goals as goal

pub hand_out_passes-requires : goal.hand_out_passes-requires
hand_out_passes-requires c = let o = c.in_ok-benches.ensures in know_opened _ _ _ c.in_ok-benches.field-0.thieves.items _ (omega (arith, o.count.1)) o.opened

pub returns-clause-benches : goal.returns-clause-benches
returns-clause-benches c = let o = c.in_ok-benches.ensures in let h = c.in_ok-hand_out_passes.ensures in
    made _ c.in_ok-tokens.field-0.rack c.args.most c.in_ok-benches.field-0.benches.items c.hand_out_passes.new.benches.items c.in_ok-tokens.ensures.rack o.opened (omega (arith, o.count)) h.same h.passes (omega (arith, o.count))

pub returns-clause-numbers : goal.returns-clause-numbers
returns-clause-numbers c = let o = c.in_ok-benches.ensures in let h = c.in_ok-hand_out_passes.ensures in
    numbered _ _ _ c.in_ok-benches.field-0.thieves.items _ _ o.opened (omega (arith, o.count)) h.same h.passes

pub returns-clause-unused : goal.returns-clause-unused
returns-clause-unused c = let o = c.in_ok-benches.ensures in let h = c.in_ok-hand_out_passes.ensures in
    unused _ _ _ c.in_ok-benches.field-0.thieves.items _ _ o.opened (omega (arith, o.count)) h.same h.passes
