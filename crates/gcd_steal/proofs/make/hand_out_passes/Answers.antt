use Rattle.std.proofs.Common.{◌<◌, length, ap, arith}
use Rattle.gcd_steal.proofs.Opening.{know_still, given_none, given_more, have_more}
use Rattle.gcd_steal.proofs.make.hand_out_passes.Goals as goal

pub split_passes-requires : goal.split_passes-requires
split_passes-requires c = know_still _ _ _ c.requires c.loop-k.invariant.same

pub returns-in_err-passes-clause-same : goal.returns-in_err-passes-clause-same
returns-in_err-passes-clause-same c = given_none _ _ _ c.loop-k.invariant.same c.split_passes.ensures.same

pub loop-k-preserved : goal.loop-k-preserved
loop-k-preserved c = let i = c.loop-k.invariant in let asked = c.split_passes.ensures.same in let next = c.split_passes.new.benches.items in
    let within : c.loop-k.k < length next = omega (arith, i.same.count, asked.count, c.len-k-end.ensures) in let at = c.index_mut.ensures.value in let given = c.set_passes.ensures in record {
      same = given_more _ _ next c.loop-k.k _ _ i.same asked within at given.same;
      passes = have_more _ _ next _ c.loop-k.k _ _ asked i.passes c.in_ok-passes.ensures.passes within at given.same (ap (λ v. v.items) given.passes);
    }

pub returns-clause-passes : goal.returns-clause-passes
returns-clause-passes c = λ k b near. c.loop-k.invariant.passes k b (omega (arith, near, c.loop-k.invariant.same.count, c.len-k-end.ensures))
