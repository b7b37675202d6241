use Rattle.std.proofs.Common.{ℕ, ◌+◌, ◌<◌, length, get_or, rules, arith, sym, subst}
use Rattle.gcd_steal.specs.declared.bench.Bench.{Bench}
use Rattle.gcd_steal.specs.Racks.{DequePass}
use Rattle.gcd_steal.specs.Making.{IsNewPass}
use Rattle.gcd_steal.proofs.Opening.{knows_at, same_more, made_one, made_more}
use Rattle.gcd_steal.proofs.make.split_passes.Goals as goal

pub split_pass_of-requires : goal.split_pass_of-requires
split_pass_of-requires c = knows_at _ _ c.loop-k.benches.items c.loop-k.k _ c.requires c.loop-k.invariant.same (omega (arith, c.loop-k.invariant.same.count, c.len-k-end.ensures)) c.index_mut.ensures.value

pub loop-k-preserved : goal.loop-k-preserved
loop-k-preserved c = let i = c.loop-k.invariant in let now = c.loop-k.benches.items in let within : c.loop-k.k < length now = omega (arith, i.same.count, c.len-k-end.ensures) in
    let x = c.index_mut.result.now in let p = c.split_pass_of.result in record {
      same = same_more _ now c.loop-k.k x c.split_pass_of.new.bench i.same within c.index_mut.ensures.value c.split_pass_of.ensures.same;
      count = search rules;
      made = subst (λ passes. (j : ℕ) (b : Bench) (q : DequePass) → j < c.loop-k.k + 1 → IsNewPass c.args.rack.now (get_or c.args.benches.now.items j b) (get_or passes j q)) (sym c.in_ok-push.ensures.items)
          (made_more c.args.rack.now c.args.benches.now.items c.loop-k.passes.items p c.loop-k.k i.count i.made (made_one c.args.rack.now c.args.benches.now.items now c.loop-k.k x p i.same within c.index_mut.ensures.value c.split_pass_of.ensures.pass));
    }

pub returns-clause-passes : goal.returns-clause-passes
returns-clause-passes c = record { count = omega (arith, c.len-k-end.ensures); each = λ k b p near. c.loop-k.invariant.made k b p (omega (arith, c.len-k-end.ensures)) }
