use Rattle.std.proofs.Common.{◌≡◌, false, arith, refl, sym, get_or-set_same, length-set}
use Rattle.gcd_steal.specs.Deques.{WasEmpty}
use Rattle.gcd_steal.specs.Racks.{IsIdOf, known_by}
use Rattle.gcd_steal.proofs.Benching.{got_one, got_none, read_at}
use Rattle.gcd_steal.proofs.Dealing.{gets}
use Rattle.gcd_steal.proofs.bench.Rack.steal.Goals as goal

pub steal_front-requires-clause-takes : goal.steal_front-requires-clause-takes
steal_front-requires-clause-takes g c = let k = c.args.victim in let l = c.args.bench.now.passes.items in let p = c.index_mut.result.now in
    gets p.id (known_by p) (read_at (λ q. (known_by q).fresh ≡ false) l k p c.index_mut.ensures.value (c.requires.bench.known k p c.requires.victim.0).0)

pub returns-clause-drain : goal.returns-clause-drain
returns-clause-drain g c = let k = c.args.victim in let l = c.args.bench.now.passes.items in let old = c.index_mut.result.now in let new = c.steal_front.new.pass in let v = known_by old in let w = known_by new in
    got_one c.steal_front.result ((w ≡ v) × WasEmpty v) v w _ _ (read_at (λ q. (known_by q).fresh ≡ false) l k old c.index_mut.ensures.value (c.requires.bench.known k old c.requires.victim.0).0) (read_at (λ q. IsIdOf c.args.self.now (known_by q).rack) l k old c.index_mut.ensures.value (c.requires.bench.known k old c.requires.victim.0).1) c.steal_front.ensures.rule

pub returns-clause-empty : goal.returns-clause-empty
returns-clause-empty g c = let k = c.args.victim in let l = c.args.bench.now.passes.items in let old = c.index_mut.result.now in let new = c.steal_front.new.pass in let v = known_by old in let w = known_by new in let b = c.requires.bench in
    got_none c.steal_front.result ((w ≡ v) × WasEmpty v) _ _
    (λ empty. (v, w, (old, omega arith, sym c.index_mut.ensures.value, refl), (new, omega (arith, length-set l k new), get_or-set_same l k new new (omega arith), refl), empty)) c.steal_front.ensures.rule
