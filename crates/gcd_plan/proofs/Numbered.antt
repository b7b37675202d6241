-- Blocks and objects are their numbers.
use Rattle.std.proofs.Common.{◌≡◌, ℕ, ◌==◌, true, false, Option, Some, None, ap}
use Rattle.std.specs.Option.{option_map_or}
use Rattle.std.proofs.lemmas.Bool.{eqb-true}
use Rattle.gcd_plan.specs.declared.numbers.Blk.{Blk}
use Rattle.gcd_plan.specs.declared.numbers.Obj.{Obj}

pub same_blk : (b c : Blk) → b.0 ≡ c.0 → b ≡ c
same_blk b c e = let made : ℕ → Blk = λ n. record { 0 = n } in ap made e

pub same_obj : (s t : Obj) → s.0 ≡ t.0 → s ≡ t
same_obj s t e = let made : ℕ → Obj = λ n. record { 0 = n } in ap made e

-- the node of that number
pub on_node : (n : ℕ) (node : Option Obj) → option_map_or (λ o. o.0 == n) node false ≡ true → node ≡ Some (record { 0 = n })
on_node n None on = cc
on_node n (Some o) on = ap (λ k. Some (record { 0 = k })) (eqb-true o.0 n on)
