-- A refusal is kept by what is made of a value.
use Rattle.std.proofs.Common.{◌≡◌, Err, ap}
use Rattle.gcd_script.specs.declared.refusal.Refusal.{Refusal}
use Rattle.gcd_script.specs.Meant.{Meant, meant}

pub kept : {A B : Type 0} (make : A → B) (why : Refusal) (m : Meant A) → ◌≡◌ {A = Meant A} (Err why) m → ◌≡◌ {A = Meant B} (Err why) (meant make m)
kept make why m h = ap (meant make) h
