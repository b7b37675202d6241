-- Looks for a Drain, one after the other.
use Rattle.std.proofs.Common.{◌≡◌, ℕ, zero, suc, Option, Some, None, inr, refl, subst, sym}
use Rattle.std.specs.Prelude.{IfNone, IfSome}
use Rattle.gcd_plan.specs.declared.numbers.Obj.{Obj}
use Rattle.gcd_steal.specs.Drains.{node_of, sight_with}
use Rattle.gcd_steal.specs.Places.{Misses, Takes, newcomer}
use Rattle.gcd_steal.specs.Racks.{SameButSeat, sight_of}
use Rattle.gcd_steal.specs.declared.bench.Bench.{Bench}
use Rattle.gcd_steal.specs.declared.drain.Drain.{Drain}
use Rattle.gcd_pool.specs.Found.{Finds, FindsNone, HasFound, HasFoundNone}

-- a look in vain, and more of them
pub none_first : (n : ℕ) (a b c : Bench) → FindsNone a b → HasFoundNone n b c → HasFoundNone (suc n) a c
none_first zero a b c first more = (a, refl, subst (FindsNone a) (sym more) first)
none_first (suc n) a b c first more = (more.0, none_first n a b more.0 first more.1, more.2)

pub found_after : (a b c : Bench) (d : Drain) → FindsNone a b → HasFound b d c → HasFound a d c
found_after a b c d first has = record { tries = suc has.tries; looked = has.looked; in_vain = none_first has.tries a b has.looked first has.in_vain; found = has.found }

pub none_after_none : (a b c : Bench) → FindsNone a b → (n : ℕ) × HasFoundNone n b c → (n : ℕ) × HasFoundNone n a c
none_after_none a b c first more = (suc more.0, none_first more.0 a b c first more.1)

-- and one look more
pub none_next : (a b c : Bench) → (n : ℕ) × HasFoundNone n a b → FindsNone b c → (n : ℕ) × HasFoundNone n a c
none_next a b c before next = (suc before.0, (b, before.1, next))

pub found_next : (a b c : Bench) (d : Drain) → (n : ℕ) × HasFoundNone n a b → Finds b d c → HasFound a d c
found_next a b c d before found = record { tries = before.0; looked = b; in_vain = before.1; found = found }

-- found with the first look
pub found_at_once : (b c : Bench) (d : Drain) → Finds b d c → HasFound b d c
found_at_once b c d found = record { tries = 0; looked = b; in_vain = refl; found = found }

-- ## A node's own Drain, after others were looked for

pub woken : (P : Drain → Type 0) (r : Option Drain) (a b c : Bench) (n : Obj) → (k : ℕ) × HasFoundNone k a b → SameButSeat b c → IfSome r (λ d. P d × (node_of d ≡ n))
    → IfSome r (λ d. Takes n.0 (sight_of b) (sight_with d) × (sight_of c ≡ newcomer (sight_with d))) → IfSome r (λ d. HasFound a d c)
woken P None a b c n before same drain took = tt
woken P (Some d) a b c n before same drain took =
    found_next a b c d before (inr (inr (same, subst (λ (o : Obj). Takes o.0 (sight_of b) (sight_with d)) (sym drain.1) took.0, took.1)))

pub not_woken : (Q : Type 0) (r : Option Drain) (a b c : Bench) (n : ℕ) → (k : ℕ) × HasFoundNone k a b → SameButSeat b c → IfNone r (Misses n (sight_of b) (sight_of c) × Q) → IfNone r ((k : ℕ) × HasFoundNone k a c)
not_woken Q None a b c n before same missed = none_next a b c before (inr (inr (n, same, missed.0)))
not_woken Q (Some d) a b c n before same missed = tt
