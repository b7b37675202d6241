-- What words mean: a value, or why they are refused. Of two refusals the one of the lower code applies.
use Rattle.std.specs.Prelude.{nat_le, Bool, if◌then◌else◌, Result, Ok, Err}
use Rattle.gcd_script.specs.Codes.{refusal_code}
use Rattle.gcd_script.specs.declared.refusal.Refusal.{Refusal}
use Rattle.gcd_script.specs.declared.refusal.Refusal.TheVariants.{NoForm}

-- a value, or the refusal of the lowest code
abbrev pub Meant : Type 0 → Type 0
Meant T = Result T Refusal

-- the refusal of the lower code
abbrev pub lower : Refusal → Refusal → Refusal
lower p q = if nat_le (refusal_code p) (refusal_code q) then p else q

-- what is made of a value; a refusal stays
abbrev pub meant : {A B : Type 0} → (A → B) → Meant A → Meant B
meant make (Ok a) = Ok (make a)
meant make (Err p) = Err p

-- what a value means further; a refusal stays
abbrev pub then_meant : {A B : Type 0} → (A → Meant B) → Meant A → Meant B
then_meant next (Ok a) = next a
then_meant next (Err p) = Err p

-- both values, or the lower of the refusals
abbrev pub both : {A B : Type 0} → Meant A → Meant B → Meant (A × B)
both (Ok a) (Ok b) = Ok (a, b)
both (Ok a) (Err q) = Err q
both (Err p) (Ok b) = Err p
both (Err p) (Err q) = Err (lower p q)

-- nothing where the test holds, and else the refusal
abbrev pub must : Bool → Refusal → Meant (Unit {0})
must test refusal = if test then Ok tt else Err refusal

-- no form where the test fails
abbrev pub given : {A : Type 0} → Bool → Meant A → Meant A
given test value = if test then value else Err NoForm
