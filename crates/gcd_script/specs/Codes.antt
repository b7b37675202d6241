-- The code of each refusal of a line.
use Rattle.std.specs.Prelude.{ℕ}
use Rattle.gcd_script.specs.declared.refusal.Refusal.{Refusal}
use Rattle.gcd_script.specs.declared.refusal.Refusal.TheVariants.{NoForm, BadName, UnknownName, OtherKind, BadNumber, Repeated, InHandler, PastLimit, NotOneMain}

abbrev pub refusal_code : Refusal → ℕ
refusal_code NoForm = 1
refusal_code BadName = 2
refusal_code UnknownName = 3
refusal_code OtherKind = 4
refusal_code BadNumber = 5
refusal_code Repeated = 6
refusal_code InHandler = 7
refusal_code PastLimit = 8
refusal_code NotOneMain = 9
