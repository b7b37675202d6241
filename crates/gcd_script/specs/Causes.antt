-- The refusal that each cause belongs to. The definitions of the grammar tell refusals alone.
use Rattle.std.specs.Prelude.{◌≡◌, ℕ, Result, Ok, Err}
use Rattle.gcd_script.specs.declared.cause.Cause.{Cause}
use Rattle.gcd_script.specs.declared.cause.Cause.TheVariants.{BadByte, UnknownFirst, WordCount, Misplaced, LongPath, OutsideBody, SecondUntil, SecondIntake, IllFormedName, ReservedName, TakenName, NotFile, NotBlock, NotStrip, NotObject, SubmittedTwice, AppliedTwice, SecondHandler, SecondCancel, SecondMain, NoMain}
use Rattle.gcd_script.specs.declared.cause.Cause.TheVariants as cause
use Rattle.gcd_script.specs.declared.fault.ParseFault.{ParseFault}
use Rattle.gcd_script.specs.declared.fault.ParseFault.TheVariants.{Refused, Memory}
use Rattle.gcd_script.specs.declared.refusal.Refusal.{Refusal}
use Rattle.gcd_script.specs.declared.refusal.Refusal.TheVariants.{NoForm, BadName, UnknownName, OtherKind, BadNumber, Repeated, InHandler, PastLimit, NotOneMain}
use Rattle.gcd_script.specs.Codes.{refusal_code}
use Rattle.gcd_script.specs.Meant.{Meant}

-- the refusal
abbrev pub cause_refusal : Cause → Refusal
cause_refusal BadByte = NoForm
cause_refusal UnknownFirst = NoForm
cause_refusal WordCount = NoForm
cause_refusal (Misplaced place expected) = NoForm
cause_refusal (LongPath place) = NoForm
cause_refusal OutsideBody = NoForm
cause_refusal SecondUntil = BadName
cause_refusal SecondIntake = BadName
cause_refusal IllFormedName = BadName
cause_refusal ReservedName = BadName
cause_refusal TakenName = BadName
cause_refusal (cause.UnknownName place) = UnknownName
cause_refusal (NotFile place) = OtherKind
cause_refusal (NotBlock place) = OtherKind
cause_refusal (NotStrip place) = OtherKind
cause_refusal (NotObject place asked) = OtherKind
cause_refusal (cause.BadNumber place amount) = BadNumber
cause_refusal SubmittedTwice = Repeated
cause_refusal AppliedTwice = Repeated
cause_refusal SecondHandler = Repeated
cause_refusal SecondCancel = Repeated
cause_refusal cause.InHandler = InHandler
cause_refusal (cause.PastLimit limit) = PastLimit
cause_refusal SecondMain = NotOneMain
cause_refusal NoMain = NotOneMain

-- its code
abbrev pub cause_code : Cause → ℕ
cause_code why = refusal_code (cause_refusal why)

-- what the code's words mean, to the definitions: a value, or the refusal
abbrev pub coded : {T : Type 0} → Result T Cause → Meant T
coded (Ok value) = Ok value
coded (Err why) = Err (cause_refusal why)

-- the cause is one of the code that is told
abbrev pub HasItsCause : ParseFault → Type 0
HasItsCause (Refused line code why) = cause_code why ≡ code
HasItsCause Memory = Unit {0}
