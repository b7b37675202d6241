-- What a refusal by the parser says.
use Rattle.std.specs.Prelude.{◌≡◌, ℕ, ◌+◌, List, Some, option_map}
use Rattle.std.specs.Result.{result_err}
use Rattle.gcd_script.specs.declared.fault.ParseFault.{ParseFault}
use Rattle.gcd_script.specs.declared.fault.ParseFault.TheVariants.{Refused, Memory}
use Rattle.gcd_script.specs.Codes.{refusal_code}
use Rattle.gcd_script.specs.Drafts.{DraftView}
use Rattle.gcd_script.specs.Faults.{after_line, fault_of}

-- the line and the code are those of the text's first fault; out of memory says nothing of the text
abbrev pub IsRefusal : List ℕ → ParseFault → Type 0
IsRefusal bytes (Refused line code why) = fault_of bytes ≡ Some (line, code)
IsRefusal bytes Memory = Unit {0}

-- the same of the line after those of a draft
abbrev pub IsLineRefusal : DraftView → List ℕ → ParseFault → Type 0
IsLineRefusal d line (Refused at code why) =
    (at ≡ d.lines + 1) × (option_map refusal_code (result_err (after_line d line)) ≡ Some code)
IsLineRefusal d line Memory = Unit {0}
