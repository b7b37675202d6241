-- What a call hands on beside its answer.
use Rattle.std.specs.Prelude.{◌≡◌, List, Option, Some, None}
use Rattle.gcd_outer.specs.Outside.{Bytes}
use Rattle.gcd_words.specs.Asked.{Asked, request_of, run, check, big, front}
use Rattle.gcd_commands.specs.Calls.{InputsSeen}
use Rattle.gcd_commands.specs.End.{End}
use Rattle.gcd_commands.specs.Hands.{HandsOfBig, HandsOfCheck, HandsOfFront, HandsOfRun}
use Rattle.gcd_commands.specs.declared.found.Found.{Found}
use Rattle.gcd_commands.specs.declared.found.Found.TheVariants.{Nothing}
use Rattle.gcd_commands.specs.declared.status.Status.TheVariants.{NoMemory}
use Rattle.gcd_run.specs.Ends.{HasStatus, IsWritten, OutsideSeen}
use Rattle.gcd_run.specs.declared.ended.Account.{Account}

-- what is handed on of a request: a new command is a new case here
abbrev pub AskedHands : InputsSeen → Option Asked → End → Found → Type 0
AskedHands seen None end found = found ≡ Nothing
AskedHands seen (Some (run asked)) end found = HandsOfRun seen asked end found
AskedHands seen (Some (check script journal)) end found = HandsOfCheck seen.shelf script journal end found
AskedHands seen (Some (big count workers)) end found = HandsOfBig count end found
AskedHands seen (Some (front script senders)) end found = HandsOfFront seen.shelf script end found

-- what the call hands on: of what it told, what the command hands on; nothing if memory ran out
pub data HandsOn (outside : OutsideSeen) (words : List Bytes) (result : Account) : Type 0 where
  reported : (end : End) → IsWritten outside.sink end result.ended → AskedHands outside.inputs (request_of words) end result.found
      → HandsOn outside words result
  wanting : HasStatus result.ended NoMemory → result.found ≡ Nothing → HandsOn outside words result
