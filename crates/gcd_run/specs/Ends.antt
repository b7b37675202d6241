-- The ways in which a call can end, one rule for each.
use Rattle.std.specs.Borrow.{Bor}
use Rattle.std.specs.Prelude.{◌≡◌, ◌⊎◌, ℕ, true, List, [], Option, Some, None, map}
use Rattle.gcd_outer.specs.Outside.{Bytes, Seen, SinkState, SinkFailed, Took, TookFront, seen}
use Rattle.gcd_outer.specs.declared.clock.Clock.{Ghosts as ClockGhosts}
use Rattle.gcd_outer.specs.declared.poller.Poller.{Ghosts as PollerGhosts}
use Rattle.gcd_outer.specs.declared.shelf.Shelf.{Ghosts as ShelfGhosts}
use Rattle.gcd_outer.specs.declared.sink.Sink.{Ghosts as SinkGhosts}
use Rattle.gcd_words.specs.Asked.{Asked, request_of, run, check, big, front}
use Rattle.gcd_commands.specs.Calls.{Calls, InputsSeen, Made, SomeCalls, inputs, only_loads}
use Rattle.gcd_commands.specs.Checks.{CheckEnds, IsCheckCount}
use Rattle.gcd_commands.specs.End.{End, usage_end}
use Rattle.gcd_commands.specs.Fronts.{FrontEnds, IsFrontCount}
use Rattle.gcd_commands.specs.Runs.{BigEnds, RunCalls, RunEnds}
use Rattle.gcd_commands.specs.StatusCodes.{status_code}
use Rattle.gcd_commands.specs.declared.status.Status.{Status}
use Rattle.gcd_commands.specs.declared.status.Status.TheVariants.{CutOff, NoMemory}
use Rattle.gcd_run.specs.declared.ended.Ended.{Ended}

-- the bytes of each text
abbrev pub texts : List (Bor Bytes) → List Bytes
texts words = map (λ word. word.now) words

-- what a call saw of its inputs, and of the sink
pub record OutsideSeen : Type 0 where
  pub inputs : InputsSeen
  pub sink : Seen SinkState

-- what a call saw of shelf, poller, clock and sink, from the ghost members of each, and its values before and after the call
abbrev pub outside : {S P C K : Type 0} → ShelfGhosts S → (shelf later_shelf : S) → PollerGhosts P → (poller later_poller : P)
    → ClockGhosts C → (clock later_clock : C) → SinkGhosts K → (sink later_sink : K) → OutsideSeen
outside of_shelf shelf later_shelf of_poller poller later_poller of_clock clock later_clock of_sink sink later_sink = record {
  inputs = inputs of_shelf shelf later_shelf of_poller poller later_poller of_clock clock later_clock;
  sink = seen of_sink.tells of_sink.state sink later_sink;
}

-- the shelf tells what it holds
abbrev pub ShelfTells : OutsideSeen → Type 0
ShelfTells outside = outside.inputs.shelf.tells ≡ true

-- what the shelf holds under each name
abbrev pub shelf_content : OutsideSeen → Bytes → Option Bytes
shelf_content outside = outside.inputs.shelf.before.content

-- `check` makes loads alone
pub record OnlyChecks (seen : InputsSeen) (script journal : Bytes) (calls : Calls) (end : End) : Type 0 where
  pub loads : ℕ
  pub calls_are : calls ≡ only_loads loads
  pub ends : CheckEnds seen.shelf script journal loads end

-- `front` makes loads alone
pub record OnlyFronts (seen : InputsSeen) (script : Bytes) (senders : ℕ) (calls : Calls) (end : End) : Type 0 where
  pub loads : ℕ
  pub calls_are : calls ≡ only_loads loads
  pub ends : FrontEnds seen script senders loads end

-- what is told of a request, after these calls: a new command is a new case here
abbrev pub AskedEnds : InputsSeen → Option Asked → Calls → End → Type 0
AskedEnds seen None calls end = (calls ≡ only_loads 0) × (end ≡ usage_end)
AskedEnds seen (Some (run asked)) calls end = RunEnds seen asked calls end
AskedEnds seen (Some (check script journal)) calls end = OnlyChecks seen script journal calls end
AskedEnds seen (Some (big count workers)) calls end = (calls ≡ only_loads 0) × BigEnds seen.poller seen.clock count workers end
AskedEnds seen (Some (front script senders)) calls end = OnlyFronts seen script senders calls end

-- what is told at these words, after these calls
abbrev pub WordsEnd : InputsSeen → List Bytes → Calls → End → Type 0
WordsEnd seen words calls end = AskedEnds seen (request_of words) calls end

-- `check` makes so many loads up to some step
pub record OnlyLoads (calls : Calls) : Type 0 where
  pub loads : ℕ
  pub calls_are : calls ≡ only_loads loads
  pub few : IsCheckCount loads

-- `front` makes so many loads up to some step
pub record OnlyFrontLoads (seen : InputsSeen) (script : Bytes) (calls : Calls) : Type 0 where
  pub loads : ℕ
  pub calls_are : calls ≡ only_loads loads
  pub few : IsFrontCount seen.shelf script loads

-- the calls of a request up to some step; `big`, and words that name no command, make none
abbrev pub AskedCalls : InputsSeen → Option Asked → Calls → Type 0
AskedCalls seen None calls = calls ≡ only_loads 0
AskedCalls seen (Some (run asked)) calls = RunCalls seen asked calls
AskedCalls seen (Some (check script journal)) calls = OnlyLoads calls
AskedCalls seen (Some (big count workers)) calls = calls ≡ only_loads 0
AskedCalls seen (Some (front script senders)) calls = OnlyFrontLoads seen script calls

-- the calls at these words up to some step: none before the words are read
abbrev pub WordsCall : InputsSeen → List Bytes → Calls → Type 0
WordsCall seen words calls = (calls ≡ only_loads 0) ⊎ AskedCalls seen (request_of words) calls

-- some calls were made, and this is told at the words
abbrev pub WordsTell : InputsSeen → List Bytes → End → Type 0
WordsTell seen words end = SomeCalls seen (λ calls. WordsEnd seen words calls end)

-- the calls at these words up to some step were made
abbrev pub WordsBegin : InputsSeen → List Bytes → Type 0
WordsBegin seen words = SomeCalls seen (WordsCall seen words)

-- the call answers this status
abbrev pub HasStatus : Ended → Status → Type 0
HasStatus result status = result.status ≡ status_code status

-- the call answers this status, and the end's journal and place
pub record Answers (result : Ended) (end : End) (status : Status) : Type 0 where
  pub status_is : HasStatus result status
  pub journal_is : result.journal.items ≡ end.journal
  pub at_is : result.at ≡ end.at

-- what became of the text: it was written whole, or the sink failed in the call
pub data IsWritten (sink : Seen SinkState) (end : End) (result : Ended) : Type 0 where
  whole : Took sink end.text → Answers result end end.status → IsWritten sink end result
  cut_off : TookFront sink end.text → SinkFailed sink → Answers result end CutOff → IsWritten sink end result

-- memory ran out: nothing was written, and nothing is told
pub record IsWanting (sink : Seen SinkState) (result : Ended) : Type 0 where
  pub status_is : HasStatus result NoMemory
  pub nothing : Took sink []
  pub journal_is : result.journal.items ≡ []
  pub at_is : result.at ≡ None

-- how the call ends: something is told at the words, or memory ran out at some step
pub data CallEnds (outside : OutsideSeen) (words : List Bytes) (result : Ended) : Type 0 where
  reported : (end : End) (calls : Calls) → Made outside.inputs calls → WordsEnd outside.inputs words calls end
      → IsWritten outside.sink end result → CallEnds outside words result
  wanting : (calls : Calls) → Made outside.inputs calls → WordsCall outside.inputs words calls → IsWanting outside.sink result
      → CallEnds outside words result
