-- What each command tells, and why it stops, after whatever calls it made on the outside.
use Rattle.std.specs.Prelude.{ℕ}
use Rattle.gcd_history.specs.Intake.{AcceptsNone}
use Rattle.gcd_outer.specs.Outside.{ClockState, Seen, ShelfState}
use Rattle.gcd_outer.specs.Tells.{PollerState}
use Rattle.gcd_words.specs.Requests.{run_asked}
use Rattle.gcd_words.specs.declared.request.CheckRequest.{CheckRequest}
use Rattle.gcd_words.specs.declared.request.FrontRequest.{FrontRequest}
use Rattle.gcd_words.specs.declared.request.RunRequest.{RunRequest}
use Rattle.gcd_workers.specs.declared.outcome.Outcome.{Outcome}
use Rattle.gcd_workers.specs.declared.over.Over.{Over}
use Rattle.gcd_commands.specs.Calls.{InputsSeen, SomeCalls}
use Rattle.gcd_commands.specs.Checks.{CheckEnds, StopsCheck}
use Rattle.gcd_commands.specs.End.{End}
use Rattle.gcd_commands.specs.Fronts.{FrontEnds, IsFrontCount, StopsFront}
use Rattle.gcd_commands.specs.Hands.{HandsOfCheck, HandsOfFront, HandsOfRun}
use Rattle.gcd_commands.specs.Loads.{SomeLoads}
use Rattle.gcd_commands.specs.Runs.{Ran, RunCalls, RunEnds, StopsRun}
use Rattle.gcd_commands.specs.declared.found.Found.{Found}
use Rattle.gcd_commands.specs.declared.stop.Stop.{Stop}

-- a plan has run with no outside callers, and left this
abbrev pub RanAlone : Seen PollerState → Seen ClockState → Over → (workers : ℕ) → Outcome → Type 0
RanAlone poller clock over workers left = Ran poller clock over.plan.now workers over.most AcceptsNone left.journal.items left.state

-- `run` made some calls, and tells this
abbrev pub RunTells : InputsSeen → RunRequest → End → Type 0
RunTells inputs request end = SomeCalls inputs (λ calls. RunEnds inputs (run_asked request) calls end)

-- `run` made some calls, and stops for this cause
abbrev pub RunStops : InputsSeen → RunRequest → Stop → Type 0
RunStops inputs request stop = SomeCalls inputs (λ calls. StopsRun inputs (run_asked request) calls stop)

-- what `run` hands on beside this end
abbrev pub RunHands : InputsSeen → RunRequest → End → Found → Type 0
RunHands inputs request end found = HandsOfRun inputs (run_asked request) end found

-- `run` made its calls up to some step
abbrev pub RunBegins : InputsSeen → RunRequest → Type 0
RunBegins inputs request = SomeCalls inputs (RunCalls inputs (run_asked request))

-- `check` made some loads, and tells this
abbrev pub CheckTells : Seen ShelfState → CheckRequest → End → Type 0
CheckTells shelf request end = SomeLoads shelf (λ n. CheckEnds shelf request.script.now request.journal.now n end)

-- `check` made some loads, and stops for this cause
abbrev pub CheckStops : Seen ShelfState → CheckRequest → Stop → Type 0
CheckStops shelf request stop = SomeLoads shelf (λ n. StopsCheck shelf request.script.now request.journal.now n stop)

-- what `check` hands on beside this end
abbrev pub CheckHands : Seen ShelfState → CheckRequest → End → Found → Type 0
CheckHands shelf request end found = HandsOfCheck shelf request.script.now request.journal.now end found

-- `front` made some loads, and tells this
abbrev pub FrontTells : InputsSeen → FrontRequest → End → Type 0
FrontTells inputs request end = SomeLoads inputs.shelf (λ n. FrontEnds inputs request.script.now request.senders n end)

-- `front` made some loads, and stops for this cause
abbrev pub FrontStops : Seen ShelfState → FrontRequest → Stop → Type 0
FrontStops shelf request stop = SomeLoads shelf (λ n. StopsFront shelf request.script.now n stop)

-- what `front` hands on beside this end
abbrev pub FrontHands : Seen ShelfState → FrontRequest → End → Found → Type 0
FrontHands shelf request end found = HandsOfFront shelf request.script.now end found

-- `front` made its loads up to some step
abbrev pub FrontBegins : Seen ShelfState → FrontRequest → Type 0
FrontBegins shelf request = SomeLoads shelf (IsFrontCount shelf request.script.now)
