-- The calls that a command took, by what it tells.
use Rattle.std.proofs.Common.{◌∙◌, ◌+◌, ℕ, length, ap, inl, inr, arith}
use Rattle.gcd_outer.specs.Outside.{Bytes, Seen, ShelfState}
use Rattle.gcd_words.specs.Asked.{RunAsked}
use Rattle.gcd_commands.specs.Calls.{Calls, InputsSeen, only_loads}
use Rattle.gcd_commands.specs.Checks.{IsCheckCount, StopsCheck}
use Rattle.gcd_commands.specs.Checks.StopsCheck.{at_script as check_at_script, at_journal}
use Rattle.gcd_commands.specs.Fronts.{IsFrontCount, StopsFront}
use Rattle.gcd_commands.specs.Fronts.IsFrontCount.{of_script as count_of_script, of_files}
use Rattle.gcd_commands.specs.Fronts.StopsFront.{at_script as front_at_script, at_intake, at_file as front_at_file, wanting as front_wanting}
use Rattle.gcd_commands.specs.Loads.StopsReady.{at_script, at_file}
use Rattle.gcd_commands.specs.Runs.{RunCalls, StopsRun}
use Rattle.gcd_commands.specs.Runs.RunCalls.{of_script, of_file, of_listen, of_run}
use Rattle.gcd_commands.specs.Runs.StopsRun.{unready, at_listen, wanting}
use Rattle.gcd_commands.specs.declared.stop.Stop.{Stop}
use Rattle.gcd_commands.proofs.Loading.{file_within}

-- the calls of a run that stops
pub stops_calls : (seen : InputsSeen) (asked : RunAsked) (calls : Calls) (stop : Stop) → StopsRun seen asked calls stop → RunCalls seen asked calls
stops_calls seen asked calls stop (unready n (at_script why one) is) = of_script (is ∙ ap only_loads one)
stops_calls seen asked calls stop (unready n (at_file plan f plan_is stops two) is) =
    of_file plan f plan_is (file_within seen.shelf plan.files f stop stops) (is ∙ ap only_loads two)
stops_calls seen asked calls stop (at_listen plan contents address ready listen failed stop_is is) =
    of_listen plan address ready.plan_is listen is
stops_calls seen asked calls stop (wanting plan contents ready stop_is is) = of_run plan ready.plan_is is

-- the loads of `front`
pub front_stops_count : (shelf : Seen ShelfState) (script : Bytes) (n : ℕ) (stop : Stop) → StopsFront shelf script n stop → IsFrontCount shelf script n
front_stops_count shelf script n stop (front_at_script why one) = count_of_script one
front_stops_count shelf script n stop (at_intake plan plan_is none is one) = count_of_script one
front_stops_count shelf script n stop (front_at_file plan intake f plan_is some stops two) =
    let within = file_within shelf plan.files f stop stops in
    of_files plan (f + 1) plan_is (omega (arith, within)) (omega (arith, two))
front_stops_count shelf script n stop (front_wanting plan contents ready is many) = of_files plan (length plan.files) ready.plan_is (omega arith) many

-- the loads of a check
pub stops_count : (shelf : Seen ShelfState) (script journal : Bytes) (n : ℕ) (stop : Stop) → StopsCheck shelf script journal n stop → IsCheckCount n
stops_count shelf script journal n stop (check_at_script why one) = inl one
stops_count shelf script journal n stop (at_journal plan plan_is why two) = inr two
