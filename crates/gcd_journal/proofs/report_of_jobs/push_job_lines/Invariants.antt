use Rattle.std.proofs.Common.{◌≡◌, ◌++◌, List, string_bytes}
use Rattle.std.specs.List.{flat_map, range_with_len}
use Rattle.gcd_event.specs.declared.event.Event.{Event}
use Rattle.gcd_machine.specs.Stands.{StandsFor}
use Rattle.gcd_journal.specs.JobsReport.{job_line, job_value}
use Rattle.gcd_journal.proofs.report_of_jobs.push_job_lines.Given as goal

abbrev pub invariant-loop-b : goal.invariant-loop-b
invariant-loop-b l = (h : List Event) → StandsFor l.machine l.plan h → string_bytes l.text ≡ string_bytes l.fn.text ++ flat_map (job_line l.plan (job_value l.values) h) (range_with_len 0 l.b)
