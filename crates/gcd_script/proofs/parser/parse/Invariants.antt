use Rattle.std.proofs.Common.{◌+◌, ◌≤◌, length}
use Rattle.gcd_builder.specs.Agreement.{Agrees}
use Rattle.gcd_script.specs.Sound.{IsDraft}
use Rattle.gcd_script.specs.Views.{draft_view}
use Rattle.gcd_script.proofs.Reading.{Leads}
use Rattle.gcd_script.proofs.parser.parse.Given as goal

abbrev pub invariant-loop-line : goal.invariant-loop-line
invariant-loop-line l = record {
  leads : Leads l.bytes (draft_view l.draft) l.rest;
  agrees : Agrees l.draft.plan;
  sound : IsDraft (draft_view l.draft);
  short : l.draft.lines + length l.rest ≤ length l.bytes;
}

abbrev pub decreases-loop-line : goal.decreases-loop-line
decreases-loop-line l = length l.rest
