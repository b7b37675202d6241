use Rattle.std.proofs.Common.{◌∙◌, ap, ◌+◌, ◌≡◌, Some, arith}
use Rattle.std.specs.List.{slice_get}
use Rattle.gcd_plan.specs.Made.{strip_span, strip_block}
use Rattle.gcd_plan.specs.PlanView.{view_of, strip_view}
use Rattle.gcd_plan.proofs.MadeBlocks.{placed}
use Rattle.gcd_plan.proofs.Spans.{among_from}
use Rattle.gcd_plan.proofs.made_valid.check_strip_blocks.Goals as goal

pub returns-clause-fits : goal.returns-clause-fits
returns-clause-fits c =
    let plan = view_of c.args.parts.now in
    let s = strip_view c.args.s.now in
    let among = among_from plan (strip_span s) c.requires.among in
    placed plan.blocks s.first s.count 0 (strip_block s) among.1
    (λ k j below is.
    let at : slice_get plan.blocks (s.first + k) ≡ Some (strip_block s k) = c.loop-place.invariant k (omega (arith, below)) in
    at ∙ ap (λ n. Some (strip_block s n)) (omega (arith, is)))
