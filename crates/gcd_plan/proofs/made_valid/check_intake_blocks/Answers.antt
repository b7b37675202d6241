use Rattle.std.proofs.Common.{◌∙◌, ap, ◌+◌, ◌≡◌, Some, arith}
use Rattle.std.specs.List.{slice_get}
use Rattle.gcd_plan.specs.Made.{Span, intake_block}
use Rattle.gcd_plan.specs.PlanView.{view_of}
use Rattle.gcd_plan.proofs.MadeBlocks.{placed}
use Rattle.gcd_plan.proofs.Spans.{among_from}
use Rattle.gcd_plan.proofs.made_valid.check_intake_blocks.Goals as goal

pub returns-clause-fits : goal.returns-clause-fits
returns-clause-fits c =
    let plan = view_of c.args.parts.now in
    let span : Span = record { first = c.args.first; count = c.args.count } in
    let among = among_from plan span c.requires.among in
    placed plan.blocks c.args.first c.args.count 1 intake_block among.1
    (λ k j below is.
    let at : slice_get plan.blocks (c.args.first + k) ≡ Some (intake_block (k + 1)) = c.loop-k.invariant k (omega (arith, below)) in
    at ∙ ap (λ n. Some (intake_block n)) (omega (arith, is)))
