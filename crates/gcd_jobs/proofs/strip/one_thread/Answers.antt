use Rattle.std.proofs.Common.{arith, ◌≡◌, ◌-◌, ◌++◌, ap, sym, ◌∙◌}
use Rattle.std.specs.List.{slice_get}
use Rattle.gcd_plan.specs.PlanView.{strip_view}
use Rattle.gcd_jobs.specs.Contents.{contents}
use Rattle.gcd_jobs.specs.StripValues.{values_from}
use Rattle.gcd_plan.proofs.Strips.{strip_there, strip_low}
use Rattle.gcd_jobs.proofs.StripValues.{values_of_strip}
use Rattle.gcd_jobs.proofs.strip.one_thread.Goals as goal

pub put_values-requires-clause-order : goal.put_values-requires-clause-order
put_values-requires-clause-order c =
    let a = c.args.a in
    let strip = c.in-Some.strip.now in
    let at = ap (λ xs. slice_get xs a) (sym c.strips.ensures.strips) ∙ strip_there c.strips.result.now a strip c.in-Some.ensures.lookup.3.0 c.in-Some.ensures.lookup.1 in
    let low = strip_low c.args.plan.now a (strip_view strip) c.blocks-2.ensures.valid at in
    omega (arith, low, c.min-end.ensures, c.saturating_add.ensures, c.blocks-2.ensures.count)

pub returns-clause-values : goal.returns-clause-values
returns-clause-values c =
    let plan = c.args.plan.now in
    let files = contents c.args.files.now in
    let a = c.args.a in
    let strip = c.in-Some.strip.now in
    let at = ap (λ xs. slice_get xs a) (sym c.strips.ensures.strips) ∙ strip_there c.strips.result.now a strip c.in-Some.ensures.lookup.3.0 c.in-Some.ensures.lookup.1 in
    let low = strip_low plan a (strip_view strip) c.blocks-2.ensures.valid at in
    let many : c.min-end.result - strip.first ≡ strip.count = omega (arith, low, c.min-end.ensures, c.saturating_add.ensures, c.blocks-2.ensures.count) in
    c.put_values.ensures
    ∙ (ap (λ xs. xs ++ values_from plan files strip.first (c.min-end.result - strip.first)) c.in_ok-reserve.ensures.items
    ∙ (ap (λ n. c.args.into.now.items ++ values_from plan files strip.first n) many
    ∙ ap (λ xs. c.args.into.now.items ++ xs) (values_of_strip plan files a (strip_view strip) at)))
