use Rattle.std.proofs.Common.{◌≡◌, ◌<◌, ◌∙◌, ℕ, length, Some, ap, sym, subst, arith}
use Rattle.std.proofs.lemmas.Option.{slice_get-get_or}
use Rattle.gcd_workers.specs.JobsRuns.{AreTaken}
use Rattle.gcd_workers.proofs.Giving.{taken_push}
use Rattle.gcd_workers.proofs.jobs_board.values_of.Goals as goal

pub loop-number-preserved : goal.loop-number-preserved
loop-number-preserved g c = λ plan h stands.
    let n = c.loop-number.number in
    let cells = c.args.cells.now in
    let cell = c.index-cells-number.result in
    let low : n < length cells = omega arith in
    let at = slice_get-get_or cells n cell low ∙ ap Some (sym c.index-cells-number.is) in
    rw c.in_ok-push.ensures.items
    (taken_push plan h cells n c.loop-number.values.items cell c.value_in.result c.has_given-given.result (c.has_given-given.ensures plan h stands) at
    c.value_in.ensures.ended c.value_in.ensures.other (c.loop-number.invariant plan h stands))

pub returns : goal.returns
returns g c = λ plan h stands.
    let all : c.loop-number.number ≡ length c.args.machine.now.plan.blocks = omega arith in
    subst (λ (n : ℕ). AreTaken plan h c.args.cells.now n c.loop-number.values.items) all (c.loop-number.invariant plan h stands)
