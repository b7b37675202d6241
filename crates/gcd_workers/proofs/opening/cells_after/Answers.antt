use Rattle.std.proofs.Common.{◌≡◌, ◌+◌, ◌∙◌, ℕ, length, ap, subst, sym, arith}
use Rattle.std.proofs.lemmas.List.{length_push}
use Rattle.gcd_jobs.specs.Contents.{contents}
use Rattle.gcd_workers.specs.Opened.{IsCellOf}
use Rattle.gcd_workers.proofs.Places.{each_push}
use Rattle.gcd_workers.proofs.opening.cells_after.Goals as goal

pub loop-slot-preserved : goal.loop-slot-preserved
loop-slot-preserved c =
    let plan = c.args.over.plan.now in
    let of = IsCellOf plan (contents c.args.over.files.now) c.args.kept.now.journal.items c.args.kept.now.values.items in
    let before = c.loop-slot.cells.items in let cell = c.cell_of.result in
    let i = c.loop-slot.invariant in
    let count = i.count in
    let many : 0 + length before ≡ c.loop-slot.slot = omega (arith, count) in
    rw c.in_ok-push.ensures.items (record {
      count = length_push before cell ∙ ap (λ (n : ℕ). n + 1) i.count;
      cells = each_push of 0 before cell i.cells (subst (λ (n : ℕ). of n cell) (sym many) c.cell_of.ensures);
    })
