use Rattle.std.proofs.Common.{◌≡◌, ◌∙◌, Bool, cond, ap, sym, arith}
use Rattle.std.proofs.lemmas.Option.{same_Some, slice_get-get_or, slice_get_within}
use Rattle.gcd_history.specs.History.{delivery_count_of, received_of}
use Rattle.gcd_jobs.specs.declared.tally.Tally.{Tally}
use Rattle.gcd_row.specs.Shapes.{away, handler}
use Rattle.gcd_workers.specs.ListRuns.{tally_of}
use Rattle.gcd_workers.proofs.HandedOver.{shape_at}
use Rattle.gcd_workers.proofs.opening.object_cell.Goals as goal

pub returns-then-not-is_source : goal.returns-then-not-is_source
returns-then-not-is_source c =
    let plan = c.args.over.plan.now in let h = c.args.kept.now.journal.items in let o = c.args.object.0 in let kind = c.kind.result in
    sym
    (shape_at plan h o kind c.kind.ensures
    ∙ ap (λ (b : Bool). cond b (handler kind (delivery_count_of h o) (received_of plan h o)) away) (sym c.is_source.ensures ∙ c.if-not-is_source.true))

pub index-tally-requires : goal.index-tally-requires
index-tally-requires c =
    let o = c.args.object.0 in
    let low = slice_get_within c.args.kept.now.tallies.items o (tally_of c.args.over.plan.now c.args.kept.now.journal.items o c.kind.result)
    (c.requires.run.tallies_are o c.kind.result c.kind.ensures (sym c.is_source.ensures ∙ c.if-not-is_source.false)) in
    omega (arith, low)

pub returns : goal.returns
returns c =
    let plan = c.args.over.plan.now in let h = c.args.kept.now.journal.items in let o = c.args.object.0 in let kind = c.kind.result in
    let tallies = c.args.kept.now.tallies.items in
    let source = sym c.is_source.ensures ∙ c.if-not-is_source.false in
    let at = c.requires.run.tallies_are o kind c.kind.ensures source in
    let x = c.index-tally.result.now in
    let low = slice_get_within tallies o (tally_of plan h o kind) at in
    let is : x ≡ tally_of plan h o kind =
    c.index-tally.ensures ∙ same_Some _ (tally_of plan h o kind) (sym (slice_get-get_or tallies o x low) ∙ at) in
    ap (λ (t : Tally). handler t.kind t.times t.total) is
    ∙ sym (ap (λ (b : Bool). cond b (handler kind (delivery_count_of h o) (received_of plan h o)) away) source)
    ∙ sym (shape_at plan h o kind c.kind.ensures)
