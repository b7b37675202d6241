use Rattle.std.proofs.Common.{◌≡◌, ◌∙◌, sym, refl, subst}
use Rattle.gcd_row.specs.Passes.{view, Ahead}
use Rattle.gcd_row.specs.Views.{longer, merging, hearing}
use Rattle.gcd_row.specs.Plays.{Compares}
use Rattle.gcd_row.proofs.Merging.{merged}
use Rattle.gcd_row.proofs.board.RowBoard.join.Goals as goal

pub glue-requires-clause-ahead : goal.glue-requires-clause-ahead
glue-requires-clause-ahead g c =
    let v = view c.args.pass.now in
    let u = view c.args.other in
    let one = c.tell.ensures in
    let two = c.tell-2.ensures in
    let p : view c.tell-2.new.other ≡ hearing v u = two.same ∙ one.relayed in
    let q : view c.tell-2.new.pass ≡ hearing u v = two.relayed ∙ (λ i. hearing (one.same i) (one.relayed i)) in
    let pp : view c.compare.new.pass ≡ hearing v u = c.compare.ensures.same ∙ p in
    let qq : view c.compare-2.new.pass ≡ hearing u v = c.compare-2.ensures.same ∙ q in
    let m = (merged v u (merging (hearing v u) u) (subst Compares p c.compare.ensures.compared) (subst Compares q c.compare-2.ensures.compared) refl).mine in
    subst (λ x. Ahead x (longer x.seen (view c.compare-2.new.pass).seen)) (sym pp) (subst (λ y. Ahead (hearing v u) (longer v.seen y.seen)) (sym qq) (record { more = m.more; own = m.own }))

pub returns-clause-view : goal.returns-clause-view
returns-clause-view g c =
    let v = view c.args.pass.now in
    let u = view c.args.other in
    let one = c.tell.ensures in
    let two = c.tell-2.ensures in
    let p : view c.tell-2.new.other ≡ hearing v u = two.same ∙ one.relayed in
    let q : view c.tell-2.new.pass ≡ hearing u v = two.relayed ∙ (λ i. hearing (one.same i) (one.relayed i)) in
    let pp : view c.compare.new.pass ≡ hearing v u = c.compare.ensures.same ∙ p in
    let qq : view c.compare-2.new.pass ≡ hearing u v = c.compare-2.ensures.same ∙ q in
    merged v u (view c.glue.new.pass) (subst Compares p c.compare.ensures.compared) (subst Compares q c.compare-2.ensures.compared) (c.glue.ensures.view ∙ (λ i. merging (pp i) (qq i)))
