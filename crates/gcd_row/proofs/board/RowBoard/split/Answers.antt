use Rattle.std.proofs.Common.{rules, arith, refl, sym, ap, ◌∙◌, []}
use Rattle.gcd_row.specs.Passes.{view}
use Rattle.gcd_row.specs.Views.{lending, newcomer}
use Rattle.gcd_row.proofs.Keeping.{learns_unused}
use Rattle.gcd_row.proofs.Merging.{new_pass, same_pass}
use Rattle.gcd_row.proofs.board.RowBoard.split.Goals as goal

pub load-requires : goal.load-requires
load-requires g c = (search rules, omega (arith, c.args.self.now.sized), learns_unused _ _ c.args.self.now.table.shared.key _ _ _ _ c.requires.pass.may_read)

pub returns-clause-new : goal.returns-clause-new
returns-clause-new g c =
    let me = c.cut-seat.ensures.new.1 ∙ ap (λ m. (newcomer m.0 c.args.worker, [])) c.load.ensures.2.0 in
    let none = c.load.ensures.2.1 c.requires.head c.args.worker (λ z. omega arith) c.requires.number.2 in
    (new_pass _ _ c.args.self.now c.args.pass.now _ c.args.worker c.requires.pass none (c.cut-seat.ensures.new.0 ∙ c.load.ensures.0) me refl c.requires.stands (omega (arith, c.requires.number, c.args.self.now.bounds)) (c.from.ensures ∙ c.args.self.now.began ∙ ap (λ t. t.opened) (sym c.requires.pass.terms)) refl refl refl, ap (λ m. m.0) me)

pub returns-clause-pass : goal.returns-clause-pass
returns-clause-pass g c =
    let v = view c.args.pass.now in
    let me = c.cut-seat.ensures.seat.1 ∙ ap (λ m. (lending m.0 c.args.worker, m.1)) c.load.ensures.2.0 in
    same_pass _ _ c.args.self.now c.args.pass.now _ v.relayed (lending v c.args.worker).hands c.requires.pass (c.cut-seat.ensures.seat.0 ∙ c.load.ensures.0) refl refl
    (ap (λ m. m.1) me) refl refl refl refl (ap (λ m. m.0) me)
