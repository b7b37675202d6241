use Rattle.std.proofs.Common.{rules, arith, sym, ap, subst, refl, ◌∙◌, ◌≡◌, []}
use Rattle.gcd_machine.specs.Stands.{StandsFor}
use Rattle.gcd_row.specs.Views.{merging}
use Rattle.gcd_row.specs.Passes.{MayRead, view}
use Rattle.gcd_row.proofs.Holding.{rest_none}
use Rattle.gcd_row.proofs.Keeping.{joins, puts_down}
use Rattle.gcd_row.proofs.Merging.{joined_pass}
use Rattle.gcd_row.proofs.pass.RowPass.glue.Goals as goal

pub load-requires : goal.load-requires
load-requires g c = let o = c.requires.other in
    (search rules, omega (arith, c.args.board.now.sized), puts_down _ _ c.args.board.now.table.shared.key _ _ _ _ o.may_read o.has)

pub leave-requires-clause-may : goal.leave-requires-clause-may
leave-requires-clause-may g c = subst (λ v. MayRead v) (sym c.load.ensures.2.0) c.requires.other.may_read

pub leave-requires-clause-place : goal.leave-requires-clause-place
leave-requires-clause-place g c = c.requires.other.number ∙ ap (λ v. v.worker) (sym c.load.ensures.2.0)

pub join_seat-requires : goal.join_seat-requires
join_seat-requires g c = let o = c.requires.other in let same = c.load.ensures.2.0 in let now = c.leave.ensures.view in
    let none : c.leave.new.seat.me.1 ≡ [] = c.leave.ensures.board.1 ∙ c.load.ensures.2.1 ∙ rest_none _ _ _ _ _ _ o.has in
    (search rules, search rules, none, omega (arith, c.args.board.now.sized), joins _ _ c.args.board.now.table.shared.key _ _ _ _ c.requires.pass.may_read.unspent c.requires.head (ap (λ v. v.spent) now ∙ ap (λ v. v.spent) same ∙ o.may_read.unspent) (ap (λ v. v.marks.passed) now))

pub returns-clause-pass : goal.returns-clause-pass
returns-clause-pass g c =
    let p = c.requires.pass in let o = c.requires.other in
    let v = view c.args.pass.now in let u = view c.args.self in
    joined_pass _ _ c.args.board.now c.args.pass.now c.args.self _ p o c.requires.ahead c.join_seat.ensures.0 refl (ap (λ m. m.1) c.join_seat.ensures.2) refl refl refl refl
    (ap (λ m. m.0) c.join_seat.ensures.2 ∙ ap (merging v) c.leave.ensures.view ∙ ap (merging v) c.load.ensures.2.0)
    (c.take_farther.ensures v.terms.plan v.seen u.seen p.stands (subst (λ t. StandsFor c.args.self.machine t.plan u.seen) (o.terms ∙ sym p.terms) o.stands))

pub returns-clause-view : goal.returns-clause-view
returns-clause-view g c = let v = view c.args.pass.now in ap (λ m. m.0) c.join_seat.ensures.2 ∙ ap (merging v) c.leave.ensures.view ∙ ap (merging v) c.load.ensures.2.0
