use Rattle.std.proofs.Common.{rules, arith, ap, sym, subst, ◌∙◌, ◌≡◌, Some}
use Rattle.gcd_history.specs.History.{next_of_intake}
use Rattle.gcd_row.specs.Passes.{MayRead, view}
use Rattle.gcd_row.specs.Views.{turning}
use Rattle.gcd_row.specs.declared.view.Next.TheVariants.{Out}
use Rattle.gcd_row.proofs.Laying.{reaches, lays_down}
use Rattle.gcd_row.proofs.board.RowBoard.lay.Goals as goal

pub load-requires : goal.load-requires
load-requires g c = let p = c.requires.pass in
    (search rules, omega (arith, c.args.self.now.sized), reaches _ _ c.args.self.now.table.shared.key _ _ _ _ c.args.b p.may_read c.requires.head p.back c.requires.next)

pub load-requires-2 : goal.load-requires-2
load-requires-2 g c =
    let p = c.requires.pass in
    let v = view c.args.pass.now in
    let taken = c.load.ensures.2 c.args.b c.requires.next in
    let laid = c.exchange-before.ensures.3 in
    let is : c.exchange-before.new.seat.me.0 ≡ turning v Out = ap (λ m. m.0) laid ∙ ap (λ m. m.0) taken.1 in (
      search rules,
      omega (arith, c.args.self.now.sized),
      lays_down _ _ c.args.self.now.table.shared.key _ _ _ _ c.args.b c.args.cell _ (subst (λ x. MayRead x) (sym is) (record { unspent = p.may_read.unspent; number = p.may_read.number; passed = p.may_read.passed }))
          (ap (λ x. x.worker) is ∙ c.requires.head) (ap (λ x. x.handed.next) is) (subst (λ x. next_of_intake x.terms.plan x.seen ≡ Some c.args.b) (sym is) c.requires.next) (ap (λ m. m.1) laid) c.requires.body,
    )
