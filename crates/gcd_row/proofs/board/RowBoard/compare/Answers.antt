use Rattle.std.proofs.Common.{rules, arith, refl, ap}
use Rattle.gcd_row.proofs.Keeping.{compares}
use Rattle.gcd_row.proofs.Merging.{same_pass}
use Rattle.gcd_row.proofs.board.RowBoard.compare.Goals as goal

pub load-requires : goal.load-requires
load-requires g c = (search rules, omega (arith, c.args.self.now.sized), compares _ _ c.args.self.now.table.shared.key _ _ _ _ c.requires.may_read)

pub returns-clause-pass : goal.returns-clause-pass
returns-clause-pass g c = let m = c.load.ensures.2.0 in
    (same_pass _ _ c.args.self.now c.args.pass.now _ _ _ c.requires c.load.ensures.0 refl refl (ap (λ x. x.1) m) refl refl refl refl (ap (λ x. x.0) m), ap (λ x. x.1) m)
