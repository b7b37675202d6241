use Rattle.std.proofs.Common.{rules, arith, ap, refl, ◌∙◌}
use Rattle.gcd_row.specs.Views.{hearing}
use Rattle.gcd_row.specs.Passes.{view}
use Rattle.gcd_row.proofs.Keeping.{notes, hears}
use Rattle.gcd_row.proofs.Merging.{same_pass}
use Rattle.gcd_row.proofs.board.RowBoard.tell.Goals as goal

pub split_seat-note-requires : goal.split_seat-note-requires
split_seat-note-requires g c = (search rules, omega (arith, c.args.self.now.sized), notes _ _ c.args.self.now.table.shared.key _ _)

pub join_seat-requires : goal.join_seat-requires
join_seat-requires g c = let is = c.split_seat-note.ensures.4 in
    (search rules, search rules, search rules, omega (arith, c.args.self.now.sized), hears _ _ c.args.self.now.table.shared.key _ _ _ _ c.requires.pass.may_read (ap (λ m. m.0.spent) is))

pub returns-clause-pass : goal.returns-clause-pass
returns-clause-pass g c = let me = c.join_seat.ensures.2 in
    (same_pass _ _ c.args.self.now c.args.pass.now _ _ _ c.requires.pass c.join_seat.ensures.0 refl refl (ap (λ x. x.1) me) refl refl refl refl (ap (λ x. x.0) me ∙ ap (hearing (view c.args.pass.now)) (ap (λ x. x.0) c.split_seat-note.ensures.4)), ap (λ x. x.1) me)

pub returns-clause-other : goal.returns-clause-other
returns-clause-other g c = let me = c.split_seat-note.ensures.2 in
    (same_pass _ _ c.args.self.now c.args.other.now _ _ _ c.requires.other c.split_seat-note.ensures.0 refl refl (ap (λ x. x.1) me) refl refl refl refl (ap (λ x. x.0) me), ap (λ x. x.1) me)
