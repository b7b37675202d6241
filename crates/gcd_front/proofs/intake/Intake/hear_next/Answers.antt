use Rattle.std.proofs.Common.{◌+◌, ◌++◌, ◌∷◌, [], ap, sym, ◌∙◌, refl}
use Rattle.gcd_front.proofs.Hearing.{same_tables, has_slot, is_intake_next, learns_next, knows_next}
use Rattle.gcd_front.proofs.intake.Intake.hear_next.Goals as goal

pub invariant_of-self-in-Some : goal.invariant_of-self-in-Some
invariant_of-self-in-Some g c = let tables = same_tables c.self.inside c.front.inside _ _ c.self.view_is c.front.view_is c.requires.intake in
    is_intake_next c.self.inside _ c.in-Some.note _ c.self.invariant (has_slot c.self.inside c.front.inside _ _ c.self.view_is c.front.view_is c.requires.intake c.front.invariant c.requires.next)
    c.in-Some.ensures.table c.in-Some.ensures.heard (c.hear_note.ensures.intake.0.0 ∙ sym tables.0) c.hear_note.ensures.intake.0.1 c.hear_note.ensures.intake.1 refl c.in-Some.ensures.note

pub returns-in-None-clause-found_open : goal.returns-in-None-clause-found_open
returns-in-None-clause-found_open g c _ = record {
  sender = c.args.self.now.heard;
  of_front = c.requires.next;
  last = ap (λ u. u.opens) c.in-None.ensures.found_open ∙ λ i. (c.self.view_is i).opens ++ (c.self.view_is i).heard ∷ [];
}

pub returns-in-Some-clause-more : goal.returns-in-Some-clause-more
returns-in-Some-clause-more g c = let tables = same_tables c.self.inside c.front.inside _ _ c.self.view_is c.front.view_is c.requires.intake in
    rw (← c.self.view_is) (learns_next c.self.inside (record { pass = c.hear_note.new.pass; seat = c.take_note.new.seat; heard = c.self.inside.heard + 1 }) c.in-Some.note _ c.self.invariant (has_slot c.self.inside c.front.inside _ _ c.self.view_is c.front.view_is c.requires.intake c.front.invariant c.requires.next)
    c.in-Some.ensures.table c.in-Some.ensures.heard (c.hear_note.ensures.intake.0.0 ∙ sym tables.0) c.hear_note.ensures.intake.0.1 c.hear_note.ensures.intake.1 refl c.in-Some.ensures.note)

pub returns-in-Some-clause-known : goal.returns-in-Some-clause-known
returns-in-Some-clause-known g c _ = let tables = same_tables c.self.inside c.front.inside _ _ c.self.view_is c.front.view_is c.requires.intake in
    rw (← c.self.view_is) (knows_next c.self.inside (record { pass = c.hear_note.new.pass; seat = c.take_note.new.seat; heard = c.self.inside.heard + 1 }) c.in-Some.note _ c.self.invariant (has_slot c.self.inside c.front.inside _ _ c.self.view_is c.front.view_is c.requires.intake c.front.invariant c.requires.next)
    c.in-Some.ensures.table c.in-Some.ensures.heard (c.hear_note.ensures.intake.0.0 ∙ sym tables.0) c.hear_note.ensures.intake.0.1 c.hear_note.ensures.intake.1 refl c.in-Some.ensures.note)
