use Rattle.std.proofs.Common.{◌++◌, ap, sym, ◌∙◌, refl}
use Rattle.crossbeam_queue.specs.Passes.{view}
use Rattle.gcd_front.specs.Queue.{told}
use Rattle.gcd_front.proofs.Hearing.{same_tables, is_intake_told, begins_so, all_of_it, all_still, only_it}
use Rattle.gcd_front.proofs.intake.Intake.settle.Goals as goal

pub invariant_of-self : goal.invariant_of-self
invariant_of-self g c = let tables = same_tables c.self.inside c.front.inside _ _ c.self.view_is c.front.view_is c.requires.intake in let heard = c.settle_pass.ensures.intake in
    is_intake_told c.self.inside _ (told (view c.left.inside.pass).shut) c.self.invariant refl refl (heard.0.0 ∙ sym tables.0) heard.0.1 heard.1

pub returns-clause-begins : goal.returns-clause-begins
returns-clause-begins g c = let heard = c.settle_pass.ensures.intake.1 in let v = view c.self.inside.pass in
    rw (← c.self.view_is, ← c.left.view_is) (begins_so v (view c.settle_pass.new.pass) _ (ap (λ u. u.shut) heard ∙ ap (λ u. v.shut ++ u.shut) c.left.invariant.told_of) (ap (λ u. u.taken) heard) c.settle_pass.ensures.taken)

pub returns-clause-all : goal.returns-clause-all
returns-clause-all g c = let heard = c.settle_pass.ensures.intake.1 in let v = view c.self.inside.pass in
    rw (← c.self.view_is, ← c.left.view_is) (all_of_it v (view c.settle_pass.new.pass) _ (ap (λ u. u.shut) heard ∙ ap (λ u. v.shut ++ u.shut) c.left.invariant.told_of) (ap (λ u. u.taken) heard) c.settle_pass.ensures.learnt.0 c.settle_pass.ensures.learnt.1)

pub returns-clause-still : goal.returns-clause-still
returns-clause-still g c = let heard = c.settle_pass.ensures.intake.1 in let v = view c.self.inside.pass in
    rw (← c.self.view_is, ← c.left.view_is) (all_still v (view c.settle_pass.new.pass) _ (ap (λ u. u.shut) heard ∙ ap (λ u. v.shut ++ u.shut) c.left.invariant.told_of) (ap (λ u. u.taken) heard) c.settle_pass.ensures.learnt.0 c.settle_pass.ensures.learnt.1)

pub returns-clause-only : goal.returns-clause-only
returns-clause-only g c = let heard = c.settle_pass.ensures.intake.1 in let v = view c.self.inside.pass in
    rw (← c.self.view_is, ← c.left.view_is) (only_it v (view c.settle_pass.new.pass) _ (ap (λ u. u.shut) heard ∙ ap (λ u. v.shut ++ u.shut) c.left.invariant.told_of) (ap (λ u. u.taken) heard) c.settle_pass.ensures.learnt.0 c.settle_pass.ensures.learnt.1)
