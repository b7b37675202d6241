use Rattle.std.proofs.Common.{rules, arith, ap, ◌∙◌, [], ◌∷◌, ◌+◌, None}
use Rattle.gcd_front.proofs.Noting.{makes, parts}
use Rattle.gcd_front.specs.Notes.{sight, handed_over, relieved}
use Rattle.gcd_front.proofs.notes.make_sender.Goals as goal

pub store-requires : goal.store-requires
store-requires g c = let was = c.requires.intake in (search rules, omega arith, makes _ _ _ c.args.sender _ _ (search rules) (search rules) (ap (λ m. m.0.listens) was) (ap (λ m. m.0.next) was) (ap (λ m. m.0.sender) was))

pub split_seat-intake-requires : goal.split_seat-intake-requires
split_seat-intake-requires g c = let told = c.store.ensures.2 c.args.sender (search rules) in (search rules, omega arith, parts _ _ _ (ap (λ v. v.listens) told.0 ∙ ap (λ m. m.0.listens) c.requires.intake))

pub returns-clause-intake : goal.returns-clause-intake
returns-clause-intake g c = let told = c.store.ensures.2 c.args.sender (search rules) in let was = c.requires.intake in
    c.split_seat-intake.ensures.4 ∙ (λ i. (relieved (told.0 i), [])) ∙ λ i. (sight c.args.seat.me.0.queue ((was i).0.listens) (c.args.sender + 1) ((was i).0.heard) ((was i).0.opens) None, [])

pub returns-clause-mouth : goal.returns-clause-mouth
returns-clause-mouth g c = let told = c.store.ensures.2 c.args.sender (search rules) in let was = c.requires.intake in
    c.split_seat-intake.ensures.2 ∙ λ i. (handed_over (told.0 i), (told.1 ∙ ap (λ m. (c.args.sender, None) ∷ m.1) was) i)
