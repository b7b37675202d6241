use Rattle.std.proofs.Common.{rules, arith, ap, sym, ◌∙◌, ◌∷◌, Some}
use Rattle.atomic_table.specs.Table.{rest}
use Rattle.gcd_front.proofs.Noting.{looks, same_first, noted, in_any}
use Rattle.gcd_front.proofs.notes.take_note.Goals as goal

pub compare_exchange-found-requires : goal.compare_exchange-found-requires
compare_exchange-found-requires g c = let may = c.requires.intake in (search rules, omega arith, looks _ _ _ c.args.sender _ _ (search rules) (search rules) may.0 may.1 may.2)

pub exchange-requires : goal.exchange-requires
exchange-requires g c = let told = c.compare_exchange-found.ensures.2 c.args.sender (search rules) in let hit = (told.0 (search rules)).1 in
    (search rules, (Some hit.0, hit.1 ∙ ap (λ l. (c.args.sender, Some hit.0) ∷ l) (sym (ap rest hit.1))))

pub returns-clause-note : goal.returns-clause-note
returns-clause-note g c = let told = c.compare_exchange-found.ensures.2 c.args.sender (search rules) in let hit = (told.0 (search rules)).1 in
    noted _ _ _ _ (same_first c.args.sender _ _ _ _ (sym hit.1 ∙ c.exchange.ensures.2)) hit.2

pub returns-clause-heard : goal.returns-clause-heard
returns-clause-heard g c = let told = c.compare_exchange-found.ensures.2 c.args.sender (search rules) in
    in_any c.exchange.result (ap (λ m. m.0) c.exchange.ensures.3 ∙ (told.0 (search rules)).0)
