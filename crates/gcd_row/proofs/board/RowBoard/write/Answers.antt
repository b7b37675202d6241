use Rattle.std.proofs.Common.{arith, ap, ◌∙◌, ◌+◌, ℕ, subst, sym}
use mathlib.Core.Option.{none}
use Rattle.gcd_history.proofs.Permitted.Fitting.{permitted_fits}
use Rattle.gcd_event.specs.Words.{word_of}
use Rattle.gcd_row.specs.Ring.{IsWord, lap}
use Rattle.gcd_row.proofs.RowWords.{event_word}
use Rattle.gcd_row.proofs.Keeping.{tries}
use Rattle.gcd_row.proofs.board.RowBoard.write.Goals as goal

pub to_word-requires : goal.to_word-requires
to_word-requires g c = permitted_fits _ _ _ c.requires.valid c.requires.event.1

pub lapped-new-requires : goal.lapped-new-requires
lapped-new-requires g c = subst IsWord (sym c.to_word.ensures.exact) (event_word c.args.e (permitted_fits _ _ _ c.requires.valid c.requires.event.1))

pub exchange_word-requires-clause-word : goal.exchange_word-requires-clause-word
exchange_word-requires-clause-word g c = omega (arith, c.args.self.now.sized, c.cell_of.ensures)

pub exchange_word-requires-clause-keeps : goal.exchange_word-requires-clause-keeps
exchange_word-requires-clause-keeps g c =
    tries _ _ c.args.self.now.table.shared.key _ _ _ _ c.args.e _ _ none c.requires.may (omega (arith, c.requires.place, c.cell_of.ensures)) (omega (arith, c.requires.place)) c.requires.event.0 c.requires.event.1 c.requires.slot c.requires.back c.requires.old
    (c.lapped-new.ensures ∙ ap (λ (k : ℕ). k + lap c.args.n) c.to_word.ensures.exact ∙ ap (λ (k : ℕ). word_of c.args.e + lap k) c.requires.place.0) c.requires.pair.0 (omega (arith, c.requires.place, c.requires.pair))

pub returns-clause-won : goal.returns-clause-won
returns-clause-won g c = λ hit. c.exchange_word.ensures.found.0 hit c.args.e (permitted_fits _ _ _ c.requires.valid c.requires.event.1) (c.lapped-new.ensures ∙ ap (λ (k : ℕ). k + lap c.args.n) c.to_word.ensures.exact ∙ ap (λ (k : ℕ). word_of c.args.e + lap k) c.requires.place.0)
