use Rattle.std.proofs.Common.{sym, subst, ap, ◌≡◌, ◌+◌, ◌∙◌, ◌++◌, ◌∷◌, [], suc, ℕ, take}
use Rattle.gcd_event.specs.declared.event.Event.{Event}
use Rattle.gcd_row.specs.Ring.{lap}
use Rattle.gcd_row.specs.Passes.{view}
use Rattle.gcd_row.proofs.Ending.{event_at}
use Rattle.gcd_row.proofs.Passing.{fits_seen}
use Rattle.gcd_row.proofs.board.RowBoard.entry_at.Goals as goal

pub entry_of-requires : goal.entry_of-requires
entry_of-requires g c = let v = view c.args.pass.now in
    let a = event_at v.seen c.args.n (fits_seen _ _ c.args.self.now c.args.pass.now c.requires.pass) c.requires.place.1 in
    (a.event, a.fits, c.reread.ensures.word ∙ ap (λ (k : ℕ). k + lap c.args.n) a.word)

pub returns-clause-event : goal.returns-clause-event
returns-clause-event g c = let v = view c.args.pass.now in
    let a = event_at v.seen c.args.n (fits_seen _ _ c.args.self.now c.args.pass.now c.requires.pass) c.requires.place.1 in
    subst (λ (e : Event). take (suc c.args.n) v.seen ≡ take c.args.n v.seen ++ e ∷ []) (sym (c.entry_of.ensures a.event a.fits (c.reread.ensures.word ∙ ap (λ (k : ℕ). k + lap c.args.n) a.word))) a.next
