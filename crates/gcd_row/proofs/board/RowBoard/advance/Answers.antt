use Rattle.std.proofs.Common.{arith, refl, sym, subst, ap, length, None, ◌<◌, ◌≡◌, ◌∙◌, ◌+◌, ◌++◌, ◌∷◌, [], ℕ}
use Rattle.gcd_event.specs.declared.event.Event.{Event}
use Rattle.gcd_event.specs.Words.{word_of}
use Rattle.gcd_machine.specs.Stands.{StandsFor}
use Rattle.gcd_row.specs.Ring.{lap}
use Rattle.gcd_row.specs.Passes.{view}
use Rattle.gcd_row.proofs.Passing.{sees_another}
use Rattle.gcd_row.proofs.board.RowBoard.advance.Goals as goal

pub returns-then-is_news-clause-pass : goal.returns-then-is_news-clause-pass
returns-then-is_news-clause-pass g c =
    let f = c.read-word.ensures.news (sym c.is_news.ensures ∙ c.if-is_news.true) in
    let v = view c.args.pass.now in
    let same = c.event_of.ensures f.0 f.1 (f.2 ∙ ap (λ (k : ℕ). word_of f.0 + lap k) (sym c.requires.place.0)) in
    sees_another _ _ c.args.self.now c.args.pass.now _ f.0 c.requires.pass f.3 (subst (λ t. length v.seen < t.limits.most) (sym c.requires.pass.terms) (omega (arith, c.requires.place))) (c.read-word.ensures.board.0) (record { number = refl; passed = refl; floor = refl; upto = refl; beneath = refl }) c.read-word.ensures.board.1
    (subst (λ (e : Event). StandsFor c.apply.new.self v.terms.plan (v.seen ++ e ∷ [])) same (c.apply.ensures.stands _ _ c.requires.pass.stands (subst (λ (e : Event). Rattle.gcd_history.specs.History.why v.terms.plan v.seen e ≡ None) (sym same) f.3.may)))
