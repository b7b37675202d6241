use Rattle.std.proofs.Common.{◌≡◌, ◌∙◌, List, [], ◌∷◌, None, refl, subst, sym}
use Rattle.std.specs.Prelude.{slice_get}
use Rattle.gcd_outer.specs.Outside.{seen}
use Rattle.gcd_outer.specs.declared.tell.Tell.{Tell}
use Rattle.gcd_turn.specs.Asked.{AllWatched, HasNotFailed, IsAsked}
use Rattle.gcd_turn.proofs.LaterSteps.{asked_later}
use Rattle.gcd_turn.proofs.TimeLemmas.{on_ok}
use Rattle.gcd_turn.proofs.outside.Outside.ask.Goals as goal

nothing_first : (news : List Tell) → slice_get news 0 ≡ None → news ≡ []
nothing_first [] h = refl
nothing_first (t ∷ rest) h = cc

pub ask_on-requires-clause-no_news : goal.ask_on-requires-clause-no_news
ask_on-requires-clause-no_news g c =
    nothing_first c.args.self.now.outlook.news (sym c.first.ensures ∙ c.in_default.is)

pub ask_on-requires-clause-chosen : goal.ask_on-requires-clause-chosen
ask_on-requires-clause-chosen g c = λ h stands. sym (c.choose-chosen.ensures.choice c.args.plan.now h stands)

pub returns-then-intake_open-clause-asked : goal.returns-then-intake_open-clause-asked
returns-then-intake_open-clause-asked g c = λ h stands few.
    let no_error = sym c.is_err.ensures.value ∙ c.if-is_err.false in
    let p = g.P.Poller.state c.args.self.now.poller.now in let q = g.P.Poller.state c.watch_new.new.poller in (
      c.is_over.ensures.goes_on c.args.plan.now h stands c.if-is_over.false,
      record {
        intake = sym (c.intake_open.ensures c.args.plan.now h stands) ∙ c.if-intake_open.true;
        no_news = nothing_first c.args.self.now.outlook.news (sym c.first.ensures ∙ c.in_default.is);
        watched = on_ok (AllWatched c.args.plan.now h q) c.watch_new.result no_error (c.watch_new.ensures.watched h stands);
        choice = sym (c.choose-chosen.ensures.choice c.args.plan.now h stands);
      },
      on_ok (HasNotFailed p q) c.watch_new.result no_error c.watch_new.ensures.ok,
    )

pub returns-clause-asked : goal.returns-clause-asked
returns-clause-asked g c = λ h stands few.
    let no_error = sym c.is_err.ensures.value ∙ c.if-is_err.false in
    let p = g.P.Poller.state c.args.self.now.poller.now in let q = g.P.Poller.state c.watch_new.new.poller in
    let clock = seen g.C.Clock.tells g.C.Clock.state c.args.self.now.clock.now c.ask_on.new.self.clock.now in
    subst (λ (x : g.row.P.Denot). IsAsked c.args.most c.args.plan.now h c.args.self.now.outlook clock p (g.P.Poller.state x) c.ask_on.result)
    (sym c.ask_on.ensures.poller)
    (asked_later c.args.most c.args.plan.now h c.args.self.now.outlook clock p q c.ask_on.result
    (sym (c.intake_open.ensures c.args.plan.now h stands) ∙ c.if-intake_open.false)
    (c.ask_on.ensures.asked c.args.most h p q stands (c.is_over.ensures.goes_on c.args.plan.now h stands c.if-is_over.false)
    (on_ok (AllWatched c.args.plan.now h q) c.watch_new.result no_error (c.watch_new.ensures.watched h stands))
    (on_ok (HasNotFailed p q) c.watch_new.result no_error c.watch_new.ensures.ok)))
