use Rattle.std.proofs.Common.{◌∙◌, refl}
use Rattle.gcd_rounds.proofs.rounds.advance.Goals as goal

pub returns-in_err-take_turn-clause-terms : goal.returns-in_err-take_turn-clause-terms
returns-in_err-take_turn-clause-terms g c = (c.take_turn.ensures.kept c.args.round.now (refl, refl)).0

pub returns-in_err-take_turn-clause-plan : goal.returns-in_err-take_turn-clause-plan
returns-in_err-take_turn-clause-plan g c = (c.take_turn.ensures.kept c.args.round.now (refl, refl)).1

pub returns-in-Next-clause-terms : goal.returns-in-Next-clause-terms
returns-in-Next-clause-terms g c = (c.take_turn.ensures.kept c.args.round.now (refl, refl)).0

pub returns-in-Over-clause-terms : goal.returns-in-Over-clause-terms
returns-in-Over-clause-terms g c = (c.take_turn.ensures.kept c.args.round.now (refl, refl)).0

pub returns-in_err-close_round-in-Stopped-clause-terms : goal.returns-in_err-close_round-in-Stopped-clause-terms
returns-in_err-close_round-in-Stopped-clause-terms g c = c.close_round.ensures.terms ∙ (c.take_turn.ensures.kept c.args.round.now (refl, refl)).0

pub returns-in_ok-close_round-in-Stopped-clause-terms : goal.returns-in_ok-close_round-in-Stopped-clause-terms
returns-in_ok-close_round-in-Stopped-clause-terms g c = c.close_round.ensures.terms ∙ (c.take_turn.ensures.kept c.args.round.now (refl, refl)).0
