use Rattle.std.proofs.Common.{◌<◌, length, inl, inr}
use Rattle.std.proofs.lemmas.Bool.{both_ways, cases_lt}
use Rattle.gcd_plan.specs.Kinds.{is_read_kind}
use Rattle.gcd_plan.proofs.Within.{has_object}
use Rattle.gcd_turn.proofs.HistoryMore.{live_facts}
use Rattle.gcd_turn.proofs.steps.watch_new.Goals as goal

pub returns-clause-watched : goal.returns-clause-watched
returns-clause-watched g c = λ h stands s live.
    let low : s < length c.args.plan.now.objects = has_object is_read_kind c.args.plan.now s (live_facts c.args.plan.now h s live).reads in
    elim (cases_lt s c.loop-src.from) [
      | inl before ↦ c.loop-src.invariant.watched h stands s before live
      | inr later ↦ absurd (both_ways _ (c.in_default.ensures.none h stands s later low) live)
    ]
