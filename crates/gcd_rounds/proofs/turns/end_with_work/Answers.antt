use Rattle.std.proofs.Common.{◌≡◌, ◌∙◌, true, subst, sym}
use Rattle.std.proofs.lemmas.Bool.{both_ways, eqb-true}
use Rattle.gcd_history.specs.History.{is_block_cancelled}
use Rattle.gcd_history.specs.Runs.{ends}
use Rattle.gcd_history.proofs.Blocks.StartedOnce.{ends_none}
use Rattle.gcd_rounds.proofs.turns.end_with_work.Goals as goal

pub returns-in_default-clause-none : goal.returns-in_default-clause-none
returns-in_default-clause-none c = λ plan h stands b now.
    absurd (both_ways (ends b c.args.e) (ends_none c.args.e c.in_default.not-End b) now)

pub returns-then-is_cancelled-clause-none : goal.returns-then-is_cancelled-clause-none
returns-then-is_cancelled-clause-none c = λ plan h stands b now.
    let same : c.in-End.blk.0 ≡ b = eqb-true c.in-End.blk.0 b (rw c.in-End.is at now) in
    subst (λ k. is_block_cancelled plan h k ≡ true) same (sym (c.is_cancelled.ensures plan h stands) ∙ c.if-is_cancelled.true)
