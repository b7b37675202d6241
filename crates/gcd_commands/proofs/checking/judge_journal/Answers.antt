use Rattle.std.proofs.lemmas.Result.{IfOk-weaker}
use Rattle.gcd_commands.specs.Checks.IsJudged.{lawful, unlawful}
use Rattle.gcd_commands.proofs.Hands.{barred_judge, lawful_judge}
use Rattle.gcd_commands.proofs.checking.judge_journal.Goals as goal

pub returns-in-None-clause-judged : goal.returns-in-None-clause-judged
returns-in-None-clause-judged c =
    let taken = rw (c.deref.ensures.value, c.in-None.is) at c.judge.ensures in
    IfOk-weaker c.lawful.result _ _
    (λ s is. lawful c.state-state.result taken.0 (c.state-state.ensures c.args.plan c.args.journal.items taken.1) is) c.lawful.ensures.told

pub returns-in-None-clause-found : goal.returns-in-None-clause-found
returns-in-None-clause-found c =
    let taken = rw (c.deref.ensures.value, c.in-None.is) at c.judge.ensures in
    lawful_judge c.args.plan c.judge.new.machine c.args.journal.items c.state-state.result c.lawful.result taken.1 c.lawful.ensures.told c.lawful.ensures.found

pub returns-in-Some-clause-judged : goal.returns-in-Some-clause-judged
returns-in-Some-clause-judged c =
    let taken = rw (c.deref.ensures.value, c.in-Some.is) at c.judge.ensures in
    IfOk-weaker c.unlawful.result _ _ (λ s is. unlawful c.in-Some.index taken.0 is) c.unlawful.ensures.told

pub returns-in-Some-clause-found : goal.returns-in-Some-clause-found
returns-in-Some-clause-found c =
    let taken = rw (c.deref.ensures.value, c.in-Some.is) at c.judge.ensures in
    barred_judge c.args.plan c.judge.new.machine c.args.journal.items c.in-Some.index c.unlawful.result taken.1 c.unlawful.ensures.told c.unlawful.ensures.found
