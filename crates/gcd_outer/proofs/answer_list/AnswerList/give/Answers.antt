use Rattle.std.proofs.Common.{◌≡◌, [], arith}
use Rattle.gcd_outer.proofs.AnswerLemmas.{left-written, left-passed, left-none, given-empty}
use Rattle.gcd_outer.proofs.answer_list.AnswerList.give.Goals as goal

pub returns-then-kept-clause-left : goal.returns-then-kept-clause-left
returns-then-kept-clause-left c =
    rw (← c.self.view_is) (left-written c.self.inside.answers.items c.self.inside.next c.self.inside.kept _ (omega arith))

pub returns-else-kept-clause-left : goal.returns-else-kept-clause-left
returns-else-kept-clause-left c = rw (← c.self.view_is) (left-passed c.self.inside.answers.items c.self.inside.next)

pub returns-then-kept-2-clause-given : goal.returns-then-kept-2-clause-given
returns-then-kept-2-clause-given c =
    let none : c.args.told.now ≡ [] = c.requires.none (rw (← c.self.view_is) (left-none c.self.inside.answers.items c.self.inside.next (omega arith))) in
    rw (c.if-kept-2.true, none, ← c.self.view_is) (given-empty c.self.inside.answers.items c.self.inside.kept c.self.inside.given (omega arith))
