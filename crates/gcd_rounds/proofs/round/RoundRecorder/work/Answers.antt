use Rattle.std.proofs.Common.{◌≡◌, ◌+◌, ◌∙◌, ℕ, Ok, ap, subst}
use Rattle.gcd_history.proofs.Public.Laws.{choice_is_permitted}
use Rattle.gcd_loop.proofs.Events.{work_accepts_none}
use Rattle.gcd_loop.proofs.Steps.{grown}
use Rattle.gcd_loop.specs.Recorded.{IsSight}
use Rattle.gcd_rounds.specs.Kept.{EndBefore, endings_of}
use Rattle.gcd_rounds.specs.Running.{run_sight}
use Rattle.gcd_rounds.proofs.round.RoundRecorder.work.Goals as goal

pub follow-requires-clause-next : goal.follow-requires-clause-next
follow-requires-clause-next g c =
    let choice = choice_is_permitted c.args.self.now.plan.now c.args.self.now.run.journal.items 0 0 c.args.e c.requires.chosen in
    record {
      permitted = choice.permitted;
      room = c.requires.room.room;
      below = rw choice.by c.requires.ready.run.some;
      chosen = λ one work. c.requires.chosen;
      no_job = work_accepts_none c.args.e choice.work;
    }

pub follow-requires-clause-work : goal.follow-requires-clause-work
follow-requires-clause-work g c = (choice_is_permitted c.args.self.now.plan.now c.args.self.now.run.journal.items 0 0 c.args.e c.requires.chosen).work

pub returns-then-branch-clause-grown : goal.returns-then-branch-clause-grown
returns-then-branch-clause-grown g c =
    let most = c.args.self.now.run.terms.most in let plan = c.args.self.now.plan.now in let r = c.follow.new.run in
    let limit : r.terms.most ≡ most = ap (λ t. t.most) c.follow.ensures.terms in
    grown most plan c.args.self.now.run.journal.items r.journal.items r.machine
    (subst (λ (n : ℕ). IsSight n plan r.journal.items r.machine) limit (run_sight g.H.Handler.kind g.H.Handler.times g.H.Handler.total plan r c.in_ok-follow.ensures.run)) c.in_ok-follow.ensures.grows

pub returns-clause-grown : goal.returns-clause-grown
returns-clause-grown g c =
    let most = c.args.self.now.run.terms.most in let plan = c.args.self.now.plan.now in let r = c.follow.new.run in
    let limit : r.terms.most ≡ most = ap (λ t. t.most) c.follow.ensures.terms in
    grown most plan c.args.self.now.run.journal.items r.journal.items r.machine
    (subst (λ (n : ℕ). IsSight n plan r.journal.items r.machine) limit (run_sight g.H.Handler.kind g.H.Handler.times g.H.Handler.total plan r c.in_ok-follow.ensures.run)) c.in_ok-follow.ensures.grows

pub returns-clause-after : goal.returns-clause-after
returns-clause-after g c =
    let choice = choice_is_permitted c.args.self.now.plan.now c.args.self.now.run.journal.items 0 0 c.args.e c.requires.chosen in (
      record {
        run = c.in_ok-follow.ensures.run;
        ready = c.in_ok-follow.ensures.ready;
        jobs = c.in_ok-follow.ensures.jobs;
        before = subst (λ (w : ℕ). EndBefore (w + 1) (endings_of c.follow.new.kept.items)) choice.by c.in_ok-follow.ensures.before;
      },
      ap (λ v. v.items) (c.follow.ensures.stopped (c.in_ok-follow.was ∙ ap Ok c.if-branch.false)),
    )
