use Rattle.std.proofs.Common.{◌∙◌, sym, subst, List}
use Rattle.gcd_rounds.specs.declared.kept.Kept.{Kept}
use Rattle.gcd_rounds.specs.Kept.{EndBefore, endings_of}
use Rattle.gcd_rounds.proofs.Grown.{grows_through}
use Rattle.gcd_rounds.proofs.turns.take_turn.Goals as goal

pub loop-preserved : goal.loop-preserved
loop-preserved g c =
    let was = c.loop.invariant in
    record {
      terms = c.choose.ensures.terms ∙ was.terms;
      run = c.in_ok-choose.ensures.run;
      ready = c.in_ok-choose.ensures.ready;
      jobs = c.in_ok-choose.ensures.jobs;
      before = subst (λ (kept : List (Kept _)). EndBefore c.args.worker (endings_of kept)) (sym (c.in_ok-choose.ensures.going (cc))) was.before;
      grows = grows_through c.args.run.now.journal.items c.loop.run.journal.items c.choose.new.run.journal.items was.grows c.in_ok-choose.ensures.grows;
    }
