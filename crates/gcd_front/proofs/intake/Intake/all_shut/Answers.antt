use Rattle.std.proofs.Common.{refl, sym, ap, ◌∙◌, ◌+◌, subst}
use Rattle.gcd_front.specs.Fronts.{KnowsAccount}
use Rattle.gcd_front.proofs.Hearing.{no_more, more_again, one_more}
use Rattle.gcd_front.proofs.intake.Intake.all_shut.Goals as goal

pub loop-sender-init : goal.loop-sender-init
loop-sender-init g c = record {
  more = no_more c.args.self.now;
  heard = sym (ap (λ v. v.heard) c.self.view_is);
  opens = refl;
  known = λ s below. subst (KnowsAccount s) c.self.view_is (c.self.invariant.accounts s below);
}

pub loop-sender-preserved : goal.loop-sender-preserved
loop-sender-preserved g c = let was = c.loop-sender.invariant in let more = c.hear_next.ensures.more in let shut = c.hear_next.ensures.shut c.if-not-hear_next.false in let w = c.hear_next.new.self in record {
  more = more_again c.args.self.now c.loop-sender.self w was.more more;
  heard = shut.0 ∙ ap (λ n. n + 1) was.heard;
  opens = shut.1 ∙ was.opens;
  known = one_more c.loop-sender.self.known more.more w.known c.loop-sender._sender more.known was.known (subst (λ n. KnowsAccount n w) was.heard (c.hear_next.ensures.known c.if-not-hear_next.false));
}
