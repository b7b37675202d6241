use Rattle.std.proofs.Common.{◌∙◌, sym, subst}
use Rattle.gcd_turn.specs.Hearing.{Heard}
use Rattle.gcd_turn.specs.Turns.{OutlookView}
use Rattle.gcd_turn.proofs.HeardPolls.{heard_at_once, heard_empty, heard_poll}
use Rattle.gcd_turn.proofs.HeardSteps.{heard_same}
use Rattle.gcd_turn.proofs.outside.Outside.listen.Goals as goal

pub returns-in_err-poll-clause-heard : goal.returns-in_err-poll-clause-heard
returns-in_err-poll-clause-heard g c = λ stood placed before stands unhalted all tells hd.
    heard_same c.args.plan.now stood placed before (g.P.Poller.state c.args.self.now.poller.now) (g.P.Poller.state c.poll.new.self) c.args.self.now.outlook
    (record {
      feeds = λ s. record { watched = c.poll.ensures.watched s; at = c.poll.ensures.watched_at s tells };
      answers = c.in_err-poll.ensures.no_answer tells;
      watches = c.poll.ensures.watches tells;
    }) hd

pub returns-then-wait-eq0-clause-heard : goal.returns-then-wait-eq0-clause-heard
returns-then-wait-eq0-clause-heard g c = λ stood placed before stands unhalted all tells hd.
    subst (λ (o : OutlookView). Heard c.args.plan.now stood placed before (g.P.Poller.state c.poll.new.self) o) (sym c.hear.ensures)
    (heard_at_once c.args.plan.now stood placed before (g.P.Poller.state c.args.self.now.poller.now) (g.P.Poller.state c.poll.new.self) c.args.self.now.outlook
    c.poll_wait-wait.result c.poll.new.into c.requires.no_news c.if-wait-eq0.true
    (record {
      tells = c.in_ok-poll.ensures.told;
      answers = c.in_ok-poll.ensures.answers tells;
      watched = c.poll.ensures.watched;
      at = λ s. c.poll.ensures.watched_at s tells;
      watches = c.poll.ensures.watches tells;
    }) hd)

pub returns-then-is_empty_answer-clause-heard : goal.returns-then-is_empty_answer-clause-heard
returns-then-is_empty_answer-clause-heard g c = λ stood placed before stands unhalted all tells hd.
    heard_empty c.args.plan.now stood placed before (g.P.Poller.state c.args.self.now.poller.now) (g.P.Poller.state c.poll.new.self) c.args.self.now.outlook c.count_empty.new.self
    c.poll_wait-wait.result c.poll.new.into c.requires.no_news c.count_empty.ensures.few c.if-wait-eq0.false unhalted
    (sym c.is_empty_answer.ensures ∙ c.if-is_empty_answer.true) all (c.count_empty.ensures.counted _ stands)
    (record {
      tells = c.in_ok-poll.ensures.told;
      answers = c.in_ok-poll.ensures.answers tells;
      watched = c.poll.ensures.watched;
      at = λ s. c.poll.ensures.watched_at s tells;
      watches = c.poll.ensures.watches tells;
    }) hd

pub returns-clause-heard : goal.returns-clause-heard
returns-clause-heard g c = λ stood placed before stands unhalted all tells hd.
    subst (λ (o : OutlookView). Heard c.args.plan.now stood placed before (g.P.Poller.state c.poll.new.self) o) (sym c.hear-2.ensures)
    (heard_poll c.args.plan.now stood placed before (g.P.Poller.state c.args.self.now.poller.now) (g.P.Poller.state c.poll.new.self) c.args.self.now.outlook
    c.poll_wait-wait.result c.poll.new.into c.requires.no_news (sym c.is_empty_answer.ensures ∙ c.if-is_empty_answer.false)
    (record {
      tells = c.in_ok-poll.ensures.told;
      answers = c.in_ok-poll.ensures.answers tells;
      watched = c.poll.ensures.watched;
      at = λ s. c.poll.ensures.watched_at s tells;
      watches = c.poll.ensures.watches tells;
    }) hd)
