use Rattle.std.proofs.Common.{◌∙◌, sym}
use Rattle.gcd_turn.proofs.HeardSteps.{heard_same, heard_watch}
use Rattle.gcd_turn.proofs.steps.watch_one.Goals as goal

pub returns-in_err-watch-clause-heard : goal.returns-in_err-watch-clause-heard
returns-in_err-watch-clause-heard g c = λ stood placed before o stands tells hd.
    heard_same c.args.plan.now stood placed before (g.P.Poller.state c.args.poller.now) (g.P.Poller.state c.watch.new.self) o
    (record {
      feeds = λ s. record { watched = c.in_err-watch.ensures.unwatched s; at = c.in_err-watch.ensures.no_at tells s };
      answers = c.watch.ensures.answers tells;
      watches = c.in_err-watch.ensures.no_path tells;
    }) hd

pub returns-clause-heard : goal.returns-clause-heard
returns-clause-heard g c = λ stood placed before o stands tells hd.
    heard_watch c.args.plan.now stood placed before (g.P.Poller.state c.args.poller.now) (g.P.Poller.state c.watch.new.self) o c.args.src.0 c.path_of.result.now
    (sym c.is_watched.ensures ∙ c.if-is_watched.false)
    (c.requires.live _ stands)
    c.path_of.ensures
    (record {
      watched = c.in_ok-watch.ensures.watches_it;
      at = c.in_ok-watch.ensures.at tells;
      others = λ s other. record { watched = c.watch.ensures.others s other; at = c.watch.ensures.others_at s tells other };
      answers = c.watch.ensures.answers tells;
      watches = c.in_ok-watch.ensures.path tells;
    }) hd
