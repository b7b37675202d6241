use Rattle.gcd_outer.specs.Answers.{first_of}
use Rattle.gcd_outer.specs.Feeds.{watched_in, ended_in}
use Rattle.gcd_outer.proofs.TellLemmas.{are_tells-allowed_of}
use Rattle.gcd_outer.proofs.list_poller.ListPollerPoller.poll.Goals as goal

pub returns-clause-told : goal.returns-clause-told
returns-clause-told c =
    rw (c.give_next.ensures.told, c.deref_mut.ensures.value)
    (are_tells-allowed_of (watched_in c.args.self.now.feeds.items) (ended_in c.args.self.now.feeds.items) (first_of c.args.self.now.answers.left))
