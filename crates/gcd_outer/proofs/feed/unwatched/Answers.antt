use Rattle.std.proofs.Common.{refl}
use Rattle.std.proofs.lemmas.Result.{IfOk-weaker}
use Rattle.gcd_outer.specs.declared.limits.TheConstants.{MAX_FEEDS}
use Rattle.gcd_outer.specs.declared.feed.Feed.{Feed}
use Rattle.gcd_outer.proofs.FeedLemmas.{lookup-replicate}
use Rattle.gcd_outer.proofs.feed.unwatched.Goals as goal

pub returns-clause-watched : goal.returns-clause-watched
returns-clause-watched c =
    IfOk-weaker c.from_elem.result _ _
    (λ feeds made feed. rw (made (λ f same. same)) (lookup-replicate (λ (f : Feed). f.watched) _ _ refl MAX_FEEDS feed)) c.from_elem.ensures.items_if_clones_equal

pub returns-clause-ended : goal.returns-clause-ended
returns-clause-ended c =
    IfOk-weaker c.from_elem.result _ _
    (λ feeds made feed. rw (made (λ f same. same)) (lookup-replicate (λ (f : Feed). f.ended) _ _ refl MAX_FEEDS feed)) c.from_elem.ensures.items_if_clones_equal

pub returns-clause-watched_at : goal.returns-clause-watched_at
returns-clause-watched_at c =
    IfOk-weaker c.from_elem.result _ _
    (λ feeds made feed. rw (made (λ f same. same)) (lookup-replicate (λ (f : Feed). f.watched_at) _ _ refl MAX_FEEDS feed)) c.from_elem.ensures.items_if_clones_equal
