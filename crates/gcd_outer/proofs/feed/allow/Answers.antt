use Rattle.std.proofs.Common.{◌∙◌, ℕ, Bool, List, false, get_or, take, ap, sym, arith, length-append}
use Rattle.std.proofs.lemmas.List.{take_more}
use Rattle.gcd_outer.specs.declared.tell.Tell.{Tell}
use Rattle.gcd_outer.specs.Feeds.{watched_in, ended_in}
use Rattle.gcd_outer.specs.Tells.{given_of, ended_by}
use Rattle.gcd_outer.proofs.TellLemmas.{allowed_more, ended_by-same, ended_by-append-list, length-given_of}
use Rattle.gcd_outer.proofs.feed.allow.Goals as goal

pub loop-tell-preserved : goal.loop-tell-preserved
loop-tell-preserved c =
    let blank : Tell = record { feed = 0; bytes = 0; ended = false } in
    let tell : Tell = get_or c.as_slice-tell-items.result.now c.loop-tell.tell-index blank in
    let given : List Tell = given_of (watched_in c.loop-tell.feeds) (ended_in c.loop-tell.feeds) tell in
    record {
      told =
          rw (take_more c.as_slice-tell-items.result.now c.loop-tell.tell-index blank c.loop-tell-test.true)
          (c.allow_one.ensures.told
          ∙ allowed_more (watched_in c.args.feeds.now) (ended_in c.args.feeds.now) (watched_in c.loop-tell.feeds) (ended_in c.loop-tell.feeds) (take c.loop-tell.tell-index c.as_slice-tell-items.result.now) c.loop-tell.into tell c.loop-tell.invariant.told (c.loop-tell.invariant.watched tell.feed) (c.loop-tell.invariant.ended tell.feed));
      few = rw (c.allow_one.ensures.told, length-append) (omega (arith, length-given_of (watched_in c.loop-tell.feeds) (ended_in c.loop-tell.feeds) tell));
      ended = λ feed.
          c.allow_one.ensures.ended feed ∙ ended_by-same _ _ c.loop-tell.invariant.ended given feed
          ∙ ap (λ (e : ℕ → Bool). e feed) (sym (ended_by-append-list (ended_in c.args.feeds.now) c.loop-tell.into given))
          ∙ ap (λ (ts : List Tell). ended_by (ended_in c.args.feeds.now) ts feed) (sym c.allow_one.ensures.told);
      watched = λ feed. c.allow_one.ensures.watched feed ∙ c.loop-tell.invariant.watched feed;
      watched_at = λ feed. c.allow_one.ensures.watched_at feed ∙ c.loop-tell.invariant.watched_at feed;
    }
