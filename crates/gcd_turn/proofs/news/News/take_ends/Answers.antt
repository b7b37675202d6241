use Rattle.std.proofs.Common.{◌∙◌, ◌∷◌, ◌++◌, List, [], ap, sym, arith, drop}
use Rattle.gcd_history.specs.History.{is_live_feed}
use Rattle.gcd_outer.specs.declared.tell.Tell.{Tell}
use Rattle.gcd_turn.specs.Turns.{end_of}
use Rattle.gcd_turn.proofs.NewsLemmas.{ends_next, ends_on}
use Rattle.gcd_turn.proofs.news.News.take_ends.Goals as goal

pub loop-src-preserved : goal.loop-src-preserved
loop-src-preserved c =
    let plan = c.args.plan.now in
    let next = c.in-Some.ensures in
    record {
      first = c.loop-src.invariant.first;
      few = omega (arith, c.push.ensures.len, c.loop-src.invariant.few, next.from);
      within = omega (arith, next.within);
      pieces = λ h stands.
          c.push.ensures.items
          ∙ ap (λ (ts : List Tell). ts ++ end_of c.in-Some.src.0 ∷ []) (c.loop-src.invariant.pieces h stands)
          ∙ sym (ends_next (is_live_feed plan h) c.loop-src.from c.in-Some.src.0 next.from (next.live h stands) (next.first h stands));
    }

pub returns : goal.returns
returns c = λ h stands.
    let plan = c.args.plan.now in
    ap (λ k. drop k c.loop-src.self-inside.pieces.items) c.loop-src.invariant.first
    ∙ c.loop-src.invariant.pieces h stands
    ∙ sym (ends_on (is_live_feed plan h) c.loop-src.from _ c.loop-src.invariant.within (c.in_default.ensures.none h stands))
