use Rattle.std.proofs.Common.{◌≡◌, ◌∙◌, ◌∷◌, ◌++◌, [], length, map, ap, sym, arith}
use Rattle.std.specs.List.{range_with_len}
use Rattle.gcd_machine.proofs.Views.Calls.{plan_stands}
use Rattle.gcd_timeline.specs.Standings.{standing_of}
use Rattle.gcd_timeline.proofs.BlockCases.{map_more}
use Rattle.gcd_timeline.proofs.standing.standings_by.Goals as goal

pub loop-b-preserved : goal.loop-b-preserved
loop-b-preserved c = λ plan h stands.
    c.in_ok-push.ensures.items
    ∙ ap (λ xs. xs ++ c.standing_after.result ∷ []) (c.loop-b.invariant plan h stands)
    ∙ ap (λ s. map (standing_of plan h) (range_with_len 0 c.loop-b.b) ++ s ∷ []) (c.standing_after.ensures plan h stands)
    ∙ sym (map_more (standing_of plan h) c.loop-b.b)

pub returns : goal.returns
returns c = λ plan h stands.
    let own = ap (λ p. length p.blocks) (plan_stands c.args.machine.now plan h stands) in
    let all : c.loop-b.b ≡ length plan.blocks = omega arith in
    c.loop-b.invariant plan h stands ∙ ap (λ n. map (standing_of plan h) (range_with_len 0 n)) all
