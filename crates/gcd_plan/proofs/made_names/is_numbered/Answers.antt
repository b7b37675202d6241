use Rattle.std.proofs.Common.{◌≡◌, ◌∷◌, sym, ◌∙◌, decimal}
use Rattle.std.proofs.lemmas.Bool.{both_ways}
use Rattle.std.proofs.lemmas.Slice.Eq.{bytes_eq-Decides}
use Rattle.gcd_plan.proofs.MadeBlocks.{joined_from, front_from, back_from}
use Rattle.gcd_plan.proofs.made_names.is_numbered.Goals as goal

pub returns-then-eq : goal.returns-then-eq
returns-then-eq c =
    let at = c.in-Some.ensures.cases in
    let before = c.in-Some.before.now in
    let after = c.in-Some.after.now in
    let tail = c.args.mark ∷ decimal c.args.n in
    let same : before ≡ c.args.front.now = (bytes_eq-Decides before c.args.front.now).0 (sym c.eq.ensures ∙ c.if-eq.true) in (
      λ yes. joined_from c.args.word.now c.args.front.now tail before after at.1 at.2 same (c.is_marked.ensures.0 yes),
      λ is. c.is_marked.ensures.1 (at.2 ∙ back_from c.args.word.now c.args.front.now tail is),
    )

pub returns-else-eq : goal.returns-else-eq
returns-else-eq c =
    let at = c.in-Some.ensures.cases in
    let before = c.in-Some.before.now in
    let tail = c.args.mark ∷ decimal c.args.n in (
      λ yes. absurd (both_ways c.eq.result c.if-eq.false yes),
      λ is. c.eq.ensures ∙ (bytes_eq-Decides before c.args.front.now).1 (at.1 ∙ front_from c.args.word.now c.args.front.now tail is),
    )
