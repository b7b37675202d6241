use Rattle.std.proofs.Common.{ℕ, List, Bor, map, inl, inr, sym, arith}
use Rattle.std.proofs.lemmas.Bool.{ltb-true, ltb-false, leb-true, leb-false}
use Rattle.std.proofs.lemmas.List.{length-map}
use Rattle.gcd_plan.specs.PlanView.{view_of}
use Rattle.gcd_script.proofs.Others.{source_other}
use Rattle.gcd_script.proofs.draft.Draft.source_line.Goals as goal
use Rattle.gcd_script.proofs.draft.Draft.source_line.Goals.{in_default-via-then-words-lt4, in_default-via-else-words-lt4+else-words-lt5+else-words-lt6+else-words-lt7}

pub returns-in_default : goal.returns-in_default
returns-in_default c =
    let words = c.args.words.now in
    let count = length-map words (λ (w : Bor (List ℕ)). w.now) in
    sym (source_other (view_of c.args.self.now.plan.parts) (map (λ (w : Bor (List ℕ)). w.now) words)
    (elim c.in_default.branch [
      | in_default-via-then-words-lt4 w ↦ inl (omega (arith, ltb-true, ltb-false, leb-true, leb-false))
      | in_default-via-else-words-lt4+else-words-lt5+else-words-lt6+else-words-lt7 w ↦ inr (omega (arith, ltb-true, ltb-false, leb-true, leb-false))
    ]))
